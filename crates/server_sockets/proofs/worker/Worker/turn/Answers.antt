use Rattle.std.proofs.Common.{refl}
use Rattle.server_sockets.specs.declared.worker.Worker.{Worker}
use Rattle.server_sockets.proofs.WorkLemmas.{stays_same, stays_then, works_then, works_stays}
use Rattle.server_sockets.proofs.worker.Worker.turn.Goals as goal

pub returns : goal.returns
returns g c =
    let gives = g.B.Backend.gives in
    let copies = g.B.Backend.copies in
    let from = c.args.backend.now in
    let obeyed = stays_same c.args.self.now (record c.args.self.now { sockets = c.obey.new.self }) refl c.obey.ensures.next in
    let before = stays_then c.args.self.now c.wait.new.self c.seat.new.self
    (stays_then c.args.self.now (record c.args.self.now { sockets = c.obey.new.self }) c.wait.new.self obeyed c.wait.ensures) c.seat.ensures in
    let first = works_stays gives copies c.args.self.now c.seat.new.self from before in
    let reported = works_then gives copies c.args.self.now c.seat.new.self c.attend_reported.new.self from from c.attend_reported.new.backend first c.attend_reported.ensures in
    let held = works_then gives copies c.args.self.now c.attend_reported.new.self c.attend_held.new.self from c.attend_reported.new.backend c.attend_held.new.backend reported c.attend_held.ensures in
    let called = works_then gives copies c.args.self.now c.attend_held.new.self c.attend_called.new.self from c.attend_held.new.backend c.attend_called.new.backend held c.attend_called.ensures in
    let stopped = works_then gives copies c.args.self.now c.attend_called.new.self c.stop.new.self from c.attend_called.new.backend c.stop.new.backend called c.stop.ensures in
    let drained = stays_same c.stop.new.self (record c.stop.new.self { sockets = c.end_draining.new.self }) refl c.end_draining.ensures.next in
    let swept = stays_then c.stop.new.self (record c.stop.new.self { sockets = c.end_draining.new.self }) c.give_up_overdue.new.self drained c.give_up_overdue.ensures in
    let relieved = stays_then c.stop.new.self c.give_up_overdue.new.self c.relieve.new.self swept c.relieve.ensures in
    let last : Worker = record c.relieve.new.self { sockets = c.take_lacks.new.self } in
    let after = stays_then c.stop.new.self c.relieve.new.self last relieved (stays_same c.relieve.new.self last refl c.take_lacks.ensures.next) in
    works_then gives copies c.args.self.now c.stop.new.self last from c.stop.new.backend c.stop.new.backend stopped (works_stays gives copies c.stop.new.self last c.stop.new.backend after)
