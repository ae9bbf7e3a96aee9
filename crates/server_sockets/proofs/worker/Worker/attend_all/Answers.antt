use Rattle.server_sockets.proofs.WorkLemmas.{works_same, works_then}
use Rattle.server_sockets.proofs.worker.Worker.attend_all.Goals as goal

pub loop-number-init : goal.loop-number-init
loop-number-init g c = works_same g.B.Backend.gives g.B.Backend.copies c.args.self.now c.args.backend.now

pub loop-number-preserved : goal.loop-number-preserved
loop-number-preserved g c =
    works_then g.B.Backend.gives g.B.Backend.copies c.args.self.now c.loop-number.self c.attend.new.self c.args.backend.now c.loop-number.backend c.attend.new.backend
    c.loop-number.invariant c.attend.ensures
