use Rattle.server_sockets.proofs.WorkLemmas.{works_same, works_then}
use Rattle.server_sockets.proofs.worker.Worker.attend_each.Goals as goal

pub loop-init : goal.loop-init
loop-init g c = works_same g.B.Backend.gives g.B.Backend.copies c.args.self.now c.args.backend.now

pub loop-preserved : goal.loop-preserved
loop-preserved g c =
    works_then g.B.Backend.gives g.B.Backend.copies c.args.self.now c.loop.self c.attend.new.self c.args.backend.now c.loop.backend c.attend.new.backend
    c.loop.invariant c.attend.ensures
