use Rattle.server_sockets.proofs.WorkLemmas.{works_same, works_then}
use Rattle.server_sockets.proofs.worker.Worker.attend_called.Goals as goal

pub loop-init : goal.loop-init
loop-init g c = works_same g.B.Backend.gives g.B.Backend.copies c.args.self.now c.args.backend.now

pub loop-preserved : goal.loop-preserved
loop-preserved g c =
    works_then g.B.Backend.gives g.B.Backend.copies c.args.self.now c.loop.self c.attend_next.new.self c.args.backend.now c.loop.backend c.attend_next.new.backend
    c.loop.invariant c.attend_next.ensures

pub returns-in-None : goal.returns-in-None
returns-in-None g c =
    works_then g.B.Backend.gives g.B.Backend.copies c.args.self.now c.loop.self c.attend_next.new.self c.args.backend.now c.loop.backend c.attend_next.new.backend
    c.loop.invariant c.attend_next.ensures
