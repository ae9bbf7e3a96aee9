use Rattle.server_sockets.proofs.WorkLemmas.{works_same}
use Rattle.server_sockets.proofs.worker.Worker.stop.Goals as goal

pub returns-then-is_some : goal.returns-then-is_some
returns-then-is_some g c = works_same g.B.Backend.gives g.B.Backend.copies c.args.self.now c.args.backend.now
