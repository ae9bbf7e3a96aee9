use Rattle.server_sockets.proofs.ShowsLemmas.{shows_entered}
use Rattle.server_sockets.proofs.sockets.SocketsRing.accept.Goals as goal

pub returns-in-Ok-clause-came : goal.returns-in-Ok-clause-came
returns-in-Ok-clause-came c = λ old shown.
    let entered = c.in-Ok.ensures.entered in
    shows_entered c.in-Ok.number c.args.self.now.next c.enter.new.self.next old shown entered.0 entered.1 entered.2
