use Rattle.std.proofs.Common.{◌∙◌, refl}
use Rattle.http_connections.specs.Sockets.{after_accept}
use Rattle.http_connections.proofs.ClientLemmas.{shows_altered}
use Rattle.http_connections.proofs.clients.ClientsRing.accept.Goals as goal

pub returns-then-accept_at-clause-came : goal.returns-then-accept_at-clause-came
returns-then-accept_at-clause-came c = λ old shown.
    let came = c.accept_at.ensures.yes c.if-accept_at.true in
    let on = shows_altered c.args.self.now.taken after_accept c.args.self.now.clients.items c.accept_at.new.clients.items old came.3 (λ none t. refl) shown in
    (on.0, on.1, (shown.each c.args.self.now.taken came.0 came.1 ∙ came.2, on.2))
