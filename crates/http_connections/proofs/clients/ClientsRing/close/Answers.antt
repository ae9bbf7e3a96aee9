use Rattle.std.proofs.Common.{refl}
use Rattle.http_connections.proofs.ClientLemmas.{shows_altered}
use Rattle.http_connections.proofs.clients.ClientsRing.close.Goals as goal

pub returns : goal.returns
returns c = λ old shown. shows_altered c.args.number _ c.args.self.now.clients.items c.close_at.new.clients.items old c.close_at.ensures (λ none t. refl) shown
