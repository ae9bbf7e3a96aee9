use Rattle.std.proofs.Common.{Ok}
use Rattle.http_connections.proofs.ClientLemmas.{call_quiet, shows_altered}
use Rattle.http_connections.proofs.clients.ClientsRing.call_again.Goals as goal

pub returns : goal.returns
returns c = λ old shown. shows_altered c.args.number _ c.args.self.now.clients.items c.call_at.new.clients.items old c.call_at.ensures (λ none t. call_quiet (Ok tt) t) shown
