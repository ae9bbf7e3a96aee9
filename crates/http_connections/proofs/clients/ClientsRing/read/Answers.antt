use Rattle.http_connections.proofs.ClientLemmas.{shows_altered}
use Rattle.http_connections.proofs.clients.ClientsRing.read.Goals as goal

pub returns-clause-changes : goal.returns-clause-changes
returns-clause-changes c = λ old shown. shows_altered c.args.number _ c.args.self.now.clients.items c.read_at.new.clients.items old c.read_at.ensures.alters c.read_at.ensures.absent shown
