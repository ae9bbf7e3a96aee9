use Rattle.http_connections.proofs.ClientLemmas.{shows_altered, write_quiet}
use Rattle.http_connections.proofs.clients.ClientsRing.write.Goals as goal

pub returns-clause-changes : goal.returns-clause-changes
returns-clause-changes c = λ old shown. shows_altered c.args.number _ c.args.self.now.clients.items c.write_at.new.clients.items old c.write_at.ensures.alters (λ none t. write_quiet c.write_at.result c.args.bytes.now t) shown
