use Rattle.http_connections.proofs.ClientLemmas.{changes_at}
use Rattle.http_connections.proofs.laws.histories_go_on.Goals as goal

pub returns : goal.returns
returns c = changes_at
