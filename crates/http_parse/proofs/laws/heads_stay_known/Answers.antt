use Rattle.http_parse.proofs.KnownLemmas.{stays_known}
use Rattle.http_parse.proofs.laws.heads_stay_known.Goals as goal

pub returns : goal.returns
returns c = stays_known
