use Rattle.http_parse.proofs.OneLemmas.{asks_one}
use Rattle.http_parse.proofs.laws.asks_one.Goals as goal

pub returns : goal.returns
returns c = λ copies bytes ask other ends stops next after x y. asks_one copies bytes ask other ends stops next after x y
