use Rattle.std.proofs.Common.{refl, rules}
use Rattle.http_parse.proofs.ComesLemmas.{fresh}
use Rattle.http_parse.proofs.chunks.CodedBody.new.Goals as goal

pub returns : goal.returns
returns c = fresh _ refl (search rules) (search rules)
