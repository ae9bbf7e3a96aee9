use Rattle.context_token.proofs.Tokens.{same_clock}
use Rattle.context_token.proofs.laws.one_text.Goals as goal

pub returns : goal.returns
returns c a b ha hb same = same_clock a b ha hb same
