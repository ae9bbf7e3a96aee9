use Rattle.context_token.proofs.Tokens.{text_again, written}
use Rattle.context_token.specs.Token.{token}
use Rattle.context_token.proofs.laws.one_clock.Goals as goal

pub returns : goal.returns
returns c clock has = text_again clock (token clock) has (written clock)
