use Rattle.context_token.proofs.Tokens.{text_again, written}
use Rattle.context_token.proofs.laws.any_version.Goals as goal

pub returns-clause-read : goal.returns-clause-read
returns-clause-read c clock text has is = text_again clock text has is

pub returns-clause-written : goal.returns-clause-written
returns-clause-written c clock = written clock
