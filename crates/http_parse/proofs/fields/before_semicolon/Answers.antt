use Rattle.http_parse.proofs.BodyLemmas.{before_semicolon, no_semicolon}
use Rattle.http_parse.proofs.fields.before_semicolon.Goals as goal

pub returns-in-Some : goal.returns-in-Some
returns-in-Some c = before_semicolon c.args.part.now c.in-Some.at (rw c.in-Some.is at c.memchr.ensures)

pub returns-in-None : goal.returns-in-None
returns-in-None c = no_semicolon c.args.part.now (rw c.in-None.is at c.memchr.ensures)
