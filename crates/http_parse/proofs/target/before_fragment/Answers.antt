use Rattle.http_parse.proofs.TargetLemmas.{before_fragment, no_fragment}
use Rattle.http_parse.proofs.target.before_fragment.Goals as goal

pub returns-in-Some : goal.returns-in-Some
returns-in-Some c = before_fragment c.args.text.now c.in-Some.at (rw c.in-Some.is at c.memchr.ensures)

pub returns-in-None : goal.returns-in-None
returns-in-None c = no_fragment c.args.text.now (rw c.in-None.is at c.memchr.ensures)
