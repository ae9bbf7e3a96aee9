use Rattle.http_parse.proofs.BodyLemmas.{mark_found, mark_nowhere}
use Rattle.http_parse.proofs.fields.semicolon_in.Goals as goal

pub returns-clause-found : goal.returns-clause-found
returns-clause-found c = mark_found 59 c.args.text.now c.memchr.result c.memchr.ensures

pub returns-clause-none : goal.returns-clause-none
returns-clause-none c = mark_nowhere 59 c.args.text.now c.memchr.result c.memchr.ensures
