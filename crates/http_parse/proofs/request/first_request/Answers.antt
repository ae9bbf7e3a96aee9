use Rattle.std.proofs.Common.{rules, arith}
use Rattle.http_request.specs.Ask.{bad_head}
use Rattle.http_parse.proofs.request.first_request.Goals as goal

pub returns-in-Bad-clause-finds : goal.returns-in-Bad-clause-finds
returns-in-Bad-clause-finds c = rw c.no_head.ensures (omega arith, λ e. absurd (search (e, rules)), tt, λ more. bad_head (c.in-Bad.ensures more))
