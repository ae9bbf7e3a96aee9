use Rattle.std.proofs.Common.{rules}
use Rattle.http_parse.proofs.query.add_pair.Goals as goal

pub returns-in_default : goal.returns-in_default
returns-in_default c = λ rest pairs leads. record {
  r = search (leads.r, rules);
  w = search (leads.w, rules);
  at = search (leads.at, rules);
  vtag = search (leads.vtag, rules);
  further = c.add_further.ensures rest pairs leads.further;
}
