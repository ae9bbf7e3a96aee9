use Rattle.std.proofs.Common.{rules, tests}
use Rattle.std.proofs.lemmas.Iterator.Search.{any_from_yields_List}
use Rattle.std.proofs.lemmas.Iterator.Splits.{YieldsList-from_slice_split}
use Rattle.http_response.specs.Known.{is_between, is_tag}
use Rattle.http_response.proofs.known.has_part.Goals as goal

pub returns : goal.returns
returns c =
    any_from_yields_List (is_tag c.args.tag.now) _ _ c.any.result c.any.ensures.ran
    (YieldsList-from_slice_split _ is_between c.args.list.now c.split.ensures.rest c.split.ensures.done c.split.ensures.closure (λ x r q k. search (rules, tests)))
    (λ x r q k. search (rules, tests))
