use Rattle.std.proofs.Common.{rules}
use Rattle.std.specs.Prelude.{nat_lt}
use Rattle.std.proofs.lemmas.Fn.{always_returns_same}
use Rattle.context_token.specs.Layouts.{layout}
use Rattle.context_token.proofs.Tests.{adjacent_answer}
use Rattle.context_token.proofs.version.Version.are_rising.Goals as goal

-- the closure compares the numbers of neighbours
pub returns : goal.returns
returns c =
    adjacent_answer (layout c.args.self).order c.args.entries.now _ (c.is_sorted_by.ensures.cases (λ x y. nat_lt ((layout c.args.self).order x.vnode) ((layout c.args.self).order y.vnode)) (always_returns_same _ _ _ (λ a r g called. (search rules, search rules))))
