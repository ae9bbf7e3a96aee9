-- Lists that are compared item by item.
use Rattle.std.proofs.Common.{◌≡◌, Bool, List, [], ◌∷◌, map, Option, ap, rules, tests}
use Rattle.std.specs.Bool.{Decides}
use Rattle.std.specs.Iterator.{AlwaysYields}
use Rattle.std.proofs.lemmas.Iterator.{YieldsList}
use Rattle.std.proofs.lemmas.Slice.Eq.{slice_eq-Decides}
use lib.Pointwise.{pointwise}
use Rattle.dvv.specs.declared.Dot.{Dot}
use Rattle.dvv.specs.contracts.DotPartialEq.TheImpl.{ghosts}

module _ {S A B C : Type 0} (h : B → C) where
  said : (steps : S → Option A → S → Type 0) (v : A → B) (s : S) (ys : List B) → AlwaysYields steps v s ys → AlwaysYields steps (λ x. h (v x)) s (map h ys)
  said steps v s [] runs = runs
  said steps v s (y ∷ ys) runs = (runs.0, λ x j is. let next = runs.1 x j is in (ap h next.0, said steps v j ys next.1))

  -- a run that gives a list gives also what h says of its items
  pub YieldsList-said : {steps : S → Option A → S → Type 0} {v : A → B} {s : S} {ys : List B} → YieldsList steps v s ys → YieldsList steps (λ x. h (v x)) s (map h ys)
  YieldsList-said {steps} {v} {s} {ys} each = record { runs = said steps v s ys each.runs }

dot_decides : (a b : Dot) → Decides (ghosts.eq a b) (a ≡ b)
dot_decides a b = search (rules, tests)

-- what `==` of two lists of dots says
pub same_dots : (xs ys : List Dot) (r : Bool) → r ≡ pointwise ghosts.eq xs ys → Decides r (xs ≡ ys)
same_dots = slice_eq-Decides dot_decides
