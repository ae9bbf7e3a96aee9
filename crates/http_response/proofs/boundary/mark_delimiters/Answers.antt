use Rattle.std.proofs.Common.{◌∙◌, ◌+◌, ◌<◌, ℕ, List, length, length-drop, ap, arith, subst, sym}
use Rattle.std.specs.Prelude.{◌||◌, decimal, nat_eq}
use Rattle.std.specs.List.{starts_with}
use Rattle.memchr.specs.Find.{NoneBefore, Nowhere, OccursAt}
use Rattle.http_response.specs.Parts.{occurs_in, delimiter}
use Rattle.http_response.proofs.Delimiters.{first_stands, marked_at_end, marked_behind, none_stands}
use Rattle.http_response.proofs.boundary.mark_delimiters.Goals as goal

-- a search for the front of a delimiter
abbrev Stands : List ℕ → ℕ → List ℕ → Type 0
Stands rest at needle = NoneBefore (OccursAt rest needle) 0 (length rest + 1) at × OccursAt rest needle at

abbrev StandsNowhere : List ℕ → List ℕ → Type 0
StandsNowhere rest needle = Nowhere (OccursAt rest needle) 0 (length rest + 1)

pub overflow_add-at : goal.overflow_add-at
overflow_add-at c =
    let found = subst (Stands c.loop-at.rest.now c.in-Some.at) c.new-finder.ensures c.in-Some.ensures in
    omega (arith, found.1.fits, c.loop-at.invariant.within)

pub split_at-requires : goal.split_at-requires
split_at-requires c =
    let found = subst (Stands c.loop-at.rest.now c.in-Some.at) c.new-finder.ensures c.in-Some.ensures in
    omega (arith, found.1.fits)

pub loop-at-preserved : goal.loop-at-preserved
loop-at-preserved c =
    let rest = c.loop-at.rest.now in
    let found = subst (Stands rest c.in-Some.at) c.new-finder.ensures c.in-Some.ensures in
    record {
      within = omega (arith, ap length c.split_at.ensures.back, length-drop (c.in-Some.at + 3) rest, c.loop-at.invariant.within);
      kept = c.mark_fronts.ensures.kept ∙ c.loop-at.invariant.kept;
      marks = λ n lt.
          let inside : n < length c.loop-at.marks = omega (arith, lt, c.mark_fronts.ensures.kept) in
          marked_behind _ _ _ _ _ _ (c.mark_fronts.ensures.marks n inside)
          (first_stands rest (decimal n) c.in-Some.at found.0 found.1
          ∙ ap (λ (l : List ℕ). starts_with nat_eq l (decimal n) || occurs_in (delimiter n) l) (sym c.split_at.ensures.back))
          (c.loop-at.invariant.marks n inside);
    }

pub returns : goal.returns
returns c =
    let rest = c.loop-at.rest.now in
    let none = subst (StandsNowhere rest) c.new-finder.ensures c.in_default.ensures in
    record {
      kept = c.loop-at.invariant.kept;
      marks = λ n lt. marked_at_end _ _ _ (none_stands rest (decimal n) none)
          (c.loop-at.invariant.marks n (omega (arith, lt, c.loop-at.invariant.kept)));
    }
