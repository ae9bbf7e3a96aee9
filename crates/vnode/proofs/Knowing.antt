-- At which states something is known.
use Rattle.std.proofs.Common.{◌≡◌, ◌≢◌, ℕ, ◌≤◌, List, [], ◌∷◌, length, cond, nat_eq, true, false, refl, sym, ap, ◌∙◌, inl, arith}
use Rattle.std.specs.Prelude.{◌==◌, Bool}
use Rattle.std.proofs.lemmas.Bool.{both_ways, eq-eqb, eqb-true}
use Rattle.std.proofs.lemmas.Bool.Decides.{nat_tests}
use Rattle.dvv.specs.declared.Dot.{Dot}
use Rattle.dvv.specs.Clock.{counter, Covers, AreRising}
use Rattle.key_state.specs.declared.content.Sibling.{Sibling}
use Rattle.key_state.specs.State.{State, IsState, AreCovered, Merges, empty}
use Rattle.vnode.specs.States.{IsSomeKnown}

-- after a merge what was before it is
pub merge_known : (old other new : State) → Merges old other new → IsSomeKnown old → IsSomeKnown new
merge_known old other new merges some = (some.0, (merges.clock some.0).1 (inl some.1))

-- a clock that isn't empty covers something
some_covered : (clock : List Dot) → AreRising 0 clock → length clock ≢ 0 → (d : Dot) × Covers clock d
some_covered [] rising h = absurd (h refl)
some_covered (e ∷ clock) rising h = (e, (rising.1, step e.vnode e.n (counter clock e.vnode)))
  where
    step : (v n c : ℕ) → n ≤ cond (nat_eq v v) n c
    step v n c = grind (arith, nat_tests)

-- with an empty one nothing is written
nothing_written : (siblings : List Sibling) (clock : List Dot) → AreCovered clock siblings → length clock ≡ 0 → record { siblings = siblings; clock = clock } ≡ empty
nothing_written [] [] covered none = refl
nothing_written (x ∷ siblings) [] covered none = absurd (omega (arith, covered.0))
nothing_written siblings (d ∷ clock) covered none = absurd (omega (arith, none))

-- so a test whether its entries are none tells both
module _ (s : State) (is : IsState s) (entries : List Dot) (are : entries ≡ s.clock) (none : Bool) (told : none ≡ (length entries == 0)) where
  pub known_by_test : none ≡ false → IsSomeKnown s
  known_by_test f = some_covered s.clock is.clock.rising (λ e. both_ways none f (told ∙ eq-eqb (length entries) 0 (ap length are ∙ e)))

  pub nothing_by_test : none ≡ true → s ≡ empty
  nothing_by_test t = nothing_written s.siblings s.clock is.covered (sym (ap length are) ∙ eqb-true (length entries) 0 (sym told ∙ t))
