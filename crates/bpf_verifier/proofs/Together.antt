-- What pairs of registers say of a state, and the ends that they tell.
use Rattle.std.proofs.Common.{◌≡◌, ℕ, ◌+◌, ◌≤◌, Bool, true, false, ◌||◌, ◌&&◌, eqb, List, [], ◌∷◌, Option, Some, None, refl, sym, ap, subst, inl, inr, ⊎_elim, arith}
use Rattle.std.specs.Prelude.{◌⊎◌, map, slice_get, unwrap_or}
use Rattle.std.proofs.lemmas.Bool.{cond_both, eqb-true, and_parts}
use Rattle.bpf_insn.specs.Encoding.{number}
use Rattle.bpf_insn.specs.declared.Register.{Register}
use Rattle.bpf_insn.specs.declared.Register.TheVariants.{R1, R2, R3, R4, R5}
use Rattle.bpf_semantics.specs.State.{State, number_in}
use Rattle.bpf_helpers.specs.Calls.{argument_registers}
use Rattle.bpf_verifier.specs.Pairs.{are_of, most_in, most_together, argument_ends}
use Rattle.bpf_verifier.specs.CallKinds.{first_end, later_ends}
use Rattle.bpf_verifier.specs.declared.pair.Pair.{Pair}
use Rattle.bpf_verifier.specs.declared.pair.Pairs.{Pairs}

abbrev pub PairHolds : Option Pair → State → Type 0
PairHolds None s = Unit {0}
PairHolds (Some pair) s = number_in s pair.left + number_in s pair.right ≤ pair.most

pub record HoldPairs (pairs : Pairs) (s : State) : Type 0 where
  pub first : PairHolds pairs.first s
  pub second : PairHolds pairs.second s
  pub third : PairHolds pairs.third s
  pub fourth : PairHolds pairs.fourth s

-- what pairs say of registers alone
same_pair : (pair : Option Pair) (s t : State) → t.registers ≡ s.registers → PairHolds pair s → PairHolds pair t
same_pair None s t e h = tt
same_pair (Some pair) s t e h = subst (λ rs. PairHolds (Some pair) (record s { registers = rs })) (sym e) h

pub same_pairs : (pairs : Pairs) (s t : State) → t.registers ≡ s.registers → HoldPairs pairs s → HoldPairs pairs t
same_pairs pairs s t e h = record { first = same_pair pairs.first s t e h.first; second = same_pair pairs.second s t e h.second; third = same_pair pairs.third s t e h.third; fourth = same_pair pairs.fourth s t e h.fourth }

-- two numbers are at most an end together, if it is known
abbrev pub IsEnd : Option ℕ → ℕ → ℕ → Type 0
IsEnd None a n = Unit {0}
IsEnd (Some end) a n = a + n ≤ end

pub or_cases : (a b : Bool) → (a || b) ≡ true → (a ≡ true) ⊎ (b ≡ true)
or_cases true b h = inl refl
or_cases false b h = inr h

-- registers of one number hold the same
pub same_number : (s : State) (r q : Register) → eqb (number r) (number q) ≡ true → number_in s r ≡ number_in s q
same_number s r q e = ap (λ n. unwrap_or (unwrap_or (slice_get s.registers n) None) 0) (eqb-true (number r) (number q) e)

most_in_holds : (s : State) (r q : Register) (pair : Option Pair) (other : Option ℕ) → PairHolds pair s → IsEnd other (number_in s r) (number_in s q) → IsEnd (most_in r q pair other) (number_in s r) (number_in s q)
most_in_holds s r q None other h o = o
most_in_holds s r q (Some pair) other h o =
    cond_both (are_of r q pair) (Some pair.most) other (λ e. IsEnd e (number_in s r) (number_in s q))
    (λ t.
    ⊎_elim
    (λ same. let parts = and_parts (eqb (number pair.left) (number r)) (eqb (number pair.right) (number q)) same in
    let left = same_number s pair.left r parts.0 in
    let right = same_number s pair.right q parts.1 in
    omega (arith, h, left, right))
    (λ other. let parts = and_parts (eqb (number pair.left) (number q)) (eqb (number pair.right) (number r)) other in
    let left = same_number s pair.left q parts.0 in
    let right = same_number s pair.right r parts.1 in
    omega (arith, h, left, right))
    (or_cases (eqb (number pair.left) (number r) && eqb (number pair.right) (number q)) (eqb (number pair.left) (number q) && eqb (number pair.right) (number r)) t))
    (λ _. o)

-- the greatest sum of two registers is one
pub together : (pairs : Pairs) (s : State) (r q : Register) → HoldPairs pairs s → IsEnd (most_together pairs r q) (number_in s r) (number_in s q)
together pairs s r q h =
    most_in_holds s r q pairs.first _ h.first (most_in_holds s r q pairs.second _ h.second (most_in_holds s r q pairs.third _ h.third (most_in_holds s r q pairs.fourth None h.fourth tt)))

-- each number of a list and the next one are at most an end together
abbrev pub Ended : List ℕ → List (Option ℕ) → Type 0
Ended [] ends = Unit {0}
Ended (n ∷ []) ends = Unit {0}
Ended (n ∷ m ∷ ns) ends = IsEnd (first_end ends) n m × Ended (m ∷ ns) (later_ends ends)

pub arguments_ended : (pairs : Pairs) (s : State) → HoldPairs pairs s → Ended (map (number_in s) argument_registers) (argument_ends pairs)
arguments_ended pairs s h = (together pairs s R1 R2 h, (together pairs s R2 R3 h, (together pairs s R3 R4 h, (together pairs s R4 R5 h, tt))))
