-- Slots, and those to which jumps lead; the places of registers.
use Rattle.std.proofs.Common.{◌≡◌, ℕ, zero, suc, ℤ, pos, ◌<◌, Bool, true, false, ◌||◌, List, Some, refl, sym, ap, ◌∙◌, subst, ⊎_elim, arith}
use Rattle.std.specs.Prelude.{◌+ℤ◌, slice_get}
use Rattle.std.proofs.lemmas.Int.{ints}
use Rattle.std.proofs.lemmas.Bool.{cases_eq, eq-eqb}
use Rattle.bpf_insn.specs.Encoding.{number}
use Rattle.bpf_insn.specs.declared.Register.{Register}
use Rattle.bpf_insn.specs.declared.Register.TheVariants.{R0, R1, R2, R3, R4, R5, R6, R7, R8, R9, R10}
use Rattle.bpf_insn.specs.declared.Insn.{Insn}
use Rattle.bpf_image.specs.Form.{target_of}
use Rattle.bpf_copies.specs.Led.{is_slot, target_at, leads_before}

pub number_small : (r : Register) → number r < 11
number_small R0 = omega arith
number_small R1 = omega arith
number_small R2 = omega arith
number_small R3 = omega arith
number_small R4 = omega arith
number_small R5 = omega arith
number_small R6 = omega arith
number_small R7 = omega arith
number_small R8 = omega arith
number_small R9 = omega arith
number_small R10 = omega arith

or_true : (a b : Bool) → a ≡ true → (a || b) ≡ true
or_true true b h = refl
or_true false b h = cc

or_either : (a b : Bool) → b ≡ true → (a || b) ≡ true
or_either true b h = refl
or_either false b h = h

pub leads : (code : List Insn) (n i k : ℕ) (x : Insn) → i < n → slice_get code i ≡ Some x → target_of i x ≡ Some (pos k) → leads_before code n k ≡ true
leads code zero i k x lt at to = absurd (omega arith)
leads code (suc n) i k x lt at to =
    ⊎_elim
    (λ same. or_true (is_slot k (target_at n (slice_get code n))) _ (subst (λ j. is_slot k (target_at j (slice_get code j)) ≡ true) same (ap (λ o. is_slot k (target_at i o)) at ∙ ap (is_slot k) to ∙ eq-eqb k k refl)))
    (λ other. or_either (is_slot k (target_at n (slice_get code n))) _ (leads code n i k x (omega (arith, lt, other)) at to))
    (cases_eq i n)

pub slot_on : (z : ℤ) (i k : ℕ) → z ≡ pos i → (z +ℤ pos 1) ≡ pos k → k ≡ suc i
slot_on z i k e f = let h : (pos i +ℤ pos 1) ≡ pos k = ap (λ y. y +ℤ pos 1) (sym e) ∙ f in omega (arith, ints, h)

pub two_on : (z : ℤ) (i k : ℕ) → z ≡ pos i → (z +ℤ pos 1 +ℤ pos 1) ≡ pos k → k ≡ suc (suc i)
two_on z i k e f = let h : (pos i +ℤ pos 1 +ℤ pos 1) ≡ pos k = ap (λ y. y +ℤ pos 1 +ℤ pos 1) (sym e) ∙ f in omega (arith, ints, h)
