-- Where probes go, and which slots are free.
use Rattle.std.proofs.Common.{◌≡◌, ℕ, ◌+◌, ◌-◌, ◌*◌, ◌/◌, ◌%◌, ◌<◌, ◌≤◌, not, cond, nat_eq, add-one, arith, refl, ◌∙◌, ap, subst, List, [], ◌∷◌, length, length-take, take}
use Rattle.std.proofs.Math.Decide.{dec_lt, ℕ_discrete}
use Rattle.std.proofs.Math.ListN.{get_or-eq_default}
use Rattle.std.proofs.Math.Nat.{mod-eq_of_lt, add-mod_right, add-mul-mod_self_right, mod-add-div'}
use Rattle.std.proofs.lemmas.Bool.Decides.{nat_tests}
use Rattle.std.proofs.lemmas.List.Sums.{count_by-le-length, sum_by-cons, sum_by_more}
use Rattle.vnode_index.specs.Slots.{Slot, free, slot_at, item_at, is_taken, taken, home, probed, PassesTo}

-- a slot that is taken stands in the list
pub taken_within : (slots : List Slot) (p : ℕ) → 0 < item_at slots p → p < length slots
taken_within slots p some =
    elim (dec_lt p (length slots)) [
      | yes within ↦ within
      | no past ↦ absurd (let none : item_at slots p ≡ 0 = ap (λ (slot : Slot). slot.item) (get_or-eq_default slots free (omega arith)) in omega arith)
    ]

-- what goes round by so many is at each place some time
comes_round : (count from p : ℕ) → p < count → (j : ℕ) × (j < count) × ((from + j) % count ≡ p)
comes_round count from p within =
    let rest : ℕ = from % count in
    let whole : from % count + from / count * count ≡ from = mod-add-div' from count in
    elim (dec_lt p rest) [
      | yes before ↦ (
        p + count - rest,
        omega arith,
        ap (λ x. x % count) (let e : from + (p + count - rest) ≡ (p + count) + from / count * count = omega arith in e)
            ∙ (add-mul-mod_self_right (p + count) (from / count) count ∙ (add-mod_right p count ∙ mod-eq_of_lt within)),
      )
      | no past ↦ (
        p - rest,
        omega arith,
        ap (λ x. x % count) (let e : from + (p - rest) ≡ p + from / count * count = omega arith in e)
            ∙ (add-mul-mod_self_right p (from / count) count ∙ mod-eq_of_lt within),
      )
    ]

-- where a probe stands that began at its hash's home
pub from_home : (count hash step from at : ℕ) → from ≡ home count hash → at ≡ (from + step) % count → at ≡ probed count hash step
unfolding probed
from_home count hash step from at begun is = is ∙ ap (λ x. (x + step) % count) begun

-- a probe comes to each slot
pub comes_to : (count hash p : ℕ) → p < count → (j : ℕ) × (j < count) × (probed count hash j ≡ p)
unfolding probed
comes_to count hash p within = comes_round count (home count hash) p within

-- one step past the last is the first
pub goes_round : (count at : ℕ) → count ≤ at → at < count + count → at % count ≡ at - count
goes_round count at past within = ap (λ x. x % count) (let e : at ≡ at - count + count = omega arith in e) ∙ (add-mod_right (at - count) count ∙ mod-eq_of_lt (omega arith))

abbrev HasFree : List Slot → Type 0
HasFree slots = (p : ℕ) × (p < length slots) × (item_at slots p ≡ 0)

-- what a slot adds to the number of those taken
abbrev pub weight : Slot → ℕ
weight slot = cond (is_taken slot) 1 0

pub weight_some : (slot : Slot) → 0 < slot.item → weight slot ≡ 1
weight_some slot some = grind (arith, nat_tests)

pub weight_none : (slot : Slot) → slot.item ≡ 0 → weight slot ≡ 0
weight_none slot none = ap (λ (n : ℕ). cond {A = ℕ} (not (nat_eq n 0)) 1 0) none

pub taken_none : taken [] ≡ 0
unfolding taken
taken_none = refl

pub taken_first : (slot : Slot) (slots : List Slot) → taken (slot ∷ slots) ≡ weight slot + taken slots
unfolding taken
taken_first slot slots = sum_by-cons weight slot slots

pub taken_more : (slots : List Slot) (k : ℕ) → k < length slots → taken (take (k + 1) slots) ≡ taken (take k slots) + weight (slot_at slots k)
unfolding taken
taken_more slots k within = sum_by_more weight slots k free within

-- no more slots are taken than there are
pub taken_front : (slots : List Slot) (k : ℕ) → taken (take k slots) ≤ k
unfolding taken
taken_front slots k = omega (arith, count_by-le-length is_taken (take k slots), length-take k slots)

-- where fewer slots are taken than there are, one is free
pub one_is_free : (slots : List Slot) → taken slots < length slots → HasFree slots
one_is_free [] few = absurd (omega arith)
one_is_free (slot ∷ slots) few =
    elim (ℕ_discrete slot.item 0) [
      | yes none ↦ (0, omega arith, none)
      | no some ↦
          let rest = one_is_free slots (omega (arith, taken_first slot slots, weight_some slot (omega arith))) in
          (rest.0 + 1, omega (arith, rest.1), rw add-one rest.2)
    ]

-- a probe that passes all slots finds none free
pub not_all_passed : (slots : List Slot) (hash : ℕ) → taken slots < length slots → PassesTo slots hash (length slots) → ⊥
not_all_passed slots hash few passes =
    let one = one_is_free slots few in
    let j = comes_to (length slots) hash one.0 one.1 in
    let some : 0 < item_at slots one.0 = subst (λ (p : ℕ). 0 < item_at slots p) j.2 (passes j.0 j.1) in
    omega (arith, one.2, some)
