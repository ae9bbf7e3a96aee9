-- What it does to put a slot where it is reached.
use Rattle.std.proofs.Common.{◌≡◌, ◌≢◌, ℕ, zero, suc, ◌+◌, ◌<◌, arith, sym, ◌∙◌, ap, subst, List, length, replicate, get_or-set_same, get_or-set_other}
use Rattle.std.specs.List.{count_by}
use Rattle.std.proofs.Math.Decide.{dec_lt, ℕ_discrete}
use Rattle.std.proofs.Math.ListN.{length-set, get_or-eq_default}
use Rattle.std.proofs.lemmas.List.{get_or-replicate, length-replicate}
use Rattle.std.proofs.lemmas.List.Sums.{sum_by-set}
use Rattle.vnode_index.specs.Slots.{Slot, free, slot_at, item_at, is_taken, taken, probed, PassesTo, Reaches, AreProbed, Puts, Rehashes}
use Rattle.vnode_index.proofs.Probing.{weight, weight_some, weight_none, taken_none, taken_first}

module _ (old : List Slot) (slot : Slot) (new : List Slot) (some : 0 < slot.item) (puts : Puts old slot new) where
  pub length_put : length new ≡ length old
  length_put = ap length puts.written ∙ length-set old puts.at slot

  pub put_here : slot_at new puts.at ≡ slot
  put_here = ap (λ slots. slot_at slots puts.at) puts.written ∙ get_or-set_same old puts.at slot free puts.within

  pub put_elsewhere : (p : ℕ) → p ≢ puts.at → slot_at new p ≡ slot_at old p
  put_elsewhere p other = ap (λ slots. slot_at slots p) puts.written ∙ get_or-set_other old puts.at p slot free other

  -- what was taken is as it was
  pub put_keeps : (p : ℕ) → 0 < item_at old p → slot_at new p ≡ slot_at old p
  put_keeps p taken = put_elsewhere p (λ same. let none = puts.was_free in let e : item_at old p ≡ 0 = ap (item_at old) same ∙ none in omega arith)

  still_passes : (hash step : ℕ) → PassesTo old hash step → PassesTo new hash step
  still_passes hash step passes j before =
      let n : length new ≡ length old = length_put in
      let was : 0 < item_at old (probed (length old) hash j) = passes j before in
      let is : 0 < item_at new (probed (length old) hash j) = subst (λ (s : Slot). 0 < s.item) (sym (put_keeps _ was)) was in
      subst (λ (count : ℕ). 0 < item_at new (probed count hash j)) (sym n) is

  still_reaches : (hash p : ℕ) → Reaches old hash p → Reaches new hash p
  still_reaches hash p r = record {
    step = r.step;
    within = omega (arith, r.within, length_put);
    there = r.there ∙ ap (λ (count : ℕ). probed count hash r.step) (sym length_put);
    passes = still_passes hash r.step r.passes;
  }

  -- a slot of an item that has none yet
  pub put_probed : AreProbed old → ((p : ℕ) → item_at old p ≢ slot.item) → AreProbed new
  put_probed are absent = record { distinct = distinct; reached = reached }
    where
      here : (p : ℕ) → p ≡ puts.at → item_at new p ≡ slot.item
      here p same = ap (item_at new) same ∙ ap (λ (s : Slot). s.item) put_here

      elsewhere : (p : ℕ) → p ≢ puts.at → item_at new p ≡ item_at old p
      elsewhere p other = ap (λ (s : Slot). s.item) (put_elsewhere p other)

      distinct : (p q : ℕ) → 0 < item_at new p → item_at new p ≡ item_at new q → p ≡ q
      distinct p q taken same =
          elim (ℕ_discrete p puts.at) [
            | yes p_here ↦ elim (ℕ_discrete q puts.at) [
              | yes q_here ↦ p_here ∙ sym q_here
              | no q_other ↦ absurd (absent q (sym (elsewhere q q_other) ∙ sym same ∙ here p p_here))
            ]
            | no p_other ↦ elim (ℕ_discrete q puts.at) [
              | yes q_here ↦ absurd (absent p (sym (elsewhere p p_other) ∙ same ∙ here q q_here))
              | no q_other ↦ are.distinct p q (subst (λ (n : ℕ). 0 < n) (elsewhere p p_other) taken) (sym (elsewhere p p_other) ∙ same ∙ elsewhere q q_other)
            ]
          ]

      reached : (p : ℕ) → 0 < item_at new p → Reaches new (slot_at new p).hash p
      reached p taken =
          elim (ℕ_discrete p puts.at) [
            | yes p_here ↦ subst (λ (s : Slot). Reaches new s.hash p) (sym (ap (slot_at new) p_here ∙ put_here)) (still_reaches slot.hash p (subst (Reaches old slot.hash) (sym p_here) puts.reached))
            | no p_other ↦
                let was : 0 < item_at old p = subst (λ (n : ℕ). 0 < n) (elsewhere p p_other) taken in
                subst (λ (s : Slot). Reaches new s.hash p) (sym (put_elsewhere p p_other)) (still_reaches (slot_at old p).hash p (are.reached p was))
          ]

  pub put_taken : taken new ≡ taken old + 1
  unfolding taken
  put_taken =
      let counted = sum_by-set weight old puts.at slot free puts.within in
      ap (count_by is_taken) puts.written ∙ omega (arith, counted, weight_none (slot_at old puts.at) puts.was_free, weight_some slot some)

-- among free slots none is taken
pub free_items : (slots : List Slot) (n : ℕ) → slots ≡ replicate n free → (p : ℕ) → item_at slots p ≡ 0
free_items slots n all p =
    elim (dec_lt p n) [
      | yes within ↦ ap (λ l. item_at l p) all ∙ ap (λ (s : Slot). s.item) (get_or-replicate n p free free within)
      | no past ↦ ap (λ (s : Slot). s.item) (get_or-eq_default slots free (omega (arith, ap length all, length-replicate n free)))
    ]

pub free_taken : (n : ℕ) → taken (replicate n free) ≡ 0
free_taken zero = taken_none
free_taken (suc n) = omega (arith, taken_first free (replicate n free), free_taken n)

-- ---- all slots before k
pub rehash_none : (from to : List Slot) → ((p : ℕ) → item_at to p ≡ 0) → Rehashes from to 0
rehash_none from to none = record {
  probed = record { distinct = λ p q taken same. absurd (omega (arith, none p)); reached = λ p taken. absurd (omega (arith, none p)) };
  all = λ p before taken. absurd (omega arith);
  only = λ q taken. absurd (omega (arith, none q));
}

pub rehash_skip : (from to : List Slot) (k : ℕ) → Rehashes from to k → item_at from k ≡ 0 → Rehashes from to (k + 1)
rehash_skip from to k re none = record {
  probed = re.probed;
  all = λ p before taken. elim (ℕ_discrete p k) [
    | yes same ↦ absurd (let e : item_at from p ≡ 0 = ap (item_at from) same ∙ none in omega arith)
    | no other ↦ re.all p (omega arith) taken
  ];
  only = λ q taken. let was = re.only q taken in (was.0, omega (arith, was.1), was.2);
}

pub rehash_put : (from old new : List Slot) (k : ℕ) → AreProbed from → Rehashes from old k → 0 < item_at from k → Puts old (slot_at from k) new → Rehashes from new (k + 1)
rehash_put from old new k are re some puts = record { probed = put_probed old slot new some puts re.probed absent; all = all; only = only }
  where
    slot : Slot
    slot = slot_at from k

    absent : (q : ℕ) → item_at old q ≢ item_at from k
    absent q same =
        let was = re.only q (subst (λ (n : ℕ). 0 < n) (sym same) some) in
        let item : item_at from was.0 ≡ item_at from k = ap (λ (s : Slot). s.item) (sym was.2) ∙ same in
        omega (arith, was.1, are.distinct k was.0 some (sym item))

    all : (p : ℕ) → p < k + 1 → 0 < item_at from p → (q : ℕ) × (slot_at new q ≡ slot_at from p)
    all p before taken =
        elim (ℕ_discrete p k) [
          | yes same ↦ (puts.at, put_here old slot new some puts ∙ ap (slot_at from) (sym same))
          | no other ↦
              let was = re.all p (omega arith) taken in
              (was.0, put_keeps old slot new some puts was.0 (subst (λ (s : Slot). 0 < s.item) (sym was.1) taken) ∙ was.1)
        ]

    only : (q : ℕ) → 0 < item_at new q → (p : ℕ) × (p < k + 1) × (slot_at new q ≡ slot_at from p)
    only q taken =
        elim (ℕ_discrete q puts.at) [
          | yes same ↦ (k, omega arith, ap (slot_at new) same ∙ put_here old slot new some puts)
          | no other ↦
              let as_was = put_elsewhere old slot new some puts q other in
              let was = re.only q (subst (λ (s : Slot). 0 < s.item) as_was taken) in
              (was.0, omega (arith, was.1), as_was ∙ was.2)
        ]
