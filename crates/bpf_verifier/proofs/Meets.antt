-- Pairs that wait for slots, from slot to slot.
use Rattle.std.proofs.Common.{◌≡◌, ◌≢◌, ℕ, zero, suc, pos, ◌+◌, ◌<◌, false, eqb, List, [], ◌∷◌, ◌++◌, length, set, Option, Some, None, refl, sym, ap, ◌∙◌, subst, ⊎_elim, arith}
use Rattle.std.specs.Prelude.{ℤ, slice_get}
use Rattle.std.proofs.lemmas.Bool.{cases_eq, cond-true, cond-false, eq-eqb, ne_eqb}
use Rattle.bpf_insn.specs.declared.Insn.{Insn}
use Rattle.bpf_image.specs.Form.{target_of}
use Rattle.bpf_copies.specs.Led.{is_slot}
use Rattle.bpf_verifier.specs.Program.{Program}
use Rattle.bpf_verifier.specs.Registers.{Row}
use Rattle.bpf_verifier.specs.Pairs.{no_pairs}
use Rattle.bpf_verifier.specs.PairSteps.{met, pairs_by_jump, pairs_by_next, pairs_brought, pairs_come, pairs_behind, pairs_arriving, pairs_at}
use Rattle.bpf_verifier.specs.Meetings.{pairs_of, pairs_in, brought_at}
use Rattle.bpf_verifier.specs.declared.pair.Pairs.{Pairs}
use Rattle.bpf_verifier.specs.declared.meetings.Brought.{Brought}
use Rattle.bpf_verifier.specs.declared.meetings.Brought.TheVariants.{Nothing}

-- ---- where pairs wait

held_same : (waiting : List Brought) (j : ℕ) (b : Brought) → j < length waiting → brought_at (set waiting j b) j ≡ pairs_of b
held_same [] j b lt = absurd (omega (arith, lt))
held_same (x ∷ waiting) zero b lt = refl
held_same (x ∷ waiting) (suc j) b lt = held_same waiting j b (omega (arith, lt))

held_other : (waiting : List Brought) (j k : ℕ) (b : Brought) → k ≢ j → brought_at (set waiting j b) k ≡ brought_at waiting k
held_other [] j k b ne = refl
held_other (x ∷ waiting) zero zero b ne = absurd (ne refl)
held_other (x ∷ waiting) zero (suc k) b ne = refl
held_other (x ∷ waiting) (suc j) zero b ne = refl
held_other (x ∷ waiting) (suc j) (suc k) b ne = held_other waiting j k b (λ e. ne (ap suc e))

-- a jump's edge is joined in
pub joined_in : (waiting : List Brought) (j k : ℕ) (old new : Brought) (pairs : Pairs) → slice_get waiting j ≡ Some old → j < length waiting → pairs_of new ≡ met (pairs_of old) pairs → brought_at (set waiting j new) k ≡ pairs_by_jump k (Some (pos j)) pairs (brought_at waiting k)
joined_in waiting j k old new pairs at lt is =
    ⊎_elim
    (λ same.
    subst (λ n. brought_at (set waiting j new) n ≡ pairs_by_jump n (Some (pos j)) pairs (brought_at waiting n)) (sym same)
    (held_same waiting j new lt ∙ is ∙ ap (λ o. met (pairs_in o) pairs) (sym at) ∙ sym (cond-true (eqb j j) (met (brought_at waiting j) pairs) (brought_at waiting j) (eq-eqb j j refl))))
    (λ other. held_other waiting j k new other ∙ sym (cond-false (eqb j k) (met (brought_at waiting k) pairs) (brought_at waiting k) (ne_eqb j k (λ e. other (sym e)))))
    (cases_eq k j)

-- what is there stays
pub kept_in : (waiting : List Brought) (j k : ℕ) (old new : Brought) → slice_get waiting j ≡ Some old → j < length waiting → pairs_of new ≡ pairs_of old → brought_at (set waiting j new) k ≡ brought_at waiting k
kept_in waiting j k old new at lt is =
    ⊎_elim
    (λ same. subst (λ n. brought_at (set waiting j new) n ≡ brought_at waiting n) (sym same) (held_same waiting j new lt ∙ is ∙ sym (ap pairs_in at)))
    (λ other. held_other waiting j k new other)
    (cases_eq k j)

-- where none leads
pub none_led : (k : ℕ) (target : Option ℤ) (pairs : Pairs) (before : Option Pairs) → is_slot k target ≡ false → before ≡ pairs_by_jump k target pairs before
none_led k target pairs before f = sym (cond-false (is_slot k target) (met before pairs) before f)

-- nothing waits
pub none_more : (waiting : List Brought) → ((k : ℕ) → brought_at waiting k ≡ None) → (k : ℕ) → brought_at (waiting ++ Nothing ∷ []) k ≡ None
none_more [] h zero = refl
none_more [] h (suc k) = refl
none_more (x ∷ waiting) h zero = h zero
none_more (x ∷ waiting) h (suc k) = none_more waiting (λ j. h (suc j)) k

pub none_first : (p : Program) (rows : List (Option Row)) (k : ℕ) → 0 < k → None ≡ pairs_arriving p rows 0 k
none_first p rows zero lt = absurd (omega (arith, lt))
none_first p rows (suc k) lt = sym (cond-false (eqb (suc k) 0) (Some no_pairs) None (ne_eqb (suc k) 0 (λ e. omega (arith, e))))

-- ---- one slot more

module _ (p : Program) (rows : List (Option Row)) (i : ℕ) (x : Insn) (pairs next : Pairs) (at : slice_get p.code i ≡ Some x) (is : pairs ≡ pairs_at p rows i) (behind : next ≡ pairs_behind p rows i pairs) where
  arrives : (k : ℕ) → pairs_brought k i (Some x) pairs next (pairs_arriving p rows i k) ≡ pairs_arriving p rows (suc i) k
  arrives k =
      ap (λ q. pairs_brought k i (Some x) pairs q (pairs_arriving p rows i k)) behind
      ∙ ap (λ o. pairs_brought k i o pairs (pairs_behind p rows i pairs) (pairs_arriving p rows i k)) (sym at)
      ∙ ap (λ q. pairs_brought k i (slice_get p.code i) q (pairs_behind p rows i q) (pairs_arriving p rows i k)) is

  -- the pairs there
  pub here_on : (waits : Option Pairs) → waits ≡ pairs_by_jump (i + 1) (target_of i x) pairs (pairs_arriving p rows i (i + 1)) → pairs_come (pairs_by_next x next waits) ≡ pairs_at p rows (i + 1)
  here_on waits e =
      let one : i + 1 ≡ suc i = omega arith in
      let led = pairs_by_jump (suc i) (target_of i x) pairs (pairs_arriving p rows i (suc i)) in
      ap (λ w. pairs_come (pairs_by_next x next w)) e
      ∙ ap (λ n. pairs_come (pairs_by_next x next (pairs_by_jump n (target_of i x) pairs (pairs_arriving p rows i n)))) one
      ∙ ap pairs_come (sym (cond-true (eqb (suc i) (suc i)) (pairs_by_next x next led) led (eq-eqb (suc i) (suc i) refl)) ∙ arrives (suc i))
      ∙ ap (pairs_at p rows) (sym one)

  -- and what waits behind it
  pub behind_on : (k : ℕ) (before : Option Pairs) → i + 1 < k → before ≡ pairs_arriving p rows i k → pairs_by_jump k (target_of i x) pairs before ≡ pairs_arriving p rows (i + 1) k
  behind_on k before lt e =
      let one : i + 1 ≡ suc i = omega arith in
      let led = pairs_by_jump k (target_of i x) pairs (pairs_arriving p rows i k) in
      ap (pairs_by_jump k (target_of i x) pairs) e
      ∙ sym (cond-false (eqb (suc i) k) (pairs_by_next x next led) led (ne_eqb (suc i) k (λ q. omega (arith, q, lt))))
      ∙ arrives k
      ∙ ap (λ n. pairs_arriving p rows n k) (sym one)
