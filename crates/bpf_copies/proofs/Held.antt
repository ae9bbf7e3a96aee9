-- Names that wait for slots, from slot to slot.
use Rattle.std.proofs.Common.{◌≡◌, ◌≢◌, ℕ, zero, suc, pos, ◌+◌, ◌<◌, false, eqb, List, [], ◌∷◌, ◌++◌, length, set, Option, Some, None, refl, sym, ap, ◌∙◌, subst, ⊎_elim, arith}
use Rattle.std.specs.Prelude.{ℤ, slice_get}
use Rattle.std.specs.Global.{Box}
use Rattle.std.proofs.lemmas.Bool.{cases_eq, cond-true, cond-false, eq-eqb, ne_eqb}
use Rattle.bpf_insn.specs.declared.Insn.{Insn}
use Rattle.bpf_image.specs.Form.{target_of}
use Rattle.bpf_copies.specs.Led.{is_slot}
use Rattle.bpf_copies.specs.Names.{Names, joined, by_jump, by_next, new_names, brought, come, arriving, names_at}
use Rattle.bpf_copies.specs.Courses.{unboxed, held_in, held_at}
use Rattle.bpf_copies.specs.declared.bounds.Bounds.{Bounds}

abbrev Held : Type 0
Held = List (Option (Box Names))

-- ---- where names wait

held_same : (waiting : Held) (j : ℕ) (o : Option (Box Names)) → j < length waiting → held_at (set waiting j o) j ≡ unboxed o
held_same [] j o lt = absurd (omega (arith, lt))
held_same (x ∷ waiting) zero o lt = refl
held_same (x ∷ waiting) (suc j) o lt = held_same waiting j o (omega (arith, lt))

pub held_other : (waiting : Held) (j k : ℕ) (o : Option (Box Names)) → k ≢ j → held_at (set waiting j o) k ≡ held_at waiting k
held_other [] j k o ne = refl
held_other (x ∷ waiting) zero zero o ne = absurd (ne refl)
held_other (x ∷ waiting) zero (suc k) o ne = refl
held_other (x ∷ waiting) (suc j) zero o ne = refl
held_other (x ∷ waiting) (suc j) (suc k) o ne = held_other waiting j k o (λ e. ne (ap suc e))

-- a jump's edge is joined in
pub joined_in : (waiting : Held) (j k : ℕ) (old new : Option (Box Names)) (names : Names) → slice_get waiting j ≡ Some old → j < length waiting → unboxed new ≡ joined j (unboxed old) names → held_at (set waiting j new) k ≡ by_jump k (Some (pos j)) names (held_at waiting k)
joined_in waiting j k old new names at lt is =
    ⊎_elim
    (λ same.
    subst (λ n. held_at (set waiting j new) n ≡ by_jump n (Some (pos j)) names (held_at waiting n)) (sym same)
    (held_same waiting j new lt ∙ is ∙ ap (λ o. joined j (held_in o) names) (sym at) ∙ sym (cond-true (eqb j j) (joined j (held_at waiting j) names) (held_at waiting j) (eq-eqb j j refl))))
    (λ other. held_other waiting j k new other ∙ sym (cond-false (eqb j k) (joined k (held_at waiting k) names) (held_at waiting k) (ne_eqb j k (λ e. other (sym e)))))
    (cases_eq k j)

-- what is there stays
pub kept_in : (waiting : Held) (j k : ℕ) (old new : Option (Box Names)) → slice_get waiting j ≡ Some old → j < length waiting → unboxed new ≡ unboxed old → held_at (set waiting j new) k ≡ held_at waiting k
kept_in waiting j k old new at lt is =
    ⊎_elim
    (λ same. subst (λ n. held_at (set waiting j new) n ≡ held_at waiting n) (sym same) (held_same waiting j new lt ∙ is ∙ sym (ap held_in at)))
    (λ other. held_other waiting j k new other)
    (cases_eq k j)

-- where none leads
pub none_led : (k : ℕ) (target : Option ℤ) (names : Names) (before : Option Names) → is_slot k target ≡ false → before ≡ by_jump k target names before
none_led k target names before f = sym (cond-false (is_slot k target) (joined k before names) before f)

-- nothing waits
pub none_more : (waiting : Held) → ((k : ℕ) → held_at waiting k ≡ None) → (k : ℕ) → held_at (waiting ++ None ∷ []) k ≡ None
none_more [] h zero = refl
none_more [] h (suc k) = refl
none_more (x ∷ waiting) h zero = h zero
none_more (x ∷ waiting) h (suc k) = none_more waiting (λ j. h (suc j)) k

pub none_first : (code : List Insn) (known : ℕ → Bounds) (k : ℕ) → 0 < k → None ≡ arriving code known 0 k
none_first code known zero lt = absurd (omega (arith, lt))
none_first code known (suc k) lt = sym (cond-false (eqb (suc k) 0) (Some (new_names 0)) None (ne_eqb (suc k) 0 (λ e. omega (arith, e))))

-- what is said of the slots above is not read
pub arriving_below : (code : List Insn) (known knows : ℕ → Bounds) (n k : ℕ) → ((m : ℕ) → m < n → known m ≡ knows m) → arriving code known n k ≡ arriving code knows n k
arriving_below code known knows zero k h = refl
arriving_below code known knows (suc n) k h =
    let below : (m : ℕ) → m < n → known m ≡ knows m = λ m lt. h m (omega (arith, lt)) in
    let x = slice_get code n in
    ap (λ c. brought k n c x (come n (arriving code known n n)) (arriving code known n k)) (h n (omega arith))
    ∙ ap (λ o. brought k n (knows n) x (come n o) (arriving code known n k)) (arriving_below code known knows n n below)
    ∙ ap (brought k n (knows n) x (come n (arriving code knows n n))) (arriving_below code known knows n k below)

pub names_below : (code : List Insn) (known knows : ℕ → Bounds) (n : ℕ) → ((m : ℕ) → m < n → known m ≡ knows m) → names_at code known n ≡ names_at code knows n
names_below code known knows n h = ap (come n) (arriving_below code known knows n n h)

-- ---- one slot more

module _ (code : List Insn) (known : ℕ → Bounds) (i : ℕ) (x : Insn) (c : Bounds) (names : Names) (at : slice_get code i ≡ Some x) (said : known i ≡ c) (is : names ≡ names_at code known i) where
  arrives : (k : ℕ) → brought k i c (Some x) names (arriving code known i k) ≡ arriving code known (suc i) k
  arrives k =
      ap (λ b. brought k i b (Some x) names (arriving code known i k)) (sym said)
      ∙ ap (λ o. brought k i (known i) o names (arriving code known i k)) (sym at)
      ∙ ap (λ n. brought k i (known i) (slice_get code i) n (arriving code known i k)) is

  -- the names there
  pub here_on : (waits : Option Names) → waits ≡ by_jump (i + 1) (target_of i x) names (arriving code known i (i + 1)) → come (i + 1) (by_next (i + 1) c x names waits) ≡ names_at code known (i + 1)
  here_on waits e =
      let one : i + 1 ≡ suc i = omega arith in
      let led = by_jump (suc i) (target_of i x) names (arriving code known i (suc i)) in
      ap (λ w. come (i + 1) (by_next (i + 1) c x names w)) e
      ∙ ap (λ n. come n (by_next n c x names (by_jump n (target_of i x) names (arriving code known i n)))) one
      ∙ ap (come (suc i)) (sym (cond-true (eqb (suc i) (suc i)) (by_next (suc i) c x names led) led (eq-eqb (suc i) (suc i) refl)) ∙ arrives (suc i))
      ∙ ap (names_at code known) (sym one)

  -- and what waits behind it
  pub behind_on : (k : ℕ) (before : Option Names) → i + 1 < k → before ≡ arriving code known i k → by_jump k (target_of i x) names before ≡ arriving code known (i + 1) k
  behind_on k before lt e =
      let one : i + 1 ≡ suc i = omega arith in
      let led = by_jump k (target_of i x) names (arriving code known i k) in
      ap (by_jump k (target_of i x) names) e
      ∙ sym (cond-false (eqb (suc i) k) (by_next k c x names led) led (ne_eqb (suc i) k (λ q. omega (arith, q, lt))))
      ∙ arrives k
      ∙ ap (λ n. arriving code known n k) (sym one)
