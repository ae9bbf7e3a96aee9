-- What rows say of states: of the registers, and of the words of the stack. What the rules of cells leave, the words still fit.
use Rattle.std.proofs.Common.{◌≡◌, ℕ, zero, suc, ◌+◌, ◌-◌, ◌*◌, ◌^◌, ◌<◌, ◌≤◌, pos, Bool, true, false, cond, List, [], ◌∷◌, ◌++◌, length, get_or, set, take, drop, Option, Some, None, refl, sym, ap, ◌∙◌, subst, inl, inr, ⊎_elim, arith, add-one, length-append, length-set, length-drop}
use Rattle.std.specs.Prelude.{◌⊎◌, ◌≤ℤ◌, int_lt, replicate}
use Rattle.std.proofs.lemmas.Int.{ints}
use Rattle.std.proofs.lemmas.Bool.{cond_both, cases_lt}
use Rattle.std.proofs.lemmas.List.{get_or-drop, get_or-take, get_or_append_left, get_or-append_right, get_or-append-add, set-append_left, take-append-drop, length-take-le}
use Rattle.std.proofs.lemmas.Option.{unwrap_or-slice_get}
use Rattle.bpf_insn.specs.Encoding.{number}
use Rattle.bpf_insn.specs.declared.Register.{Register}
use Rattle.bpf_insn.specs.declared.Register.TheVariants.{R1, R3}
use Rattle.bpf_copies.proofs.Slots.{number_small}
use Rattle.bpf_insn.specs.declared.Size.TheVariants.{Double}
use Rattle.bpf_insn.specs.declared.Extend.{Extend}
use Rattle.bpf_insn.specs.declared.Extend.TheVariants.{Zero, Sign}
use Rattle.bpf_semantics.specs.Windows.{little_endian, overwritten}
use Rattle.bpf_semantics.specs.State.{State, register}
use Rattle.bpf_semantics.specs.Step.{AreBytes}
use Rattle.bpf_semantics.specs.declared.Region.{Region}
use Rattle.bpf_semantics.specs.declared.profile.Profile.{Profile}
use Rattle.bpf_semantics.specs.declared.profile.Profile.TheVariants.{First, Second}
use Rattle.bpf_ranges.specs.declared.kind.Kind.{Kind}
use Rattle.bpf_ranges.specs.declared.kind.Kind.TheVariants.{Unset, Dead, Num, Ptr, Halves}
use Rattle.bpf_ranges.specs.Kinds.{Admits, IsKind}
use Rattle.bpf_ranges.specs.Numbers.{full}
use Rattle.bpf_ranges.specs.Transfer.{kind_in}
use Rattle.bpf_ranges.specs.Laws.{IsSoundTable}
use Rattle.bpf_verifier.specs.Registers.{Row, cell_count, IsLong, kind_at, with_kind}
use Rattle.bpf_verifier.specs.Cells.{is_touched, cell_kind, with_cell, touched, cells_touched, row_touched, row_stored_in, read_kind, span_given, row_written}
use Rattle.bpf_helpers.specs.Calls.{Callee, Copy, Fill, Same, Helper, Unknown}
use Rattle.bpf_verifier.specs.Table.{AreKinds}
use Rattle.bpf_verifier.specs.declared.cell_part.CellPart.{CellPart}
use Rattle.bpf_verifier.specs.declared.span.Span.{Span}
use Rattle.bpf_verifier.proofs.Words.{bytes_take, bytes_drop, read_small}
use Rattle.bpf_verifier.proofs.RowSteps.{kinds_set, kinds_take, kinds_drop}
use Rattle.bpf_verifier.proofs.Fits.{IsWord, FitsRow, at_register, at_write, at_learn}

-- ---- what a row speaks of

-- so many words of 8 bytes, from the lowest on
abbrev pub words : ℕ → List ℕ → List (Option ℕ)
words zero bytes = []
words (suc n) bytes = Some (little_endian (take 8 bytes)) ∷ words n (drop 8 bytes)

-- the registers, and behind them the words of the stack's cells
abbrev pub values_of : Profile → List (Option ℕ) → List ℕ → List (Option ℕ)
values_of profile registers stack = registers ++ words (cell_count profile) stack

abbrev pub values : Profile → State → List (Option ℕ)
values profile s = values_of profile s.registers s.memory.stack

pub few_cells : (profile : Profile) → cell_count profile ≤ 64
few_cells First = omega arith
few_cells Second = omega arith

length_words : (n : ℕ) (bytes : List ℕ) → length (words n bytes) ≡ n
length_words zero bytes = refl
length_words (suc n) bytes = ap suc (length_words n (drop 8 bytes))

length_fits : (ks : Row) (vs : List (Option ℕ)) → FitsRow ks vs → length ks ≡ length vs
length_fits [] [] h = refl
length_fits [] (v ∷ vs) h = absurd h
length_fits (k ∷ ks) [] h = absurd h
length_fits (k ∷ ks) (v ∷ vs) h = ap suc (length_fits ks vs h.2)

pub eleven : (profile : Profile) (row : Row) (registers : List (Option ℕ)) (stack : List ℕ) → IsLong profile row → FitsRow row (values_of profile registers stack) → length registers ≡ 11
eleven profile row registers stack long fits =
    let all = length_fits row (values_of profile registers stack) fits in
    let cells = length_words (cell_count profile) stack in
    omega (arith, long, all, length-append registers (words (cell_count profile) stack), cells)

-- ---- registers

module _ (profile : Profile) (row : Row) (s : State) (long : IsLong profile row) (fits : FitsRow row (values profile s)) where
  pub has_eleven : length s.registers ≡ 11
  has_eleven = eleven profile row s.registers s.memory.stack long fits

  -- what a register holds is the value of its place
  pub value_at : (r : Register) → register s r ≡ get_or (values profile s) (number r) None
  value_at r =
      unwrap_or-slice_get s.registers (number r) None
      ∙ sym (get_or_append_left s.registers (words (cell_count profile) s.memory.stack) None (number r) (omega (arith, number_small r, has_eleven)))

  pub register_fits : (r : Register) → Admits (kind_at row r) (register s r) × IsWord (register s r)
  register_fits r =
      let h = at_register row (values profile s) (number r) fits in
      let e = sym (value_at r) in
      (subst (Admits (kind_at row r)) e h.0, subst IsWord e h.1)

  -- a register and its kind, written
  pub written_register : (r : Register) (k : Kind) (v : Option ℕ) → Admits k v → IsWord v → FitsRow (with_kind row r k) (values_of profile (set s.registers (number r) v) s.memory.stack)
  written_register r k v a w =
      subst (FitsRow (with_kind row r k)) (set-append_left s.registers (words (cell_count profile) s.memory.stack) (number r) v (omega (arith, number_small r, has_eleven)))
      (at_write row (values profile s) (number r) k v fits a w)

-- ---- rows in two parts

fits_left : (vs ws : List (Option ℕ)) (row : Row) → FitsRow row (vs ++ ws) → FitsRow (take (length vs) row) vs
fits_left [] ws row h = tt
fits_left (v ∷ vs) ws [] h = absurd h
fits_left (v ∷ vs) ws (k ∷ row) h = (h.0, h.1, fits_left vs ws row h.2)

fits_right : (vs ws : List (Option ℕ)) (row : Row) → FitsRow row (vs ++ ws) → FitsRow (drop (length vs) row) ws
fits_right [] ws row h = h
fits_right (v ∷ vs) ws [] h = absurd h
fits_right (v ∷ vs) ws (k ∷ row) h = fits_right vs ws row h.2

fits_both : (a b : Row) (vs ws : List (Option ℕ)) → FitsRow a vs → FitsRow b ws → FitsRow (a ++ b) (vs ++ ws)
fits_both [] b [] ws h g = g
fits_both [] b (v ∷ vs) ws h g = absurd h
fits_both (k ∷ a) b [] ws h g = absurd h
fits_both (k ∷ a) b (v ∷ vs) ws h g = (h.0, h.1, fits_both a b vs ws h.2 g)

set_behind : (m : ℕ) (row : Row) (i : ℕ) (k : Kind) → take m row ++ set (drop m row) i k ≡ set row (m + i) k
set_behind zero row i k = ap (λ n. set row n k) (omega arith)
set_behind (suc m) [] i k = refl
set_behind (suc m) (x ∷ row) i k = let e : suc (m + i) ≡ suc m + i = omega arith in ap (λ ks. x ∷ ks) (set_behind m row i k) ∙ ap (λ n. set (x ∷ row) n k) e

-- ---- writes that may touch cells

-- any number of 64 bits is a kind
any_kind : (profile : Profile) → IsKind (kind_in profile (full 64))
unfolding lib.Count.count_leading_zeros
any_kind First = record { range = record { ordered = omega arith; fits = omega arith }; bits = record { zeros = omega arith; ones = omega arith } }
any_kind Second = record { range = record { ordered = omega arith; fits = omega arith }; bits = record { zeros = omega arith; ones = omega arith } }

touched_kind : (profile : Profile) (k : Kind) → IsKind (touched profile k)
touched_kind profile Unset = tt
touched_kind profile Dead = any_kind profile
touched_kind profile (Num a) = any_kind profile
touched_kind profile (Ptr r lo hi) = tt
touched_kind profile (Halves (Some low) (Some high)) = any_kind profile
touched_kind profile (Halves (Some low) None) = tt
touched_kind profile (Halves None high) = tt

cells_kinds : (profile : Profile) (span : Span) (place : ℕ) (ks : List Kind) → AreKinds ks → AreKinds (cells_touched profile span place ks)
cells_kinds profile span place [] h r = tt
cells_kinds profile span place (k ∷ ks) h zero = cond_both (is_touched span place) _ _ IsKind (λ _. touched_kind profile k) (λ _. h zero)
cells_kinds profile span place (k ∷ ks) h (suc r) = cells_kinds profile span (place + 8) ks (λ n. h (suc n)) r

kinds_both : (a b : Row) → AreKinds a → AreKinds b → AreKinds (a ++ b)
kinds_both [] b h g r = g r
kinds_both (k ∷ a) b h g zero = h zero
kinds_both (k ∷ a) b h g (suc r) = kinds_both a b (λ n. h (suc n)) g r

pub row_touched_kinds : (profile : Profile) (span : Option Span) (row : Row) → AreKinds row → AreKinds (row_touched profile span row)
row_touched_kinds profile None row h = h
row_touched_kinds profile (Some span) row h = kinds_both (take 11 row) _ (kinds_take 11 row h) (cells_kinds profile span 0 (drop 11 row) (kinds_drop 11 row h))

-- the words from a place on, before and after a write: one that isn't touched stays
abbrev pub KeepsWords : Span → ℕ → ℕ → List ℕ → List ℕ → Type 0
KeepsWords span place zero old new = Unit {0}
KeepsWords span place (suc n) old new =
    (little_endian (take 8 new) < 2 ^ 64)
    × (is_touched span place ≡ false → little_endian (take 8 new) ≡ little_endian (take 8 old))
    × KeepsWords span (place + 8) n (drop 8 old) (drop 8 new)

module _ (profile : Profile) (sound : IsSoundTable profile) where
  -- what is touched admits any number of 64 bits
  touched_admits : (k : Kind) (n : ℕ) → n < 2 ^ 64 → Admits (touched profile k) (Some n)
  touched_admits Unset n h = tt
  touched_admits Dead n h = sound.range (full 64) n (omega arith) (omega arith, omega arith)
  touched_admits (Num a) n h = sound.range (full 64) n (omega arith) (omega arith, omega arith)
  touched_admits (Ptr r lo hi) n h = tt
  touched_admits (Halves (Some low) (Some high)) n h = sound.range (full 64) n (omega arith) (omega arith, omega arith)
  touched_admits (Halves (Some low) None) n h = tt
  touched_admits (Halves None high) n h = tt

  one_cell : (b : Bool) (k : Kind) (old new : ℕ) → new < 2 ^ 64 → (b ≡ false → new ≡ old) → Admits k (Some old) → Admits (cond b (touched profile k) k) (Some new)
  one_cell true k old new f keep h = touched_admits k new f
  one_cell false k old new f keep h = subst (λ n. Admits k (Some n)) (sym (keep refl)) h

  cells_kept : (span : Span) (place n : ℕ) (ks : List Kind) (old new : List ℕ) → KeepsWords span place n old new → FitsRow ks (words n old) → FitsRow (cells_touched profile span place ks) (words n new)
  cells_kept span place zero [] old new keep h = tt
  cells_kept span place zero (k ∷ ks) old new keep h = absurd h
  cells_kept span place (suc n) [] old new keep h = absurd h
  cells_kept span place (suc n) (k ∷ ks) old new keep h =
      (one_cell (is_touched span place) k _ _ keep.0 keep.1 h.0, keep.0, cells_kept span (place + 8) n ks (drop 8 old) (drop 8 new) keep.2 h.2)

  pub row_kept : (span : Span) (row : Row) (registers : List (Option ℕ)) (old new : List ℕ) → IsLong profile row → KeepsWords span 0 (cell_count profile) old new → FitsRow row (values_of profile registers old) → FitsRow (row_touched profile (Some span) row) (values_of profile registers new)
  row_kept span row registers old new long keep fits =
      let e = eleven profile row registers old long fits in
      let left = subst (λ n. FitsRow (take n row) registers) e (fits_left registers (words (cell_count profile) old) row fits) in
      let right = subst (λ n. FitsRow (drop n row) (words (cell_count profile) old)) e (fits_right registers (words (cell_count profile) old) row fits) in
      fits_both (take 11 row) _ registers _ left (cells_kept span 0 (cell_count profile) (drop 11 row) old new keep right)

-- bytes of which those before place a and those from place b on are kept
abbrev pub Keeps : ℕ → ℕ → ℕ → List ℕ → List ℕ → Type 0
Keeps place a b old new = (j : ℕ) → (place + j < a) ⊎ (b ≤ place + j) → get_or new j 0 ≡ get_or old j 0

take_same : (n : ℕ) (xs ys : List ℕ) → length xs ≡ length ys → ((j : ℕ) → j < n → get_or xs j 0 ≡ get_or ys j 0) → take n xs ≡ take n ys
take_same zero xs ys e h = refl
take_same (suc n) [] [] e h = refl
take_same (suc n) [] (y ∷ ys) e h = absurd (omega arith)
take_same (suc n) (x ∷ xs) [] e h = absurd (omega arith)
take_same (suc n) (x ∷ xs) (y ∷ ys) e h = ap (λ z. z ∷ take n xs) (h zero (omega arith)) ∙ ap (λ zs. y ∷ zs) (take_same n xs ys (omega arith) (λ j l. h (suc j) (omega arith)))

away : (span : Span) (place a b j : ℕ) → j < 8 → span.from ≤ℤ pos a → pos b ≤ℤ span.to → is_touched span place ≡ false → (place + j < a) ⊎ (b ≤ place + j)
away span place a b j l p q t =
    cond_both (int_lt span.from (pos (place + 8))) zero zero (λ _. (place + j < a) ⊎ (b ≤ place + j))
    (λ s. cond_both (int_lt (pos place) span.to) zero zero (λ _. (place + j < a) ⊎ (b ≤ place + j))
    (λ u. ⊎_elim (λ lt. inl lt) (λ ge. inr (empty s u ge)) (cases_lt (place + j) a))
    (λ u. inr (grind (arith, ints))))
    (λ s. inl (grind (arith, ints)))
  where
    empty : int_lt span.from (pos (place + 8)) ≡ true → int_lt (pos place) span.to ≡ true → a ≤ place + j → b ≤ place + j
    empty s u ge = grind (arith, ints)

pub keeps_words : (span : Span) (n place a b : ℕ) (old new : List ℕ) → span.from ≤ℤ pos a → pos b ≤ℤ span.to → AreBytes new → length new ≡ length old → 8 * n ≤ length new → Keeps place a b old new → KeepsWords span place n old new
keeps_words span zero place a b old new p q bytes e l k = tt
keeps_words span (suc n) place a b old new p q bytes e l k =
    let len : length (take 8 new) ≡ 8 = length-take-le 8 new (omega (arith, l)) in (
      read_small Double (take 8 new) (bytes_take 8 new bytes) len,
      (λ t. ap little_endian (take_same 8 new old e (λ j s. k j (away span place a b j s p q t)))),
      keeps_words span n (place + 8) a b (drop 8 old) (drop 8 new) p q (bytes_drop 8 new bytes) (length-drop 8 new ∙ ap (λ m. m - 8) e ∙ sym (length-drop 8 old)) (omega (arith, l, length-drop 8 new))
          (λ j h. get_or-drop 8 new j 0 ∙ k (8 + j) (⊎_elim (λ g. inl (omega (arith, g))) (λ g. inr (omega (arith, g))) h) ∙ sym (get_or-drop 8 old j 0)),
    )

-- bytes that were overwritten from a place on
pub overwritten_keeps : (bytes : List ℕ) (at : ℕ) (new : List ℕ) (j : ℕ) → at + length new ≤ length bytes → (j < at) ⊎ (at + length new ≤ j) → get_or (overwritten bytes at new) j 0 ≡ get_or bytes j 0
overwritten_keeps bytes at new j h (inl before) =
    let front : length (take at bytes) ≡ at = length-take-le at bytes (omega (arith, h)) in
    get_or_append_left (take at bytes ++ new) (drop (at + length new) bytes) 0 j (omega (arith, length-append (take at bytes) new, front, before))
    ∙ get_or_append_left (take at bytes) new 0 j (omega (arith, front, before))
    ∙ get_or-take at bytes j 0 before
overwritten_keeps bytes at new j h (inr behind) =
    let front : length (take at bytes) ≡ at = length-take-le at bytes (omega (arith, h)) in
    let whole : length (take at bytes ++ new) ≡ at + length new = omega (arith, length-append (take at bytes) new, front) in
    let there : at + length new + (j - (at + length new)) ≡ j = omega (arith, behind) in
    get_or-append_right (take at bytes ++ new) (drop (at + length new) bytes) (at + length new) j 0 whole behind
    ∙ get_or-drop (at + length new) bytes (j - (at + length new)) 0
    ∙ ap (λ n. get_or bytes n 0) there

-- ---- whole cells

drop_none : (n : ℕ) → drop {A = ℕ} n [] ≡ []
drop_none zero = refl
drop_none (suc n) = refl

pub drop_twice : (m n : ℕ) (bytes : List ℕ) → drop n (drop m bytes) ≡ drop (m + n) bytes
drop_twice zero n bytes = ap (λ k. drop k bytes) (omega arith)
drop_twice (suc m) n [] = drop_none n ∙ sym (drop_none (suc m + n))
drop_twice (suc m) n (b ∷ bytes) = let e : suc (m + n) ≡ suc m + n = omega arith in drop_twice m n bytes ∙ ap (λ k. drop k (b ∷ bytes)) e

-- the word of a cell
pub word_at : (n i : ℕ) (bytes : List ℕ) → i < n → get_or (words n bytes) i None ≡ Some (little_endian (take 8 (drop (8 * i) bytes)))
word_at zero i bytes h = absurd (omega arith)
word_at (suc n) zero bytes h = refl
word_at (suc n) (suc i) bytes h =
    let next : 8 + 8 * i ≡ 8 * suc i = omega arith in
    word_at n i (drop 8 bytes) (omega arith) ∙ ap (λ bs. Some (little_endian (take 8 bs))) (drop_twice 8 (8 * i) bytes ∙ ap (λ m. drop m bytes) next)

-- what stands behind so many
pub seam : {A : Type 0} (xs ys : List A) (n : ℕ) → length xs ≡ n → drop n (xs ++ ys) ≡ ys
seam [] ys zero g = refl
seam [] ys (suc n) g = absurd (omega arith)
seam (x ∷ xs) ys zero g = absurd (omega arith)
seam (x ∷ xs) ys (suc n) g = seam xs ys n (omega arith)

-- a write that fills cell i touches no other
untouched : (profile : Profile) (span : Span) (place : ℕ) (ks : List Kind) → span.to ≤ℤ pos place → cells_touched profile span place ks ≡ ks
untouched profile span place [] h = refl
untouched profile span place (k ∷ ks) h =
    ap (λ x. x ∷ cells_touched profile span (place + 8) ks) (not_there (is_touched span place) (touched profile k) k (grind (arith, ints)))
    ∙ ap (λ xs. k ∷ xs) (untouched profile span (place + 8) ks (omega (arith, ints)))
  where
    not_there : (b : Bool) (x y : Kind) → b ≡ false → cond b x y ≡ y
    not_there true x y e = cc
    not_there false x y e = refl

set_touched : (profile : Profile) (span : Span) (place i : ℕ) (k : Kind) (ks : List Kind) → span.from ≡ pos (place + 8 * i) → span.to ≡ pos (place + 8 * i + 8) → set (cells_touched profile span place ks) i k ≡ set ks i k
set_touched profile span place i k [] e f = refl
set_touched profile span place zero k (x ∷ ks) e f = ap (λ xs. k ∷ xs) (untouched profile span (place + 8) ks (omega (arith, ints, f)))
set_touched profile span place (suc i) k (x ∷ ks) e f =
    ap (λ y. y ∷ set (cells_touched profile span (place + 8) ks) i k) (not_there (is_touched span place) (touched profile x) x (grind (arith, ints)))
    ∙ ap (λ xs. x ∷ xs) (set_touched profile span (place + 8) i k ks (e ∙ ap pos (omega arith)) (f ∙ ap pos (omega arith)))
  where
    not_there : (b : Bool) (x y : Kind) → b ≡ false → cond b x y ≡ y
    not_there true x y e = cc
    not_there false x y e = refl

-- a cell that is stored as a whole has the kind of what it holds then
pub cell_kept : (profile : Profile) (sound : IsSoundTable profile) (span : Span) (i : ℕ) (k : Kind) (n : ℕ) (row : Row) (registers : List (Option ℕ)) (old new : List ℕ) → IsLong profile row → span.from ≡ pos (8 * i) → span.to ≡ pos (8 * i + 8) → i < cell_count profile → KeepsWords span 0 (cell_count profile) old new → little_endian (take 8 (drop (8 * i) new)) ≡ n → Admits k (Some n) → FitsRow row (values_of profile registers old) → FitsRow (with_cell row i k) (values_of profile registers new)
cell_kept profile sound span i k n row registers old new long e f within keep is a fits =
    let c = cell_count profile in
    let ten = eleven profile row registers old long fits in
    let left = subst (λ m. FitsRow (take m row) registers) ten (fits_left registers (words c old) row fits) in
    let right = subst (λ m. FitsRow (drop m row) (words c old)) ten (fits_right registers (words c old) row fits) in
    let kept = cells_kept profile sound span 0 c (drop 11 row) old new keep right in
    let there = word_at c i new within ∙ ap Some is in
    let set = at_learn (cells_touched profile span 0 (drop 11 row)) (words c new) i k kept (subst (Admits k) (sym there) a) in
    let set' = subst (λ ks. FitsRow ks (words c new)) (set_touched profile span 0 i k (drop 11 row) (e ∙ ap pos (omega arith)) (f ∙ ap pos (omega arith))) set in
    subst (λ ks. FitsRow ks (values_of profile registers new)) (set_behind 11 row i k) (fits_both (take 11 row) _ registers (words c new) left set')

-- a cell that is loaded as a whole has the kind of what it holds
pub cell_fits : (profile : Profile) (row : Row) (registers : List (Option ℕ)) (stack : List ℕ) (i : ℕ) → IsLong profile row → FitsRow row (values_of profile registers stack) → i < cell_count profile → Admits (cell_kind row i) (Some (little_endian (take 8 (drop (8 * i) stack)))) × (little_endian (take 8 (drop (8 * i) stack)) < 2 ^ 64)
cell_fits profile row registers stack i long fits within =
    let c = cell_count profile in
    let ten = eleven profile row registers stack long fits in
    let h = at_register row (values_of profile registers stack) (11 + i) fits in
    let e = ap (λ m. get_or (values_of profile registers stack) (m + i) None) (sym ten) ∙ get_or-append-add registers (words c stack) i None ∙ word_at c i stack within in
    (subst (Admits (cell_kind row i)) e h.0, subst IsWord e h.1)

-- ---- lengths

cells_long : (profile : Profile) (span : Span) (place : ℕ) (ks : List Kind) → length (cells_touched profile span place ks) ≡ length ks
cells_long profile span place [] = refl
cells_long profile span place (k ∷ ks) = ap suc (cells_long profile span (place + 8) ks)

pub touched_long : (profile : Profile) (span : Option Span) (row : Row) → length (row_touched profile span row) ≡ length row
touched_long profile None row = refl
touched_long profile (Some span) row =
    length-append (take 11 row) (cells_touched profile span 0 (drop 11 row))
    ∙ ap (λ n. length (take 11 row) + n) (cells_long profile span 0 (drop 11 row))
    ∙ sym (length-append (take 11 row) (drop 11 row))
    ∙ ap length (take-append-drop 11 row)

pub stored_long : (profile : Profile) (o : Option CellPart) (span : Option Span) (k : Kind) (row : Row) → length (row_stored_in profile o span k row) ≡ length row
stored_long profile None span k row = touched_long profile span row
stored_long profile (Some at) span k row = length-set row (11 + at.cell) _

pub written_long : (profile : Profile) (callee : Callee) (row : Row) → length (row_written profile callee row) ≡ length row
written_long profile Copy row = touched_long profile (span_given 65536 (kind_at row R1) (kind_at row R3)) row
written_long profile Fill row = touched_long profile (span_given 65536 (kind_at row R1) (kind_at row R3)) row
written_long profile Same row = refl
written_long profile (Helper sig) row = refl
written_long profile Unknown row = refl

-- ---- kinds

module _ (profile : Profile) (sound : IsSoundTable profile) where
  pub stored_kinds : (o : Option CellPart) (span : Option Span) (k : Kind) (row : Row) → AreKinds row → IsKind k → AreKinds (row_stored_in profile o span k row)
  stored_kinds None span k row h hk = row_touched_kinds profile span row h
  stored_kinds (Some at) span k row h hk = kinds_set row (11 + at.cell) _ h (sound.written_kind at.part k (cell_kind row at.cell) hk (h (11 + at.cell)))

  pub read_kinds : (extend : Extend) (o : Option CellPart) (k : Kind) (row : Row) → AreKinds row → IsKind k → IsKind (read_kind profile extend o k row)
  read_kinds Zero None k row h hk = hk
  read_kinds Sign o k row h hk = hk
  read_kinds Zero (Some at) k row h hk = sound.part_kind at.part (cell_kind row at.cell) (h (11 + at.cell))

pub written_kinds : (profile : Profile) (callee : Callee) (row : Row) → AreKinds row → AreKinds (row_written profile callee row)
written_kinds profile Copy row h = row_touched_kinds profile (span_given 65536 (kind_at row R1) (kind_at row R3)) row h
written_kinds profile Fill row h = row_touched_kinds profile (span_given 65536 (kind_at row R1) (kind_at row R3)) row h
written_kinds profile Same row h = h
written_kinds profile (Helper sig) row h = h
written_kinds profile Unknown row h = h

-- ---- the start

pub zero_cells : (n : ℕ) (k : Kind) (bytes : List ℕ) → Admits k (Some 0) → ((j : ℕ) → get_or bytes j 0 ≡ 0) → FitsRow (replicate n k) (words n bytes)
zero_cells zero k bytes a h = tt
zero_cells (suc n) k bytes a h =
    let e = spells_zero 8 bytes h in
    (subst (λ m. Admits k (Some m)) (sym e) a, subst (λ m. m < 2 ^ 64) (sym e) (omega arith), zero_cells n k (drop 8 bytes) a (λ j. get_or-drop 8 bytes j 0 ∙ h (8 + j)))
  where
    spells_zero : (n : ℕ) (bytes : List ℕ) → ((j : ℕ) → get_or bytes j 0 ≡ 0) → little_endian (take n bytes) ≡ 0
    spells_zero zero bytes h = refl
    spells_zero (suc n) [] h = refl
    spells_zero (suc n) (b ∷ bytes) h = omega (arith, h zero, spells_zero n bytes (λ j. h (suc j)))

pub zero_bytes : (n j : ℕ) → ◌≡◌ {A = ℕ} (get_or (replicate n 0) j 0) 0
zero_bytes zero j = refl
zero_bytes (suc n) zero = refl
zero_bytes (suc n) (suc j) = zero_bytes n j

-- ---- the registers of a row of which cells were touched

pub before_touched : (profile : Profile) (span : Span) (place m : ℕ) (row : Row) (j : ℕ) → j < m → get_or (take m row ++ cells_touched profile span place (drop m row)) j Unset ≡ get_or row j Unset
before_touched profile span place zero row j h = absurd (omega arith)
before_touched profile span place (suc m) [] j h = refl
before_touched profile span place (suc m) (x ∷ row) zero h = refl
before_touched profile span place (suc m) (x ∷ row) (suc j) h = before_touched profile span place m row j (omega arith)

touched_register : (profile : Profile) (span : Option Span) (row : Row) (r : Register) → kind_at (row_touched profile span row) r ≡ kind_at row r
touched_register profile None row r = refl
touched_register profile (Some span) row r = before_touched profile span 0 11 row (number r) (number_small r)

set_away : (row : Row) (i j : ℕ) (k : Kind) → j < i → get_or (set row i k) j Unset ≡ get_or row j Unset
set_away [] i j k h = refl
set_away (x ∷ row) zero j k h = absurd (omega arith)
set_away (x ∷ row) (suc i) zero k h = refl
set_away (x ∷ row) (suc i) (suc j) k h = set_away row i j k (omega arith)

pub stored_register : (profile : Profile) (o : Option CellPart) (span : Option Span) (k : Kind) (row : Row) (r : Register) → kind_at (row_stored_in profile o span k row) r ≡ kind_at row r
stored_register profile None span k row r = touched_register profile span row r
stored_register profile (Some at) span k row r = set_away row (11 + at.cell) (number r) _ (omega (arith, number_small r))

-- ---- what the code does

pub touch_step : (profile : Profile) (span : Span) (place at : ℕ) (row : Row) (k : Kind) → at < length row → k ≡ cond (is_touched span place) (touched profile (get_or row at Unset)) (get_or row at Unset) → take (at + 1) (set row at k) ++ cells_touched profile span (place + 8) (drop (at + 1) (set row at k)) ≡ take at row ++ cells_touched profile span place (drop at row)
touch_step profile span place at row k h e = rw add-one (from at row h e)
  where
    from : (at : ℕ) (row : Row) → at < length row → k ≡ cond (is_touched span place) (touched profile (get_or row at Unset)) (get_or row at Unset) → take (suc at) (set row at k) ++ cells_touched profile span (place + 8) (drop (suc at) (set row at k)) ≡ take at row ++ cells_touched profile span place (drop at row)
    from at [] h e = absurd (omega arith)
    from zero (x ∷ row) h e = ap (λ y. y ∷ cells_touched profile span (place + 8) row) e
    from (suc at) (x ∷ row) h e = ap (λ ks. x ∷ ks) (from at row (omega arith) e)

pub touch_end : (profile : Profile) (span : Span) (place at : ℕ) (row : Row) → length row ≤ at → row ≡ take at row ++ cells_touched profile span place (drop at row)
touch_end profile span place zero [] h = refl
touch_end profile span place (suc at) [] h = refl
touch_end profile span place zero (x ∷ row) h = absurd (omega arith)
touch_end profile span place (suc at) (x ∷ row) h = ap (λ ks. x ∷ ks) (touch_end profile span place at row (omega arith))

abbrev pub put_first : List Kind → Kind → Kind → Kind → Kind → Kind → List Kind
put_first row a b c d e = set (set (set (set (set (set (set (set (set (set (set row 0 Unset) 1 a) 2 b) 3 c) 4 d) 5 Unset) 6 Unset) 7 Unset) 8 Unset) 9 Unset) 10 e

-- the row before the first slot
pub first_row : (profile : Profile) (n : ℕ) (a b c d e z : Kind) → n ≡ 11 + cell_count profile → put_first (replicate n z) a b c d e ≡ Unset ∷ a ∷ b ∷ c ∷ d ∷ Unset ∷ Unset ∷ Unset ∷ Unset ∷ Unset ∷ e ∷ replicate (cell_count profile) z
first_row First n a b c d e z is = subst (λ m. put_first (replicate m z) a b c d e ≡ Unset ∷ a ∷ b ∷ c ∷ d ∷ Unset ∷ Unset ∷ Unset ∷ Unset ∷ Unset ∷ e ∷ []) (sym is) refl
first_row Second n a b c d e z is = subst (λ m. put_first (replicate m z) a b c d e ≡ Unset ∷ a ∷ b ∷ c ∷ d ∷ Unset ∷ Unset ∷ Unset ∷ Unset ∷ Unset ∷ e ∷ replicate 64 z) (sym is) refl

replicate_kinds : (n : ℕ) (z : Kind) → IsKind z → AreKinds (replicate n z)
replicate_kinds zero z h r = tt
replicate_kinds (suc n) z h zero = h
replicate_kinds (suc n) z h (suc r) = replicate_kinds n z h r

pub first_kinds : (n : ℕ) (a b c d e z : Kind) → IsKind a → IsKind b → IsKind c → IsKind d → IsKind e → IsKind z → AreKinds (put_first (replicate n z) a b c d e)
first_kinds n a b c d e z ha hb hc hd he hz =
    kinds_set _ 10 e (kinds_set _ 9 Unset (kinds_set _ 8 Unset (kinds_set _ 7 Unset (kinds_set _ 6 Unset (kinds_set _ 5 Unset (kinds_set _ 4 d (kinds_set _ 3 c (kinds_set _ 2 b (kinds_set _ 1 a (kinds_set (replicate n z) 0 Unset (replicate_kinds n z hz) tt) ha) hb) hc) hd) tt) tt) tt) tt) tt) he

pub address_kind : (q : Region) (k : Kind) → k ≡ Ptr q (pos 0) (pos 0) → IsKind k
address_kind q k e = subst IsKind (sym e) (omega (arith, ints), omega (arith, ints), omega (arith, ints))
