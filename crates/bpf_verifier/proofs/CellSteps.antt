-- Reads and writes of the stack by a pointer: what the rules of cells leave fits what was read and written.
use Rattle.std.proofs.Common.{◌≡◌, ◌≢◌, ℕ, ℤ, pos, negsuc, ◌+◌, ◌-◌, ◌*◌, ◌/◌, ◌%◌, ◌^◌, ◌<◌, ◌≤◌, true, ◌&&◌, eqb, List, length, take, drop, Option, Some, None, refl, sym, ap, ◌∙◌, subst, inl, inr, ⊎_elim, arith}
use Rattle.std.specs.Prelude.{◌≤ℤ◌, ◌+ℤ◌, ◌-ℤ◌, int_le, nat_lt}
use Rattle.std.specs.Option.{option_or}
use Rattle.std.proofs.lemmas.Int.{ints}
use Rattle.std.proofs.lemmas.Bool.{cond_both, and_parts, eqb-true}
use Rattle.bpf_alu.specs.Value.{wrapped}
use Rattle.bpf_semantics.specs.Windows.{Memory, Covers, base, written, little_endian, low_bytes, overwritten, read}
use Rattle.bpf_semantics.specs.State.{State}
use Rattle.bpf_semantics.specs.Step.{AreBytes}
use Rattle.bpf_semantics.specs.declared.Region.{Region}
use Rattle.bpf_semantics.specs.declared.Region.TheVariants.{Stack, Input, Output}
use Rattle.bpf_semantics.specs.declared.profile.Profile.{Profile}
use Rattle.bpf_ranges.specs.declared.kind.Kind.{Kind}
use Rattle.bpf_ranges.specs.declared.kind.Kind.TheVariants.{Unset, Dead, Num, Ptr, Halves}
use Rattle.bpf_ranges.specs.Kinds.{Admits, IsKind, InRegion}
use Rattle.bpf_ranges.specs.declared.kind.Part.{Part}
use Rattle.bpf_ranges.specs.declared.kind.Part.TheVariants.{Whole, Low, High}
use Rattle.bpf_ranges.specs.Transfer.{part_of, with_part, value_with}
use Rattle.bpf_ranges.specs.Laws.{IsSoundTable}
use Rattle.bpf_verifier.specs.Program.{Program, HasLimits}
use Rattle.bpf_verifier.specs.Registers.{Row, cell_count, IsLong, is_inside}
use Rattle.bpf_verifier.specs.Cells.{span_of, cell_from, in_cell, part_from, part_at, cell_kind, with_cell, row_touched}
use Rattle.bpf_verifier.specs.declared.cell_part.CellPart.{CellPart}
use Rattle.bpf_verifier.specs.declared.span.Span.{Span}
use Rattle.bpf_verifier.specs.Table.{AreKinds}
use Rattle.bpf_verifier.proofs.Words.{wrapped_small, bytes_low, length_low}
use Rattle.bpf_verifier.proofs.Fits.{FitsRow}
use Rattle.bpf_verifier.proofs.Places.{IsMemory, int_le_true, natural, place_in, written_kept}
use Rattle.bpf_verifier.proofs.StackCells.{values_of, values, few_cells, KeepsWords, keeps_words, overwritten_keeps, row_kept, cell_kept, cell_fits}
use Rattle.bpf_verifier.proofs.Parts.{part_size, part_offset, part_ends, read_part, written_part}

-- ---- whole cells

some_same : (m i : ℕ) → Some m ≡ Some i → m ≡ i
some_same m i e = cc

from_is : (count : ℕ) (z : ℤ) (i : ℕ) → cell_from count z ≡ Some i → (z ≡ pos (8 * i)) × (i < count)
from_is count (pos n) i = cond_both (eqb (n % 8) 0 && nat_lt n (8 * count)) (Some (n / 8)) None (λ o. o ≡ Some i → (pos n ≡ pos (8 * i)) × (i < count))
    (λ t e.
    let parts = and_parts (eqb (n % 8) 0) (nat_lt n (8 * count)) t in
    let even = eqb-true (n % 8) 0 parts.0 in
    let same = some_same (n / 8) i e in
    let below : n < 8 * count = lower n (8 * count) parts.1 in
    (ap pos (eight n i even same), few n i count even same below))
    (λ f e. cc)
  where
    lower : (a b : ℕ) → nat_lt a b ≡ true → a < b
    lower a b t = grind arith

    eight : (n i : ℕ) → n % 8 ≡ 0 → n / 8 ≡ i → n ≡ 8 * i
    eight n i e f = omega arith

    few : (n i count : ℕ) → n % 8 ≡ 0 → n / 8 ≡ i → n < 8 * count → i < count
    few n i count e f h = omega arith
from_is count (negsuc n) i = λ e. cc

-- an access that reads or writes a part of a cell
pub record IsPart (profile : Profile) (k : Kind) (offset : ℤ) (size : ℕ) (c : CellPart) : Type 0 where
  pub lo : ℤ
  pub hi : ℤ
  pub is : k ≡ Ptr Stack lo hi
  pub one : hi ≤ℤ lo
  pub long : size ≡ part_size c.part
  pub place : (lo +ℤ offset +ℤ pos 512) ≡ pos (8 * c.cell + part_offset c.part)
  pub within : c.cell < cell_count profile

-- the cell of a part
in_is : (part : Part) (o : Option ℕ) (c : CellPart) → in_cell part o ≡ Some c → (o ≡ Some c.cell) × (c.part ≡ part)
in_is part None c e = cc
in_is part (Some i) c e = let same = some_part (record { cell = i; part = part }) c e in (ap (λ (d : CellPart). Some d.cell) same, sym (ap (λ (d : CellPart). d.part) same))
  where
    some_part : (c d : CellPart) → Some c ≡ Some d → c ≡ d
    some_part c d e = cc

-- so many bytes from a place of the stack on are those of a part
record IsFrom (count : ℕ) (z : ℤ) (size : ℕ) (c : CellPart) : Type 0 where
  long : size ≡ part_size c.part
  place : z ≡ pos (8 * c.cell + part_offset c.part)
  within : c.cell < count

whole_from : (count : ℕ) (z : ℤ) (c : CellPart) → in_cell Whole (cell_from count z) ≡ Some c → IsFrom count z 8 c
whole_from count z c e =
    let h = in_is Whole (cell_from count z) c e in
    let f = from_is count z c.cell h.0 in
    record { long = ap part_size (sym h.1); place = f.0 ∙ ap pos (omega arith) ∙ ap (λ q. pos (8 * c.cell + part_offset q)) (sym h.1); within = f.1 }

low_from : (count : ℕ) (z : ℤ) (c : CellPart) → in_cell Low (cell_from count z) ≡ Some c → IsFrom count z 4 c
low_from count z c e =
    let h = in_is Low (cell_from count z) c e in
    let f = from_is count z c.cell h.0 in
    record { long = ap part_size (sym h.1); place = f.0 ∙ ap pos (omega arith) ∙ ap (λ q. pos (8 * c.cell + part_offset q)) (sym h.1); within = f.1 }

high_from : (count : ℕ) (z : ℤ) (c : CellPart) → in_cell High (cell_from count (z -ℤ pos 4)) ≡ Some c → IsFrom count z 4 c
high_from count z c e =
    let h = in_is High (cell_from count (z -ℤ pos 4)) c e in
    let f = from_is count (z -ℤ pos 4) c.cell h.0 in
    let at : z ≡ pos (8 * c.cell + 4) = omega (arith, ints, f.0) in
    record { long = ap part_size (sym h.1); place = at ∙ ap (λ q. pos (8 * c.cell + part_offset q)) (sym h.1); within = f.1 }

half_from : (count : ℕ) (z : ℤ) (c : CellPart) (o : Option CellPart) → in_cell Low (cell_from count z) ≡ o → option_or o (in_cell High (cell_from count (z -ℤ pos 4))) ≡ Some c → IsFrom count z 4 c
half_from count z c None f e = high_from count z c e
half_from count z c (Some d) f e = low_from count z c (f ∙ e)

part_from_is : (count : ℕ) (z : ℤ) (size : ℕ) (c : CellPart) → part_from count z size ≡ Some c → IsFrom count z size c
part_from_is count z size c e =
    cond_both (eqb size 8) _ _ (λ o. o ≡ Some c → IsFrom count z size c)
    (λ t f. subst (λ n. IsFrom count z n c) (sym (eqb-true size 8 t)) (whole_from count z c f))
    (λ _. cond_both (eqb size 4) _ _ (λ o. o ≡ Some c → IsFrom count z size c)
    (λ t f. subst (λ n. IsFrom count z n c) (sym (eqb-true size 4 t)) (half_from count z c (in_cell Low (cell_from count z)) refl f))
    (λ _ f. cc))
    e

pub part_is : (profile : Profile) (k : Kind) (offset : ℤ) (size : ℕ) (c : CellPart) → part_at profile k offset size ≡ Some c → IsPart profile k offset size c
part_is profile Unset offset size c e = cc
part_is profile Dead offset size c e = cc
part_is profile (Num a) offset size c e = cc
part_is profile (Halves l h) offset size c e = cc
part_is profile (Ptr Input lo hi) offset size c e = cc
part_is profile (Ptr Output lo hi) offset size c e = cc
part_is profile (Ptr Stack lo hi) offset size c e =
    cond_both (int_le hi lo) _ _ (λ o. o ≡ Some c → IsPart profile (Ptr Stack lo hi) offset size c)
    (λ t f.
    let h = part_from_is (cell_count profile) (lo +ℤ offset +ℤ pos 512) size c f in
    record { lo = lo; hi = hi; is = refl; one = int_le_true hi lo t; long = h.long; place = h.place; within = h.within })
    (λ t f. cc)
    e

-- ---- one window

-- an address tells its window
pub one_region : (p : Program) (m : Memory) (q r : Region) (a n l : ℕ) → HasLimits p → IsMemory p m → Covers m q a n → Covers m r a l → q ≡ r
one_region p m Stack Stack a n l limits im c d = refl
one_region p m Input Input a n l limits im c d = refl
one_region p m Output Output a n l limits im c d = refl
one_region p m Stack Input a n l limits im c d = absurd (omega (arith, c.1, d.0, im.stack_length))
one_region p m Stack Output a n l limits im c d = absurd (omega (arith, c.1, d.0, im.stack_length))
one_region p m Input Stack a n l limits im c d = absurd (omega (arith, d.1, c.0, im.stack_length))
one_region p m Output Stack a n l limits im c d = absurd (omega (arith, d.1, c.0, im.stack_length))
one_region p m Input Output a n l limits im c d = absurd (omega (arith, c.1, d.0, im.input_length, limits.input))
one_region p m Output Input a n l limits im c d = absurd (omega (arith, d.1, c.0, im.input_length, limits.input))

-- the address of an access to the stack does not wrap
stack_address : (p : Program) (lo hi : ℤ) (n : ℕ) (offset : ℤ) (size : ℕ) → InRegion Stack lo hi n → is_inside p (Ptr Stack lo hi) offset size ≡ true → pos (wrapped 64 (pos n +ℤ offset)) ≡ (pos n +ℤ offset)
stack_address p lo hi n offset size h t =
    let parts = and_parts (int_le (negsuc 511) (lo +ℤ offset)) (int_le (hi +ℤ offset +ℤ pos size) (pos 0)) t in
    let low = int_le_true (negsuc 511) (lo +ℤ offset) parts.0 in
    let high = int_le_true (hi +ℤ offset +ℤ pos size) (pos 0) parts.1 in
    let at = natural (pos n +ℤ offset) (omega (arith, ints)) in
    let e = at.1 in
    let last : at.0 ≤ 2 ^ 40 = omega (arith, ints) in
    ap (λ z. pos (wrapped 64 z)) e ∙ ap pos (wrapped_small 64 at.0 (omega (arith, last))) ∙ sym e

clash : (q : Region) → q ≡ Stack → q ≢ Stack → ⊥
clash q e n = n e

module _ (sound : (profile : Profile) → IsSoundTable profile) (p : Program) (row : Row) (s : State) (limits : HasLimits p) (long : IsLong p.profile row) (fits : FitsRow row (values p.profile s)) (memory : IsMemory p s.memory) where
  -- the stack after a write into it keeps the words that aren't touched
  stack_keeps : (span : Span) (a : ℕ) (new : List ℕ) → Covers s.memory Stack a (length new) → AreBytes new → span.from ≤ℤ pos (a - base Stack) → pos (a - base Stack + length new) ≤ℤ span.to → KeepsWords span 0 (cell_count p.profile) s.memory.stack (written s.memory Stack (a - base Stack) new).stack
  stack_keeps span a new c bytes low high =
      let after = written_kept p s.memory Stack a new memory c bytes in
      let at = a - base Stack in
      let long = memory.stack_length in
      let fit : at + length new ≤ length s.memory.stack = omega (arith, c.0, c.1) in
      keeps_words span (cell_count p.profile) 0 at (at + length new) s.memory.stack _ low high after.stack_bytes (after.stack_length ∙ sym long) (omega (arith, after.stack_length, few_cells p.profile))
      (λ j h. overwritten_keeps s.memory.stack at new j fit (⊎_elim (λ g. inl (omega (arith, g))) (λ g. inr (omega (arith, g))) h))

  -- a write of at most so many bytes
  pub touched_fits : (k : Kind) (n : ℕ) (offset : ℤ) (size : ℕ) (region : Region) (new : List ℕ) → Admits k (Some n) → is_inside p k offset size ≡ true → Covers s.memory region (wrapped 64 (pos n +ℤ offset)) (length new) → length new ≤ size → AreBytes new → FitsRow (row_touched p.profile (span_of k offset size) row) (values_of p.profile s.registers (written s.memory region (wrapped 64 (pos n +ℤ offset) - base region) new).stack)
  touched_fits Unset n offset size region new a t c few bytes = cc
  touched_fits Dead n offset size region new a t c few bytes = absurd a
  touched_fits (Num b) n offset size region new a t c few bytes = cc
  touched_fits (Halves l h) n offset size region new a t c few bytes = cc
  touched_fits (Ptr Stack lo hi) n offset size Stack new a t c few bytes =
      let is = stack_address p lo hi n offset size a t in
      let at = wrapped 64 (pos n +ℤ offset) in
      let span : Span = record { from = lo +ℤ offset +ℤ pos 512; to = hi +ℤ offset +ℤ pos 512 +ℤ pos size } in
      let keep = stack_keeps span at new c bytes (omega (arith, ints, is, c.0, a.0, a.1)) (omega (arith, ints, is, c.0, a.0, a.1, few)) in
      row_kept p.profile (sound p.profile) span row s.registers s.memory.stack _ long keep fits
  touched_fits (Ptr Input lo hi) n offset size Input new a t c few bytes = fits
  touched_fits (Ptr Input lo hi) n offset size Output new a t c few bytes = fits
  touched_fits (Ptr Output lo hi) n offset size Input new a t c few bytes = fits
  touched_fits (Ptr Output lo hi) n offset size Output new a t c few bytes = fits
  touched_fits (Ptr Stack lo hi) n offset size Input new a t c few bytes =
      let e : Stack ≡ Input = one_region p s.memory Stack Input _ size _ limits memory (place_in p s.memory Stack lo hi n offset size limits memory a t) c in cc
  touched_fits (Ptr Stack lo hi) n offset size Output new a t c few bytes =
      let e : Stack ≡ Output = one_region p s.memory Stack Output _ size _ limits memory (place_in p s.memory Stack lo hi n offset size limits memory a t) c in cc
  touched_fits (Ptr Input lo hi) n offset size Stack new a t c few bytes =
      let e : Input ≡ Stack = one_region p s.memory Input Stack _ size _ limits memory (place_in p s.memory Input lo hi n offset size limits memory a t) c in cc
  touched_fits (Ptr Output lo hi) n offset size Stack new a t c few bytes =
      let e : Output ≡ Stack = one_region p s.memory Output Stack _ size _ limits memory (place_in p s.memory Output lo hi n offset size limits memory a t) c in cc

  -- where an access to a part of a cell stands
  part_place : (k : Kind) (n : ℕ) (offset : ℤ) (size : ℕ) (c : CellPart) (region : Region) (l : ℕ) (w : IsPart p.profile k offset size c) → Admits k (Some n) → is_inside p k offset size ≡ true → Covers s.memory region (wrapped 64 (pos n +ℤ offset)) l → (region ≡ Stack) × (wrapped 64 (pos n +ℤ offset) - base Stack ≡ 8 * c.cell + part_offset c.part) × (base Stack ≤ wrapped 64 (pos n +ℤ offset))
  part_place k n offset size c region l w a t covers =
      let a' : InRegion Stack w.lo w.hi n = subst (λ x. Admits x (Some n)) w.is a in
      let t' = subst (λ x. is_inside p x offset size ≡ true) w.is t in
      let c' = place_in p s.memory Stack w.lo w.hi n offset size limits memory a' t' in
      let same = one_region p s.memory Stack region _ size l limits memory c' covers in
      let is = stack_address p w.lo w.hi n offset size a' t' in
      (sym same, omega (arith, ints, is, c'.0, a'.0, a'.1, w.one, w.place), c'.0)

  -- a cell ends where the stack does, or before
  cell_ends : (i : ℕ) → i < cell_count p.profile → 8 * i + 8 ≤ length s.memory.stack
  cell_ends i h = omega (arith, memory.stack_length, few_cells p.profile, h)

  -- a store into a part of a cell
  pub stored_fits : (k : Kind) (n : ℕ) (offset : ℤ) (size : ℕ) (c : CellPart) (region : Region) (kind : Kind) (v : ℕ) → part_at p.profile k offset size ≡ Some c → Admits k (Some n) → is_inside p k offset size ≡ true → Covers s.memory region (wrapped 64 (pos n +ℤ offset)) size → AreKinds row → IsKind kind → v < 2 ^ 64 → Admits kind (Some v) → FitsRow (with_cell row c.cell (with_part c.part kind (cell_kind row c.cell))) (values_of p.profile s.registers (written s.memory region (wrapped 64 (pos n +ℤ offset) - base region) (low_bytes size v)).stack)
  stored_fits k n offset size c region kind v e a t covers kinds is small admits =
      let w = part_is p.profile k offset size c e in
      let h = part_place k n offset size c region size w a t covers in
      let at = wrapped 64 (pos n +ℤ offset) in
      let i = c.cell in
      let old = little_endian (take 8 (drop (8 * i) s.memory.stack)) in
      let cell = cell_fits p.profile row s.registers s.memory.stack i long fits w.within in
      let new = low_bytes size v in
      let len : length new ≡ size = length_low size v in
      let there = h.1 in
      let ends = part_ends c.part in
      let c' : Covers s.memory Stack at (length new) = subst (λ m. Covers s.memory Stack at m) (sym len) (subst (λ r. Covers s.memory r at size) h.0 covers) in
      let span : Span = record { from = pos (8 * i); to = pos (8 * i + 8) } in
      let keep = stack_keeps span at new c' (bytes_low size v) (omega (arith, ints, there)) (omega (arith, ints, there, len, w.long, ends)) in
      let all = cell_ends i w.within in
      let word : little_endian (take 8 (drop (8 * i) (written s.memory Stack (at - base Stack) new).stack)) ≡ value_with c.part v old =
      ap (λ m. little_endian (take 8 (drop (8 * i) (overwritten s.memory.stack m new)))) there
      ∙ ap (λ m. little_endian (take 8 (drop (8 * i) (overwritten s.memory.stack (8 * i + part_offset c.part) (low_bytes m v))))) w.long
      ∙ written_part c.part s.memory.stack i v memory.stack_bytes all small in
      subst (λ r. FitsRow (with_cell row i (with_part c.part kind (cell_kind row i))) (values_of p.profile s.registers (written s.memory r (at - base r) new).stack)) (sym h.0)
      (cell_kept p.profile (sound p.profile) span i (with_part c.part kind (cell_kind row i)) (value_with c.part v old) row s.registers s.memory.stack _ long refl refl w.within keep word
      ((sound p.profile).written c.part kind (cell_kind row i) v old is (kinds (11 + i)) cell.1 admits cell.0) fits)

  -- a load of a part of a cell
  pub loaded_fits : (k : Kind) (n : ℕ) (offset : ℤ) (size : ℕ) (c : CellPart) (region : Region) → part_at p.profile k offset size ≡ Some c → Admits k (Some n) → is_inside p k offset size ≡ true → Covers s.memory region (wrapped 64 (pos n +ℤ offset)) size → AreKinds row → Admits (part_of p.profile c.part (cell_kind row c.cell)) (Some (little_endian (read s.memory region (wrapped 64 (pos n +ℤ offset) - base region) size)))
  loaded_fits k n offset size c region e a t covers kinds =
      let w = part_is p.profile k offset size c e in
      let h = part_place k n offset size c region size w a t covers in
      let at = wrapped 64 (pos n +ℤ offset) in
      let i = c.cell in
      let cell = cell_fits p.profile row s.registers s.memory.stack i long fits w.within in
      let same : read s.memory region (at - base region) size ≡ take (part_size c.part) (drop (8 * i + part_offset c.part) s.memory.stack) =
      ap (λ r. read s.memory r (at - base r) size) h.0 ∙ ap (λ m. take m (drop (at - base Stack) s.memory.stack)) w.long ∙ ap (λ m. take (part_size c.part) (drop m s.memory.stack)) h.1 in
      subst (λ m. Admits (part_of p.profile c.part (cell_kind row i)) (Some m)) (sym (ap little_endian same ∙ read_part c.part s.memory.stack i memory.stack_bytes (cell_ends i w.within)))
      ((sound p.profile).part c.part (cell_kind row i) (little_endian (take 8 (drop (8 * i) s.memory.stack))) (kinds (11 + i)) cell.1 cell.0)
