-- Cells that are the zero with which they begin, through joins and instructions.
use Rattle.std.proofs.Common.{◌≡◌, ℕ, zero, suc, ◌+◌, ◌-◌, ◌*◌, ◌<◌, ◌≤◌, ℤ, pos, true, false, cond, eqb, List, [], ◌∷◌, ◌++◌, length, get_or, set, take, drop, Option, Some, None, refl, sym, ap, ◌∙◌, subst, ⊎_elim, arith, add-one}
use Rattle.std.specs.Prelude.{◌≤ℤ◌, IfSome, int_lt, ◌&&◌, replicate}
use Rattle.std.proofs.lemmas.Int.{ints}
use Rattle.std.proofs.lemmas.Bool.{cond_both, cases_lt}
use Rattle.std.proofs.lemmas.List.{get_or-drop, get_or-append_right, length-take-le}
use Rattle.bpf_insn.specs.Encoding.{number, size_bytes}
use Rattle.bpf_insn.specs.declared.Register.{Register}
use Rattle.bpf_insn.specs.declared.Operand.TheVariants as operand
use Rattle.bpf_insn.specs.declared.Insn.{Insn}
use Rattle.bpf_insn.specs.declared.Insn.TheVariants as insn
use Rattle.bpf_semantics.specs.declared.profile.Profile.{Profile}
use Rattle.bpf_semantics.specs.declared.profile.Profile.TheVariants.{First, Second}
use Rattle.bpf_ranges.specs.declared.kind.Kind.{Kind}
use Rattle.bpf_ranges.specs.declared.kind.Kind.TheVariants.{Unset, Ptr}
use Rattle.bpf_semantics.specs.declared.Region.TheVariants.{Stack}
use Rattle.bpf_ranges.specs.Transfer.{join_of}
use Rattle.bpf_helpers.specs.Calls.{Callee, Copy, Fill, Same, Helper, Unknown}
use Rattle.bpf_verifier.specs.declared.cell_part.CellPart.{CellPart}
use Rattle.bpf_verifier.specs.declared.span.Span.{Span}
use Rattle.bpf_verifier.specs.Registers.{Row, cell_count, one_number, kind_at, with_kind}
use Rattle.bpf_verifier.specs.Cells.{is_touched, touched, cells_touched, row_touched, row_stored_in, part_at, span_of, span_by_call, span_written, row_written}
use Rattle.bpf_verifier.specs.Answered.{answer_kind, row_after_call}
use Rattle.bpf_verifier.specs.Rules.{row_after, row_taken, refined}
use Rattle.bpf_verifier.specs.Table.{join_rows}
use Rattle.bpf_verifier.specs.Rows.{StartsZero, AreAlike, IsKnown, HasKinds, AreRowKinds}
use Rattle.bpf_copies.proofs.Slots.{number_small}
use Rattle.bpf_verifier.proofs.StackCells.{put_first, first_row}
use Rattle.bpf_verifier.proofs.CellSteps.{part_is}
use Rattle.bpf_verifier.proofs.Parts.{offset_few}

-- ---- joins

pub zero_joined : (profile : Profile) → join_of profile (one_number profile 0) (one_number profile 0) ≡ one_number profile 0
unfolding lib.Count.count_leading_zeros
zero_joined First = refl
zero_joined Second = refl

-- what a write leaves elsewhere
pub set_elsewhere : (row : Row) (i j : ℕ) (k : Kind) → i < j → get_or (set row i k) j Unset ≡ get_or row j Unset
set_elsewhere [] i j k lt = refl
set_elsewhere (x ∷ row) zero zero k lt = absurd (omega arith)
set_elsewhere (x ∷ row) zero (suc j) k lt = refl
set_elsewhere (x ∷ row) (suc i) zero k lt = absurd (omega arith)
set_elsewhere (x ∷ row) (suc i) (suc j) k lt = set_elsewhere row i j k (omega (arith, lt))

set_later : (row : Row) (i j : ℕ) (k : Kind) → j < i → get_or (set row i k) j Unset ≡ get_or row j Unset
set_later [] i j k lt = refl
set_later (x ∷ row) zero j k lt = absurd (omega (arith, lt))
set_later (x ∷ row) (suc i) zero k lt = refl
set_later (x ∷ row) (suc i) (suc j) k lt = set_later row i j k (omega (arith, lt))

joined_at : (profile : Profile) (a b : Row) (i : ℕ) → i < length a → i < length b → get_or (join_rows profile a b) i Unset ≡ join_of profile (get_or a i Unset) (get_or b i Unset)
joined_at profile [] b i h g = absurd (omega (arith, h))
joined_at profile (x ∷ a) [] i h g = absurd (omega (arith, g))
joined_at profile (x ∷ a) (y ∷ b) zero h g = refl
joined_at profile (x ∷ a) (y ∷ b) (suc i) h g = joined_at profile a b i (omega (arith, h)) (omega (arith, g))

pub joined_zeros : (profile : Profile) (low : ℕ) (a b : Row) → low ≤ length a → low ≤ length b → StartsZero profile low a → StartsZero profile low b → StartsZero profile low (join_rows profile a b)
joined_zeros profile low a b la lb za zb i ge lt =
    joined_at profile a b i (omega arith) (omega arith)
    ∙ ap (λ k. join_of profile k (get_or b i Unset)) (za i ge lt)
    ∙ ap (join_of profile (one_number profile 0)) (zb i ge lt)
    ∙ zero_joined profile

-- a place at which both are the zero is joined by leaving it
front_skip : (profile : Profile) (i : ℕ) (a b : Row) → i < length a → i < length b → get_or a i Unset ≡ one_number profile 0 → get_or b i Unset ≡ one_number profile 0 → join_rows profile (take i a) (take i b) ++ drop i a ≡ join_rows profile (take (suc i) a) (take (suc i) b) ++ drop (suc i) a
front_skip profile i [] b h g p q = absurd (omega (arith, h))
front_skip profile i (x ∷ a) [] h g p q = absurd (omega (arith, g))
front_skip profile zero (x ∷ a) (y ∷ b) h g p q =
    ap (λ k. k ∷ a) (p ∙ sym (ap (λ k. join_of profile k y) p ∙ ap (join_of profile (one_number profile 0)) q ∙ zero_joined profile))
front_skip profile (suc i) (x ∷ a) (y ∷ b) h g p q = ap (λ ks. join_of profile x y ∷ ks) (front_skip profile i a b (omega (arith, h)) (omega (arith, g)) p q)

onto_skip : (profile : Profile) (i : ℕ) (a b : Row) → i < length a → i < length b → get_or a i Unset ≡ one_number profile 0 → get_or b i Unset ≡ one_number profile 0 → join_rows profile (take i a) (take i b) ++ drop i b ≡ join_rows profile (take (suc i) a) (take (suc i) b) ++ drop (suc i) b
onto_skip profile i [] b h g p q = absurd (omega (arith, h))
onto_skip profile i (x ∷ a) [] h g p q = absurd (omega (arith, g))
onto_skip profile zero (x ∷ a) (y ∷ b) h g p q =
    ap (λ k. k ∷ b) (q ∙ sym (ap (λ k. join_of profile k y) p ∙ ap (join_of profile (one_number profile 0)) q ∙ zero_joined profile))
onto_skip profile (suc i) (x ∷ a) (y ∷ b) h g p q = ap (λ ks. join_of profile x y ∷ ks) (onto_skip profile i a b (omega (arith, h)) (omega (arith, g)) p q)

-- all places are joined
pub joined_all : (profile : Profile) (i : ℕ) (a b row : Row) → length a ≡ length b → length a ≤ i → row ≡ join_rows profile (take i a) (take i b) ++ drop i a → row ≡ join_rows profile a b
joined_all profile i a b row e le is = is ∙ all i a b e le
  where
    all : (i : ℕ) (a b : Row) → length a ≡ length b → length a ≤ i → join_rows profile (take i a) (take i b) ++ drop i a ≡ join_rows profile a b
    all zero [] [] e le = refl
    all zero [] (y ∷ b) e le = absurd (omega (arith, e))
    all zero (x ∷ a) b e le = absurd (omega (arith, le))
    all (suc i) [] b e le = refl
    all (suc i) (x ∷ a) [] e le = absurd (omega (arith, e))
    all (suc i) (x ∷ a) (y ∷ b) e le = ap (λ ks. join_of profile x y ∷ ks) (all i a b (omega (arith, e)) (omega (arith, le)))

pub all_onto : (profile : Profile) (i : ℕ) (a b row : Row) → length a ≡ length b → length a ≤ i → row ≡ join_rows profile (take i a) (take i b) ++ drop i b → row ≡ join_rows profile a b
all_onto profile i a b row e le is = is ∙ all i a b e le
  where
    all : (i : ℕ) (a b : Row) → length a ≡ length b → length a ≤ i → join_rows profile (take i a) (take i b) ++ drop i b ≡ join_rows profile a b
    all zero [] [] e le = refl
    all zero [] (y ∷ b) e le = absurd (omega (arith, e))
    all zero (x ∷ a) b e le = absurd (omega (arith, le))
    all (suc i) [] [] e le = refl
    all (suc i) [] (y ∷ b) e le = absurd (omega (arith, e))
    all (suc i) (x ∷ a) [] e le = absurd (omega (arith, e))
    all (suc i) (x ∷ a) (y ∷ b) e le = ap (λ ks. join_of profile x y ∷ ks) (all i a b (omega (arith, e)) (omega (arith, le)))

-- so is each of the zeros of two rows, joined into the first or onto the second
join_passed : (profile : Profile) (low i : ℕ) (a b row : Row) → i < length a → i < length b → 11 ≤ i → i < low → StartsZero profile low a → StartsZero profile low b → row ≡ join_rows profile (take i a) (take i b) ++ drop i a → row ≡ join_rows profile (take (i + 1) a) (take (i + 1) b) ++ drop (i + 1) a
join_passed profile low i a b row h g ge lt za zb e = rw add-one (e ∙ front_skip profile i a b h g (za i ge lt) (zb i ge lt))

onto_passed : (profile : Profile) (low i : ℕ) (a b row : Row) → i < length a → i < length b → 11 ≤ i → i < low → StartsZero profile low a → StartsZero profile low b → row ≡ join_rows profile (take i a) (take i b) ++ drop i b → row ≡ join_rows profile (take (i + 1) a) (take (i + 1) b) ++ drop (i + 1) b
onto_passed profile low i a b row h g ge lt za zb e = rw add-one (e ∙ onto_skip profile i a b h g (za i ge lt) (zb i ge lt))

-- and so are all of them, from the first cell on
join_cells : (profile : Profile) (low n i : ℕ) (a b row : Row) → i ≡ 11 + n → i ≤ low → low ≤ length a → low ≤ length b → StartsZero profile low a → StartsZero profile low b → row ≡ join_rows profile (take 11 a) (take 11 b) ++ drop 11 a → row ≡ join_rows profile (take i a) (take i b) ++ drop i a
join_cells profile low zero i a b row at le la lb za zb e = subst (λ j. row ≡ join_rows profile (take j a) (take j b) ++ drop j a) (sym at) e
join_cells profile low (suc n) i a b row at le la lb za zb e =
    let one : 11 + n + 1 ≡ i = omega (arith, at) in
    subst (λ j. row ≡ join_rows profile (take j a) (take j b) ++ drop j a) one
    (join_passed profile low (11 + n) a b row (omega (arith, at, le, la)) (omega (arith, at, le, lb)) (omega arith) (omega (arith, at, le)) za zb (join_cells profile low n (11 + n) a b row refl (omega (arith, at, le)) la lb za zb e))

onto_cells : (profile : Profile) (low n i : ℕ) (a b row : Row) → i ≡ 11 + n → i ≤ low → low ≤ length a → low ≤ length b → StartsZero profile low a → StartsZero profile low b → row ≡ join_rows profile (take 11 a) (take 11 b) ++ drop 11 b → row ≡ join_rows profile (take i a) (take i b) ++ drop i b
onto_cells profile low zero i a b row at le la lb za zb e = subst (λ j. row ≡ join_rows profile (take j a) (take j b) ++ drop j b) (sym at) e
onto_cells profile low (suc n) i a b row at le la lb za zb e =
    let one : 11 + n + 1 ≡ i = omega (arith, at) in
    subst (λ j. row ≡ join_rows profile (take j a) (take j b) ++ drop j b) one
    (onto_passed profile low (11 + n) a b row (omega (arith, at, le, la)) (omega (arith, at, le, lb)) (omega arith) (omega (arith, at, le)) za zb (onto_cells profile low n (11 + n) a b row refl (omega (arith, at, le)) la lb za zb e))

pub cells_joined : (profile : Profile) (low : ℕ) (a b row : Row) → 11 ≤ low → low ≤ length a → low ≤ length b → StartsZero profile low a → StartsZero profile low b → row ≡ join_rows profile (take 11 a) (take 11 b) ++ drop 11 a → row ≡ join_rows profile (take low a) (take low b) ++ drop low a
cells_joined profile low a b row ge = join_cells profile low (low - 11) low a b row (omega (arith, ge)) (omega arith)

pub cells_onto : (profile : Profile) (low : ℕ) (a b row : Row) → 11 ≤ low → low ≤ length a → low ≤ length b → StartsZero profile low a → StartsZero profile low b → row ≡ join_rows profile (take 11 a) (take 11 b) ++ drop 11 b → row ≡ join_rows profile (take low a) (take low b) ++ drop low b
cells_onto profile low a b row ge = onto_cells profile low (low - 11) low a b row (omega (arith, ge)) (omega arith)

-- two rows that begin with zeros are alike there
pub zeros_alike : (profile : Profile) (low : ℕ) (a b : Row) → StartsZero profile low a → StartsZero profile low b → AreAlike low a b
zeros_alike profile low a b za zb i ge lt = za i ge lt ∙ sym (zb i ge lt)

-- ---- a lower place

pub fewer_zeros : (profile : Profile) (low less : ℕ) (row : Row) → less ≤ low → StartsZero profile low row → StartsZero profile less row
fewer_zeros profile low less row le z i ge lt = z i ge (omega (arith, le, lt))

pub known_below : (profile : Profile) (low less : ℕ) (row : Row) → less ≤ low → IsKnown profile low row → IsKnown profile less row
known_below profile low less row le k = record { kinds = k.kinds; zeros = fewer_zeros profile low less row le k.zeros }

pub has_below : (profile : Profile) (low less : ℕ) (o : Option Row) → less ≤ low → HasKinds profile low o → HasKinds profile less o
has_below profile low less None le h = tt
has_below profile low less (Some row) le h = known_below profile low less row le h

pub rows_below : (profile : Profile) (low less : ℕ) (rows : List (Option Row)) → less ≤ low → AreRowKinds profile low rows → AreRowKinds profile less rows
rows_below profile low less rows le h k o e = has_below profile low less o le (h k o e)

-- ---- instructions

-- a write to a register
pub register_zeros : (profile : Profile) (low : ℕ) (row : Row) (r : Register) (k : Kind) → StartsZero profile low row → StartsZero profile low (with_kind row r k)
register_zeros profile low row r k z i ge lt = set_elsewhere row (number r) i k (omega (arith, number_small r, ge)) ∙ z i ge lt

refined_zeros : (profile : Profile) (low : ℕ) (row : Row) (c : _) (w : _) (left : Register) (right : _) (t : _) → StartsZero profile low row → StartsZero profile low (refined profile c w left right t row)
refined_zeros profile low row c w left (operand.Immediate n) t z = register_zeros profile low row left _ z
refined_zeros profile low row c w left (operand.Register right) t z =
    cond_both (eqb (number left) (number right)) _ _ (StartsZero profile low)
    (λ _. z)
    (λ _. register_zeros profile low (with_kind row left _) right _ (register_zeros profile low row left _ z))

pub taken_zeros : (profile : Profile) (low : ℕ) (row : Row) (x : Insn) → StartsZero profile low row → StartsZero profile low (row_taken profile row x)
taken_zeros profile low row (insn.JumpIf c w left right o) z = refined_zeros profile low row c w left right true z
taken_zeros profile low row (insn.Alu o w dst src) z = z
taken_zeros profile low row (insn.Swap kind n dst) z = z
taken_zeros profile low row (insn.Load size extend dst base o) z = z
taken_zeros profile low row (insn.Store size base o src) z = z
taken_zeros profile low row (insn.Jump o) z = z
taken_zeros profile low row (insn.Call n) z = z
taken_zeros profile low row insn.Exit z = z
taken_zeros profile low row (insn.Wide dst n) z = z
taken_zeros profile low row insn.Tail z = z

-- a write to the stack: no cell that ends by its first place is touched
abbrev pub Ends : ℕ → Option Span → Type 0
Ends low o = IfSome o (λ span. 11 < low → pos (8 * (low - 11)) ≤ℤ span.from)

int_lt_false : (a b : ℤ) → b ≤ℤ a → int_lt a b ≡ false
int_lt_false a b le = grind (arith, ints)

not_touched : (span : Span) (place : ℕ) → pos (place + 8) ≤ℤ span.from → is_touched span place ≡ false
not_touched span place le = ap (λ t. t && int_lt (pos place) span.to && int_lt span.from span.to) (int_lt_false span.from (pos (place + 8)) le)

cells_at : (profile : Profile) (span : Span) (place : ℕ) (ks : List Kind) (j : ℕ) → pos (place + 8 * j + 8) ≤ℤ span.from → get_or (cells_touched profile span place ks) j Unset ≡ get_or ks j Unset
cells_at profile span place [] j le = refl
cells_at profile span place (k ∷ ks) zero le = ap (λ t. cond t (touched profile k) k) (not_touched span place (omega (arith, ints, le)))
cells_at profile span place (k ∷ ks) (suc j) le = cells_at profile span (place + 8) ks j (omega (arith, ints, le))

touched_zeros : (profile : Profile) (low : ℕ) (row : Row) (o : Option Span) → 11 ≤ length row → Ends low o → StartsZero profile low row → StartsZero profile low (row_touched profile o row)
touched_zeros profile low row None long ends z = z
touched_zeros profile low row (Some span) long ends z = λ i ge lt.
    let front : length (take 11 row) ≡ 11 = length-take-le 11 row long in
    let there : 11 + (i - 11) ≡ i = omega (arith, ge) in
    let far = ends (omega (arith, ge, lt)) in
    get_or-append_right (take 11 row) (cells_touched profile span 0 (drop 11 row)) 11 i Unset front ge
    ∙ cells_at profile span 0 (drop 11 row) (i - 11) (omega (arith, ints, far, ge, lt))
    ∙ get_or-drop 11 row (i - 11) Unset
    ∙ ap (λ n. get_or row n Unset) there
    ∙ z i ge lt

part_below : (profile : Profile) (k : Kind) (offset : ℤ) (size : ℕ) (c : CellPart) (low : ℕ) → part_at profile k offset size ≡ Some c → Ends low (span_of k offset size) → low ≤ 11 + c.cell
part_below profile k offset size c low e ends =
    let w = part_is profile k offset size c e in
    let first = offset_few c.part in
    let far : Ends low (span_of (Ptr Stack w.lo w.hi) offset size) = subst (λ a. Ends low (span_of a offset size)) w.is ends in
    ⊎_elim (λ lt. let h = far lt in let p = w.place in omega (arith, ints, h, p, lt, first)) (λ ge. omega (arith, ge)) (cases_lt 11 low)

stored_zeros : (profile : Profile) (low : ℕ) (row : Row) (o : Option CellPart) (span : Option Span) (k : Kind) → 11 ≤ length row → ((c : CellPart) → o ≡ Some c → low ≤ 11 + c.cell) → Ends low span → StartsZero profile low row → StartsZero profile low (row_stored_in profile o span k row)
stored_zeros profile low row None span k long whole ends z = touched_zeros profile low row span long ends z
stored_zeros profile low row (Some c) span k long whole ends z = λ i ge lt. let le = whole c refl in set_later row (11 + c.cell) i _ (omega (arith, le, lt)) ∙ z i ge lt

written_zeros : (profile : Profile) (low : ℕ) (callee : Callee) (row : Row) → 11 ≤ length row → Ends low (span_by_call callee row) → StartsZero profile low row → StartsZero profile low (row_written profile callee row)
written_zeros profile low Copy row long ends z = touched_zeros profile low row _ long ends z
written_zeros profile low Fill row long ends z = touched_zeros profile low row _ long ends z
written_zeros profile low Same row long ends z = z
written_zeros profile low (Helper sig) row long ends z = z
written_zeros profile low Unknown row long ends z = z

called_zeros : (profile : Profile) (low : ℕ) (callee : Callee) (row : Row) → 11 ≤ length row → Ends low (span_by_call callee row) → StartsZero profile low row → StartsZero profile low (row_after_call profile callee row)
called_zeros profile low callee row long ends z i ge lt =
    let there : 6 + (i - 6) ≡ i = omega (arith, ge) in
    get_or-append_right (answer_kind profile callee ∷ Unset ∷ Unset ∷ Unset ∷ Unset ∷ Unset ∷ []) (drop 6 (row_written profile callee row)) 6 i Unset refl (omega (arith, ge))
    ∙ get_or-drop 6 (row_written profile callee row) (i - 6) Unset
    ∙ ap (λ n. get_or (row_written profile callee row) n Unset) there
    ∙ written_zeros profile low callee row long ends z i ge lt

pub after_zeros : (profile : Profile) (low : ℕ) (callee : Callee) (row : Row) (x : Insn) → 11 ≤ length row → Ends low (span_written callee row x) → StartsZero profile low row → StartsZero profile low (row_after profile callee row x)
after_zeros profile low callee row (insn.Alu o w dst src) long ends z = register_zeros profile low row dst _ z
after_zeros profile low callee row (insn.Swap kind n dst) long ends z = register_zeros profile low row dst _ z
after_zeros profile low callee row (insn.Load size extend dst base o) long ends z = register_zeros profile low row dst _ z
after_zeros profile low callee row (insn.Store size base o src) long ends z =
    stored_zeros profile low row (part_at profile (kind_at row base) o (size_bytes size)) (span_of (kind_at row base) o (size_bytes size)) _ long
    (λ c e. part_below profile (kind_at row base) o (size_bytes size) c low e ends) ends z
after_zeros profile low callee row (insn.Jump o) long ends z = z
after_zeros profile low callee row (insn.JumpIf c w left right o) long ends z = refined_zeros profile low row c w left right false z
after_zeros profile low callee row (insn.Call n) long ends z = called_zeros profile low callee row long ends z
after_zeros profile low callee row insn.Exit long ends z = z
after_zeros profile low callee row (insn.Wide dst n) long ends z = register_zeros profile low row dst _ z
after_zeros profile low callee row insn.Tail long ends z = z

-- what a write to the stack by a call is
pub by_call : (profile : Profile) (callee : Callee) (row : Row) → row_touched profile (span_by_call callee row) row ≡ row_written profile callee row
by_call profile Copy row = refl
by_call profile Fill row = refl
by_call profile Same row = refl
by_call profile (Helper sig) row = refl
by_call profile Unknown row = refl

-- ---- the row before the first slot

zeros_from : (n : ℕ) (z : Kind) (j : ℕ) → j < n → get_or (replicate n z) j Unset ≡ z
zeros_from zero z j lt = absurd (omega (arith, lt))
zeros_from (suc n) z zero lt = refl
zeros_from (suc n) z (suc j) lt = zeros_from n z j (omega (arith, lt))

pub first_zeros : (profile : Profile) (n : ℕ) (a b c d e z : Kind) → z ≡ one_number profile 0 → n ≡ 11 + cell_count profile → StartsZero profile n (put_first (replicate n z) a b c d e)
first_zeros profile n a b c d e z ez is =
    subst (StartsZero profile n) (sym (first_row profile n a b c d e z is))
    (λ i ge lt.
    get_or-append_right (Unset ∷ a ∷ b ∷ c ∷ d ∷ Unset ∷ Unset ∷ Unset ∷ Unset ∷ Unset ∷ e ∷ []) (replicate (cell_count profile) z) 11 i Unset refl ge
    ∙ zeros_from (cell_count profile) z (i - 11) (omega (arith, is, ge, lt))
    ∙ ez)
