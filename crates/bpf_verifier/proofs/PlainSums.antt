-- What sums tell in plain programs: the addresses stay, and a number stays one, or Dead.
use Rattle.std.proofs.Common.{◌≡◌, ℕ, ℤ, zero, suc, ◌-◌, ◌^◌, true, [], ◌∷◌, get_or, set, Option, Some, None, refl, ap, subst}
use Rattle.std.specs.Prelude.{int_lt, nat_le, max, min}
use Rattle.std.proofs.lemmas.Bool.{cond_both}
use Rattle.bpf_alu.specs.declared.Cond.{Cond}
use Rattle.bpf_alu.specs.declared.Cond.TheVariants.{LessEqual}
use Rattle.bpf_alu.specs.declared.Width.TheVariants.{W64}
use Rattle.bpf_insn.specs.Encoding.{number}
use Rattle.bpf_insn.specs.declared.Register.{Register}
use Rattle.bpf_insn.specs.declared.Register.TheVariants.{R0, R1, R2, R3, R4, R5, R6, R7, R8, R9, R10}
use Rattle.bpf_insn.specs.declared.Operand.{Operand}
use Rattle.bpf_insn.specs.declared.Operand.TheVariants as operand
use Rattle.bpf_insn.specs.declared.Insn.{Insn}
use Rattle.bpf_semantics.specs.declared.profile.Profile.{Profile}
use Rattle.bpf_semantics.specs.declared.profile.Profile.TheVariants.{Second}
use Rattle.bpf_ranges.specs.declared.kind.Kind.{Kind}
use Rattle.bpf_ranges.specs.declared.kind.Kind.TheVariants.{Unset, Dead, Num, Ptr, Halves}
use Rattle.bpf_ranges.specs.declared.number.Number.{Number}
use Rattle.bpf_ranges.specs.declared.range.Range.{Range}
use Rattle.bpf_ranges.specs.Transfer.{address, pointer_left, kinds_left, refine_of}
use Rattle.bpf_semantics.specs.declared.Region.{Region}
use Rattle.bpf_verifier.specs.Registers.{Row, kind_at, one_number, kind_from}
use Rattle.bpf_verifier.specs.Sums.{KnownSums, most, at_most, operand_at_most, told_by, told, summed}
use Rattle.bpf_verifier.specs.Paired.{paired}
use Rattle.bpf_verifier.specs.declared.pair.Pairs.{Pairs}
use Rattle.bpf_verifier.proofs.Summed.{summed_keeps}
use Rattle.bpf_verifier.specs.declared.sum.Sum.{Sum}
use Rattle.bpf_verifier.proofs.SumSteps.{told_keeps}
use Rattle.bpf_verifier.proofs.PairRows.{paired_keeps}
use Rattle.bpf_verifier.proofs.PlainRows.{IsNum, IsNumOrUnset, PlainAt, num_or_unset, left_number, not_number, refined_numbers, cells_with_kind, Follows}

-- ---- one kind

narrowed_number : (n : ℕ) (a : Number) → IsNum (at_most n (Num a))
narrowed_number n a = (refined_numbers Second LessEqual W64 (Num a) (one_number Second n) true tt (left_number _)).0

at_most_number : (n : ℕ) (k : Kind) → IsNumOrUnset k → IsNumOrUnset (at_most n k)
at_most_number n Unset h = tt
at_most_number n Dead h = tt
at_most_number n (Num a) h = num_or_unset _ (narrowed_number n a)
at_most_number n (Ptr q lo hi) h = absurd h
at_most_number n (Halves l u) h = absurd h

at_most_plain : (n : ℕ) (r : Register) (k : Kind) → PlainAt r k → PlainAt r (at_most n k)
at_most_plain n R0 k h = at_most_number n k h
at_most_plain n R1 k h = ap (at_most n) h
at_most_plain n R2 k h = at_most_number n k h
at_most_plain n R3 k h = ap (at_most n) h
at_most_plain n R4 k h = at_most_number n k h
at_most_plain n R5 k h = at_most_number n k h
at_most_plain n R6 k h = at_most_number n k h
at_most_plain n R7 k h = at_most_number n k h
at_most_plain n R8 k h = at_most_number n k h
at_most_plain n R9 k h = at_most_number n k h
at_most_plain n R10 k h = ap (at_most n) h

-- a pointer stays a pointer
abbrev pub IsPointer : Kind → Type 0
IsPointer (Ptr q lo hi) = Unit {0}
IsPointer k = ⊥

left_pointer : (q : Region) (lo hi : ℤ) (r : Range) → IsPointer (pointer_left q lo hi r)
left_pointer q lo hi r = cond_both (nat_le (max (address q lo) r.lo) (min (address q hi) r.hi)) _ _ IsPointer (λ _. tt) (λ _. tt)

left_pair : (q : Region) (lo hi : ℤ) (k : Kind) (o : Option (Number × Number)) → IsPointer (kinds_left (Ptr q lo hi) k o).0
left_pair q lo hi k None = tt
left_pair q lo hi k (Some p) = left_pointer q lo hi p.0.range

pub refined_pointer : (c : Cond) (q : Region) (lo hi : ℤ) (k : Kind) → IsPointer (refine_of Second c W64 (Ptr q lo hi) k true).0
refined_pointer c q lo hi Unset = tt
refined_pointer c q lo hi (Halves l h) = tt
refined_pointer c q lo hi Dead = tt
refined_pointer c q lo hi (Num b) = left_pair q lo hi (Num b) _
refined_pointer c q lo hi (Ptr s l h) = left_pair q lo hi (Ptr s l h) _

pointer_stays : (n : ℕ) (q : Region) (lo hi : ℤ) → IsPointer (at_most n (Ptr q lo hi))
pointer_stays n q lo hi = cond_both (int_lt lo hi) _ _ IsPointer (λ _. refined_pointer LessEqual q lo hi (one_number Second n)) (λ _. tt)

pub not_unset : (k : Kind) → IsPointer k → k ≡ Unset → ⊥
not_unset k h e = subst IsPointer e h

unset_before : (n : ℕ) (k : Kind) → at_most n k ≡ Unset → k ≡ Unset
unset_before n Unset h = refl
unset_before n Dead h = h
unset_before n (Num a) h = absurd (not_number _ (narrowed_number n a) h)
unset_before n (Ptr q lo hi) h = absurd (not_unset _ (pointer_stays n q lo hi) h)
unset_before n (Halves l u) h = h

-- ---- a row

-- one register's kind is changed
pub at_each : (f : Kind → Kind) (P : Kind → Type 0) (row : Row) (i j : ℕ) → ((k : Kind) → P k → P (f k)) → P (get_or row j Unset) → P (get_or (set row i (f (get_or row i Unset))) j Unset)
at_each f P [] i j g h = h
at_each f P (x ∷ row) zero zero g h = g x h
at_each f P (x ∷ row) zero (suc j) g h = h
at_each f P (x ∷ row) (suc i) zero g h = h
at_each f P (x ∷ row) (suc i) (suc j) g h = at_each f P row i j g h

pub unset_back : (f : Kind → Kind) → ((k : Kind) → f k ≡ Unset → k ≡ Unset) → (row : Row) (i j : ℕ) → get_or (set row i (f (get_or row i Unset))) j Unset ≡ Unset → get_or row j Unset ≡ Unset
unset_back f g [] i j h = h
unset_back f g (x ∷ row) zero zero h = g x h
unset_back f g (x ∷ row) zero (suc j) h = h
unset_back f g (x ∷ row) (suc i) zero h = h
unset_back f g (x ∷ row) (suc i) (suc j) h = unset_back f g row i j h

-- ---- what is unset stays so

operand_unset : (n : ℕ) (o : Operand) (row : Row) (r : Register) → kind_at row r ≡ Unset → kind_at (operand_at_most n o row) r ≡ Unset
operand_unset n (operand.Register q) row r u = at_each (at_most n) (λ k. k ≡ Unset) row (number q) (number r) (λ k e. ap (at_most n) e) u
operand_unset n (operand.Immediate i) row r u = u

told_by_unset : (sum : Sum) (row : Row) (r : Register) → kind_at row r ≡ Unset → kind_at (told_by sum row) r ≡ Unset
told_by_unset sum row r u =
    cond_both (nat_le (most (kind_at row sum.left)) (2 ^ 64 - 1 - most (kind_from Second row sum.right))) _ _ (λ q. kind_at q r ≡ Unset)
    (λ _. operand_unset _ sum.right _ r (operand_unset _ (operand.Register sum.left) row r u))
    (λ _. u)

pub told_unset : (profile : Profile) (x : Insn) (sums : KnownSums) (row : Row) (r : Register) → kind_at row r ≡ Unset → kind_at (told x profile sums row) r ≡ Unset
told_unset profile x sums row r u = told_keeps (λ q. kind_at q r ≡ Unset) x profile sums row u (λ s q e. told_by_unset s q r e)

-- ---- a plain row stays plain

operand_follows : (n : ℕ) (o : Operand) (row next : Row) (x : Insn) → Follows row next x → Follows row (operand_at_most n o next) x
operand_follows n (operand.Register q) row next x f = record {
  plain = λ r. at_each (at_most n) (PlainAt r) next (number q) (number r) (at_most_plain n r) (f.plain r);
  cells = cells_with_kind next q _ f.cells;
  unset = λ r u. f.unset r (unset_back (at_most n) (unset_before n) next (number q) (number r) u);
}
operand_follows n (operand.Immediate i) row next x f = f

told_by_follows : (sum : Sum) (row next : Row) (x : Insn) → Follows row next x → Follows row (told_by sum next) x
told_by_follows sum row next x f =
    cond_both (nat_le (most (kind_at next sum.left)) (2 ^ 64 - 1 - most (kind_from Second next sum.right))) _ _ (λ q. Follows row q x)
    (λ _. operand_follows _ sum.right row _ x (operand_follows _ (operand.Register sum.left) row next x f))
    (λ _. f)

pub told_follows : (profile : Profile) (row next : Row) (x : Insn) (sums : KnownSums) → Follows row next x → Follows row (told x profile sums next) x
told_follows profile row next x sums f = told_keeps (λ q. Follows row q x) x profile sums next f (λ s q g. told_by_follows s row q x g)

-- ---- and by what pairs tell

pub summed_unset : (profile : Profile) (x : Insn) (pairs : Pairs) (row : Row) (r : Register) → kind_at row r ≡ Unset → kind_at (summed x profile pairs row) r ≡ Unset
summed_unset profile x pairs row r u = summed_keeps (λ q. kind_at q r ≡ Unset) x profile pairs row u (λ n q _. operand_unset n (operand.Register q) row r u)

pub summed_follows : (profile : Profile) (row next : Row) (x : Insn) (pairs : Pairs) → Follows row next x → Follows row (summed x profile pairs next) x
summed_follows profile row next x pairs f = summed_keeps (λ q. Follows row q x) x profile pairs next f (λ n r _. operand_follows n (operand.Register r) row next x f)

pub paired_unset : (profile : Profile) (x : Insn) (pairs : Pairs) (row : Row) (r : Register) → kind_at row r ≡ Unset → kind_at (paired x profile pairs row) r ≡ Unset
paired_unset profile x pairs row r u = paired_keeps (λ q. kind_at q r ≡ Unset) x profile pairs row (λ n q next _ e. operand_unset n (operand.Register q) next r e) u

pub paired_follows : (profile : Profile) (row next : Row) (x : Insn) (pairs : Pairs) → Follows row next x → Follows row (paired x profile pairs next) x
paired_follows profile row next x pairs f = paired_keeps (λ q. Follows row q x) x profile pairs next (λ n r q _ g. operand_follows n (operand.Register r) row q x g) f
