-- What names tell in plain programs, and pairs behind them: the addresses stay, and a number stays one, or Dead.
use Rattle.std.proofs.Common.{◌≡◌, ℕ, ℤ, Option, None, Some, true, refl, ap, ◌∙◌}
use Rattle.std.specs.Prelude.{Result, Ok, Err, int_lt}
use Rattle.std.proofs.lemmas.Bool.{cond_both}
use Rattle.bpf_alu.specs.declared.Cond.TheVariants.{Equal}
use Rattle.bpf_alu.specs.declared.Op.TheVariants.{Add}
use Rattle.bpf_alu.specs.declared.Width.TheVariants.{W64}
use Rattle.bpf_insn.specs.Encoding.{number}
use Rattle.bpf_insn.specs.declared.Register.{Register}
use Rattle.bpf_insn.specs.declared.Register.TheVariants.{R0, R1, R2, R3, R4, R5, R6, R7, R8, R9, R10}
use Rattle.bpf_insn.specs.declared.Insn.{Insn}
use Rattle.bpf_semantics.specs.declared.Region.{Region}
use Rattle.bpf_semantics.specs.declared.profile.Profile.{Profile}
use Rattle.bpf_semantics.specs.declared.profile.Profile.TheVariants.{Second}
use Rattle.bpf_copies.specs.Names.{Names, distance_from, are_alike}
use Rattle.bpf_ranges.specs.declared.kind.Bad.{Bad}
use Rattle.bpf_ranges.specs.declared.kind.Kind.{Kind}
use Rattle.bpf_ranges.specs.declared.kind.Kind.TheVariants.{Unset, Dead, Num, Ptr, Halves}
use Rattle.bpf_ranges.specs.declared.number.Number.{Number}
use Rattle.bpf_ranges.specs.Transfer.{kinds_left, transfer_of}
use Rattle.bpf_verifier.specs.Registers.{Row, kind_at, one_number}
use Rattle.bpf_verifier.specs.Naming.{equal_to, equal_result, from_other, told_of, named}
use Rattle.bpf_verifier.specs.Paired.{narrowed}
use Rattle.bpf_verifier.specs.declared.pair.Pairs.{Pairs}
use Rattle.bpf_verifier.proofs.NamedRows.{named_keeps}
use Rattle.bpf_verifier.proofs.PlainRows.{IsNum, IsNumOrUnset, PlainAt, num_or_unset, not_number, refined_numbers, cells_with_kind, Follows}
use Rattle.bpf_verifier.proofs.PlainSums.{IsPointer, refined_pointer, not_unset, at_each, unset_back, paired_unset, paired_follows}

-- ---- one kind

left_first : (a : Number) (k : Kind) (o : Option (Number × Number)) → IsNum (kinds_left (Num a) k o).0
left_first a k None = tt
left_first a k (Some p) = tt

equal_number : (a : Number) (k : Kind) → IsNum (equal_to (Num a) k)
equal_number a Unset = tt
equal_number a Dead = tt
equal_number a (Num b) = (refined_numbers Second Equal W64 (Num a) (Num b) true tt tt).0
equal_number a (Ptr q lo hi) = left_first a (Ptr q lo hi) _
equal_number a (Halves l u) = tt

equal_num_or_unset : (k other : Kind) → IsNumOrUnset k → IsNumOrUnset (equal_to k other)
equal_num_or_unset Unset other h = tt
equal_num_or_unset Dead other h = tt
equal_num_or_unset (Num a) other h = num_or_unset _ (equal_number a other)
equal_num_or_unset (Ptr q lo hi) other h = absurd h
equal_num_or_unset (Halves l u) other h = absurd h

equal_plain : (other : Kind) (r : Register) (k : Kind) → PlainAt r k → PlainAt r (equal_to k other)
equal_plain other R0 k h = equal_num_or_unset k other h
equal_plain other R1 k h = ap (λ q. equal_to q other) h
equal_plain other R2 k h = equal_num_or_unset k other h
equal_plain other R3 k h = ap (λ q. equal_to q other) h
equal_plain other R4 k h = equal_num_or_unset k other h
equal_plain other R5 k h = equal_num_or_unset k other h
equal_plain other R6 k h = equal_num_or_unset k other h
equal_plain other R7 k h = equal_num_or_unset k other h
equal_plain other R8 k h = equal_num_or_unset k other h
equal_plain other R9 k h = equal_num_or_unset k other h
equal_plain other R10 k h = ap (λ q. equal_to q other) h

pointer_stays : (q : Region) (lo hi : ℤ) (other : Kind) → IsPointer (equal_to (Ptr q lo hi) other)
pointer_stays q lo hi other = cond_both (int_lt lo hi) _ _ IsPointer (λ _. refined_pointer Equal q lo hi other) (λ _. tt)

equal_unset : (k other : Kind) → equal_to k other ≡ Unset → k ≡ Unset
equal_unset Unset other h = refl
equal_unset Dead other h = h
equal_unset (Num a) other h = absurd (not_number _ (equal_number a other) h)
equal_unset (Ptr q lo hi) other h = absurd (not_unset _ (pointer_stays q lo hi other) h)
equal_unset (Halves l u) other h = h

result_plain : (o : Result Kind Bad) (r : Register) (k : Kind) → PlainAt r k → PlainAt r (equal_result k o)
result_plain (Ok other) r k h = equal_plain other r k h
result_plain (Err e) r k h = h

result_unset : (o : Result Kind Bad) (k : Kind) → equal_result k o ≡ Unset → k ≡ Unset
result_unset (Ok other) k h = equal_unset k other h
result_unset (Err e) k h = h

unset_result : (o : Result Kind Bad) → equal_result Unset o ≡ Unset
unset_result (Ok other) = refl
unset_result (Err e) = refl

-- ---- a row

abbrev sum : Kind → ℕ → Result Kind Bad
sum other n = transfer_of Second Add W64 other (one_number Second n)

abbrev told_kind : Kind → ℕ → Kind → Kind
told_kind other n k = from_other k other n

told_of_unset : (names : Names) (a b : Register) (row : Row) (r : Register) → kind_at row r ≡ Unset → kind_at (told_of names a b row) r ≡ Unset
told_of_unset names a b row r u =
    let other = kind_at row a in
    let n = distance_from names a b in
    cond_both (are_alike names a b) _ row (λ q. kind_at q r ≡ Unset)
    (λ _. at_each (told_kind other n) (λ k. k ≡ Unset) row (number b) (number r) (λ k e. ap (told_kind other n) e ∙ unset_result (sum other n)) u)
    (λ _. u)

-- what is unset stays so
named_unset : (profile : Profile) (x : Insn) (names : Names) (row : Row) (r : Register) → kind_at row r ≡ Unset → kind_at (named x profile names row) r ≡ Unset
named_unset profile x names row r u = named_keeps (λ q. kind_at q r ≡ Unset) names (λ a b q h. told_of_unset names a b q r h) x profile row u

told_of_follows : (names : Names) (a b : Register) (row next : Row) (x : Insn) → Follows row next x → Follows row (told_of names a b next) x
told_of_follows names a b row next x f =
    let other = kind_at next a in
    let n = distance_from names a b in
    cond_both (are_alike names a b) _ next (λ q. Follows row q x)
    (λ _. record {
      plain = λ r. at_each (told_kind other n) (PlainAt r) next (number b) (number r) (result_plain (sum other n) r) (f.plain r);
      cells = cells_with_kind next b _ f.cells;
      unset = λ r u. f.unset r (unset_back (told_kind other n) (result_unset (sum other n)) next (number b) (number r) u);
    })
    (λ _. f)

-- a plain row stays plain
named_follows : (profile : Profile) (row next : Row) (x : Insn) (names : Names) → Follows row next x → Follows row (named x profile names next) x
named_follows profile row next x names f = named_keeps (λ q. Follows row q x) names (λ a b q h. told_of_follows names a b row q x h) x profile next f

-- ---- and with pairs behind them

pub narrowed_unset : (profile : Profile) (x : Insn) (names : Names) (pairs : Pairs) (row : Row) (r : Register) → kind_at row r ≡ Unset → kind_at (narrowed x profile names pairs row) r ≡ Unset
narrowed_unset profile x names pairs row r u = paired_unset profile x pairs _ r (named_unset profile x names row r u)

pub narrowed_follows : (profile : Profile) (row next : Row) (x : Insn) (names : Names) (pairs : Pairs) → Follows row next x → Follows row (narrowed x profile names pairs next) x
narrowed_follows profile row next x names pairs f = paired_follows profile row _ x pairs (named_follows profile row next x names f)
