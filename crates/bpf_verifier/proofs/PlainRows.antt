-- The rows of plain programs: the addresses stay as they were at the start, and every other register is a number or unset.
use Rattle.std.proofs.Common.{◌≡◌, ◌≢◌, ℕ, zero, suc, ℤ, pos, ◌+◌, ◌<◌, ◌≤◌, Bool, true, false, cond, eqb, List, [], ◌∷◌, length, length-set, length-drop, get_or, set, take, drop, ◌%◌, ◌^◌, Option, Some, None, Result, Ok, refl, sym, ap, ◌∙◌, subst, inl, inr, ⊎_elim, arith}
use Rattle.std.specs.Prelude.{◌⊎◌}
use Rattle.std.proofs.lemmas.Bool.{cond_both, cases_eq, and_from}
use Rattle.std.proofs.lemmas.List.{get_or-drop, length-take-le}
use Rattle.bpf_alu.specs.Value.{wrapped, bits}
use Rattle.bpf_alu.specs.declared.Op.{Op}
use Rattle.bpf_alu.specs.declared.Op.TheVariants as op
use Rattle.bpf_alu.specs.declared.Width.{Width}
use Rattle.bpf_alu.specs.declared.Width.TheVariants.{W32, W64}
use Rattle.bpf_alu.specs.declared.Cond.{Cond}
use Rattle.bpf_insn.specs.Encoding.{number, size_bytes}
use Rattle.bpf_insn.specs.declared.Size.{Size}
use Rattle.bpf_insn.specs.declared.Extend.{Extend}
use Rattle.bpf_insn.specs.declared.Extend.TheVariants.{Zero, Sign}
use Rattle.bpf_insn.specs.declared.Register.{Register}
use Rattle.bpf_insn.specs.declared.Register.TheVariants.{R0, R1, R2, R3, R4, R5, R6, R7, R8, R9, R10}
use Rattle.bpf_insn.specs.declared.Operand.{Operand}
use Rattle.bpf_insn.specs.declared.Operand.TheVariants as operand
use Rattle.bpf_insn.specs.declared.Insn.{Insn}
use Rattle.bpf_insn.specs.declared.Insn.TheVariants as insn
use Rattle.bpf_semantics.specs.State.{no_calls, reads, writes, operand_reads}
use Rattle.bpf_semantics.specs.declared.Region.TheVariants.{Stack, Input, Output}
use Rattle.bpf_ranges.specs.declared.kind.Kind.{Kind}
use Rattle.bpf_ranges.specs.declared.kind.Kind.TheVariants.{Unset, Dead, Num, Ptr, Halves}
use Rattle.bpf_ranges.specs.declared.kind.Part.{Part}
use Rattle.bpf_ranges.specs.declared.kind.Part.TheVariants.{Whole, Low, High}
use Rattle.bpf_ranges.specs.declared.word.Word.{Word}
use Rattle.bpf_ranges.specs.Words.{low_word, high_word, joined_words}
use Rattle.bpf_ranges.specs.declared.number.Number.{Number}
use Rattle.bpf_semantics.specs.declared.profile.Profile.{Profile}
use Rattle.bpf_ranges.specs.declared.kind.Bad.{Bad}
use Rattle.bpf_ranges.specs.Comparisons.{compared}
use Rattle.bpf_ranges.specs.Transfer.{kind_of, transfer_of, of_one, of_two, swap_of, kinds_left, refine_of, join_of, word_kind, part_of, with_part}
use Rattle.bpf_image.specs.Form.{target_of}
use Rattle.bpf_helpers.specs.Calls.{Callee}
use Rattle.bpf_verifier.specs.Registers.{Row, cell_count, IsLong, kind_at, with_kind, kind_from, one_number, is_unset, any_unset}
use Rattle.bpf_verifier.specs.Cells.{span_of, part_at, is_touched, cell_kind, touched, cells_touched, row_stored_in, row_stored, read_kind, is_known, is_numeric, are_numeric, is_readable}
use Rattle.bpf_verifier.specs.declared.cell_part.CellPart.{CellPart}
use Rattle.bpf_verifier.specs.declared.span.Span.{Span}
use Rattle.bpf_verifier.specs.Rules.{result_kind, loaded, refined, row_after, row_taken}
use Rattle.bpf_verifier.specs.Table.{join_rows}
use Rattle.bpf_verifier.specs.Plain.{IsIn, window_of, IsPlainInsn}
use Rattle.bpf_copies.proofs.Slots.{number_small}
use Rattle.bpf_verifier.proofs.StackCells.{stored_register, seam}
use Rattle.bpf_verifier.proofs.CellSteps.{part_is}
use Rattle.bpf_verifier.proofs.Classes.{or_left, or_right}

-- ---- kinds

-- a number, or what is Dead
abbrev pub IsNum : Kind → Type 0
IsNum Unset = ⊥
IsNum Dead = Unit {0}
IsNum (Num a) = Unit {0}
IsNum (Ptr region lo hi) = ⊥
IsNum (Halves low high) = ⊥

abbrev pub IsNumOrUnset : Kind → Type 0
IsNumOrUnset Unset = Unit {0}
IsNumOrUnset Dead = Unit {0}
IsNumOrUnset (Num a) = Unit {0}
IsNumOrUnset (Ptr region lo hi) = ⊥
IsNumOrUnset (Halves low high) = ⊥

pub num_or_unset : (k : Kind) → IsNum k → IsNumOrUnset k
num_or_unset Unset h = tt
num_or_unset Dead h = tt
num_or_unset (Num a) h = tt
num_or_unset (Ptr region lo hi) h = h
num_or_unset (Halves low high) h = h

-- the kinds that a register may have
abbrev pub PlainAt : Register → Kind → Type 0
PlainAt R1 k = k ≡ Ptr Input (pos 0) (pos 0)
PlainAt R3 k = k ≡ Ptr Output (pos 0) (pos 0)
PlainAt R10 k = k ≡ Ptr Stack (pos 0) (pos 0)
PlainAt other k = IsNumOrUnset k

abbrev pub PlainRow : Row → Type 0
PlainRow row = (r : Register) → PlainAt r (kind_at row r)

-- a number, or two words
abbrev pub HoldsNum : Kind → Type 0
HoldsNum (Halves (Some low) (Some high)) = Unit {0}
HoldsNum (Halves (Some low) None) = ⊥
HoldsNum (Halves None high) = ⊥
HoldsNum Unset = ⊥
HoldsNum Dead = Unit {0}
HoldsNum (Num a) = Unit {0}
HoldsNum (Ptr region lo hi) = ⊥

pub num_held : (k : Kind) → IsNum k → HoldsNum k
num_held Unset h = h
num_held Dead h = h
num_held (Num a) h = h
num_held (Ptr region lo hi) h = h
num_held (Halves low high) h = absurd h

-- every cell holds a number
abbrev pub AllNum : List Kind → Type 0
AllNum [] = Unit {0}
AllNum (k ∷ ks) = HoldsNum k × AllNum ks

abbrev pub PlainCells : Row → Type 0
PlainCells row = AllNum (drop 11 row)

register_of : ℕ → Register
register_of zero = R0
register_of (suc zero) = R1
register_of (suc (suc zero)) = R2
register_of (suc (suc (suc zero))) = R3
register_of (suc (suc (suc (suc zero)))) = R4
register_of (suc (suc (suc (suc (suc zero))))) = R5
register_of (suc (suc (suc (suc (suc (suc zero)))))) = R6
register_of (suc (suc (suc (suc (suc (suc (suc zero))))))) = R7
register_of (suc (suc (suc (suc (suc (suc (suc (suc zero)))))))) = R8
register_of (suc (suc (suc (suc (suc (suc (suc (suc (suc zero))))))))) = R9
register_of (suc (suc (suc (suc (suc (suc (suc (suc (suc (suc n)))))))))) = R10

named_back : (r : Register) → register_of (number r) ≡ r
unfolding register_of
named_back R0 = refl
named_back R1 = refl
named_back R2 = refl
named_back R3 = refl
named_back R4 = refl
named_back R5 = refl
named_back R6 = refl
named_back R7 = refl
named_back R8 = refl
named_back R9 = refl
named_back R10 = refl

pub same_register : (r q : Register) → number r ≡ number q → r ≡ q
same_register r q e = sym (named_back r) ∙ ap register_of e ∙ named_back q

pub plain_number : (r : Register) (k : Kind) → window_of r ≡ None → IsNum k → PlainAt r k
plain_number R0 k w h = num_or_unset k h
plain_number R1 k w h = cc
plain_number R2 k w h = num_or_unset k h
plain_number R3 k w h = cc
plain_number R4 k w h = num_or_unset k h
plain_number R5 k w h = num_or_unset k h
plain_number R6 k w h = num_or_unset k h
plain_number R7 k w h = num_or_unset k h
plain_number R8 k w h = num_or_unset k h
plain_number R9 k w h = num_or_unset k h
plain_number R10 k w h = cc

num_of_kind : (k : Kind) → IsNumOrUnset k → is_unset k ≡ false → IsNum k
num_of_kind Unset h u = cc
num_of_kind Dead h u = tt
num_of_kind (Num a) h u = tt
num_of_kind (Ptr region lo hi) h u = absurd h
num_of_kind (Halves low high) h u = absurd h

-- a register that is set, and no address, is a number
pub num_of : (r : Register) (k : Kind) → PlainAt r k → window_of r ≡ None → is_unset k ≡ false → IsNum k
num_of R0 k h w u = num_of_kind k h u
num_of R1 k h w u = cc
num_of R2 k h w u = num_of_kind k h u
num_of R3 k h w u = cc
num_of R4 k h w u = num_of_kind k h u
num_of R5 k h w u = num_of_kind k h u
num_of R6 k h w u = num_of_kind k h u
num_of R7 k h w u = num_of_kind k h u
num_of R8 k h w u = num_of_kind k h u
num_of R9 k h w u = num_of_kind k h u
num_of R10 k h w u = cc

-- ---- results

abbrev pub GivesNumber : Result Kind Bad → Type 0
GivesNumber r = (k : Kind) × (r ≡ Ok k) × IsNum k

-- what is left of a number, or nothing
pub left_number : (o : Option Number) → IsNum (kind_of o)
left_number None = tt
left_number (Some a) = tt

two_result : (profile : Profile) (o : Op) (w : Width) (a b : Kind) → IsNum a → IsNum b → GivesNumber (of_two profile o w a b)
two_result profile o w Unset b ha hb = absurd ha
two_result profile o w Dead Unset ha hb = absurd hb
two_result profile o w Dead Dead ha hb = (Dead, refl, tt)
two_result profile o w Dead (Num b) ha hb = (Dead, refl, tt)
two_result profile o w Dead (Ptr q lo hi) ha hb = absurd hb
two_result profile o w Dead (Halves l h) ha hb = absurd hb
two_result profile o w (Num a) Unset ha hb = absurd hb
two_result profile o w (Num a) Dead ha hb = (Dead, refl, tt)
two_result profile o w (Num a) (Num b) ha hb = (_, refl, left_number _)
two_result profile o w (Num a) (Ptr q lo hi) ha hb = absurd hb
two_result profile o w (Num a) (Halves l h) ha hb = absurd hb
two_result profile o w (Ptr q lo hi) b ha hb = absurd ha
two_result profile o w (Halves l h) b ha hb = absurd ha

one_result : (profile : Profile) (o : Op) (w : Width) (a : Kind) → IsNum a → GivesNumber (of_one profile o w a)
one_result profile o w Unset ha = absurd ha
one_result profile o w Dead ha = (Dead, refl, tt)
one_result profile o w (Num a) ha = (_, refl, left_number _)
one_result profile o w (Ptr q lo hi) ha = absurd ha
one_result profile o w (Halves l h) ha = absurd ha

move_result : (profile : Profile) (w : Width) (a b : Kind) → IsNum b → GivesNumber (transfer_of profile op.Mov w a b)
move_result profile W64 a b hb = (b, refl, hb)
move_result profile W32 a b hb = one_result profile op.Mov W32 b hb

pub swap_result : (profile : Profile) (kind : _) (n : _) (a : Kind) → IsNum a → GivesNumber (swap_of profile kind n a)
swap_result profile kind n Unset ha = absurd ha
swap_result profile kind n Dead ha = (Dead, refl, tt)
swap_result profile kind n (Num a) ha = (_, refl, left_number _)
swap_result profile kind n (Ptr q lo hi) ha = absurd ha
swap_result profile kind n (Halves l h) ha = absurd ha

abbrev AreNum : Kind × Kind → Type 0
AreNum k = IsNum k.0 × IsNum k.1

left_numbers : (a b : Number) (o : Option (Number × Number)) → AreNum (kinds_left (Num a) (Num b) o)
left_numbers a b None = (tt, tt)
left_numbers a b (Some p) = (tt, tt)

pub refined_numbers : (profile : Profile) (c : Cond) (w : Width) (a b : Kind) (t : Bool) → IsNum a → IsNum b → AreNum (refine_of profile c w a b t)
refined_numbers profile c w Unset b t ha hb = absurd ha
refined_numbers profile c w Dead Unset t ha hb = absurd hb
refined_numbers profile c w Dead Dead t ha hb = (tt, tt)
refined_numbers profile c w Dead (Num b) t ha hb = (tt, tt)
refined_numbers profile c w Dead (Ptr q lo hi) t ha hb = absurd hb
refined_numbers profile c w Dead (Halves l h) t ha hb = absurd hb
refined_numbers profile c w (Num a) Unset t ha hb = absurd hb
refined_numbers profile c w (Num a) Dead t ha hb = (tt, tt)
refined_numbers profile c w (Num a) (Num b) t ha hb = left_numbers a b (compared profile c w t a b)
refined_numbers profile c w (Num a) (Ptr q lo hi) t ha hb = absurd hb
refined_numbers profile c w (Num a) (Halves l h) t ha hb = absurd hb
refined_numbers profile c w (Ptr q lo hi) b t ha hb = absurd ha
refined_numbers profile c w (Halves l h) b t ha hb = absurd ha

loaded_number : (profile : Profile) (size : Size) (extend : Extend) → IsNum (loaded profile size extend)
loaded_number profile size extend = left_number _

result_number : (r : Result Kind Bad) → GivesNumber r → IsNum (result_kind r)
result_number r h = subst IsNum (ap result_kind (sym h.1)) h.2

-- ---- operands of a plain instruction that are set

abbrev pub NoAddress : List Register → Type 0
NoAddress rs = (r : Register) → IsIn r rs → window_of r ≡ None

pub operand_number : (profile : Profile) (row : Row) (src : Operand) → PlainRow row → NoAddress (operand_reads src) → any_unset row (operand_reads src) ≡ false → IsNum (kind_from profile row src)
operand_number profile row (operand.Register r) plain na u = num_of r (kind_at row r) (plain r) (na r (inl refl)) (or_left (is_unset (kind_at row r)) (any_unset row []) u)
operand_number profile row (operand.Immediate n) plain na u = left_number _

pub register_number : (row : Row) (r : Register) (rs : List Register) → PlainRow row → window_of r ≡ None → any_unset row (r ∷ rs) ≡ false → IsNum (kind_at row r)
register_number row r rs plain w u = num_of r (kind_at row r) (plain r) w (or_left (is_unset (kind_at row r)) (any_unset row rs) u)

module _ (profile : Profile) (row : Row) (plain : PlainRow row) (w : Width) (dst : Register) (src : Operand) (na : NoAddress (dst ∷ operand_reads src)) where
  both : (o : Op) → any_unset row (dst ∷ operand_reads src) ≡ false → GivesNumber (of_two profile o w (kind_at row dst) (kind_from profile row src))
  both o u = two_result profile o w (kind_at row dst) (kind_from profile row src) (register_number row dst (operand_reads src) plain (na dst (inl refl)) u) (operand_number profile row src plain (λ r h. na r (inr h)) (or_right (is_unset (kind_at row dst)) (any_unset row (operand_reads src)) u))

  alone : any_unset row (operand_reads src) ≡ false → IsNum (kind_from profile row src)
  alone u = operand_number profile row src plain (λ r h. na r (inr h)) u

  pub alu_number : (o : Op) → any_unset row (reads no_calls (insn.Alu o w dst src)) ≡ false → GivesNumber (transfer_of profile o w (kind_at row dst) (kind_from profile row src))
  alu_number op.Add u = both op.Add u
  alu_number op.Sub u = both op.Sub u
  alu_number op.Mul u = both op.Mul u
  alu_number op.Div u = both op.Div u
  alu_number op.SignedDiv u = both op.SignedDiv u
  alu_number op.Or u = both op.Or u
  alu_number op.And u = both op.And u
  alu_number op.Xor u = both op.Xor u
  alu_number op.Lsh u = both op.Lsh u
  alu_number op.Rsh u = both op.Rsh u
  alu_number op.Arsh u = both op.Arsh u
  alu_number op.Mod u = both op.Mod u
  alu_number op.SignedMod u = both op.SignedMod u
  alu_number op.Neg u = one_result profile op.Neg w (kind_at row dst) (register_number row dst (operand_reads src) plain (na dst (inl refl)) u)
  alu_number op.Mov u = move_result profile w (kind_at row dst) (kind_from profile row src) (alone u)
  alu_number op.Movsx8 u = one_result profile op.Movsx8 w (kind_from profile row src) (alone u)
  alu_number op.Movsx16 u = one_result profile op.Movsx16 w (kind_from profile row src) (alone u)
  alu_number op.Movsx32 u = one_result profile op.Movsx32 w (kind_from profile row src) (alone u)

-- ---- a kind that is written

set_kind : (row : Row) (i j : ℕ) (k : Kind) (P : Kind → Type 0) → P (get_or row j Unset) → (j ≡ i → P k) → P (get_or (set row i k) j Unset)
set_kind [] i j k P h g = h
set_kind (x ∷ row) zero zero k P h g = g refl
set_kind (x ∷ row) zero (suc j) k P h g = h
set_kind (x ∷ row) (suc i) zero k P h g = h
set_kind (x ∷ row) (suc i) (suc j) k P h g = set_kind row i j k P h (λ e. g (ap suc e))

set_plain : (row : Row) (d : Register) (k : Kind) → PlainRow row → window_of d ≡ None → IsNum k → PlainRow (with_kind row d k)
set_plain row d k plain w h = λ r. set_kind row (number d) (number r) k (PlainAt r) (plain r) (λ e. plain_number r k (ap window_of (same_register r d e) ∙ w) h)

set_there : (row : Row) (i : ℕ) (k : Kind) → i < length row → get_or (set row i k) i Unset ≡ k
set_there [] i k h = absurd (omega arith)
set_there (x ∷ row) zero k h = refl
set_there (x ∷ row) (suc i) k h = set_there row i k (omega arith)

set_aside : (row : Row) (i j : ℕ) (k : Kind) → j ≢ i → get_or (set row i k) j Unset ≡ get_or row j Unset
set_aside [] i j k ne = refl
set_aside (x ∷ row) zero zero k ne = absurd (ne refl)
set_aside (x ∷ row) zero (suc j) k ne = refl
set_aside (x ∷ row) (suc i) zero k ne = refl
set_aside (x ∷ row) (suc i) (suc j) k ne = set_aside row i j k (λ e. ne (ap suc e))

pub not_number : (k : Kind) → IsNum k → k ≡ Unset → ⊥
not_number k h e = subst IsNum e h

-- what is unset there was unset before, and is another register
pub unset_before : (row : Row) (d r : Register) (k : Kind) → 11 ≤ length row → IsNum k → kind_at (with_kind row d k) r ≡ Unset → (kind_at row r ≡ Unset) × (r ≢ d)
unset_before row d r k long h u =
    ⊎_elim
    (λ same. absurd (not_number k h (sym (set_there row (number d) k (omega (arith, long, number_small d))) ∙ ap (λ j. get_or (set row (number d) k) j Unset) (sym same) ∙ u)))
    (λ other. (sym (set_aside row (number d) (number r) k other) ∙ u, λ e. other (ap number e)))
    (cases_eq (number r) (number d))

-- ---- cells

drop_set : (m : ℕ) (row : Row) (j : ℕ) (k : Kind) → j < m → drop m (set row j k) ≡ drop m row
drop_set zero row j k h = absurd (omega arith)
drop_set (suc m) [] j k h = refl
drop_set (suc m) (x ∷ row) zero k h = refl
drop_set (suc m) (x ∷ row) (suc j) k h = drop_set m row j k (omega arith)

pub cells_with_kind : (row : Row) (r : Register) (k : Kind) → PlainCells row → PlainCells (with_kind row r k)
cells_with_kind row r k h = subst AllNum (sym (drop_set 11 row (number r) k (number_small r))) h

drop_set_behind : (m : ℕ) (row : Row) (i : ℕ) (k : Kind) → drop m (set row (m + i) k) ≡ set (drop m row) i k
drop_set_behind zero row i k = ap (λ n. set row n k) (omega arith)
drop_set_behind (suc m) [] i k = refl
drop_set_behind (suc m) (x ∷ row) i k = let e : suc m + i ≡ suc (m + i) = omega arith in ap (λ n. drop (suc m) (set (x ∷ row) n k)) e ∙ drop_set_behind m row i k

num_set : (ks : List Kind) (i : ℕ) (k : Kind) → AllNum ks → HoldsNum k → AllNum (set ks i k)
num_set [] i k h g = h
num_set (x ∷ ks) zero k h g = (g, h.1)
num_set (x ∷ ks) (suc i) k h g = (h.0, num_set ks i k h.1 g)

num_at : (ks : List Kind) (i : ℕ) → i < length ks → AllNum ks → HoldsNum (get_or ks i Unset)
num_at [] i l h = absurd (omega arith)
num_at (k ∷ ks) zero l h = h.0
num_at (k ∷ ks) (suc i) l h = num_at ks i (omega arith) h.1

touched_num : (profile : Profile) (k : Kind) → HoldsNum k → HoldsNum (touched profile k)
touched_num profile Unset h = absurd h
touched_num profile Dead h = num_held _ (left_number _)
touched_num profile (Num a) h = num_held _ (left_number _)
touched_num profile (Ptr q lo hi) h = absurd h
touched_num profile (Halves (Some low) (Some high)) h = num_held _ (left_number _)
touched_num profile (Halves (Some low) None) h = absurd h
touched_num profile (Halves None high) h = absurd h

num_touched : (profile : Profile) (span : Span) (place : ℕ) (ks : List Kind) → AllNum ks → AllNum (cells_touched profile span place ks)
num_touched profile span place [] h = tt
num_touched profile span place (k ∷ ks) h =
    (cond_both (is_touched span place) (touched profile k) k HoldsNum (λ _. touched_num profile k h.0) (λ _. h.0), num_touched profile span (place + 8) ks h.1)

-- the words of what holds a number are known
IsSome : Option Word → Type 0
IsSome None = ⊥
IsSome (Some w) = Unit {0}

low_known : (k : Kind) → HoldsNum k → IsSome (low_word k)
unfolding IsSome
low_known Unset h = absurd h
low_known Dead h = tt
low_known (Num a) h = tt
low_known (Ptr q lo hi) h = absurd h
low_known (Halves (Some low) (Some high)) h = tt
low_known (Halves (Some low) None) h = absurd h
low_known (Halves None high) h = absurd h

high_known : (k : Kind) → HoldsNum k → IsSome (high_word k)
unfolding IsSome
high_known Unset h = absurd h
high_known Dead h = tt
high_known (Num a) h = tt
high_known (Ptr q lo hi) h = absurd h
high_known (Halves (Some low) (Some high)) h = tt
high_known (Halves (Some low) None) h = absurd h
high_known (Halves None high) h = absurd h

both_known : (low high : Option Word) → IsSome low → IsSome high → HoldsNum (Halves low high)
unfolding IsSome
both_known (Some low) (Some high) h g = tt
both_known (Some low) None h g = absurd g
both_known None high h g = absurd h

part_num : (part : Part) (k cell : Kind) → IsNum k → HoldsNum cell → HoldsNum (with_part part k cell)
part_num Whole k cell h g = num_held k h
part_num Low k cell h g = both_known (low_word k) (high_word cell) (low_known k (num_held k h)) (high_known cell g)
part_num High k cell h g = both_known (low_word cell) (low_word k) (low_known cell g) (low_known k (num_held k h))

cell_num : (profile : Profile) (row : Row) (i : ℕ) → IsLong profile row → i < cell_count profile → PlainCells row → HoldsNum (cell_kind row i)
cell_num profile row i long within cells =
    subst HoldsNum (get_or-drop 11 row i Unset) (num_at (drop 11 row) i (omega (arith, long, within, length-drop 11 row)) cells)

stored_num : (profile : Profile) (address : Kind) (offset : ℤ) (size : ℕ) (o : Option CellPart) (span : Option Span) (k : Kind) (row : Row) → IsLong profile row → part_at profile address offset size ≡ o → IsNum k → PlainCells row → PlainCells (row_stored_in profile o span k row)
stored_num profile address offset size (Some at) span k row long e h cells =
    let new = with_part at.part k (cell_kind row at.cell) in
    subst AllNum (sym (drop_set_behind 11 row at.cell new))
    (num_set (drop 11 row) at.cell new cells (part_num at.part k (cell_kind row at.cell) h (cell_num profile row at.cell long (part_is profile address offset size at e).within cells)))
stored_num profile address offset size None None k row long e h cells = cells
stored_num profile address offset size None (Some span) k row long e h cells =
    subst AllNum (sym (seam (take 11 row) (cells_touched profile span 0 (drop 11 row)) 11 (length-take-le 11 row (omega (arith, long))))) (num_touched profile span 0 (drop 11 row) cells)

-- a load gives a number, and may be made
word_num : (profile : Profile) (o : Option Word) → IsSome o → IsNum (word_kind profile o)
unfolding IsSome
word_num profile None h = absurd h
word_num profile (Some w) h = left_number _

part_read : (profile : Profile) (part : Part) (k : Kind) → HoldsNum k → IsNum (part_of profile part k)
part_read profile Whole Unset h = absurd h
part_read profile Whole Dead h = tt
part_read profile Whole (Num a) h = tt
part_read profile Whole (Ptr q lo hi) h = absurd h
part_read profile Whole (Halves (Some low) (Some high)) h = left_number _
part_read profile Whole (Halves (Some low) None) h = absurd h
part_read profile Whole (Halves None high) h = absurd h
part_read profile Low k h = word_num profile (low_word k) (low_known k h)
part_read profile High k h = word_num profile (high_word k) (high_known k h)

read_num : (profile : Profile) (row : Row) (address : Kind) (offset : ℤ) (size : ℕ) (extend : Extend) (o : Option CellPart) (k : Kind) → IsLong profile row → part_at profile address offset size ≡ o → IsNum k → PlainCells row → IsNum (read_kind profile extend o k row)
read_num profile row address offset size Zero None k long e h cells = h
read_num profile row address offset size Sign o k long e h cells = h
read_num profile row address offset size Zero (Some at) k long e h cells =
    part_read profile at.part (cell_kind row at.cell) (cell_num profile row at.cell long (part_is profile address offset size at e).within cells)

known_num : (k : Kind) → IsNum k → is_known k ≡ true
known_num Unset h = absurd h
known_num Dead h = refl
known_num (Num a) h = refl
known_num (Ptr q lo hi) h = absurd h
known_num (Halves l u) h = absurd h

numeric_num : (k : Kind) → HoldsNum k → is_numeric k ≡ true
numeric_num Unset h = absurd h
numeric_num Dead h = refl
numeric_num (Num a) h = refl
numeric_num (Ptr q lo hi) h = absurd h
numeric_num (Halves (Some low) (Some high)) h = refl
numeric_num (Halves (Some low) None) h = absurd h
numeric_num (Halves None high) h = absurd h

all_numeric : (span : Span) (place : ℕ) (ks : List Kind) → AllNum ks → are_numeric span place ks ≡ true
all_numeric span place [] h = refl
all_numeric span place (k ∷ ks) h =
    and_from (cond (is_touched span place) (is_numeric k) true) (are_numeric span (place + 8) ks)
    (cond_both (is_touched span place) (is_numeric k) true (λ b. b ≡ true) (λ _. numeric_num k h.0) (λ _. refl))
    (all_numeric span (place + 8) ks h.1)

pub readable : (profile : Profile) (row : Row) (address : Kind) (offset : ℤ) (size : ℕ) (o : Option CellPart) (span : Option Span) → IsLong profile row → part_at profile address offset size ≡ o → PlainCells row → is_readable profile o span row ≡ true
readable profile row address offset size (Some at) span long e cells =
    known_num _ (part_read profile at.part (cell_kind row at.cell) (cell_num profile row at.cell long (part_is profile address offset size at e).within cells))
readable profile row address offset size None None long e cells = refl
readable profile row address offset size None (Some span) long e cells = all_numeric span 0 (drop 11 row) cells

pub some_registers : (profile : Profile) (row : Row) → IsLong profile row → 11 ≤ length row
some_registers profile row long = omega (arith, long)

-- ---- a plain instruction whose reads are set

-- the row after it: the addresses stay, and what is unset was unset before, and is not written
pub record Follows (row next : Row) (x : Insn) : Type 0 where
  pub plain : PlainRow next
  pub cells : PlainCells next
  pub unset : (r : Register) → kind_at next r ≡ Unset → (kind_at row r ≡ Unset) × (writes x ≢ Some r)

written_follows : (row : Row) (x : Insn) (d : Register) (k : Kind) → 11 ≤ length row → PlainRow row → PlainCells row → window_of d ≡ None → IsNum k → writes x ≡ Some d → Follows row (with_kind row d k) x
written_follows row x d k long plain cells w h e = record {
  plain = set_plain row d k plain w h;
  cells = cells_with_kind row d k cells;
  unset = λ r u. let b = unset_before row d r k long h u in (b.0, λ q. b.1 (same_some r d (sym q ∙ e)));
}
  where
    same_some : (r d : Register) → Some r ≡ Some d → r ≡ d
    same_some r d e = cc

same_follows : (row : Row) (x : Insn) → PlainRow row → PlainCells row → writes x ≡ None → Follows row row x
same_follows row x plain cells e = record { plain = plain; cells = cells; unset = λ r u. (u, λ q. no_some r (sym e ∙ q)) }
  where
    no_some : (r : Register) → None ≡ Some r → ⊥
    no_some r e = cc

refined_follows : (profile : Profile) (row : Row) (c : Cond) (w : Width) (left : Register) (right : Operand) (o : ℤ) (t : Bool) → 11 ≤ length row → PlainRow row → PlainCells row → NoAddress (left ∷ operand_reads right) → any_unset row (left ∷ operand_reads right) ≡ false → Follows row (refined profile c w left right t row) (insn.JumpIf c w left right o)
refined_follows profile row c w left (operand.Register right) o t long plain cells na u =
    let a = register_number row left (right ∷ []) plain (na left (inl refl)) u in
    let b = register_number row right [] plain (na right (inr (inl refl))) (or_right (is_unset (kind_at row left)) (any_unset row (right ∷ [])) u) in
    let k = refine_of profile c w (kind_at row left) (kind_at row right) t in
    let n = refined_numbers profile c w (kind_at row left) (kind_at row right) t a b in
    cond_both (eqb (number left) (number right)) _ _ (λ q. Follows row q (insn.JumpIf c w left (operand.Register right) o)) (λ _. same_follows row _ plain cells refl)
    (λ _. record {
      plain = set_plain (with_kind row left k.0) right k.1 (set_plain row left k.0 plain (na left (inl refl)) n.0) (na right (inr (inl refl))) n.1;
      cells = cells_with_kind (with_kind row left k.0) right k.1 (cells_with_kind row left k.0 cells);
      unset = λ r e. let one = unset_before (with_kind row left k.0) right r k.1 (subst (λ m. 11 ≤ m) (sym (length-set row (number left) k.0)) long) n.1 e in
          let two = unset_before row left r k.0 long n.0 one.0 in (two.0, λ q. cc);
    })
refined_follows profile row c w left (operand.Immediate i) o t long plain cells na u =
    let a = register_number row left [] plain (na left (inl refl)) u in
    let m = wrapped 64 i % 2 ^ bits w in
    let n = refined_numbers profile c w (kind_at row left) (one_number profile m) t a (left_number _) in
    record {
      plain = set_plain row left _ plain (na left (inl refl)) n.0;
      cells = cells_with_kind row left _ cells;
      unset = λ r e. let one = unset_before row left r _ long n.0 e in (one.0, λ q. cc);
    }

stored_follows : (profile : Profile) (row : Row) (size : Size) (base : Register) (offset : ℤ) (src : Operand) → IsLong profile row → PlainRow row → PlainCells row → IsNum (kind_from profile row src) → Follows row (row_stored profile (kind_at row base) offset (size_bytes size) (kind_from profile row src) row) (insn.Store size base offset src)
stored_follows profile row size base offset src long plain cells h =
    let o = part_at profile (kind_at row base) offset (size_bytes size) in
    let span = span_of (kind_at row base) offset (size_bytes size) in
    let k = kind_from profile row src in
    record {
      plain = λ r. subst (PlainAt r) (sym (stored_register profile o span k row r)) (plain r);
      cells = stored_num profile (kind_at row base) offset (size_bytes size) o span k row long refl h cells;
      unset = λ r u. (sym (stored_register profile o span k row r) ∙ u, λ q. cc);
    }

pub after_follows : (profile : Profile) (callee : Callee) (row : Row) (x : Insn) → IsLong profile row → PlainRow row → PlainCells row → IsPlainInsn x → any_unset row (reads no_calls x) ≡ false → Follows row (row_after profile callee row x) x
after_follows profile callee row (insn.Alu o w dst src) long plain cells is u = written_follows row _ dst _ (some_registers profile row long) plain cells (is.no_address dst (inl refl)) (result_number _ (alu_number profile row plain w dst src is.no_address o u)) refl
after_follows profile callee row (insn.Swap kind n dst) long plain cells is u = written_follows row _ dst _ (some_registers profile row long) plain cells (is.no_address dst (inl refl)) (result_number _ (swap_result profile kind n (kind_at row dst) (register_number row dst [] plain (is.no_address dst (inl refl)) u))) refl
after_follows profile callee row (insn.Load size extend dst base offset) long plain cells is u = written_follows row _ dst _ (some_registers profile row long) plain cells (is.no_address dst (inl refl)) (read_num profile row (kind_at row base) offset (size_bytes size) extend (part_at profile (kind_at row base) offset (size_bytes size)) (loaded profile size extend) long refl (loaded_number profile size extend) cells) refl
after_follows profile callee row (insn.Store size base offset src) long plain cells is u = stored_follows profile row size base offset src long plain cells (operand_number profile row src plain is.no_address (or_right (is_unset (kind_at row base)) (any_unset row (operand_reads src)) u))
after_follows profile callee row (insn.Jump distance) long plain cells is u = same_follows row _ plain cells refl
after_follows profile callee row (insn.JumpIf c w left right o) long plain cells is u = refined_follows profile row c w left right o false (some_registers profile row long) plain cells is.no_address u
after_follows profile callee row (insn.Call helper) long plain cells is u = absurd (is.no_call helper refl)
after_follows profile callee row insn.Exit long plain cells is u = same_follows row _ plain cells refl
after_follows profile callee row (insn.Wide dst n) long plain cells is u = written_follows row _ dst _ (some_registers profile row long) plain cells (is.no_address dst (inl refl)) (left_number _) refl
after_follows profile callee row insn.Tail long plain cells is u = same_follows row _ plain cells refl

pub taken_follows : (profile : Profile) (row : Row) (x : Insn) (z : ℤ) (i : ℕ) → target_of i x ≡ Some z → IsLong profile row → PlainRow row → PlainCells row → IsPlainInsn x → any_unset row (reads no_calls x) ≡ false → Follows row (row_taken profile row x) x
taken_follows profile row (insn.Alu o w dst src) z i e long plain cells is u = cc
taken_follows profile row (insn.Swap kind n dst) z i e long plain cells is u = cc
taken_follows profile row (insn.Load size extend dst base offset) z i e long plain cells is u = cc
taken_follows profile row (insn.Store size base offset src) z i e long plain cells is u = cc
taken_follows profile row (insn.Jump distance) z i e long plain cells is u = same_follows row _ plain cells refl
taken_follows profile row (insn.JumpIf c w left right o) z i e long plain cells is u = refined_follows profile row c w left right o true (some_registers profile row long) plain cells is.no_address u
taken_follows profile row (insn.Call helper) z i e long plain cells is u = cc
taken_follows profile row insn.Exit z i e long plain cells is u = cc
taken_follows profile row (insn.Wide dst n) z i e long plain cells is u = cc
taken_follows profile row insn.Tail z i e long plain cells is u = cc

-- ---- joins

pub join_unset : (profile : Profile) (k : Kind) → join_of profile k Unset ≡ Unset
join_unset profile Unset = refl
join_unset profile Dead = refl
join_unset profile (Num a) = refl
join_unset profile (Ptr s lo hi) = refl
join_unset profile (Halves l h) = refl

pub unset_join : (profile : Profile) (k : Kind) → join_of profile Unset k ≡ Unset
unset_join profile Unset = refl
unset_join profile Dead = refl
unset_join profile (Num a) = refl
unset_join profile (Ptr s lo hi) = refl
unset_join profile (Halves l h) = refl

pub at_join : (profile : Profile) (a b : Row) (r : ℕ) → get_or (join_rows profile a b) r Unset ≡ join_of profile (get_or a r Unset) (get_or b r Unset)
at_join profile [] b r = sym (unset_join profile (get_or b r Unset))
at_join profile (x ∷ xs) [] r = sym (join_unset profile (get_or (x ∷ xs) r Unset))
at_join profile (x ∷ xs) (y ∷ ys) zero = refl
at_join profile (x ∷ xs) (y ∷ ys) (suc r) = at_join profile xs ys r

module _ (profile : Profile) where
  join_plain_kinds : (a b : Kind) → IsNumOrUnset a → IsNumOrUnset b → IsNumOrUnset (join_of profile a b)
  join_plain_kinds Dead b h g = g
  join_plain_kinds Unset b h g = subst IsNumOrUnset (sym (unset_join profile b)) tt
  join_plain_kinds (Num a) Unset h g = tt
  join_plain_kinds (Num a) Dead h g = tt
  join_plain_kinds (Num a) (Num b) h g = num_or_unset _ (left_number _)
  join_plain_kinds (Num a) (Ptr q bl bh) h g = absurd g
  join_plain_kinds (Num a) (Halves l u) h g = absurd g
  join_plain_kinds (Ptr q al ah) b h g = absurd h
  join_plain_kinds (Halves l u) b h g = absurd h

  join_same : (a b k : Kind) → join_of profile k k ≡ k → a ≡ k → b ≡ k → join_of profile a b ≡ k
  join_same a b k j e f = ap (λ x. join_of profile x b) e ∙ ap (join_of profile k) f ∙ j

  join_plain_at : (r : Register) (a b : Kind) → PlainAt r a → PlainAt r b → PlainAt r (join_of profile a b)
  join_plain_at R0 a b h g = join_plain_kinds a b h g
  join_plain_at R1 a b h g = join_same a b _ refl h g
  join_plain_at R2 a b h g = join_plain_kinds a b h g
  join_plain_at R3 a b h g = join_same a b _ refl h g
  join_plain_at R4 a b h g = join_plain_kinds a b h g
  join_plain_at R5 a b h g = join_plain_kinds a b h g
  join_plain_at R6 a b h g = join_plain_kinds a b h g
  join_plain_at R7 a b h g = join_plain_kinds a b h g
  join_plain_at R8 a b h g = join_plain_kinds a b h g
  join_plain_at R9 a b h g = join_plain_kinds a b h g
  join_plain_at R10 a b h g = join_same a b _ refl h g

  pub join_plain : (a b : Row) → PlainRow a → PlainRow b → PlainRow (join_rows profile a b)
  join_plain a b h g = λ r. subst (PlainAt r) (sym (at_join profile a b (number r))) (join_plain_at r (kind_at a r) (kind_at b r) (h r) (g r))

  -- of two plain kinds that join to nothing known, one was unset
  one_unset : (a b : Kind) → IsNumOrUnset a → IsNumOrUnset b → join_of profile a b ≡ Unset → (a ≡ Unset) ⊎ (b ≡ Unset)
  one_unset Unset b h g e = inl refl
  one_unset Dead b h g e = inr e
  one_unset (Num a) Unset h g e = inr refl
  one_unset (Num a) Dead h g e = cc
  one_unset (Num a) (Num b) h g e = absurd (not_number _ (left_number _) e)
  one_unset (Num a) (Ptr q bl bh) h g e = absurd g
  one_unset (Num a) (Halves l u) h g e = absurd g
  one_unset (Ptr q al ah) b h g e = absurd h
  one_unset (Halves l u) b h g e = absurd h

  kept_pointer : (a b k : Kind) → join_of profile k k ≡ k → (k ≡ Unset → ⊥) → a ≡ k → b ≡ k → join_of profile a b ≡ Unset → (a ≡ Unset) ⊎ (b ≡ Unset)
  kept_pointer a b k j n e f u = absurd (n (sym (join_same a b k j e f) ∙ u))

  one_unset_at : (r : Register) (a b : Kind) → PlainAt r a → PlainAt r b → join_of profile a b ≡ Unset → (a ≡ Unset) ⊎ (b ≡ Unset)
  one_unset_at R0 a b h g e = one_unset a b h g e
  one_unset_at R1 a b h g e = kept_pointer a b _ refl (λ q. cc) h g e
  one_unset_at R2 a b h g e = one_unset a b h g e
  one_unset_at R3 a b h g e = kept_pointer a b _ refl (λ q. cc) h g e
  one_unset_at R4 a b h g e = one_unset a b h g e
  one_unset_at R5 a b h g e = one_unset a b h g e
  one_unset_at R6 a b h g e = one_unset a b h g e
  one_unset_at R7 a b h g e = one_unset a b h g e
  one_unset_at R8 a b h g e = one_unset a b h g e
  one_unset_at R9 a b h g e = one_unset a b h g e
  one_unset_at R10 a b h g e = kept_pointer a b _ refl (λ q. cc) h g e

  pub unset_of_one : (a b : Row) (r : Register) → PlainRow a → PlainRow b → kind_at (join_rows profile a b) r ≡ Unset → (kind_at a r ≡ Unset) ⊎ (kind_at b r ≡ Unset)
  unset_of_one a b r h g e = one_unset_at r (kind_at a r) (kind_at b r) (h r) (g r) (sym (at_join profile a b (number r)) ∙ e)

  -- the cells of a join
  drop_join : (m : ℕ) (a b : Row) → drop m (join_rows profile a b) ≡ join_rows profile (drop m a) (drop m b)
  drop_join zero a b = refl
  drop_join (suc m) [] b = refl
  drop_join (suc m) (x ∷ a) [] = sym (join_none (drop m a))
    where
      join_none : (ks : Row) → join_rows profile ks [] ≡ []
      join_none [] = refl
      join_none (k ∷ ks) = refl
  drop_join (suc m) (x ∷ a) (y ∷ b) = drop_join m a b

  words_known : (a b : Option Word) → IsSome a → IsSome b → IsSome (joined_words a b)
  unfolding IsSome
  words_known (Some a) (Some b) h g = tt
  words_known (Some a) None h g = absurd g
  words_known None b h g = absurd h

  halves_join : (a b : Kind) → HoldsNum a → HoldsNum b → HoldsNum (Halves (joined_words (low_word a) (low_word b)) (joined_words (high_word a) (high_word b)))
  halves_join a b h g =
      both_known _ _ (words_known (low_word a) (low_word b) (low_known a h) (low_known b g)) (words_known (high_word a) (high_word b) (high_known a h) (high_known b g))

  num_join : (a b : Kind) → HoldsNum a → HoldsNum b → HoldsNum (join_of profile a b)
  num_join Unset b h g = absurd h
  num_join Dead b h g = g
  num_join (Num a) Unset h g = absurd g
  num_join (Num a) Dead h g = tt
  num_join (Num a) (Num b) h g = num_held _ (left_number _)
  num_join (Num a) (Halves l u) h g = halves_join (Num a) (Halves l u) h g
  num_join (Num a) (Ptr q bl bh) h g = absurd g
  num_join (Ptr q al ah) b h g = absurd h
  num_join (Halves l u) Unset h g = absurd g
  num_join (Halves l u) Dead h g = h
  num_join (Halves l u) (Num b) h g = halves_join (Halves l u) (Num b) h g
  num_join (Halves l u) (Ptr q bl bh) h g = absurd g
  num_join (Halves l u) (Halves l' u') h g = halves_join (Halves l u) (Halves l' u') h g

  all_join : (a b : Row) → AllNum a → AllNum b → AllNum (join_rows profile a b)
  all_join [] b h g = tt
  all_join (x ∷ a) [] h g = tt
  all_join (x ∷ a) (y ∷ b) h g = (num_join x y h.0 g.0, all_join a b h.1 g.1)

  pub join_cells : (a b : Row) → PlainCells a → PlainCells b → PlainCells (join_rows profile a b)
  join_cells a b h g = subst AllNum (sym (drop_join 11 a b)) (all_join (drop 11 a) (drop 11 b) h g)
