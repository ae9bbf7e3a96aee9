-- What is known of each register beside its kind: that it holds the sum of a register and an operand (this store's profiles). It is known
-- by the code alone, from a move or an addition on, as long as no jump leads there, nothing is called and none of its registers is written.
use Rattle.std.specs.Prelude.{ℕ, zero, suc, ◌-◌, ◌^◌, ◌==◌, pos, nat_le, int_lt, Bool, true, false, not, ◌||◌, ◌&&◌, if◌then◌else◌, Option, None, Some, List, [], ◌∷◌, replicate, slice_get, slice_index_or, min}
use Rattle.bpf_alu.specs.declared.Op.{Op}
use Rattle.bpf_alu.specs.declared.Op.TheVariants.{Mov, Add}
use Rattle.bpf_alu.specs.declared.Cond.TheVariants.{LessEqual}
use Rattle.bpf_alu.specs.declared.Width.{Width}
use Rattle.bpf_alu.specs.declared.Width.TheVariants.{W64}
use Rattle.bpf_insn.specs.Encoding.{number}
use Rattle.bpf_insn.specs.declared.Register.{Register}
use Rattle.bpf_insn.specs.declared.Register.TheVariants.{R0, R1, R2, R3, R4, R5, R6, R7, R8, R9, R10}
use Rattle.bpf_insn.specs.declared.Operand.{Operand}
use Rattle.bpf_insn.specs.declared.Operand.TheVariants as operand
use Rattle.bpf_insn.specs.declared.Insn.{Insn}
use Rattle.bpf_insn.specs.declared.Insn.TheVariants as insn
use Rattle.bpf_semantics.specs.declared.profile.Profile.{Profile}
use Rattle.bpf_semantics.specs.declared.profile.Profile.TheVariants.{Second}
use Rattle.bpf_ranges.specs.declared.kind.Kind.{Kind}
use Rattle.bpf_ranges.specs.declared.kind.Kind.TheVariants.{Num, Ptr}
use Rattle.bpf_ranges.specs.Transfer.{address, refine_of}
use Rattle.bpf_copies.specs.Led.{leads_before}
use Rattle.bpf_helpers.specs.Calls.{Callee}
use Rattle.bpf_verifier.specs.Registers.{Row, kind_at, with_kind, one_number, kind_from}
use Rattle.bpf_verifier.specs.Rules.{row_after}
use Rattle.bpf_verifier.specs.Pairs.{most_together}
use Rattle.bpf_verifier.specs.declared.sum.Sum.{Sum}
use Rattle.bpf_verifier.specs.declared.pair.Pairs.{Pairs}

-- ---- which sums are known

-- the sum that each of R0 to R10 is known to hold, if one is
abbrev pub KnownSums : Type 0
KnownSums = List (Option Sum)

abbrev pub no_sums : KnownSums
no_sums = replicate 11 None

abbrev pub sum_in : KnownSums → Register → Option Sum
sum_in sums r = slice_index_or sums (number r) None

-- whether a register is an operand, and whether it is one of those of a sum
abbrev pub is_operand : Register → Operand → Bool
is_operand r (operand.Register q) = number q == number r
is_operand r (operand.Immediate n) = false

abbrev pub has_register : Register → Sum → Bool
has_register r sum = number sum.of == number r || (number sum.left == number r || is_operand r sum.right)

-- after a write to a register the sums that have it are known no more
abbrev pub without : Register → Option Sum → Option Sum
without r None = None
without r (Some sum) = if has_register r sum then None else Some sum

-- by a copy: the register and zero
abbrev pub copied : Register → Operand → Option Sum
copied dst (operand.Register src) =
    if number src == number dst then None else Some (record { of = dst; left = src; right = operand.Immediate (pos 0) })
copied dst (operand.Immediate n) = None

abbrev pub is_zero : Operand → Bool
is_zero (operand.Immediate (pos zero)) = true
is_zero other = false

-- whether a register is known to be the copy of another, and an operand is none that is added to itself
abbrev pub is_copy : Register → Operand → Sum → Bool
is_copy dst src sum = (number sum.of == number dst && is_zero sum.right) && (not (number sum.left == number dst) && not (is_operand dst src))

-- by an addition to a copy: the copied register and what is added
abbrev pub added : Register → Operand → Option Sum → Option Sum
added dst src None = None
added dst src (Some sum) = if is_copy dst src sum then Some (record { of = dst; left = sum.left; right = src }) else None

-- the sum that an operation gives its register, by the one that it held
abbrev pub sum_of_op : Op → Width → Register → Operand → Option Sum → Option Sum
sum_of_op Mov W64 dst src sum = copied dst src
sum_of_op Add W64 dst src sum = added dst src sum
sum_of_op o w dst src sum = None

-- what a register is known to hold after a write to dst, which then holds a new sum, if one is known
abbrev pub kept : Register → Option Sum → KnownSums → Register → Option Sum
kept dst new sums r = if number r == number dst then new else without dst (sum_in sums r)

abbrev pub renewed : Register → Option Sum → KnownSums → KnownSums
renewed dst new sums =
    kept dst new sums R0 ∷ kept dst new sums R1 ∷ kept dst new sums R2 ∷ kept dst new sums R3 ∷ kept dst new sums R4 ∷ kept dst new sums R5 ∷ kept dst new sums R6 ∷ kept dst new sums R7 ∷ kept dst new sums R8 ∷ kept dst new sums R9 ∷ kept dst new sums R10 ∷ []

-- the sums that are known after an instruction, on its way to the next slot: a wide one goes past its second slot
abbrev pub sums_after : Insn → KnownSums → KnownSums
sums_after (insn.Alu o w dst src) sums = renewed dst (sum_of_op o w dst src (sum_in sums dst)) sums
sums_after (insn.Swap kind n dst) sums = renewed dst None sums
sums_after (insn.Load size extend dst base offset) sums = renewed dst None sums
sums_after (insn.Wide dst n) sums = renewed dst None sums
sums_after (insn.Store size base offset src) sums = sums
sums_after (insn.JumpIf c w left right offset) sums = sums
sums_after insn.Tail sums = sums
sums_after other sums = no_sums

abbrev pub sums_next : Option Insn → KnownSums → KnownSums
sums_next None sums = no_sums
sums_next (Some x) sums = sums_after x sums

-- the sums that are known at a slot: none where a jump leads there
abbrev pub sums_at : List Insn → ℕ → KnownSums
sums_at code zero = no_sums
sums_at code (suc i) = if leads_before code (suc i) (suc i) then no_sums else sums_next (slice_get code i) (sums_at code i)

-- ---- what they tell

-- the least and the greatest number that a kind may be, a pointer by its address
abbrev pub least : Kind → ℕ
least (Num a) = a.range.lo
least (Ptr region lo hi) = address region lo
least k = 0

abbrev pub most : Kind → ℕ
most (Num a) = a.range.hi
most (Ptr region lo hi) = address region hi
most k = 2 ^ 64 - 1

-- what is left of a number that is at most n, or of a pointer whose address is; where a pointer leads to one place it stays
abbrev pub at_most : ℕ → Kind → Kind
at_most n (Num a) = (refine_of Second LessEqual W64 (Num a) (one_number Second n) true).0
at_most n (Ptr region lo hi) =
    if int_lt lo hi then (refine_of Second LessEqual W64 (Ptr region lo hi) (one_number Second n) true).0 else Ptr region lo hi
at_most n k = k

abbrev pub register_at_most : ℕ → Register → Row → Row
register_at_most n r row = with_kind row r (at_most n (kind_at row r))

abbrev pub operand_at_most : ℕ → Operand → Row → Row
operand_at_most n (operand.Register r) row = register_at_most n r row
operand_at_most n (operand.Immediate i) row = row

-- Where a sum can't pass 2 ^ 64, each of its two numbers is at most the greatest sum less the least other number.
abbrev pub told_by : Sum → Row → Row
told_by sum row =
    let left = kind_at row sum.left in
    let right = kind_from Second row sum.right in
    let whole = kind_at row sum.of in
    if nat_le (most left) (2 ^ 64 - 1 - most right)
    then operand_at_most (most whole - least left) sum.right (register_at_most (most whole - least right) sum.left row)
    else row

abbrev pub told_one : Option Sum → Row → Row
told_one None row = row
told_one (Some sum) row = told_by sum row

abbrev pub told_each : KnownSums → List Register → Row → Row
told_each sums [] row = row
told_each sums (r ∷ rs) row = told_each sums rs (told_one (sum_in sums r) row)

-- one after the other: R10 is never written, so it holds none
abbrev pub told_all : KnownSums → Row → Row
told_all sums row = told_each sums (R0 ∷ R1 ∷ R2 ∷ R3 ∷ R4 ∷ R5 ∷ R6 ∷ R7 ∷ R8 ∷ R9 ∷ []) row

-- by the second profile, and where a condition was tested
abbrev pub told : Insn → Profile → KnownSums → Row → Row
told (insn.JumpIf c w left right offset) Second sums row = told_all sums row
told x profile sums row = row

-- ---- what a pair tells of a sum

-- what is left of a register that holds the sum of two, which are at most so much together
abbrev pub sum_at_most : Option ℕ → Register → Row → Row
sum_at_most None dst row = row
sum_at_most (Some n) dst row = register_at_most (min n (2 ^ 64 - 1)) dst row

-- by the second profile, after a 64-bit addition of two registers
abbrev pub summed : Insn → Profile → Pairs → Row → Row
summed (insn.Alu Add W64 dst (operand.Register src)) Second pairs row = sum_at_most (most_together pairs dst src) dst row
summed x profile pairs row = row

-- the kinds where an instruction goes on to the next slot, with what the sums and the pairs before it tell
abbrev pub row_on : Profile → Callee → KnownSums → Pairs → Row → Insn → Row
row_on profile callee sums pairs row x = told x profile sums (summed x profile pairs (row_after profile callee row x))
