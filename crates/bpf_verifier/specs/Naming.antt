-- Which names the registers have, and what is told of those that hold copies of one value where a condition was tested (this store's second profile).
use Rattle.std.specs.Prelude.{ℕ, true, int_lt, Option, Some, slice_get, if◌then◌else◌, Result, Ok, Err, List, [], ◌∷◌}
use Rattle.bpf_alu.specs.declared.Op.TheVariants.{Add}
use Rattle.bpf_alu.specs.declared.Cond.TheVariants.{Equal}
use Rattle.bpf_alu.specs.declared.Width.TheVariants.{W64}
use Rattle.bpf_insn.specs.declared.Register.{Register}
use Rattle.bpf_insn.specs.declared.Register.TheVariants.{R0, R1, R2, R3, R4, R5, R6, R7, R8, R9}
use Rattle.bpf_insn.specs.declared.Operand.{Operand}
use Rattle.bpf_insn.specs.declared.Operand.TheVariants as operand
use Rattle.bpf_insn.specs.declared.Insn.{Insn}
use Rattle.bpf_insn.specs.declared.Insn.TheVariants as insn
use Rattle.bpf_semantics.specs.declared.profile.Profile.{Profile}
use Rattle.bpf_semantics.specs.declared.profile.Profile.TheVariants.{Second}
use Rattle.bpf_copies.specs.declared.bounds.Bounds.{Bounds}
use Rattle.bpf_copies.specs.Names.{Names, unbounded, names_at, distance_from, are_alike}
use Rattle.bpf_ranges.specs.declared.kind.Kind.{Kind}
use Rattle.bpf_ranges.specs.declared.kind.Kind.TheVariants.{Num, Ptr}
use Rattle.bpf_ranges.specs.declared.kind.Bad.{Bad}
use Rattle.bpf_ranges.specs.Transfer.{transfer_of, refine_of}
use Rattle.bpf_verifier.specs.Program.{Program}
use Rattle.bpf_verifier.specs.Sums.{least, most}
use Rattle.bpf_verifier.specs.Registers.{Row, kind_at, with_kind, one_number}

-- ---- names

-- within which bounds the operand of an operation is, where it is a register
abbrev pub bounds_in : Row → Insn → Bounds
bounds_in row (insn.Alu o w dst (operand.Register src)) = record { least = least (kind_at row src); most = most (kind_at row src) }
bounds_in row x = unbounded

abbrev pub bounds_of : Option Insn → Option (Option Row) → Bounds
bounds_of (Some x) (Some (Some row)) = bounds_in row x
bounds_of x row = unbounded

-- by the rows of lower slots
abbrev pub bounds_at : Program → List (Option Row) → ℕ → Bounds
bounds_at p rows i = bounds_of (slice_get p.code i) (slice_get rows i)

-- the names before a slot, by the code and the rows of lower slots
abbrev pub names_in : Program → List (Option Row) → ℕ → Names
names_in p rows k = names_at p.code (bounds_at p rows) k

-- ---- what they tell

-- what is left of a number that is equal to another kind's, or of a pointer whose address is; where a pointer leads to one place it stays
abbrev pub equal_to : Kind → Kind → Kind
equal_to (Num a) other = (refine_of Second Equal W64 (Num a) other true).0
equal_to (Ptr region lo hi) other = if int_lt lo hi then (refine_of Second Equal W64 (Ptr region lo hi) other true).0 else Ptr region lo hi
equal_to k other = k

abbrev pub equal_result : Kind → Result Kind Bad → Kind
equal_result k (Ok other) = equal_to k other
equal_result k (Err e) = k

-- of one that is so much more than another
abbrev pub from_other : Kind → Kind → ℕ → Kind
from_other k other n = equal_result k (transfer_of Second Add W64 other (one_number Second n))

-- what the kind of register a tells of register b
abbrev pub told_of : Names → Register → Register → Row → Row
told_of names a b row = if are_alike names a b then with_kind row b (from_other (kind_at row b) (kind_at row a) (distance_from names a b)) else row

abbrev pub told_each : Names → Register → List Register → Row → Row
told_each names a [] row = row
told_each names a (b ∷ bs) row = told_each names a bs (told_of names a b row)

abbrev pub told_from : Names → Register → Row → Row
told_from names a row = told_each names a (R0 ∷ R1 ∷ R2 ∷ R3 ∷ R4 ∷ R5 ∷ R6 ∷ R7 ∷ R8 ∷ R9 ∷ []) row

abbrev pub told_operand : Names → Operand → Row → Row
told_operand names (operand.Register r) row = told_from names r row
told_operand names (operand.Immediate n) row = row

-- be the jump taken or not
abbrev pub named : Insn → Profile → Names → Row → Row
named (insn.JumpIf c w left right offset) Second names row = told_operand names right (told_from names left row)
named x profile names row = row
