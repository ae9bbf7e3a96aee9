-- What is known of the registers and of the stack, and of the bytes to which a pointer leads (this store's profiles).
use Rattle.std.specs.Prelude.{◌≡◌, ℕ, ◌+◌, ℤ, pos, negsuc, ◌+ℤ◌, int_le, Bool, true, false, ◌&&◌, ◌||◌, List, [], ◌∷◌, length, replicate, slice_index_or, slice_set}
use Rattle.bpf_alu.specs.Value.{wrapped}
use Rattle.bpf_insn.specs.Encoding.{number}
use Rattle.bpf_insn.specs.declared.Register.{Register}
use Rattle.bpf_insn.specs.declared.Operand.{Operand}
use Rattle.bpf_insn.specs.declared.Operand.TheVariants as operand
use Rattle.bpf_semantics.specs.declared.Region.{Region}
use Rattle.bpf_semantics.specs.declared.Region.TheVariants.{Stack, Input, Output}
use Rattle.bpf_ranges.specs.Numbers.{single, up_to}
use Rattle.bpf_ranges.specs.Transfer.{kind_in}
use Rattle.bpf_semantics.specs.declared.profile.Profile.{Profile}
use Rattle.bpf_semantics.specs.declared.profile.Profile.TheVariants.{First, Second}
use Rattle.bpf_ranges.specs.declared.kind.Kind.{Kind}
use Rattle.bpf_ranges.specs.declared.kind.Kind.TheVariants.{Unset, Ptr}
use Rattle.bpf_verifier.specs.Program.{Program}

-- the kinds of R0 to R10, and behind them those of the stack's cells, its whole words of 8 bytes, from the lowest on
abbrev pub Row : Type 0
Row = List Kind

-- how many cells a table knows: the first one none, the second one all 64
abbrev pub cell_count : Profile → ℕ
cell_count First = 0
cell_count Second = 64

abbrev pub IsLong : Profile → Row → Type 0
IsLong profile row = length row ≡ 11 + cell_count profile

abbrev pub kind_at : Row → Register → Kind
kind_at row r = slice_index_or row (number r) Unset

abbrev pub with_kind : Row → Register → Kind → Row
with_kind row r k = slice_set row (number r) k

abbrev pub one_number : Profile → ℕ → Kind
one_number profile n = kind_in profile (single n)

-- the kind of an operand: an immediate is one number, with its sign extended
abbrev pub kind_from : Profile → Row → Operand → Kind
kind_from profile row (operand.Register r) = kind_at row r
kind_from profile row (operand.Immediate n) = one_number profile (wrapped 64 n)

-- the kinds before the first slot: R1 the input, R2 its used length, R3 the output, R4 its length, R10 the stack's end, and
-- in each cell the number 0
abbrev pub entry : Program → Row
entry p =
    Unset ∷ Ptr Input (pos 0) (pos 0) ∷ kind_in p.profile (up_to p.in_len) ∷ Ptr Output (pos 0) (pos 0) ∷ one_number p.profile p.out_len ∷ Unset ∷ Unset ∷ Unset ∷ Unset ∷ Unset ∷ Ptr Stack (pos 0) (pos 0) ∷ replicate (cell_count p.profile) (one_number p.profile 0)

abbrev pub is_unset : Kind → Bool
is_unset Unset = true
is_unset k = false

abbrev pub is_pointer : Kind → Bool
is_pointer (Ptr region lo hi) = true
is_pointer k = false

abbrev pub is_input_pointer : Kind → Bool
is_input_pointer (Ptr Input lo hi) = true
is_input_pointer k = false

-- whether a register of a list is not known to be set
abbrev pub any_unset : Row → List Register → Bool
any_unset row [] = false
any_unset row (r ∷ rs) = is_unset (kind_at row r) || any_unset row rs

-- ---- windows

-- the offsets of a window's first byte and of its end: those of the stack count from its end
abbrev pub first_offset : Region → ℤ
first_offset Stack = negsuc 511
first_offset Input = pos 0
first_offset Output = pos 0

abbrev pub end_offset : Program → Region → ℤ
end_offset p Stack = pos 0
end_offset p Input = pos p.in_len
end_offset p Output = pos p.out_len

-- whether every byte that an access may touch lies in its window
abbrev pub is_inside : Program → Kind → ℤ → ℕ → Bool
is_inside p (Ptr region lo hi) offset size =
    int_le (first_offset region) (lo +ℤ offset) && int_le (hi +ℤ offset +ℤ pos size) (end_offset p region)
is_inside p k offset size = false
