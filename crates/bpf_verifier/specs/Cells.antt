-- What is known of the stack's cells, which the second table of kinds has, and the first one not (this store's profiles).
use Rattle.std.specs.Prelude.{ℕ, ◌+◌, ◌*◌, ◌/◌, ◌%◌, ◌==◌, ℤ, pos, negsuc, ◌+ℤ◌, ◌-ℤ◌, int_le, int_lt, nat_lt, Bool, true, false, ◌&&◌, if◌then◌else◌, Option, None, Some, List, [], ◌∷◌, ◌++◌, take, drop, slice_index_or, slice_set}
use Rattle.std.specs.Option.{option_or}
use Rattle.bpf_semantics.specs.Windows.{longest_window}
use Rattle.bpf_semantics.specs.declared.Region.TheVariants.{Stack}
use Rattle.bpf_insn.specs.Encoding.{size_bytes}
use Rattle.bpf_insn.specs.declared.Register.TheVariants.{R1, R2, R3}
use Rattle.bpf_insn.specs.declared.Extend.{Extend}
use Rattle.bpf_insn.specs.declared.Extend.TheVariants.{Zero}
use Rattle.bpf_insn.specs.declared.Insn.{Insn}
use Rattle.bpf_insn.specs.declared.Insn.TheVariants as insn
use Rattle.bpf_ranges.specs.Numbers.{full}
use Rattle.bpf_ranges.specs.Transfer.{kind_in, part_of, with_part}
use Rattle.bpf_semantics.specs.declared.profile.Profile.{Profile}
use Rattle.bpf_ranges.specs.declared.kind.Kind.{Kind}
use Rattle.bpf_ranges.specs.declared.kind.Kind.TheVariants.{Unset, Dead, Num, Ptr, Halves}
use Rattle.bpf_ranges.specs.declared.kind.Part.{Part}
use Rattle.bpf_ranges.specs.declared.kind.Part.TheVariants.{Whole, Low, High}
use Rattle.bpf_helpers.specs.declared.sig.ArgRule.{ArgRule}
use Rattle.bpf_helpers.specs.declared.sig.ArgRule.TheVariants as rule
use Rattle.bpf_helpers.specs.Calls.{Callee, Copy, Fill, Same, Helper, Unknown}
use Rattle.bpf_verifier.specs.Registers.{Row, cell_count, kind_at}
use Rattle.bpf_verifier.specs.CallKinds.{number_up_to, first_kind, argument_kinds}
use Rattle.bpf_verifier.specs.declared.cell_part.CellPart.{CellPart}
use Rattle.bpf_verifier.specs.declared.span.Span.{Span}

-- ---- places on the stack, counted from its lowest byte

-- that of an offset from an offset into the stack, which count from its end
abbrev pub place_of : ℤ → ℤ → ℤ
place_of at offset = at +ℤ offset +ℤ pos 512

-- The places that an access of a size may touch, from one on, below another, by the kind of its address: any between its
-- lowest and its greatest offset. Through what is no pointer into the stack none.
abbrev pub span_of : Kind → ℤ → ℕ → Option Span
span_of (Ptr Stack lo hi) offset size = Some (record { from = place_of lo offset; to = place_of hi offset +ℤ pos size })
span_of k offset size = None

-- the cell, of so many, that begins at a place
abbrev pub cell_from : ℕ → ℤ → Option ℕ
cell_from count (pos n) = if n % 8 == 0 && nat_lt n (8 * count) then Some (n / 8) else None
cell_from count (negsuc n) = None

-- that part of a cell, if there is such a cell
abbrev pub in_cell : Part → Option ℕ → Option CellPart
in_cell part None = None
in_cell part (Some i) = Some (record { cell = i; part = part })

-- the part of a cell, of so many, that begins at a place and has so many bytes: all 8, or a half of 4, the low one first
abbrev pub part_from : ℕ → ℤ → ℕ → Option CellPart
part_from count place size =
    if size == 8 then in_cell Whole (cell_from count place)
    else (if size == 4 then option_or (in_cell Low (cell_from count place)) (in_cell High (cell_from count (place -ℤ pos 4))) else None)

-- the part of a cell that an access reads or writes, and no other byte, if it does: its bytes are at one offset that is known
abbrev pub part_at : Profile → Kind → ℤ → ℕ → Option CellPart
part_at profile (Ptr Stack lo hi) offset size = if int_le hi lo then part_from (cell_count profile) (place_of lo offset) size else None
part_at profile k offset size = None

-- whether the cell that begins at a place has a byte of a span, which may be empty
abbrev pub is_touched : Span → ℕ → Bool
is_touched span place = int_lt span.from (pos (place + 8)) && int_lt (pos place) span.to && int_lt span.from span.to

-- ---- the kinds of cells

abbrev pub cell_kind : Row → ℕ → Kind
cell_kind row i = slice_index_or row (11 + i) Unset

abbrev pub with_cell : Row → ℕ → Kind → Row
with_cell row i k = slice_set row (11 + i) k

-- Of a cell that may have been written to at places that aren't known, or as a part of more: where it held a number, or two words, it
-- holds some number, and else nothing is known.
abbrev pub touched : Profile → Kind → Kind
touched profile (Num a) = kind_in profile (full 64)
touched profile Dead = kind_in profile (full 64)
touched profile (Halves (Some low) (Some high)) = kind_in profile (full 64)
touched profile k = Unset

-- the kinds of cells, of which the first begins at a place, after a write to some byte or all of a span
abbrev pub cells_touched : Profile → Span → ℕ → List Kind → List Kind
cells_touched profile span place [] = []
cells_touched profile span place (k ∷ ks) =
    (if is_touched span place then touched profile k else k) ∷ cells_touched profile span (place + 8) ks

abbrev pub row_touched : Profile → Option Span → Row → Row
row_touched profile None row = row
row_touched profile (Some span) row = take 11 row ++ cells_touched profile span 0 (drop 11 row)

-- ---- stores: a cell that is written as a whole has the kind that is stored, and one of which a half is keeps the other

abbrev pub row_stored_in : Profile → Option CellPart → Option Span → Kind → Row → Row
row_stored_in profile (Some at) span k row = with_cell row at.cell (with_part at.part k (cell_kind row at.cell))
row_stored_in profile None span k row = row_touched profile span row

abbrev pub row_stored : Profile → Kind → ℤ → ℕ → Kind → Row → Row
row_stored profile address offset size k row =
    row_stored_in profile (part_at profile address offset size) (span_of address offset size) k row

-- a pointer may be stored where it fills a cell, and nowhere else
abbrev pub is_whole : Part → Bool
is_whole Whole = true
is_whole Low = false
is_whole High = false

abbrev pub is_cell : Option CellPart → Bool
is_cell None = false
is_cell (Some at) = is_whole at.part

-- ---- loads: of a cell, or of a half with zeros above it, they give what is known of it, else what is known by their size

abbrev pub read_kind : Profile → Extend → Option CellPart → Kind → Row → Kind
read_kind profile Zero (Some at) by_size row = part_of profile at.part (cell_kind row at.cell)
read_kind profile extend at by_size row = by_size

-- what is read so must be known
abbrev pub is_known : Kind → Bool
is_known Unset = false
is_known k = true

-- and each cell that any other read may touch must hold a number, or two words
abbrev pub is_numeric : Kind → Bool
is_numeric (Num a) = true
is_numeric Dead = true
is_numeric (Halves (Some low) (Some high)) = true
is_numeric k = false

abbrev pub are_numeric : Span → ℕ → List Kind → Bool
are_numeric span place [] = true
are_numeric span place (k ∷ ks) =
    (if is_touched span place then is_numeric k else true) && are_numeric span (place + 8) ks

abbrev pub has_numbers : Row → Option Span → Bool
has_numbers row None = true
has_numbers row (Some span) = are_numeric span 0 (drop 11 row)

abbrev pub is_readable : Profile → Option CellPart → Option Span → Row → Bool
is_readable profile (Some at) span row = is_known (part_of profile at.part (cell_kind row at.cell))
is_readable profile None span row = has_numbers row span

-- ---- calls: they read and write bytes that a pointer and a number name, up to a limit, and no cell as a whole

abbrev pub bytes_named : Kind → Option ℕ → Option Span
bytes_named address None = None
bytes_named address (Some n) = span_of address (pos 0) n

abbrev pub span_given : ℕ → Kind → Kind → Option Span
span_given limit address len = bytes_named address (number_up_to limit len)

-- whether the cells that each Read of a helper may touch hold numbers, by the kinds of its arguments
abbrev pub reads_numbers : Row → List ArgRule → List Kind → Bool
reads_numbers row [] ks = true
reads_numbers row (r ∷ rules) [] = true
reads_numbers row (rule.Read max ∷ rules) (k ∷ ks) = has_numbers row (span_given max k (first_kind ks)) && reads_numbers row rules ks
reads_numbers row (other ∷ rules) (k ∷ ks) = reads_numbers row rules ks

-- and so of the machine's own calls, by R3, the number of their bytes
abbrev pub own_numbers : Row → Kind → Bool
own_numbers row address = has_numbers row (span_given longest_window address (kind_at row R3))

abbrev pub call_reads_numbers : Callee → Row → Bool
call_reads_numbers Copy row = own_numbers row (kind_at row R2)
call_reads_numbers Fill row = true
call_reads_numbers Same row = own_numbers row (kind_at row R1) && own_numbers row (kind_at row R2)
call_reads_numbers (Helper sig) row = reads_numbers row sig.args (argument_kinds row)
call_reads_numbers Unknown row = true

-- the kinds after the writes of a call: copy and fill write where R1 points
abbrev pub row_written : Profile → Callee → Row → Row
row_written profile Copy row = row_touched profile (span_given longest_window (kind_at row R1) (kind_at row R3)) row
row_written profile Fill row = row_touched profile (span_given longest_window (kind_at row R1) (kind_at row R3)) row
row_written profile other row = row

-- ---- the bytes of the stack that a call may write, and those that any instruction may

abbrev pub span_by_call : Callee → Row → Option Span
span_by_call Copy row = span_given longest_window (kind_at row R1) (kind_at row R3)
span_by_call Fill row = span_given longest_window (kind_at row R1) (kind_at row R3)
span_by_call other row = None

abbrev pub span_written : Callee → Row → Insn → Option Span
span_written callee row (insn.Store size base offset src) = span_of (kind_at row base) offset (size_bytes size)
span_written callee row (insn.Call helper) = span_by_call callee row
span_written callee row other = None
