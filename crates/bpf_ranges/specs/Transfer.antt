-- The two tables of kinds (this store's profiles): what an operation, a byte swap, a comparison and a join leave known.
use Rattle.std.specs.Prelude.{ℕ, ℤ, pos, negsuc, unsigned_abs, Bool, true, false, Option, Some, None, Result, Ok, Err, ◌&&◌, ◌+◌, ◌*◌, ◌-◌, ◌/◌, ◌%◌, ◌^◌, ◌+ℤ◌, ◌-ℤ◌, int_le, nat_lt, nat_le, min, max, if◌then◌else◌}
use Rattle.std.specs.Int.{int_min, int_max}
use Rattle.bpf_alu.specs.declared.Width.{Width}
use Rattle.bpf_alu.specs.declared.Width.TheVariants.{W32, W64}
use Rattle.bpf_alu.specs.declared.Op.{Op}
use Rattle.bpf_alu.specs.declared.Op.TheVariants.{Add, Sub, Neg, Mov, Movsx8, Movsx16, Movsx32}
use Rattle.bpf_alu.specs.declared.Cond.{Cond}
use Rattle.bpf_alu.specs.declared.SwapKind.{SwapKind}
use Rattle.bpf_alu.specs.declared.SwapBits.{SwapBits}
use Rattle.bpf_semantics.specs.declared.Region.{Region}
use Rattle.bpf_semantics.specs.declared.Region.TheVariants.{Stack, Input, Output}
use Rattle.bpf_semantics.specs.declared.profile.Profile.{Profile}
use Rattle.bpf_semantics.specs.declared.profile.Profile.TheVariants.{First, Second}
use Rattle.bpf_ranges.specs.declared.range.Range.{Range}
use Rattle.bpf_ranges.specs.declared.number.Number.{Number}
use Rattle.bpf_ranges.specs.declared.kind.Kind.{Kind}
use Rattle.bpf_ranges.specs.declared.kind.Kind.TheVariants.{Unset, Dead, Num, Ptr, Halves}
use Rattle.bpf_ranges.specs.declared.kind.Part.{Part}
use Rattle.bpf_ranges.specs.declared.kind.Part.TheVariants.{Whole, Low, High}
use Rattle.bpf_ranges.specs.declared.word.Word.{Word}
use Rattle.bpf_ranges.specs.declared.kind.Bad.{Bad}
use Rattle.bpf_ranges.specs.declared.kind.Bad.TheVariants.{V22, V23}
use Rattle.bpf_ranges.specs.KnownBits.{nothing}
use Rattle.bpf_ranges.specs.Kinds.{origin}
use Rattle.bpf_ranges.specs.Words.{low_word, high_word, joined_words}
use Rattle.bpf_ranges.specs.Numbers.{range, number_of, settled, numbers, swapped_number, joined_numbers}
use Rattle.bpf_ranges.specs.Comparisons.{compared}

-- ---- pointers

-- a range read as signed numbers: below 2 ^ 63 as it is, from there on less 2 ^ 64, and none where it has both
abbrev pub signed_range : ℕ → ℕ → Option (ℤ × ℤ)
signed_range lo hi =
    if nat_lt hi (2 ^ 63) then Some (pos lo, pos hi)
    else (if nat_le (2 ^ 63) lo then Some (pos lo -ℤ pos (2 ^ 64), pos hi -ℤ pos (2 ^ 64)) else None)

-- how far from its region a pointer may be, on either side: by the second profile as far as two numbers of 32 bits lead
abbrev pub is_near : Profile → ℤ → Bool
is_near First z = int_le (negsuc (2 ^ 20 - 1)) z && int_le z (pos (2 ^ 20))
is_near Second z = int_le (negsuc (2 ^ 33 - 1)) z && int_le z (pos (2 ^ 33))

abbrev pub pointer : Profile → Region → ℤ → ℤ → Result Kind Bad
pointer profile region lo hi = if is_near profile lo && is_near profile hi then Ok (Ptr region lo hi) else Err V23

-- a pointer and a number added, and a number taken from a pointer
abbrev pub moved_up : Profile → Region → ℤ → ℤ → Option (ℤ × ℤ) → Result Kind Bad
moved_up profile region lo hi None = Err V23
moved_up profile region lo hi (Some d) = pointer profile region (lo +ℤ d.0) (hi +ℤ d.1)

abbrev pub moved_down : Profile → Region → ℤ → ℤ → Option (ℤ × ℤ) → Result Kind Bad
moved_down profile region lo hi None = Err V23
moved_down profile region lo hi (Some d) = pointer profile region (lo -ℤ d.1) (hi -ℤ d.0)

-- the address at an offset into a region
abbrev pub address : Region → ℤ → ℕ
address region offset = unsigned_abs (pos (origin region) +ℤ offset)

-- a pointer as a number: some address between its bounds
abbrev pub as_number : Region → ℤ → ℤ → Number
as_number region lo hi = number_of (range (address region lo) (address region hi))

-- the number that a kind is, if it is any
abbrev pub number_in : Kind → Option Number
number_in (Num a) = Some a
number_in (Ptr region lo hi) = Some (as_number region lo hi)
number_in k = None

-- ---- operations on kinds

-- a number of which something is left, and Dead where nothing is
abbrev pub kind_of : Option Number → Kind
kind_of None = Dead
kind_of (Some a) = Num a

-- a number of which a range is known
abbrev pub kind_in : Profile → Range → Kind
kind_in profile r = kind_of (settled profile r nothing)

-- What an operation on a kind and one that is Dead leaves, which is the first of the two, or the second: a pointer that the
-- dead number moves stays where it is, for no run comes there, and all else is Dead.
abbrev pub after_dead : Kind → Op → Width → Kind
after_dead (Ptr region lo hi) Add W64 = Ptr region lo hi
after_dead k op w = Dead

abbrev pub before_dead : Kind → Op → Width → Kind
before_dead (Ptr region lo hi) Add W64 = Ptr region lo hi
before_dead (Ptr region lo hi) Sub W64 = Ptr region lo hi
before_dead k op w = Dead

-- a pointer taken from a pointer: by the second profile an address from an address
abbrev pub apart_by : Profile → Number → Number → Result Kind Bad
apart_by First a b = Err V22
apart_by Second a b = Ok (kind_of (numbers Second Sub W64 a b))

-- An operation that reads one number, and one that reads two. Of numbers that are Dead any operation is.
abbrev pub of_one : Profile → Op → Width → Kind → Result Kind Bad
of_one profile op w (Num a) = Ok (kind_of (numbers profile op w a a))
of_one profile op w Dead = Ok Dead
of_one profile op w other = Err V22

abbrev pub of_two : Profile → Op → Width → Kind → Kind → Result Kind Bad
of_two profile op w Dead b = Ok (after_dead b op w)
of_two profile op w a Dead = Ok (before_dead a op w)
of_two profile op w (Num a) (Num b) = Ok (kind_of (numbers profile op w a b))
of_two profile Add W64 (Ptr region lo hi) (Num b) = moved_up profile region lo hi (signed_range b.range.lo b.range.hi)
of_two profile Add W64 (Num a) (Ptr region lo hi) = moved_up profile region lo hi (signed_range a.range.lo a.range.hi)
of_two profile Sub W64 (Ptr region lo hi) (Num b) = moved_down profile region lo hi (signed_range b.range.lo b.range.hi)
of_two profile Sub W64 (Ptr region lo hi) (Ptr other low high) = apart_by profile (as_number region lo hi) (as_number other low high)
of_two profile op w a b = Err V22

-- What an operation leaves in its destination, by the kinds of what it reads: a move of 64 bits copies. That an operand
-- is unset is told before this table is asked.
abbrev pub transfer_of : Profile → Op → Width → Kind → Kind → Result Kind Bad
transfer_of profile Mov W64 a b = Ok b
transfer_of profile Mov W32 a b = of_one profile Mov W32 b
transfer_of profile Movsx8 w a b = of_one profile Movsx8 w b
transfer_of profile Movsx16 w a b = of_one profile Movsx16 w b
transfer_of profile Movsx32 w a b = of_one profile Movsx32 w b
transfer_of profile Neg w a b = of_one profile Neg w a
transfer_of profile op w a b = of_two profile op w a b

abbrev pub swap_of : Profile → SwapKind → SwapBits → Kind → Result Kind Bad
swap_of profile kind n (Num a) = Ok (kind_of (swapped_number profile kind n a))
swap_of profile kind n Dead = Ok Dead
swap_of profile kind n other = Err V22

-- ---- refinement

-- What is left of a pointer of which a range of addresses is left: it lies between the bounds of both. It stays where no
-- address does, for no run comes there.
abbrev pub pointer_left : Region → ℤ → ℤ → Range → Kind
pointer_left region lo hi r =
    let low = max (address region lo) r.lo in
    let high = min (address region hi) r.hi in
    if nat_le low high then Ptr region (pos low -ℤ pos (origin region)) (pos high -ℤ pos (origin region)) else Ptr region lo hi

-- what is left of a kind of which a number is left, or nothing
abbrev pub left_of_kind : Kind → Option Number → Kind
left_of_kind (Ptr region lo hi) None = Ptr region lo hi
left_of_kind (Ptr region lo hi) (Some a) = pointer_left region lo hi a.range
left_of_kind k o = kind_of o

abbrev pub kinds_left : Kind → Kind → Option (Number × Number) → Kind × Kind
kinds_left a b None = (left_of_kind a None, left_of_kind b None)
kinds_left a b (Some p) = (left_of_kind a (Some p.0), left_of_kind b (Some p.1))

-- two kinds after a comparison of the numbers that they are, if both are any
abbrev pub compared_kinds : Cond → Bool → Kind → Kind → Option Number → Option Number → Kind × Kind
compared_kinds c taken a b (Some x) (Some y) = kinds_left a b (compared Second c W64 taken x y)
compared_kinds c taken a b x y = (a, b)

-- a pointer that is compared: its address is, by the second profile and in 64 bits
abbrev pub refine_pointers : Profile → Cond → Width → Kind → Kind → Bool → Kind × Kind
refine_pointers Second c W64 a b taken = compared_kinds c taken a b (number_in a) (number_in b)
refine_pointers profile c w a b taken = (a, b)

-- the kinds of two numbers after a jump, taken or not
abbrev pub refine_of : Profile → Cond → Width → Kind → Kind → Bool → Kind × Kind
refine_of profile c w Dead b taken = kinds_left Dead b None
refine_of profile c w a Dead taken = kinds_left a Dead None
refine_of profile c w (Num a) (Num b) taken = kinds_left (Num a) (Num b) (compared profile c w taken a b)
refine_of profile c w a b taken = refine_pointers profile c w a b taken

-- ---- joins

abbrev pub same_region : Region → Region → Bool
same_region Stack Stack = true
same_region Input Input = true
same_region Output Output = true
same_region r s = false

abbrev pub joined_pointers : Region → ℤ → ℤ → Region → ℤ → ℤ → Kind
joined_pointers r al ah s bl bh = if same_region r s then Ptr r (int_min al bl) (int_max ah bh) else Unset

-- The least range over both of two numbers with the bits that they share, or over two pointers into one region; of what is
-- Dead the other; word by word where one is known so, and the other is a number or known so too; of any other two nothing is known.
abbrev pub join_of : Profile → Kind → Kind → Kind
join_of profile Dead b = b
join_of profile a Dead = a
join_of profile (Num a) (Num b) = kind_of (joined_numbers profile a b)
join_of profile (Ptr r al ah) (Ptr s bl bh) = joined_pointers r al ah s bl bh
join_of profile (Halves low high) (Halves l h) = Halves (joined_words low l) (joined_words high h)
join_of profile (Halves low high) (Num b) = Halves (joined_words low (low_word (Num b))) (joined_words high (high_word (Num b)))
join_of profile (Num a) (Halves l h) = Halves (joined_words (low_word (Num a)) l) (joined_words (high_word (Num a)) h)
join_of profile a b = Unset

-- ---- parts of a cell

-- a word that is read alone, with zeros above it
abbrev pub word_kind : Profile → Option Word → Kind
word_kind profile None = Unset
word_kind profile (Some w) = kind_in profile (range w.lo w.hi)

-- two words that are read as one number
abbrev pub whole_kind : Profile → Option Word → Option Word → Kind
whole_kind profile (Some l) (Some h) = kind_in profile (range (l.lo + 2 ^ 32 * h.lo) (l.hi + 2 ^ 32 * h.hi))
whole_kind profile low high = Unset

-- what is read of a cell: all of it, or one half
abbrev pub part_of : Profile → Part → Kind → Kind
part_of profile Whole (Halves low high) = whole_kind profile low high
part_of profile Whole k = k
part_of profile Low k = word_kind profile (low_word k)
part_of profile High k = word_kind profile (high_word k)

-- a cell of which a part was written with the low bytes of what a kind admits: its other half is as it was
abbrev pub with_part : Part → Kind → Kind → Kind
with_part Whole k cell = k
with_part Low k cell = Halves (low_word k) (high_word cell)
with_part High k cell = Halves (low_word cell) (low_word k)

-- the number that is read of a cell's number, and the cell's after a number's low bytes were written to a part of it
abbrev pub part_value : Part → ℕ → ℕ
part_value Whole n = n
part_value Low n = n % 2 ^ 32
part_value High n = n / 2 ^ 32

abbrev pub value_with : Part → ℕ → ℕ → ℕ
value_with Whole n old = n
value_with Low n old = n % 2 ^ 32 + 2 ^ 32 * (old / 2 ^ 32)
value_with High n old = old % 2 ^ 32 + 2 ^ 32 * (n % 2 ^ 32)
