-- What is known of numbers, and what an operation leaves known of its result (this store's profiles).
use Rattle.std.specs.Prelude.{ℕ, Bool, true, false, Option, Some, None, ◌&&◌, ◌||◌, ◌==◌, ◌+◌, ◌-◌, ◌*◌, ◌/◌, ◌%◌, ◌^◌, ◌<◌, ◌≤◌, not, nat_lt, nat_le, if◌then◌else◌, min, max, bit_and, bit_or}
use Rattle.std.specs.Int.{w64, leading_zeros}
use Rattle.bpf_alu.specs.Value.{bits, byte_count, value, swapped}
use Rattle.bpf_alu.specs.declared.Width.{Width}
use Rattle.bpf_alu.specs.declared.Op.{Op}
use Rattle.bpf_alu.specs.declared.Op.TheVariants.{Add, Sub, Mul, Div, SignedDiv, Or, And, Xor, Lsh, Rsh, Arsh, Neg, Mod, SignedMod, Mov, Movsx8, Movsx16, Movsx32}
use Rattle.bpf_alu.specs.declared.SwapKind.{SwapKind}
use Rattle.bpf_alu.specs.declared.SwapKind.TheVariants.{ToLittle}
use Rattle.bpf_alu.specs.declared.SwapBits.{SwapBits}
use Rattle.bpf_ranges.specs.declared.range.Range.{Range}
use Rattle.bpf_ranges.specs.declared.bits.Bits.{Bits}
use Rattle.bpf_semantics.specs.declared.profile.Profile.{Profile}
use Rattle.bpf_semantics.specs.declared.profile.Profile.TheVariants.{First, Second}
use Rattle.bpf_ranges.specs.declared.number.Number.{Number}
use Rattle.bpf_ranges.specs.KnownBits.{HasBits, IsBits, known_as, nothing, exactly, both_set, either_set, one_set, common, cut_bits, moved_left, moved_right, low_result}

-- ---- what is known of a number

abbrev pub InRange : Range → ℕ → Type 0
InRange r n = (r.lo ≤ n) × (n ≤ r.hi)

-- a number of which so much is known
pub record IsOf (a : Number) (n : ℕ) : Type 0 where
  pub within : InRange a.range n
  pub has : HasBits a.bits n

-- a range of 64-bit numbers, not empty
pub record IsRange (r : Range) : Type 0 where
  pub ordered : r.lo ≤ r.hi
  pub fits : r.hi < 2 ^ 64

pub record IsNumber (a : Number) : Type 0 where
  pub range : IsRange a.range
  pub bits : IsBits a.bits

-- ---- ranges of numbers

abbrev pub range : ℕ → ℕ → Range
range lo hi = record { lo = lo; hi = hi }

-- one number; the numbers up to n; the numbers of k bits
abbrev pub single : ℕ → Range
single n = range n n

abbrev pub up_to : ℕ → Range
up_to n = range 0 n

abbrev pub full : ℕ → Range
full k = up_to (2 ^ k - 1)

abbrev pub is_single : Range → Bool
is_single r = r.lo == r.hi

-- the least range over both
abbrev pub least_over : Range → Range → Range
least_over a b = range (min a.lo b.lo) (max a.hi b.hi)

-- what k bits keep of the numbers from lo to hi: those numbers less a multiple of 2 ^ k, unless they pass one
abbrev pub wrapped_range : ℕ → ℕ → ℕ → Range
wrapped_range k lo hi = if lo / 2 ^ k == hi / 2 ^ k then range (lo % 2 ^ k) (hi % 2 ^ k) else full k

-- ---- numbers with bits

-- 2 ^ k - 1 with the least k such that n < 2 ^ k: so many bits are left below the leading zeros of n
abbrev pub ones_above : ℕ → ℕ
ones_above n = 2 ^ (64 - leading_zeros w64 n) - 1

abbrev pub known_number : Range → Bits → Number
known_number r b = record { range = r; bits = b }

-- a number of which the range alone is known
abbrev pub number_of : Range → Number
number_of r = known_number r nothing

-- the bits that no number up to n has
abbrev pub above : ℕ → ℕ
above n = 2 ^ 64 - 1 - ones_above n

abbrev pub has_bits : Bits → ℕ → Bool
has_bits b n = bit_and n b.zeros == 0 && bit_and n b.ones == b.ones

-- what a range tells of the bits, and bits of the range
abbrev pub bits_within : Range → Bits → Bits
bits_within r b = known_as (bit_or b.zeros (above r.hi)) b.ones

abbrev pub range_with : Bits → Range → Range
range_with b r = range (max r.lo b.ones) (min r.hi (2 ^ 64 - 1 - b.zeros))

-- a number of a range with some bits, if there may be one: of a single number all bits are known
abbrev pub if_possible : Range → Bits → Option Number
if_possible r b =
    if is_single r
    then (if has_bits b r.lo then Some (known_number r (exactly r.lo)) else None)
    else (if nat_le r.lo r.hi && bit_and b.ones b.zeros == 0 then Some (known_number r b) else None)

-- what a range and bits leave of a number, each telling of the other: nothing where they contradict themselves
abbrev pub tightened : Range → Bits → Option Number
tightened r b = let c = bits_within r b in if_possible (range_with c r) c

-- what a profile keeps of a range and bits: the first one the range
abbrev pub settled : Profile → Range → Bits → Option Number
settled First r b = Some (number_of r)
settled Second r b = tightened r b

-- ---- the rows of operations

-- An operand of k bits: a range below 2 ^ k stays, a single number keeps its low k bits, and of any other nothing is
-- known but its width.
abbrev pub cut : ℕ → Range → Range
cut k r = if nat_lt r.hi (2 ^ k) then r else (if is_single r then single (r.lo % 2 ^ k) else full k)

-- by the second profile the numbers of any other wrap
abbrev pub low_range : ℕ → Range → Range
low_range k r = if nat_lt r.hi (2 ^ k) then r else wrapped_range k r.lo r.hi

abbrev pub cut_by : Profile → ℕ → Range → Range
cut_by First k r = cut k r
cut_by Second k r = low_range k r

-- which operands an operation reads: a move the second alone, a negation the first alone
abbrev pub reads_first : Op → Bool
reads_first Mov = false
reads_first Movsx8 = false
reads_first Movsx16 = false
reads_first Movsx32 = false
reads_first op = true

abbrev pub reads_second : Op → Bool
reads_second Neg = false
reads_second op = true

-- whether the operands that the operation reads are single numbers
abbrev pub are_single : Op → Range → Range → Bool
are_single op a b = (not (reads_first op) || is_single a) && (not (reads_second op) || is_single b)

-- a shift to the right by a known count, or by any
abbrev pub shifted_right : ℕ → Range → Range → Range
shifted_right k a b = if is_single b then range (a.lo / 2 ^ (b.lo % k)) (a.hi / 2 ^ (b.lo % k)) else up_to a.hi

-- the range of a result of k bits, of operands of k bits that are not all single
abbrev pub range_else : Op → ℕ → Range → Range → Range
range_else Mov k a b = b
range_else Add k a b = if nat_lt (a.hi + b.hi) (2 ^ k) then range (a.lo + b.lo) (a.hi + b.hi) else full k
range_else Sub k a b = if nat_le b.hi a.lo then range (a.lo - b.hi) (a.hi - b.lo) else full k
range_else Mul k a b = if nat_lt (a.hi * b.hi) (2 ^ k) then range (a.lo * b.lo) (a.hi * b.hi) else full k
range_else Div k a b = if nat_le 1 b.lo then range (a.lo / b.hi) (a.hi / b.lo) else up_to a.hi
range_else Mod k a b = if nat_le 1 b.lo then up_to (min a.hi (b.hi - 1)) else up_to a.hi
range_else And k a b = up_to (min a.hi b.hi)
range_else Or k a b = up_to (ones_above (max a.hi b.hi))
range_else Xor k a b = up_to (ones_above (max a.hi b.hi))
range_else Lsh k a b =
    if is_single b && nat_lt (a.hi * 2 ^ (b.lo % k)) (2 ^ k) then range (a.lo * 2 ^ (b.lo % k)) (a.hi * 2 ^ (b.lo % k)) else full k
range_else Rsh k a b = shifted_right k a b
range_else Arsh k a b = if nat_lt a.hi (2 ^ (k - 1)) then shifted_right k a b else full k
range_else Neg k a b = full k
range_else SignedDiv k a b = full k
range_else SignedMod k a b = full k
range_else Movsx8 k a b = full k
range_else Movsx16 k a b = full k
range_else Movsx32 k a b = full k

-- ---- what the second profile makes of operations

-- a difference of k bits, which wraps
abbrev pub difference_range : ℕ → Range → Range → Range
difference_range k a b = wrapped_range k (a.lo + (2 ^ k - b.hi)) (a.hi + (2 ^ k - b.lo))

-- a shift to the left by fewer than k of which none passes 2 ^ k; by one count it is that of the first profile
abbrev pub shifted_left : ℕ → Range → Range → Range
shifted_left k a b =
    if nat_lt b.hi k && nat_lt (a.hi * 2 ^ b.hi) (2 ^ k) then range (a.lo * 2 ^ b.lo) (a.hi * 2 ^ b.hi) else range_else Lsh k a b

-- whether no number of two ranges is a negative one of k bits
abbrev pub are_positive : ℕ → Range → Range → Bool
are_positive k a b = nat_lt a.hi (2 ^ (k - 1)) && nat_lt b.hi (2 ^ (k - 1))

-- numbers of n bits, of one sign, as signed numbers of k bits
abbrev pub signed_range_of : ℕ → ℕ → Range → Range
signed_range_of n k r =
    if nat_lt r.hi (2 ^ (n - 1)) then r
    else (if nat_le (2 ^ (n - 1)) r.lo then range (r.lo + (2 ^ k - 2 ^ n)) (r.hi + (2 ^ k - 2 ^ n)) else full k)

-- the low n bits of an operand, with their sign extended to k bits
abbrev pub extended : ℕ → ℕ → Range → Range
extended n k r = signed_range_of n k (low_range n r)

-- The second profile wraps sums, differences and negations; it shifts by a range; numbers without sign it divides as such, also where the
-- operation has signs; and it extends signs.
abbrev pub range_by : Profile → Op → ℕ → Range → Range → Range
range_by Second Add k a b = wrapped_range k (a.lo + b.lo) (a.hi + b.hi)
range_by Second Sub k a b = difference_range k a b
range_by Second Neg k a b = difference_range k (single 0) a
range_by Second Lsh k a b = shifted_left k a b
range_by Second SignedDiv k a b = if are_positive k a b then range_else Div k a b else full k
range_by Second SignedMod k a b = if are_positive k a b then range_else Mod k a b else full k
range_by Second Movsx8 k a b = extended 8 k b
range_by Second Movsx16 k a b = extended 16 k b
range_by Second Movsx32 k a b = extended 32 k b
range_by profile op k a b = range_else op k a b

-- the range of a result, of operands of the operation's width: single operands give the single value
abbrev pub range_of : Profile → Op → Width → Range → Range → Range
range_of profile op w a b = if are_single op a b then single (value op w a.lo b.lo) else range_by profile op (bits w) a b

abbrev pub range_result : Profile → Op → Width → Range → Range → Range
range_result profile op w a b = range_of profile op w (cut_by profile (bits w) a) (cut_by profile (bits w) b)

-- ---- the bits of operations

-- by a known count; the count is that of the range b
abbrev pub bits_right : ℕ → Range → Bits → Bits
bits_right k b bits = if is_single b then moved_right (b.lo % k) bits else nothing

-- the bits of a result, of operands of the operation's width
abbrev pub bits_after : Op → Width → Number → Number → Bits
bits_after Mov w a b = b.bits
bits_after And w a b = both_set a.bits b.bits
bits_after Or w a b = either_set a.bits b.bits
bits_after Xor w a b = one_set a.bits b.bits
bits_after Add w a b = low_result Add w a.bits b.bits
bits_after Sub w a b = low_result Sub w a.bits b.bits
bits_after Lsh w a b = if is_single b.range then moved_left (bits w) (b.range.lo % bits w) a.bits else nothing
bits_after Rsh w a b = bits_right (bits w) b.range a.bits
bits_after Arsh w a b = if nat_lt a.range.hi (2 ^ (bits w - 1)) then bits_right (bits w) b.range a.bits else nothing
bits_after op w a b = nothing

abbrev pub cut_number : Width → Number → Number
cut_number w a = known_number (cut (bits w) a.range) (cut_bits (bits w) a.bits)

-- what an operation leaves of two numbers
abbrev pub numbers : Profile → Op → Width → Number → Number → Option Number
numbers profile op w a b =
    settled profile (range_result profile op w a.range b.range) (bits_after op w (cut_number w a) (cut_number w b))

-- ---- byte swaps and joins

-- what a byte swap leaves: a number of the bytes that it works on; by the second profile the low bytes, where it only cuts
abbrev pub swapped_range : Profile → SwapKind → SwapBits → Range → Range
swapped_range Second ToLittle n a = low_range (8 * byte_count n) a
swapped_range profile kind n a = if is_single a then single (swapped kind n a.lo) else full (8 * byte_count n)

abbrev pub swapped_number : Profile → SwapKind → SwapBits → Number → Option Number
swapped_number profile kind n a = settled profile (swapped_range profile kind n a.range) nothing

-- what is known of a number that is one of two: the least range over both, and the bits that they share
abbrev pub joined_numbers : Profile → Number → Number → Option Number
joined_numbers profile a b = settled profile (least_over a.range b.range) (common a.bits b.bits)
