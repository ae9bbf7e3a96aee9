-- The bits of a number that are known, and what an operation leaves known of them.
use Rattle.std.specs.Prelude.{◌≡◌, ℕ, ◌-◌, ◌*◌, ◌/◌, ◌%◌, ◌^◌, ◌<◌, min, bit_and, bit_or}
use Rattle.std.specs.Int.{w64, trailing_ones}
use Rattle.bpf_alu.specs.Value.{bits, value}
use Rattle.bpf_alu.specs.declared.Width.{Width}
use Rattle.bpf_alu.specs.declared.Op.{Op}
use Rattle.bpf_ranges.specs.declared.bits.Bits.{Bits}

-- A number has the bits that are known of it: of those that are known to be 0 it has none, of those known to be 1 all.
pub record HasBits (b : Bits) (n : ℕ) : Type 0 where
  pub zeros : bit_and n b.zeros ≡ 0
  pub ones : bit_and n b.ones ≡ b.ones

-- two words of 64 bits
pub record IsBits (b : Bits) : Type 0 where
  pub zeros : b.zeros < 2 ^ 64
  pub ones : b.ones < 2 ^ 64

abbrev pub known_as : ℕ → ℕ → Bits
known_as zeros ones = record { zeros = zeros; ones = ones }

-- no bit; the bits of one number
abbrev pub nothing : Bits
nothing = known_as 0 0

abbrev pub exactly : ℕ → Bits
exactly n = known_as (2 ^ 64 - 1 - n) n

-- the bits that are known, as 0 or as 1
abbrev pub known : Bits → ℕ
known b = bit_or b.zeros b.ones

-- ---- two numbers

-- of AND: 0 where either is known to be 0, 1 where both are known to be 1
abbrev pub both_set : Bits → Bits → Bits
both_set a b = known_as (bit_or a.zeros b.zeros) (bit_and a.ones b.ones)

-- of OR
abbrev pub either_set : Bits → Bits → Bits
either_set a b = known_as (bit_and a.zeros b.zeros) (bit_or a.ones b.ones)

-- of XOR: 0 where both are known and alike, 1 where both are known and unlike
abbrev pub one_set : Bits → Bits → Bits
one_set a b =
    known_as (bit_or (bit_and a.zeros b.zeros) (bit_and a.ones b.ones)) (bit_or (bit_and a.zeros b.ones) (bit_and a.ones b.zeros))

-- of a number that is one of both
abbrev pub common : Bits → Bits → Bits
common a b = known_as (bit_and a.zeros b.zeros) (bit_and a.ones b.ones)

-- of a number that is both
abbrev pub united : Bits → Bits → Bits
united a b = known_as (bit_or a.zeros b.zeros) (bit_or a.ones b.ones)

-- ---- one number

-- the low k bits of a number, and 0 above them
abbrev pub cut_bits : ℕ → Bits → Bits
cut_bits k b = known_as (bit_or b.zeros (2 ^ 64 - 2 ^ k)) (b.ones % 2 ^ k)

-- shifted by s within k bits: the low s bits are 0
abbrev pub moved_left : ℕ → ℕ → Bits → Bits
moved_left k s b = known_as (bit_or (b.zeros * 2 ^ s % 2 ^ k) (2 ^ s - 1)) (b.ones * 2 ^ s % 2 ^ k)

abbrev pub moved_right : ℕ → Bits → Bits
moved_right s b = known_as (b.zeros / 2 ^ s) (b.ones / 2 ^ s)

-- ---- sums and differences

-- that the low t bits are those of n
abbrev pub low_bits_of : ℕ → ℕ → Bits
low_bits_of t n = known_as (2 ^ t - 1 - n % 2 ^ t) (n % 2 ^ t)

-- how many low bits are known of both
abbrev pub low_known : Bits → Bits → ℕ
low_known a b = trailing_ones w64 (bit_and (known a) (known b))

-- Of a sum or a difference as many low bits are known as are known of both operands; they are those of the sum or the
-- difference of the known ones.
abbrev pub low_result : Op → Width → Bits → Bits → Bits
low_result op w a b = low_bits_of (min (bits w) (low_known a b)) (value op w a.ones b.ones)
