-- What a comparison leaves known of the two numbers that it compares (this store's profiles).
use Rattle.std.specs.Prelude.{ℕ, Bool, true, false, Option, Some, None, ◌&&◌, ◌==◌, ◌+◌, ◌-◌, ◌^◌, ◌≤◌, not, nat_lt, nat_le, if◌then◌else◌, min, max, bit_or}
use Rattle.std.specs.Int.{w64, trailing_zeros}
use Rattle.std.specs.Option.{unwrap_or}
use Rattle.bpf_alu.specs.Value.{bits}
use Rattle.bpf_alu.specs.declared.Width.{Width}
use Rattle.bpf_alu.specs.declared.Cond.{Cond}
use Rattle.bpf_alu.specs.declared.Cond.TheVariants.{Equal, NotEqual, Greater, GreaterEqual, Less, LessEqual, SignedGreater, SignedGreaterEqual, SignedLess, SignedLessEqual, AnySet}
use Rattle.bpf_ranges.specs.declared.range.Range.{Range}
use Rattle.bpf_ranges.specs.declared.bits.Bits.{Bits}
use Rattle.bpf_semantics.specs.declared.profile.Profile.{Profile}
use Rattle.bpf_semantics.specs.declared.profile.Profile.TheVariants.{First, Second}
use Rattle.bpf_ranges.specs.declared.number.Number.{Number}
use Rattle.bpf_ranges.specs.KnownBits.{known_as, united}
use Rattle.bpf_ranges.specs.Numbers.{IsNumber, range, is_single, least_over, number_of, tightened}

-- two ranges, neither of them empty
pub record AreOrdered (p : Range × Range) : Type 0 where
  pub first : p.0.lo ≤ p.0.hi
  pub second : p.1.lo ≤ p.1.hi

-- two numbers of which something is known
pub record AreNumbers (p : Number × Number) : Type 0 where
  pub first : IsNumber p.0
  pub second : IsNumber p.1

-- ---- comparisons

-- the condition that holds where this one doesn't; that no bit is common is no condition, and says nothing of a range
abbrev pub negated : Cond → Cond
negated Equal = NotEqual
negated NotEqual = Equal
negated Greater = LessEqual
negated GreaterEqual = Less
negated Less = GreaterEqual
negated LessEqual = Greater
negated SignedGreater = SignedLessEqual
negated SignedGreaterEqual = SignedLess
negated SignedLess = SignedGreaterEqual
negated SignedLessEqual = SignedGreater
negated AnySet = AnySet

-- two ranges, if neither is empty
abbrev pub left_of : Range → Range → Option (Range × Range)
left_of a b = if nat_le a.lo a.hi && nat_le b.lo b.hi then Some (a, b) else None

abbrev pub both_common : Range → Range → Option (Range × Range)
both_common a b = let common = range (max a.lo b.lo) (min a.hi b.hi) in left_of common common

abbrev pub first_above : Range → Range → Option (Range × Range)
first_above a b = left_of (range (max a.lo (b.lo + 1)) a.hi) (range b.lo (min b.hi (a.hi - 1)))

abbrev pub first_at_least : Range → Range → Option (Range × Range)
first_at_least a b = left_of (range (max a.lo b.lo) a.hi) (range b.lo (min b.hi a.hi))

abbrev pub exchanged : Option (Range × Range) → Option (Range × Range)
exchanged None = None
exchanged (Some p) = Some (p.1, p.0)

-- what a condition that holds leaves of the ranges of two numbers
abbrev pub narrowed : Cond → Range → Range → Option (Range × Range)
narrowed Equal a b = both_common a b
narrowed Greater a b = first_above a b
narrowed GreaterEqual a b = first_at_least a b
narrowed Less a b = exchanged (first_above b a)
narrowed LessEqual a b = exchanged (first_at_least b a)
narrowed SignedGreater a b = first_above a b
narrowed SignedGreaterEqual a b = first_at_least a b
narrowed SignedLess a b = exchanged (first_above b a)
narrowed SignedLessEqual a b = exchanged (first_at_least b a)
narrowed NotEqual a b = Some (a, b)
narrowed AnySet a b = Some (a, b)

abbrev pub is_signed : Cond → Bool
is_signed SignedGreater = true
is_signed SignedGreaterEqual = true
is_signed SignedLess = true
is_signed SignedLessEqual = true
is_signed c = false

-- the numbers on which a condition of a width compares as whole numbers do
abbrev pub compared_below : Cond → Width → ℕ
compared_below c w = if is_signed c then 2 ^ (bits w - 1) else 2 ^ bits w

-- ---- what the second profile makes of comparisons

-- a range without a number that is an end of it
abbrev pub without : ℕ → Range → Range
without n r =
    if n == r.lo then (if is_single r then range 1 0 else range (n + 1) r.hi) else (if n == r.hi then range r.lo (n - 1) else r)

-- two numbers that differ: a single one is no end of the other's range
abbrev pub apart : Range → Range → Option (Range × Range)
apart a b = left_of (if is_single b then without b.lo a else a) (if is_single a then without a.lo b else b)

-- the numbers of a range that are no negative ones, read as signed numbers of k bits, and the negative ones
abbrev pub low_half : ℕ → Range → Range
low_half k r = range r.lo (min r.hi (2 ^ (k - 1) - 1))

abbrev pub high_half : ℕ → Range → Range
high_half k r = range (max r.lo (2 ^ (k - 1))) r.hi

-- the least ranges over what is left in either of two cases
abbrev pub either_left : Option (Range × Range) → Option (Range × Range) → Option (Range × Range)
either_left None q = q
either_left p None = p
either_left (Some p) (Some q) = Some (least_over p.0 q.0, least_over p.1 q.1)

-- whether a condition asks that the first number be the greater one
abbrev pub wants_greater : Cond → Bool
wants_greater SignedGreater = true
wants_greater SignedGreaterEqual = true
wants_greater c = false

abbrev pub left_if : Bool → Range → Range → Option (Range × Range)
left_if b r s = if b then left_of r s else None

-- A signed comparison by halves: numbers of one sign compare as whole numbers do, and of two of unlike signs the negative
-- one is less.
abbrev pub by_halves : ℕ → Cond → Range → Range → Option (Range × Range)
by_halves k c a b =
    either_left (narrowed c (low_half k a) (low_half k b))
    (either_left (narrowed c (high_half k a) (high_half k b))
    (either_left (left_if (wants_greater c) (low_half k a) (high_half k b)) (left_if (not (wants_greater c)) (high_half k a) (low_half k b))))

abbrev pub narrowed_more : ℕ → Cond → Range → Range → Option (Range × Range)
narrowed_more k NotEqual a b = apart a b
narrowed_more k c a b = if is_signed c then by_halves k c a b else narrowed c a b

-- the bits of a number of which some bit of a mask is set, or none is
abbrev pub masked : Bool → ℕ → Bits → Bits
masked true m b = if m == 2 ^ trailing_zeros w64 m then known_as b.zeros (bit_or b.ones m) else b
masked false m b = known_as (bit_or b.zeros m) b.ones

-- the bits of two numbers of which a condition holds, or not
abbrev pub told_bits : Cond → Bool → Number → Number → Bits × Bits
told_bits Equal true a b = (united a.bits b.bits, united a.bits b.bits)
told_bits NotEqual false a b = (united a.bits b.bits, united a.bits b.bits)
told_bits AnySet taken a b = (if is_single b.range then masked taken b.range.lo a.bits else a.bits, b.bits)
told_bits c taken a b = (a.bits, b.bits)

-- ---- refinement

abbrev pub are_below : ℕ → Range → Range → Bool
are_below n a b = nat_lt a.hi n && nat_lt b.hi n

-- the condition that holds where a jump is taken, or not
abbrev pub holding : Cond → Bool → Cond
holding c taken = if taken then c else negated c

-- by the first profile: where nothing is left both ranges stay
abbrev pub ranges_where : Cond → Width → Range → Range → Range × Range
ranges_where c w a b = if are_below (compared_below c w) a b then unwrap_or (narrowed c a b) (a, b) else (a, b)

-- two numbers, if something is left of either
abbrev pub both_left : Option Number → Option Number → Option (Number × Number)
both_left None q = None
both_left p None = None
both_left (Some a) (Some b) = Some (a, b)

-- by the second: what is left of both
abbrev pub settled_pair : Option (Range × Range) → Bits × Bits → Option (Number × Number)
settled_pair None told = None
settled_pair (Some r) told = both_left (tightened r.0 told.0) (tightened r.1 told.1)

-- what a condition of a width, which holds or not, leaves of the two numbers that it compares
abbrev pub compared : Profile → Cond → Width → Bool → Number → Number → Option (Number × Number)
compared First c w taken a b =
    let r = ranges_where (holding c taken) w a.range b.range in Some (number_of r.0, number_of r.1)
compared Second c w taken a b =
    if are_below (2 ^ bits w) a.range b.range
    then settled_pair (narrowed_more (bits w) (holding c taken) a.range b.range) (told_bits c taken a b)
    else Some (a, b)
