-- What is tightened still stands for what was known.
use Rattle.std.proofs.Common.{◌≡◌, refl, ℕ, ◌&&◌, ◌-◌, ◌^◌, ◌<◌, ◌≤◌, true, eqb, leb, sym, ap, ◌∙◌, subst, arith, Option}
use Rattle.std.specs.Prelude.{bit_and, IsSomeAnd, IfSome}
use Rattle.std.specs.Int.{w64, leading_zeros}
use Rattle.std.proofs.lemmas.Nat.{and_le_l, and_comm, and_assoc, and-not, or_lt, pow_pos}
use Rattle.std.proofs.lemmas.Bool.{cond_both, le-leb, leb-true, eqb-true, and_parts}
use Rattle.std.proofs.Math.Dec.{eqb_refl}
use Rattle.bpf_ranges.specs.declared.bits.Bits.{Bits}
use Rattle.bpf_ranges.specs.declared.range.Range.{Range}
use Rattle.bpf_semantics.specs.declared.profile.Profile.{Profile}
use Rattle.bpf_semantics.specs.declared.profile.Profile.TheVariants.{First, Second}
use Rattle.bpf_ranges.specs.KnownBits.{HasBits, IsBits, nothing, exactly}
use Rattle.bpf_ranges.specs.declared.number.Number.{Number}
use Rattle.bpf_ranges.specs.Numbers.{InRange, IsOf, IsNumber, above, is_single, has_bits, bits_within, range_with, if_possible, tightened, settled}
use Rattle.bpf_ranges.proofs.Ranges.{under_ones}
use Rattle.bpf_ranges.proofs.KnownBits.{nothing_sound, exactly_sound, and_or_none, none_above}

-- a number of which so much is left
abbrev pub Leaves : ℕ → Option Number → Type 0
Leaves n o = IsSomeAnd o (λ a. IsOf a n)

-- no number of a range has a bit above it
not_above : (h n : ℕ) → h < 2 ^ 64 → n ≤ h → bit_and n (above h) ≡ 0
not_above h n fits le =
    let k = 64 - leading_zeros w64 h in
    let p = pow_pos k in
    let e : above h ≡ 2 ^ 64 - 2 ^ k = omega arith in
    ap (bit_and n) e ∙ none_above k n (under_ones h n fits le)

within_sound : (r : Range) (b : Bits) (n : ℕ) → r.hi < 2 ^ 64 → InRange r n → HasBits b n → HasBits (bits_within r b) n
within_sound r b n fits p h = record { zeros = and_or_none n b.zeros (above r.hi) h.zeros (not_above r.hi n fits p.1); ones = h.ones }

-- a number with none of some bits is at most all others
at_most_rest : (n z : ℕ) → n < 2 ^ 64 → z < 2 ^ 64 → bit_and n z ≡ 0 → n ≤ 2 ^ 64 - 1 - z
at_most_rest n z fn fz h =
    let all = and-not 64 z n fz fn in
    let none : bit_and z n ≡ 0 = and_comm z n ∙ h in
    let e : bit_and (2 ^ 64 - 1 - z) n ≡ n = omega arith in
    omega (arith, and_le_l (2 ^ 64 - 1 - z) n)

at_least_ones : (n o : ℕ) → bit_and n o ≡ o → o ≤ n
at_least_ones n o h = omega (arith, and_le_l n o)

range_with_sound : (b : Bits) (r : Range) (n : ℕ) → n < 2 ^ 64 → b.zeros < 2 ^ 64 → InRange r n → HasBits b n → InRange (range_with b r) n
range_with_sound b r n fn fz p h =
    let low = at_least_ones n b.ones h.ones in
    let high = at_most_rest n b.zeros fn fz h.zeros in
    (omega arith, omega arith)

same_number : (n : ℕ) → eqb n n ≡ true
same_number n = grind (arith, eqb_refl n)

has_bits_true : (b : Bits) (n : ℕ) → HasBits b n → has_bits b n ≡ true
has_bits_true b n h = rw (h.zeros, h.ones) (same_number b.ones)

-- the bits known to be 1 are none of those known to be 0
bits_apart : (b : Bits) (n : ℕ) → HasBits b n → bit_and b.ones b.zeros ≡ 0
bits_apart b n h =
    ap (λ o. bit_and o b.zeros) (sym h.ones) ∙ ap (λ o. bit_and o b.zeros) (and_comm n b.ones) ∙ and_assoc b.zeros b.ones n ∙ ap (bit_and b.ones) h.zeros ∙ and_comm b.ones 0

if_possible_sound : (r : Range) (b : Bits) (n : ℕ) → n < 2 ^ 64 → InRange r n → HasBits b n → Leaves n (if_possible r b)
if_possible_sound r b n fn p h =
    cond_both (is_single r) _ _ (Leaves n)
    (λ t. let one = eqb-true r.lo r.hi t in
    let e : r.lo ≡ n = omega arith in
    let yes : has_bits b r.lo ≡ true = subst (λ m. has_bits b m ≡ true) (sym e) (has_bits_true b n h) in
    rw yes (record { within = p; has = subst (λ m. HasBits (exactly m) n) (sym e) (exactly_sound n fn) }))
    (λ _. let ordered : leb r.lo r.hi ≡ true = le-leb r.lo r.hi (omega arith) in
    rw (ordered, bits_apart b n h) (record { within = p; has = h }))

pub tightened_sound : (r : Range) (b : Bits) (n : ℕ) → r.hi < 2 ^ 64 → IsBits b → InRange r n → HasBits b n → Leaves n (tightened r b)
tightened_sound r b n fits fb p h =
    let c = bits_within r b in
    let fn : n < 2 ^ 64 = omega arith in
    let fz : c.zeros < 2 ^ 64 = or_lt 64 b.zeros (above r.hi) fb.zeros (omega arith) in
    let has = within_sound r b n fits p h in
    if_possible_sound (range_with c r) c n fn (range_with_sound c r n fn fz p has) has

pub settled_sound : (profile : Profile) (r : Range) (b : Bits) (n : ℕ) → r.hi < 2 ^ 64 → IsBits b → InRange r n → HasBits b n → Leaves n (settled profile r b)
settled_sound First r b n fits fb p h = record { within = p; has = nothing_sound n }
settled_sound Second r b n fits fb p h = tightened_sound r b n fits fb p h

-- ---- what is tightened has 64 bits, and no range that is empty

pub nothing_fits : IsBits nothing
nothing_fits = record { zeros = omega arith; ones = omega arith }

above_fits : (h : ℕ) → above h < 2 ^ 64
above_fits h = omega arith

exactly_fits : (n : ℕ) → n < 2 ^ 64 → IsBits (exactly n)
exactly_fits n h = record { zeros = omega arith; ones = h }

possible_is_number : (r : Range) (b : Bits) → r.hi < 2 ^ 64 → IsBits b → IfSome (if_possible r b) IsNumber
possible_is_number r b f g =
    cond_both (is_single r) _ _ (λ o. IfSome o IsNumber)
    (λ t. let one = eqb-true r.lo r.hi t in
    cond_both (has_bits b r.lo) _ _ (λ o. IfSome o IsNumber)
    (λ _. record { range = record { ordered = omega arith; fits = f }; bits = exactly_fits r.lo (omega arith) })
    (λ _. tt))
    (λ _. cond_both (leb r.lo r.hi && eqb (bit_and b.ones b.zeros) 0) _ _ (λ o. IfSome o IsNumber)
    (λ t. record { range = record { ordered = leb-true r.lo r.hi (and_parts (leb r.lo r.hi) _ t).0; fits = f }; bits = g })
    (λ _. tt))

pub tightened_is_number : (r : Range) (b : Bits) → r.hi < 2 ^ 64 → IsBits b → IfSome (tightened r b) IsNumber
tightened_is_number r b f g =
    let c = bits_within r b in
    possible_is_number (range_with c r) c (omega arith) (record { zeros = or_lt 64 b.zeros (above r.hi) g.zeros (above_fits r.hi); ones = g.ones })

pub settled_is_number : (profile : Profile) (r : Range) (b : Bits) → r.hi < 2 ^ 64 → (profile ≡ First → r.lo ≤ r.hi) → IsBits b → IfSome (settled profile r b) IsNumber
settled_is_number First r b f h g = record { range = record { ordered = h refl; fits = f }; bits = nothing_fits }
settled_is_number Second r b f h g = tightened_is_number r b f g
