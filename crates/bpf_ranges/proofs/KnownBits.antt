-- What is known of the bits of the operands holds of the bits of the result.
use Rattle.std.proofs.Common.{◌≡◌, ℕ, ◌+◌, ◌-◌, ◌*◌, ◌/◌, ◌%◌, ◌^◌, ◌<◌, ◌≤◌, min, max, refl, sym, ap, ◌∙◌, arith, ltb}
use Rattle.std.specs.Prelude.{bit_and, bit_or, bit_xor}
use Rattle.std.specs.Int.{bit_at, w64, trailing_ones}
use Rattle.std.proofs.lemmas.Nat.{or_lt, and_le_l, and_mask, and_comm, and_mod, and_shr, and_block, and-not, and_assoc, pow_pos, div-add-mod'}
use Rattle.std.proofs.Math.Pow.{mod-mod-pow}
use Rattle.std.proofs.lemmas.Bool.{cond_both, ltb-true, ltb-false}
use Rattle.std.proofs.lemmas.Nat.Bits.{bit_at_and, bit_at_or, bit_at_xor, bit_at-lt, bit_at-zero, bit_at_ones, bit_at_ones_above, bit_at_above, bit_at_mask_below, same_from_bits, bit_at-trailing_ones}
use Rattle.std.proofs.Math.Nat.{mod-lt, mod-eq_of_lt, mul-mod_left, add-mul-mod_self_right, add-mod, add-mod_right}
use Rattle.bpf_alu.specs.Value.{bits, value}
use Rattle.bpf_alu.specs.declared.Width.{Width}
use Rattle.bpf_alu.specs.declared.Width.TheVariants.{W32, W64}
use Rattle.bpf_alu.specs.declared.Op.TheVariants.{Add, Sub}
use Rattle.bpf_ranges.proofs.Ranges.{wrapped_difference}
use Rattle.bpf_ranges.specs.declared.bits.Bits.{Bits}
use Rattle.bpf_ranges.specs.KnownBits.{HasBits, nothing, exactly, known, both_set, either_set, one_set, common, united, cut_bits, moved_left, moved_right, low_bits_of, low_known, low_result, IsBits}

-- what is known of the bit at place i
record BitIs (b : Bits) (n i : ℕ) : Type 0 where
  zero : min (bit_at n i) (bit_at b.zeros i) ≡ 0
  one : min (bit_at n i) (bit_at b.ones i) ≡ bit_at b.ones i
  number : bit_at n i < 2
  zeros : bit_at b.zeros i < 2
  ones : bit_at b.ones i < 2

bit_is : (b : Bits) (n i : ℕ) → HasBits b n → BitIs b n i
bit_is b n i h =
    record {
      zero = sym (bit_at_and n b.zeros i) ∙ ap (λ m. bit_at m i) h.zeros ∙ bit_at-zero i;
      one = sym (bit_at_and n b.ones i) ∙ ap (λ m. bit_at m i) h.ones;
      number = bit_at-lt n i;
      zeros = bit_at-lt b.zeros i;
      ones = bit_at-lt b.ones i;
    }

-- a number has bits where it has each
from_bits : (b : Bits) (n : ℕ) → ((i : ℕ) → min (bit_at n i) (bit_at b.zeros i) ≡ 0) → ((i : ℕ) → min (bit_at n i) (bit_at b.ones i) ≡ bit_at b.ones i) → HasBits b n
from_bits b n z o =
    record {
      zeros = same_from_bits _ _ (λ i. bit_at_and n b.zeros i ∙ z i ∙ sym (bit_at-zero i));
      ones = same_from_bits _ _ (λ i. bit_at_and n b.ones i ∙ o i);
    }

pub nothing_sound : (n : ℕ) → HasBits nothing n
nothing_sound n = from_bits nothing n (λ i. rw (bit_at-zero i) (omega arith)) (λ i. rw (bit_at-zero i) (omega arith))

pub both_set_sound : (a b : Bits) (x y : ℕ) → HasBits a x → HasBits b y → HasBits (both_set a b) (bit_and x y)
both_set_sound a b x y p q =
    from_bits (both_set a b) _
    (λ i. let h = bit_is a x i p in let g = bit_is b y i q in rw (bit_at_and x y i, bit_at_or a.zeros b.zeros i) (omega (arith, h.zero, g.zero)))
    (λ i. let h = bit_is a x i p in let g = bit_is b y i q in rw (bit_at_and x y i, bit_at_and a.ones b.ones i) (omega (arith, h.one, g.one)))

pub either_set_sound : (a b : Bits) (x y : ℕ) → HasBits a x → HasBits b y → HasBits (either_set a b) (bit_or x y)
either_set_sound a b x y p q =
    from_bits (either_set a b) _
    (λ i. let h = bit_is a x i p in let g = bit_is b y i q in rw (bit_at_or x y i, bit_at_and a.zeros b.zeros i) (omega (arith, h.zero, g.zero)))
    (λ i. let h = bit_is a x i p in let g = bit_is b y i q in rw (bit_at_or x y i, bit_at_or a.ones b.ones i) (omega (arith, h.one, g.one)))

-- XOR of two bits, of which some are known
xor_zero : (x y za oa zb ob : ℕ) → x < 2 → y < 2 → za < 2 → oa < 2 → zb < 2 → ob < 2 → min x za ≡ 0 → min x oa ≡ oa → min y zb ≡ 0 → min y ob ≡ ob → min ((x + y) % 2) (max (min za zb) (min oa ob)) ≡ 0
xor_zero x y za oa zb ob lx ly l1 l2 l3 l4 p q r s = omega arith

xor_one : (x y za oa zb ob : ℕ) → x < 2 → y < 2 → za < 2 → oa < 2 → zb < 2 → ob < 2 → min x za ≡ 0 → min x oa ≡ oa → min y zb ≡ 0 → min y ob ≡ ob → min ((x + y) % 2) (max (min za ob) (min oa zb)) ≡ max (min za ob) (min oa zb)
xor_one x y za oa zb ob lx ly l1 l2 l3 l4 p q r s = omega arith

pub one_set_sound : (a b : Bits) (x y : ℕ) → HasBits a x → HasBits b y → HasBits (one_set a b) (bit_xor x y)
one_set_sound a b x y p q =
    from_bits (one_set a b) _
    (λ i. let h = bit_is a x i p in let g = bit_is b y i q in
    rw (bit_at_xor x y i, bit_at_or (bit_and a.zeros b.zeros) (bit_and a.ones b.ones) i, bit_at_and a.zeros b.zeros i, bit_at_and a.ones b.ones i)
    (xor_zero _ _ _ _ _ _ h.number g.number h.zeros h.ones g.zeros g.ones h.zero h.one g.zero g.one))
    (λ i. let h = bit_is a x i p in let g = bit_is b y i q in
    rw (bit_at_xor x y i, bit_at_or (bit_and a.zeros b.ones) (bit_and a.ones b.zeros) i, bit_at_and a.zeros b.ones i, bit_at_and a.ones b.zeros i)
    (xor_one _ _ _ _ _ _ h.number g.number h.zeros h.ones g.zeros g.ones h.zero h.one g.zero g.one))

pub common_left : (a b : Bits) (x : ℕ) → HasBits a x → HasBits (common a b) x
common_left a b x p =
    from_bits (common a b) x
    (λ i. let h = bit_is a x i p in rw (bit_at_and a.zeros b.zeros i) (omega (arith, h.zero)))
    (λ i. let h = bit_is a x i p in rw (bit_at_and a.ones b.ones i) (omega (arith, h.one)))

pub common_right : (a b : Bits) (x : ℕ) → HasBits b x → HasBits (common a b) x
common_right a b x p =
    from_bits (common a b) x
    (λ i. let h = bit_is b x i p in rw (bit_at_and a.zeros b.zeros i) (omega (arith, h.zero)))
    (λ i. let h = bit_is b x i p in rw (bit_at_and a.ones b.ones i) (omega (arith, h.one)))

pub united_sound : (a b : Bits) (x : ℕ) → HasBits a x → HasBits b x → HasBits (united a b) x
united_sound a b x p q =
    from_bits (united a b) x
    (λ i. let h = bit_is a x i p in let g = bit_is b x i q in rw (bit_at_or a.zeros b.zeros i) (omega (arith, h.zero, g.zero)))
    (λ i. let h = bit_is a x i p in let g = bit_is b x i q in rw (bit_at_or a.ones b.ones i) (omega (arith, h.one, g.one)))

-- ---- masks

pub or_nothing : (n : ℕ) → bit_or n 0 ≡ n
or_nothing n = same_from_bits _ _ (λ i. bit_at_or n 0 i ∙ ap (max (bit_at n i)) (bit_at-zero i) ∙ omega arith)

and_self : (n : ℕ) → bit_and n n ≡ n
and_self n = same_from_bits _ _ (λ i. bit_at_and n n i ∙ omega arith)

-- a number has no bit of its complement
no_complement : (k n : ℕ) → n < 2 ^ k → bit_and n (2 ^ k - 1 - n) ≡ 0
no_complement k n h =
    let all = and-not k n n h h in
    let self = and_self n in
    and_comm n (2 ^ k - 1 - n) ∙ omega arith

pub exactly_sound : (n : ℕ) → n < 2 ^ 64 → HasBits (exactly n) n
exactly_sound n h = record { zeros = no_complement 64 n h; ones = and_self n }

-- to have no bit of two masks is to have none of both
pub and_or_none : (n z w : ℕ) → bit_and n z ≡ 0 → bit_and n w ≡ 0 → bit_and n (bit_or z w) ≡ 0
and_or_none n z w p q =
    same_from_bits _ _ (λ i.
    let h : min (bit_at n i) (bit_at z i) ≡ 0 = sym (bit_at_and n z i) ∙ ap (λ m. bit_at m i) p ∙ bit_at-zero i in
    let g : min (bit_at n i) (bit_at w i) ≡ 0 = sym (bit_at_and n w i) ∙ ap (λ m. bit_at m i) q ∙ bit_at-zero i in
    rw (bit_at_and n (bit_or z w) i, bit_at_or z w i, bit_at-zero i) (omega arith))

-- to have all bits of two masks is to have all of both
pub and_or_all : (n o w : ℕ) → bit_and n o ≡ o → bit_and n w ≡ w → bit_and n (bit_or o w) ≡ bit_or o w
and_or_all n o w p q =
    same_from_bits _ _ (λ i.
    let h : min (bit_at n i) (bit_at o i) ≡ bit_at o i = sym (bit_at_and n o i) ∙ ap (λ m. bit_at m i) p in
    let g : min (bit_at n i) (bit_at w i) ≡ bit_at w i = sym (bit_at_and n w i) ∙ ap (λ m. bit_at m i) q in
    rw (bit_at_and n (bit_or o w) i, bit_at_or o w i) (omega arith))

-- the low bits of a number are bits of it
low_part : (k n z : ℕ) → bit_and n z ≡ 0 → bit_and (n % 2 ^ k) z ≡ 0
low_part k n z p =
    let e : bit_and (n % 2 ^ k) z ≡ bit_and (2 ^ k - 1) (bit_and n z) =
    ap (λ m. bit_and m z) (sym (and_mask n k) ∙ and_comm n (2 ^ k - 1)) ∙ and_assoc z (2 ^ k - 1) n in
    e ∙ ap (bit_and (2 ^ k - 1)) p ∙ (and_comm (2 ^ k - 1) 0 ∙ refl)

-- a number below 2 ^ k has no bit from k on
pub none_above : (k n : ℕ) → n < 2 ^ k → bit_and n (2 ^ 64 - 2 ^ k) ≡ 0
none_above k n h =
    same_from_bits _ _ (λ i. bit_at_and n (2 ^ 64 - 2 ^ k) i ∙ cond_both (ltb i k) k k (λ _. min (bit_at n i) (bit_at (2 ^ 64 - 2 ^ k) i) ≡ bit_at 0 i)
    (λ t. rw (bit_at_mask_below k 64 i (ltb-true i k t), bit_at-zero i) (omega arith))
    (λ t. rw (bit_at_above n k i h (ltb-false i k t), bit_at-zero i) (omega arith)))

pub cut_bits_sound : (k : ℕ) (b : Bits) (x : ℕ) → HasBits b x → HasBits (cut_bits k b) (x % 2 ^ k)
cut_bits_sound k b x p =
    record {
      zeros = and_or_none (x % 2 ^ k) b.zeros (2 ^ 64 - 2 ^ k) (low_part k x b.zeros p.zeros) (none_above k _ (mod-lt x (pow_pos k)));
      ones = sym (and_mod x b.ones k) ∙ ap (λ n. n % 2 ^ k) p.ones;
    }

and_shl : (a b s : ℕ) → bit_and (a * 2 ^ s) (b * 2 ^ s) ≡ bit_and a b * 2 ^ s
and_shl a b s = grind (arith, and_block s a b 0 0 (pow_pos s) (pow_pos s))

pub moved_left_sound : (k s : ℕ) (b : Bits) (x : ℕ) → s ≤ k → HasBits b x → HasBits (moved_left k s b) (x * 2 ^ s % 2 ^ k)
moved_left_sound k s b x le p =
    let both : (m : ℕ) → bit_and (x * 2 ^ s % 2 ^ k) (m * 2 ^ s % 2 ^ k) ≡ bit_and x m * 2 ^ s % 2 ^ k =
    λ m. sym (and_mod (x * 2 ^ s) (m * 2 ^ s) k) ∙ ap (λ n. n % 2 ^ k) (and_shl x m s) in
    let e : k ≡ (k - s) + s = omega arith in
    let low : x * 2 ^ s % 2 ^ k % 2 ^ s ≡ 0 =
    ap (λ j. x * 2 ^ s % 2 ^ j % 2 ^ s) e ∙ mod-mod-pow (x * 2 ^ s) (k - s) s ∙ mul-mod_left x (2 ^ s) in
    let nil : 0 * 2 ^ s ≡ 0 = omega arith in
    let none : 0 * 2 ^ s % 2 ^ k ≡ 0 = ap (λ n. n % 2 ^ k) nil ∙ mod-eq_of_lt (pow_pos k) in
    record {
      zeros = and_or_none _ _ _ (both b.zeros ∙ ap (λ n. n * 2 ^ s % 2 ^ k) p.zeros ∙ none) (and_mask _ s ∙ low);
      ones = both b.ones ∙ ap (λ n. n * 2 ^ s % 2 ^ k) p.ones;
    }

pub moved_right_sound : (s : ℕ) (b : Bits) (x : ℕ) → HasBits b x → HasBits (moved_right s b) (x / 2 ^ s)
moved_right_sound s b x p =
    record {
      zeros = sym (and_shr x b.zeros s) ∙ ap (λ n. n / 2 ^ s) p.zeros ∙ grind arith;
      ones = sym (and_shr x b.ones s) ∙ ap (λ n. n / 2 ^ s) p.ones;
    }

-- ---- sums and differences

-- of a number only the low t bits meet a mask of t bits
and_low : (t n m : ℕ) → m < 2 ^ t → bit_and n m ≡ bit_and (n % 2 ^ t) m
and_low t n m h =
    let e : bit_and (2 ^ t - 1) m ≡ m = and_comm (2 ^ t - 1) m ∙ and_mask m t ∙ mod-eq_of_lt h in
    sym (ap (λ k. bit_and k m) (sym (and_mask n t)) ∙ and_assoc m n (2 ^ t - 1) ∙ ap (bit_and n) e)

pub low_bits_sound : (t n v : ℕ) → n % 2 ^ t ≡ v % 2 ^ t → HasBits (low_bits_of t v) n
low_bits_sound t n v e =
    let r = v % 2 ^ t in
    let small : r < 2 ^ t = mod-lt v (pow_pos t) in
    record {
      zeros = and_low t n (2 ^ t - 1 - r) (omega arith) ∙ ap (λ m. bit_and m (2 ^ t - 1 - r)) e ∙ no_complement t r small;
      ones = and_low t n r small ∙ ap (λ m. bit_and m r) e ∙ and_self r;
    }

-- a mask that begins with t ones
pub low_ones : (t n i : ℕ) → n < 2 ^ 64 → t ≤ 64 → t ≤ trailing_ones w64 n → i < t → bit_at n i ≡ 1
low_ones t n i h wide le less =
    cond_both (ltb (n + 1) (2 ^ 64)) t t (λ _. bit_at n i ≡ 1)
    (λ s. let ones = bit_at-trailing_ones w64 n (ltb-true (n + 1) (2 ^ 64) s) in ones.2 i (omega arith))
    (λ s. let full : 2 ^ 64 ≤ n + 1 = ltb-false (n + 1) (2 ^ 64) s in
    let e : n ≡ 2 ^ 64 - 1 = omega arith in
    ap (λ m. bit_at m i) e ∙ bit_at_ones 64 i (omega arith))

-- where the low t bits are known, they are those of the ones
known_low : (t : ℕ) (b : Bits) (n : ℕ) → HasBits b n → ((i : ℕ) → i < t → bit_at (known b) i ≡ 1) → n % 2 ^ t ≡ b.ones % 2 ^ t
known_low t b n h k =
    sym (and_mask n t) ∙ same_from_bits _ _ (λ i. bit_at_and n (2 ^ t - 1) i ∙ cond_both (ltb i t) t t (λ _. min (bit_at n i) (bit_at (2 ^ t - 1) i) ≡ min (bit_at b.ones i) (bit_at (2 ^ t - 1) i))
    (λ s. let is = bit_is b n i h in
    let one : max (bit_at b.zeros i) (bit_at b.ones i) ≡ 1 = sym (bit_at_or b.zeros b.ones i) ∙ k i (ltb-true i t s) in
    let same : bit_at n i ≡ bit_at b.ones i = omega (arith, is.zero, is.one, is.number, is.zeros, is.ones) in
    ap (λ m. min m (bit_at (2 ^ t - 1) i)) same)
    (λ s. rw (bit_at_ones_above t i (ltb-false i t s)) (omega arith)) ∙ sym (bit_at_and b.ones (2 ^ t - 1) i)) ∙ and_mask b.ones t

-- of two numbers, the low bits that are known of both
pub known_of_both : (t : ℕ) (a b : Bits) (x y : ℕ) → IsBits a → IsBits b → t ≤ 64 → t ≤ low_known a b → HasBits a x → HasBits b y → (x % 2 ^ t ≡ a.ones % 2 ^ t) × (y % 2 ^ t ≡ b.ones % 2 ^ t)
known_of_both t a b x y fa fb wide le p q =
    let ka = or_lt 64 a.zeros a.ones fa.zeros fa.ones in
    let m = bit_and (known a) (known b) in
    let fits : m < 2 ^ 64 = omega (arith, and_le_l (known a) (known b)) in
    let each : (i : ℕ) → i < t → min (bit_at (known a) i) (bit_at (known b) i) ≡ 1 =
    λ i less. sym (bit_at_and (known a) (known b) i) ∙ low_ones t m i fits wide le less in (
      known_low t a x p (λ i less. omega (arith, each i less, bit_at-lt (known a) i, bit_at-lt (known b) i)),
      known_low t b y q (λ i less. omega (arith, each i less, bit_at-lt (known a) i, bit_at-lt (known b) i)),
    )

-- a shorter remainder of a longer one
mod_twice : (n t k : ℕ) → t ≤ k → n % 2 ^ k % 2 ^ t ≡ n % 2 ^ t
mod_twice n t k le =
    let e : k ≡ (k - t) + t = omega arith in ap (λ j. n % 2 ^ j % 2 ^ t) e ∙ mod-mod-pow n (k - t) t

-- sums and differences of numbers that are alike below m are alike below m
alike_sums : (m x y u v : ℕ) → x % m ≡ u % m → y % m ≡ v % m → (x + y) % m ≡ (u + v) % m
alike_sums m x y u v p q = add-mod x y m ∙ ap (λ n. (n + y % m) % m) p ∙ ap (λ n. (u % m + n) % m) q ∙ sym (add-mod u v m)

-- what fills a number up to a multiple of m
filled : (m d y : ℕ) → 0 < m → (d + (y + (m - y % m))) % m ≡ d % m
filled m d y h =
    let e : d + (y + (m - y % m)) ≡ (d + m) + y / m * m = omega (arith, div-add-mod' y m, mod-lt y h) in
    ap (λ n. n % m) e ∙ add-mul-mod_self_right (d + m) (y / m) m ∙ add-mod_right d m

alike_differences : (m c y v : ℕ) → 0 < m → y ≤ c → v ≤ c → y % m ≡ v % m → (c - y) % m ≡ (c - v) % m
alike_differences m c y v h ly lv p =
    let e : (c - y) + (y + (m - y % m)) ≡ (c - v) + (v + (m - v % m)) = omega arith in
    sym (filled m (c - y) y h) ∙ ap (λ n. n % m) e ∙ filled m (c - v) v h

-- the low t bits of a sum depend on the low t bits alone, and those of a difference too
low_sums : (w : Width) (t x y u v : ℕ) → t ≤ bits w → x % 2 ^ t ≡ u % 2 ^ t → y % 2 ^ t ≡ v % 2 ^ t → value Add w x y % 2 ^ t ≡ value Add w u v % 2 ^ t
low_sums w t x y u v le p q =
    let k = bits w in
    let cut : (n : ℕ) → n % 2 ^ k % 2 ^ t ≡ n % 2 ^ t = λ n. mod_twice n t k le in
    cut (x % 2 ^ k + y % 2 ^ k)
    ∙ alike_sums (2 ^ t) (x % 2 ^ k) (y % 2 ^ k) (u % 2 ^ k) (v % 2 ^ k) (cut x ∙ p ∙ sym (cut u)) (cut y ∙ q ∙ sym (cut v))
    ∙ sym (cut (u % 2 ^ k + v % 2 ^ k))

low_differences : (w : Width) (t x y u v : ℕ) → t ≤ bits w → x % 2 ^ t ≡ u % 2 ^ t → y % 2 ^ t ≡ v % 2 ^ t → value Sub w x y % 2 ^ t ≡ value Sub w u v % 2 ^ t
low_differences w t x y u v le p q =
    let k = bits w in
    let cut : (n : ℕ) → n % 2 ^ k % 2 ^ t ≡ n % 2 ^ t = λ n. mod_twice n t k le in
    let low : (n : ℕ) → n % 2 ^ k ≤ 2 ^ k = λ n. omega (arith, mod-lt n (pow_pos k)) in
    let plain : (a b : ℕ) → value Sub w a b ≡ (a % 2 ^ k + (2 ^ k - b % 2 ^ k)) % 2 ^ k = λ a b. wrapped_difference k (a % 2 ^ k) (b % 2 ^ k) (mod-lt b (pow_pos k)) in
    ap (λ n. n % 2 ^ t) (plain x y)
    ∙ cut (x % 2 ^ k + (2 ^ k - y % 2 ^ k))
    ∙ alike_sums (2 ^ t) (x % 2 ^ k) (2 ^ k - y % 2 ^ k) (u % 2 ^ k) (2 ^ k - v % 2 ^ k) (cut x ∙ p ∙ sym (cut u)) (alike_differences (2 ^ t) (2 ^ k) (y % 2 ^ k) (v % 2 ^ k) (pow_pos t) (low y) (low v) (cut y ∙ q ∙ sym (cut v)))
    ∙ sym (cut (u % 2 ^ k + (2 ^ k - v % 2 ^ k)))
    ∙ sym (ap (λ n. n % 2 ^ t) (plain u v))

wide : (w : Width) → bits w ≤ 64
wide W32 = omega arith
wide W64 = omega arith

pub sum_sound : (w : Width) (a b : Bits) (x y : ℕ) → IsBits a → IsBits b → HasBits a x → HasBits b y → HasBits (low_result Add w a b) (value Add w x y)
sum_sound w a b x y fa fb p q =
    let t = min (bits w) (low_known a b) in
    let both = known_of_both t a b x y fa fb (omega (arith, wide w)) (omega arith) p q in
    low_bits_sound t _ _ (low_sums w t x y a.ones b.ones (omega arith) both.0 both.1)

pub difference_sound : (w : Width) (a b : Bits) (x y : ℕ) → IsBits a → IsBits b → HasBits a x → HasBits b y → HasBits (low_result Sub w a b) (value Sub w x y)
difference_sound w a b x y fa fb p q =
    let t = min (bits w) (low_known a b) in
    let both = known_of_both t a b x y fa fb (omega (arith, wide w)) (omega arith) p q in
    low_bits_sound t _ _ (low_differences w t x y a.ones b.ones (omega arith) both.0 both.1)
