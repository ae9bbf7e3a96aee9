-- What an operation leaves of numbers still stands for its value.
use Rattle.std.proofs.Common.{◌≡◌, ℕ, ◌+◌, ◌-◌, ◌*◌, ◌/◌, ◌%◌, ◌^◌, ◌<◌, ◌≤◌, max, ◌&&◌, ltb, leb, eqb, sym, ap, ◌∙◌, subst, arith}
use Rattle.std.specs.Prelude.{bit_and, IfSome}
use Rattle.std.specs.Int.{w64, leading_zeros}
use Rattle.std.proofs.Math.Nat.{mod-eq_of_lt, mod-lt, div-le_self}
use Rattle.std.proofs.Math.Pow.{pow_mono}
use Rattle.std.proofs.lemmas.Nat.{and_le_l, or_lt, pow_pos}
use Rattle.std.proofs.lemmas.Bool.{cond_both, ltb-true, and_parts}
use Rattle.bpf_alu.specs.declared.Op.{Op}
use Rattle.bpf_alu.specs.declared.Op.TheVariants.{Add, Sub, Mul, Div, SignedDiv, SignedMod, Neg, Movsx8, Movsx16, Movsx32, Or, And, Xor, Lsh, Rsh, Arsh, Mod, Mov}
use Rattle.bpf_alu.specs.declared.Width.{Width}
use Rattle.bpf_alu.specs.declared.Width.TheVariants.{W32, W64}
use Rattle.bpf_alu.specs.declared.SwapKind.{SwapKind}
use Rattle.bpf_alu.specs.declared.SwapBits.{SwapBits}
use Rattle.bpf_alu.specs.Value.{bits, wrapped, exact, value, swapped}
use Rattle.bpf_ranges.specs.declared.range.Range.{Range}
use Rattle.bpf_ranges.specs.declared.bits.Bits.{Bits}
use Rattle.bpf_semantics.specs.declared.profile.Profile.{Profile}
use Rattle.bpf_semantics.specs.declared.profile.Profile.TheVariants.{First, Second}
use Rattle.bpf_ranges.specs.declared.number.Number.{Number}
use Rattle.bpf_ranges.specs.KnownBits.{HasBits, IsBits, nothing, common, moved_left, moved_right, cut_bits, low_bits_of}
use Rattle.bpf_ranges.specs.Numbers.{InRange, IsNumber, IsOf, is_single, are_single, swapped_range, swapped_number, joined_numbers, least_over, cut_by, low_range, full, range_else, range_by, range_result, wrapped_range, shifted_right, are_positive, extended, ones_above, bits_right, bits_after, cut_number, numbers}
use Rattle.bpf_ranges.proofs.Ranges.{bits_wide, range_ordered, value_fits, cut_sound, cut_by_sound, low_range_fits, range_sound, swapped_sound, swapped_fits, swapped_ordered, plain_and, plain_or, plain_xor, plain_shift_right, plain_arithmetic_shift, wrapped_small, of_single}
use Rattle.bpf_ranges.proofs.KnownBits.{nothing_sound, both_set_sound, either_set_sound, one_set_sound, cut_bits_sound, moved_left_sound, moved_right_sound, sum_sound, difference_sound, common_left, common_right}
use Rattle.bpf_ranges.proofs.Settled.{Leaves, nothing_fits, settled_sound, settled_is_number}

-- ---- the bits of a result, of operands that were cut to the width

as_bits : {n m : ℕ} (b : Bits) → n ≡ m → HasBits b m → HasBits b n
as_bits b e h = subst (HasBits b) (sym e) h

-- the value of operands that have the width
value_is : (op : Op) (w : Width) (x y : ℕ) → x < 2 ^ bits w → y < 2 ^ bits w → value op w x y ≡ wrapped (bits w) (exact op (bits w) x y)
value_is op w x y fx fy =
    ap (λ n. wrapped (bits w) (exact op (bits w) n (y % 2 ^ bits w))) (mod-eq_of_lt fx) ∙ ap (λ n. wrapped (bits w) (exact op (bits w) x n)) (mod-eq_of_lt fy)

below_64 : (w : Width) (x : ℕ) → x < 2 ^ bits w → x < 2 ^ 64
below_64 w x h = let le : 2 ^ bits w ≤ 2 ^ 64 = pow_mono (bits_wide w) in omega arith

positive : (w : Width) → 0 < bits w
positive W32 = omega arith
positive W64 = omega arith

module _ (w : Width) (a b : Number) (x y : ℕ) (pa : IsOf a x) (pb : IsOf b y) (fa : IsBits a.bits) (fb : IsBits b.bits) (fx : x < 2 ^ bits w) (fy : y < 2 ^ bits w) where
  right_bits : HasBits (bits_right (bits w) b.range a.bits) (x / 2 ^ (y % bits w))
  right_bits =
      cond_both (is_single b.range) _ _ (λ c. HasBits c (x / 2 ^ (y % bits w)))
      (λ t. subst (λ n. HasBits (moved_right (b.range.lo % bits w) a.bits) (x / 2 ^ (n % bits w))) (of_single b.range y pb.within t) (moved_right_sound (b.range.lo % bits w) a.bits x pa.has))
      (λ _. nothing_sound _)

  left_bits : HasBits (bits_after Lsh w a b) (x * 2 ^ (y % bits w) % 2 ^ bits w)
  left_bits =
      cond_both (is_single b.range) _ _ (λ c. HasBits c (x * 2 ^ (y % bits w) % 2 ^ bits w))
      (λ t. let less = mod-lt b.range.lo (positive w) in
      subst (λ n. HasBits (moved_left (bits w) (b.range.lo % bits w) a.bits) (x * 2 ^ (n % bits w) % 2 ^ bits w)) (of_single b.range y pb.within t) (moved_left_sound (bits w) (b.range.lo % bits w) a.bits x (omega arith) pa.has))
      (λ _. nothing_sound _)

  arithmetic_bits : HasBits (bits_after Arsh w a b) (wrapped (bits w) (exact Arsh (bits w) x y))
  arithmetic_bits =
      cond_both (ltb a.range.hi (2 ^ (bits w - 1))) _ _ (λ c. HasBits c (wrapped (bits w) (exact Arsh (bits w) x y)))
      (λ t. let lt = ltb-true _ _ t in let within = pa.within in as_bits _ (plain_arithmetic_shift (bits w) x y (omega arith) fx) right_bits)
      (λ _. nothing_sound _)

  row_bits : (op : Op) → HasBits (bits_after op w a b) (wrapped (bits w) (exact op (bits w) x y))
  row_bits Mov = as_bits b.bits (wrapped_small (bits w) y fy) pb.has
  row_bits And = as_bits _ (plain_and (bits w) x y fx) (both_set_sound a.bits b.bits x y pa.has pb.has)
  row_bits Or = as_bits _ (plain_or (bits w) x y fx fy) (either_set_sound a.bits b.bits x y pa.has pb.has)
  row_bits Xor = as_bits _ (plain_xor (bits w) x y fx fy) (one_set_sound a.bits b.bits x y pa.has pb.has)
  row_bits Add = as_bits _ (sym (value_is Add w x y fx fy)) (sum_sound w a.bits b.bits x y fa fb pa.has pb.has)
  row_bits Sub = as_bits _ (sym (value_is Sub w x y fx fy)) (difference_sound w a.bits b.bits x y fa fb pa.has pb.has)
  row_bits Lsh = left_bits
  row_bits Rsh = as_bits _ (plain_shift_right (bits w) x y fx) right_bits
  row_bits Arsh = arithmetic_bits
  row_bits op = nothing_sound _

-- ---- what is left fits 64 bits

abbrev Fits : Range → Type 0
Fits r = r.hi < 2 ^ 64

module _ (k : ℕ) (a b : Range) (fa : a.hi < 2 ^ k) (fb : b.hi < 2 ^ k) (wide : 2 ^ k ≤ 2 ^ 64) where
  full_fits : Fits (full k)
  full_fits = omega (arith, pow_pos k)

  ones_fit : (n : ℕ) → ones_above n < 2 ^ 64
  ones_fit n =
      let l = 64 - leading_zeros w64 n in
      let short : l ≤ 64 = omega arith in
      let le : 2 ^ l ≤ 2 ^ 64 = pow_mono short in
      omega (arith, pow_pos l)

  right_fits : Fits (shifted_right k a b)
  right_fits = cond_both (is_single b) _ _ Fits (λ _. omega (arith, div-le_self a.hi (2 ^ (b.lo % k)))) (λ _. omega arith)

  else_fits : (op : Op) → Fits (range_else op k a b)
  else_fits Mov = omega arith
  else_fits Add = cond_both (ltb (a.hi + b.hi) (2 ^ k)) _ _ Fits (λ t. let lt = ltb-true _ _ t in omega arith) (λ _. full_fits)
  else_fits Sub = cond_both (leb b.hi a.lo) _ _ Fits (λ _. omega arith) (λ _. full_fits)
  else_fits Mul = cond_both (ltb (a.hi * b.hi) (2 ^ k)) _ _ Fits (λ t. let lt = ltb-true _ _ t in omega arith) (λ _. full_fits)
  else_fits Div = cond_both (leb 1 b.lo) _ _ Fits (λ _. omega (arith, div-le_self a.hi b.lo)) (λ _. omega arith)
  else_fits Mod = cond_both (leb 1 b.lo) _ _ Fits (λ _. omega arith) (λ _. omega arith)
  else_fits And = omega arith
  else_fits Or = ones_fit (max a.hi b.hi)
  else_fits Xor = ones_fit (max a.hi b.hi)
  else_fits Lsh =
      cond_both (is_single b && ltb (a.hi * 2 ^ (b.lo % k)) (2 ^ k)) _ _ Fits
      (λ t. let lt = ltb-true _ _ (and_parts (is_single b) _ t).1 in omega arith) (λ _. full_fits)
  else_fits Rsh = right_fits
  else_fits Arsh = cond_both (ltb a.hi (2 ^ (k - 1))) _ _ Fits (λ _. right_fits) (λ _. full_fits)
  else_fits op = full_fits

  wrapped_fits : (lo hi : ℕ) → Fits (wrapped_range k lo hi)
  wrapped_fits lo hi = cond_both (eqb (lo / 2 ^ k) (hi / 2 ^ k)) _ _ Fits (λ _. omega (arith, mod-lt hi (pow_pos k))) (λ _. full_fits)

  extended_fits : (n : ℕ) → n ≤ 64 → Fits (extended n k b)
  extended_fits n short =
      let r = low_range n b in
      let small = low_range_fits n b in
      let sizes : 2 ^ n ≤ 2 ^ 64 = pow_mono short in
      cond_both (ltb r.hi (2 ^ (n - 1))) _ _ Fits
      (λ _. omega arith)
      (λ _. cond_both (leb (2 ^ (n - 1)) r.lo) _ _ Fits (λ _. omega arith) (λ _. full_fits))

  by_fits : (profile : Profile) (op : Op) → Fits (range_by profile op k a b)
  by_fits First op = else_fits op
  by_fits Second Add = wrapped_fits (a.lo + b.lo) (a.hi + b.hi)
  by_fits Second Sub = wrapped_fits (a.lo + (2 ^ k - b.hi)) (a.hi + (2 ^ k - b.lo))
  by_fits Second Neg = wrapped_fits (0 + (2 ^ k - a.hi)) (0 + (2 ^ k - a.lo))
  by_fits Second Lsh =
      cond_both (ltb b.hi k && ltb (a.hi * 2 ^ b.hi) (2 ^ k)) _ _ Fits
      (λ t. let lt = ltb-true _ _ (and_parts (ltb b.hi k) _ t).1 in omega arith) (λ _. else_fits Lsh)
  by_fits Second SignedDiv = cond_both (are_positive k a b) _ _ Fits (λ _. else_fits Div) (λ _. full_fits)
  by_fits Second SignedMod = cond_both (are_positive k a b) _ _ Fits (λ _. else_fits Mod) (λ _. full_fits)
  by_fits Second Movsx8 = extended_fits 8 (omega arith)
  by_fits Second Movsx16 = extended_fits 16 (omega arith)
  by_fits Second Movsx32 = extended_fits 32 (omega arith)
  by_fits Second op = else_fits op

result_fits : (profile : Profile) (op : Op) (w : Width) (a b : Range) (x y : ℕ) → InRange a x → InRange b y → Fits (range_result profile op w a b)
result_fits profile op w a b x y p q =
    let k = bits w in
    let l = cut_by profile k a in
    let r = cut_by profile k b in
    cond_both (are_single op l r) _ _ Fits (λ _. value_fits op w l.lo r.lo)
    (λ _. by_fits k l r (cut_by_sound profile w a x p).1 (cut_by_sound profile w b y q).1 (pow_mono (bits_wide w)) profile op)

cut_fits : (k : ℕ) (b : Bits) → k ≤ 64 → IsBits b → IsBits (cut_bits k b)
cut_fits k b wide f =
    let le : 2 ^ k ≤ 2 ^ 64 = pow_mono wide in
    record {
      zeros = or_lt 64 b.zeros (2 ^ 64 - 2 ^ k) f.zeros (omega (arith, pow_pos k));
      ones = omega (arith, mod-lt b.ones (pow_pos k));
    }

and_fits : (a b : ℕ) → a < 2 ^ 64 → bit_and a b < 2 ^ 64
and_fits a b h = omega (arith, and_le_l a b)

low_fits : (t n : ℕ) → t ≤ 64 → IsBits (low_bits_of t n)
low_fits t n wide =
    let le : 2 ^ t ≤ 2 ^ 64 = pow_mono wide in
    let p = pow_pos t in
    let l = mod-lt n p in
    record { zeros = omega arith; ones = omega arith }

right_bits_fit : (k : ℕ) (by : Range) (b : Bits) → IsBits b → IsBits (bits_right k by b)
right_bits_fit k by b f =
    cond_both (is_single by) _ _ IsBits
    (λ _. record { zeros = omega (arith, div-le_self b.zeros (2 ^ (by.lo % k)), f.zeros); ones = omega (arith, div-le_self b.ones (2 ^ (by.lo % k)), f.ones) })
    (λ _. nothing_fits)

left_bits_fit : (k s : ℕ) (b : Bits) → k ≤ 64 → s ≤ k → IsBits (moved_left k s b)
left_bits_fit k s b wide le =
    let lk : 2 ^ k ≤ 2 ^ 64 = pow_mono wide in
    let ls : 2 ^ s ≤ 2 ^ k = pow_mono le in
    let p = pow_pos k in
    record {
      zeros = or_lt 64 (b.zeros * 2 ^ s % 2 ^ k) (2 ^ s - 1) (omega (arith, mod-lt (b.zeros * 2 ^ s) p)) (omega (arith, pow_pos s));
      ones = omega (arith, mod-lt (b.ones * 2 ^ s) p);
    }

common_fits : (a b : Bits) → IsBits a → IsBits (common a b)
common_fits a b f = record { zeros = and_fits a.zeros b.zeros f.zeros; ones = and_fits a.ones b.ones f.ones }

bits_fit : (op : Op) (w : Width) (a b : Number) → IsBits a.bits → IsBits b.bits → IsBits (bits_after op w a b)
bits_fit Mov w a b f g = g
bits_fit And w a b f g = record { zeros = or_lt 64 a.bits.zeros b.bits.zeros f.zeros g.zeros; ones = and_fits a.bits.ones b.bits.ones f.ones }
bits_fit Or w a b f g = record { zeros = and_fits a.bits.zeros b.bits.zeros f.zeros; ones = or_lt 64 a.bits.ones b.bits.ones f.ones g.ones }
bits_fit Xor w a b f g =
    record {
      zeros = or_lt 64 _ _ (and_fits a.bits.zeros b.bits.zeros f.zeros) (and_fits a.bits.ones b.bits.ones f.ones);
      ones = or_lt 64 _ _ (and_fits a.bits.zeros b.bits.ones f.zeros) (and_fits a.bits.ones b.bits.zeros f.ones);
    }
bits_fit Add w a b f g = low_fits _ _ (omega (arith, bits_wide w))
bits_fit Sub w a b f g = low_fits _ _ (omega (arith, bits_wide w))
bits_fit Lsh w a b f g =
    cond_both (is_single b.range) _ _ IsBits
    (λ _. let less = mod-lt b.range.lo (positive w) in left_bits_fit (bits w) (b.range.lo % bits w) a.bits (bits_wide w) (omega arith))
    (λ _. nothing_fits)
bits_fit Rsh w a b f g = right_bits_fit (bits w) b.range a.bits f
bits_fit Arsh w a b f g =
    cond_both (ltb a.range.hi (2 ^ (bits w - 1))) _ _ IsBits (λ _. right_bits_fit (bits w) b.range a.bits f) (λ _. nothing_fits)
bits_fit op w a b f g = nothing_fits

-- ---- results

cut_is : (w : Width) (a : Number) (x : ℕ) → IsOf a x → IsOf (cut_number w a) (x % 2 ^ bits w)
cut_is w a x h = record { within = (cut_sound w a.range x h.within).0; has = cut_bits_sound (bits w) a.bits x h.has }

pub numbers_sound : (profile : Profile) (op : Op) (w : Width) (a b : Number) (x y : ℕ) → IsNumber a → IsNumber b → IsOf a x → IsOf b y → Leaves (value op w x y) (numbers profile op w a b)
numbers_sound profile op w a b x y ka kb p q =
    let k = bits w in
    let fa = cut_fits k a.bits (bits_wide w) ka.bits in
    let fb = cut_fits k b.bits (bits_wide w) kb.bits in
    let has = row_bits w (cut_number w a) (cut_number w b) (x % 2 ^ k) (y % 2 ^ k) (cut_is w a x p) (cut_is w b y q) fa fb (mod-lt x (pow_pos k)) (mod-lt y (pow_pos k)) op in
    settled_sound profile (range_result profile op w a.range b.range) (bits_after op w (cut_number w a) (cut_number w b)) (value op w x y)
    (result_fits profile op w a.range b.range x y p.within q.within) (bits_fit op w (cut_number w a) (cut_number w b) fa fb)
    (range_sound profile op w a.range b.range x y p.within q.within) has

pub numbers_are_numbers : (profile : Profile) (op : Op) (w : Width) (a b : Number) → IsNumber a → IsNumber b → IfSome (numbers profile op w a b) IsNumber
numbers_are_numbers profile op w a b ka kb =
    settled_is_number profile (range_result profile op w a.range b.range) (bits_after op w (cut_number w a) (cut_number w b))
    (result_fits profile op w a.range b.range a.range.lo b.range.lo (omega arith, ka.range.ordered) (omega arith, kb.range.ordered))
    (λ _. range_ordered profile op w a.range b.range ka.range.ordered kb.range.ordered)
    (bits_fit op w (cut_number w a) (cut_number w b) (cut_fits (bits w) a.bits (bits_wide w) ka.bits) (cut_fits (bits w) b.bits (bits_wide w) kb.bits))

-- ---- byte swaps and joins

module _ (profile : Profile) where
  pub swapped_number_sound : (kind : SwapKind) (n : SwapBits) (a : Number) (x : ℕ) → IsOf a x → Leaves (swapped kind n x) (swapped_number profile kind n a)
  swapped_number_sound kind n a x p =
      settled_sound profile (swapped_range profile kind n a.range) nothing (swapped kind n x) (swapped_fits profile kind n a.range) nothing_fits (swapped_sound profile kind n a.range x p.within) (nothing_sound (swapped kind n x))

  pub swapped_is_number : (kind : SwapKind) (n : SwapBits) (a : Number) → IfSome (swapped_number profile kind n a) IsNumber
  swapped_is_number kind n a =
      settled_is_number profile (swapped_range profile kind n a.range) nothing (swapped_fits profile kind n a.range)
      (λ first. subst (λ q. (swapped_range q kind n a.range).lo ≤ (swapped_range q kind n a.range).hi) (sym first) (swapped_ordered kind n a.range)) nothing_fits

  pub joined_left : (a b : Number) (n : ℕ) → IsNumber a → IsNumber b → IsOf a n → Leaves n (joined_numbers profile a b)
  joined_left a b n ka kb h =
      let fa = ka.range.fits in let fb = kb.range.fits in let p = h.within in
      settled_sound profile (least_over a.range b.range) (common a.bits b.bits) n (omega arith) (common_fits a.bits b.bits ka.bits) (omega arith, omega arith) (common_left a.bits b.bits n h.has)

  pub joined_right : (a b : Number) (n : ℕ) → IsNumber a → IsNumber b → IsOf b n → Leaves n (joined_numbers profile a b)
  joined_right a b n ka kb h =
      let fa = ka.range.fits in let fb = kb.range.fits in let p = h.within in
      settled_sound profile (least_over a.range b.range) (common a.bits b.bits) n (omega arith) (common_fits a.bits b.bits ka.bits) (omega arith, omega arith) (common_right a.bits b.bits n h.has)

  pub joined_is_number : (a b : Number) → IsNumber a → IsNumber b → IfSome (joined_numbers profile a b) IsNumber
  joined_is_number a b ka kb =
      let fa = ka.range.fits in
      let fb = kb.range.fits in
      let le = ka.range.ordered in
      settled_is_number profile (least_over a.range b.range) (common a.bits b.bits) (omega arith) (λ _. omega arith) (common_fits a.bits b.bits ka.bits)
