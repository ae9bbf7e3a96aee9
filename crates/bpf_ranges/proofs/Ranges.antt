-- The range of a result admits every value that the operands' ranges allow.
use Rattle.std.proofs.Common.{◌≡◌, ℕ, zero, suc, ◌+◌, ◌-◌, ◌*◌, ◌/◌, ◌%◌, ◌^◌, ◌<◌, ◌≤◌, Bool, true, false, cond, ◌&&◌, eqb, ltb, leb, max, refl, sym, ap, ◌∙◌, subst, arith}
use Rattle.std.specs.Prelude.{bit_and, bit_or, bit_xor}
use Rattle.std.proofs.Math.Nat.{mod-eq_of_lt, mod-lt, div-le_self, mod-le, mul-div-le, add-mul-mod_self_right, div-zero, mod-zero, mul_comm}
use Rattle.std.proofs.lemmas.Nat.{and_le_l, and_le_r, or_lt, xor_lt, pow_pos, leading_length, le-div, mod_below, mul-le, div-add-mod'}
use Rattle.std.proofs.lemmas.Bool.{cond_both, ltb-true, leb-true, lt-ltb, le-ltb, eqb-true, and_parts}
use Rattle.std.specs.Int.{w64, leading_zeros}
use Rattle.std.proofs.Math.Pow.{pow_mono}
use Rattle.std.specs.Prelude.{ℤ, pos, negsuc, ◌-ℤ◌, ◌*ℤ◌, int_div}
use Rattle.std.proofs.lemmas.Int.{ints, int_rem_euclid_is}
use Rattle.std.specs.Prelude.{unsigned_abs}
use Rattle.bpf_alu.specs.declared.Op.{Op}
use Rattle.bpf_alu.specs.declared.Op.TheVariants.{Add, Sub, Mul, Div, SignedDiv, Or, And, Xor, Lsh, Rsh, Arsh, Neg, Mod, SignedMod, Mov, Movsx8, Movsx16, Movsx32}
use Rattle.bpf_alu.specs.declared.Width.{Width}
use Rattle.bpf_alu.specs.declared.Width.TheVariants.{W32, W64}
use Rattle.bpf_alu.specs.declared.SwapKind.{SwapKind}
use Rattle.bpf_alu.specs.declared.SwapKind.TheVariants.{ToLittle, ToBig, Swap}
use Rattle.bpf_alu.specs.declared.SwapBits.{SwapBits}
use Rattle.bpf_alu.specs.declared.SwapBits.TheVariants.{B16, B32, B64}
use Rattle.bpf_alu.specs.Value.{bits, wrapped, signed, quotient, remainder, exact, remainder, value, byte_count, reversed, swapped}
use Rattle.bpf_semantics.specs.declared.profile.Profile.{Profile}
use Rattle.bpf_semantics.specs.declared.profile.Profile.TheVariants.{First, Second}
use Rattle.bpf_ranges.specs.declared.range.Range.{Range}
use Rattle.bpf_ranges.specs.Numbers.{InRange, single, full, is_single, cut, low_range, cut_by, are_single, range_else, shifted_right, shifted_left, are_positive, difference_range, signed_range_of, extended, wrapped_range, range_by, range_result, swapped_range}

-- a quotient grows with the dividend and falls with the divisor
pub div_mono : (a b m n : ℕ) → a ≤ b → 0 < n → n ≤ m → a / m ≤ b / n
div_mono a b m n h p q =
    le-div (a / m) b n p (omega (arith, mul-le (a / m) n (a / m) m (omega arith) q, mul-div-le a m))

in_full : (k n : ℕ) → n < 2 ^ k → InRange (full k) n
in_full k n h = (omega arith, omega arith)

-- a number up to n is below the power of two that n is below
pub under_ones : (n m : ℕ) → n < 2 ^ 64 → m ≤ n → m < 2 ^ (64 - leading_zeros w64 n)
under_ones n m h le =
    let l = leading_length 64 n h in
    let e : 64 - leading_zeros w64 n ≡ l.0 = omega (arith, l.1) in
    rw e (omega (arith, l.2))

-- ---- the value of a row is the plain natural form: what k bits keep of an exact result

wrapped_below : (k : ℕ) (z : ℤ) → wrapped k z < 2 ^ k
wrapped_below k (pos n) = mod-lt n (pow_pos k)
wrapped_below k (negsuc n) = omega (arith, pow_pos k)

pub wrapped_small : (k n : ℕ) → n < 2 ^ k → wrapped k (pos n) ≡ n
wrapped_small k n h = mod-eq_of_lt h

pub wrapped_difference : (k a b : ℕ) → b < 2 ^ k → wrapped k (pos a -ℤ pos b) ≡ (a + (2 ^ k - b)) % 2 ^ k
wrapped_difference k a b h =
    ap unsigned_abs (int_rem_euclid_is (pos a -ℤ pos b) (pos (2 ^ k)) (2 ^ k) 1 (a + (2 ^ k - b)) (pow_pos k) refl (omega (arith, ints)))

wrapped_negative : (k m b : ℕ) → b ≤ 2 ^ k → wrapped k (pos m -ℤ pos b) ≡ (m + (2 ^ k - b)) % 2 ^ k
wrapped_negative k m b h =
    ap unsigned_abs (int_rem_euclid_is (pos m -ℤ pos b) (pos (2 ^ k)) (2 ^ k) 1 (m + (2 ^ k - b)) (pow_pos k) refl (omega (arith, ints)))

-- a difference of 64 bits
pub value_sub : (x y : ℕ) → x < 2 ^ 64 → y < 2 ^ 64 → value Sub W64 x y ≡ (x + (2 ^ 64 - y)) % 2 ^ 64
value_sub x y fx fy =
    ap (λ n. wrapped 64 (pos n -ℤ pos (y % 2 ^ 64))) (mod-eq_of_lt fx)
    ∙ ap (λ n. wrapped 64 (pos x -ℤ pos n)) (mod-eq_of_lt fy)
    ∙ wrapped_difference 64 x y fy

quotient_is : (a b : ℕ) → quotient a b ≡ a / b
quotient_is a b = cond_both (eqb b 0) 0 (a / b) (λ q. q ≡ a / b) (λ t. let e = eqb-true b 0 t in rw e (sym (div-zero a))) (λ _. refl)

remainder_is : (a b : ℕ) → remainder a b ≡ a % b
remainder_is a b = cond_both (eqb b 0) a (a % b) (λ r. r ≡ a % b) (λ t. let e = eqb-true b 0 t in rw e (sym (mod-zero a))) (λ _. refl)

plain_div : (k a b : ℕ) → a < 2 ^ k → wrapped k (exact Div k a b) ≡ a / b
plain_div k a b h = ap (λ q. q % 2 ^ k) (quotient_is a b) ∙ mod-eq_of_lt (omega (arith, div-le_self a b))

plain_mod : (k a b : ℕ) → a < 2 ^ k → wrapped k (exact Mod k a b) ≡ a % b
plain_mod k a b h = ap (λ q. q % 2 ^ k) (remainder_is a b) ∙ mod-eq_of_lt (omega (arith, mod-le a b))

pub plain_and : (k a b : ℕ) → a < 2 ^ k → wrapped k (exact And k a b) ≡ bit_and a b
plain_and k a b h = mod-eq_of_lt (omega (arith, and_le_l a b))

pub plain_or : (k a b : ℕ) → a < 2 ^ k → b < 2 ^ k → wrapped k (exact Or k a b) ≡ bit_or a b
plain_or k a b h g = mod-eq_of_lt (or_lt k a b h g)

pub plain_xor : (k a b : ℕ) → a < 2 ^ k → b < 2 ^ k → wrapped k (exact Xor k a b) ≡ bit_xor a b
plain_xor k a b h g = mod-eq_of_lt (xor_lt k a b h g)

pub plain_shift_right : (k a b : ℕ) → a < 2 ^ k → wrapped k (exact Rsh k a b) ≡ a / 2 ^ (b % k)
plain_shift_right k a b h = mod-eq_of_lt (omega (arith, div-le_self a (2 ^ (b % k))))

-- below half of the width an arithmetic shift is a plain one
pub plain_arithmetic_shift : (k a b : ℕ) → a < 2 ^ (k - 1) → a < 2 ^ k → wrapped k (exact Arsh k a b) ≡ a / 2 ^ (b % k)
plain_arithmetic_shift k a b h g = rw (lt-ltb a (2 ^ (k - 1)) h) (plain_shift_right k a b g)

-- ---- each row of the table, over the width

as_plain : {n m : ℕ} (r : Range) → n ≡ m → InRange r m → InRange r n
as_plain r e h = subst (InRange r) (sym e) h

-- what k bits keep of a number between two others lies between what they keep of these, where no multiple of 2 ^ k is passed
pub wrapped_sound : (k lo hi n : ℕ) → lo ≤ n → n ≤ hi → InRange (wrapped_range k lo hi) (n % 2 ^ k)
wrapped_sound k lo hi n p q =
    let m = 2 ^ k in
    let pos = pow_pos k in
    cond_both (eqb (lo / m) (hi / m)) _ _ (λ r. InRange r (n % m))
    (λ t. let one = eqb-true _ _ t in
    let above = div_mono lo n m m p pos (omega arith) in
    let below = div_mono n hi m m q pos (omega arith) in
    let el : n / m ≡ lo / m = omega arith in
    let eh : n / m ≡ hi / m = omega arith in
    let sl : n / m * m ≡ lo / m * m = ap (λ d. d * m) el in
    let sh : n / m * m ≡ hi / m * m = ap (λ d. d * m) eh in
    (omega (arith, div-add-mod' n m, div-add-mod' lo m), omega (arith, div-add-mod' n m, div-add-mod' hi m)))
    (λ _. in_full k _ (mod-lt n pos))

-- what low bits keep of a range fits them, and has what they keep of its numbers
pub low_range_fits : (k : ℕ) (r : Range) → (low_range k r).hi < 2 ^ k
low_range_fits k r =
    cond_both (ltb r.hi (2 ^ k)) r (wrapped_range k r.lo r.hi) (λ (c : Range). c.hi < 2 ^ k)
    (λ t. ltb-true _ _ t)
    (λ _. cond_both (eqb (r.lo / 2 ^ k) (r.hi / 2 ^ k)) _ _ (λ (c : Range). c.hi < 2 ^ k) (λ _. mod-lt r.hi (pow_pos k)) (λ _. omega (arith, pow_pos k)))

pub low_sound : (k : ℕ) (r : Range) (x : ℕ) → InRange r x → InRange (low_range k r) (x % 2 ^ k)
low_sound k r x p =
    cond_both (ltb r.hi (2 ^ k)) _ _ (λ c. InRange c (x % 2 ^ k))
    (λ t. let lt = ltb-true _ _ t in
    let small : x < 2 ^ k = omega arith in
    rw (mod-eq_of_lt small) p)
    (λ _. wrapped_sound k r.lo r.hi x p.0 p.1)

pub low_ordered : (k : ℕ) (r : Range) → r.lo ≤ r.hi → (low_range k r).lo ≤ (low_range k r).hi
low_ordered k r h = let s = low_sound k r r.lo (omega arith, h) in omega (arith, s.0, s.1)

-- ---- signed numbers

signed_small : (k x : ℕ) → x < 2 ^ (k - 1) → signed k x ≡ pos x
signed_small k x h = rw (lt-ltb x (2 ^ (k - 1)) h) refl

signed_large : (k x : ℕ) → 2 ^ (k - 1) ≤ x → signed k x ≡ pos x -ℤ pos (2 ^ k)
signed_large k x h = rw (le-ltb x (2 ^ (k - 1)) h) refl

-- quotients and remainders without a sign
either_positive : (c : Bool) (n : ℕ) → cond c (pos 0) (pos n) ≡ pos (cond c 0 n)
either_positive true n = refl
either_positive false n = refl

left_over : (x m q r : ℕ) → q * m + r ≡ x → (pos x -ℤ pos (m * q)) ≡ pos r
left_over x m q r e = let f : m * q ≡ q * m = mul_comm m q in omega (arith, ints)

positive_rest : (c : Bool) (x y : ℕ) → (pos x -ℤ pos y *ℤ cond c (pos 0) (pos (x / y))) ≡ pos (cond c x (x % y))
positive_rest true x y = left_over x y 0 x (omega arith)
positive_rest false x y = left_over x y (x / y) (x % y) (div-add-mod' x y)

module _ (k : ℕ) (a b : Range) (x y : ℕ) (px : InRange a x) (py : InRange b y) (fa : a.hi < 2 ^ k) (fb : b.hi < 2 ^ k) (wide : k ≤ 64) where
  below : x < 2 ^ k
  below = omega arith

  sound_add : InRange (range_else Add k a b) (wrapped k (exact Add k x y))
  sound_add =
      cond_both (ltb (a.hi + b.hi) (2 ^ k)) _ _ (λ r. InRange r ((x + y) % 2 ^ k))
      (λ t. let lt = ltb-true _ _ t in
      let small : x + y < 2 ^ k = omega arith in
      rw (mod-eq_of_lt small) (omega arith, omega arith))
      (λ _. in_full k _ (mod-lt (x + y) (pow_pos k)))

  sound_sub : InRange (range_else Sub k a b) (wrapped k (exact Sub k x y))
  sound_sub =
      as_plain _ (wrapped_difference k x y (omega arith)) (cond_both (leb b.hi a.lo) _ _ (λ r. InRange r ((x + (2 ^ k - y)) % 2 ^ k))
      (λ t. let le = leb-true _ _ t in
      let e : x + (2 ^ k - y) ≡ x - y + 1 * 2 ^ k = omega arith in
      let small : x - y < 2 ^ k = omega arith in
      rw (e, add-mul-mod_self_right (x - y) 1 (2 ^ k), mod-eq_of_lt small) (omega arith, omega arith))
      (λ _. in_full k _ (mod-lt (x + (2 ^ k - y)) (pow_pos k))))

  sound_mul : InRange (range_else Mul k a b) (wrapped k (exact Mul k x y))
  sound_mul =
      cond_both (ltb (a.hi * b.hi) (2 ^ k)) _ _ (λ r. InRange r ((x * y) % 2 ^ k))
      (λ t. let lt = ltb-true _ _ t in
      let below = mul-le x y a.hi b.hi px.1 py.1 in
      let above = mul-le a.lo b.lo x y px.0 py.0 in
      let small : x * y < 2 ^ k = omega arith in
      rw (mod-eq_of_lt small) (above, below))
      (λ _. in_full k _ (mod-lt (x * y) (pow_pos k)))

  sound_div : InRange (range_else Div k a b) (wrapped k (exact Div k x y))
  sound_div =
      as_plain _ (plain_div k x y below) (cond_both (leb 1 b.lo) _ _ (λ r. InRange r (x / y))
      (λ t. let le = leb-true _ _ t in
      (div_mono a.lo x b.hi y px.0 (omega arith) py.1, div_mono x a.hi y b.lo px.1 (omega arith) py.0))
      (λ _. (omega arith, omega (arith, div-le_self x y))))

  sound_mod : InRange (range_else Mod k a b) (wrapped k (exact Mod k x y))
  sound_mod =
      as_plain _ (plain_mod k x y below) (cond_both (leb 1 b.lo) _ _ (λ r. InRange r (x % y))
      (λ t. let le = leb-true _ _ t in
      let small = mod_below x y (omega arith) in
      (omega arith, omega (arith, mod-le x y)))
      (λ _. (omega arith, omega (arith, mod-le x y))))

  sound_and : InRange (range_else And k a b) (wrapped k (exact And k x y))
  sound_and = as_plain _ (plain_and k x y below) (omega arith, omega (arith, and_le_l x y, and_le_r x y))

  sound_shift_right : InRange (shifted_right k a b) (x / 2 ^ (y % k))
  sound_shift_right =
      cond_both (is_single b) _ _ (λ r. InRange r (x / 2 ^ (y % k)))
      (λ t. let one = eqb-true _ _ t in
      let e : y ≡ b.lo = omega arith in
      rw e (div_mono a.lo x (2 ^ (b.lo % k)) (2 ^ (b.lo % k)) px.0 (pow_pos (b.lo % k)) (omega arith), div_mono x a.hi (2 ^ (b.lo % k)) (2 ^ (b.lo % k)) px.1 (pow_pos (b.lo % k)) (omega arith)))
      (λ _. (omega arith, omega (arith, div-le_self x (2 ^ (y % k)))))

  sound_shift_left : InRange (range_else Lsh k a b) (wrapped k (exact Lsh k x y))
  sound_shift_left =
      cond_both (is_single b && ltb (a.hi * 2 ^ (b.lo % k)) (2 ^ k)) _ _ (λ r. InRange r ((x * 2 ^ (y % k)) % 2 ^ k))
      (λ t. let parts = and_parts (is_single b) _ t in
      let one = eqb-true b.lo b.hi parts.0 in
      let lt = ltb-true _ _ parts.1 in
      let e : y ≡ b.lo = omega arith in
      let s = 2 ^ (b.lo % k) in
      let below = mul-le x s a.hi s px.1 (omega arith) in
      let above = mul-le a.lo s x s px.0 (omega arith) in
      let small : x * s < 2 ^ k = omega arith in
      rw (e, mod-eq_of_lt small) (above, below))
      (λ _. in_full k _ (mod-lt (x * 2 ^ (y % k)) (pow_pos k)))

  sound_logical_shift : InRange (range_else Rsh k a b) (wrapped k (exact Rsh k x y))
  sound_logical_shift = as_plain _ (plain_shift_right k x y below) sound_shift_right

  sound_arithmetic_shift : InRange (range_else Arsh k a b) (wrapped k (exact Arsh k x y))
  sound_arithmetic_shift =
      cond_both (ltb a.hi (2 ^ (k - 1))) _ _ (λ r. InRange r (wrapped k (exact Arsh k x y)))
      (λ t. let lt = ltb-true _ _ t in as_plain _ (plain_arithmetic_shift k x y (omega arith) below) sound_shift_right)
      (λ _. in_full k _ (wrapped_below k (exact Arsh k x y)))

  sound_or : InRange (range_else Or k a b) (wrapped k (exact Or k x y))
  sound_or =
      let n = max a.hi b.hi in
      let le : 2 ^ k ≤ 2 ^ 64 = pow_mono wide in
      let h : n < 2 ^ 64 = omega arith in
      as_plain _ (plain_or k x y below (omega arith)) (omega arith, omega (arith, or_lt (64 - leading_zeros w64 n) x y (under_ones n x h (omega arith)) (under_ones n y h (omega arith))))

  sound_xor : InRange (range_else Xor k a b) (wrapped k (exact Xor k x y))
  sound_xor =
      let n = max a.hi b.hi in
      let le : 2 ^ k ≤ 2 ^ 64 = pow_mono wide in
      let h : n < 2 ^ 64 = omega arith in
      as_plain _ (plain_xor k x y below (omega arith)) (omega arith, omega (arith, xor_lt (64 - leading_zeros w64 n) x y (under_ones n x h (omega arith)) (under_ones n y h (omega arith))))

  -- a row of which nothing is known but the width
  sound_full : (op : Op) → InRange (full k) (wrapped k (exact op k x y))
  sound_full op = in_full k _ (wrapped_below k (exact op k x y))

  sound_else : (op : Op) → InRange (range_else op k a b) (wrapped k (exact op k x y))
  sound_else Mov = as_plain b (wrapped_small k y (omega arith)) py
  sound_else Add = sound_add
  sound_else Sub = sound_sub
  sound_else Mul = sound_mul
  sound_else Div = sound_div
  sound_else Mod = sound_mod
  sound_else Or = sound_or
  sound_else And = sound_and
  sound_else Xor = sound_xor
  sound_else Lsh = sound_shift_left
  sound_else Rsh = sound_logical_shift
  sound_else Arsh = sound_arithmetic_shift
  sound_else Neg = sound_full Neg
  sound_else SignedDiv = sound_full SignedDiv
  sound_else SignedMod = sound_full SignedMod
  sound_else Movsx8 = sound_full Movsx8
  sound_else Movsx16 = sound_full Movsx16
  sound_else Movsx32 = sound_full Movsx32

  sound_wrapped_sub : InRange (range_by Second Sub k a b) (wrapped k (exact Sub k x y))
  sound_wrapped_sub =
      as_plain _ (wrapped_difference k x y (omega arith)) (wrapped_sound k (a.lo + (2 ^ k - b.hi)) (a.hi + (2 ^ k - b.lo)) (x + (2 ^ k - y)) (omega arith) (omega arith))

  sound_wrapped_neg : InRange (range_by Second Neg k a b) (wrapped k (exact Neg k x y))
  sound_wrapped_neg =
      as_plain _ (wrapped_difference k 0 x below) (wrapped_sound k (0 + (2 ^ k - a.hi)) (0 + (2 ^ k - a.lo)) (0 + (2 ^ k - x)) (omega arith) (omega arith))

  sound_wide_shift : InRange (range_by Second Lsh k a b) (wrapped k (exact Lsh k x y))
  sound_wide_shift =
      cond_both (ltb b.hi k && ltb (a.hi * 2 ^ b.hi) (2 ^ k)) _ _ (λ r. InRange r ((x * 2 ^ (y % k)) % 2 ^ k))
      (λ t. let parts = and_parts (ltb b.hi k) _ t in
      let less = ltb-true b.hi k parts.0 in
      let lt = ltb-true _ _ parts.1 in
      let count : y % k ≡ y = mod-eq_of_lt (omega arith) in
      let up : 2 ^ y ≤ 2 ^ b.hi = pow_mono py.1 in
      let down : 2 ^ b.lo ≤ 2 ^ y = pow_mono py.0 in
      let high = mul-le x (2 ^ y) a.hi (2 ^ b.hi) px.1 up in
      let low = mul-le a.lo (2 ^ b.lo) x (2 ^ y) px.0 down in
      let small : x * 2 ^ y < 2 ^ k = omega arith in
      rw (count, mod-eq_of_lt small) (low, high))
      (λ _. sound_shift_left)

  -- operands without a sign
  both_plain : are_positive k a b ≡ true → (signed k x ≡ pos x) × (signed k y ≡ pos y)
  both_plain t =
      let parts = and_parts (ltb a.hi (2 ^ (k - 1))) _ t in
      let la = ltb-true _ _ parts.0 in
      let lb = ltb-true _ _ parts.1 in
      (signed_small k x (omega arith), signed_small k y (omega arith))

  plain_signed_div : are_positive k a b ≡ true → wrapped k (exact SignedDiv k x y) ≡ wrapped k (exact Div k x y)
  plain_signed_div t =
      let e = both_plain t in
      ap (λ (z : ℤ). wrapped k (cond (eqb y 0) (pos 0) (int_div z (signed k y)))) e.0
      ∙ ap (λ (z : ℤ). wrapped k (cond (eqb y 0) (pos 0) (int_div (pos x) z))) e.1
      ∙ ap (wrapped k) (either_positive (eqb y 0) (x / y))

  sound_signed_div : InRange (range_by Second SignedDiv k a b) (wrapped k (exact SignedDiv k x y))
  sound_signed_div =
      cond_both (are_positive k a b) _ _ (λ r. InRange r (wrapped k (exact SignedDiv k x y)))
      (λ t. as_plain _ (plain_signed_div t) sound_div)
      (λ _. sound_full SignedDiv)

  plain_signed_mod : are_positive k a b ≡ true → wrapped k (exact SignedMod k x y) ≡ wrapped k (exact Mod k x y)
  plain_signed_mod t =
      let e = both_plain t in
      ap (λ (z : ℤ). wrapped k (z -ℤ signed k y *ℤ cond (eqb y 0) (pos 0) (int_div z (signed k y)))) e.0
      ∙ ap (λ (z : ℤ). wrapped k (pos x -ℤ z *ℤ cond (eqb y 0) (pos 0) (int_div (pos x) z))) e.1
      ∙ ap (wrapped k) (positive_rest (eqb y 0) x y)

  sound_signed_mod : InRange (range_by Second SignedMod k a b) (wrapped k (exact SignedMod k x y))
  sound_signed_mod =
      cond_both (are_positive k a b) _ _ (λ r. InRange r (wrapped k (exact SignedMod k x y)))
      (λ t. as_plain _ (plain_signed_mod t) sound_mod)
      (λ _. sound_full SignedMod)

  sound_extended : (n : ℕ) → n ≤ k → InRange (extended n k b) (wrapped k (signed n (y % 2 ^ n)))
  sound_extended n le =
      let r = low_range n b in
      let m = y % 2 ^ n in
      let within = low_sound n b y py in
      let fits = low_range_fits n b in
      let sizes : 2 ^ n ≤ 2 ^ k = pow_mono le in
      cond_both (ltb r.hi (2 ^ (n - 1))) _ _ (λ s. InRange s (wrapped k (signed n m)))
      (λ t. let lt = ltb-true _ _ t in
      as_plain r (ap (wrapped k) (signed_small n m (omega arith)) ∙ wrapped_small k m (omega arith)) within)
      (λ _. cond_both (leb (2 ^ (n - 1)) r.lo) _ _ (λ s. InRange s (wrapped k (signed n m)))
      (λ t. let le_half = leb-true _ _ t in
      let small : m + (2 ^ k - 2 ^ n) < 2 ^ k = omega arith in
      as_plain _ (ap (wrapped k) (signed_large n m (omega arith)) ∙ wrapped_negative k m (2 ^ n) sizes ∙ mod-eq_of_lt small) (omega arith, omega arith))
      (λ _. in_full k _ (wrapped_below k (signed n m))))

  sound_by : (profile : Profile) (op : Op) → 32 ≤ k → InRange (range_by profile op k a b) (wrapped k (exact op k x y))
  sound_by First op h = sound_else op
  sound_by Second Add h = wrapped_sound k (a.lo + b.lo) (a.hi + b.hi) (x + y) (omega arith) (omega arith)
  sound_by Second Sub h = sound_wrapped_sub
  sound_by Second Neg h = sound_wrapped_neg
  sound_by Second Lsh h = sound_wide_shift
  sound_by Second SignedDiv h = sound_signed_div
  sound_by Second SignedMod h = sound_signed_mod
  sound_by Second Movsx8 h = sound_extended 8 (omega arith)
  sound_by Second Movsx16 h = sound_extended 16 (omega arith)
  sound_by Second Movsx32 h = sound_extended 32 h
  sound_by Second op h = sound_else op

pub bits_wide : (w : Width) → bits w ≤ 64
bits_wide W32 = omega arith
bits_wide W64 = omega arith

pub bits_least : (w : Width) → 32 ≤ bits w
bits_least W32 = omega arith
bits_least W64 = omega arith

-- an operand, cut, is within the cut range, and that range fits
pub cut_sound : (w : Width) (r : Range) (x : ℕ) → InRange r x → InRange (cut (bits w) r) (x % 2 ^ bits w) × ((cut (bits w) r).hi < 2 ^ bits w)
cut_sound w r x p =
    let k = bits w in
    cond_both (ltb r.hi (2 ^ k)) _ _ (λ c. InRange c (x % 2 ^ k) × (c.hi < 2 ^ k))
    (λ t. let lt = ltb-true _ _ t in
    let small : x < 2 ^ k = omega arith in
    (rw (mod-eq_of_lt small) p, lt))
    (λ _. cond_both (is_single r) _ _ (λ c. InRange c (x % 2 ^ k) × (c.hi < 2 ^ k))
    (λ t. let one = eqb-true _ _ t in
    let e : x ≡ r.lo = omega arith in
    (rw e (omega arith, omega arith), mod-lt r.lo (pow_pos k)))
    (λ _. (in_full k _ (mod-lt x (pow_pos k)), omega (arith, pow_pos k))))

pub cut_by_sound : (profile : Profile) (w : Width) (r : Range) (x : ℕ) → InRange r x → InRange (cut_by profile (bits w) r) (x % 2 ^ bits w) × ((cut_by profile (bits w) r).hi < 2 ^ bits w)
cut_by_sound First w r x p = cut_sound w r x p
cut_by_sound Second w r x p = (low_sound (bits w) r x p, low_range_fits (bits w) r)

pub cut_by_fits : (profile : Profile) (w : Width) (r : Range) → r.lo ≤ r.hi → (cut_by profile (bits w) r).hi < 2 ^ bits w
cut_by_fits profile w r h = (cut_by_sound profile w r r.lo (omega arith, h)).1

in_single : (n m : ℕ) → m ≡ n → InRange (single m) n
in_single n m e = (omega arith, omega arith)

cut_again : (k n x : ℕ) → n ≡ x % 2 ^ k → n % 2 ^ k ≡ x % 2 ^ k
cut_again k n x e = rw e (mod-eq_of_lt (mod-lt x (pow_pos k)))

pub of_single : (r : Range) (n : ℕ) → InRange r n → is_single r ≡ true → r.lo ≡ n
of_single r n p t = let one = eqb-true _ _ t in omega arith

-- single operands that are read: the one value
both_single : (op : Op) (w : Width) (a b : Range) (x y : ℕ) → InRange a (x % 2 ^ bits w) → InRange b (y % 2 ^ bits w) → (is_single a && is_single b) ≡ true → InRange (single (value op w a.lo b.lo)) (value op w x y)
both_single op w a b x y px py t =
    let k = bits w in
    let parts = and_parts (is_single a) (is_single b) t in
    let ea = cut_again k a.lo x (of_single a (x % 2 ^ k) px parts.0) in
    let eb = cut_again k b.lo y (of_single b (y % 2 ^ k) py parts.1) in
    in_single _ _ (ap (λ n. wrapped k (exact op k n (b.lo % 2 ^ k))) ea ∙ ap (λ n. wrapped k (exact op k (x % 2 ^ k) n)) eb)

one_single : (w : Width) (f : ℕ → ℤ) (b : Range) (y : ℕ) → InRange b (y % 2 ^ bits w) → is_single b ≡ true → InRange (single (wrapped (bits w) (f (b.lo % 2 ^ bits w)))) (wrapped (bits w) (f (y % 2 ^ bits w)))
one_single w f b y py t =
    in_single _ _ (ap (λ n. wrapped (bits w) (f n)) (cut_again (bits w) b.lo y (of_single b _ py t)))

single_sound : (op : Op) (w : Width) (a b : Range) (x y : ℕ) → InRange a (x % 2 ^ bits w) → InRange b (y % 2 ^ bits w) → are_single op a b ≡ true → InRange (single (value op w a.lo b.lo)) (value op w x y)
single_sound Mov w a b x y px py t = one_single w pos b y py t
single_sound Movsx8 w a b x y px py t = one_single w (λ n. signed 8 (n % 2 ^ 8)) b y py t
single_sound Movsx16 w a b x y px py t = one_single w (λ n. signed 16 (n % 2 ^ 16)) b y py t
single_sound Movsx32 w a b x y px py t = one_single w (λ n. signed 32 (n % 2 ^ 32)) b y py t
single_sound Neg w a b x y px py t = one_single w (λ n. pos 0 -ℤ pos n) a x px (and_parts (is_single a) true t).0
single_sound Add w a b x y px py t = both_single Add w a b x y px py t
single_sound Sub w a b x y px py t = both_single Sub w a b x y px py t
single_sound Mul w a b x y px py t = both_single Mul w a b x y px py t
single_sound Div w a b x y px py t = both_single Div w a b x y px py t
single_sound SignedDiv w a b x y px py t = both_single SignedDiv w a b x y px py t
single_sound Or w a b x y px py t = both_single Or w a b x y px py t
single_sound And w a b x y px py t = both_single And w a b x y px py t
single_sound Xor w a b x y px py t = both_single Xor w a b x y px py t
single_sound Lsh w a b x y px py t = both_single Lsh w a b x y px py t
single_sound Rsh w a b x y px py t = both_single Rsh w a b x y px py t
single_sound Arsh w a b x y px py t = both_single Arsh w a b x y px py t
single_sound Mod w a b x y px py t = both_single Mod w a b x y px py t
single_sound SignedMod w a b x y px py t = both_single SignedMod w a b x y px py t

pub range_sound : (profile : Profile) (op : Op) (w : Width) (a b : Range) (x y : ℕ) → InRange a x → InRange b y → InRange (range_result profile op w a b) (value op w x y)
range_sound profile op w a b x y px py =
    let k = bits w in
    let ca = cut_by_sound profile w a x px in
    let cb = cut_by_sound profile w b y py in
    let l = cut_by profile k a in
    let r = cut_by profile k b in
    cond_both (are_single op l r) _ _ (λ r. InRange r (value op w x y))
    (single_sound op w l r x y ca.0 cb.0)
    (λ _. sound_by k l r (x % 2 ^ k) (y % 2 ^ k) ca.0 cb.0 ca.1 cb.1 (bits_wide w) profile op (bits_least w))

-- a result has the bits of the width
pub value_fits : (op : Op) (w : Width) (x y : ℕ) → value op w x y < 2 ^ 64
value_fits op w x y =
    let k = bits w in
    let le : 2 ^ k ≤ 2 ^ 64 = pow_mono (bits_wide w) in
    omega (arith, wrapped_below k (exact op k (x % 2 ^ k) (y % 2 ^ k)))

-- a range of results is not empty
pub range_ordered : (profile : Profile) (op : Op) (w : Width) (a b : Range) → a.lo ≤ a.hi → b.lo ≤ b.hi → (range_result profile op w a b).lo ≤ (range_result profile op w a b).hi
range_ordered profile op w a b h g =
    let s = range_sound profile op w a b a.lo b.lo (omega arith, h) (omega arith, g) in omega (arith, s.0, s.1)

-- ---- byte swaps

reversed_below : (n a : ℕ) → reversed n a < 256 ^ n
reversed_below zero a = omega arith
reversed_below (suc n) a =
    let h = reversed_below n (a / 256) in
    let m = mod-lt a {m = 256} (omega arith) in
    let le = mul-le (a % 256) (256 ^ n) 255 (256 ^ n) (omega arith) (omega arith) in
    omega arith

powers_positive : (n : ℕ) → 0 < 256 ^ n
powers_positive zero = omega arith
powers_positive (suc n) = let h = powers_positive n in omega arith

swapped_below : (kind : SwapKind) (n : SwapBits) (a : ℕ) → swapped kind n a < 256 ^ byte_count n
swapped_below ToLittle n a = mod-lt a (powers_positive (byte_count n))
swapped_below ToBig n a = reversed_below (byte_count n) a
swapped_below Swap n a = reversed_below (byte_count n) a

bytes_are_bits : (n : SwapBits) → 256 ^ byte_count n ≡ 2 ^ (8 * byte_count n)
bytes_are_bits B16 = refl
bytes_are_bits B32 = refl
bytes_are_bits B64 = refl

bytes_fit : (n : SwapBits) → 2 ^ (8 * byte_count n) ≤ 2 ^ 64
bytes_fit B16 = omega arith
bytes_fit B32 = omega arith
bytes_fit B64 = omega arith

swapped_turned : (kind : SwapKind) (n : SwapBits) (a : Range) (x : ℕ) → InRange a x → InRange (swapped_range First kind n a) (swapped kind n x)
swapped_turned kind n a x p =
    cond_both (is_single a) _ _ (λ r. InRange r (swapped kind n x))
    (λ t. in_single _ _ (ap (swapped kind n) (of_single a x p t)))
    (λ _. in_full (8 * byte_count n) _ (rw (← bytes_are_bits n) (swapped_below kind n x)))

pub swapped_sound : (profile : Profile) (kind : SwapKind) (n : SwapBits) (a : Range) (x : ℕ) → InRange a x → InRange (swapped_range profile kind n a) (swapped kind n x)
swapped_sound First kind n a x p = swapped_turned kind n a x p
swapped_sound Second ToLittle n a x p = rw (bytes_are_bits n) (low_sound (8 * byte_count n) a x p)
swapped_sound Second ToBig n a x p = swapped_turned ToBig n a x p
swapped_sound Second Swap n a x p = swapped_turned Swap n a x p

turned_fits : (kind : SwapKind) (n : SwapBits) (a : Range) → (swapped_range First kind n a).hi < 2 ^ 64
turned_fits kind n a =
    let small : 2 ^ (8 * byte_count n) ≤ 2 ^ 64 = bytes_fit n in
    cond_both (is_single a) (single (swapped kind n a.lo)) (full (8 * byte_count n)) (λ r. r.hi < 2 ^ 64)
    (λ _. omega (arith, swapped_below kind n a.lo, bytes_are_bits n))
    (λ _. omega (arith, pow_pos (8 * byte_count n)))

pub swapped_ordered : (kind : SwapKind) (n : SwapBits) (a : Range) → (swapped_range First kind n a).lo ≤ (swapped_range First kind n a).hi
swapped_ordered kind n a =
    cond_both (is_single a) (single (swapped kind n a.lo)) (full (8 * byte_count n)) (λ r. r.lo ≤ r.hi) (λ _. omega arith) (λ _. omega arith)

pub swapped_fits : (profile : Profile) (kind : SwapKind) (n : SwapBits) (a : Range) → (swapped_range profile kind n a).hi < 2 ^ 64
swapped_fits First kind n a = turned_fits kind n a
swapped_fits Second ToLittle n a = omega (arith, low_range_fits (8 * byte_count n) a, bytes_fit n)
swapped_fits Second ToBig n a = turned_fits ToBig n a
swapped_fits Second Swap n a = turned_fits Swap n a
