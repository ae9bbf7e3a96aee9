-- A pair of which a condition holds is still in the ranges that are left, by the first profile.
use Rattle.std.proofs.Common.{◌≡◌, ℕ, ℤ, pos, ◌+◌, ◌-◌, ◌%◌, ◌^◌, ◌<◌, ◌≤◌, Bool, true, false, cond, ◌&&◌, eqb, ltb, leb, min, max, ap, arith, Option, Some, None}
use Rattle.std.specs.Prelude.{int_le, int_lt, not, IsSomeAnd, IfSome}
use Rattle.std.specs.Option.{unwrap_or}
use Rattle.std.proofs.lemmas.Int.{ints}
use Rattle.std.proofs.Math.Nat.{mod-eq_of_lt}
use Rattle.std.proofs.lemmas.Bool.{cond_both, ltb-true, leb-true, ltb-false, leb-false, eqb-true, le-leb, lt-ltb, not-false, and_parts}
use Rattle.std.proofs.Math.Pow.{pow_mono}
use Rattle.bpf_alu.specs.declared.Width.{Width}
use Rattle.bpf_alu.specs.declared.Cond.{Cond}
use Rattle.bpf_alu.specs.declared.Cond.TheVariants.{Equal, NotEqual, Greater, GreaterEqual, Less, LessEqual, AnySet, SignedGreater, SignedGreaterEqual, SignedLess, SignedLessEqual}
use Rattle.bpf_alu.specs.Value.{bits, signed, compares}
use Rattle.bpf_ranges.specs.declared.range.Range.{Range}
use Rattle.bpf_ranges.specs.Numbers.{InRange, IsRange, range, is_single}
use Rattle.bpf_ranges.specs.Comparisons.{AreOrdered, negated, left_of, both_common, first_above, first_at_least, exchanged, narrowed, is_signed, compared_below, are_below, ranges_where}

-- what holds on a jump's way: the condition, or the negated one
abbrev pub Says : Cond → ℕ → ℕ → ℕ → Type 0
Says AnySet k x y = Unit {0}
Says c k x y = compares c k x y ≡ true

int_flip : (a b : ℤ) → int_lt a b ≡ false → int_le b a ≡ true
int_flip a b t = grind (arith, ints)

int_flip' : (a b : ℤ) → int_le a b ≡ false → int_lt b a ≡ true
int_flip' a b t = grind (arith, ints)

pub says : (c : Cond) (k x y : ℕ) (taken : Bool) → compares c k x y ≡ taken → Says (cond taken c (negated c)) k x y
says Equal k x y true t = t
says NotEqual k x y true t = t
says Greater k x y true t = t
says GreaterEqual k x y true t = t
says Less k x y true t = t
says LessEqual k x y true t = t
says AnySet k x y true t = tt
says SignedGreater k x y true t = t
says SignedGreaterEqual k x y true t = t
says SignedLess k x y true t = t
says SignedLessEqual k x y true t = t
says Equal k x y false t = ap not t
says NotEqual k x y false t = not-false (eqb x y) t
says Greater k x y false t = le-leb x y (ltb-false y x t)
says GreaterEqual k x y false t = lt-ltb x y (leb-false y x t)
says Less k x y false t = le-leb y x (ltb-false x y t)
says LessEqual k x y false t = lt-ltb y x (leb-false x y t)
says AnySet k x y false t = tt
says SignedGreater k x y false t = int_flip (signed k y) (signed k x) t
says SignedGreaterEqual k x y false t = int_flip' (signed k y) (signed k x) t
says SignedLess k x y false t = int_flip (signed k x) (signed k y) t
says SignedLessEqual k x y false t = int_flip' (signed k x) (signed k y) t

pub single_is : (r : Range) (n : ℕ) → InRange r n → is_single r ≡ true → r.lo ≡ n
single_is r n p t = let one = eqb-true r.lo r.hi t in omega arith

abbrev pub Both : ℕ → ℕ → Range × Range → Type 0
Both x y p = InRange p.0 x × InRange p.1 y

-- a pair is left
abbrev pub IsLeft : ℕ → ℕ → Option (Range × Range) → Type 0
IsLeft x y o = IsSomeAnd o (Both x y)

pub left_sound : (a b : Range) (x y : ℕ) → InRange a x → InRange b y → IsLeft x y (left_of a b)
left_sound a b x y p q =
    let fa : leb a.lo a.hi ≡ true = le-leb a.lo a.hi (omega arith) in
    let fb : leb b.lo b.hi ≡ true = le-leb b.lo b.hi (omega arith) in
    rw (fa, fb) (p, q)

pub above_sound : (a b : Range) (x y : ℕ) → InRange a x → InRange b y → y < x → IsLeft x y (first_above a b)
above_sound a b x y p q h = left_sound (range (max a.lo (b.lo + 1)) a.hi) (range b.lo (min b.hi (a.hi - 1))) x y (omega arith, omega arith) (omega arith, omega arith)

pub at_least_sound : (a b : Range) (x y : ℕ) → InRange a x → InRange b y → y ≤ x → IsLeft x y (first_at_least a b)
at_least_sound a b x y p q h = left_sound (range (max a.lo b.lo) a.hi) (range b.lo (min b.hi a.hi)) x y (omega arith, omega arith) (omega arith, omega arith)

pub common_sound : (a b : Range) (x y : ℕ) → InRange a x → InRange b y → x ≡ y → IsLeft x y (both_common a b)
common_sound a b x y p q h =
    let c = range (max a.lo b.lo) (min a.hi b.hi) in left_sound c c x y (omega arith, omega arith) (omega arith, omega arith)

pub turned : (o : Option (Range × Range)) (x y : ℕ) → IsLeft y x o → IsLeft x y (exchanged o)
turned None x y h = absurd h
turned (Some p) x y h = (h.1, h.0)

-- what two numbers that are compared as whole numbers say
abbrev pub Plain : Cond → ℕ → ℕ → Type 0
Plain Equal x y = x ≡ y
Plain NotEqual x y = Unit {0}
Plain Greater x y = y < x
Plain GreaterEqual x y = y ≤ x
Plain Less x y = x < y
Plain LessEqual x y = x ≤ y
Plain SignedGreater x y = y < x
Plain SignedGreaterEqual x y = y ≤ x
Plain SignedLess x y = x < y
Plain SignedLessEqual x y = x ≤ y
Plain AnySet x y = Unit {0}

pub narrowed_sound : (c : Cond) (a b : Range) (x y : ℕ) → InRange a x → InRange b y → Plain c x y → IsLeft x y (narrowed c a b)
narrowed_sound Equal a b x y p q t = common_sound a b x y p q t
narrowed_sound NotEqual a b x y p q t = (p, q)
narrowed_sound Greater a b x y p q t = above_sound a b x y p q t
narrowed_sound GreaterEqual a b x y p q t = at_least_sound a b x y p q t
narrowed_sound Less a b x y p q t = turned _ x y (above_sound b a y x q p t)
narrowed_sound LessEqual a b x y p q t = turned _ x y (at_least_sound b a y x q p t)
narrowed_sound SignedGreater a b x y p q t = above_sound a b x y p q t
narrowed_sound SignedGreaterEqual a b x y p q t = at_least_sound a b x y p q t
narrowed_sound SignedLess a b x y p q t = turned _ x y (above_sound b a y x q p t)
narrowed_sound SignedLessEqual a b x y p q t = turned _ x y (at_least_sound b a y x q p t)
narrowed_sound AnySet a b x y p q t = (p, q)

pub is_signed_lt : (k x y : ℕ) → x < 2 ^ (k - 1) → y < 2 ^ (k - 1) → int_lt (signed k x) (signed k y) ≡ true → x < y
is_signed_lt k x y fx fy t =
    let t' : int_lt (pos x) (pos y) ≡ true = rw (lt-ltb x _ fx, lt-ltb y _ fy) at t in ltb-true x y t'

pub is_signed_le : (k x y : ℕ) → x < 2 ^ (k - 1) → y < 2 ^ (k - 1) → int_le (signed k x) (signed k y) ≡ true → x ≤ y
is_signed_le k x y fx fy t =
    let t' : int_le (pos x) (pos y) ≡ true = rw (lt-ltb x _ fx, lt-ltb y _ fy) at t in leb-true x y t'

plain_says : (c : Cond) (w : Width) (x y : ℕ) → x < compared_below c w → y < compared_below c w → Says c (bits w) x y → Plain c x y
plain_says Equal w x y fx fy t = eqb-true x y t
plain_says NotEqual w x y fx fy t = tt
plain_says Greater w x y fx fy t = ltb-true y x t
plain_says GreaterEqual w x y fx fy t = leb-true y x t
plain_says Less w x y fx fy t = ltb-true x y t
plain_says LessEqual w x y fx fy t = leb-true x y t
plain_says AnySet w x y fx fy t = tt
plain_says SignedGreater w x y fx fy t = is_signed_lt (bits w) y x fy fx t
plain_says SignedGreaterEqual w x y fx fy t = is_signed_le (bits w) y x fy fx t
plain_says SignedLess w x y fx fy t = is_signed_lt (bits w) x y fx fy t
plain_says SignedLessEqual w x y fx fy t = is_signed_le (bits w) x y fx fy t

-- ---- by the first profile

below_fits : (c : Cond) (w : Width) → compared_below c w ≤ 2 ^ bits w
below_fits c w =
    cond_both (is_signed c) _ _ (λ n. n ≤ 2 ^ bits w) (λ _. pow_mono (omega arith)) (λ _. omega arith)

or_both : (o : Option (Range × Range)) (old : Range × Range) (x y : ℕ) → IsLeft x y o → Both x y (unwrap_or o old)
or_both None old x y h = absurd h
or_both (Some p) old x y h = h

pub where_sound : (c : Cond) (w : Width) (a b : Range) (x y : ℕ) → InRange a x → InRange b y → Says c (bits w) (x % 2 ^ bits w) (y % 2 ^ bits w) → Both x y (ranges_where c w a b)
where_sound c w a b x y p q t =
    cond_both (are_below (compared_below c w) a b) _ _ (Both x y)
    (λ s. let parts = and_parts (ltb a.hi (compared_below c w)) (ltb b.hi (compared_below c w)) s in
    let fa = ltb-true _ _ parts.0 in
    let fb = ltb-true _ _ parts.1 in
    let le = below_fits c w in
    let sx : x < 2 ^ bits w = omega arith in
    let sy : y < 2 ^ bits w = omega arith in
    let said : Says c (bits w) x y = rw (mod-eq_of_lt sx, mod-eq_of_lt sy) at t in
    or_both (narrowed c a b) (a, b) x y (narrowed_sound c a b x y p q (plain_says c w x y (omega arith) (omega arith) said)))
    (λ _. (p, q))

-- ---- what is left has 64 bits, and is not empty

abbrev pub AreFit : Range × Range → Type 0
AreFit p = (p.0.hi < 2 ^ 64) × (p.1.hi < 2 ^ 64)

abbrev pub IsFit : Option (Range × Range) → Type 0
IsFit o = IfSome o AreFit

abbrev IsOrdered : Option (Range × Range) → Type 0
IsOrdered o = IfSome o AreOrdered

pub left_fits : (a b : Range) → a.hi < 2 ^ 64 → b.hi < 2 ^ 64 → IsFit (left_of a b)
left_fits a b f g = cond_both (leb a.lo a.hi && leb b.lo b.hi) (Some (a, b)) None IsFit (λ _. (f, g)) (λ _. tt)

exchanged_fits : (o : Option (Range × Range)) → IsFit o → IsFit (exchanged o)
exchanged_fits None h = tt
exchanged_fits (Some p) h = (h.1, h.0)

module _ (a b : Range) (f : a.hi < 2 ^ 64) (g : b.hi < 2 ^ 64) where
  above_fits : IsFit (first_above a b)
  above_fits = left_fits (range (max a.lo (b.lo + 1)) a.hi) (range b.lo (min b.hi (a.hi - 1))) f (omega arith)

  at_least_fits : IsFit (first_at_least a b)
  at_least_fits = left_fits (range (max a.lo b.lo) a.hi) (range b.lo (min b.hi a.hi)) f (omega arith)

  common_fits : IsFit (both_common a b)
  common_fits = let c = range (max a.lo b.lo) (min a.hi b.hi) in left_fits c c (omega arith) (omega arith)

pub narrowed_fits : (c : Cond) (a b : Range) → a.hi < 2 ^ 64 → b.hi < 2 ^ 64 → IsFit (narrowed c a b)
narrowed_fits Equal a b f g = common_fits a b f g
narrowed_fits Greater a b f g = above_fits a b f g
narrowed_fits GreaterEqual a b f g = at_least_fits a b f g
narrowed_fits Less a b f g = exchanged_fits _ (above_fits b a g f)
narrowed_fits LessEqual a b f g = exchanged_fits _ (at_least_fits b a g f)
narrowed_fits SignedGreater a b f g = above_fits a b f g
narrowed_fits SignedGreaterEqual a b f g = at_least_fits a b f g
narrowed_fits SignedLess a b f g = exchanged_fits _ (above_fits b a g f)
narrowed_fits SignedLessEqual a b f g = exchanged_fits _ (at_least_fits b a g f)
narrowed_fits NotEqual a b f g = (f, g)
narrowed_fits AnySet a b f g = (f, g)

left_ordered : (a b : Range) → IsOrdered (left_of a b)
left_ordered a b =
    cond_both (leb a.lo a.hi && leb b.lo b.hi) (Some (a, b)) None IsOrdered
    (λ t. let parts = and_parts (leb a.lo a.hi) (leb b.lo b.hi) t in record { first = leb-true _ _ parts.0; second = leb-true _ _ parts.1 })
    (λ _. tt)

exchanged_ordered : (o : Option (Range × Range)) → IsOrdered o → IsOrdered (exchanged o)
exchanged_ordered None h = tt
exchanged_ordered (Some p) h = record { first = h.second; second = h.first }

above_ordered : (a b : Range) → IsOrdered (first_above a b)
above_ordered a b = left_ordered (range (max a.lo (b.lo + 1)) a.hi) (range b.lo (min b.hi (a.hi - 1)))

at_least_ordered : (a b : Range) → IsOrdered (first_at_least a b)
at_least_ordered a b = left_ordered (range (max a.lo b.lo) a.hi) (range b.lo (min b.hi a.hi))

narrowed_ordered : (c : Cond) (a b : Range) → AreOrdered (a, b) → IsOrdered (narrowed c a b)
narrowed_ordered Equal a b h = let c = range (max a.lo b.lo) (min a.hi b.hi) in left_ordered c c
narrowed_ordered Greater a b h = above_ordered a b
narrowed_ordered GreaterEqual a b h = at_least_ordered a b
narrowed_ordered Less a b h = exchanged_ordered _ (above_ordered b a)
narrowed_ordered LessEqual a b h = exchanged_ordered _ (at_least_ordered b a)
narrowed_ordered SignedGreater a b h = above_ordered a b
narrowed_ordered SignedGreaterEqual a b h = at_least_ordered a b
narrowed_ordered SignedLess a b h = exchanged_ordered _ (above_ordered b a)
narrowed_ordered SignedLessEqual a b h = exchanged_ordered _ (at_least_ordered b a)
narrowed_ordered NotEqual a b h = h
narrowed_ordered AnySet a b h = h

-- two ranges of 64-bit numbers, not empty
abbrev pub AreRanges : Range × Range → Type 0
AreRanges p = IsRange p.0 × IsRange p.1

left_or : (o : Option (Range × Range)) (old : Range × Range) → IsFit o → IsOrdered o → AreRanges old → AreRanges (unwrap_or o old)
left_or None old f h g = g
left_or (Some p) old f h g = (record { ordered = h.first; fits = f.0 }, record { ordered = h.second; fits = f.1 })

pub where_ranges : (c : Cond) (w : Width) (a b : Range) → IsRange a → IsRange b → AreRanges (ranges_where c w a b)
where_ranges c w a b f g =
    cond_both (are_below (compared_below c w) a b) _ _ AreRanges
    (λ _. left_or (narrowed c a b) (a, b) (narrowed_fits c a b f.fits g.fits) (narrowed_ordered c a b (record { first = f.ordered; second = g.ordered })) (f, g))
    (λ _. (f, g))
