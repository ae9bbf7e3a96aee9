-- A pair of which a condition holds is still in the ranges that are left, by the second profile.
use Rattle.std.proofs.Common.{◌≡◌, ℕ, pos, ◌-◌, ◌^◌, ◌<◌, ◌≤◌, Bool, true, cond, eqb, ltb, sym, refl, ◌∙◌, arith, Option, Some, None}
use Rattle.std.specs.Prelude.{int_le, int_lt, not, ◌-ℤ◌, ◌≢◌}
use Rattle.std.proofs.lemmas.Bool.Decides.{nat_tests}
use Rattle.std.proofs.lemmas.Int.{ints}
use Rattle.std.proofs.lemmas.Bool.{cond_both, ltb-true, leb-true, ltb-false, eqb-true, lt-ltb}
use Rattle.bpf_alu.specs.declared.Width.{Width}
use Rattle.bpf_alu.specs.declared.Cond.{Cond}
use Rattle.bpf_alu.specs.declared.Cond.TheVariants.{Equal, NotEqual, Greater, GreaterEqual, Less, LessEqual, AnySet, SignedGreater, SignedGreaterEqual, SignedLess, SignedLessEqual}
use Rattle.bpf_alu.specs.Value.{bits, signed}
use Rattle.bpf_ranges.specs.declared.range.Range.{Range}
use Rattle.bpf_ranges.specs.Numbers.{InRange, IsRange, is_single}
use Rattle.bpf_ranges.specs.Comparisons.{left_of, narrowed, without, apart, low_half, high_half, either_left, left_if, wants_greater, by_halves, narrowed_more}
use Rattle.bpf_ranges.proofs.Narrowed.{Says, IsLeft, IsFit, Plain, left_fits, narrowed_fits, single_is, left_sound, above_sound, at_least_sound, common_sound, turned, narrowed_sound, is_signed_lt, is_signed_le}

either_first : (o p : Option (Range × Range)) (x y : ℕ) → IsLeft x y o → IsLeft x y (either_left o p)
either_first None p x y h = absurd h
either_first (Some o) None x y h = h
either_first (Some o) (Some p) x y h = ((omega arith, omega arith), (omega arith, omega arith))

either_second : (o p : Option (Range × Range)) (x y : ℕ) → IsLeft x y p → IsLeft x y (either_left o p)
either_second None p x y h = h
either_second (Some o) None x y h = absurd h
either_second (Some o) (Some p) x y h = ((omega arith, omega arith), (omega arith, omega arith))

without_sound : (n : ℕ) (r : Range) (x : ℕ) → InRange r x → x ≢ n → InRange (without n r) x
without_sound n r x p h =
    cond_both (eqb n r.lo) _ _ (λ s. InRange s x)
    (λ t. let e = eqb-true n r.lo t in
    cond_both (is_single r) _ _ (λ s. InRange s x)
    (λ s. let one = eqb-true r.lo r.hi s in absurd (h (omega arith)))
    (λ _. (omega arith, omega arith)))
    (λ _. cond_both (eqb n r.hi) _ _ (λ s. InRange s x) (λ t. let e = eqb-true n r.hi t in (omega arith, omega arith)) (λ _. p))

apart_sound : (a b : Range) (x y : ℕ) → InRange a x → InRange b y → x ≢ y → IsLeft x y (apart a b)
apart_sound a b x y p q h =
    left_sound (cond (is_single b) (without b.lo a) a) (cond (is_single a) (without a.lo b) b) x y
    (cond_both (is_single b) _ _ (λ s. InRange s x) (λ t. without_sound b.lo a x p (λ e. h (e ∙ single_is b y q t))) (λ _. p))
    (cond_both (is_single a) _ _ (λ s. InRange s y) (λ t. without_sound a.lo b y q (λ e. h (sym (single_is a x p t) ∙ sym e))) (λ _. q))

unlike : (x y : ℕ) → not (eqb x y) ≡ true → x ≢ y
unlike x y t e = grind (arith, nat_tests)

-- numbers of one sign compare as whole numbers do; of two of unlike signs the negative one is less
low_signed : (k x : ℕ) → x < 2 ^ (k - 1) → signed k x ≡ pos x
low_signed k x h = rw (lt-ltb x (2 ^ (k - 1)) h) refl

high_signed : (k x : ℕ) → 2 ^ (k - 1) ≤ x → signed k x ≡ (pos x -ℤ pos (2 ^ k))
high_signed k x h =
    cond_both (ltb x (2 ^ (k - 1))) _ _ (λ z. z ≡ (pos x -ℤ pos (2 ^ k)))
    (λ t. let lt = ltb-true x (2 ^ (k - 1)) t in absurd (omega arith)) (λ _. refl)

high_lt : (k x y : ℕ) → 2 ^ (k - 1) ≤ x → 2 ^ (k - 1) ≤ y → int_lt (signed k x) (signed k y) ≡ true → x < y
high_lt k x y h g t =
    let s : int_lt (pos x -ℤ pos (2 ^ k)) (pos y -ℤ pos (2 ^ k)) ≡ true = rw (high_signed k x h, high_signed k y g) at t in grind (arith, ints)

high_le : (k x y : ℕ) → 2 ^ (k - 1) ≤ x → 2 ^ (k - 1) ≤ y → int_le (signed k x) (signed k y) ≡ true → x ≤ y
high_le k x y h g t =
    let s : int_le (pos x -ℤ pos (2 ^ k)) (pos y -ℤ pos (2 ^ k)) ≡ true = rw (high_signed k x h, high_signed k y g) at t in grind (arith, ints)

not_lt : (x y m : ℕ) → y < m → int_lt (pos x) (pos y -ℤ pos m) ≡ true → 1 ≤ 0
not_lt x y m f t = grind (arith, ints)

not_le : (x y m : ℕ) → y < m → int_le (pos x) (pos y -ℤ pos m) ≡ true → 1 ≤ 0
not_le x y m f t = grind (arith, ints)

no : 1 ≤ 0 → ⊥
no h = omega arith

module _ (k x y : ℕ) (fy : y < 2 ^ k) (low : x < 2 ^ (k - 1)) (high : 2 ^ (k - 1) ≤ y) where
  never_lt : int_lt (signed k x) (signed k y) ≡ true → 1 ≤ 0
  never_lt t =
      let s : int_lt (pos x) (pos y -ℤ pos (2 ^ k)) ≡ true = rw (low_signed k x low, high_signed k y high) at t in not_lt x y (2 ^ k) fy s

  never_le : int_le (signed k x) (signed k y) ≡ true → 1 ≤ 0
  never_le t =
      let s : int_le (pos x) (pos y -ℤ pos (2 ^ k)) ≡ true = rw (low_signed k x low, high_signed k y high) at t in not_le x y (2 ^ k) fy s

-- what a signed comparison says, by the signs of both numbers
record BySigns (c : Cond) (k x y : ℕ) : Type 0 where
  low : x < 2 ^ (k - 1) → y < 2 ^ (k - 1) → Plain c x y
  high : 2 ^ (k - 1) ≤ x → 2 ^ (k - 1) ≤ y → Plain c x y
  first : x < 2 ^ (k - 1) → 2 ^ (k - 1) ≤ y → wants_greater c ≡ true
  second : 2 ^ (k - 1) ≤ x → y < 2 ^ (k - 1) → not (wants_greater c) ≡ true

halves_sound : (k : ℕ) (c : Cond) (a b : Range) (x y : ℕ) → InRange a x → InRange b y → BySigns c k x y → IsLeft x y (by_halves k c a b)
halves_sound k c a b x y p q s =
    let h = 2 ^ (k - 1) in
    let lows = narrowed c (low_half k a) (low_half k b) in
    let highs = narrowed c (high_half k a) (high_half k b) in
    let one = left_if (wants_greater c) (low_half k a) (high_half k b) in
    let two = left_if (not (wants_greater c)) (high_half k a) (low_half k b) in
    cond_both (ltb x h) k k (λ _. IsLeft x y (either_left lows (either_left highs (either_left one two))))
    (λ t. let lx = ltb-true x h t in
    cond_both (ltb y h) k k (λ _. IsLeft x y (either_left lows (either_left highs (either_left one two))))
    (λ u. let ly = ltb-true y h u in
    either_first lows _ x y (narrowed_sound c (low_half k a) (low_half k b) x y (omega arith, omega arith) (omega arith, omega arith) (s.low lx ly)))
    (λ u. let hy = ltb-false y h u in
    either_second lows _ x y (either_second highs _ x y (either_first one two x y (rw (s.first lx hy) (left_sound (low_half k a) (high_half k b) x y (omega arith, omega arith) (omega arith, omega arith)))))))
    (λ t. let hx = ltb-false x h t in
    cond_both (ltb y h) k k (λ _. IsLeft x y (either_left lows (either_left highs (either_left one two))))
    (λ u. let ly = ltb-true y h u in
    either_second lows _ x y (either_second highs _ x y (either_second one two x y (rw (s.second hx ly) (left_sound (high_half k a) (low_half k b) x y (omega arith, omega arith) (omega arith, omega arith))))))
    (λ u. let hy = ltb-false y h u in
    either_second lows _ x y (either_first highs _ x y (narrowed_sound c (high_half k a) (high_half k b) x y (omega arith, omega arith) (omega arith, omega arith) (s.high hx hy)))))

pub more_sound : (c : Cond) (w : Width) (a b : Range) (x y : ℕ) → InRange a x → InRange b y → x < 2 ^ bits w → y < 2 ^ bits w → Says c (bits w) x y → IsLeft x y (narrowed_more (bits w) c a b)
more_sound Equal w a b x y p q fx fy t = common_sound a b x y p q (eqb-true x y t)
more_sound NotEqual w a b x y p q fx fy t = apart_sound a b x y p q (unlike x y t)
more_sound Greater w a b x y p q fx fy t = above_sound a b x y p q (ltb-true y x t)
more_sound GreaterEqual w a b x y p q fx fy t = at_least_sound a b x y p q (leb-true y x t)
more_sound Less w a b x y p q fx fy t = turned _ x y (above_sound b a y x q p (ltb-true x y t))
more_sound LessEqual w a b x y p q fx fy t = turned _ x y (at_least_sound b a y x q p (leb-true x y t))
more_sound AnySet w a b x y p q fx fy t = (p, q)
more_sound SignedGreater w a b x y p q fx fy t =
    let k = bits w in
    halves_sound k SignedGreater a b x y p q (record { low = λ l m. is_signed_lt k y x m l t; high = λ l m. high_lt k y x m l t; first = λ l m. refl; second = λ l m. absurd (no (never_lt k y x fx m l t)) })
more_sound SignedGreaterEqual w a b x y p q fx fy t =
    let k = bits w in
    halves_sound k SignedGreaterEqual a b x y p q (record { low = λ l m. is_signed_le k y x m l t; high = λ l m. high_le k y x m l t; first = λ l m. refl; second = λ l m. absurd (no (never_le k y x fx m l t)) })
more_sound SignedLess w a b x y p q fx fy t =
    let k = bits w in
    halves_sound k SignedLess a b x y p q (record { low = λ l m. is_signed_lt k x y l m t; high = λ l m. high_lt k x y l m t; first = λ l m. absurd (no (never_lt k x y fy l m t)); second = λ l m. refl })
more_sound SignedLessEqual w a b x y p q fx fy t =
    let k = bits w in
    halves_sound k SignedLessEqual a b x y p q (record { low = λ l m. is_signed_le k x y l m t; high = λ l m. high_le k x y l m t; first = λ l m. absurd (no (never_le k x y fy l m t)); second = λ l m. refl })

-- ---- what is left has 64 bits

if_fits : (t : Bool) (a b : Range) → a.hi < 2 ^ 64 → b.hi < 2 ^ 64 → IsFit (left_if t a b)
if_fits t a b f g = cond_both t (left_of a b) None IsFit (λ _. left_fits a b f g) (λ _. tt)

either_fits : (o p : Option (Range × Range)) → IsFit o → IsFit p → IsFit (either_left o p)
either_fits None p f g = g
either_fits (Some o) None f g = f
either_fits (Some o) (Some p) f g = (omega arith, omega arith)

without_fits : (n : ℕ) (r : Range) → IsRange r → (without n r).hi < 2 ^ 64
without_fits n r f =
    let h = f.fits in
    let le = f.ordered in
    cond_both (eqb n r.lo) _ _ (λ (s : Range). s.hi < 2 ^ 64)
    (λ _. cond_both (is_single r) _ _ (λ (s : Range). s.hi < 2 ^ 64) (λ _. omega arith) (λ _. h))
    (λ _. cond_both (eqb n r.hi) _ _ (λ (s : Range). s.hi < 2 ^ 64) (λ t. let e = eqb-true n r.hi t in omega arith) (λ _. h))

apart_fits : (a b : Range) → IsRange a → IsRange b → IsFit (apart a b)
apart_fits a b f g =
    left_fits _ _
    (cond_both (is_single b) _ _ (λ (s : Range). s.hi < 2 ^ 64) (λ _. without_fits b.lo a f) (λ _. f.fits))
    (cond_both (is_single a) _ _ (λ (s : Range). s.hi < 2 ^ 64) (λ _. without_fits a.lo b g) (λ _. g.fits))

halves_fit : (k : ℕ) (c : Cond) (a b : Range) → a.hi < 2 ^ 64 → b.hi < 2 ^ 64 → IsFit (by_halves k c a b)
halves_fit k c a b f g =
    let fa : (low_half k a).hi < 2 ^ 64 = omega arith in
    let fb : (low_half k b).hi < 2 ^ 64 = omega arith in
    either_fits _ _ (narrowed_fits c (low_half k a) (low_half k b) fa fb)
    (either_fits _ _ (narrowed_fits c (high_half k a) (high_half k b) f g)
    (either_fits _ _ (if_fits (wants_greater c) (low_half k a) (high_half k b) fa g) (if_fits (not (wants_greater c)) (high_half k a) (low_half k b) f fb)))

pub more_fits : (k : ℕ) (c : Cond) (a b : Range) → IsRange a → IsRange b → IsFit (narrowed_more k c a b)
more_fits k NotEqual a b f g = apart_fits a b f g
more_fits k Equal a b f g = narrowed_fits Equal a b f.fits g.fits
more_fits k Greater a b f g = narrowed_fits Greater a b f.fits g.fits
more_fits k GreaterEqual a b f g = narrowed_fits GreaterEqual a b f.fits g.fits
more_fits k Less a b f g = narrowed_fits Less a b f.fits g.fits
more_fits k LessEqual a b f g = narrowed_fits LessEqual a b f.fits g.fits
more_fits k AnySet a b f g = (f.fits, g.fits)
more_fits k SignedGreater a b f g = halves_fit k SignedGreater a b f.fits g.fits
more_fits k SignedGreaterEqual a b f g = halves_fit k SignedGreaterEqual a b f.fits g.fits
more_fits k SignedLess a b f g = halves_fit k SignedLess a b f.fits g.fits
more_fits k SignedLessEqual a b f g = halves_fit k SignedLessEqual a b f.fits g.fits
