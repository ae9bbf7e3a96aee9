-- What a comparison leaves of numbers still stands for the pair that was compared.
use Rattle.std.proofs.Common.{◌≡◌, ℕ, ◌*◌, ◌%◌, ◌^◌, ◌<◌, Bool, true, false, eqb, ltb, ap, subst, sym, ◌∙◌, arith, Option, Some, None}
use Rattle.std.specs.Prelude.{not, IsSomeAnd, IfSome, bit_and}
use Rattle.std.specs.Int.{w64, trailing_zeros, bit_at}
use Rattle.std.proofs.lemmas.Nat.{or_lt}
use Rattle.std.proofs.lemmas.Nat.Bits.{and_pow, bit_at-lt}
use Rattle.std.proofs.lemmas.Bool.Decides.{nat_tests}
use Rattle.std.proofs.Math.Nat.{mod-eq_of_lt}
use Rattle.std.proofs.lemmas.Bool.{cond_both, ltb-true, eqb-true, not-false, and_parts}
use Rattle.bpf_alu.specs.declared.Width.{Width}
use Rattle.bpf_alu.specs.declared.Cond.{Cond}
use Rattle.bpf_alu.specs.declared.Cond.TheVariants.{Equal, NotEqual, AnySet}
use Rattle.bpf_alu.specs.Value.{bits, compares, condition}
use Rattle.bpf_ranges.specs.declared.range.Range.{Range}
use Rattle.bpf_ranges.specs.declared.number.Number.{Number}
use Rattle.bpf_ranges.specs.declared.bits.Bits.{Bits}
use Rattle.bpf_semantics.specs.declared.profile.Profile.{Profile}
use Rattle.bpf_semantics.specs.declared.profile.Profile.TheVariants.{First, Second}
use Rattle.bpf_ranges.specs.KnownBits.{HasBits, IsBits, united}
use Rattle.bpf_ranges.specs.Numbers.{IsNumber, IsOf, is_single, tightened}
use Rattle.bpf_ranges.specs.Comparisons.{AreNumbers, holding, are_below, narrowed_more, masked, told_bits, both_left, settled_pair, compared}
use Rattle.bpf_ranges.proofs.KnownBits.{nothing_sound, united_sound, and_or_none, and_or_all}
use Rattle.bpf_ranges.proofs.Settled.{Leaves, nothing_fits, tightened_sound, tightened_is_number}
use Rattle.bpf_ranges.proofs.Narrowed.{IsLeft, IsFit, says, single_is, where_sound, where_ranges}
use Rattle.bpf_ranges.proofs.Halves.{more_sound, more_fits}

-- ---- bits

set_one : (n m : ℕ) → m ≡ 2 ^ trailing_zeros w64 m → 0 < bit_and n m → bit_and n m ≡ m
set_one n m e h =
    let j = trailing_zeros w64 m in
    let is : bit_and n m ≡ bit_at n j * 2 ^ j = ap (bit_and n) e ∙ and_pow n j in
    let less = bit_at-lt n j in
    cond_both (eqb (bit_at n j) 0) j j (λ _. bit_and n m ≡ m)
    (λ t. let none : bit_at n j * 2 ^ j ≡ 0 = ap (λ d. d * 2 ^ j) (eqb-true (bit_at n j) 0 t) ∙ omega arith in absurd (omega arith))
    (λ t. let one : bit_at n j ≡ 1 = grind (arith, nat_tests) in is ∙ ap (λ d. d * 2 ^ j) one ∙ (omega arith ∙ sym e))

masked_sound : (taken : Bool) (m : ℕ) (b : Bits) (n : ℕ) → HasBits b n → not (eqb (bit_and n m) 0) ≡ taken → HasBits (masked taken m b) n
masked_sound false m b n h t = record { zeros = and_or_none n b.zeros m h.zeros (eqb-true (bit_and n m) 0 (not-false (eqb (bit_and n m) 0) t)); ones = h.ones }
masked_sound true m b n h t =
    cond_both (eqb m (2 ^ trailing_zeros w64 m)) _ _ (λ c. HasBits c n)
    (λ s. let some : 0 < bit_and n m = grind (arith, nat_tests) in
    record { zeros = h.zeros; ones = and_or_all n b.ones m h.ones (set_one n m (eqb-true m (2 ^ trailing_zeros w64 m) s) some) })
    (λ _. h)

masked_fits : (taken : Bool) (m : ℕ) (b : Bits) → m < 2 ^ 64 → IsBits b → IsBits (masked taken m b)
masked_fits false m b h f = record { zeros = or_lt 64 b.zeros m f.zeros h; ones = f.ones }
masked_fits true m b h f = cond_both (eqb m (2 ^ trailing_zeros w64 m)) _ _ IsBits (λ _. record { zeros = f.zeros; ones = or_lt 64 b.ones m f.ones h }) (λ _. f)

united_fits : (a b : Bits) → IsBits a → IsBits b → IsBits (united a b)
united_fits a b f g = record { zeros = or_lt 64 a.zeros b.zeros f.zeros g.zeros; ones = or_lt 64 a.ones b.ones f.ones g.ones }

abbrev HaveBits : ℕ → ℕ → Bits × Bits → Type 0
HaveBits x y p = HasBits p.0 x × HasBits p.1 y

told_equal : (a b : Bits) (x y : ℕ) → HasBits a x → HasBits b y → x ≡ y → HaveBits x y (united a b, united a b)
told_equal a b x y p q e = (united_sound a b x p (subst (HasBits b) (sym e) q), united_sound a b y (subst (HasBits a) e p) q)

told_mask : (a b : Number) (x y : ℕ) (taken : Bool) → IsOf a x → IsOf b y → not (eqb (bit_and x y) 0) ≡ taken → HaveBits x y (told_bits AnySet taken a b)
told_mask a b x y taken p q t = (
  cond_both (is_single b.range) _ _ (λ c. HasBits c x)
      (λ s. let e : y ≡ b.range.lo = sym (single_is b.range y q.within s) in
      masked_sound taken b.range.lo a.bits x p.has (subst (λ m. not (eqb (bit_and x m) 0) ≡ taken) e t))
      (λ _. p.has),
  q.has,
)

told_sound : (c : Cond) (k : ℕ) (taken : Bool) (a b : Number) (x y : ℕ) → IsOf a x → IsOf b y → compares c k x y ≡ taken → HaveBits x y (told_bits c taken a b)
told_sound Equal k true a b x y p q t = told_equal a.bits b.bits x y p.has q.has (eqb-true x y t)
told_sound NotEqual k false a b x y p q t = told_equal a.bits b.bits x y p.has q.has (eqb-true x y (not-false (eqb x y) t))
told_sound AnySet k taken a b x y p q t = told_mask a b x y taken p q t
told_sound c k taken a b x y p q t = (p.has, q.has)

abbrev AreBits : Bits × Bits → Type 0
AreBits p = IsBits p.0 × IsBits p.1

told_fit : (c : Cond) (taken : Bool) (a b : Number) → IsNumber a → IsNumber b → AreBits (told_bits c taken a b)
told_fit Equal true a b ka kb = let f = united_fits a.bits b.bits ka.bits kb.bits in (f, f)
told_fit NotEqual false a b ka kb = let f = united_fits a.bits b.bits ka.bits kb.bits in (f, f)
told_fit AnySet taken a b ka kb =
    let h = kb.range.fits in
    let le = kb.range.ordered in
    (cond_both (is_single b.range) _ _ IsBits (λ _. masked_fits taken b.range.lo a.bits (omega arith) ka.bits) (λ _. ka.bits), kb.bits)
told_fit c taken a b ka kb = (ka.bits, kb.bits)

-- ---- numbers that are compared

-- two numbers of which so much is left
abbrev pub LeavesBoth : ℕ → ℕ → Option (Number × Number) → Type 0
LeavesBoth x y o = IsSomeAnd o (λ p. IsOf p.0 x × IsOf p.1 y)

both_sound : (o p : Option Number) (x y : ℕ) → Leaves x o → Leaves y p → LeavesBoth x y (both_left o p)
both_sound None p x y h g = absurd h
both_sound (Some a) None x y h g = absurd g
both_sound (Some a) (Some b) x y h g = (h, g)

pair_sound : (o : Option (Range × Range)) (told : Bits × Bits) (x y : ℕ) → IsFit o → AreBits told → IsLeft x y o → HaveBits x y told → LeavesBoth x y (settled_pair o told)
pair_sound None told x y f b h g = absurd h
pair_sound (Some r) told x y f b h g =
    both_sound (tightened r.0 told.0) (tightened r.1 told.1) x y
    (tightened_sound r.0 told.0 x f.0 b.0 h.0 g.0)
    (tightened_sound r.1 told.1 y f.1 b.1 h.1 g.1)

abbrev AreBoth : Option (Number × Number) → Type 0
AreBoth o = IfSome o AreNumbers

both_numbers : (o p : Option Number) → IfSome o IsNumber → IfSome p IsNumber → AreBoth (both_left o p)
both_numbers None p h g = tt
both_numbers (Some a) None h g = tt
both_numbers (Some a) (Some b) h g = record { first = h; second = g }

pair_numbers : (o : Option (Range × Range)) (told : Bits × Bits) → IsFit o → AreBits told → AreBoth (settled_pair o told)
pair_numbers None told f b = tt
pair_numbers (Some r) told f b = both_numbers _ _ (tightened_is_number r.0 told.0 f.0 b.0) (tightened_is_number r.1 told.1 f.1 b.1)

module _ (c : Cond) (w : Width) (taken : Bool) (a b : Number) (ka : IsNumber a) (kb : IsNumber b) where
  more_left : IsFit (narrowed_more (bits w) (holding c taken) a.range b.range)
  more_left = more_fits (bits w) (holding c taken) a.range b.range ka.range kb.range

  pub compared_sound : (profile : Profile) (x y : ℕ) → IsOf a x → IsOf b y → condition c w x y ≡ taken → LeavesBoth x y (compared profile c w taken a b)
  compared_sound First x y p q t =
      let r = where_sound (holding c taken) w a.range b.range x y p.within q.within (says c (bits w) (x % 2 ^ bits w) (y % 2 ^ bits w) taken t) in
      (record { within = r.0; has = nothing_sound x }, record { within = r.1; has = nothing_sound y })
  compared_sound Second x y p q t =
      let k = bits w in
      cond_both (are_below (2 ^ k) a.range b.range) _ _ (LeavesBoth x y)
      (λ s. let parts = and_parts (ltb a.range.hi (2 ^ k)) (ltb b.range.hi (2 ^ k)) s in
      let fa = ltb-true a.range.hi (2 ^ k) parts.0 in
      let fb = ltb-true b.range.hi (2 ^ k) parts.1 in
      let high = p.within.1 in
      let top = q.within.1 in
      let sx : x < 2 ^ k = omega arith in
      let sy : y < 2 ^ k = omega arith in
      let said : compares c k x y ≡ taken = rw (mod-eq_of_lt sx, mod-eq_of_lt sy) at t in
      pair_sound (narrowed_more k (holding c taken) a.range b.range) (told_bits c taken a b) x y more_left (told_fit c taken a b ka kb)
      (more_sound (holding c taken) w a.range b.range x y p.within q.within sx sy (says c k x y taken said))
      (told_sound c k taken a b x y p q said))
      (λ _. (p, q))

  pub compared_numbers : (profile : Profile) → IfSome (compared profile c w taken a b) AreNumbers
  compared_numbers First =
      let r = where_ranges (holding c taken) w a.range b.range ka.range kb.range in
      record { first = record { range = r.0; bits = nothing_fits }; second = record { range = r.1; bits = nothing_fits } }
  compared_numbers Second =
      cond_both (are_below (2 ^ bits w) a.range b.range) _ _ AreBoth
      (λ _. pair_numbers (narrowed_more (bits w) (holding c taken) a.range b.range) (told_bits c taken a b) more_left (told_fit c taken a b ka kb))
      (λ _. record { first = ka; second = kb })
