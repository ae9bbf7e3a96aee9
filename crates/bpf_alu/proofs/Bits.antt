-- The bits of results and of signed numbers.
use Rattle.std.proofs.Common.{◌≡◌, ℕ, zero, suc, ◌-◌, ◌/◌, ◌%◌, ◌^◌, ◌<◌, ◌≤◌, arith, refl, sym, ap, ◌∙◌}
use Rattle.std.proofs.Math.Nat.{div-le_self, mod-le, le_trans}
use Rattle.std.proofs.Math.IntN.{*ℤ_comm, zero-*ℤ, +ℤ_idl}
use Rattle.std.proofs.lemmas.Bool.{cond_both, cond-true, cond-false, ltb-true, ltb-false, lt-ltb, ne_eqb, eq-eqb}
use Rattle.std.specs.Prelude.{bit_or, bit_xor, ℤ, pos, negsuc, ltb, eqb, int_div, int_rem, neg_ℤ, unsigned_abs, ◌+ℤ◌, ◌-ℤ◌, ◌*ℤ◌}
use Rattle.std.proofs.lemmas.Nat.{or_lt, xor_lt}
use Rattle.std.proofs.lemmas.Int.{ints, quot-rem, of_z-to_z, to_z-of_z}
use mir.Val.{SFits}
use Rattle.std.specs.Int.{w64, cast_unsigned, cast_signed}
use Rattle.bpf_alu.specs.Value.{bits, wrapped, signed, signed_quotient, signed_remainder}
use Rattle.bpf_alu.specs.declared.Width.{Width}
use Rattle.bpf_alu.specs.declared.Width.TheVariants.{W32, W64}

pub below_64 : (w : Width) (a : ℕ) → a < 2 ^ bits w → a < 2 ^ 64
below_64 W32 a h = omega arith
below_64 W64 a h = h

pub or-kept : (w : Width) (a b : ℕ) → a < 2 ^ bits w → b < 2 ^ bits w → bit_or a b % 2 ^ 64 ≡ bit_or a b
or-kept w a b ha hb = let h = or_lt 64 a b (below_64 w a ha) (below_64 w b hb) in omega arith

pub xor-kept : (w : Width) (a b : ℕ) → a < 2 ^ bits w → b < 2 ^ bits w → bit_xor a b % 2 ^ 64 ≡ bit_xor a b
xor-kept w a b ha hb = let h = xor_lt 64 a b (below_64 w a ha) (below_64 w b hb) in omega arith

abs-neg : (n : ℕ) → unsigned_abs (neg_ℤ (pos n)) ≡ n
abs-neg zero = refl
abs-neg (suc n) = refl

-- a quotient is no greater than its dividend
quotient-le : (x y : ℤ) → unsigned_abs (int_div x y) ≤ unsigned_abs x
quotient-le (pos a) (pos b) = div-le_self a b
quotient-le (pos a) (negsuc b) = rw (abs-neg (a / suc b)) (div-le_self a (suc b))
quotient-le (negsuc a) (pos b) = rw (abs-neg (suc a / b)) (div-le_self (suc a) b)
quotient-le (negsuc a) (negsuc b) = div-le_self (suc a) (suc b)

-- a signed number of the width lies within half of 2 ^ 64 on either side
pub signed-abs : (w : Width) (a : ℕ) → a < 2 ^ bits w → unsigned_abs (signed (bits w) a) ≤ 2 ^ 63
signed-abs W32 a h =
    cond_both (ltb a (2 ^ 31)) (pos a) (pos a -ℤ pos (2 ^ 32)) (λ z. unsigned_abs z ≤ 2 ^ 63)
    (λ e. omega arith)
    (λ e. rw (cond-true (ltb a (2 ^ 32)) (negsuc (2 ^ 32 - suc a)) (pos (a - 2 ^ 32)) (lt-ltb a (2 ^ 32) h)) (omega arith))
signed-abs W64 a h =
    cond_both (ltb a (2 ^ 63)) (pos a) (pos a -ℤ pos (2 ^ 64)) (λ z. unsigned_abs z ≤ 2 ^ 63)
    (λ e. omega (arith, ltb-true a (2 ^ 63) e))
    (λ e. rw (cond-true (ltb a (2 ^ 64)) (negsuc (2 ^ 64 - suc a)) (pos (a - 2 ^ 64)) (lt-ltb a (2 ^ 64) h)) (omega (arith, ltb-false a (2 ^ 63) e)))

-- the bits of a number within that range are what 64 bits keep of it
pub cast-wrapped : (z : ℤ) → unsigned_abs z ≤ 2 ^ 63 → cast_unsigned w64 z ≡ wrapped 64 z
cast-wrapped (pos n) h = omega arith
cast-wrapped (negsuc n) h = omega arith

cast-below : (z : ℤ) → unsigned_abs z ≤ 2 ^ 63 → cast_unsigned w64 z < 2 ^ 64
cast-below (pos n) h = omega arith
cast-below (negsuc n) h = omega arith

-- what the division of machine words leaves is the quotient's bits, also for the least number by -1
pub divided : (w : Width) (a b : ℕ) → a < 2 ^ bits w → (b ≡ 0 → ⊥) → cast_unsigned w64 (cast_signed w64 (cast_unsigned w64 (int_div (signed (bits w) a) (signed (bits w) b)))) ≡ wrapped 64 (signed_quotient (bits w) a b)
divided w a b ha nonzero =
    let z : ℤ = int_div (signed (bits w) a) (signed (bits w) b) in
    let small : unsigned_abs z ≤ 2 ^ 63 = le_trans (quotient-le (signed (bits w) a) (signed (bits w) b)) (signed-abs w a ha) in
    of_z-to_z w64 (cast_unsigned w64 z) (cast-below z small)
    ∙ cast-wrapped z small
    ∙ ap (wrapped 64) (sym (cond-false (eqb b 0) (pos 0) z (ne_eqb b 0 nonzero)))

rest : (x y q r : ℤ) → q *ℤ y +ℤ r ≡ x → r ≡ x -ℤ y *ℤ q
rest x y q r e = let f : y *ℤ q ≡ q *ℤ y = *ℤ_comm y q in omega (arith, ints)

remainder-le : (x y : ℤ) → unsigned_abs (int_rem x y) ≤ unsigned_abs x
remainder-le (pos a) y = mod-le a (unsigned_abs y)
remainder-le (negsuc a) y = rw (abs-neg (suc a % unsigned_abs y)) (mod-le (suc a) (unsigned_abs y))

-- what the remainder of machine words leaves is the remainder's bits
pub remained : (w : Width) (a b : ℕ) → a < 2 ^ bits w → (b ≡ 0 → ⊥) → cast_unsigned w64 (int_rem (signed (bits w) a) (signed (bits w) b)) ≡ wrapped 64 (signed_remainder (bits w) a b)
remained w a b ha nonzero =
    let x : ℤ = signed (bits w) a in
    let y : ℤ = signed (bits w) b in
    cast-wrapped (int_rem x y) (le_trans (remainder-le x y) (signed-abs w a ha))
    ∙ ap (wrapped 64) (rest x y (int_div x y) (int_rem x y) (quot-rem x y)
    ∙ ap (λ q. x -ℤ y *ℤ q) (sym (cond-false (eqb b 0) (pos 0) (int_div x y) (ne_eqb b 0 nonzero))))

-- modulo zero leaves the dividend
pub whole : (w : Width) (a b : ℕ) → a < 2 ^ bits w → b ≡ 0 → cast_unsigned w64 (signed (bits w) a) ≡ wrapped 64 (signed_remainder (bits w) a b)
whole w a b ha zero_is =
    let x : ℤ = signed (bits w) a in
    let y : ℤ = signed (bits w) b in
    cast-wrapped x (signed-abs w a ha)
    ∙ ap (wrapped 64) (rest x y (pos 0) x (ap (λ z. z +ℤ x) (zero-*ℤ y) ∙ +ℤ_idl x)
    ∙ ap (λ q. x -ℤ y *ℤ q) (sym (cond-true (eqb b 0) (pos 0) (int_div x y) (eq-eqb b 0 zero_is))))

-- the same three, as calls on machine words leave them
pub divided_word : (w : Width) (a b : ℕ) (x y q : ℤ) (r : ℕ) → a < 2 ^ bits w → (b ≡ 0 → ⊥) → SFits w64 x → SFits w64 y → SFits w64 q → x ≡ signed (bits w) a → y ≡ signed (bits w) b → q ≡ cast_signed w64 (cast_unsigned w64 (int_div (cast_signed w64 (cast_unsigned w64 x)) (cast_signed w64 (cast_unsigned w64 y)))) → r ≡ cast_unsigned w64 (cast_signed w64 (cast_unsigned w64 q)) → r ≡ wrapped 64 (signed_quotient (bits w) a b)
divided_word w a b x y q r ha nonzero fx fy fq ex ey eq er =
    er
    ∙ ap (cast_unsigned w64) (to_z-of_z w64 q fq ∙ eq)
    ∙ ap (λ z. cast_unsigned w64 (cast_signed w64 (cast_unsigned w64 (int_div z (cast_signed w64 (cast_unsigned w64 y)))))) (to_z-of_z w64 x fx ∙ ex)
    ∙ ap (λ z. cast_unsigned w64 (cast_signed w64 (cast_unsigned w64 (int_div (signed (bits w) a) z)))) (to_z-of_z w64 y fy ∙ ey)
    ∙ divided w a b ha nonzero

pub remained_word : (w : Width) (a b : ℕ) (x y q : ℤ) (r : ℕ) → a < 2 ^ bits w → (b ≡ 0 → ⊥) → SFits w64 x → SFits w64 y → SFits w64 q → x ≡ signed (bits w) a → y ≡ signed (bits w) b → q ≡ int_rem (cast_signed w64 (cast_unsigned w64 x)) (cast_signed w64 (cast_unsigned w64 y)) → r ≡ cast_unsigned w64 (cast_signed w64 (cast_unsigned w64 q)) → r ≡ wrapped 64 (signed_remainder (bits w) a b)
remained_word w a b x y q r ha nonzero fx fy fq ex ey eq er =
    er
    ∙ ap (cast_unsigned w64) (to_z-of_z w64 q fq ∙ eq)
    ∙ ap (λ z. cast_unsigned w64 (int_rem z (cast_signed w64 (cast_unsigned w64 y)))) (to_z-of_z w64 x fx ∙ ex)
    ∙ ap (λ z. cast_unsigned w64 (int_rem (signed (bits w) a) z)) (to_z-of_z w64 y fy ∙ ey)
    ∙ remained w a b ha nonzero

pub whole_word : (w : Width) (a b : ℕ) (x : ℤ) (r : ℕ) → a < 2 ^ bits w → b ≡ 0 → SFits w64 x → x ≡ signed (bits w) a → r ≡ cast_unsigned w64 (cast_signed w64 (cast_unsigned w64 x)) → r ≡ wrapped 64 (signed_remainder (bits w) a b)
whole_word w a b x r ha zero_is fx ex er = er ∙ ap (cast_unsigned w64) (to_z-of_z w64 x fx ∙ ex) ∙ whole w a b ha zero_is
