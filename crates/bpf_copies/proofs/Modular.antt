-- Sums and differences modulo 2 ^ 64.
use Rattle.std.proofs.Common.{◌≡◌, ℕ, pos, ◌+◌, ◌-◌, ◌%◌, ◌^◌, ◌<◌, refl, sym, ap, ◌∙◌, arith}
use Rattle.std.proofs.Math.Nat.{mod-lt, mod-eq_of_lt}
use Rattle.std.specs.Prelude.{◌-ℤ◌, unsigned_abs}
use Rattle.std.proofs.lemmas.Int.{ints, int_rem_euclid_is}
use Rattle.bpf_alu.specs.Value.{wrapped, value}
use Rattle.bpf_alu.specs.declared.Op.TheVariants.{Add, Sub, Mov}
use Rattle.bpf_alu.specs.declared.Width.TheVariants.{W32, W64}

pub swap_added : (x c e : ℕ) → value Add W64 (value Add W64 x c) e ≡ value Add W64 (value Add W64 x e) c
swap_added x c e = omega arith

pub move_added : (x d c : ℕ) → value Add W64 x (value Add W64 d c) ≡ value Add W64 (value Add W64 x d) c
move_added x d c = omega arith

-- a difference modulo 2 ^ 64
less : (x y : ℕ) → value Sub W64 x y ≡ (x % 2 ^ 64 + (2 ^ 64 - y % 2 ^ 64)) % 2 ^ 64
less x y =
    let below : y % 2 ^ 64 < 2 ^ 64 = mod-lt y (omega arith) in
    ap unsigned_abs (int_rem_euclid_is (pos (x % 2 ^ 64) -ℤ pos (y % 2 ^ 64)) (pos (2 ^ 64)) (2 ^ 64) 1 (x % 2 ^ 64 + (2 ^ 64 - y % 2 ^ 64)) (omega arith) refl (omega (arith, ints, below)))

pub swap_taken : (x c e : ℕ) → value Add W64 (value Sub W64 x c) e ≡ value Sub W64 (value Add W64 x e) c
swap_taken x c e = ap (λ n. value Add W64 n e) (less x c) ∙ (let h : value Add W64 ((x % 2 ^ 64 + (2 ^ 64 - c % 2 ^ 64)) % 2 ^ 64) e ≡ (value Add W64 x e % 2 ^ 64 + (2 ^ 64 - c % 2 ^ 64)) % 2 ^ 64 = omega arith in h) ∙ sym (less (value Add W64 x e) c)

pub move_taken : (x d c : ℕ) → value Add W64 x (value Sub W64 d c) ≡ value Sub W64 (value Add W64 x d) c
move_taken x d c = ap (value Add W64 x) (less d c) ∙ (let h : value Add W64 x ((d % 2 ^ 64 + (2 ^ 64 - c % 2 ^ 64)) % 2 ^ 64) ≡ (value Add W64 x d % 2 ^ 64 + (2 ^ 64 - c % 2 ^ 64)) % 2 ^ 64 = omega arith in h) ∙ sym (less (value Add W64 x d) c)

pub taken_back : (x d : ℕ) → x < 2 ^ 64 → value Sub W64 (value Add W64 x d) d ≡ x
taken_back x d h = less (value Add W64 x d) d ∙ (let g : (value Add W64 x d % 2 ^ 64 + (2 ^ 64 - d % 2 ^ 64)) % 2 ^ 64 ≡ x = omega (arith, h) in g)

-- the number that is moved
pub moved : (m n : ℕ) → n < 2 ^ 64 → value Mov W64 m n ≡ n
moved m n lt = ap (λ x. wrapped 64 (pos x)) (mod-eq_of_lt {m = 2 ^ 64} lt) ∙ mod-eq_of_lt {m = 2 ^ 64} lt

-- and one below 2 ^ 32 by a move of 32 bits
pub moved_small : (m n : ℕ) → n < 2 ^ 32 → value Mov W32 m n ≡ n
moved_small m n lt = ap (λ x. wrapped 32 (pos x)) (mod-eq_of_lt {m = 2 ^ 32} lt) ∙ mod-eq_of_lt {m = 2 ^ 32} lt
