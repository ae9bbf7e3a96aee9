-- Bytes that differ in no bit, and lists of them.
use Rattle.std.proofs.Common.{◌≡◌, ℕ, suc, ◌+◌, ◌<◌, List, [], ◌∷◌, ◌++◌, length, take, get_or, ap, sym, ◌∙◌, arith, bit_xor}
use Rattle.std.specs.Int.RustNames.{bit_or}
use Rattle.std.specs.Int.Bits.{xor_add_and, xor_self}
use Rattle.std.proofs.lemmas.Nat.{and_le_l, and_le_r, le_or_l, le_or_r}
use Rattle.std.proofs.Math.Seq.{take-suc}

pub xor_none : (a b : ℕ) → bit_xor a b ≡ 0 → a ≡ b
xor_none a b none =
    let sum = xor_add_and a b in
    let left = and_le_l a b in
    let right = and_le_r a b in
    omega arith

pub none_differing : (before a b : ℕ) → bit_or before (bit_xor a b) ≡ 0 → (before ≡ 0) × (a ≡ b)
none_differing before a b none =
    let left = le_or_l before (bit_xor a b) in
    let right = le_or_r before (bit_xor a b) in
    (omega arith, xor_none a b (omega arith))

pub still_none : (before a b : ℕ) → before ≡ 0 → a ≡ b → bit_or before (bit_xor a b) ≡ 0
still_none before a b none same = ap (λ n. bit_or n (bit_xor a b)) none ∙ ap (λ n. bit_xor n b) same ∙ xor_self b

-- one more of both lists is the same
pub same_further : (one other : List ℕ) (i : ℕ) → i < length one → i < length other → take i one ≡ take i other → get_or one i 0 ≡ get_or other i 0 → take (i + 1) one ≡ take (i + 1) other
same_further one other i lt less front here =
    let next : i + 1 ≡ suc i = omega arith in
    ap (λ n. take n one) next ∙ take-suc one i 0 lt ∙ ap (λ (xs : List ℕ). xs ++ (get_or one i 0 ∷ [])) front ∙ ap (λ x. take i other ++ (x ∷ [])) here ∙ sym (take-suc other i 0 less) ∙ ap (λ n. take n other) (sym next)
