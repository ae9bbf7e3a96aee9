use Rattle.std.proofs.Common.{◌≡◌, ℤ, Bool, true, false, ◌&&◌, ap, ◌∙◌, arith, to_z, of_z, w64}
use Rattle.std.specs.Prelude.{◌≤ℤ◌, ◌<ℤ◌, ◌+ℤ◌, int_le}
use Rattle.std.proofs.lemmas.Int.{ints}
use Rattle.bpf_verifier.proofs.windows.lies_inside.Goals as goal

is_le : (a b : ℤ) → a ≤ℤ b → int_le a b ≡ true
is_le a b h = grind (arith, ints)

is_above : (a b : ℤ) → b <ℤ a → int_le a b ≡ false
is_above a b h = grind (arith, ints)

same_le : (a a' b b' : ℤ) → a ≡ a' → b ≡ b' → int_le a b ≡ int_le a' b'
same_le a a' b b' p q = ap (λ z. int_le z b) p ∙ ap (int_le a') q

second : (t u v : Bool) → t ≡ true → u ≡ v → u ≡ (t && v)
second true u v h e = e
second false u v h e = cc

first : (t u v : Bool) → t ≡ false → u ≡ false → u ≡ (t && v)
first true u v h e = cc
first false u v h e = e

pub returns-then-first-lo : goal.returns-then-first-lo
returns-then-first-lo c =
    let low = is_le c.args.first (c.args.lo +ℤ c.args.offset) (omega (arith, ints)) in
    let sum : to_z w64 (of_z w64 (to_z w64 (of_z w64 (to_z w64 (of_z w64 c.args.hi) +ℤ to_z w64 (of_z w64 c.from-offset.result))) +ℤ to_z w64 (of_z w64 c.args.size))) ≡ ((c.args.hi +ℤ c.args.offset) +ℤ c.args.size) = omega (arith, ints) in
    let end : to_z w64 (of_z w64 c.args.end) ≡ c.args.end = omega (arith, ints) in
    second _ _ _ low (same_le _ _ _ _ sum end)

pub returns-else-first-lo : goal.returns-else-first-lo
returns-else-first-lo c =
    let low = is_above c.args.first (c.args.lo +ℤ c.args.offset) (omega (arith, ints)) in
    let sum : to_z w64 (of_z w64 (to_z w64 (of_z w64 c.args.lo) +ℤ to_z w64 (of_z w64 c.from-offset.result))) ≡ (c.args.lo +ℤ c.args.offset) = omega (arith, ints) in
    let at : to_z w64 (of_z w64 c.args.first) ≡ c.args.first = omega (arith, ints) in
    first _ _ _ low (same_le _ _ _ _ at sum ∙ low)
