use Rattle.std.proofs.Common.{◌≡◌, ℕ, ◌*◌, ◌%◌, ◌^◌, ◌<◌, ◌≤◌, ap, ◌∙◌, subst, arith}
use Rattle.std.proofs.Math.Nat.{mod-eq_of_lt}
use Rattle.std.proofs.Math.Pow.{pow_mono}
use Rattle.std.proofs.lemmas.Nat.{mul-le}
use Rattle.bpf_ranges.proofs.Ranges.{bits_wide}
use Rattle.bpf_ranges.proofs.arithmetic.wide_left_shift_of.Goals as goal

pub moved_up-requires-clause-fits : goal.moved_up-requires-clause-fits
moved_up-requires-clause-fits c =
    let a = c.args.a in
    let b = c.args.b in
    let wide = bits_wide c.args.width in
    let least : 2 ^ b.lo ≤ 2 ^ b.hi = pow_mono c.requires.right.ordered in
    let most : 2 ^ b.hi ≤ 2 ^ 63 = pow_mono {j = 63} (omega (arith, c.if-b-bits_of.false, c.bits_of.ensures, wide)) in
    let once : 1 * 2 ^ b.hi ≡ 2 ^ b.hi = omega arith in
    let whole : 1 * 2 ^ b.hi % 2 ^ 64 ≡ 2 ^ b.hi = ap (λ (n : ℕ). n % 2 ^ 64) once ∙ mod-eq_of_lt {m = 2 ^ 64} (omega (arith, most)) in
    let fits : a.hi * 2 ^ b.hi < 2 ^ 64 = subst (λ (s : ℕ). a.hi * s < 2 ^ 64) whole c.in-Some.ensures.0 in
    omega (arith, mul-le a.lo (2 ^ b.lo) a.hi (2 ^ b.hi) c.requires.left.ordered least, fits)
