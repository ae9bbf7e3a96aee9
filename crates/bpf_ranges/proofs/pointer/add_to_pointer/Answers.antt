use Rattle.std.proofs.Common.{◌≡◌, ℤ, subst, ◌∙◌, arith, to_z, of_z}
use Rattle.std.specs.Int.{w128}
use Rattle.std.specs.Prelude.{◌+ℤ◌, ◌≤ℤ◌, IfSome, Option}
use Rattle.std.proofs.lemmas.Int.{ints}
use Rattle.bpf_ranges.proofs.Pointers.{same_pointer}
use Rattle.bpf_ranges.proofs.pointer.add_to_pointer.Goals as goal

pub returns-clause-table : goal.returns-clause-table
returns-clause-table c =
    let first : to_z w128 (of_z w128 (to_z w128 (of_z w128 c.from.result) +ℤ to_z w128 (of_z w128 c.from-2.result))) ≡ (c.args.lo +ℤ c.in-Some.low) = omega (arith, ints, c.from.ensures, c.from-2.ensures) in
    let last : to_z w128 (of_z w128 (to_z w128 (of_z w128 c.from-3.result) +ℤ to_z w128 (of_z w128 c.from-4.result))) ≡ (c.args.hi +ℤ c.in-Some.high) = omega (arith, ints, c.from-3.ensures, c.from-4.ensures) in
    rw c.in-Some.is (c.near_pointer.ensures.table ∙ same_pointer c.args.profile c.args.region _ _ _ _ first last)

pub returns-clause-kind : goal.returns-clause-kind
returns-clause-kind c =
    let P : Option (ℤ × ℤ) → Type 0 = λ o. IfSome o (λ d. d.0 ≤ℤ d.1) in
    let h : c.in-Some.low ≤ℤ c.in-Some.high = subst P c.in-Some.is c.requires.ordered in
    let order : c.args.lo ≤ℤ c.args.hi = c.requires.pointer.1 in
    c.near_pointer.ensures.kind (omega (arith, ints, c.from.ensures, c.from-2.ensures, c.from-3.ensures, c.from-4.ensures))
