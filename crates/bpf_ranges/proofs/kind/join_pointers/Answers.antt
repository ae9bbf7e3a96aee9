use Rattle.std.proofs.Common.{◌≡◌, true, refl, sym, subst, ◌∙◌, arith, rules}
use denote.Enum.Bare.{sameb}
use Rattle.bpf_semantics.specs.contracts.Region.{the_type}
use Rattle.bpf_semantics.specs.declared.Region.{Region}
use Rattle.bpf_semantics.specs.declared.Region.TheVariants.{Stack, Input, Output}
use Rattle.bpf_ranges.specs.Transfer.{same_region}
use Rattle.std.proofs.lemmas.Int.{ints, clamps}
use Rattle.bpf_ranges.specs.Kinds.{IsKind}
use Rattle.bpf_ranges.proofs.kind.join_pointers.Goals as goal

pub returns-then-eq-clause-kind : goal.returns-then-eq-clause-kind
returns-then-eq-clause-kind c = λ ka kb. subst IsKind (sym c.least_pointer.ensures) (omega (arith, ints, clamps), omega (arith, ints, clamps), omega (arith, ints, clamps))

alike : (r s : Region) → sameb the_type r s ≡ same_region r s
alike Stack Stack = refl
alike Stack Input = refl
alike Stack Output = refl
alike Input Stack = refl
alike Input Input = refl
alike Input Output = refl
alike Output Stack = refl
alike Output Input = refl
alike Output Output = refl

pub returns-then-eq-clause-table : goal.returns-then-eq-clause-table
returns-then-eq-clause-table c =
    let same : same_region c.args.region c.args.other ≡ true = sym (c.if-eq.ensures ∙ alike c.args.region c.args.other) in
    rw same (search rules)
