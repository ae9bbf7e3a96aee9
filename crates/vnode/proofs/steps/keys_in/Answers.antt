use Rattle.std.proofs.Common.{subst, ◌∙◌}
use Rattle.std.specs.List.Sorted.{IsPermutation}
use Rattle.vnode.proofs.steps.keys_in.Goals as goal

pub returns : goal.returns
returns c = record { each = subst (λ keys. IsPermutation keys c.in_ok-keys.keys.items) (c.in_ok-copies.ensures ∙ c.in_ok-unsorted.ensures) c.in_ok-keys.ensures.permutation; sorted = c.in_ok-keys.ensures.sorted }
