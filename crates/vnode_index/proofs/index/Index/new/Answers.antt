use Rattle.std.proofs.Common.{ap, subst, sym, ◌∙◌, List, []}
use Rattle.vnode_index.specs.Slots.{Slot, IsValid}
use Rattle.vnode_index.proofs.Hashes.{hashes_none, none_valid, view}
use Rattle.vnode_index.proofs.index.Index.new.Goals as goal

pub invariant_of-result : goal.invariant_of-result
invariant_of-result c = subst (λ (slots : List Slot). IsValid slots 0) (sym c.new.ensures.items) none_valid

pub returns : goal.returns
returns c = ap (λ (slots : List Slot). view slots 0) c.new.ensures.items ∙ (λ i. record { hashes = hashes_none [] i; slots = 0 })
