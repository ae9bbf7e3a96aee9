use Rattle.std.proofs.Common.{◌∙◌, ap, sym, subst, length}
use Rattle.std.specs.List.{IsDistinct}
use Rattle.vnode_index.specs.Slots.{Indexed}
use Rattle.vnode.specs.Shards.{key_eq}
use Rattle.vnode.proofs.Keyed.{none_distinct}
use Rattle.vnode.proofs.Rings.{none_of}
use Rattle.vnode.proofs.shard.Shard.new.Goals as goal

pub invariant_of-result : goal.invariant_of-result
invariant_of-result c = (
  record {
    each_hashed = ap (λ (index : Indexed). length index.hashes) c.new.ensures ∙ sym (ap length c.new-2.ensures);
    each_stated = ap length c.new-3.ensures ∙ sym (ap length c.new-2.ensures);
    once = subst (IsDistinct key_eq) (sym c.new-2.ensures) none_distinct;
  },
  none_of _ _ c.new-4.ensures,
)
