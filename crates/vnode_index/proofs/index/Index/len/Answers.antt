use Rattle.std.proofs.Common.{ap, length, sym, ◌∙◌}
use Rattle.vnode_index.specs.Slots.{Indexed}
use Rattle.vnode_index.proofs.Hashes.{length_hashes}
use Rattle.vnode_index.proofs.index.Index.len.Goals as goal

pub returns : goal.returns
returns c = sym (length_hashes c.self.inside.slots.items c.self.inside.len) ∙ ap (λ (seen : Indexed). length seen.hashes) c.self.view_is
