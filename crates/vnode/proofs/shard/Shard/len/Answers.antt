use Rattle.std.proofs.Common.{◌∙◌, ap, sym, length}
use Rattle.vnode.specs.Shards.{Shard}
use Rattle.vnode.proofs.Entries.{length-entries}
use Rattle.vnode.proofs.shard.Shard.len.Goals as goal

pub returns : goal.returns
returns c =
    c.len.ensures ∙ c.self.invariant.0.each_hashed ∙ sym (length-entries c.self.inside.keys.keys c.self.inside.states.states c.self.invariant.0.each_stated) ∙ ap (λ (s : Shard). length s.entries) c.self.view_is
