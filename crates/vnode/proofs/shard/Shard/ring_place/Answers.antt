use Rattle.std.proofs.Common.{◌∙◌, ap}
use Rattle.std.specs.Prelude.{slice_get}
use Rattle.std.proofs.lemmas.Option.{IfSome_then}
use Rattle.vnode.specs.Shards.{Shard}
use Rattle.vnode.proofs.Entries.{zip-key}
use Rattle.vnode.proofs.shard.Shard.ring_place.Goals as goal

pub returns : goal.returns
returns c =
    IfSome_then c.get.result c.get.ensures (λ told there k v entry.
    c.self.invariant.1.each c.args.i told k there (zip-key c.self.inside.keys.keys c.self.inside.states.states c.args.i k v (ap (λ (s : Shard). slice_get s.entries c.args.i) c.self.view_is ∙ entry)))
