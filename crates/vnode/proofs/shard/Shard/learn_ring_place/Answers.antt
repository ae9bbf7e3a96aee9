use Rattle.std.proofs.Common.{◌∙◌, ◌<◌, ◌≤◌, ap, sym, subst, length}
use Rattle.std.specs.Prelude.{max, slice_get}
use Rattle.vnode.specs.Shards.{Shard}
use Rattle.vnode.proofs.Entries.{length-entries}
use Rattle.vnode.proofs.Rings.{is_one, told_of}
use Rattle.vnode.proofs.shard.Shard.learn_ring_place.Goals as goal

pub learn-requires-clause-place : goal.learn-requires-clause-place
learn-requires-clause-place c =
    is_one c.self.inside.keys.keys c.self.inside.states.states c.args.i c.args.told
    (subst (λ (s : Shard). c.args.i < length s.entries) (sym c.self.view_is) c.requires.within)
    (λ k v there. c.requires.place k v (ap (λ (s : Shard). slice_get s.entries c.args.i) (sym c.self.view_is) ∙ there))

pub invariant_of-self : goal.invariant_of-self
invariant_of-self c =
    let stated = c.self.invariant.0.each_stated in
    let count = c.len-count.ensures ∙ ap (λ (s : Shard). length s.entries) (sym c.self.view_is) ∙ length-entries c.self.inside.keys.keys c.self.inside.states.states stated in (
      c.self.invariant.0,
      told_of c.self.inside.ring_places c.learn.new.self c.self.inside.keys.keys c.self.inside.states.states c.args.i c.args.told stated c.learn.ensures.told
          (subst (λ n. length c.learn.new.self ≤ max (length c.self.inside.ring_places) n) count c.learn.ensures.count)
          (λ k v there. c.requires.place k v (ap (λ (s : Shard). slice_get s.entries c.args.i) (sym c.self.view_is) ∙ there))
          c.self.invariant.1,
    )
