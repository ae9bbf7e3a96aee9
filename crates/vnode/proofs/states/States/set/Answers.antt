use Rattle.std.proofs.Common.{refl}
use Rattle.std.proofs.lemmas.List.Elements.{All-set}
use Rattle.std.proofs.lemmas.Option.{slice_get_within}
use Rattle.vnode.specs.Shards.{IsHashed}
use Rattle.vnode.proofs.Entries.{set_hashed, set_updates}
use Rattle.vnode.proofs.Mapped.{hashed_at, lies_there, lies_within, shows}
use Rattle.vnode.proofs.states.States.set.Goals as goal

pub invariant_of-self : goal.invariant_of-self
invariant_of-self c =
    let states = c.args.self.now in
    let k = c.requires.0 in
    let lies = c.requires.1 in
    let shard = c.index_mut.result.now in
    let there = lies_there states k c.args.found shard lies c.index_mut.ensures.value in
    record {
      hashed = All-set (IsHashed states.seed) states.shards.items c.args.found.shard c.set.new.self
          (set_hashed states.seed shard c.set.new.self c.args.found.place k lies.state c.args.state there (c.set.ensures.entries k lies.state there) c.set.ensures.hashes
          (hashed_at states c.args.found.shard shard (lies_within states k c.args.found shard lies c.index_mut.ensures.value) c.index_mut.ensures.value))
          states.hashed;
    }

pub returns : goal.returns
returns c = λ k lies.
    let states = c.args.self.now in
    let shard = c.index_mut.result.now in
    let there = lies_there states k c.args.found shard lies c.index_mut.ensures.value in
    shows states _ c.args.found.shard shard c.set.new.self refl (lies_within states k c.args.found shard lies c.index_mut.ensures.value) c.index_mut.ensures.value refl k c.args.state lies.home
    (set_updates shard c.set.new.self c.args.found.place k lies.state c.args.state (slice_get_within shard.entries c.args.found.place (k, lies.state) there) there (c.set.ensures.entries k lies.state there) c.set.ensures.unique)
    c.set.ensures.unique
