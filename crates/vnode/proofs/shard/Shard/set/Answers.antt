use Rattle.std.proofs.Common.{◌∙◌, ◌<◌, ap, sym, subst, arith, length}
use Rattle.std.specs.Prelude.{slice_get, slice_set}
use Rattle.std.specs.List.{zip}
use Rattle.vnode.specs.Shards.{Shard}
use Rattle.vnode.proofs.Entries.{length-entries, set_entries, unique_entries, zip-set}
use Rattle.vnode.proofs.shard.Shard.set.Goals as goal

pub set-requires : goal.set-requires
set-requires c =
    let within = subst (λ (s : Shard). c.args.i < length s.entries) (sym c.self.view_is) c.requires in
    let count = length-entries c.self.inside.keys.keys c.self.inside.states.states c.self.invariant.0.each_stated in
    let stated = c.self.invariant.0.each_stated in omega (arith, within, count, stated)

pub invariant_of-self : goal.invariant_of-self
invariant_of-self c = (set_entries c.self.inside.index.hashes c.self.inside.keys.keys c.self.inside.states.states c.set.new.self.states c.args.i c.args.state c.set.ensures c.self.invariant.0, c.self.invariant.1)

pub returns-clause-entries : goal.returns-clause-entries
returns-clause-entries c = λ k v there.
    ap (zip c.self.inside.keys.keys) c.set.ensures
    ∙ zip-set c.self.inside.keys.keys c.self.inside.states.states c.args.i k v c.args.state (ap (λ (s : Shard). slice_get s.entries c.args.i) c.self.view_is ∙ there)
    ∙ ap (λ (s : Shard). slice_set s.entries c.args.i (k, c.args.state)) c.self.view_is

pub returns-clause-unique : goal.returns-clause-unique
returns-clause-unique c = unique_entries c.self.inside.index.hashes c.self.inside.keys.keys c.set.new.self.states (invariant_of-self c).0
