use Rattle.std.proofs.Common.{◌∙◌, ◌<◌, ap, sym, subst, arith, length}
use Rattle.std.specs.Prelude.{slice_get}
use Rattle.vnode.specs.Shards.{Shard}
use Rattle.vnode.proofs.Entries.{length-entries, zip-get}
use Rattle.vnode.proofs.shard.Shard.entry.Goals as goal

pub get-requires : goal.get-requires
get-requires c =
    subst (λ n. c.args.i < n) (length-entries c.self.inside.keys.keys c.self.inside.states.states c.self.invariant.0.each_stated) (subst (λ (s : Shard). c.args.i < length s.entries) (sym c.self.view_is) c.requires)

pub get-requires-2 : goal.get-requires-2
get-requires-2 c =
    let within = subst (λ (s : Shard). c.args.i < length s.entries) (sym c.self.view_is) c.requires in
    let count = length-entries c.self.inside.keys.keys c.self.inside.states.states c.self.invariant.0.each_stated in
    let stated = c.self.invariant.0.each_stated in omega (arith, within, count, stated)

pub returns : goal.returns
returns c =
    ap (λ (s : Shard). slice_get s.entries c.args.i) (sym c.self.view_is)
    ∙ zip-get c.self.inside.keys.keys c.self.inside.states.states c.args.i c.get.result.now c.get-2.result.now c.get.ensures c.get-2.ensures
