use Rattle.std.proofs.Common.{◌≡◌, ◌∙◌, true, get_or, subst, sym, arith}
use Rattle.key_state.specs.State.{State}
use Rattle.vnode.specs.Shards.{IsEntry, Shard, key_eq}
use Rattle.vnode.proofs.Entries.{found_entry}
use Rattle.vnode.proofs.shard.Shard.is_at.Goals as goal

pub is_at-requires : goal.is_at-requires
is_at-requires c =
    let within = c.if-i-len.true in
    let count = c.len.ensures in
    let each = c.self.invariant.0.each_hashed in
    omega (arith, within, count, each)

pub returns-then-i-len : goal.returns-then-i-len
returns-then-i-len c = λ is.
    let within = c.if-i-len.true in
    let count = c.len.ensures in
    let equal : true ≡ key_eq (get_or c.self.inside.keys.keys c.args.i c.args.key.now) c.args.key.now = sym is ∙ c.is_at.ensures in
    subst (λ (s : Shard). (v : State) × IsEntry s c.args.i c.args.key.now v) c.self.view_is
    (found_entry c.self.inside.index.hashes c.self.inside.keys.keys c.self.inside.states.states c.args.i c.args.key.now c.self.invariant.0 (omega (arith, within, count)) equal)
