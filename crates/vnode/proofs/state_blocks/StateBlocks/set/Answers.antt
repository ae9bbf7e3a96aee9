use Rattle.std.proofs.Common.{◌<◌, ◌%◌, ◌∙◌, ap, refl, sym, subst, arith, length}
use Rattle.std.specs.Prelude.{slice_set}
use Rattle.std.specs.Vec.{with_item}
use Rattle.vnode.specs.Stated.{Stated, states_in}
use Rattle.vnode.proofs.Blocks.{set_in_block, set_in_last, within_last}
use Rattle.vnode.proofs.state_blocks.StateBlocks.set.Goals as goal

pub index_mut-requires-in-None : goal.index_mut-requires-in-None
index_mut-requires-in-None c =
    let lt = subst (λ (s : Stated). c.args.i < length s.states) (sym c.self.view_is) c.requires in
    let there = within_last states_in c.self.inside.full.items c.self.inside.last.items c.args.i c.self.invariant c.in-None.ensures.item.3 lt in
    let last = c.self.inside.last.ok.0 in omega (arith, there, last)

pub returns-in-Some : goal.returns-in-Some
returns-in-Some c =
    let item = c.in-Some.ensures.item in
    let block = c.in-Some.block.now in
    set_in_block states_in c.self.inside.full.items c.self.inside.last.items c.args.i block (with_item block (c.args.i % 128) c.args.state) c.args.state c.self.invariant item.3.0 item.1 refl
    ∙ ap (λ (s : Stated). slice_set s.states c.args.i c.args.state) c.self.view_is

pub returns-in-None : goal.returns-in-None
returns-in-None c =
    let lt = subst (λ (s : Stated). c.args.i < length s.states) (sym c.self.view_is) c.requires in
    set_in_last states_in c.self.inside.full.items c.self.inside.last.items c.args.i c.args.state c.self.invariant c.in-None.ensures.item.3 lt
    ∙ ap (λ (s : Stated). slice_set s.states c.args.i c.args.state) c.self.view_is
