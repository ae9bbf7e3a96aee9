use Rattle.std.proofs.Common.{Some, ◌<◌, ◌%◌, ◌∙◌, List, get_or, ap, sym, subst, arith, length}
use Rattle.std.specs.Prelude.{slice_get}
use Rattle.key_state.specs.declared.content.Key.{Key}
use Rattle.vnode.specs.Names.{Named, keys_in}
use Rattle.vnode.proofs.Blocks.{get_in_block, get_in_last, within_last}
use Rattle.vnode.proofs.key_blocks.KeyBlocks.get.Goals as goal

pub index-requires : goal.index-requires
index-requires c =
    let beyond = c.in-None.ensures.lookup.3 in
    let len = ap length c.deref.ensures.value in
    let lt = subst (λ (n : Named). c.args.i < length n.keys) (sym c.self.view_is) c.requires in
    let there = within_last keys_in c.self.inside.full.items c.self.inside.last.items c.args.i c.self.invariant (omega (arith, beyond, len)) lt in
    let last = c.self.inside.last.ok.0 in omega (arith, there, last)

pub returns-in-Some : goal.returns-in-Some
returns-in-Some c =
    let lookup = c.in-Some.ensures.lookup in
    ap (λ (n : Named). slice_get n.keys c.args.i) (sym c.self.view_is)
    ∙ get_in_block keys_in c.self.inside.full.items c.deref.result.now c.self.inside.last.items c.args.i c.in-Some.block.now c.index-deref-i.result c.self.invariant c.deref.ensures.value lookup.3.0 lookup.1
    (c.index-deref-i.is ∙ ap (λ (ks : List Key). get_or ks (c.args.i % 128) c.index-deref-i.result) c.deref-in-Some.ensures)
    ∙ ap (λ k. Some k) c.index-deref-i.is

pub returns-in-None : goal.returns-in-None
returns-in-None c =
    let beyond = c.in-None.ensures.lookup.3 in
    let len = ap length c.deref.ensures.value in
    let lt = subst (λ (n : Named). c.args.i < length n.keys) (sym c.self.view_is) c.requires in
    ap (λ (n : Named). slice_get n.keys c.args.i) (sym c.self.view_is)
    ∙ get_in_last keys_in c.self.inside.full.items c.self.inside.last.items c.args.i c.index.result.now c.self.invariant (omega (arith, beyond, len)) lt c.index.ensures
