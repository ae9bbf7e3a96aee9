use Rattle.std.proofs.Common.{◌≡◌, ◌∙◌, ap, sym}
use Rattle.key_state.specs.declared.content.Key.{Key}
use Rattle.std.specs.Bool.{Decides}
use Rattle.std.proofs.lemmas.Slice.Eq.{slice_eq-Decides}
use Rattle.vnode.specs.Blocks.{room_in}
use Rattle.vnode.specs.Names.{Named, keys_in}
use Rattle.vnode.specs.Shards.{key_eq}
use Rattle.vnode.proofs.Blocks.{items_swapped}
use Rattle.vnode.proofs.Keyed.{key_laws, key_one}
use Rattle.vnode.proofs.key_blocks.KeyBlocks.share.Goals as goal

keys_decide : (a b : Key) → Decides (key_eq a b) (a ≡ b)
keys_decide a b = (key_one a b, λ same. ap (key_eq a) (sym same) ∙ key_laws.refl a)

pub returns-then-eq : goal.returns-then-eq
returns-then-eq c =
    let item = c.in-Some.ensures.item in
    let block = c.in-Some.block.now in
    let equal = (slice_eq-Decides keys_decide _ _ _ c.eq.ensures).0 c.if-eq.true in
    let own = c.as_slice.ensures ∙ c.deref.ensures in
    let others = c.as_slice-in-Some.ensures ∙ c.deref-in-Some.ensures in
    let same : keys_in c.args.other.keys ≡ keys_in block = sym others ∙ sym equal ∙ own in
    ap (λ keys. let n : Named = record { keys = keys; room = room_in c.self.inside.last } in n)
    (items_swapped keys_in c.self.inside.full.items c.self.inside.last.items c.args.number block c.args.other.keys item.3.0 item.1 same)
    ∙ c.self.view_is
