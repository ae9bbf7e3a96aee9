use Rattle.std.proofs.Common.{◌≡◌, ℕ, ◌+◌, [], ◌∷◌, ◌++◌, length, refl, sym, ap, ◌∙◌, subst}
use Rattle.std.proofs.lemmas.List.{append-nil}
use Rattle.journal.specs.Blocks.{all_of}
use Rattle.journal.specs.Logs.{Log}
use Rattle.cluster_stamps.specs.declared.view.Told.{Told}
use Rattle.cluster_stamps.specs.declared.view.View.{View}
use Rattle.cluster_stamps.specs.Rule.{drew, pass_of, entries, IsWithin, TellsOf, hand_out_of}
use Rattle.cluster_vnode.specs.Answers.{IsVnodes}
use Rattle.cluster_vnode.specs.Calls.{pass_view}
use Rattle.cluster_vnode.proofs.Calls.{lent, back, length_entries, above_is, lent_is, back_is, within_is, vnodes_more}
use Rattle.cluster_vnode.proofs.HandedOut.{blocks_stand}
use Rattle.cluster_vnode.proofs.locked.tell_hand_out.Goals as goal

-- what is told, of a journal of some length
abbrev said : (vnode at stamp : ℕ) → (c : goal.After-give_back) → Told
said vnode at stamp c = hand_out_of vnode at stamp c.args.handout.now.first (all_of c.args.handout.now.blocks.items)

abbrev call : (c : goal.After-give_back) → Told
call c = said c.id.result c.len-at.result c.draw-stamp.result c

abbrev truly : (c : goal.After-give_back) → Told
truly c = said c.args.vnode.now.vnode (length c.args.vnode.now.entries) c.draw-stamp.result c

was : (c : goal.After-give_back) → c.draw-stamp.new.card.me.0 ≡ lent c.args.pass.now.me.0.drawn c.args.pass.now.me.0.told c.requires.vnode.history c.draw-stamp.result
was c =
    let v = c.requires.vnode in
    lent_is c.args.card.now.me.0 c.args.pass.now.me.0 c.draw-stamp.new.card.me.0 v.history c.args.pass.now.me.0.drawn c.args.pass.now.me.0.told c.draw-stamp.result v.view c.requires.pass
    (ap (λ m. m.0) c.draw-stamp.ensures.drew ∙ ap (λ m. drew m.0 c.draw-stamp.result) c.lend.ensures.card.1)

place : (c : goal.After-give_back) → c.len-at.result ≡ length c.args.vnode.now.entries
place c = c.len-at.ensures.len ∙ ap (λ (l : Log). length l.entries) c.journal.ensures.journal

same : (c : goal.After-give_back) → call c ≡ truly c
same c = ap (λ n. said n c.len-at.result c.draw-stamp.result c) c.id.ensures ∙ ap (λ n. said c.args.vnode.now.vnode n c.draw-stamp.result c) (place c)

is : (c : goal.After-give_back) → c.tell_hand_out.new.card.me.0 ≡ back c.args.pass.now.me.0.drawn c.args.pass.now.me.0.told c.requires.vnode.history (truly c)
is c = back_is _ c.tell_hand_out.new.card.me.0 c.requires.vnode.history c.args.pass.now.me.0.drawn c.args.pass.now.me.0.told c.draw-stamp.result (truly c) (was c) (subst (λ t. TellsOf t c.draw-stamp.new.card.me.0 c.tell_hand_out.new.card.me.0) (same c) c.tell_hand_out.ensures.told.0)

pub tell_hand_out-requires-clause-vnode : goal.tell_hand_out-requires-clause-vnode
tell_hand_out-requires-clause-vnode c =
    let v = c.requires.vnode in
    let w = lent_is c.args.card.now.me.0 c.args.pass.now.me.0 c.draw-stamp.new.card.me.0 v.history c.args.pass.now.me.0.drawn c.args.pass.now.me.0.told c.draw-stamp.result v.view c.requires.pass
    (ap (λ m. m.0) c.draw-stamp.ensures.drew ∙ ap (λ m. drew m.0 c.draw-stamp.result) c.lend.ensures.card.1) in (
      v.history,
      ap (λ (y : View). y.histories) w,
      c.id.ensures ∙ sym v.number_is,
      c.len-at.ensures.len ∙ ap (λ (l : Log). length l.entries) c.journal.ensures.journal ∙ ap length (sym v.journal_is) ∙ length_entries v.history.told,
    )

pub give_back-requires-clause-none : goal.give_back-requires-clause-none
give_back-requires-clause-none c =
    let v = c.requires.vnode in
    let w = lent_is c.args.card.now.me.0 c.args.pass.now.me.0 c.draw-stamp.new.card.me.0 v.history c.args.pass.now.me.0.drawn c.args.pass.now.me.0.told c.draw-stamp.result v.view c.requires.pass
    (ap (λ m. m.0) c.draw-stamp.ensures.drew ∙ ap (λ m. drew m.0 c.draw-stamp.result) c.lend.ensures.card.1) in
    let x = back_is _ c.tell_hand_out.new.card.me.0 v.history c.args.pass.now.me.0.drawn c.args.pass.now.me.0.told c.draw-stamp.result _ w c.tell_hand_out.ensures.told.0 in
    (ap (λ m. m.0) c.lend.ensures.pass.1, ap (λ (y : View). y.owed) x)

pub returns-clause-vnode : goal.returns-clause-vnode
returns-clause-vnode c =
    let v = c.requires.vnode in
    let log = c.args.vnode.now in
    let more = vnodes_more log log c.tell_hand_out.new.card.me.0 v.history c.args.pass.now.me.0.drawn c.args.pass.now.me.0.told (truly c)
    v.number_is refl v.journal_is v.answered (is c) (blocks_stand log.entries c.args.handout.now.first c.args.handout.now.blocks.items c.requires.out) (λ i. record { vnode = log.vnode; entries = sym (append-nil log.entries) i }) in
    subst (λ (y : View). IsVnodes log y) (sym (ap (λ m. m.0) c.give_back.ensures.card.1)) more

pub returns-clause-pass : goal.returns-clause-pass
returns-clause-pass c =
    c.give_back.ensures.pass.1 ∙ ap (λ (y : View). (pass_of y, c.lend.new.pass.me.1)) (is c) ∙ ap (λ l. (pass_view (c.args.pass.now.me.0.drawn + 1) (c.args.pass.now.me.0.told ++ truly c ∷ []), l)) (ap (λ m. m.1) c.lend.ensures.pass.1)

pub returns-clause-told : goal.returns-clause-told
returns-clause-told c =
    let v = c.requires.vnode in
    let ts = c.args.pass.now.me.0.told in
    let w = within_is _ c.tell_hand_out.new.card.me.0 v.history c.args.pass.now.me.0.drawn ts c.draw-stamp.result (call c) (was c) c.tell_hand_out.ensures.told.0 in
    let long = ap length (sym v.journal_is) ∙ length_entries v.history.told in (
      c.args.vnode.now.entries,
      refl,
      c.journal.ensures.legal,
      blocks_stand c.args.vnode.now.entries c.args.handout.now.first c.args.handout.now.blocks.items c.requires.out,
      record {
        within = subst (λ n. IsWithin c.args.vnode.now.vnode n ts) (sym long) (subst (λ m. IsWithin m (entries v.history.told) ts) v.number_is w);
        above = above_is c.args.card.now.me.0 c.args.pass.now.me.0 c.lend.new.card.me.0 v.history c.args.pass.now.me.0.drawn ts c.draw-stamp.result v.view c.requires.pass (ap (λ m. m.0) c.lend.ensures.card.1) c.draw-stamp.ensures.above;
      },
    )
