use Rattle.std.proofs.Common.{◌≡◌, ◌+◌, [], ◌∷◌, ◌++◌, length, sym, ap, ◌∙◌, subst}
use Rattle.journal.specs.Logs.{Log}
use Rattle.cluster_stamps.specs.declared.view.Told.{Told}
use Rattle.cluster_stamps.specs.declared.view.View.{View}
use Rattle.cluster_stamps.specs.Rule.{drew, pass_of, entries, IsWithin, call_of}
use Rattle.cluster_stamps.specs.Answered.{IsOutcome, with_made}
use Rattle.cluster_vnode.specs.Answers.{IsVnodes, IsAnswered}
use Rattle.cluster_vnode.specs.Calls.{pass_view, told_then}
use Rattle.cluster_vnode.proofs.Calls.{lent, back, length_entries, above_is, lent_is, back_is, within_is, vnodes_more, told_more}
use Rattle.cluster_vnode.proofs.locked.ask.Given.{Over}
use Rattle.cluster_vnode.proofs.locked.ask.Goals as goal

abbrev lent_view : (g : Over) (c : goal.After-give_back-2 g) → Type 0
lent_view g c = c.draw-stamp.new.card.me.0 ≡ lent c.args.pass.now.me.0.drawn c.args.pass.now.me.0.told c.requires.vnode.history c.draw-stamp.result

abbrev call : (g : Over) (c : goal.After-give_back-2 g) → Told
call g c = call_of c.id.result c.len-at.result c.draw-stamp.result g.Q.Asking.request c.answer-outcome.result

was : (g : Over) (c : goal.After-give_back-2 g) → lent_view g c
was g c =
    let v = c.requires.vnode in
    lent_is c.args.card.now.me.0 c.args.pass.now.me.0 c.draw-stamp.new.card.me.0 v.history c.args.pass.now.me.0.drawn c.args.pass.now.me.0.told c.draw-stamp.result v.view c.requires.pass
    (ap (λ m. m.0) c.draw-stamp.ensures.drew ∙ ap (λ m. drew m.0 c.draw-stamp.result) c.lend.ensures.card.1)

number : (g : Over) (c : goal.After-give_back-2 g) → c.id.result ≡ c.args.vnode.now.vnode
number g c = c.id.ensures ∙ ap (λ (l : Log). l.vnode) c.answer-outcome.ensures.log

place : (g : Over) (c : goal.After-give_back-2 g) → c.len-at.result ≡ length c.args.vnode.now.entries
place g c = c.len-at.ensures.len ∙ ap (λ (l : Log). length l.entries) c.journal.ensures.journal

is : (g : Over) (c : goal.After-give_back-2 g) → c.tell.new.card.me.0 ≡ back c.args.pass.now.me.0.drawn c.args.pass.now.me.0.told c.requires.vnode.history (call g c)
is g c = back_is _ c.tell.new.card.me.0 c.requires.vnode.history c.args.pass.now.me.0.drawn c.args.pass.now.me.0.told c.draw-stamp.result (call g c) (was g c) c.tell.ensures.told.0

logged : (g : Over) (c : goal.After-give_back-2 g) → c.answer-outcome.new.vnode ≡ with_made c.args.vnode.now c.draw-stamp.result g.Q.Asking.request c.answer-outcome.result
logged g c = subst (λ r. c.answer-outcome.new.vnode ≡ with_made c.args.vnode.now c.draw-stamp.result r c.answer-outcome.result) c.requires.prepared c.answer-outcome.ensures.log

answered : (g : Over) (c : goal.After-give_back-2 g) → IsAnswered c.args.vnode.now.entries (call_of c.args.vnode.now.vnode c.len-at.result c.draw-stamp.result g.Q.Asking.request c.answer-outcome.result)
answered g c = subst (λ r. IsOutcome c.args.vnode.now c.draw-stamp.result r c.answer-outcome.result) c.requires.prepared c.answer-outcome.ensures.outcome

pub tell-requires-clause-vnode : goal.tell-requires-clause-vnode
tell-requires-clause-vnode g c =
    let v = c.requires.vnode in
    let w = lent_is c.args.card.now.me.0 c.args.pass.now.me.0 c.draw-stamp.new.card.me.0 v.history c.args.pass.now.me.0.drawn c.args.pass.now.me.0.told c.draw-stamp.result v.view c.requires.pass
    (ap (λ m. m.0) c.draw-stamp.ensures.drew ∙ ap (λ m. drew m.0 c.draw-stamp.result) c.lend.ensures.card.1) in (
      v.history,
      ap (λ (y : View). y.histories) w,
      c.id.ensures ∙ ap (λ (l : Log). l.vnode) c.answer-outcome.ensures.log ∙ sym v.number_is,
      c.len-at.ensures.len ∙ ap (λ (l : Log). length l.entries) c.journal.ensures.journal ∙ ap length (sym v.journal_is) ∙ length_entries v.history.told,
    )

pub give_back-requires-2-clause-none : goal.give_back-requires-2-clause-none
give_back-requires-2-clause-none g c =
    let v = c.requires.vnode in
    let w = lent_is c.args.card.now.me.0 c.args.pass.now.me.0 c.draw-stamp.new.card.me.0 v.history c.args.pass.now.me.0.drawn c.args.pass.now.me.0.told c.draw-stamp.result v.view c.requires.pass
    (ap (λ m. m.0) c.draw-stamp.ensures.drew ∙ ap (λ m. drew m.0 c.draw-stamp.result) c.lend.ensures.card.1) in
    let x = back_is _ c.tell.new.card.me.0 v.history c.args.pass.now.me.0.drawn c.args.pass.now.me.0.told c.draw-stamp.result (call_of c.id.result c.len-at.result c.draw-stamp.result g.Q.Asking.request c.answer-outcome.result) w c.tell.ensures.told.0 in
    (ap (λ m. m.0) c.lend.ensures.pass.1, ap (λ (y : View). y.owed) x)

pub returns-clause-vnode : goal.returns-clause-vnode
returns-clause-vnode g c =
    let v = c.requires.vnode in
    let more = vnodes_more c.args.vnode.now c.answer-outcome.new.vnode c.tell.new.card.me.0 v.history c.args.pass.now.me.0.drawn c.args.pass.now.me.0.told (call g c)
    v.number_is (number g c) v.journal_is v.answered (is g c) (subst (λ n. IsAnswered c.args.vnode.now.entries (call_of n c.len-at.result c.draw-stamp.result g.Q.Asking.request c.answer-outcome.result)) (sym (number g c)) (answered g c)) (logged g c) in
    subst (λ (y : View). IsVnodes c.answer-outcome.new.vnode y) (sym (ap (λ m. m.0) c.give_back-2.ensures.card.1)) more

pub returns-clause-pass : goal.returns-clause-pass
returns-clause-pass g c =
    let t = call_of c.args.vnode.now.vnode c.len-at.result c.draw-stamp.result g.Q.Asking.request c.answer-outcome.result in
    let told : c.args.pass.now.me.0.told ++ call g c ∷ [] ≡ told_then c.args.pass.now.me.0.told t = ap (λ n. c.args.pass.now.me.0.told ++ call_of n c.len-at.result c.draw-stamp.result g.Q.Asking.request c.answer-outcome.result ∷ []) (number g c) ∙ told_more c.args.pass.now.me.0.told t (sym c.lacks_memory.ensures ∙ c.if-lacks_memory.false) in
    c.give_back-2.ensures.pass.1 ∙ ap (λ (y : View). (pass_of y, c.lend.new.pass.me.1)) (is g c) ∙ ap (λ l. (pass_view (c.args.pass.now.me.0.drawn + 1) (c.args.pass.now.me.0.told ++ call g c ∷ []), l)) (ap (λ m. m.1) c.lend.ensures.pass.1)
    ∙ ap (λ ts. (pass_view (c.args.pass.now.me.0.drawn + 1) ts, c.args.pass.now.me.1)) told

pub returns-clause-call : goal.returns-clause-call
returns-clause-call g c more =
    let v = c.requires.vnode in
    let w = within_is _ c.tell.new.card.me.0 v.history c.args.pass.now.me.0.drawn c.args.pass.now.me.0.told c.draw-stamp.result (call g c) (was g c) c.tell.ensures.told.0 in
    let long = place g c ∙ ap length (sym v.journal_is) ∙ length_entries v.history.told in (
      c.args.vnode.now.entries,
      sym (place g c),
      c.journal.ensures.legal,
      answered g c,
      record {
        within = subst (λ n. IsWithin c.args.vnode.now.vnode n c.args.pass.now.me.0.told) (sym long) (subst (λ m. IsWithin m (entries v.history.told) c.args.pass.now.me.0.told) v.number_is w);
        above = above_is c.args.card.now.me.0 c.args.pass.now.me.0 c.lend.new.card.me.0 v.history c.args.pass.now.me.0.drawn c.args.pass.now.me.0.told c.draw-stamp.result v.view c.requires.pass (ap (λ m. m.0) c.lend.ensures.card.1) c.draw-stamp.ensures.above;
      },
    )
