use Rattle.std.proofs.Common.{◌+◌, arith, List, sym, ap, subst, ◌∙◌}
use Rattle.std.proofs.lemmas.List.{take_all}
use Rattle.dvv.specs.declared.Dot.{Dot}
use Rattle.key_state.specs.State.{AreInOrder, AreCovered}
use Rattle.key_state.specs.Parts.{whole_siblings}
use Rattle.key_state.proofs.Parts.{whole_pushed, held_pushed, whole_in_order, whole_covered}
use Rattle.key_state.proofs.state.KeyState.whole_in.Goals as goal

pub loop-sent-preserved : goal.loop-sent-preserved
loop-sent-preserved c = record {
  built =
      whole_pushed c.args.self.now.siblings c.siblings.result.now c.siblings-sent-items.result.now c.loop-sent.sent-index c.sent-item.result c.in-Some.content.now c.in-Ok.content c.loop-sent.siblings.items c.push.new.self.items
      c.loop-sent-test.true c.sent-item.is c.siblings.ensures.all c.in-Some.ensures c.in-Ok.ensures c.loop-sent.invariant.built c.in-Ok-push.ensures.items;
  held = held_pushed c.args.self.now.siblings c.siblings.result.now c.siblings-sent-items.result.now c.loop-sent.sent-index c.sent-item.result c.in-Some.content.now c.loop-sent-test.true c.sent-item.is c.siblings.ensures.all c.in-Some.ensures c.loop-sent.invariant.held;
  count = c.in-Ok-push.ensures.len ∙ ap (λ n. n + 1) c.loop-sent.invariant.count;
  room = omega (arith, c.loop-sent.invariant.room, c.in-Ok-push.ensures.capacity);
}

pub in_held-requires-clause-order : goal.in_held-requires-clause-order
in_held-requires-clause-order c =
    let all = take_all c.loop-sent.sent-index c.siblings-sent-items.result.now c.loop-sent-test.false ∙ c.siblings-sent-items.ensures.all in
    subst AreInOrder (sym (c.loop-sent.invariant.built ∙ ap (whole_siblings c.args.self.now.siblings) all)) (whole_in_order c.args.self.now.siblings c.prepared.inside.part.now.siblings c.siblings-sent-items.ensures.part.in_order)

pub in_held-requires-clause-covered : goal.in_held-requires-clause-covered
in_held-requires-clause-covered c =
    let all = take_all c.loop-sent.sent-index c.siblings-sent-items.result.now c.loop-sent-test.false ∙ c.siblings-sent-items.ensures.all in
    subst (λ (l : List Dot). AreCovered l c.loop-sent.siblings.items) (sym c.prepared.invariant.0)
    (subst (AreCovered c.prepared.inside.part.now.clock) (sym (c.loop-sent.invariant.built ∙ ap (whole_siblings c.args.self.now.siblings) all)) (whole_covered c.prepared.inside.part.now.clock c.args.self.now.siblings c.prepared.inside.part.now.siblings c.siblings-sent-items.ensures.part.covered))
