use Rattle.std.proofs.Common.{◌≡◌, ℕ, ◌+◌, List, length, take, sym, subst, ap, refl, ◌∙◌, arith, Some, [], ◌++◌, ◌∷◌}
use Rattle.std.specs.Prelude.{slice_get}
use Rattle.std.proofs.lemmas.List.{take_all, length-take-le}
use Rattle.std.proofs.lemmas.Option.{slice_get_read}
use Rattle.bpf_helpers.specs.declared.sig.Entry.{Entry as Helper}
use Rattle.world.specs.declared.event.Event.{Event}
use Rattle.world.specs.declared.event.Reply.{Reply}
use Rattle.world.specs.Running.{IsRunSoFar, IsKnownSoFar, IsReady, Remember, Recall}
use Rattle.world.proofs.Whole.{nothing_run, nothing_known, is_ready, runs_on, knows_on, world_of, one_more_event}
use Rattle.world.specs.Sources.{GoOn, GoOnBy, sources_after, sources_of}
use Rattle.world.proofs.Sources.{go_on_same, goes_on}
use Rattle.world.proofs.run.Run.go_on.Goals as goal

pub loop-event-init : goal.loop-event-init
loop-event-init g c = record {
  goes = subst (λ (rs : List Reply). GoOnBy [] rs c.args.self.now.vnodes.items c.args.self.now.vnodes.items) (sym c.in_ok-replies.ensures.items) (go_on_same c.args.self.now.vnodes.items);
  run = subst (λ (rs : List Reply). IsRunSoFar (length c.args.self.now.vnodes.items) c.args.events.now 0 rs c.args.self.now.vnodes.items c.args.self.now.made) (sym c.in_ok-replies.ensures.items)
      (nothing_run (length c.args.self.now.vnodes.items) c.args.events.now c.args.self.now.vnodes.items c.args.self.now.made (omega arith) c.requires.stamped c.requires.room);
  known = λ begin h. subst (λ (rs : List Reply). IsKnownSoFar begin (length c.args.self.now.vnodes.items) c.args.table.now.listed c.args.events.now 0 rs c.args.self.now.vnodes.items) (sym c.in_ok-replies.ensures.items)
      (nothing_known c.args.table.now.listed c.args.events.now c.args.self.now.vnodes.items begin h);
}

pub slice_bounds-before-end : goal.slice_bounds-before-end
slice_bounds-before-end g c =
    let so_far : length c.loop-event.replies.items ≡ length (take c.loop-event.event-index c.args.events.now) = c.loop-event.invariant.run.len in
    let taken : length (take c.loop-event.event-index c.args.events.now) ≡ c.loop-event.event-index = length-take-le c.loop-event.event-index c.args.events.now (let h = c.loop-event-test.true in omega (arith, h)) in
    let is : c.len.result ≡ c.loop-event.event-index = c.len.ensures ∙ c.loop-event.replies.ok.0 ∙ so_far ∙ taken in
    sym (length-take-le c.len.result c.args.events.now (let h = c.loop-event-test.true in omega (arith, h, is)))

pub happen-reply-requires-clause-ready : goal.happen-reply-requires-clause-ready
happen-reply-requires-clause-ready g c =
    let so_far : length c.loop-event.replies.items ≡ length (take c.loop-event.event-index c.args.events.now) = c.loop-event.invariant.run.len in
    let taken : length (take c.loop-event.event-index c.args.events.now) ≡ c.loop-event.event-index = length-take-le c.loop-event.event-index c.args.events.now (let h = c.loop-event-test.true in omega (arith, h)) in
    let is : c.len.result ≡ c.loop-event.event-index = c.len.ensures ∙ c.loop-event.replies.ok.0 ∙ so_far ∙ taken in
    let here : slice_get c.args.events.now c.loop-event.event-index ≡ Some c.event-item.result = slice_get_read c.args.events.now (length c.args.events.now) c.loop-event.event-index c.event-item.result refl c.loop-event-test.true c.event-item.is in
    subst (λ (k : ℕ). IsReady (length c.loop-event.self.vnodes.items) c.args.table.now.listed (take k c.args.events.now) c.deref.result.now c.event-item.result) (sym is)
    (subst (λ (rs : List Reply). IsReady (length c.loop-event.self.vnodes.items) c.args.table.now.listed (take c.loop-event.event-index c.args.events.now) rs c.event-item.result) (sym c.deref.ensures.value)
    (is_ready c.requires.runnable.0 (length c.args.self.now.vnodes.items) c.args.table.now.listed c.args.events.now c.loop-event.event-index c.loop-event.replies.items c.loop-event.self.vnodes.items c.loop-event.self.made c.event-item.result c.requires.few c.loop-event.invariant.run
    (c.requires.runnable.1 c.loop-event.event-index c.event-item.result here)))

pub loop-event-preserved : goal.loop-event-preserved
loop-event-preserved g c =
    let listed : List Helper = c.args.table.now.listed in
    let so_far : length c.loop-event.replies.items ≡ length (take c.loop-event.event-index c.args.events.now) = c.loop-event.invariant.run.len in
    let taken : length (take c.loop-event.event-index c.args.events.now) ≡ c.loop-event.event-index = length-take-le c.loop-event.event-index c.args.events.now (let h = c.loop-event-test.true in omega (arith, h)) in
    let is : c.len.result ≡ c.loop-event.event-index = c.len.ensures ∙ c.loop-event.replies.ok.0 ∙ so_far ∙ taken in
    let longer : take (c.loop-event.event-index + 1) c.args.events.now ≡ take c.loop-event.event-index c.args.events.now ++ c.event-item.result ∷ [] = one_more_event c.args.events.now c.loop-event.event-index c.event-item.result c.loop-event-test.true c.event-item.is in
    record {
      goes = subst (λ (rs : List Reply). GoOnBy (take (c.loop-event.event-index + 1) c.args.events.now) rs c.args.self.now.vnodes.items c.happen-reply.new.self.vnodes.items) (sym c.in_ok-push.ensures.items)
          (subst (λ (es : List Event). GoOnBy es (c.loop-event.replies.items ++ c.happen-reply.result ∷ []) c.args.self.now.vnodes.items c.happen-reply.new.self.vnodes.items) (sym longer)
          (goes_on (take c.loop-event.event-index c.args.events.now) c.loop-event.replies.items c.event-item.result c.happen-reply.result c.args.self.now.vnodes.items c.loop-event.self.vnodes.items c.happen-reply.new.self.vnodes.items so_far c.loop-event.invariant.goes
          (subst (λ (rs : List Reply). GoOn c.loop-event.self.vnodes.items c.happen-reply.new.self.vnodes.items (sources_after rs c.event-item.result c.happen-reply.result (sources_of c.loop-event.self.vnodes.items))) c.deref.ensures.value c.happen-reply.ensures.goes)));
      run = subst (λ (rs : List Reply). IsRunSoFar (length c.args.self.now.vnodes.items) c.args.events.now (c.loop-event.event-index + 1) rs c.happen-reply.new.self.vnodes.items c.happen-reply.new.self.made) (sym c.in_ok-push.ensures.items)
          (runs_on c.requires.runnable.0 (length c.args.self.now.vnodes.items) c.args.table.now.listed c.args.events.now c.loop-event.event-index c.loop-event.replies.items c.loop-event.self.vnodes.items c.happen-reply.new.self.vnodes.items c.loop-event.self.made c.happen-reply.new.self.made c.event-item.result c.happen-reply.result
          c.requires.runnable.1 c.loop-event-test.true c.event-item.is c.loop-event.invariant.run c.happen-reply.ensures.more c.happen-reply.ensures.stamps c.happen-reply.ensures.few c.happen-reply.ensures.kind);
      known = λ begin h. subst (λ (rs : List Reply). IsKnownSoFar begin (length c.args.self.now.vnodes.items) c.args.table.now.listed c.args.events.now (c.loop-event.event-index + 1) rs c.happen-reply.new.self.vnodes.items) (sym c.in_ok-push.ensures.items)
          (knows_on begin c.requires.runnable.0 (length c.args.self.now.vnodes.items) c.args.table.now.listed c.args.events.now c.loop-event.event-index c.loop-event.replies.items c.loop-event.self.vnodes.items c.happen-reply.new.self.vnodes.items c.event-item.result c.happen-reply.result
          c.requires.few c.requires.runnable.1 c.loop-event-test.true c.event-item.is c.loop-event.invariant.run.len
          (λ old rep named remember recall new. c.happen-reply.ensures.step old rep named (subst (λ (rs : List Reply). Remember rs old) (sym c.deref.ensures.value) remember)
          (subst (λ (k : ℕ). Recall (take k c.args.events.now) c.deref.result.now old) (sym is) (subst (λ (rs : List Reply). Recall (take c.loop-event.event-index c.args.events.now) rs old) (sym c.deref.ensures.value) recall)) new)
          (c.loop-event.invariant.known begin h));
    }

pub returns-clause-replies : goal.returns-clause-replies
returns-clause-replies g c = c.loop-event.invariant.run.len ∙ ap (λ (es : List Event). length es) (take_all c.loop-event.event-index c.args.events.now c.loop-event-test.false)

pub returns-clause-world : goal.returns-clause-world
returns-clause-world g c = λ begin h. world_of begin (length c.args.self.now.vnodes.items) c.args.table.now.listed c.args.events.now c.loop-event.event-index c.loop-event.replies.items c.loop-event.self.vnodes.items c.loop-event.self.made (take_all c.loop-event.event-index c.args.events.now c.loop-event-test.false) c.loop-event.invariant.run.stamped (c.loop-event.invariant.known begin h)

pub returns-clause-goes : goal.returns-clause-goes
returns-clause-goes g c = subst (λ (es : List Event). GoOnBy es c.loop-event.replies.items c.args.self.now.vnodes.items c.loop-event.self.vnodes.items) (take_all c.loop-event.event-index c.args.events.now c.loop-event-test.false) c.loop-event.invariant.goes
