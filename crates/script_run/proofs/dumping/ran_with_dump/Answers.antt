use Rattle.std.proofs.Common.{List, [], ◌∷◌, sym, subst, ◌∙◌}
use Rattle.world.specs.declared.event.Event.{Event}
use Rattle.world.specs.declared.event.Event.TheVariants.{Dump}
use Rattle.world.specs.Running.{AreRunnable}
use Rattle.script_events.proofs.Growing.{runnable_more}
use Rattle.script_run.proofs.Dumps.{enough_before, dumps_behind, some_reply}
use Rattle.script_run.proofs.dumping.ran_with_dump.Goals as goal

pub run-requires-clause-runnable : goal.run-requires-clause-runnable
run-requires-clause-runnable g c =
    subst (λ (es : List Event). AreRunnable c.args.script.vnodes c.args.table.now.listed es) (sym (c.deref.ensures.value ∙ c.in_ok-push.ensures.items))
    (runnable_more (0 ∷ []) c.args.script.vnodes c.args.table.now.listed c.args.script.events.items (Dump c.args.vnode) c.requires.runnable.events c.requires.within)

pub unreachable-requires : goal.unreachable-requires
unreachable-requires g c = some_reply _ c.args.script c.args.vnode _ _ _ (c.deref.ensures.value ∙ c.in_ok-push.ensures.items) c.in_ok-world.ensures.world c.replies.ensures c.in_default.ensures.cases

pub print_answers-requires : goal.print_answers-requires
print_answers-requires g c =
    enough_before _ c.args.script c.args.vnode _ _ _ _ _ c.requires.runnable c.deref-2.ensures.value (c.deref.ensures.value ∙ c.in_ok-push.ensures.items) c.in_ok-world.ensures.world (sym c.replies.ensures ∙ c.in-Some.ensures.cases.0)

pub returns : goal.returns
returns g c =
    dumps_behind _ c.args.script c.args.vnode _ _ _ _ _ _ c.requires.runnable c.requires.within c.deref-2.ensures.value (c.deref.ensures.value ∙ c.in_ok-push.ensures.items) c.in_ok-world.ensures.world (sym c.replies.ensures ∙ c.in-Some.ensures.cases.0)
    c.in_ok-text.ensures
