use Rattle.std.proofs.Common.{List, [], ◌∷◌, rules, sym, subst}
use Rattle.world.specs.declared.event.Event.{Event}
use Rattle.world.specs.Running.{AreRunnableFrom}
use Rattle.script_run.proofs.Loads.{enough_from, prints_from, runs_over_some}
use Rattle.script_run.proofs.loading.text_from.Goals as goal

pub run_from-requires-clause-runnable : goal.run_from-requires-clause-runnable
run_from-requires-clause-runnable g c =
    subst (λ (es : List Event). AreRunnableFrom (0 ∷ c.args.incarnation ∷ []) c.max-vnodes.result c.args.table.now.listed es) (sym c.deref.ensures.value)
    (runs_over_some (0 ∷ c.args.incarnation ∷ []) c.args.table.now.listed c.args.script.now c.max-vnodes.result (search rules) c.requires)

pub print_answers-requires : goal.print_answers-requires
print_answers-requires g c = enough_from _ _ c.args.script.now _ _ c.in_ok-world.world _ c.requires c.deref-2.ensures.value c.deref.ensures.value c.replies.ensures c.in_ok-world.ensures.replies

pub returns-clause-printed : goal.returns-clause-printed
returns-clause-printed g c =
    prints_from c.args.table.now.listed c.args.incarnation c.args.records.now c.args.script.now c.max-vnodes.result c.deref.result.now c.deref-2.result.now c.in_ok-world.world c.replies.result.now _ c.requires (search rules)
    c.deref.ensures.value c.in_ok-world.ensures.world c.dumps_begin.ensures c.deref-2.ensures.value c.replies.ensures c.in_ok-print_answers.ensures
