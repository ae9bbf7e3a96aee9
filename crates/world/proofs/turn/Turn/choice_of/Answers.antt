use Rattle.std.proofs.Common.{List, Option, sym, subst, ap, ◌∙◌}
use Rattle.std.specs.Option.{option_copied}
use Rattle.dvv.specs.declared.Dot.{Dot}
use Rattle.key_state.specs.declared.content.Content.{Content}
use Rattle.world.specs.declared.event.Reply.TheVariants as reply
use Rattle.hook_run.specs.Resolving.{chosen_by}
use Rattle.world.specs.Running.{IsChoiceOf}
use Rattle.world.proofs.Runs.{choice_held, never_refused}
use Rattle.world.proofs.turn.Turn.choice_of.Goals as goal

pub returns-in-Err-clause-refused : goal.returns-in-Err-clause-refused
returns-in-Err-clause-refused g c old remember recall = remember.each c.args.run (reply.Refused c.in-Err.refusal) c.in-Err.ensures.refused

pub returns-in-Ok-answer_of-clause-chosen : goal.returns-in-Ok-answer_of-clause-chosen
returns-in-Ok-answer_of-clause-chosen g c old remember recall =
    subst (λ (k : List Dot). IsChoiceOf old c.args.run c.key_of.result.now k (option_copied c.chosen.result)) (sym c.clock.ensures)
    (subst (λ (o : Option Content). IsChoiceOf old c.args.run c.key_of.result.now c.in-Ok-answer_of.state.now.clock o) (sym (c.chosen.ensures ∙ ap (chosen_by c.in-Ok.resolution.now) c.siblings.ensures.all))
    (choice_held c.args.self.before.now c.args.self.replies.now old c.args.run c.get_of-get.result c.key_of.ensures.0 c.get_of-get.ensures.0 c.key_of.result.now c.in-Ok.resolution.now c.in-Ok-answer_of.state.now remember recall c.get_of-get.ensures.1 c.in-Ok.ensures.resolved c.key_of.ensures.1 c.in-Ok-answer_of.ensures.found))

pub returns-in-Err-answer_of-clause-refused : goal.returns-in-Err-answer_of-clause-refused
returns-in-Err-answer_of-clause-refused g c old remember recall = absurd (never_refused c.args.self.before.now c.args.self.replies.now old c.args.run c.get_of-get.result c.get_of-get.ensures.0 c.in-Ok.resolution.now c.in-Err-answer_of.refusal remember recall c.get_of-get.ensures.1 c.in-Ok.ensures.resolved c.in-Err-answer_of.ensures.refused)
