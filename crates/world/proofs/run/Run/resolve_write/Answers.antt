use Rattle.std.proofs.Common.{Option, Bor, subst}
use Rattle.std.specs.Option.{option_copied}
use Rattle.key_state.specs.declared.content.Content.{Content}
use Rattle.world.specs.declared.event.Event.TheVariants as event
use Rattle.world.specs.declared.event.Reply.TheVariants as reply
use Rattle.world.specs.Running.{IsChoiceOf}
use Rattle.world.proofs.Runs.{choice_happened, choice_was_refused, nothing_was_chosen, run_was_refused, with_same}
use Rattle.world.proofs.Sources.{go_on_same}
use Rattle.world.proofs.run.Run.resolve_write.Goals as goal

pub returns-in-Err-clause-step : goal.returns-in-Err-clause-step
returns-in-Err-clause-step g c = λ listed old rep remember recall. run_was_refused listed c.args.self.now.vnodes.items old c.args.run c.args.vnode c.in-Err.refusal rep (c.in-Err.ensures.refused old remember recall)

pub returns-in-None-clause-step : goal.returns-in-None-clause-step
returns-in-None-clause-step g c = λ listed old rep remember recall. nothing_was_chosen listed c.args.self.now.vnodes.items old c.args.run c.args.vnode c.in-Ok.choice.key.now c.in-Ok.choice.seen.now rep (subst (λ (o : Option (Bor Content)). IsChoiceOf old c.args.run c.in-Ok.choice.key.now c.in-Ok.choice.seen.now (option_copied o)) c.in-None.is (c.in-Ok.ensures.chosen old remember recall))

pub returns-in-Ok-put_at-clause-step : goal.returns-in-Ok-put_at-clause-step
returns-in-Ok-put_at-clause-step g c = λ listed old rep remember recall. choice_happened listed c.args.self.now.vnodes.items c.put_at.new.self.vnodes.items old c.args.run c.args.vnode c.args.self.now.made c.in-Ok.choice.key.now c.in-Some.content.now c.in-Ok.choice.seen.now c.in-Ok-put_at.dot rep c.requires.inside (subst (λ (o : Option (Bor Content)). IsChoiceOf old c.args.run c.in-Ok.choice.key.now c.in-Ok.choice.seen.now (option_copied o)) c.in-Some.is (c.in-Ok.ensures.chosen old remember recall)) c.in-Ok-put_at.ensures.stored

pub returns-clause-step : goal.returns-clause-step
returns-clause-step g c = λ listed old rep remember recall. with_same listed c.args.self.now.vnodes.items c.put_at.new.self.vnodes.items old (event.ResolveWrite c.args.run c.args.vnode) (reply.Refused c.in-Err-put_at.refusal) c.in-Err-put_at.ensures.err (choice_was_refused listed c.args.self.now.vnodes.items old c.args.run c.args.vnode c.in-Ok.choice.key.now c.in-Some.content.now c.in-Ok.choice.seen.now c.in-Err-put_at.refusal rep c.requires.inside (subst (λ (o : Option (Bor Content)). IsChoiceOf old c.args.run c.in-Ok.choice.key.now c.in-Ok.choice.seen.now (option_copied o)) c.in-Some.is (c.in-Ok.ensures.chosen old remember recall)) c.in-Err-put_at.ensures.refused)

pub returns-in-Err-clause-goes : goal.returns-in-Err-clause-goes
returns-in-Err-clause-goes g c = go_on_same c.args.self.now.vnodes.items

pub returns-in-None-clause-goes : goal.returns-in-None-clause-goes
returns-in-None-clause-goes g c = go_on_same c.args.self.now.vnodes.items
