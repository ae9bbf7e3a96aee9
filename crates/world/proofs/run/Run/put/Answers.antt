use Rattle.world.specs.declared.event.Event.TheVariants as event
use Rattle.world.specs.declared.event.Reply.TheVariants as reply
use Rattle.world.proofs.Runs.{put_happened, put_was_refused, context_was_refused, with_same}
use Rattle.world.proofs.Sources.{go_on_same}
use Rattle.world.proofs.run.Run.put.Goals as goal

pub returns-in-Err-clause-step : goal.returns-in-Err-clause-step
returns-in-Err-clause-step g c = λ listed old rep remember. context_was_refused listed c.args.self.now.vnodes.items old c.args.vnode c.args.key.now c.args.seen.now c.args.content.now c.in-Err.refusal rep (c.in-Err.ensures.refused old remember)

pub returns-in-Ok-put_at-clause-step : goal.returns-in-Ok-put_at-clause-step
returns-in-Ok-put_at-clause-step g c = λ listed old rep remember. put_happened listed c.args.self.now.vnodes.items c.put_at.new.self.vnodes.items old c.args.vnode c.args.self.now.made c.args.key.now c.args.seen.now c.args.content.now c.in-Ok.clock.now c.in-Ok-put_at.dot rep c.requires.inside (c.in-Ok.ensures.means old remember) c.in-Ok-put_at.ensures.stored

pub returns-in-Err-put_at-clause-step : goal.returns-in-Err-put_at-clause-step
returns-in-Err-put_at-clause-step g c = λ listed old rep remember. with_same listed c.args.self.now.vnodes.items c.put_at.new.self.vnodes.items old (event.Put c.args.vnode c.args.key.now c.args.seen.now c.args.content.now) (reply.Refused c.in-Err-put_at.refusal) c.in-Err-put_at.ensures.err (put_was_refused listed c.args.self.now.vnodes.items old c.args.vnode c.args.key.now c.args.seen.now c.args.content.now c.in-Ok.clock.now c.in-Err-put_at.refusal rep c.requires.inside (c.in-Ok.ensures.means old remember) c.in-Err-put_at.ensures.refused)

pub returns-in-Err-clause-goes : goal.returns-in-Err-clause-goes
returns-in-Err-clause-goes g c = go_on_same c.args.self.now.vnodes.items
