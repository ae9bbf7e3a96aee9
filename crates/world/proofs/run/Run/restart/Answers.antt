use Rattle.std.proofs.Common.{refl}
use Rattle.world.specs.declared.event.Event.TheVariants as event
use Rattle.world.specs.declared.event.Reply.TheVariants as reply
use Rattle.world.proofs.Runs.{restart_happened, entry_was_refused, with_same}
use Rattle.world.proofs.run.Run.restart.Goals as goal

pub returns-in-Ok-clause-step : goal.returns-in-Ok-clause-step
returns-in-Ok-clause-step c = λ listed old rep. restart_happened listed c.args.self.now.vnodes.items c.restart_at.new.self.vnodes.items old c.args.vnode c.args.self.now.made rep c.requires.inside c.in-Ok.ensures.restarted

pub returns-in-Err-clause-step : goal.returns-in-Err-clause-step
returns-in-Err-clause-step c = λ listed old rep. with_same listed c.args.self.now.vnodes.items c.restart_at.new.self.vnodes.items old (event.Restart c.args.vnode) (reply.Refused c.in-Err.refusal) c.in-Err.ensures.err (entry_was_refused listed c.args.self.now.vnodes.items old c.args.vnode (event.Restart c.args.vnode) c.in-Err.refusal rep c.requires.inside refl c.in-Err.ensures.refused)
