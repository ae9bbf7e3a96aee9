use Rattle.std.proofs.Common.{refl}
use Rattle.world.specs.declared.event.Event.TheVariants as event
use Rattle.world.specs.declared.event.Reply.TheVariants as reply
use Rattle.world.proofs.Runs.{get_happened, entry_was_refused, with_same}
use Rattle.world.proofs.run.Run.get.Goals as goal

pub returns-in-Ok-clause-step : goal.returns-in-Ok-clause-step
returns-in-Ok-clause-step c = λ listed old rep. get_happened listed c.args.self.now.vnodes.items c.read_at.new.self.vnodes.items old c.args.vnode c.args.self.now.made c.args.key.now c.in-Ok.state rep c.requires.inside c.in-Ok.ensures.read c.in-Ok.ensures.state

pub returns-in-Err-clause-step : goal.returns-in-Err-clause-step
returns-in-Err-clause-step c = λ listed old rep. with_same listed c.args.self.now.vnodes.items c.read_at.new.self.vnodes.items old (event.Get c.args.vnode c.args.key.now) (reply.Refused c.in-Err.refusal) c.in-Err.ensures.err (entry_was_refused listed c.args.self.now.vnodes.items old c.args.vnode (event.Get c.args.vnode c.args.key.now) c.in-Err.refusal rep c.requires.inside refl c.in-Err.ensures.refused)
