use Rattle.world.specs.declared.event.Event.TheVariants as event
use Rattle.world.specs.declared.event.Reply.TheVariants as reply
use Rattle.world.proofs.Runs.{delivery_happened, delivery_was_refused, with_same}
use Rattle.world.proofs.Sources.{go_on_still}
use Rattle.world.proofs.run.Run.deliver_whole.Goals as goal

pub returns-in-Ok-clause-step : goal.returns-in-Ok-clause-step
returns-in-Ok-clause-step c = λ listed old place rep is. delivery_happened listed c.args.self.now.vnodes.items c.merge_at.new.self.vnodes.items old c.args.vnode c.args.self.now.made place c.args.sent.now c.in-Ok.changed rep c.requires.inside is c.in-Ok.ensures.merged c.in-Ok.ensures.changed

pub returns-in-Err-clause-step : goal.returns-in-Err-clause-step
returns-in-Err-clause-step c = λ listed old place rep is. with_same listed c.args.self.now.vnodes.items c.merge_at.new.self.vnodes.items old (event.Deliver place c.args.vnode) (reply.Refused c.in-Err.refusal) c.in-Err.ensures.err (delivery_was_refused listed c.args.self.now.vnodes.items old c.args.vnode place c.args.sent.now c.in-Err.refusal rep c.requires.inside is c.in-Err.ensures.refused)

pub returns-in-Err-clause-goes : goal.returns-in-Err-clause-goes
returns-in-Err-clause-goes c = go_on_still c.args.self.now.vnodes.items c.merge_at.new.self.vnodes.items c.in-Err.ensures.err
