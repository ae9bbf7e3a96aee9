use Rattle.std.proofs.Common.{refl}
use Rattle.world.specs.declared.event.Event.TheVariants as event
use Rattle.world.specs.declared.event.Reply.TheVariants as reply
use Rattle.world.proofs.Runs.{send_happened, entry_was_refused, with_same}
use Rattle.world.proofs.run.Run.send.Goals as goal

pub returns-in-Ok-clause-step : goal.returns-in-Ok-clause-step
returns-in-Ok-clause-step c = λ listed old rep.
    let copy = c.in-Ok.ensures.copy in
    send_happened listed c.args.self.now.vnodes.items c.message_at.new.self.vnodes.items old c.args.vnode c.args.self.now.made c.args.key.now c.in-Ok.message rep c.requires.inside c.in-Ok.ensures.read copy.state copy.key_is copy.from copy.at

pub returns-in-Err-clause-step : goal.returns-in-Err-clause-step
returns-in-Err-clause-step c = λ listed old rep. with_same listed c.args.self.now.vnodes.items c.message_at.new.self.vnodes.items old (event.Send c.args.vnode c.args.key.now) (reply.Refused c.in-Err.refusal) c.in-Err.ensures.err (entry_was_refused listed c.args.self.now.vnodes.items old c.args.vnode (event.Send c.args.vnode c.args.key.now) c.in-Err.refusal rep c.requires.inside refl c.in-Err.ensures.refused)
