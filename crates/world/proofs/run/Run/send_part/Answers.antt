use Rattle.world.specs.declared.event.Event.TheVariants as event
use Rattle.world.specs.declared.event.Reply.TheVariants as reply
use Rattle.world.proofs.Runs.{part_or_whole, part_is_message, part_send_refused, summary_was_refused, with_same}
use Rattle.world.proofs.Sources.{go_on_same}
use Rattle.world.proofs.run.Run.send_part.Goals as goal

pub returns-in-Err-clause-step : goal.returns-in-Err-clause-step
returns-in-Err-clause-step g c = λ listed old rep remember. summary_was_refused listed c.args.self.now.vnodes.items old c.args.turn.replies.now c.args.vnode c.args.summary c.args.key.now c.in-Err.refusal rep remember c.in-Err.ensures.refused

pub returns-in-Ok-message_at-clause-step : goal.returns-in-Ok-message_at-clause-step
returns-in-Ok-message_at-clause-step g c = λ listed old rep remember. part_or_whole listed c.args.self.now.vnodes.items c.message_at.new.self.vnodes.items old c.args.turn.replies.now c.args.vnode c.args.self.now.made c.args.summary c.args.key.now c.in-Ok.told.now c.in-Ok-message_at.message c.sent_without.result rep c.requires.inside remember c.in-Ok.ensures.told c.in-Ok-message_at.ensures.read c.in-Ok-message_at.ensures.copy c.sent_without.ensures

pub returns-in-Ok-message_at-clause-kind : goal.returns-in-Ok-message_at-clause-kind
returns-in-Ok-message_at-clause-kind g c = part_is_message c.in-Ok-message_at.message c.in-Ok.told.now c.sent_without.result c.sent_without.ensures

pub returns-in-Err-message_at-clause-step : goal.returns-in-Err-message_at-clause-step
returns-in-Err-message_at-clause-step g c = λ listed old rep remember. with_same listed c.args.self.now.vnodes.items c.message_at.new.self.vnodes.items old (event.SendPart c.args.vnode c.args.key.now c.args.summary) (reply.Refused c.in-Err-message_at.refusal) c.in-Err-message_at.ensures.err (part_send_refused listed c.args.self.now.vnodes.items old c.args.turn.replies.now c.args.vnode c.args.summary c.args.key.now c.in-Ok.told.now c.in-Err-message_at.refusal rep c.requires.inside remember c.in-Ok.ensures.told c.in-Err-message_at.ensures.refused)

pub returns-in-Err-clause-goes : goal.returns-in-Err-clause-goes
returns-in-Err-clause-goes g c = go_on_same c.args.self.now.vnodes.items
