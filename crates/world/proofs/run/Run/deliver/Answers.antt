use Rattle.std.proofs.Common.{subst, ◌∙◌}
use Rattle.world.specs.Running.{IsMessageOrRefused}
use Rattle.world.proofs.Runs.{message_was_refused, message_held, part_held, refusal_held}
use Rattle.world.specs.declared.event.Reply.{Reply}
use Rattle.world.specs.declared.event.Reply.TheVariants.{Sent, SentPart}
use Rattle.world.specs.Sources.{GoOn, sources_delivered, sources_told, sources_of}
use Rattle.world.proofs.Sources.{go_on_same, reply_there}
use Rattle.world.proofs.run.Run.deliver.Goals as goal

pub returns-in-Sent-clause-step : goal.returns-in-Sent-clause-step
returns-in-Sent-clause-step g c = λ listed old rep remember. c.deliver_whole.ensures.step listed old c.args.message rep (message_held c.args.turn.replies.now old c.args.message c.index-turn-message.result c.in-Sent.sent IsMessageOrRefused remember c.requires.sent c.index-turn-message.is (c.index-turn-message.is ∙ c.in-Sent.is))

pub returns-in-SentPart-clause-step : goal.returns-in-SentPart-clause-step
returns-in-SentPart-clause-step g c = λ listed old rep remember. c.deliver_part.ensures.step listed old c.args.message rep (part_held c.args.turn.replies.now old c.args.message c.index-turn-message.result c.in-SentPart.sent IsMessageOrRefused remember c.requires.sent c.index-turn-message.is (c.index-turn-message.is ∙ c.in-SentPart.is))

pub returns-in-Refused-clause-step : goal.returns-in-Refused-clause-step
returns-in-Refused-clause-step g c = λ listed old rep remember. message_was_refused listed c.args.self.now.vnodes.items old c.args.vnode c.args.message c.in-Refused.refusal rep (refusal_held c.args.turn.replies.now old c.args.message c.index-turn-message.result c.in-Refused.refusal IsMessageOrRefused remember c.requires.sent c.index-turn-message.is (c.index-turn-message.is ∙ c.in-Refused.is))

pub returns-in-Sent-clause-goes : goal.returns-in-Sent-clause-goes
returns-in-Sent-clause-goes g c =
    subst (λ (r : Reply). GoOn c.args.self.now.vnodes.items c.deliver_whole.new.self.vnodes.items (sources_delivered (sources_told r) c.args.vnode c.deliver_whole.result (sources_of c.args.self.now.vnodes.items)))
    (reply_there c.args.turn.replies.now c.args.message c.index-turn-message.result (Sent c.in-Sent.sent) IsMessageOrRefused c.requires.sent c.index-turn-message.is (c.index-turn-message.is ∙ c.in-Sent.is)) c.deliver_whole.ensures.goes

pub returns-in-SentPart-clause-goes : goal.returns-in-SentPart-clause-goes
returns-in-SentPart-clause-goes g c =
    subst (λ (r : Reply). GoOn c.args.self.now.vnodes.items c.deliver_part.new.self.vnodes.items (sources_delivered (sources_told r) c.args.vnode c.deliver_part.result (sources_of c.args.self.now.vnodes.items)))
    (reply_there c.args.turn.replies.now c.args.message c.index-turn-message.result (SentPart c.in-SentPart.sent) IsMessageOrRefused c.requires.sent c.index-turn-message.is (c.index-turn-message.is ∙ c.in-SentPart.is)) c.deliver_part.ensures.goes

pub returns-in-Refused-clause-goes : goal.returns-in-Refused-clause-goes
returns-in-Refused-clause-goes g c = go_on_same c.args.self.now.vnodes.items
