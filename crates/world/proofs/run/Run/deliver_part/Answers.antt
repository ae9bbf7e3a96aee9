use Rattle.std.proofs.Common.{subst}
use Rattle.vnode.specs.declared.fault.PartFault.{PartFault}
use Rattle.vnode.specs.Parts.{RefusesPart}
use Rattle.world.specs.declared.event.Event.TheVariants as event
use Rattle.world.specs.declared.event.Reply.TheVariants as reply
use Rattle.world.specs.Represents.{log_at}
use Rattle.world.proofs.Runs.{part_happened, part_was_missing, part_was_refused, with_same}
use Rattle.world.proofs.Sources.{go_on_still}
use Rattle.world.proofs.run.Run.deliver_part.Goals as goal

pub returns-in-Ok-clause-step : goal.returns-in-Ok-clause-step
returns-in-Ok-clause-step c = λ listed old place rep is. part_happened listed c.args.self.now.vnodes.items c.merge_part_at.new.self.vnodes.items old c.args.vnode c.args.self.now.made place c.args.sent.now c.in-Ok.changed c.in-Ok.ensures.merged.0 rep c.requires.inside is c.in-Ok.ensures.merged.1

pub returns-in-Err-Missing-clause-step : goal.returns-in-Err-Missing-clause-step
returns-in-Err-Missing-clause-step c = λ listed old place rep is. with_same listed c.args.self.now.vnodes.items c.merge_part_at.new.self.vnodes.items old (event.Deliver place c.args.vnode) reply.Missing c.in-Err-Missing.ensures.err (part_was_missing listed c.args.self.now.vnodes.items old c.args.vnode place c.args.sent.now rep c.requires.inside is (subst (λ (fault : PartFault). RefusesPart (log_at c.args.self.now.vnodes.items c.args.vnode) c.args.sent.now.key c.args.sent.now.part fault) c.in-Err-Missing.field-0-is c.in-Err-Missing.ensures.refused))

pub returns-in-Err-Refused-clause-step : goal.returns-in-Err-Refused-clause-step
returns-in-Err-Refused-clause-step c = λ listed old place rep is. with_same listed c.args.self.now.vnodes.items c.merge_part_at.new.self.vnodes.items old (event.Deliver place c.args.vnode) (reply.Refused c.in-Err-Refused.refusal) c.in-Err-Refused.ensures.err (part_was_refused listed c.args.self.now.vnodes.items old c.args.vnode place c.args.sent.now c.in-Err-Refused.refusal rep c.requires.inside is (subst (λ (fault : PartFault). RefusesPart (log_at c.args.self.now.vnodes.items c.args.vnode) c.args.sent.now.key c.args.sent.now.part fault) c.in-Err-Refused.field-0-is c.in-Err-Refused.ensures.refused))

pub returns-in-Err-Missing-clause-goes : goal.returns-in-Err-Missing-clause-goes
returns-in-Err-Missing-clause-goes c = go_on_still c.args.self.now.vnodes.items c.merge_part_at.new.self.vnodes.items c.in-Err-Missing.ensures.err

pub returns-in-Err-Refused-clause-goes : goal.returns-in-Err-Refused-clause-goes
returns-in-Err-Refused-clause-goes c = go_on_still c.args.self.now.vnodes.items c.merge_part_at.new.self.vnodes.items c.in-Err-Refused.ensures.err
