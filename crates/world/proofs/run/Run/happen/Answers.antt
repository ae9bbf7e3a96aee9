use Rattle.std.proofs.Common.{sym, subst}
use Rattle.world.specs.declared.event.Event.{Event}
use Rattle.world.specs.Knowledge.{Knowledge}
use Rattle.world.specs.Happening.{Happens}
use Rattle.world.specs.Represents.{Represents}
use Rattle.world.specs.Running.{IsNewFor}
use Rattle.world.specs.Sources.{GoOn, sources_after, sources_of}
use Rattle.world.proofs.Sources.{go_on_same, goes_on_with_more}
use Rattle.world.proofs.run.Run.happen.Goals as goal

pub returns-in-Load-clause-step : goal.returns-in-Load-clause-step
returns-in-Load-clause-step o c = λ old rep named remember recall new.
    subst (λ (e : Event). (x : Knowledge) × Happens c.args.turn.table.now.listed old e c.load.result x × Represents c.load.new.self.vnodes.items x) (sym c.in-Load.is)
    (c.load.ensures.step c.args.turn.table.now.listed old rep named remember (subst (IsNewFor old) c.in-Load.is new))

pub returns-in-Load-clause-goes : goal.returns-in-Load-clause-goes
returns-in-Load-clause-goes o c =
    subst (λ (e : Event). GoOn c.args.self.now.vnodes.items c.load.new.self.vnodes.items (sources_after c.args.turn.replies.now e c.load.result (sources_of c.args.self.now.vnodes.items))) (sym c.in-Load.is) c.load.ensures.goes

pub returns-in-Put-clause-step : goal.returns-in-Put-clause-step
returns-in-Put-clause-step o c = λ old rep named remember recall new. subst (λ (e : Event). (x : Knowledge) × Happens c.args.turn.table.now.listed old e c.put.result x × Represents c.put.new.self.vnodes.items x) (sym c.in-Put.is) (c.put.ensures.step c.args.turn.table.now.listed old rep remember)

pub returns-in-Get-clause-step : goal.returns-in-Get-clause-step
returns-in-Get-clause-step o c = λ old rep named remember recall new. subst (λ (e : Event). (x : Knowledge) × Happens c.args.turn.table.now.listed old e c.get.result x × Represents c.get.new.self.vnodes.items x) (sym c.in-Get.is) (c.get.ensures.step c.args.turn.table.now.listed old rep)

pub returns-in-Send-clause-step : goal.returns-in-Send-clause-step
returns-in-Send-clause-step o c = λ old rep named remember recall new. subst (λ (e : Event). (x : Knowledge) × Happens c.args.turn.table.now.listed old e c.send.result x × Represents c.send.new.self.vnodes.items x) (sym c.in-Send.is) (c.send.ensures.step c.args.turn.table.now.listed old rep)

pub returns-in-Deliver-clause-step : goal.returns-in-Deliver-clause-step
returns-in-Deliver-clause-step o c = λ old rep named remember recall new. subst (λ (e : Event). (x : Knowledge) × Happens c.args.turn.table.now.listed old e c.deliver.result x × Represents c.deliver.new.self.vnodes.items x) (sym c.in-Deliver.is) (c.deliver.ensures.step c.args.turn.table.now.listed old rep remember)

pub returns-in-Restart-clause-step : goal.returns-in-Restart-clause-step
returns-in-Restart-clause-step o c = λ old rep named remember recall new. subst (λ (e : Event). (x : Knowledge) × Happens c.args.turn.table.now.listed old e c.restart.result x × Represents c.restart.new.self.vnodes.items x) (sym c.in-Restart.is) (c.restart.ensures.step c.args.turn.table.now.listed old rep)

pub returns-in-ResolveRead-clause-step : goal.returns-in-ResolveRead-clause-step
returns-in-ResolveRead-clause-step o c = λ old rep named remember recall new. subst (λ (e : Event). (x : Knowledge) × Happens c.args.turn.table.now.listed old e c.resolve_read.result x × Represents c.args.self.now.vnodes.items x) (sym c.in-ResolveRead.is) (c.resolve_read.ensures.step c.args.self.now.vnodes.items old rep remember)

pub returns-in-ResolveWrite-clause-step : goal.returns-in-ResolveWrite-clause-step
returns-in-ResolveWrite-clause-step o c = λ old rep named remember recall new. subst (λ (e : Event). (x : Knowledge) × Happens c.args.turn.table.now.listed old e c.resolve_write.result x × Represents c.resolve_write.new.self.vnodes.items x) (sym c.in-ResolveWrite.is) (c.resolve_write.ensures.step c.args.turn.table.now.listed old rep remember recall)

pub returns-in-Dump-clause-step : goal.returns-in-Dump-clause-step
returns-in-Dump-clause-step o c = λ old rep named remember recall new. subst (λ (e : Event). (x : Knowledge) × Happens c.args.turn.table.now.listed old e c.dump.result x × Represents c.dump.new.self.vnodes.items x) (sym c.in-Dump.is) (c.dump.ensures.step c.args.turn.table.now.listed old rep)

pub returns-in-Summarize-clause-step : goal.returns-in-Summarize-clause-step
returns-in-Summarize-clause-step o c = λ old rep named remember recall new. subst (λ (e : Event). (x : Knowledge) × Happens c.args.turn.table.now.listed old e c.summarize.result x × Represents c.summarize.new.self.vnodes.items x) (sym c.in-Summarize.is) (c.summarize.ensures.step c.args.turn.table.now.listed old rep)

pub returns-in-SendPart-clause-step : goal.returns-in-SendPart-clause-step
returns-in-SendPart-clause-step o c = λ old rep named remember recall new. subst (λ (e : Event). (x : Knowledge) × Happens c.args.turn.table.now.listed old e c.send_part.result x × Represents c.send_part.new.self.vnodes.items x) (sym c.in-SendPart.is) (c.send_part.ensures.step c.args.turn.table.now.listed old rep remember)

pub returns-in-Put-clause-goes : goal.returns-in-Put-clause-goes
returns-in-Put-clause-goes o c = subst (λ (e : Event). GoOn c.args.self.now.vnodes.items c.put.new.self.vnodes.items (sources_after c.args.turn.replies.now e c.put.result (sources_of c.args.self.now.vnodes.items))) (sym c.in-Put.is) c.put.ensures.goes

pub returns-in-Get-clause-goes : goal.returns-in-Get-clause-goes
returns-in-Get-clause-goes o c = subst (λ (e : Event). GoOn c.args.self.now.vnodes.items c.get.new.self.vnodes.items (sources_after c.args.turn.replies.now e c.get.result (sources_of c.args.self.now.vnodes.items))) (sym c.in-Get.is) c.get.ensures.goes

pub returns-in-Send-clause-goes : goal.returns-in-Send-clause-goes
returns-in-Send-clause-goes o c = subst (λ (e : Event). GoOn c.args.self.now.vnodes.items c.send.new.self.vnodes.items (sources_after c.args.turn.replies.now e c.send.result (sources_of c.args.self.now.vnodes.items))) (sym c.in-Send.is) c.send.ensures.goes

pub returns-in-Restart-clause-goes : goal.returns-in-Restart-clause-goes
returns-in-Restart-clause-goes o c = subst (λ (e : Event). GoOn c.args.self.now.vnodes.items c.restart.new.self.vnodes.items (sources_after c.args.turn.replies.now e c.restart.result (sources_of c.args.self.now.vnodes.items))) (sym c.in-Restart.is) c.restart.ensures.goes

pub returns-in-ResolveWrite-clause-goes : goal.returns-in-ResolveWrite-clause-goes
returns-in-ResolveWrite-clause-goes o c = subst (λ (e : Event). GoOn c.args.self.now.vnodes.items c.resolve_write.new.self.vnodes.items (sources_after c.args.turn.replies.now e c.resolve_write.result (sources_of c.args.self.now.vnodes.items))) (sym c.in-ResolveWrite.is) c.resolve_write.ensures.goes

pub returns-in-Dump-clause-goes : goal.returns-in-Dump-clause-goes
returns-in-Dump-clause-goes o c = subst (λ (e : Event). GoOn c.args.self.now.vnodes.items c.dump.new.self.vnodes.items (sources_after c.args.turn.replies.now e c.dump.result (sources_of c.args.self.now.vnodes.items))) (sym c.in-Dump.is) c.dump.ensures.goes

pub returns-in-Summarize-clause-goes : goal.returns-in-Summarize-clause-goes
returns-in-Summarize-clause-goes o c = subst (λ (e : Event). GoOn c.args.self.now.vnodes.items c.summarize.new.self.vnodes.items (sources_after c.args.turn.replies.now e c.summarize.result (sources_of c.args.self.now.vnodes.items))) (sym c.in-Summarize.is) c.summarize.ensures.goes

pub returns-in-SendPart-clause-goes : goal.returns-in-SendPart-clause-goes
returns-in-SendPart-clause-goes o c = subst (λ (e : Event). GoOn c.args.self.now.vnodes.items c.send_part.new.self.vnodes.items (sources_after c.args.turn.replies.now e c.send_part.result (sources_of c.args.self.now.vnodes.items))) (sym c.in-SendPart.is) c.send_part.ensures.goes

pub returns-in-Deliver-clause-goes : goal.returns-in-Deliver-clause-goes
returns-in-Deliver-clause-goes o c = subst (λ (e : Event). GoOn c.args.self.now.vnodes.items c.deliver.new.self.vnodes.items (sources_after c.args.turn.replies.now e c.deliver.result (sources_of c.args.self.now.vnodes.items))) (sym c.in-Deliver.is) c.deliver.ensures.goes

pub returns-in-ResolveRead-clause-goes : goal.returns-in-ResolveRead-clause-goes
returns-in-ResolveRead-clause-goes o c = subst (λ (e : Event). GoOn c.args.self.now.vnodes.items c.args.self.now.vnodes.items (sources_after c.args.turn.replies.now e c.resolve_read.result (sources_of c.args.self.now.vnodes.items))) (sym c.in-ResolveRead.is) (go_on_same c.args.self.now.vnodes.items)

pub returns-in-Put-clause-more : goal.returns-in-Put-clause-more
returns-in-Put-clause-more o c = goes_on_with_more c.args.turn.replies.now c.args.event.now c.put.result c.args.self.now.vnodes.items c.put.new.self.vnodes.items (returns-in-Put-clause-goes o c)

pub returns-in-Get-clause-more : goal.returns-in-Get-clause-more
returns-in-Get-clause-more o c = goes_on_with_more c.args.turn.replies.now c.args.event.now c.get.result c.args.self.now.vnodes.items c.get.new.self.vnodes.items (returns-in-Get-clause-goes o c)

pub returns-in-Send-clause-more : goal.returns-in-Send-clause-more
returns-in-Send-clause-more o c = goes_on_with_more c.args.turn.replies.now c.args.event.now c.send.result c.args.self.now.vnodes.items c.send.new.self.vnodes.items (returns-in-Send-clause-goes o c)

pub returns-in-Deliver-clause-more : goal.returns-in-Deliver-clause-more
returns-in-Deliver-clause-more o c = goes_on_with_more c.args.turn.replies.now c.args.event.now c.deliver.result c.args.self.now.vnodes.items c.deliver.new.self.vnodes.items (returns-in-Deliver-clause-goes o c)

pub returns-in-Restart-clause-more : goal.returns-in-Restart-clause-more
returns-in-Restart-clause-more o c = goes_on_with_more c.args.turn.replies.now c.args.event.now c.restart.result c.args.self.now.vnodes.items c.restart.new.self.vnodes.items (returns-in-Restart-clause-goes o c)

pub returns-in-ResolveWrite-clause-more : goal.returns-in-ResolveWrite-clause-more
returns-in-ResolveWrite-clause-more o c = goes_on_with_more c.args.turn.replies.now c.args.event.now c.resolve_write.result c.args.self.now.vnodes.items c.resolve_write.new.self.vnodes.items (returns-in-ResolveWrite-clause-goes o c)

pub returns-in-Dump-clause-more : goal.returns-in-Dump-clause-more
returns-in-Dump-clause-more o c = goes_on_with_more c.args.turn.replies.now c.args.event.now c.dump.result c.args.self.now.vnodes.items c.dump.new.self.vnodes.items (returns-in-Dump-clause-goes o c)

pub returns-in-Summarize-clause-more : goal.returns-in-Summarize-clause-more
returns-in-Summarize-clause-more o c = goes_on_with_more c.args.turn.replies.now c.args.event.now c.summarize.result c.args.self.now.vnodes.items c.summarize.new.self.vnodes.items (returns-in-Summarize-clause-goes o c)

pub returns-in-SendPart-clause-more : goal.returns-in-SendPart-clause-more
returns-in-SendPart-clause-more o c = goes_on_with_more c.args.turn.replies.now c.args.event.now c.send_part.result c.args.self.now.vnodes.items c.send_part.new.self.vnodes.items (returns-in-SendPart-clause-goes o c)
