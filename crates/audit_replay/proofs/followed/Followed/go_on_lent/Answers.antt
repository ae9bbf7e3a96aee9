use Rattle.std.proofs.Common.{subst, IfErr}
use Rattle.journal.specs.Entry.{Entry}
use Rattle.audit_faults.specs.declared.fault.AuditFault.{AuditFault}
use Rattle.audit_replay.specs.Wrong.{IsToldOf}
use Rattle.audit_replay.proofs.Telling.{lacked}
use Rattle.audit_replay.proofs.followed.Followed.go_on_lent.Goals as goal

pub returns-in-Ok-clause-told : goal.returns-in-Ok-clause-told
returns-in-Ok-clause-told c =
    let own = c.args.self.now in
    subst (λ (e : Entry). IfErr c.go_on.result (λ (fault : AuditFault). IsToldOf own.fronts.items own.vnodes.items own.recent c.args.index e fault)) c.in-Ok.ensures c.go_on.ensures.told

pub returns-in-Err-clause-told : goal.returns-in-Err-clause-told
returns-in-Err-clause-told c =
    let own = c.args.self.now in
    lacked own.fronts.items own.vnodes.items own.last own.recent own.answers.items c.args.index c.args.entry.now c.requires.run c.requires.above c.requires.place
