use Rattle.std.proofs.lemmas.Result.{IfErr-weaker}
use Rattle.audit_faults.specs.Codes.{IsOneOf, IsOfWhole}
use Rattle.audit_faults.specs.declared.fault.AuditFault.{AuditFault}
use Rattle.audit_faults.specs.declared.fault.EntryFault.TheVariants.{Twice, Falls}
use Rattle.audit_journals.proofs.Codes.{one_of_whole, source_of_whole}
use Rattle.audit_replay.proofs.Opening.{passed}
use Rattle.audit_journals.proofs.auditing.audit.Goals as goal

pub returns-in_err-check_rising-clause-codes : goal.returns-in_err-check_rising-clause-codes
returns-in_err-check_rising-clause-codes c =
    passed c.from_residual.result _ (λ (f : AuditFault). IsOneOf IsOfWhole f) c.from_residual.ensures.1 (one_of_whole Falls tt c.in_err-check_rising.field-0.0 c.in_err-check_rising.ensures.codes)

pub returns-in_err-check_single-clause-codes : goal.returns-in_err-check_single-clause-codes
returns-in_err-check_single-clause-codes c =
    passed c.from_residual-in_err-check_single.result _ (λ (f : AuditFault). IsOneOf IsOfWhole f) c.from_residual-in_err-check_single.ensures.1 (one_of_whole Twice tt c.in_err-check_single.field-0.0 c.in_err-check_single.ensures.codes)

pub returns-clause-codes : goal.returns-clause-codes
returns-clause-codes c = IfErr-weaker c.check_sources.result _ (λ (f : AuditFault). IsOneOf IsOfWhole f) source_of_whole c.check_sources.ensures.codes
