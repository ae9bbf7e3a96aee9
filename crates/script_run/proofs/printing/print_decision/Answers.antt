use Rattle.std.proofs.Common.{List, subst}
use Rattle.std.specs.Prelude.{Some, Ok, Err}
use Rattle.std.proofs.lemmas.Result.{on_ok_weaker}
use Rattle.key_state.specs.declared.content.Sibling.{Sibling}
use Rattle.bpf_verifier.specs.Program.{Program}
use Rattle.hook_abi.specs.Verdicts.{meaning_of}
use Rattle.hook_run.specs.Decisions.{IsDecision}
use Rattle.script_run.proofs.Clauses.{on_ok_both}
use Rattle.script_run.proofs.printing.print_decision.Goals as goal

pub returns-in-Ok : goal.returns-in-Ok
returns-in-Ok g c =
    let decision = subst (λ (hook : Program). IsDecision hook (Some c.args.check.now.new) c.args.state.now.siblings c.args.table.now.listed (Ok (meaning_of c.in-Ok.verdict))) c.program.ensures
    (subst (λ (ss : List Sibling). IsDecision c.program.result.now (Some c.args.check.now.new) ss c.args.table.now.listed (Ok (meaning_of c.in-Ok.verdict))) c.siblings.ensures.all c.in-Ok.ensures.decision) in
    on_ok_weaker c.print_verdict.result (λ text. (Ok (meaning_of c.in-Ok.verdict), record { decision = decision; told = tt }, text)) c.print_verdict.ensures

pub returns-in-Err : goal.returns-in-Err
returns-in-Err g c =
    let decision = subst (λ (hook : Program). IsDecision hook (Some c.args.check.now.new) c.args.state.now.siblings c.args.table.now.listed (Err c.in-Err.fault)) c.program.ensures
    (subst (λ (ss : List Sibling). IsDecision c.program.result.now (Some c.args.check.now.new) ss c.args.table.now.listed (Err c.in-Err.fault)) c.siblings.ensures.all c.in-Err.ensures.decision) in
    on_ok_both c.print_run_fault.result _ _ _ (λ told text. (Err c.in-Err.fault, record { decision = decision; told = told }, text)) c.print_run_fault.ensures.told c.print_run_fault.ensures.text
