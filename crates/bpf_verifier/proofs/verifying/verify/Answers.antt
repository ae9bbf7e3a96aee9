use Rattle.std.proofs.Common.{sym, subst}
use Rattle.std.proofs.Math.Logic.{∥∥₁_elim, ∥∥₁_map}
use Rattle.std.proofs.Props.{props}
use Rattle.bpf_verifier.specs.Program.{program_of, HasLimits, IsSafeProgram}
use Rattle.bpf_verifier.specs.Table.{IsAccepted}
use Rattle.bpf_verifier.specs.Verdict.{IsRefused}
use Rattle.bpf_verifier.proofs.Soundness.{safe}
use Rattle.bpf_verifier.proofs.Lowering.{runs_of}
use Rattle.bpf_verifier.proofs.Visits.{only_memory}
use Rattle.bpf_verifier.proofs.Shape.{NextStarts, paired_by, paired_starts}
use Rattle.bpf_verifier.proofs.PlainPrograms.{well_behaved_accepted}
use Rattle.bpf_verifier.proofs.PlainWalks.{accepted_well_behaved}
use Rattle.std.proofs.lemmas.Result.{err_from_is_err_and}
use Rattle.bpf_verifier.proofs.verifying.verify.Goals as goal

pub returns-in_err-check_form-clause-only : goal.returns-in_err-check_form-clause-only
returns-in_err-check_form-clause-only c = λ accepted.
    let p = program_of c.args.image c.args.sigs.now in
    let e = err_from_is_err_and c.from_residual.result c.from_residual.ensures.1 in
    let fault = c.in_err-check_form.field-0.0 in
    rw (e.1, e.2) (only_memory p fault.rule fault.slot (c.in_err-check_form.ensures.refused c.args.sigs.now) (λ no. no accepted))

pub returns-in_err-check_form-clause-plain_only : goal.returns-in_err-check_form-clause-plain_only
returns-in_err-check_form-clause-plain_only c = λ plain good.
    let p = program_of c.args.image c.args.sigs.now in
    let law = c.code_is_paired.ensures in
    let paired = paired_by law.after_wide law.before_tail law.no_tail_first law.instructions p.code in
    let e = err_from_is_err_and c.from_residual.result c.from_residual.ensures.1 in
    let fault = c.in_err-check_form.field-0.0 in
    let starts : NextStarts p.code = ∥∥₁_elim c.args.image.is_code (hlevel props) (λ code. paired_starts p.code (paired code)) in
    rw (e.1, e.2) (only_memory p fault.rule fault.slot (c.in_err-check_form.ensures.refused c.args.sigs.now) (λ no. no (well_behaved_accepted p c.args.image.some_slots starts plain good)))

pub returns-in_err-lows-clause-plain_only : goal.returns-in_err-lows-clause-plain_only
returns-in_err-lows-clause-plain_only c = λ plain good.
    let p = program_of c.args.image c.args.sigs.now in
    let law = c.code_is_paired.ensures in
    let paired = paired_by law.after_wide law.before_tail law.no_tail_first law.instructions p.code in
    let e = err_from_is_err_and c.from_residual-in_err-lows.result c.from_residual-in_err-lows.ensures.1 in
    let fault = c.in_err-lows.field-0.0 in
    let starts : NextStarts p.code = ∥∥₁_elim c.args.image.is_code (hlevel props) (λ code. paired_starts p.code (paired code)) in
    let refused = subst (λ sigs. IsRefused (program_of c.args.image sigs) fault.rule fault.slot) c.in-Ok.ensures c.in_err-lows.ensures.refused in
    rw (e.1, e.2) (only_memory p fault.rule fault.slot refused (λ no. no (well_behaved_accepted p c.args.image.some_slots starts plain good)))

pub new-requires : goal.new-requires
new-requires c =
    let p = program_of c.args.image c.in-Ok.sigs in
    let law = c.code_is_paired.ensures in
    let paired = paired_by law.after_wide law.before_tail law.no_tail_first law.instructions p.code in
    let limits : HasLimits p = record { slots = c.args.image.few_slots; input = c.args.image.in_small; output = c.args.image.out_small } in
    record {
      safe = ∥∥₁_elim c.args.image.is_code (hlevel props) (λ code. safe c.kinds_are_sound.ensures p limits (paired code) c.args.image.some_slots c.in_ok-lows.ensures.ok);
      lowered = runs_of c.kinds_are_sound.ensures p limits (∥∥₁_map c.args.image.is_code paired) c.args.image.some_slots c.in_ok-lows.ensures.ok c.in_ok-lows.lows.items c.in_ok-lows.ensures.lowered;
    }

pub returns-clause-safe : goal.returns-clause-safe
returns-clause-safe c =
    let p = program_of c.args.image c.in-Ok.sigs in
    let law = c.code_is_paired.ensures in
    let paired = paired_by law.after_wide law.before_tail law.no_tail_first law.instructions p.code in
    subst IsSafeProgram (sym c.new.ensures)
    (∥∥₁_elim c.args.image.is_code (hlevel props)
    (λ code. safe c.kinds_are_sound.ensures p record { slots = c.args.image.few_slots; input = c.args.image.in_small; output = c.args.image.out_small } (paired code) c.args.image.some_slots c.in_ok-lows.ensures.ok))

pub returns-clause-plain_accepted : goal.returns-clause-plain_accepted
returns-clause-plain_accepted c = λ plain.
    let p = program_of c.args.image c.args.sigs.now in
    let law = c.code_is_paired.ensures in
    let paired = paired_by law.after_wide law.before_tail law.no_tail_first law.instructions p.code in
    let starts : NextStarts p.code = ∥∥₁_elim c.args.image.is_code (hlevel props) (λ code. paired_starts p.code (paired code)) in
    let accepted = subst (λ sigs. IsAccepted (program_of c.args.image sigs)) c.in-Ok.ensures c.in_ok-lows.ensures.ok in
    accepted_well_behaved p c.args.image.some_slots starts plain accepted
