use Rattle.std.proofs.Common.{refl}
use Rattle.std.proofs.lemmas.Result.{err_from_is_err_and}
use Rattle.bpf_image.specs.Image.{IsFirstFault}
use Rattle.bpf_verifier.specs.Program.{program_of}
use Rattle.bpf_admission.specs.Admissions.{IsImageOf}
use Rattle.bpf_admission.proofs.Refusals.{by_broken}
use Rattle.bpf_admission.proofs.admit_image.Goals as goal

pub returns-in_err-verify-clause-refused : goal.returns-in_err-verify-clause-refused
returns-in_err-verify-clause-refused c =
    let bytes = c.args.bytes.now in
    let sigs = c.args.sigs.now in
    let e = err_from_is_err_and c.from_residual-in_err-verify.result c.from_residual-in_err-verify.ensures.1 in
    let of : IsImageOf bytes sigs (program_of c.in_ok-image.image sigs) = record { image = c.in_ok-image.ensures.found; sigs_are = refl } in
    rw (e.1, e.2) (by_broken (IsFirstFault bytes) (IsImageOf bytes sigs) (program_of c.in_ok-image.image sigs) c.in_err-verify.field-0.0 of c.in_err-verify.ensures.refused)
