use Rattle.std.proofs.Common.{refl}
use Rattle.bpf_verifier.specs.Program.{program_of}
use Rattle.bpf_admission.specs.Admissions.{IsProgramOf}
use Rattle.bpf_explain.proofs.explaining.explain.Goals as goal

pub returns-in-Some-clause-explained : goal.returns-in-Some-clause-explained
returns-in-Some-clause-explained c =
    let of : IsProgramOf c.args.bytes.now c.args.sigs.now (program_of c.in_ok-image.image c.args.sigs.now) = record { program = c.in_ok-image.ensures.found; sigs_are = refl } in
    (program_of c.in_ok-image.image c.args.sigs.now, of, c.malformed.ensures c.args.sigs.now)
