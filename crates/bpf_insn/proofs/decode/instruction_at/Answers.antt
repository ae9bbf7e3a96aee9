use Rattle.std.proofs.lemmas.Result.{err_from_is_err_and}
use Rattle.bpf_insn.proofs.decode.instruction_at.Goals as goal

pub returns-in_err-form-clause-err : goal.returns-in_err-form-clause-err
returns-in_err-form-clause-err c =
    let p = err_from_is_err_and c.from_residual.result c.from_residual.ensures.1 in
    rw (p.1, p.2) record { first = c.split_slot.result.0; more = c.split_slot.result.1.now; parts = c.split_slot.ensures.parts; fits = c.split_slot.ensures.fits; told = c.in_err-form.ensures.err c.split_slot.result.1.now }

pub returns-in_err-build-clause-err : goal.returns-in_err-build-clause-err
returns-in_err-build-clause-err c =
    let p = err_from_is_err_and c.from_residual-in_err-build.result c.from_residual-in_err-build.ensures.1 in
    rw (p.1, p.2) record { first = c.split_slot.result.0; more = c.split_slot.result.1.now; parts = c.split_slot.ensures.parts; fits = c.split_slot.ensures.fits; told = c.in_err-build.ensures.err c.split_slot.result.1.now }
