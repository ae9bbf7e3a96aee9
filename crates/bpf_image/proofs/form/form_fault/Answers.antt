use Rattle.bpf_image.proofs.Reach.{clear}
use Rattle.bpf_image.proofs.form.form_fault.Goals as goal

pub walk-requires-clause-clear : goal.walk-requires-clause-clear
walk-requires-clause-clear c = clear 4096
