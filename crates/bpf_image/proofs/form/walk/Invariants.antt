use Rattle.bpf_image.specs.Form.{IsWalked}
use Rattle.bpf_image.proofs.form.walk.Given as goal

abbrev pub invariant-loop-at : goal.invariant-loop-at
invariant-loop-at l = IsWalked l.code l.at l.reached
