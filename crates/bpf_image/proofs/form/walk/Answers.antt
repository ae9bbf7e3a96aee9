use Rattle.bpf_image.proofs.Reach.{walked_none}
use Rattle.bpf_image.proofs.form.walk.Goals as goal

pub loop-at-init : goal.loop-at-init
loop-at-init c = walked_none c.args.code.now c.args.reached.now c.requires.some c.requires.clear
