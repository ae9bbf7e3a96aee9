use Rattle.std.proofs.Common.{◌-◌, length}
use Rattle.bpf_verifier.proofs.cells.+touch_from.Given as goal

abbrev pub decreases-touch_from : goal.decreases-touch_from
decreases-touch_from l = length l.row.now - l.at
