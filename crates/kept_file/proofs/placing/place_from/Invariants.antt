use Rattle.std.proofs.Common.{length, ◌-◌}
use Rattle.kept_file.proofs.placing.place_from.Given as goal

abbrev pub decreases-loop-place : goal.decreases-loop-place
decreases-loop-place l = length l.records - l.place
