use Rattle.audit_replay.specs.Sorting.{NoneFallsIn}
use Rattle.audit_replay.proofs.stamps.fall_of.Given as goal

abbrev pub invariant-loop-place : goal.invariant-loop-place
invariant-loop-place l = NoneFallsIn l.journals l.index l.place
