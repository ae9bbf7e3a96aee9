use Rattle.std.specs.Prelude.{MatchOption}
use Rattle.audit_replay.specs.Sorting.{NoneFallsBelow, IsFirstFallBelow}
use Rattle.audit_replay.proofs.stamps.first_fall.Given as goal

abbrev pub invariant-loop-index : goal.invariant-loop-index
invariant-loop-index l = MatchOption l.first (NoneFallsBelow l.journals l.index) (λ fall. IsFirstFallBelow l.journals l.index fall)
