use Rattle.audit_replay.specs.Turns.{AreHeadsBelow}
use Rattle.audit_replay.proofs.turns.heads_of.Given as goal

abbrev pub invariant-loop-index : goal.invariant-loop-index
invariant-loop-index l = AreHeadsBelow l.journals l.counts l.index l.heads
