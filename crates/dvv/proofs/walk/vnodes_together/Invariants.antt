use Rattle.std.proofs.Common.{◌≡◌, ◌+◌, length}
use Rattle.dvv.specs.Clock.{AreRising, vnodes_together}
use Rattle.dvv.proofs.walk.vnodes_together.Given as goal

-- the vnodes walked and those left
abbrev pub invariant-loop-own_rest : goal.invariant-loop-own_rest
invariant-loop-own_rest l = record {
  own : AreRising 0 l.own_left;
  other : AreRising 0 l.other_left;
  count : l.count + vnodes_together l.own_left l.other_left ≡ vnodes_together l.own l.other;
}

abbrev pub decreases-loop-own_rest : goal.decreases-loop-own_rest
decreases-loop-own_rest l = length l.own_left + length l.other_left
