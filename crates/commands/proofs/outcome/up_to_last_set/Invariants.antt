use Rattle.std.proofs.Common.{◌≡◌, length}
use Rattle.commands.specs.Outcome.{up_to_last_set}
use Rattle.commands.proofs.outcome.up_to_last_set.Given as goal

abbrev pub invariant-loop-last : goal.invariant-loop-last
invariant-loop-last l = up_to_last_set l.rest ≡ up_to_last_set l.fn.bytes

abbrev pub decreases-loop-last : goal.decreases-loop-last
decreases-loop-last l = length l.rest
