use Rattle.std.proofs.Common.{◌≡◌, drop}
use Rattle.record_codec.specs.Reading.{no_dot}
use Rattle.peer_messages.specs.Limits.{are_following}
use Rattle.peer_messages.proofs.limits.are_following.Given as goal

abbrev pub invariant-loop-dot : goal.invariant-loop-dot
invariant-loop-dot l = are_following l.clock l.last (drop l.dot-index l.dots) ≡ are_following l.clock no_dot l.dots
