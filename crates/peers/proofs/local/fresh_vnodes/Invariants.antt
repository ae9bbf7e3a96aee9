use Rattle.std.proofs.Common.{◌≡◌}
use Rattle.peers.specs.Locals.{fresh_from}
use Rattle.peers.proofs.local.fresh_vnodes.Given as goal

-- the vnodes so far
abbrev pub invariant-loop-index : goal.invariant-loop-index
invariant-loop-index l = (l.vnodes.items ≡ fresh_from l.first l.index)
