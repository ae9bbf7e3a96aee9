use Rattle.std.proofs.Common.{◌≡◌, None, take}
use Rattle.std.specs.List.{fold}
use Rattle.kept_hooks.specs.Lists.{bound_after}
use Rattle.kept_hooks.proofs.standing.bound_name.Given as goal

abbrev pub invariant-loop-request : goal.invariant-loop-request
invariant-loop-request l = l.name ≡ fold (bound_after l.bucket l.phase) None (take l.request-index l.requests)
