use Rattle.std.proofs.Common.{◌≡◌, drop}
use Rattle.kept_hooks.specs.Lists.{renews}
use Rattle.kept_hooks.proofs.standing.renews.Given as goal

abbrev pub invariant-loop-request : goal.invariant-loop-request
invariant-loop-request l = renews l.name (drop l.request-index l.requests) ≡ renews l.name l.requests
