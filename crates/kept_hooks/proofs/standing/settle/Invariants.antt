use Rattle.std.proofs.Common.{◌≡◌, ◌++◌, drop}
use Rattle.kept_hooks.specs.Lists.{settled}
use Rattle.kept_hooks.proofs.standing.settle.Given as goal

abbrev pub invariant-loop-place : goal.invariant-loop-place
invariant-loop-place l = l.left.items ++ settled l.name (drop l.place l.requests) ≡ settled l.name l.requests
