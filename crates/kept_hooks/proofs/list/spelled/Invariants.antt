use Rattle.std.proofs.Common.{◌≡◌, take}
use Rattle.kept_hooks.specs.Spelling.{all_spelled}
use Rattle.kept_hooks.proofs.list.spelled.Given as goal

abbrev pub invariant-loop-request : goal.invariant-loop-request
invariant-loop-request l = l.bytes.items ≡ all_spelled (take l.request-index l.requests)
