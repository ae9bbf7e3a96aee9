use Rattle.std.proofs.Common.{◌≡◌, ◌+◌, length, drop}
use Rattle.hook_abi.specs.Input.{values}
use Rattle.hook_abi.proofs.input.room_after.Given as goal

abbrev pub invariant-loop-sibling : goal.invariant-loop-sibling
invariant-loop-sibling l = l.left + length (values l.siblings) ≡ l.room + length (values (drop l.sibling-index l.siblings))
