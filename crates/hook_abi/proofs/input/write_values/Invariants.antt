use Rattle.std.proofs.Common.{◌≡◌, ◌+◌, length, drop}
use Rattle.hook_abi.specs.Input.{values}
use Rattle.hook_abi.proofs.Writing.{Partly}
use Rattle.hook_abi.proofs.input.write_values.Given as goal

abbrev pub invariant-loop-sibling : goal.invariant-loop-sibling
invariant-loop-sibling l = record {
  place : l.writer.at + length (values (drop l.sibling-index l.siblings)) ≡ l.fn.writer.at + length (values l.siblings);
  part : Partly l.fn.writer l.writer (values l.siblings) (values (drop l.sibling-index l.siblings));
}
