use Rattle.std.proofs.Common.{◌≡◌, ◌<◌, ◌+◌, ◌*◌, ◌^◌, length, drop}
use Rattle.hook_abi.specs.Input.{rows, values}
use Rattle.hook_abi.proofs.Writing.{Partly}
use Rattle.hook_abi.proofs.input.write_rows.Given as goal

abbrev pub invariant-loop-sibling : goal.invariant-loop-sibling
invariant-loop-sibling l = record {
  place : l.writer.at ≡ l.fn.writer.at + 24 * l.sibling-index;
  short : l.offset + length (values (drop l.sibling-index l.siblings)) < 2 ^ 32;
  part : Partly l.fn.writer l.writer (rows l.first l.siblings) (rows l.offset (drop l.sibling-index l.siblings));
}
