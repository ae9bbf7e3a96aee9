use Rattle.std.proofs.Common.{ap, length}
use Rattle.std.specs.Int.{w32, to_le_bytes}
use Rattle.hook_abi.proofs.Writing.{and_then, as_bytes}
use Rattle.hook_abi.proofs.input.write_row.Goals as goal

pub returns : goal.returns
returns c = and_then (and_then (and_then (and_then c.word.ensures (as_bytes (ap (to_le_bytes w32) c.flag.ensures) c.word-2.ensures)) c.long.ensures) c.word-3.ensures) (as_bytes (ap (λ bytes. to_le_bytes w32 (length bytes)) c.shown.ensures) c.word-4.ensures)
