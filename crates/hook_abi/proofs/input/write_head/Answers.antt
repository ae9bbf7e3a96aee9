use Rattle.std.proofs.Common.{◌∙◌, ap}
use Rattle.std.specs.Int.{w32, to_le_bytes}
use Rattle.hook_abi.proofs.Writing.{and_then, as_bytes}
use Rattle.hook_abi.proofs.input.write_head.Goals as goal

pub returns : goal.returns
returns c = and_then (and_then (and_then (as_bytes (ap (to_le_bytes w32) (c.from.ensures ∙ c.number.ensures)) c.word.ensures) c.word-2.ensures) c.word-3.ensures) c.word-4.ensures
