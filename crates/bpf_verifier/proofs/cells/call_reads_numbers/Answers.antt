use Rattle.std.proofs.Common.{drop}
use Rattle.bpf_verifier.proofs.RowSteps.{kinds_drop, kinds_take}
use Rattle.bpf_verifier.proofs.cells.call_reads_numbers.Goals as goal

pub reads_numbers-requires-clause-kinds : goal.reads_numbers-requires-clause-kinds
reads_numbers-requires-clause-kinds c = kinds_take 5 (drop 1 c.args.row.now) (kinds_drop 1 c.args.row.now c.requires.kinds)
