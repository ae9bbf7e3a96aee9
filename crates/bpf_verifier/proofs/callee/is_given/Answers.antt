use Rattle.std.proofs.Common.{drop}
use Rattle.bpf_verifier.proofs.RowSteps.{kinds_drop, kinds_take}
use Rattle.bpf_verifier.proofs.callee.is_given.Goals as goal

pub are_arguments-requires : goal.are_arguments-requires
are_arguments-requires c = kinds_take 5 (drop 1 c.args.row.now) (kinds_drop 1 c.args.row.now c.requires.kinds)
