use Rattle.std.proofs.Common.{drop}
use Rattle.bpf_verifier.proofs.RowSteps.{kinds_drop, kinds_take}
use Rattle.bpf_explain.proofs.looks.call_touches.Goals as goal

pub helper_touches-requires-clause-kinds : goal.helper_touches-requires-clause-kinds
helper_touches-requires-clause-kinds c = kinds_take 5 (drop 1 c.args.row.now) (kinds_drop 1 c.args.row.now c.requires.kinds)
