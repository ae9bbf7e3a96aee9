use Rattle.bpf_verifier.proofs.RowSteps.{kinds_set}
use Rattle.bpf_verifier.proofs.kinds.put.Goals as goal

pub returns-then-at-row-clause-kinds : goal.returns-then-at-row-clause-kinds
returns-then-at-row-clause-kinds c = λ row kind. kinds_set c.args.row.now c.args.at c.args.kind row kind
