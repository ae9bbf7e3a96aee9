use Rattle.std.proofs.Common.{sym, subst}
use Rattle.bpf_ranges.specs.Kinds.{Admits}
use Rattle.bpf_ranges.proofs.Joins.{join_left, join_right}
use Rattle.bpf_ranges.proofs.kind.join.Goals as goal

pub returns-clause-left : goal.returns-clause-left
returns-clause-left c = λ v h. subst (λ k. Admits k v) (sym c.join_kinds.ensures.table) (join_left c.args.profile c.args.a c.args.b v c.requires.left c.requires.right h)

pub returns-clause-right : goal.returns-clause-right
returns-clause-right c = λ v h. subst (λ k. Admits k v) (sym c.join_kinds.ensures.table) (join_right c.args.profile c.args.a c.args.b v c.requires.left c.requires.right h)
