use Rattle.std.proofs.Common.{sym, subst, Some}
use Rattle.std.specs.Prelude.{IfOk}
use Rattle.bpf_alu.specs.Value.{swapped}
use Rattle.bpf_ranges.specs.Kinds.{Admits}
use Rattle.bpf_ranges.proofs.Operations.{swap_sound}
use Rattle.bpf_ranges.proofs.operation.transfer_swap.Goals as goal

pub returns-clause-sound : goal.returns-clause-sound
returns-clause-sound c = λ x p.
    subst (λ r. IfOk r (λ k. Admits k (Some (swapped c.args.kind c.args.bits x)))) (sym c.swap_kinds.ensures.table) (swap_sound c.args.profile c.args.kind c.args.bits c.args.a x p)
