use Rattle.std.proofs.Common.{sym, subst, Some}
use Rattle.std.specs.Prelude.{IfOk}
use Rattle.bpf_alu.specs.Value.{value}
use Rattle.bpf_ranges.specs.Kinds.{Admits}
use Rattle.bpf_ranges.proofs.Operations.{transfer_sound}
use Rattle.bpf_ranges.proofs.operation.transfer.Goals as goal

pub returns-clause-sound : goal.returns-clause-sound
returns-clause-sound c = λ x y fx fy pa pb.
    subst (λ r. IfOk r (λ k. Admits k (Some (value c.args.op c.args.width x y)))) (sym c.transfer_kinds.ensures.table) (transfer_sound c.args.profile c.args.op c.args.width c.args.a c.args.b x y c.requires.left c.requires.right fx fy pa pb)
