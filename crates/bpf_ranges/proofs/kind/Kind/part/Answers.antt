use Rattle.std.proofs.Common.{Some, sym, subst}
use Rattle.bpf_ranges.specs.Kinds.{Admits}
use Rattle.bpf_ranges.specs.Transfer.{part_value}
use Rattle.bpf_ranges.proofs.Words.{part_sound}
use Rattle.bpf_ranges.proofs.kind.Kind.part.Goals as goal

pub returns-clause-sound : goal.returns-clause-sound
returns-clause-sound c = λ n f h. subst (λ k. Admits k (Some (part_value c.args.part n))) (sym c.read_part.ensures.table) (part_sound c.args.profile c.args.part c.args.self n c.requires f h)
