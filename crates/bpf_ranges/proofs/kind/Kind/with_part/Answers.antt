use Rattle.std.proofs.Common.{Some, sym, subst}
use Rattle.bpf_ranges.specs.Kinds.{Admits}
use Rattle.bpf_ranges.specs.Transfer.{value_with}
use Rattle.bpf_ranges.proofs.Words.{written_sound}
use Rattle.bpf_ranges.proofs.kind.Kind.with_part.Goals as goal

pub returns-clause-sound : goal.returns-clause-sound
returns-clause-sound c = λ n old f h g. subst (λ k. Admits k (Some (value_with c.args.part n old))) (sym c.write_part.ensures.table) (written_sound c.args.part c.args.stored c.args.self n old c.requires.stored c.requires.cell f h g)
