use Rattle.std.proofs.Common.{sym, subst}
use Rattle.bpf_verifier.specs.Rows.{StartsZero}
use Rattle.bpf_verifier.proofs.PairRows.{narrowed_zeros}
use Rattle.bpf_verifier.proofs.edges.narrowed_edge.Goals as goal

pub narrow-requires : goal.narrow-requires
narrow-requires g c = c.in_ok-target.ensures.known.0.kinds

pub returns-clause-known : goal.returns-clause-known
returns-clause-known g c = (
  record {
    kinds = c.narrow.ensures.kinds;
    zeros = subst (StartsZero c.args.profile c.args.low) (sym c.narrow.ensures.table) (narrowed_zeros c.args.names.now c.args.insn c.args.profile c.args.pairs c.args.profile c.args.low c.taken_edge.new.taken c.in_ok-target.ensures.zeros);
  },
  tt,
)

pub returns-clause-zeros : goal.returns-clause-zeros
returns-clause-zeros g c = subst (StartsZero c.args.profile c.args.low) (sym c.narrow.ensures.table) (narrowed_zeros c.args.names.now c.args.insn c.args.profile c.args.pairs c.args.profile c.args.low c.taken_edge.new.taken c.in_ok-target.ensures.zeros)
