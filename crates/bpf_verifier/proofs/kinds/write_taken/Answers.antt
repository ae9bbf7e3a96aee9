use Rattle.std.proofs.Common.{rules, sym, subst}
use Rattle.bpf_verifier.specs.Rows.{StartsZero}
use Rattle.bpf_verifier.proofs.Zeros.{zeros_alike, taken_zeros}
use Rattle.bpf_verifier.proofs.kinds.write_taken.Goals as goal

pub copy_refined-requires : goal.copy_refined-requires
copy_refined-requires g c = (search rules, (c.requires.registers, (c.requires.short, (zeros_alike c.args.profile c.args.low c.args.taken.now c.args.row.now c.requires.zeros c.requires.known.zeros, c.requires.known.kinds))))

pub returns-clause-known : goal.returns-clause-known
returns-clause-known g c = record {
  kinds = c.copy_refined.ensures.kinds;
  zeros = subst (StartsZero c.args.profile c.args.low) (sym c.copy_refined.ensures.table) (taken_zeros c.args.profile c.args.low c.args.row.now c.args.insn c.requires.known.zeros);
}
