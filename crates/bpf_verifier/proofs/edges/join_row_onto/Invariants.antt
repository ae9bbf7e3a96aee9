use Rattle.std.proofs.Common.{◌≡◌, ◌++◌, take, drop}
use Rattle.bpf_verifier.specs.Table.{join_rows, AreKinds}
use Rattle.bpf_verifier.proofs.edges.join_row_onto.Given as goal

abbrev pub invariant-loop-i : goal.invariant-loop-i
invariant-loop-i g l = record {
  joined : l.new ≡ join_rows l.profile (take l.i l.kept) (take l.i l.initial.new) ++ drop l.i l.initial.new;
  kinds : AreKinds l.new;
}

abbrev pub invariant-loop-cell : goal.invariant-loop-cell
invariant-loop-cell g l = record {
  joined : l.new ≡ join_rows l.profile (take l.cell l.kept) (take l.cell l.fn.new) ++ drop l.cell l.fn.new;
  kinds : AreKinds l.new;
}
