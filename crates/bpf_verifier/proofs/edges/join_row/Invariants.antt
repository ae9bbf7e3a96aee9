use Rattle.std.proofs.Common.{◌≡◌, ◌++◌, take, drop}
use Rattle.bpf_verifier.specs.Table.{join_rows, AreKinds}
use Rattle.bpf_verifier.proofs.edges.join_row.Given as goal

abbrev pub invariant-loop-i : goal.invariant-loop-i
invariant-loop-i g l = record {
  joined : l.kept ≡ join_rows l.profile (take l.i l.initial.kept) (take l.i l.new) ++ drop l.i l.initial.kept;
  kinds : AreKinds l.kept;
}

abbrev pub invariant-loop-cell : goal.invariant-loop-cell
invariant-loop-cell g l = record {
  joined : l.kept ≡ join_rows l.profile (take l.cell l.fn.kept) (take l.cell l.new) ++ drop l.cell l.fn.kept;
  kinds : AreKinds l.kept;
}
