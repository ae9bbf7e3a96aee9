use Rattle.std.proofs.Common.{take}
use Rattle.kept_file.specs.Placed.{AreTheirs, HasAll}
use Rattle.kept_file.proofs.placing.records_for.Given as goal

-- the files before were looked at
abbrev pub invariant-loop-place : goal.invariant-loop-place
invariant-loop-place l = record {
  all : HasAll l.stand.placement.now l.stand.vnode (take l.place l.files) l.records.items;
  theirs : AreTheirs l.stand.placement.now l.stand.vnode l.files l.records.items;
}
