use Rattle.std.proofs.Common.{◌≡◌, ◌≤◌, take}
use Rattle.journal.specs.Logs.{with_entries, max_entries}
use Rattle.world.specs.Beginning.{merges_of}
use Rattle.world.proofs.beginning.merge_all.Given as goal

abbrev pub invariant-loop-place : goal.invariant-loop-place
invariant-loop-place l = record {
  merged : l.vnode ≡ with_entries l.initial.vnode (merges_of 0 (take l.place l.records));
  few : l.place ≤ max_entries;
}
