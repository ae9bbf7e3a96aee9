use Rattle.std.proofs.Common.{◌≡◌, ◌++◌}
use Rattle.journal.proofs.blocks.Blocks.add_each.Given as goal

-- the entries so far were added
abbrev pub invariant-loop-entry : goal.invariant-loop-entry
invariant-loop-entry l = record {
  can : (goal.iterator-loop-entry).can_next l.entry-iterator × (goal.iterator-loop-entry).is_finite l.entry-iterator;
  added : l.self.entries ≡ l.initial.self.entries ++ l.yielded;
}
