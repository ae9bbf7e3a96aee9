use Rattle.std.proofs.Common.{◌≡◌, take}
use Rattle.std.specs.Prelude.{map}
use Rattle.dvv.specs.declared.Dot.{Dot}
use Rattle.kept_file.specs.Numbers.{above}
use Rattle.kept_file.proofs.number.above_entries.Given as goal

abbrev pub invariant-loop-entry : goal.invariant-loop-entry
invariant-loop-entry l = record {
  exact : l.next ≡ above l.least (map (λ (entry : Dot). entry.vnode) (take l.entry-index l.entries));
}
