use Rattle.std.proofs.Common.{◌≡◌, take}
use Rattle.std.specs.List.{flat_map}
use Rattle.kept_file.specs.Numbers.{above, ids_in}
use Rattle.kept_file.proofs.number.above_files.Given as goal

abbrev pub invariant-loop-file : goal.invariant-loop-file
invariant-loop-file l = record {
  exact : l.next ≡ above l.least (flat_map ids_in (take l.file-index l.files));
}
