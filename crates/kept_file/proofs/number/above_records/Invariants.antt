use Rattle.std.proofs.Common.{◌≡◌, take}
use Rattle.std.specs.List.{flat_map}
use Rattle.kept_file.specs.Numbers.{above, ids_of}
use Rattle.kept_file.proofs.number.above_records.Given as goal

abbrev pub invariant-loop-record : goal.invariant-loop-record
invariant-loop-record l = record {
  exact : l.next ≡ above l.least (flat_map ids_of (take l.record-index l.records));
}
