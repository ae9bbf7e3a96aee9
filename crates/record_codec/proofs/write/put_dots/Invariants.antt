use Rattle.std.proofs.Common.{◌≡◌, ◌++◌, take}
use Rattle.std.specs.List.{flat_map}
use Rattle.record_codec.specs.Records.{AreNarrow, dot}
use Rattle.record_codec.proofs.write.put_dots.Given as goal

abbrev pub invariant-loop-one : goal.invariant-loop-one
invariant-loop-one l = record {
  written : l.out.items ≡ l.fn.out.items ++ flat_map dot (take l.one-index l.dots);
  narrow : AreNarrow (take l.one-index l.dots);
}
