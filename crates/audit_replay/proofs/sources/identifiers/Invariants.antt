use Rattle.std.proofs.Common.{◌≡◌, take}
use Rattle.audit_replay.specs.Interleaved.{ids_of}
use Rattle.audit_replay.proofs.sources.identifiers.Given as goal

abbrev pub invariant-loop-index : goal.invariant-loop-index
invariant-loop-index l = l.ids.items ≡ take l.index (ids_of l.journals)
