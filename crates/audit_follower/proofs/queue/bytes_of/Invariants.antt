use Rattle.std.proofs.Common.{◌≡◌, take}
use Rattle.std.specs.Prelude.{sum_by}
use Rattle.audit_replay.specs.Sizes.{entry_bytes}
use Rattle.audit_follower.proofs.queue.bytes_of.Given as goal

-- the bytes of the entries so far
abbrev pub invariant-loop-entry : goal.invariant-loop-entry
invariant-loop-entry l = l.bytes ≡ sum_by entry_bytes (take l.entry-index l.entries)
