use Rattle.std.proofs.Common.{◌≡◌, ◌+◌, IfSome, take}
use Rattle.record_codec.specs.Lists.{AreSpelledBy}
use Rattle.commands.specs.Records.{records_from}
use Rattle.commands.proofs.records.spelled.Given as goal

-- the copies so far are spelled
abbrev pub invariant-loop-copy : goal.invariant-loop-copy
invariant-loop-copy l = record {
  spelled : AreSpelledBy (records_from l.copies.from l.copies.first (take l.copy-index l.copies.held.items)) l.bytes.items;
  place : IfSome l.place (λ place. place ≡ l.copies.first + l.copy-index);
}
