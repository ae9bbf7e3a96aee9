use Rattle.std.proofs.Common.{◌≡◌, ◌-◌}
use Rattle.record_codec.specs.Reading.{chain_at, dot_at, next_entry}
use Rattle.record_codec.proofs.Chains.{with_front}
use Rattle.record_codec.proofs.read.each_entry_at.Given as goal

abbrev pub invariant-loop : goal.invariant-loop
invariant-loop l = with_front l.entries.items (chain_at dot_at next_entry (l.count - l.counter) l.bound l.rest) ≡ chain_at dot_at next_entry l.count 0 l.bytes
