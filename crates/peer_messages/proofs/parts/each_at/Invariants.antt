use Rattle.std.proofs.Common.{◌≡◌, ◌-◌}
use Rattle.record_codec.specs.Reading.{chain_at, no_dot}
use Rattle.peer_messages.specs.Reading.{next_part, part_sibling_at}
use Rattle.record_codec.proofs.Chains.{with_front}
use Rattle.peer_messages.proofs.parts.each_at.Given as goal

abbrev pub invariant-loop : goal.invariant-loop
invariant-loop l = with_front l.siblings.items (chain_at part_sibling_at (next_part l.clock) (l.count - l.counter) l.last l.rest) ≡ chain_at part_sibling_at (next_part l.clock) l.count no_dot l.bytes
