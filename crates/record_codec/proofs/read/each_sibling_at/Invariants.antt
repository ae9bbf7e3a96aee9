use Rattle.std.proofs.Common.{◌≡◌, ◌-◌}
use Rattle.record_codec.specs.Reading.{chain_at, next_sibling, no_dot, sibling_at}
use Rattle.record_codec.proofs.Chains.{with_front}
use Rattle.record_codec.proofs.read.each_sibling_at.Given as goal

abbrev pub invariant-loop : goal.invariant-loop
invariant-loop l = with_front l.siblings.items (chain_at sibling_at (next_sibling l.clock) (l.count - l.counter) l.last l.rest) ≡ chain_at sibling_at (next_sibling l.clock) l.count no_dot l.bytes
