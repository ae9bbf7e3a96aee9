use Rattle.std.proofs.Common.{◌≡◌, ◌<◌, max, Some, None}
use Rattle.std.specs.Prelude.{All, IfSome}
use Rattle.std.specs.BTreeMap.{get, values}
use Rattle.std.specs.Map.{values_of}
use Rattle.std.specs.Ordering.{nat_cmp}
use Rattle.http_connections.specs.Unsent.{held_at, most_held}
use Rattle.http_connections.proofs.seats.Seats.fullest.Given as goal

-- of those so far none holds more, and who holds so much is here
abbrev pub invariant-loop-number : goal.invariant-loop-number
invariant-loop-number l = record {
  most : max l.most (most_held (values_of l.number-iterator)) ≡ most_held (values l.self.by_number);
  found : All (λ e. get nat_cmp l.self.by_number e.0 ≡ Some e.1) l.number-iterator;
  holder : IfSome l.fullest (λ n. (held_at l.self.by_number n ≡ l.most) × (0 < l.most));
  none : l.fullest ≡ None → l.most ≡ 0;
}
