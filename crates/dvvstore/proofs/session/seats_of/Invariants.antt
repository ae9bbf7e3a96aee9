use Rattle.std.proofs.Common.{◌≡◌, ◌≤◌, ◌++◌, length, map, reverse, vec_len}
use Rattle.std.specs.Vec.{vec_capacity}
use Rattle.dvvstore.specs.Crews.{AreAllPlaced}
use Rattle.dvvstore.proofs.session.seats_of.Given as goal

-- a seat for each pass so far, each with a table and a reader, which were the last of those that were left
abbrev pub invariant-loop-worker : goal.invariant-loop-worker
invariant-loop-worker g l = record {
  can : (goal.iterator-loop-worker g).can_next l.worker-iterator × (goal.iterator-loop-worker g).is_finite l.worker-iterator;
  seats : map (λ s. s.pass) l.seats.items ≡ map (λ p. p.pass) l.yielded;
  count : vec_len l.seats ≡ length l.yielded;
  room : vec_len l.initial.tables ≤ vec_capacity l.seats;
  tables : l.tables.items ++ reverse (map (λ s. s.hooking.table) l.seats.items) ≡ l.initial.tables.items;
  readers : l.readers.items ++ reverse (map (λ s. s.hooking.hooks) l.seats.items) ≡ l.initial.readers.items;
  placed : AreAllPlaced l.spread.vnodes l.spread.copies (map (λ s. s.placement) l.seats.items);
}
