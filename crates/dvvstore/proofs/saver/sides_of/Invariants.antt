use Rattle.std.proofs.Common.{◌≡◌, ◌≤◌, length, map, vec_capacity, vec_len}
use Rattle.dvvstore.proofs.Sides.{reach}
use Rattle.dvvstore.proofs.saver.sides_of.Given as goal

-- a side for each pass so far
abbrev pub invariant-loop-pass : goal.invariant-loop-pass
invariant-loop-pass g l = record {
  can : (goal.iterator-loop-pass g).can_next l.pass-iterator × (goal.iterator-loop-pass g).is_finite l.pass-iterator;
  each : map (λ s. s.peers) l.sides.items ≡ map (reach l.cluster) l.yielded;
  count : vec_len l.sides ≡ length l.yielded;
  room : vec_len l.fn.passes ≤ vec_capacity l.sides;
}
