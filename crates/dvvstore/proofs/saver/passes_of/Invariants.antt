use Rattle.std.proofs.Common.{◌≡◌, ◌≤◌, length, map, vec_capacity, vec_len}
use Rattle.dvvstore.proofs.saver.passes_of.Given as goal

-- the pass of each side so far
abbrev pub invariant-loop-side : goal.invariant-loop-side
invariant-loop-side g l = record {
  can : (goal.iterator-loop-side g).can_next l.side-iterator × (goal.iterator-loop-side g).is_finite l.side-iterator;
  each : l.passes.items ≡ map (λ s. s.peers.pass) l.yielded;
  count : vec_len l.passes ≡ length l.yielded;
  room : vec_len l.fn.sides ≤ vec_capacity l.passes;
}
