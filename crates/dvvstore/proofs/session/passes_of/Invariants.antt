use Rattle.std.proofs.Common.{◌≡◌, length, map, vec_len}
use Rattle.dvvstore.proofs.session.passes_of.Given as goal

-- those of the loaders so far
abbrev pub invariant-loop-loader : goal.invariant-loop-loader
invariant-loop-loader g l = record {
  can : (goal.iterator-loop-loader g).can_next l.loader-iterator × (goal.iterator-loop-loader g).is_finite l.loader-iterator;
  same : l.passes.items ≡ map (λ s. s.pass) l.yielded;
  count : vec_len l.passes ≡ length l.yielded;
}
