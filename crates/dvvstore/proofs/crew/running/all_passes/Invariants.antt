use Rattle.std.proofs.Common.{◌≡◌, length, map, vec_len}
use Rattle.std.specs.List.{All}
use Rattle.cluster_stamps.specs.declared.view.View.{View}
use Rattle.dvvstore.specs.Reads.{IsRead}
use Rattle.dvvstore.proofs.crew.running.all_passes.Given as goal

-- those of the workers so far
abbrev pub invariant-loop-worker : goal.invariant-loop-worker
invariant-loop-worker g l = record {
  can : (goal.iterator-loop-worker g).can_next l.worker-iterator × (goal.iterator-loop-worker g).is_finite l.worker-iterator;
  all : l.all.items ≡ map (λ p. p.pass) l.yielded;
  asides : l.asides.items ≡ map (λ p. p.aside) l.yielded;
  read : All (λ (p : View). All IsRead p.told) l.asides.items;
  many : vec_len l.all ≡ length l.yielded;
  others : vec_len l.asides ≡ length l.yielded;
}
