use Rattle.std.proofs.Common.{◌≡◌, ◌++◌}
use Rattle.kept_hooks.specs.Replays.{no_contents}
use Rattle.kept_hooks.proofs.replaying.see_done.Given as goal

-- so many answers stand before what is left
abbrev pub invariant-loop-place : goal.invariant-loop-place
invariant-loop-place l = record {
  so_far : l.answers ≡ no_contents l.place ++ l.left;
}
