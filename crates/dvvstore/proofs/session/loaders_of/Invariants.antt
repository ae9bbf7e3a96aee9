use Rattle.std.proofs.Common.{◌≡◌, ◌+◌, [], vec_len}
use Rattle.std.specs.List.{All}
use Rattle.cluster_stamps.specs.declared.view.View.{View}
use Rattle.cluster_vnode.specs.Calls.{pass_view}
use Rattle.dvvstore.proofs.session.loaders_of.Given as goal

-- so many were taken from the end
abbrev pub invariant-loop-taken : goal.invariant-loop-taken
invariant-loop-taken g l = record {
  left : vec_len l.passes + l._taken ≡ vec_len l.fn.passes;
  count : vec_len l.loaders ≡ l._taken;
  fresh : All (λ (p : View). p ≡ pass_view 0 []) l.passes.items;
}
