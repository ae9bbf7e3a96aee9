use Rattle.std.proofs.Common.{◌≡◌, ◌*◌, ◌+◌, [], vec_len}
use Rattle.std.specs.List.{All}
use Rattle.cluster_stamps.specs.declared.view.View.{View}
use Rattle.cluster_vnode.specs.Calls.{pass_view}
use Rattle.dvvstore.proofs.session.dealt.Given as goal

-- two of each worker were taken from the end
abbrev pub invariant-loop-dealt : goal.invariant-loop-dealt
invariant-loop-dealt g l = record {
  left : vec_len l.passes + 2 * l._dealt ≡ vec_len l.fn.passes;
  count : vec_len l.dealt ≡ l._dealt;
  fresh : All (λ (p : View). p ≡ pass_view 0 []) l.passes.items;
}
