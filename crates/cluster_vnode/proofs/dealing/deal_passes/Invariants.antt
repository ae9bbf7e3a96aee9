use Rattle.std.proofs.Common.{◌≡◌, ◌-◌, [], vec_len, vec_capacity}
use Rattle.std.specs.List.{All}
use Rattle.cluster_stamps.specs.declared.view.View.{View}
use Rattle.cluster_vnode.specs.Calls.{undealt, pass_view}
use Rattle.cluster_vnode.proofs.dealing.deal_passes.Given as goal

abbrev pub invariant-loop-dealt : goal.invariant-loop-dealt
invariant-loop-dealt g l = record {
  table : l.card.table_id ≡ g.B.Room.table;
  card : l.card.me ≡ (undealt (l.count - l._dealt) l.initial.card.me.0.histories, []);
  count : vec_len l.passes ≡ l._dealt;
  capacity : vec_capacity l.passes ≡ vec_capacity l.initial.passes;
  fresh : All (λ (p : View). p ≡ pass_view 0 []) l.passes.items;
}
