use Rattle.std.proofs.Common.{◌≡◌, ◌+◌, ◌-◌, [], vec_len, vec_capacity}
use Rattle.cluster_stamps.specs.Rule.{fresh}
use Rattle.cluster_vnode.specs.Calls.{undealt}
use Rattle.cluster_vnode.proofs.dealing.deal_vnodes.Given as goal

abbrev pub invariant-loop-number : goal.invariant-loop-number
invariant-loop-number g l = record {
  table : l.card.table_id ≡ g.B.Room.table;
  card : l.card.me ≡ (undealt 0 (fresh (l.size.first + l.number) (l.size.vnodes - l.number)), []);
  count : vec_len l.locks ≡ l.number;
  capacity : vec_capacity l.locks ≡ vec_capacity l.initial.locks;
}
