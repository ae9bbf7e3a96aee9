use Rattle.std.proofs.Common.{◌≡◌, [], length, vec_len, vec_capacity}
use Rattle.cluster_vnode.specs.Gathers.{AreVnodes}
use Rattle.cluster_vnode.proofs.gathering.join_vnodes.Given as goal

abbrev pub invariant-loop-lock : goal.invariant-loop-lock
invariant-loop-lock g l = record {
  can : (goal.iterator-loop-lock g).can_next l.lock-iterator × (goal.iterator-loop-lock g).is_finite l.lock-iterator;
  table : l.all.table_id ≡ g.B.Room.table;
  slots : l.all.me.1 ≡ [];
  same : (l.all.me.0.parts ≡ l.initial.all.me.0.parts) × (l.all.me.0.told ≡ l.initial.all.me.0.told);
  pending : l.all.me.0.pending ≡ [];
  owed : l.all.me.0.owed ≡ [];
  vnodes : AreVnodes l.vnodes.items l.all.me.0.histories;
  count : length l.all.me.0.histories ≡ length l.yielded;
  room : vec_len l.vnodes ≡ length l.yielded;
  capacity : vec_capacity l.vnodes ≡ vec_capacity l.initial.vnodes;
}
