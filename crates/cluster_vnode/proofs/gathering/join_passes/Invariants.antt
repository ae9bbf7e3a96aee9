use Rattle.std.proofs.Common.{◌≡◌, [], length}
use Rattle.std.specs.List.{flat_map}
use Rattle.cluster_stamps.specs.declared.view.View.{View}
use Rattle.cluster_vnode.proofs.gathering.join_passes.Given as goal

abbrev pub invariant-loop-pass : goal.invariant-loop-pass
invariant-loop-pass g l = record {
  can : (goal.iterator-loop-pass g).can_next l.pass-iterator × (goal.iterator-loop-pass g).is_finite l.pass-iterator;
  table : l.all.table_id ≡ g.B.Room.table;
  slots : l.all.me.1 ≡ [];
  parts : l.all.me.0.parts ≡ length l.yielded;
  told : l.all.me.0.told ≡ flat_map (λ (p : View). p.told) l.yielded;
  pending : l.all.me.0.pending ≡ [];
  owed : l.all.me.0.owed ≡ [];
  histories : l.all.me.0.histories ≡ [];
}
