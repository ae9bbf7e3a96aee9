use Rattle.std.proofs.Common.{◌≡◌, ◌<◌, length}
use Rattle.journal.specs.Blocks.{all_of}
use Rattle.audit_cluster.specs.Following.{with_more}
use Rattle.audit_cluster.proofs.watch.take_blocks.Given as goal

-- what was taken of the blocks and what is left of them is all that they were
abbrev pub invariant-loop-block : goal.invariant-loop-block
invariant-loop-block l = record {
  same : with_more l.follower l.index (all_of l.blocks.items) ≡ with_more l.initial.follower l.index (all_of l.initial.blocks.items);
  inside : l.index < length l.follower.followed;
  waits : l.index < length l.follower.waiting;
}

abbrev pub decreases-loop-block : goal.decreases-loop-block
decreases-loop-block l = length l.blocks.items
