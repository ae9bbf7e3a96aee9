use Rattle.std.proofs.Common.{arith}
use Rattle.dvv.proofs.Walks.{walk_falls, walk_counts, walk_own, walk_other}
use Rattle.dvv.proofs.walk.vnodes_together.Goals as goal

pub loop-own_rest-smaller : goal.loop-own_rest-smaller
loop-own_rest-smaller c = walk_falls _ _ _ _ _ _ _ c.in-Some.ensures.next

pub loop-own_rest-preserved : goal.loop-own_rest-preserved
loop-own_rest-preserved c = record {
  own = walk_own _ _ _ _ _ _ _ c.in-Some.ensures.next;
  other = walk_other _ _ _ _ _ _ _ c.in-Some.ensures.next;
  count = omega (arith, c.loop-own_rest.invariant.count, walk_counts _ _ _ _ _ _ _ c.in-Some.ensures.next);
}
