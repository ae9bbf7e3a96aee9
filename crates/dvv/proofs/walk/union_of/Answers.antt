use Rattle.std.proofs.Common.{arith, ◌+◌, refl, length-append}
use Rattle.dvv.proofs.Clocks.{rising_lower, union_covers}
use Rattle.dvv.proofs.Walks.{next_step, walk_falls, walk_counts, joined_next, joined_all}
use Rattle.dvv.proofs.walk.union_of.Goals as goal

pub next_vnode-requires-clause-own : goal.next_vnode-requires-clause-own
next_vnode-requires-clause-own c = rising_lower 0 c.loop-counts.invariant.walked.0 _ (omega arith) c.loop-counts.invariant.walked.1.own_rising

pub next_vnode-requires-clause-other : goal.next_vnode-requires-clause-other
next_vnode-requires-clause-other c = rising_lower 0 c.loop-counts.invariant.walked.0 _ (omega arith) c.loop-counts.invariant.walked.1.other_rising

pub loop-counts-smaller : goal.loop-counts-smaller
loop-counts-smaller c = walk_falls _ _ _ _ _ _ _ c.in-Some.ensures.next

pub loop-counts-preserved : goal.loop-counts-preserved
loop-counts-preserved c =
    let step = next_step _ _ _ _ _ _ _ _ _ _ c.loop-counts.invariant.walked.1 c.in-Some.ensures.next in
    let joined = joined_next _ _ _ _ _ _ _ _ _ _ c.requires.own c.requires.other step c.in-Some.ensures.next.some refl c.loop-counts.invariant.walked.2 in
    record {
      walked = (c.in-Some.counts.vnode + 1, step.left, rw (c.push_reserved.ensures.items, c.greater.ensures) joined);
      count = rw c.push_reserved.ensures.items (simp length-append (omega (arith, c.loop-counts.invariant.count, walk_counts _ _ _ _ _ _ _ c.in-Some.ensures.next)));
      room = omega (arith, c.loop-counts.invariant.room, c.push_reserved.ensures.capacity);
    }

pub returns-clause-union : goal.returns-clause-union
returns-clause-union c = union_covers _ _ _ (joined_all _ _ _ _ _ _ c.loop-counts.invariant.walked.1 c.loop-counts.invariant.walked.2 c.in_default.ensures.none.0 c.in_default.ensures.none.1)
