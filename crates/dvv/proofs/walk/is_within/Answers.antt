use mathlib.Core.Bool.{false≢true}
use Rattle.std.proofs.Common.{arith, refl, ◌+◌}
use Rattle.dvv.proofs.Clocks.{rising_lower}
use Rattle.dvv.proofs.Walks.{left_all, below_none, next_step, below_next, below_all, not_within, walk_falls}
use Rattle.dvv.proofs.walk.is_within.Goals as goal

pub loop-counts-init : goal.loop-counts-init
loop-counts-init c = (0, left_all _ _ c.requires.small.rising c.requires.large.rising, below_none _ _)

pub next_vnode_of-requires-clause-own : goal.next_vnode_of-requires-clause-own
next_vnode_of-requires-clause-own c = rising_lower 0 c.loop-counts.invariant.0 _ (omega arith) c.loop-counts.invariant.1.own_rising

pub next_vnode_of-requires-clause-other : goal.next_vnode_of-requires-clause-other
next_vnode_of-requires-clause-other c = rising_lower 0 c.loop-counts.invariant.0 _ (omega arith) c.loop-counts.invariant.1.other_rising

-- a vnode counts more here
pub returns-then-counts : goal.returns-then-counts
returns-then-counts c =
    let step = next_step _ _ _ _ _ _ _ _ _ _ c.loop-counts.invariant.1 c.in-Some.ensures.next in
    (λ t. absurd (false≢true t), λ within. absurd (not_within _ _ c.in-Some.counts.vnode (omega (arith, step.own_counts, step.other_counts)) within))

pub loop-counts-smaller : goal.loop-counts-smaller
loop-counts-smaller c = walk_falls _ _ _ _ _ _ _ c.in-Some.ensures.next

pub loop-counts-preserved : goal.loop-counts-preserved
loop-counts-preserved c =
    let step = next_step _ _ _ _ _ _ _ _ _ _ c.loop-counts.invariant.1 c.in-Some.ensures.next in
    (c.in-Some.counts.vnode + 1, step.left, below_next _ _ _ _ _ _ _ _ step c.loop-counts.invariant.2 (omega arith))

pub returns : goal.returns
returns c = (λ t. below_all _ _ _ _ _ c.loop-counts.invariant.1 c.loop-counts.invariant.2 c.in_default.ensures.none, λ within. refl)
