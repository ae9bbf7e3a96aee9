use Rattle.key_state.proofs.placing.place_of.Goals as goal
use Rattle.key_state.proofs.Siblings.{gap_at, one_more_below}

pub loop-i-preserved : goal.loop-i-preserved
loop-i-preserved c = one_more_below c.args.siblings.now c.loop-i.i c.args.dot c.index-siblings-i.result c.loop-i-test.true c.requires.absent c.index-siblings-i.is (λ b. let t = c.is_before.ensures.order.1 b in let f = c.if-is_before.false in cc) c.loop-i.invariant

pub returns-then-is_before : goal.returns-then-is_before
returns-then-is_before c = gap_at c.args.siblings.now c.loop-i.i c.args.dot c.index-siblings-i.result c.loop-i-test.true c.requires.order c.index-siblings-i.is (c.is_before.ensures.order.0 c.if-is_before.true) c.loop-i.invariant
