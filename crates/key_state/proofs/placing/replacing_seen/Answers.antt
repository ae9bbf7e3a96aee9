use Rattle.key_state.proofs.placing.replacing_seen.Goals as goal
use Rattle.key_state.proofs.Siblings.{in_order_kept, absent_kept, replaces}

pub insert_sibling-requires-clause-order : goal.insert_sibling-requires-clause-order
insert_sibling-requires-clause-order c = rw c.in_ok-new.ensures.kept (in_order_kept _ _ c.requires.order)

pub insert_sibling-requires-clause-absent : goal.insert_sibling-requires-clause-absent
insert_sibling-requires-clause-absent c = rw c.in_ok-new.ensures.kept (absent_kept c.args.seen.now c.args.siblings.now c.args.sibling.dot c.requires.absent)

pub returns : goal.returns
returns c = replaces c.args.siblings.now c.in_ok-new.new.items c.insert_sibling.new.siblings.items c.args.seen.now c.args.sibling c.in_ok-new.ensures.kept c.insert_sibling.ensures
