use Rattle.std.proofs.Common.{◌<◌, ◌≤◌, ◌⊎◌, inl, inr, ℕ, arith}
use Rattle.key_state.proofs.Merges.{begins_last, begins_before}
use Rattle.key_state.proofs.merging.next_side.Goals as goal

-- one of two is left, and it isn't the second
left_first : {i m j n : ℕ} → (i < m) ⊎ (j < n) → n ≤ j → i < m
left_first (inl h) past = h
left_first (inr h) past = absurd (omega arith)

pub returns-then-j-others : goal.returns-then-j-others
returns-then-j-others c = begins_last c.args.own.now c.args.others.now c.args.i c.args.j (left_first c.requires.left c.if-j-others.true) c.if-j-others.true

pub returns-then-i-own : goal.returns-then-i-own
returns-then-i-own c = begins_last c.args.others.now c.args.own.now c.args.j c.args.i c.if-j-others.false c.if-i-own.true

pub returns-then-is_before : goal.returns-then-is_before
returns-then-is_before c = begins_before c.args.own.now c.args.others.now c.args.i c.args.j c.index-own-i.result c.index-others-j.result c.if-i-own.false c.if-j-others.false c.requires.others_order c.index-own-i.is c.index-others-j.is (c.is_before.ensures.order.0 c.if-is_before.true)

pub returns-then-is_before-2 : goal.returns-then-is_before-2
returns-then-is_before-2 c = begins_before c.args.others.now c.args.own.now c.args.j c.args.i c.index-others-j.result c.index-own-i.result c.if-j-others.false c.if-i-own.false c.requires.order c.index-others-j.is c.index-own-i.is (c.is_before-2.ensures.order.0 c.if-is_before-2.true)
