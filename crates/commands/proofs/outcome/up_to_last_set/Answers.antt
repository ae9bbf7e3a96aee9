use Rattle.commands.proofs.Trimmed.{passed, ended, begun}
use Rattle.commands.proofs.outcome.up_to_last_set.Goals as goal

pub loop-last-preserved : goal.loop-last-preserved
loop-last-preserved c =
    passed c.args.bytes.now c.loop-last.rest.now c.in-Some.front.now c.in-Some.last.now c.loop-last.invariant c.in-Some.ensures.cases.0 c.if-last-ne0.false

pub returns-then-last-ne0 : goal.returns-then-last-ne0
returns-then-last-ne0 c =
    ended c.args.bytes.now c.loop-last.rest.now c.in-Some.front.now c.in-Some.last.now c.loop-last.invariant c.in-Some.ensures.cases.0 c.if-last-ne0.true

pub returns-in_default : goal.returns-in_default
returns-in_default c = begun c.args.bytes.now c.loop-last.rest.now c.loop-last.invariant (c.in_default.ensures.cases)
