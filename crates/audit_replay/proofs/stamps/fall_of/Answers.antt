use Rattle.std.proofs.Common.{arith}
use Rattle.audit_replay.proofs.Rising.{no_fall_more}
use Rattle.audit_replay.proofs.stamps.fall_of.Goals as goal

pub loop-place-preserved : goal.loop-place-preserved
loop-place-preserved c = no_fall_more c.args.journals.now c.args.index c.loop-place.place c.stamp_at.ensures.0 c.stamp_at-in-loop-place.ensures.0 (omega arith) c.loop-place.invariant c.stamp_at.ensures.1 c.stamp_at-in-loop-place.ensures.1 (omega (arith, c.stamp_at.ensures.2, c.stamp_at-in-loop-place.ensures.2))

pub returns : goal.returns
returns c = λ place lt falls. c.loop-place.invariant place (omega arith) falls
