use Rattle.audit_replay.proofs.Firsts.{heads_more}
use Rattle.audit_replay.proofs.turns.heads_of.Goals as goal

pub loop-index-preserved : goal.loop-index-preserved
loop-index-preserved c = heads_more c.args.journals.now c.args.counts.now c.loop-index.index c.loop-index.heads c.join.new.heads c.loop-index.invariant c.in_ok-join.ensures
