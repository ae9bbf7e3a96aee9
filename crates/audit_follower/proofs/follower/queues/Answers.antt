use Rattle.journal.specs.Entry.{Entry}
use Rattle.audit_replay.proofs.Opening.{empties_more}
use Rattle.audit_follower.proofs.follower.queues.Goals as goal

pub loop-index-preserved : goal.loop-index-preserved
loop-index-preserved c = empties_more {X = Entry} c.loop-index.index c.loop-index.queues.items c.push.new.self.items c.new.result c.loop-index.invariant c.new.ensures c.in_ok-push.ensures.items
