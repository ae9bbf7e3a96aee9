use Rattle.std.proofs.Common.{◌+◌, ◌∙◌, ap}
use Rattle.journal.specs.Entry.{Read}
use Rattle.vnode.proofs.ReadLemmas.{one_more_read}
use Rattle.vnode.proofs.steps.reads_in.Goals as goal

pub loop-index-preserved : goal.loop-index-preserved
loop-index-preserved c =
    one_more_read c.args.stamp c.args.copies.now c.loop-index.index c.index-copies-index.result c.loop-index.reads.items c.push.new.self.items c.read.result c.loop-index-test.true c.index-copies-index.is c.loop-index.invariant
    (c.read.ensures ∙ ap (Read (c.args.stamp + c.loop-index.index)) c.in_ok-copy.ensures) c.in_ok-push.ensures.items
