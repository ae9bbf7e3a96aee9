use Rattle.std.proofs.Common.{rules, ◌+◌}
use Rattle.kept_restore.proofs.Merging.{loading_none, loading_more}
use Rattle.kept_restore.proofs.loads.Loading.load.Goals as goal

pub loop-place-init : goal.loop-place-init
loop-place-init g c = loading_none c.args.pass.now (c.args.self.now.cluster.now.first + c.args.index) c.args.records.now

pub loop-place-preserved : goal.loop-place-preserved
loop-place-preserved g c = loading_more c.args.pass.now c.loop-place.pass c.merge.new.pass (c.args.self.now.cluster.now.first + c.args.index) c.args.records.now c.loop-place.place c.in-Ok.at c.index-records-place.result
    c.loop-place-test.true c.index-records-place.is (search rules) c.loop-place.invariant c.in-Ok.ensures.merged
