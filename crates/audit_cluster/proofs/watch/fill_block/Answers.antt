use Rattle.std.proofs.Common.{◌+◌, refl, arith}
use Rattle.cluster_stamps.specs.declared.request.Request.TheVariants.{Restart}
use Rattle.audit_cluster.proofs.Taken.{made_restart, most_restarts, no_restart, no_restarts}
use Rattle.audit_cluster.proofs.watch.fill_block.Goals as goal

pub loop-init : goal.loop-init
loop-init g c = no_restarts (c.args.cluster.now.first + c.args.index) c.args.pass.now.told

pub loop-preserved : goal.loop-preserved
loop-preserved g c =
    made_restart (c.args.cluster.now.first + c.args.index) c.loop.counter (c.loop.counter + 1) c.in-Ok.receipt.place c.in-Ok.receipt.stamp c.in-Ok.field-0-0 Restart c.args.pass.now.told c.loop.pass.told c.call.new.pass.told c.loop.invariant (omega arith) c.in-Ok.ensures.ok.1.0 refl

pub returns-after-loop : goal.returns-after-loop
returns-after-loop g c = most_restarts (c.args.cluster.now.first + c.args.index) c.loop.counter 1025 c.args.pass.now.told c.loop.pass.told c.loop.invariant c.loop.auto.counter-end

pub returns-then-receipt-saturating_add : goal.returns-then-receipt-saturating_add
returns-then-receipt-saturating_add g c =
    made_restart (c.args.cluster.now.first + c.args.index) c.loop.counter 1025 c.in-Ok.receipt.place c.in-Ok.receipt.stamp c.in-Ok.field-0-0 Restart c.args.pass.now.told c.loop.pass.told c.call.new.pass.told c.loop.invariant c.loop-test.true c.in-Ok.ensures.ok.1.0 refl

pub returns-in-Err : goal.returns-in-Err
returns-in-Err g c = no_restart (c.args.cluster.now.first + c.args.index) c.loop.counter 1025 c.in-Err.field-0 Restart c.args.pass.now.told c.loop.pass c.call.new.pass c.loop.invariant c.loop-test.true c.in-Err.ensures.err refl
