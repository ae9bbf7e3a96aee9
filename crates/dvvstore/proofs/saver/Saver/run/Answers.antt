use Rattle.std.proofs.Common.{◌∙◌, refl}
use Rattle.dvvstore.proofs.Growing.{all_read_same, all_read_then}
use Rattle.dvvstore.proofs.saver.Saver.run.Goals as goal

pub loop-init : goal.loop-init
loop-init g c = record { read = all_read_same c.args.cluster.now.first c.args.spares.items; count = refl }

pub loop-preserved-in-loop : goal.loop-preserved-in-loop
loop-preserved-in-loop g c = record {
  read = all_read_then c.args.cluster.now.first c.args.spares.items c.loop.spares.items c.save-back.result.0.items c.loop.invariant.read c.save-back.ensures.read;
  count = c.save-back.ensures.count ∙ c.loop.invariant.count;
}
