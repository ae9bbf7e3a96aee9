use Rattle.std.proofs.Common.{arith}
use Rattle.std.proofs.lemmas.Grind.{common_steps}
use Rattle.dvvstore.proofs.Staying.{fresh_before}
use Rattle.dvvstore.proofs.session.loaders_of.Goals as goal

pub loop-taken-preserved : goal.loop-taken-preserved
loop-taken-preserved g c = record {
  left = grind (arith, common_steps);
  count = grind (arith, common_steps);
  fresh = fresh_before c.loop-taken.passes.items c.pop.new.self.items c.in-Some.pass c.loop-taken.invariant.fresh c.in-Some.ensures.items;
}
