use Rattle.std.proofs.Common.{arith}
use Rattle.std.proofs.lemmas.Grind.{common_steps}
use Rattle.dvvstore.proofs.Staying.{fresh_before, fresh_last}
use Rattle.dvvstore.proofs.session.dealt.Goals as goal

pub new-requires : goal.new-requires
new-requires g c = record { fresh = fresh_last _ _ _ (fresh_before _ _ _ c.loop-dealt.invariant.fresh c.in-Some-Some.ensures.items) c.in-Some-Some.ensures'.items }

pub loop-dealt-preserved : goal.loop-dealt-preserved
loop-dealt-preserved g c = record {
  left = grind (arith, common_steps);
  count = grind (arith, common_steps);
  fresh = fresh_before _ _ _ (fresh_before _ _ _ c.loop-dealt.invariant.fresh c.in-Some-Some.ensures.items) c.in-Some-Some.ensures'.items;
}
