use Rattle.std.proofs.Common.{◌∙◌, ap, refl, sym}
use Rattle.journal.specs.Blocks.{all_of}
use Rattle.audit_follower.specs.Waiting.{Taken}
use Rattle.audit_cluster.proofs.Left.{left_taken}
use Rattle.audit_cluster.proofs.watch.Watch.take_left.Goals as goal

pub invariant_of-self-in-Some-get_mut : goal.invariant_of-self-in-Some-get_mut
invariant_of-self-in-Some-get_mut g c = (
  c.self.invariant.0,
  ap (λ (t : Taken). t.recent) c.take_blocks.ensures.same ∙ c.self.invariant.1,
  c.self.invariant.2,
  λ lost. left_taken g.B.Spot.first c.self.inside.vnodes c.self.inside.pass.told c.self.inside.follower c.take_blocks.new.follower c.self.inside.left c.take.new.self c.in-Some.left (all_of c.take_blocks.new.blocks.items) (c.self.invariant.3 lost)
      (sym c.take.ensures.value ∙ c.in-Some.is) c.take.ensures.after (c.if-not-take_blocks.ensures.all refl).0 (c.if-not-take_blocks.ensures.all refl).1 c.take_blocks.ensures.same,
)

pub invariant_of-self-2 : goal.invariant_of-self-2
invariant_of-self-2 g c = (
  c.self.invariant.0,
  ap (λ (t : Taken). t.recent) c.take_blocks.ensures.same ∙ c.self.invariant.1,
  c.self.invariant.2,
  λ lost. left_taken g.B.Spot.first c.self.inside.vnodes c.self.inside.pass.told c.self.inside.follower c.take_blocks.new.follower c.self.inside.left c.take.new.self c.in-Some.left (all_of c.take_blocks.new.blocks.items) (c.self.invariant.3 lost)
      (sym c.take.ensures.value ∙ c.in-Some.is) c.take.ensures.after (c.if-not-take_blocks.ensures.all refl).0 (c.if-not-take_blocks.ensures.all refl).1 c.take_blocks.ensures.same,
)
