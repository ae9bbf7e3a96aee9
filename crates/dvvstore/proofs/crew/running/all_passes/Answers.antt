use Rattle.std.proofs.Common.{refl}
use Rattle.std.specs.List.{All}
use Rattle.std.proofs.lemmas.List.Elements.{All-push, All-same}
use Rattle.cluster_stamps.specs.declared.view.View.{View}
use Rattle.dvvstore.specs.Reads.{IsRead}
use Rattle.dvvstore.proofs.Taking.{copied_one, counted_one}
use Rattle.dvvstore.proofs.crew.running.all_passes.Goals as goal

pub loop-worker-preserved : goal.loop-worker-preserved
loop-worker-preserved g c = record {
  can = (tt, tt);
  all = copied_one (λ p. p.pass) _ _ _ _ _ c.loop-worker.invariant.all c.in_ok-push.ensures.items refl;
  asides = copied_one (λ p. p.aside) _ _ _ _ _ c.loop-worker.invariant.asides c.in_ok-push-2.ensures.items c.into_pass.ensures.pass;
  read = All-same (λ (p : View). All IsRead p.told) _ _ c.in_ok-push-2.ensures.items (All-push (λ (p : View). All IsRead p.told) _ _ c.loop-worker.invariant.read c.into_pass.ensures.read);
  many = counted_one (λ p. p.pass) _ _ _ _ c.push.new.self.ok.0 (copied_one (λ p. p.pass) _ _ _ _ _ c.loop-worker.invariant.all c.in_ok-push.ensures.items refl);
  others = counted_one (λ p. p.aside) _ _ _ _ c.push-in-loop-worker.new.self.ok.0 (copied_one (λ p. p.aside) _ _ _ _ _ c.loop-worker.invariant.asides c.in_ok-push-2.ensures.items c.into_pass.ensures.pass);
}
