use Rattle.std.proofs.Common.{List, sym, subst, ◌∙◌}
use Rattle.dvv.specs.declared.Dot.{Dot}
use Rattle.world.specs.declared.event.Seen.TheVariants.{Get as ContextOf}
use Rattle.world.specs.declared.event.Seen.{Seen}
use Rattle.world.specs.Happening.{Means}
use Rattle.world.specs.Running.{IsReadyContext, IsRefusedContext, IsFoundOrRefused}
use Rattle.world.proofs.Runs.{found_means, refusal_held}
use Rattle.world.proofs.turn.Turn.context.Goals as goal

pub returns-in-Found-clause-means : goal.returns-in-Found-clause-means
returns-in-Found-clause-means g c old remember =
    subst (λ (s : Seen). Means old s c.clock.result.now) (sym c.in-Get.is)
    (subst (λ (k : List Dot). Means old (ContextOf c.in-Get.get) k) (sym c.clock.ensures)
    (found_means c.args.self.replies.now old c.in-Get.get c.index-self-get.result c.in-Found.state remember (subst (IsReadyContext c.args.self.replies.now) c.in-Get.is c.requires.ready) c.index-self-get.is (c.index-self-get.is ∙ c.in-Found.is)))

pub returns-in-Refused-clause-refused : goal.returns-in-Refused-clause-refused
returns-in-Refused-clause-refused g c old remember = subst (λ (s : Seen). IsRefusedContext old s c.in-Refused.refusal) (sym c.in-Get.is) (refusal_held c.args.self.replies.now old c.in-Get.get c.index-self-get.result c.in-Refused.refusal IsFoundOrRefused remember (subst (IsReadyContext c.args.self.replies.now) c.in-Get.is c.requires.ready) c.index-self-get.is (c.index-self-get.is ∙ c.in-Refused.is))
