use Rattle.std.proofs.Common.{◌≤◌, ◌↔◌, ◌∙◌, List, subst, sym}
use Rattle.std.specs.Prelude.{IsTrue}
use Rattle.dvv.specs.declared.Dot.{Dot}
use Rattle.dvv.specs.Clock.{vnodes_together}
use Rattle.vnode.proofs.parts.part_refusal.Goals as goal

pub returns : goal.returns
returns c = (
  sym c.lacks.ensures ∙ c.if-lacks.false,
  c.merge_refusal.ensures c.args.state.now c.args.part.now.clock (subst (λ (clock : List Dot). IsTrue c.can_join.result ↔ (vnodes_together c.args.state.now.clock clock ≤ 1024)) c.clock.ensures c.can_join.ensures),
)
