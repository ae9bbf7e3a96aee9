use Rattle.std.proofs.Common.{List, sym, ap, subst, ◌∙◌}
use Rattle.std.specs.List.{list_any}
use Rattle.std.proofs.lemmas.Bool.{not-true}
use Rattle.dvv.specs.declared.Dot.{Dot}
use Rattle.dvv.specs.Clock.{Within, covers}
use Rattle.key_state.specs.declared.content.Sibling.{Sibling}
use Rattle.key_state.proofs.Same.{gives_way}
use Rattle.key_state.proofs.state.KeyState.gives_way_to.Goals as goal

pub returns-then-le-clause-merges : goal.returns-then-le-clause-merges
returns-then-le-clause-merges c t =
    let within : Within c.args.self.now.clock c.args.other.now.clock = subst (λ (l : List Dot). Within l c.args.other.now.clock) c.clock-clock.ensures (subst (Within c.clock-clock.result.now) c.clock-other_clock.ensures (c.le.ensures.0 c.if-le.true)) in
    gives_way c.args.self.now c.args.other.now c.siblings-own.ensures.state within (ap (list_any (λ (s : Sibling). covers c.args.self.now.clock s.dot)) (sym c.siblings-others.ensures.all) ∙ ap (λ (l : List Dot). list_any (λ (s : Sibling). covers l s.dot) c.siblings-others.result.now) (sym c.clock-clock.ensures) ∙ sym c.covers_some.ensures ∙ not-true _ t)
