use Rattle.std.proofs.Common.{◌+◌, ◌∙◌, arith, drop, sym, subst}
use Rattle.dvv.specs.Clock.{Covers}
use Rattle.key_state.specs.declared.content.Sibling.{Sibling}
use Rattle.key_state.proofs.Merges.{drop_is, front_of, order_drop, begins_inside, alike_inside, drops_here, drops_other, drops_both}
use Rattle.key_state.proofs.merging.drops_some.Goals as goal

pub returns-in-Own : goal.returns-in-Own
returns-in-Own c = sym (drops_here _ _ (drop (c.loop-i.i + 1) c.args.own.now) c.index-own-i.result c.args.other_clock.now (drop_is c.args.own.now c.loop-i.i c.index-own-i.result c.loop-i-test.true c.index-own-i.is) c.in-Own.ensures (subst (λ (s : Sibling). Covers c.args.other_clock.now s.dot) (sym c.index-own-i.is) (c.covers.ensures.0 c.if-covers.true))) ∙ c.loop-i.invariant.2

pub loop-i-preserved-in-Other : goal.loop-i-preserved-in-Other
loop-i-preserved-in-Other c =
    let inside = begins_inside c.args.others.now (drop c.loop-i.i c.args.own.now) c.loop-i.j c.in-Other.ensures in
    let other = front_of c.args.others.now c.loop-i.j inside in
    (c.loop-i.invariant.0, omega (arith, inside), sym (drops_other _ _ (drop (c.loop-i.j + 1) c.args.others.now) other.0 c.args.other_clock.now other.1 c.in-Other.ensures) ∙ c.loop-i.invariant.2)

pub loop-i-preserved : goal.loop-i-preserved
loop-i-preserved c =
    let inside = alike_inside c.args.own.now c.args.others.now c.loop-i.i c.loop-i.j c.in-Both.ensures in
    let own = front_of c.args.own.now c.loop-i.i inside.0 in
    let other = front_of c.args.others.now c.loop-i.j inside.1 in
    (omega (arith, inside.0), omega (arith, inside.1), sym (drops_both _ _ (drop (c.loop-i.i + 1) c.args.own.now) (drop (c.loop-i.j + 1) c.args.others.now) own.0 other.0 c.args.other_clock.now own.1 other.1 c.in-Both.ensures (order_drop c.args.own.now c.loop-i.i c.requires.order)) ∙ c.loop-i.invariant.2)
