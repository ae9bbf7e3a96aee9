use Rattle.std.proofs.Common.{List, ◌∙◌, subst, sym}
use Rattle.dvv.specs.declared.Dot.{Dot}
use Rattle.dvv.specs.Clock.{AddsEvent}
use Rattle.key_state.specs.declared.content.Sibling.{Sibling}
use Rattle.key_state.specs.Placing.{ReplacesSeen}
use Rattle.key_state.specs.State.{State, Puts}
use Rattle.key_state.proofs.Siblings.{absent_uncovered, next_uncovered, puts_state, puts_what}
use Rattle.key_state.proofs.state.KeyState.put_at.Goals as goal

pub replacing_seen-requires-clause-absent : goal.replacing_seen-requires-clause-absent
replacing_seen-requires-clause-absent c = rw c.siblings.ensures.all (absent_uncovered c.args.self.now.clock c.args.self.now.siblings c.args.dot c.siblings.ensures.state.covered (next_uncovered c.args.self.now.clock c.args.dot.vnode c.args.dot c.requires.next))

pub holding-requires-clause-covered : goal.holding-requires-clause-covered
holding-requires-clause-covered c =
    let s : Sibling = record { dot = c.args.dot; content = c.args.content } in
    let replaced : ReplacesSeen c.args.self.now.siblings c.in_ok-siblings.siblings.items c.args.seen.now s = subst (λ (xs : List Sibling). ReplacesSeen xs c.in_ok-siblings.siblings.items c.args.seen.now s) c.siblings.ensures.all c.in_ok-siblings.ensures in
    let adds : AddsEvent c.args.self.now.clock c.add.new.self c.args.dot = subst (λ (l : List Dot). AddsEvent l c.add.new.self c.args.dot) (c.in_ok-clock.ensures.same ∙ c.clock.ensures) c.in-Ok.ensures.adds in
    (puts_state c.args.self.now c.in_ok-siblings.siblings.items c.add.new.self c.args.seen.now s c.siblings.ensures.state replaced adds c.in-Ok.ensures.clock).covered

pub returns-clause-ok : goal.returns-clause-ok
returns-clause-ok c =
    let s : Sibling = record { dot = c.args.dot; content = c.args.content } in
    let replaced : ReplacesSeen c.args.self.now.siblings c.in_ok-siblings.siblings.items c.args.seen.now s = subst (λ (xs : List Sibling). ReplacesSeen xs c.in_ok-siblings.siblings.items c.args.seen.now s) c.siblings.ensures.all c.in_ok-siblings.ensures in
    let adds : AddsEvent c.args.self.now.clock c.add.new.self c.args.dot = subst (λ (l : List Dot). AddsEvent l c.add.new.self c.args.dot) (c.in_ok-clock.ensures.same ∙ c.clock.ensures) c.in-Ok.ensures.adds in
    subst (λ (state : State). Puts c.args.self.now state c.args.dot c.args.seen.now c.args.content) (sym (c.branch.view_is ∙ c.in_ok-self-inside.ensures))
    (puts_what c.args.self.now c.in_ok-siblings.siblings.items c.add.new.self c.args.seen.now s replaced adds)
