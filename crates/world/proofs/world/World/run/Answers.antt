use Rattle.std.proofs.Common.{◌≡◌, ℕ, List, [], ◌∷◌, length, sym, subst, ap, ◌∙◌, arith}
use Rattle.journal.specs.Logs.{Log}
use Rattle.world.specs.Knowledge.{below, ids_under, start}
use Rattle.world.specs.Represents.{empty_logs}
use Rattle.world.specs.Running.{AreRunnableFrom, Begins, IsWorldFrom}
use Rattle.world.specs.Stamped.{AreStamped}
use Rattle.world.proofs.Beginnings.{length-empty}
use Rattle.world.proofs.Stamped.{none_stamped}
use Rattle.world.proofs.Whole.{start_begins, ids_are_below}
use Rattle.world.specs.Sources.{GoOnBy}
use Rattle.world.proofs.world.World.run.Goals as goal

pub go_on-requires-clause-few : goal.go_on-requires-clause-few
go_on-requires-clause-few g c =
    let count : length c.in_ok-opened.opened.items ≡ c.args.vnodes = ap (λ (ls : List Log). length ls) c.in_ok-opened.ensures ∙ length-empty 0 c.args.vnodes in
    let few = c.requires.few in omega (arith, count, few)

pub go_on-requires-clause-stamped : goal.go_on-requires-clause-stamped
go_on-requires-clause-stamped g c = subst (λ (ls : List Log). AreStamped ls 0) (sym c.in_ok-opened.ensures) (none_stamped (ids_under 0 c.args.vnodes))

pub go_on-requires-clause-runnable : goal.go_on-requires-clause-runnable
go_on-requires-clause-runnable g c = (0 ∷ [], subst (λ (n : ℕ). AreRunnableFrom (0 ∷ []) n c.args.table.now.listed c.args.events.now) (sym (ap (λ (ls : List Log). length ls) c.in_ok-opened.ensures ∙ length-empty 0 c.args.vnodes)) c.requires.runnable)

pub returns-clause-world : goal.returns-clause-world
returns-clause-world g c =
    let states : c.in_ok-opened.opened.items ≡ empty_logs (below c.args.vnodes) = c.in_ok-opened.ensures ∙ ap (λ (ids : List ℕ). empty_logs ids) (ids_are_below c.args.vnodes) in
    let count : length c.in_ok-opened.opened.items ≡ c.args.vnodes = ap (λ (ls : List Log). length ls) c.in_ok-opened.ensures ∙ length-empty 0 c.args.vnodes in
    subst (λ (n : ℕ). IsWorldFrom (start c.args.vnodes) n c.args.table.now.listed c.args.events.now (record { logs = c.go_on.new.self.vnodes.items; replies = c.in_ok-replies.replies.items })) count
    (c.in_ok-replies.ensures.world (start c.args.vnodes) (subst (λ (ls : List Log). Begins ls c.args.events.now (start c.args.vnodes)) (sym states) (start_begins c.args.vnodes c.args.table.now.listed c.args.events.now c.requires.few c.requires.runnable)))

pub returns-clause-sources : goal.returns-clause-sources
returns-clause-sources g c = subst (λ (ls : List Log). GoOnBy c.args.events.now c.in_ok-replies.replies.items ls c.go_on.new.self.vnodes.items) c.in_ok-opened.ensures c.in_ok-replies.ensures.goes
