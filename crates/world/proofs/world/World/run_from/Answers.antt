use Rattle.std.proofs.Common.{rules, ◌≡◌, ℕ, List, [], ◌∷◌, length, sym, subst, ap, ◌∙◌, arith}
use Rattle.std.specs.Prelude.{IfErr, slice_set}
use Rattle.journal.specs.Journals.{IsJournal}
use Rattle.journal.specs.Logs.{Log}
use Rattle.world.specs.Beginning.{RefusesRecordsAt, first_logs}
use Rattle.world.specs.Running.{AreRunnableFrom, Begins, IsWorldFrom}
use Rattle.world.specs.Stamped.{AreStamped}
use Rattle.world.proofs.Beginnings.{first_is, first_new, first_merged, first_stamped, length-first, first_stands}
use Rattle.world.specs.Sources.{GoOnBy}
use Rattle.world.proofs.world.World.run_from.Goals as goal

pub returns-in_err-merge_all-clause-refused : goal.returns-in_err-merge_all-clause-refused
returns-in_err-merge_all-clause-refused g c =
    subst (λ (l : Log). IfErr c.from_residual-in_err-merge_all.result (RefusesRecordsAt l c.args.records.now))
    (first_is c.args.incarnation c.args.vnodes c.in_ok-opened.opened.items c.index_mut.result.now c.requires.first c.in_ok-opened.ensures c.index_mut.ensures.value) (search rules)

pub go_on-requires-clause-few : goal.go_on-requires-clause-few
go_on-requires-clause-few g c =
    let logs : slice_set c.in_ok-opened.opened.items 0 c.merge_all.new.vnode ≡ first_logs c.args.incarnation c.args.vnodes c.args.records.now = first_merged c.args.incarnation c.args.vnodes c.args.records.now c.in_ok-opened.opened.items c.index_mut.result.now c.merge_all.new.vnode c.requires.first c.in_ok-opened.ensures c.index_mut.ensures.value c.in_ok-merge_all.ensures.merged in
    let count : length (slice_set c.in_ok-opened.opened.items 0 c.merge_all.new.vnode) ≡ c.args.vnodes = ap (λ (ls : List Log). length ls) logs ∙ length-first c.args.incarnation c.args.vnodes c.args.records.now in
    let few = c.requires.few in omega (arith, count, few)

pub go_on-requires-clause-stamped : goal.go_on-requires-clause-stamped
go_on-requires-clause-stamped g c =
    let logs : slice_set c.in_ok-opened.opened.items 0 c.merge_all.new.vnode ≡ first_logs c.args.incarnation c.args.vnodes c.args.records.now = first_merged c.args.incarnation c.args.vnodes c.args.records.now c.in_ok-opened.opened.items c.index_mut.result.now c.merge_all.new.vnode c.requires.first c.in_ok-opened.ensures c.index_mut.ensures.value c.in_ok-merge_all.ensures.merged in
    subst (λ (ls : List Log). AreStamped ls (length c.args.records.now)) (sym logs) (first_stamped c.args.incarnation c.args.vnodes c.args.records.now c.requires.first)

pub go_on-requires-clause-runnable : goal.go_on-requires-clause-runnable
go_on-requires-clause-runnable g c =
    let logs : slice_set c.in_ok-opened.opened.items 0 c.merge_all.new.vnode ≡ first_logs c.args.incarnation c.args.vnodes c.args.records.now = first_merged c.args.incarnation c.args.vnodes c.args.records.now c.in_ok-opened.opened.items c.index_mut.result.now c.merge_all.new.vnode c.requires.first c.in_ok-opened.ensures c.index_mut.ensures.value c.in_ok-merge_all.ensures.merged in
    let count : length (slice_set c.in_ok-opened.opened.items 0 c.merge_all.new.vnode) ≡ c.args.vnodes = ap (λ (ls : List Log). length ls) logs ∙ length-first c.args.incarnation c.args.vnodes c.args.records.now in
    (0 ∷ c.args.incarnation ∷ [], subst (λ (n : ℕ). AreRunnableFrom (0 ∷ c.args.incarnation ∷ []) n c.args.table.now.listed c.args.events.now) (sym count) c.requires.runnable)

pub returns-clause-world : goal.returns-clause-world
returns-clause-world g c = λ begin h.
    let logs : slice_set c.in_ok-opened.opened.items 0 c.merge_all.new.vnode ≡ first_logs c.args.incarnation c.args.vnodes c.args.records.now = first_merged c.args.incarnation c.args.vnodes c.args.records.now c.in_ok-opened.opened.items c.index_mut.result.now c.merge_all.new.vnode c.requires.first c.in_ok-opened.ensures c.index_mut.ensures.value c.in_ok-merge_all.ensures.merged in
    let count : length (slice_set c.in_ok-opened.opened.items 0 c.merge_all.new.vnode) ≡ c.args.vnodes = ap (λ (ls : List Log). length ls) logs ∙ length-first c.args.incarnation c.args.vnodes c.args.records.now in
    subst (λ (n : ℕ). IsWorldFrom begin n c.args.table.now.listed c.args.events.now (record { logs = c.go_on.new.self.vnodes.items; replies = c.in_ok-replies.replies.items })) count
    (c.in_ok-replies.ensures.world begin (subst (λ (ls : List Log). Begins ls c.args.events.now begin) (sym logs) h))

pub returns-clause-takes : goal.returns-clause-takes
returns-clause-takes g c =
    subst (λ (l : Log). IsJournal l.vnode l.entries)
    (first_new c.args.incarnation c.args.vnodes c.args.records.now c.in_ok-opened.opened.items c.index_mut.result.now c.merge_all.new.vnode c.requires.first c.in_ok-opened.ensures c.index_mut.ensures.value c.in_ok-merge_all.ensures.merged)
    c.in_ok-merge_all.ensures.legal

pub returns-clause-sources : goal.returns-clause-sources
returns-clause-sources g c =
    let logs : slice_set c.in_ok-opened.opened.items 0 c.merge_all.new.vnode ≡ first_logs c.args.incarnation c.args.vnodes c.args.records.now = first_merged c.args.incarnation c.args.vnodes c.args.records.now c.in_ok-opened.opened.items c.index_mut.result.now c.merge_all.new.vnode c.requires.first c.in_ok-opened.ensures c.index_mut.ensures.value c.in_ok-merge_all.ensures.merged in
    subst (λ (ls : List Log). GoOnBy c.args.events.now c.in_ok-replies.replies.items ls c.go_on.new.self.vnodes.items) logs c.in_ok-replies.ensures.goes

pub returns-clause-first : goal.returns-clause-first
returns-clause-first g c = first_stands c.args.incarnation c.args.vnodes c.args.records.now c.args.events.now c.in_ok-replies.replies.items c.go_on.new.self.vnodes.items c.requires.first (returns-clause-sources g c)
