use Rattle.std.proofs.Common.{◌≡◌, ◌∙◌, ℕ, List, Result, ap, map, subst, sym, vec_len}
use Rattle.dvvstore.specs.Keeping.{Leaves, LeavesServed, fronts_for, hooks_for}
use Rattle.dvvstore.specs.Visits.{AreStarts, begun}
use Rattle.dvvstore.specs.declared.keeper.Unbegun.{Unbegun}
use Rattle.dvvstore.specs.declared.session.Left.{Left}
use Rattle.dvvstore.proofs.Serving.{served_from, served_so, starts_as}
use Rattle.dvvstore.proofs.Staying.{left_from, left_so, tells_closed, tells_unreadable}
use Rattle.dvvstore.proofs.VisitLemmas.{begins_from}
use Rattle.dvvstore.proofs.keeper.live.Goals as goal

pub returns-in-Open-clause-kept : goal.returns-in-Open-clause-kept
returns-in-Open-clause-kept g c =
    let (fresh, loaded, spared, fronts, number) = c.requires.begun in
    let stay = c.args.stay in
    let files = stay.held.files.items in
    let id = c.args.staffed.cluster.first in
    let vnodes = c.args.staffed.cluster.vnodes in
    let many = sym c.args.staffed.begun.spares.ok.0 ∙ c.requires.spares in
    let served = c.serve.result in
    let begins = begins_from g.H.Hooks.finds g.H.Hooks.names g.H.HookChanges.takes _ stay.folder id vnodes files c.args.staffed.begun served (λ s. vec_len s.closed.vnodes ≡ c.args.staffed.cluster.vnodes) c.loads_stand.ensures
    c.requires.begun many c.serve.ensures.kept in
    subst (λ (left : Result Left Unbegun). Leaves stay.folder id vnodes files left) (sym c.left_of.ensures)
    (left_so stay.folder id vnodes files served (left_from stay.folder id vnodes files _ served (c.deref-in-Open.ensures.value ∙ fronts) begins c.serve.ensures.said))

pub returns-in_err-tell_begun-in-Closed-clause-told : goal.returns-in_err-tell_begun-in-Closed-clause-told
returns-in_err-tell_begun-in-Closed-clause-told g c = tells_unreadable c.args.stay.door _ _ _ c.from_residual-in_err-tell_begun-in-Closed.ensures.1

pub returns-clause-told : goal.returns-clause-told
returns-clause-told g c =
    tells_closed c.args.stay.door c.in-Closed.address c.serve-in-Closed.result _ (g.O.Write.contents c.args.out.now) (g.O.Write.contents c.tell_begun.new.out) c.in-Closed.is c.left_of-in-Closed.ensures
    c.in_ok-tell_begun-in-Closed.ensures.told

pub returns-clause-kept : goal.returns-clause-kept
returns-clause-kept g c =
    let (fresh, loaded, spared, fronts, number) = c.requires.begun in
    let stay = c.args.stay in
    let files = stay.held.files.items in
    let id = c.args.staffed.cluster.first in
    let vnodes = c.args.staffed.cluster.vnodes in
    let many = sym c.args.staffed.begun.spares.ok.0 ∙ c.requires.spares in
    let served = c.serve-in-Closed.result in
    let begins = begins_from g.H.Hooks.finds g.H.Hooks.names g.H.HookChanges.takes _ stay.folder id vnodes files c.args.staffed.begun served (λ s. vec_len s.closed.vnodes ≡ c.args.staffed.cluster.vnodes) c.loads_stand.ensures
    c.requires.begun many c.serve-in-Closed.ensures.kept in
    subst (λ (left : Result Left Unbegun). Leaves stay.folder id vnodes files left) (sym c.left_of-in-Closed.ensures)
    (left_so stay.folder id vnodes files served (left_from stay.folder id vnodes files _ served (c.deref-in-Closed.ensures.value ∙ fronts) begins c.serve-in-Closed.ensures.said))

pub returns-in-Open-clause-served : goal.returns-in-Open-clause-served
returns-in-Open-clause-served g c =
    let size = c.args.staffed.cluster in
    let starts = map (λ s. begun size s.pass s.hooking.hooks s.hooking.table.listed s.placement) c.args.staffed.seats.items in
    let now = map (λ s. begun size s.pass s.hooking.hooks s.hooking.table.listed s.placement) c.begin_seats.new.seats.items in
    let served = c.serve.result in
    let held = hooks_for c.args.stay.folder c.args.stay.held.hooks.items in
    let are = starts_as g.H.HookChanges.takes _ held starts now (c.hooks_of.ensures ∙ ap (λ (hooks : List ℕ). hooks_for c.args.stay.folder hooks) c.deref.ensures.value) (c.begin_seats.new.lookout.requests, c.in_ok-begin_seats.ensures.starts size) in
    let files = c.args.stay.held.files.items in
    let fronts = fronts_for c.args.stay.folder size.vnodes files in
    subst (λ (left : Result Left Unbegun). LeavesServed g.H.Hooks.finds g.H.Hooks.names g.H.HookChanges.takes fronts size.vnodes (AreStarts g.H.HookChanges.takes held starts) left) (sym c.left_of.ensures)
    (served_so g.H.Hooks.finds g.H.Hooks.names g.H.HookChanges.takes fronts size.vnodes (AreStarts g.H.HookChanges.takes held starts) served
    (served_from g.H.Hooks.finds g.H.Hooks.names g.H.HookChanges.takes held starts now c.args.stay.folder size.first size.vnodes files c.args.staffed.begun served are c.requires.begun
    (sym c.args.staffed.begun.spares.ok.0 ∙ c.requires.spares) c.serve.ensures.kept c.serve.ensures.numbered))

pub returns-clause-served : goal.returns-clause-served
returns-clause-served g c =
    let size = c.args.staffed.cluster in
    let starts = map (λ s. begun size s.pass s.hooking.hooks s.hooking.table.listed s.placement) c.args.staffed.seats.items in
    let now = map (λ s. begun size s.pass s.hooking.hooks s.hooking.table.listed s.placement) c.begin_seats.new.seats.items in
    let served = c.serve-in-Closed.result in
    let held = hooks_for c.args.stay.folder c.args.stay.held.hooks.items in
    let are = starts_as g.H.HookChanges.takes _ held starts now (c.hooks_of.ensures ∙ ap (λ (hooks : List ℕ). hooks_for c.args.stay.folder hooks) c.deref.ensures.value) (c.begin_seats.new.lookout.requests, c.in_ok-begin_seats.ensures.starts size) in
    let files = c.args.stay.held.files.items in
    let fronts = fronts_for c.args.stay.folder size.vnodes files in
    subst (λ (left : Result Left Unbegun). LeavesServed g.H.Hooks.finds g.H.Hooks.names g.H.HookChanges.takes fronts size.vnodes (AreStarts g.H.HookChanges.takes held starts) left) (sym c.left_of-in-Closed.ensures)
    (served_so g.H.Hooks.finds g.H.Hooks.names g.H.HookChanges.takes fronts size.vnodes (AreStarts g.H.HookChanges.takes held starts) served
    (served_from g.H.Hooks.finds g.H.Hooks.names g.H.HookChanges.takes held starts now c.args.stay.folder size.first size.vnodes files c.args.staffed.begun served are c.requires.begun
    (sym c.args.staffed.begun.spares.ok.0 ∙ c.requires.spares) c.serve-in-Closed.ensures.kept c.serve-in-Closed.ensures.numbered))
