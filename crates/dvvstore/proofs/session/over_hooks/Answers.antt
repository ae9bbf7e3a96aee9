use Rattle.std.proofs.Common.{ℕ, map, refl, subst, sym}
use Rattle.hook_readers.specs.Edits.{Finds, Names}
use Rattle.hook_sharing.specs.Taking.{Takes}
use Rattle.dvvstore.specs.Crews.{AreAllPlaced}
use Rattle.dvvstore.specs.Keeping.{fronts_for, hooks_for}
use Rattle.dvvstore.specs.Visits.{AreStarts, BeginOver, begun}
use Rattle.dvvstore.proofs.Serving.{seats_begin, served_as}
use Rattle.dvvstore.proofs.session.over_hooks.Goals as goal

pub returns-clause-served : goal.returns-clause-served
returns-clause-served g c =
    let size = c.args.parts.vnodes.cluster in
    let tables = c.args.parts.tables.items in
    let seats = c.in_ok-seats.seats.items in
    let held = hooks_for c.args.stay.folder c.args.stay.held.hooks.items in
    let starts = map (λ s. begun size s.pass s.hooking.hooks s.hooking.table.listed s.placement) seats in
    let over = seats_begin size (λ s. begun size s.pass s.hooking.hooks s.hooking.table.listed s.placement) (λ s. s.hooking.table) (λ t. t.listed) (λ s. s.placement) c.args.parts.spread.copies (λ s. refl) (λ s. refl) (λ s. refl)
    seats tables c.in_ok-seats.ensures.tables (subst (λ (n : ℕ). AreAllPlaced n c.args.parts.spread.copies (map (λ s. s.placement) seats)) (sym c.requires.vnodes) c.in_ok-seats.ensures.placed) in
    served_as Finds Names Takes (fronts_for c.args.stay.folder size.vnodes c.args.stay.held.files.items) size.vnodes (AreStarts Takes held starts) (BeginOver Takes size c.args.parts.spread.copies (map (λ t. t.listed) tables) held) c.live.result (λ now are. (starts, over, are)) c.live.ensures.served
