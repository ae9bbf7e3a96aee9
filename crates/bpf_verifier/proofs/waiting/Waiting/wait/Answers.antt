use Rattle.std.proofs.Common.{ap, sym, ◌∙◌, refl, Some, set, arith, ◌+◌, subst}
use Rattle.bpf_verifier.specs.Rows.{StartsZero}
use Rattle.bpf_verifier.specs.Waiting.{waiting_from, AreOwned, StartZero}
use Rattle.bpf_verifier.proofs.Waits.{length_waiting, taken_up, one_more, owned_more, owned_pushed, zeros_set, zeros_more}
use Rattle.bpf_verifier.proofs.waiting.Waiting.wait.Goals as goal

pub index_mut-requires : goal.index_mut-requires
index_mut-requires g c = let rows = c.args.self.now in omega (arith, length_waiting 0 rows.places.items rows.held.items, rows.places.ok.0, c.requires.within)

pub index_mut-requires-in-None : goal.index_mut-requires-in-None
index_mut-requires-in-None g c = let rows = c.args.self.now in omega (arith, length_waiting 0 rows.places.items rows.held.items, rows.places.ok.0, c.requires.within)

pub returns-in-Some-clause-rows : goal.returns-in-Some-clause-rows
returns-in-Some-clause-rows g c =
    let rows = c.args.self.now in
    taken_up c.args.slot rows.places.items rows.held.items c.in-Some.place (record { owner = Some c.args.slot; kinds = c.copy_row.new.into }) (omega (arith, length_waiting 0 rows.places.items rows.held.items, c.requires.within)) c.in-Some.ensures.free (omega (arith, c.in-Some.ensures.within, rows.held.ok.0)) refl
    ∙ ap (λ ks. set (waiting_from 0 rows.places.items rows.held.items) c.args.slot (Some ks)) c.copy_row.ensures

pub returns-in-Some-clause-owned : goal.returns-in-Some-clause-owned
returns-in-Some-clause-owned g c =
    let rows = c.args.self.now in
    owned_more rows.held.items c.in-Some.place c.args.slot (record { owner = Some c.args.slot; kinds = c.copy_row.new.into }) c.in-Some.ensures.before (omega (arith, c.in-Some.ensures.within, rows.held.ok.0)) refl

pub returns-in_ok-push-in-None-clause-rows : goal.returns-in_ok-push-in-None-clause-rows
returns-in_ok-push-in-None-clause-rows g c =
    let rows = c.args.self.now in
    ap (waiting_from 0 (set rows.places.items c.args.slot c.len-place.result)) c.in_ok-push-in-None.ensures.items
    ∙ one_more c.args.slot rows.places.items rows.held.items c.len-place.result (record { owner = Some c.args.slot; kinds = c.args.row.now }) (omega (arith, length_waiting 0 rows.places.items rows.held.items, c.requires.within)) (c.len-place.ensures ∙ rows.held.ok.0) refl

pub returns-in_ok-push-in-None-clause-owned : goal.returns-in_ok-push-in-None-clause-owned
returns-in_ok-push-in-None-clause-owned g c =
    let rows = c.args.self.now in
    subst (λ rs. AreOwned rs (c.len-place.result + 1)) (sym c.in_ok-push-in-None.ensures.items)
    (owned_pushed rows.held.items c.len-place.result c.args.slot (record { owner = Some c.args.slot; kinds = c.args.row.now }) (subst (AreOwned rows.held.items) rows.held.ok.0 c.in-None.ensures.none) (c.len-place.ensures ∙ rows.held.ok.0) refl)

pub returns-in-Some-clause-zeros : goal.returns-in-Some-clause-zeros
returns-in-Some-clause-zeros g c = λ profile zeros row.
    let rows = c.args.self.now in
    zeros_set profile rows.low rows.held.items c.in-Some.place (record { owner = Some c.args.slot; kinds = c.copy_row.new.into }) zeros (subst (StartsZero profile rows.low) (sym c.copy_row.ensures) row)

pub returns-in_ok-push-in-None-clause-zeros : goal.returns-in_ok-push-in-None-clause-zeros
returns-in_ok-push-in-None-clause-zeros g c = λ profile zeros row.
    let rows = c.args.self.now in
    subst (StartZero profile rows.low) (sym c.in_ok-push-in-None.ensures.items)
    (zeros_more profile rows.low rows.held.items (record { owner = Some c.args.slot; kinds = c.args.row.now }) zeros row)
