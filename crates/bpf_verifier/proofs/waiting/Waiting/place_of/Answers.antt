use Rattle.std.proofs.Common.{ap, sym, ◌∙◌, refl, arith, length}
use Rattle.std.specs.Option.{is_some}
use Rattle.std.proofs.lemmas.Bool.{ltb-false}
use Rattle.std.proofs.lemmas.Option.{slice_get_read, slice_get_past}
use Rattle.bpf_verifier.specs.Waiting.{owner_of, owner_at}
use Rattle.bpf_verifier.proofs.Waits.{length_waiting, is_owner, no_owner, none_some, row_is_none}
use Rattle.bpf_verifier.proofs.waiting.Waiting.place_of.Goals as goal

pub index-place-requires : goal.index-place-requires
index-place-requires g c = omega (arith, length_waiting 0 c.args.self.now.places.items c.args.self.now.held.items, c.args.self.now.places.ok.0, c.requires)

pub returns-in-Some-clause-found : goal.returns-in-Some-clause-found
returns-in-Some-clause-found g c =
    let places = c.args.self.now.places in
    let rows = c.deref.result.now in
    let there = slice_get_read places.items places.len c.args.slot c.index-place.result.now places.ok.0 (omega (arith, length_waiting 0 places.items c.args.self.now.held.items, places.ok.0, c.requires)) c.index-place.ensures in
    let held = slice_get_read rows (length rows) c.index-place.result.now c.in-Some.held.now refl c.in-Some.ensures.lookup.3.0 c.in-Some.ensures.lookup.1 in
    (there, ap (λ rs. owner_at rs c.index-place.result.now) (sym c.deref.ensures.value) ∙ ap owner_of held ∙ is_owner c.in-Some.held.now.owner c.args.slot c.if-eq.ensures)

pub returns-in_default-clause-none : goal.returns-in_default-clause-none
returns-in_default-clause-none g c =
    let places = c.args.self.now.places in
    let rows = c.deref.result.now in
    let there = slice_get_read places.items places.len c.args.slot c.index-place.result.now places.ok.0 (omega (arith, length_waiting 0 places.items c.args.self.now.held.items, places.ok.0, c.requires)) c.index-place.ensures in
    let held = slice_get_read rows (length rows) c.index-place.result.now c.in-Some.held.now refl c.in-Some.ensures.lookup.3.0 c.in-Some.ensures.lookup.1 in
    row_is_none c.args.slot places.items c.args.self.now.held.items c.index-place.result.now there
    (λ k e. no_owner c.in-Some.held.now.owner c.args.slot c.if-eq.ensures k (sym (ap (λ rs. owner_at rs c.index-place.result.now) (sym c.deref.ensures.value) ∙ ap owner_of held) ∙ e))

pub returns-in_default-2-clause-none : goal.returns-in_default-2-clause-none
returns-in_default-2-clause-none g c =
    let places = c.args.self.now.places in
    let rows = c.deref.result.now in
    let there = slice_get_read places.items places.len c.args.slot c.index-place.result.now places.ok.0 (omega (arith, length_waiting 0 places.items c.args.self.now.held.items, places.ok.0, c.requires)) c.index-place.ensures in
    let past = slice_get_past rows c.index-place.result.now (ltb-false _ _ (sym c.get.ensures.lookup.0 ∙ ap is_some c.in_default.is)) in
    row_is_none c.args.slot places.items c.args.self.now.held.items c.index-place.result.now there
    (λ k e. absurd (none_some k (sym (ap (λ rs. owner_at rs c.index-place.result.now) (sym c.deref.ensures.value) ∙ ap owner_of past) ∙ e)))
