use Rattle.std.proofs.Common.{rules, arith, sym, ◌∙◌, None, ◌≡◌}
use Rattle.bpf_helpers.specs.Entries.{sig_of}
use Rattle.bpf_helpers.proofs.Index.{nowhere, place_within, found}
use Rattle.bpf_helpers.proofs.table.Table.helper.Goals as goal

pub returns-in_err-place-clause-none : goal.returns-in_err-place-clause-none
returns-in_err-place-clause-none g c =
    let none : sig_of c.args.self.now.listed c.args.number ≡ None = nowhere c.args.self.now.listed c.args.number (sym c.in_err-place.was ∙ c.place.ensures) in
    search rules

pub index-requires : goal.index-requires
index-requires g c = let table = c.args.self.now in
    omega (arith, table.helpers.ok.0, place_within _ table.helpers.items table.listed c.args.number c.in_ok-place.place table.paired (sym c.in_ok-place.was ∙ c.place.ensures))

pub returns-clause-some : goal.returns-clause-some
returns-clause-some g c = let table = c.args.self.now in
    found _ table.helpers.items table.listed c.args.number c.in_ok-place.place c.index.result.now table.paired (sym c.in_ok-place.was ∙ c.place.ensures) c.index.ensures

pub returns-clause-held : goal.returns-clause-held
returns-clause-held g c = let table = c.args.self.now in
    (c.in_ok-place.place, place_within _ table.helpers.items table.listed c.args.number c.in_ok-place.place table.paired (sym c.in_ok-place.was ∙ c.place.ensures), sym c.index.ensures)

pub returns-clause-tells : goal.returns-clause-tells
returns-clause-tells g c = let table = c.args.self.now in
    λ given answer told. (c.in_ok-place.place, c.index.result.now, place_within _ table.helpers.items table.listed c.args.number c.in_ok-place.place table.paired (sym c.in_ok-place.was ∙ c.place.ensures), sym c.index.ensures, told)
