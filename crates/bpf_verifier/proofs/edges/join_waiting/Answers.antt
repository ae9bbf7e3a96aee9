use Rattle.std.proofs.Common.{rules, ap, sym, ◌∙◌, subst, arith, Some, None}
use Rattle.bpf_verifier.specs.Table.{joined}
use Rattle.bpf_verifier.specs.Rows.{IsKnown, AreRowKinds}
use Rattle.bpf_verifier.specs.Waiting.{waiting}
use Rattle.bpf_verifier.proofs.RowSteps.{row_kinds_set}
use Rattle.bpf_verifier.proofs.Waits.{read_held, row_kinds, set_none, pool_moved}
use Rattle.bpf_verifier.proofs.edges.join_waiting.Goals as goal

pub join_row_onto-requires : goal.join_row_onto-requires
join_row_onto-requires g c =
    let rows = c.args.rows.now in
    let pool = c.requires.pool in
    let there = read_held c.args.slot rows.places.items rows.held.items c.in-Some.place c.index.result.now c.in-Some.ensures.found.0 c.in-Some.ensures.found.1 (omega (arith, c.in-Some.ensures.within, rows.held.ok.0)) c.index.ensures in
    (search rules, (pool.registers, (pool.short, (row_kinds c.args.profile rows.low (waiting rows) c.args.slot c.index.result.now.kinds c.requires.within there.1 pool.kinds, c.requires.known))))

pub returns-in-Some-clause-row : goal.returns-in-Some-clause-row
returns-in-Some-clause-row g c =
    let rows = c.args.rows.now in
    let there = read_held c.args.slot rows.places.items rows.held.items c.in-Some.place c.index.result.now c.in-Some.ensures.found.0 c.in-Some.ensures.found.1 (omega (arith, c.in-Some.ensures.within, rows.held.ok.0)) c.index.ensures in
    ap Some c.join_row_onto.ensures.table ∙ ap (λ o. joined c.args.profile o c.args.row.now) (sym there.1)

pub returns-in-Some-clause-pool : goal.returns-in-Some-clause-pool
returns-in-Some-clause-pool g c =
    let rows = c.args.rows.now in
    let pool = c.requires.pool in
    pool_moved c.args.profile rows c.release.new.self c.release.ensures.low c.release.ensures.owned (c.release.ensures.zeros c.args.profile pool.zeros)
    (subst (AreRowKinds c.args.profile rows.low) (sym c.release.ensures.rows) (row_kinds_set c.args.profile rows.low (waiting rows) c.args.slot None pool.kinds tt))
    pool

pub returns-in-Some-clause-known : goal.returns-in-Some-clause-known
returns-in-Some-clause-known g c = subst (λ l. IsKnown c.args.profile l c.join_row_onto.new.new) (sym c.release.ensures.low) c.join_row_onto.ensures.known

pub returns-in_default-clause-rows : goal.returns-in_default-clause-rows
returns-in_default-clause-rows g c = let h = c.in_default.not-Some in let k = c.in_default.is in set_none (waiting c.args.rows.now) c.args.slot c.in_default.ensures.none
