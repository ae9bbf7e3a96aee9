use Rattle.std.proofs.Common.{sym, ◌∙◌, subst, arith, None}
use Rattle.bpf_verifier.specs.Rows.{HasKinds, AreRowKinds}
use Rattle.bpf_verifier.specs.Waiting.{waiting}
use Rattle.bpf_verifier.proofs.RowSteps.{row_kinds_set, at_kinds}
use Rattle.bpf_verifier.proofs.Waits.{read_held, set_none, pool_moved}
use Rattle.bpf_verifier.proofs.edges.take_waiting.Goals as goal

pub returns-in-Some-clause-here : goal.returns-in-Some-clause-here
returns-in-Some-clause-here g c =
    let rows = c.args.rows.now in
    let there = read_held c.args.slot rows.places.items rows.held.items c.in-Some.place c.index.result.now c.in-Some.ensures.found.0 c.in-Some.ensures.found.1 (omega (arith, c.in-Some.ensures.within, rows.held.ok.0)) c.index.ensures in
    c.copy_to.ensures ∙ sym there.1

pub returns-in-Some-clause-pool : goal.returns-in-Some-clause-pool
returns-in-Some-clause-pool g c = λ profile pool.
    let rows = c.args.rows.now in
    pool_moved profile rows c.release.new.self c.release.ensures.low c.release.ensures.owned (c.release.ensures.zeros profile pool.zeros)
    (subst (AreRowKinds profile rows.low) (sym c.release.ensures.rows) (row_kinds_set profile rows.low (waiting rows) c.args.slot None pool.kinds tt))
    pool

pub returns-in-Some-clause-known : goal.returns-in-Some-clause-known
returns-in-Some-clause-known g c = λ profile pool.
    let rows = c.args.rows.now in
    let there = read_held c.args.slot rows.places.items rows.held.items c.in-Some.place c.index.result.now c.in-Some.ensures.found.0 c.in-Some.ensures.found.1 (omega (arith, c.in-Some.ensures.within, rows.held.ok.0)) c.index.ensures in
    subst (λ l. HasKinds profile l c.copy_to.new.here) (sym c.release.ensures.low)
    (subst (HasKinds profile rows.low) (sym (c.copy_to.ensures ∙ sym there.1)) (at_kinds profile rows.low (waiting rows) c.args.slot pool.kinds))

pub returns-in-None-clause-rows : goal.returns-in-None-clause-rows
returns-in-None-clause-rows g c = set_none (waiting c.args.rows.now) c.args.slot c.in-None.ensures.none
