use Rattle.std.proofs.Common.{rules, ap, sym, ◌∙◌, subst, arith, Some, set, ◌<◌, length}
use Rattle.bpf_verifier.specs.Table.{joined}
use Rattle.bpf_verifier.specs.Rows.{AreRowKinds}
use Rattle.bpf_verifier.specs.declared.waiting.Held.{Held}
use Rattle.bpf_verifier.specs.Waiting.{waiting}
use Rattle.bpf_verifier.proofs.RowSteps.{row_kinds_set}
use Rattle.bpf_verifier.proofs.Waits.{read_held, row_kinds, changed, owned_kept, zeros_set, all_alike, pool_moved, ok_both}
use Rattle.bpf_verifier.proofs.edges.push_edge.Goals as goal

pub join_row-requires : goal.join_row-requires
join_row-requires g c =
    let rows = c.args.rows.now in
    let pool = c.requires.pool in
    let there = read_held c.args.to rows.places.items rows.held.items c.in-Some.place c.index_mut.result.now c.in-Some.ensures.found.0 c.in-Some.ensures.found.1 (omega (arith, c.in-Some.ensures.within, rows.held.ok.0)) c.index_mut.ensures.value in
    (search rules, (pool.registers, (pool.short, (row_kinds c.args.profile rows.low (waiting rows) c.args.to c.index_mut.result.now.kinds c.requires.within there.1 pool.kinds, c.requires.known))))

pub returns-in-Some-clause-rows : goal.returns-in-Some-clause-rows
returns-in-Some-clause-rows g c =
    let rows = c.args.rows.now in
    let found = c.in-Some.ensures.found in
    let within : c.in-Some.place < length rows.held.items = omega (arith, c.in-Some.ensures.within, rows.held.ok.0) in
    let there = read_held c.args.to rows.places.items rows.held.items c.in-Some.place c.index_mut.result.now found.0 found.1 within c.index_mut.ensures.value in
    changed c.args.to rows.places.items rows.held.items c.in-Some.place (record { owner = c.index_mut.result.now.owner; kinds = c.join_row.new.kept }) found.0 found.1 within there.0
    ∙ ap (set (waiting rows) c.args.to) (ap Some c.join_row.ensures.table ∙ ap (λ o. joined c.args.profile o c.args.row.now) (sym there.1))

pub returns-in-Some-clause-pool : goal.returns-in-Some-clause-pool
returns-in-Some-clause-pool g c =
    let rows = c.args.rows.now in
    let pool = c.requires.pool in
    let found = c.in-Some.ensures.found in
    let held : Held g.row.N = record { owner = c.index_mut.result.now.owner; kinds = c.join_row.new.kept } in
    let within : c.in-Some.place < length rows.held.items = omega (arith, c.in-Some.ensures.within, rows.held.ok.0) in
    let there = read_held c.args.to rows.places.items rows.held.items c.in-Some.place c.index_mut.result.now found.0 found.1 within c.index_mut.ensures.value in
    record {
      kinds =
          subst (AreRowKinds c.args.profile rows.low)
          (sym (changed c.args.to rows.places.items rows.held.items c.in-Some.place held found.0 found.1 within there.0))
          (row_kinds_set c.args.profile rows.low (waiting rows) c.args.to (Some c.join_row.new.kept) pool.kinds c.join_row.ensures.known);
      owned = owned_kept rows.held.items rows.free c.in-Some.place held pool.owned within (found.1 ∙ sym there.0);
      zeros = zeros_set c.args.profile rows.low rows.held.items c.in-Some.place held pool.zeros c.join_row.ensures.known.zeros;
      registers = pool.registers;
      short = pool.short;
    }

pub wait-requires : goal.wait-requires
wait-requires g c =
    let rows = c.args.rows.now in
    let pool = c.requires.pool in
    (search rules, (search rules, (pool.registers, (pool.short, (all_alike c.args.profile rows.low rows.held.items c.args.row.now pool.zeros c.requires.known.zeros, (c.requires.within, pool.owned))))))

pub returns-in-None-clause-pool : goal.returns-in-None-clause-pool
returns-in-None-clause-pool g c =
    let rows = c.args.rows.now in
    let pool = c.requires.pool in
    ok_both c.wait.result _ _ _ (ok_both c.wait.result _ _ (λ _. _ × _) c.wait.ensures.rows c.wait.ensures.owned (λ _ e owned. (e, owned))) (c.wait.ensures.zeros c.args.profile pool.zeros c.requires.known.zeros)
    (λ _ (e, owned) zeros.
    pool_moved c.args.profile rows c.wait.new.self c.wait.ensures.low owned zeros
    (subst (AreRowKinds c.args.profile rows.low) (sym e) (row_kinds_set c.args.profile rows.low (waiting rows) c.args.to (Some c.args.row.now) pool.kinds c.requires.known))
    pool)
