use Rattle.std.proofs.Common.{rules, ◌+◌, ◌≤◌, length, sym, ap, ◌∙◌, subst, arith}
use Rattle.std.proofs.lemmas.Option.{slice_get_read}
use Rattle.bpf_verifier.specs.Candidates.{program_in}
use Rattle.bpf_verifier.specs.CallKinds.{callee_from}
use Rattle.bpf_verifier.specs.Rows.{LeadBelow, StartsZero, IsKnown, HasKinds, edge_list, IsPass}
use Rattle.bpf_verifier.specs.Rules.{first_of, rules_by, row_taken}
use Rattle.bpf_verifier.specs.Waiting.{waiting}
use Rattle.bpf_verifier.specs.Sums.{told, summed}
use Rattle.bpf_verifier.specs.Paired.{narrowed}
use Rattle.bpf_verifier.specs.PairSteps.{pairs_at}
use Rattle.bpf_verifier.specs.Table.{table}
use Rattle.bpf_verifier.specs.Cells.{span_written}
use Rattle.bpf_verifier.proofs.Zeros.{Ends, fewer_zeros, known_below, rows_below, after_zeros}
use Rattle.bpf_verifier.proofs.Waits.{zeros_below}
use Rattle.bpf_verifier.proofs.SumSteps.{told_zeros}
use Rattle.bpf_verifier.proofs.Summed.{summed_zeros}
use Rattle.bpf_verifier.proofs.PairRows.{narrowed_zeros}
use Rattle.bpf_verifier.proofs.Shape.{next_within, target_within, target_below}
use Rattle.bpf_verifier.proofs.Visits.{none_unbroken, none_pass, none_paired, broken_here, paired_here, all_here, alone_here, here_taken}
use Rattle.bpf_verifier.proofs.verifying.visit.Goals as goal

pub returns-in_default-clause-unbroken : goal.returns-in_default-clause-unbroken
returns-in_default-clause-unbroken g c =
    let p = program_in c.args.program.now in
    let rows = waiting c.args.rows.now in
    none_unbroken p rows c.args.at c.requires.within (subst (λ o. IsPass p rows o c.args.at) c.in_default.is c.requires.pass)

pub returns-in_default-clause-pass : goal.returns-in_default-clause-pass
returns-in_default-clause-pass g c =
    let p = program_in c.args.program.now in
    let rows = waiting c.args.rows.now in
    here_taken p rows (waiting c.take_waiting.new.rows) c.take_waiting.new.here (c.args.at + 1)
    (none_pass p rows c.args.at c.requires.within (subst (λ o. IsPass p rows o c.args.at) c.in_default.is c.requires.pass))
    c.take_waiting.ensures.here c.take_waiting.ensures.rows

pub returns-in_default-clause-pool : goal.returns-in_default-clause-pool
returns-in_default-clause-pool g c = c.take_waiting.ensures.pool c.args.program.now.image.profile c.requires.pool

pub returns-in_default-clause-here : goal.returns-in_default-clause-here
returns-in_default-clause-here g c = c.take_waiting.ensures.known c.args.program.now.image.profile c.requires.pool

pub returns-in_default-clause-taken : goal.returns-in_default-clause-taken
returns-in_default-clause-taken g c = subst (λ l. StartsZero c.args.program.now.image.profile l c.args.taken.now) (sym c.take_waiting.ensures.low) c.requires.taken

pub returns-in_default-clause-pairs : goal.returns-in_default-clause-pairs
returns-in_default-clause-pairs g c =
    let p = program_in c.args.program.now in
    let rows = waiting c.args.rows.now in
    c.no_pairs.ensures ∙ none_paired p rows c.args.at c.requires.within (subst (λ o. IsPass p rows o c.args.at) c.in_default.is c.requires.pass) c.args.sums.now.held c.args.pairs.now

pub narrowed_edge-target-requires : goal.narrowed_edge-target-requires
narrowed_edge-target-requires g c =
    let insn = slice_get_read c.args.program.now.image.code.items c.args.program.now.image.code.len c.args.at c.index-insn.result.now c.args.program.now.image.code.ok.0 (omega (arith, c.requires.within, c.args.program.now.image.code.ok.0)) c.index-insn.ensures in
    let few = c.args.program.now.image.few_slots in
    let profile = c.args.program.now.image.profile in
    let was = c.args.rows.now.low in
    let low = c.lowered-rows.result in
    let lower = c.lowered-rows.ensures.lower in
    let known : IsKnown profile was c.in-Some.row = subst (HasKinds profile was) c.in-Some.is c.requires.here in (
      search rules,
      (
        c.lowered-rows.ensures.registers,
        (
          omega (arith, lower, c.requires.pool.short),
          (
            omega (arith, c.requires.within, few),
            (
              (λ z e. let h = target_within c.args.program.now.image.code.items c.args.at c.index-insn.result.now z c.requires.formed insn e in (h.0, h.1)),
              (known_below profile was low c.in-Some.row lower known, fewer_zeros profile was low c.args.taken.now lower c.requires.taken),
            ),
          ),
        ),
      ),
    )

pub returns-in-Some-advance-clause-refused : goal.returns-in-Some-advance-clause-refused
returns-in-Some-advance-clause-refused g c =
    let p = program_in c.args.program.now in
    let rows = waiting c.args.rows.now in
    let insn = slice_get_read c.args.program.now.image.code.items c.args.program.now.image.code.len c.args.at c.index-insn.result.now c.args.program.now.image.code.ok.0 (omega (arith, c.requires.within, c.args.program.now.image.code.ok.0)) c.index-insn.ensures in
    record {
      formed = c.requires.formed;
      before = c.requires.before;
      broken = broken_here p rows c.args.at c.requires.within c.in-Some.row c.index-insn.result.now (subst (λ o. IsPass p rows o c.args.at) c.in-Some.is c.requires.pass) insn ∙ ap (λ y. first_of (rules_by p y (pairs_at p (table p) c.args.at) c.in-Some.row c.index-insn.result.now)) (sym c.callee_in-callee.ensures) ∙ ap (λ q. first_of (rules_by p (callee_from c.callee_in-callee.result) q c.in-Some.row c.index-insn.result.now)) (sym c.requires.pairs) ∙ sym c.advance.ensures.rule ∙ c.in-Some-advance.is;
    }

pub lead_on-requires : goal.lead_on-requires
lead_on-requires g c =
    let insn = slice_get_read c.args.program.now.image.code.items c.args.program.now.image.code.len c.args.at c.index-insn.result.now c.args.program.now.image.code.ok.0 (omega (arith, c.requires.within, c.args.program.now.image.code.ok.0)) c.index-insn.ensures in
    let rows = waiting c.args.rows.now in
    let profile = c.args.program.now.image.profile in
    let callee = callee_from c.callee_in-callee.result in
    let row = c.in-Some.row in
    let x = c.index-insn.result.now in
    let low = c.lowered-rows.result in
    let pool = c.requires.pool in
    let known : IsKnown profile c.args.rows.now.low row = subst (HasKinds profile c.args.rows.now.low) c.in-Some.is c.requires.here in
    let zeros : StartsZero profile low row = fewer_zeros profile c.args.rows.now.low low row c.lowered-rows.ensures.lower known.zeros in
    let ends : Ends low (span_written callee row x) = subst (Ends low) c.span_written.ensures c.lowered-rows.ensures.before in
    let long : 11 ≤ length row = omega (arith, c.requires.long) in
    let told_row : StartsZero profile low c.tell_on.new.row = subst (StartsZero profile low) (sym (c.tell_on.ensures.table ∙ ap (λ q. told x profile c.args.sums.now.held (summed x profile c.args.pairs.now q)) c.in_default-advance.ensures.row)) (told_zeros profile low x c.args.sums.now.held _ (summed_zeros profile low x c.args.pairs.now _ (after_zeros profile low callee row x long ends zeros))) in
    let after : IsKnown profile low c.narrow.new.row = record { kinds = c.narrow.ensures.kinds; zeros = subst (StartsZero profile low) (sym c.narrow.ensures.table) (narrowed_zeros c.args.sums.now.names.here x profile c.args.pairs.now profile low _ told_row) } in
    let few = c.args.program.now.image.few_slots in (
      search rules,
      (
        search rules,
        (
          omega (arith, c.requires.within, few),
          (
            (λ k e. let h = next_within c.args.program.now.image.code.items c.args.at c.index-insn.result.now k c.requires.formed insn e in omega (arith, h, c.requires.pass.long)),
            (
              subst (LeadBelow (length rows)) (sym c.narrowed_edge-target.ensures.edge)
                  (target_below c.args.program.now.image.code.items c.args.at c.index-insn.result.now (narrowed c.index-insn.result.now c.args.program.now.image.profile c.args.sums.now.names.here c.args.pairs.now (row_taken c.args.program.now.image.profile c.in-Some.row c.index-insn.result.now)) (length rows) c.requires.formed insn (omega (arith, c.requires.pass.long))),
              (
                after,
                (
                  c.narrowed_edge-target.ensures.known,
                  record {
                    kinds = rows_below profile c.args.rows.now.low low rows c.lowered-rows.ensures.lower pool.kinds;
                    owned = pool.owned;
                    zeros = zeros_below profile c.args.rows.now.low low c.args.rows.now.held.items c.lowered-rows.ensures.lower pool.zeros;
                    registers = c.lowered-rows.ensures.registers;
                    short = omega (arith, c.lowered-rows.ensures.lower, pool.short);
                  },
                ),
              ),
            ),
          ),
        ),
      ),
    )

pub returns-then-not-on-clause-unbroken : goal.returns-then-not-on-clause-unbroken
returns-then-not-on-clause-unbroken g c =
    let p = program_in c.args.program.now in
    let rows = waiting c.args.rows.now in
    let insn = slice_get_read c.args.program.now.image.code.items c.args.program.now.image.code.len c.args.at c.index-insn.result.now c.args.program.now.image.code.ok.0 (omega (arith, c.requires.within, c.args.program.now.image.code.ok.0)) c.index-insn.ensures in
    broken_here p rows c.args.at c.requires.within c.in-Some.row c.index-insn.result.now (subst (λ o. IsPass p rows o c.args.at) c.in-Some.is c.requires.pass) insn ∙ ap (λ y. first_of (rules_by p y (pairs_at p (table p) c.args.at) c.in-Some.row c.index-insn.result.now)) (sym c.callee_in-callee.ensures) ∙ ap (λ q. first_of (rules_by p (callee_from c.callee_in-callee.result) q c.in-Some.row c.index-insn.result.now)) (sym c.requires.pairs) ∙ sym c.advance.ensures.rule ∙ c.in_default-advance.is

pub returns-then-not-on-clause-pass : goal.returns-then-not-on-clause-pass
returns-then-not-on-clause-pass g c =
    let p = program_in c.args.program.now in
    let rows = waiting c.args.rows.now in
    let insn = slice_get_read c.args.program.now.image.code.items c.args.program.now.image.code.len c.args.at c.index-insn.result.now c.args.program.now.image.code.ok.0 (omega (arith, c.requires.within, c.args.program.now.image.code.ok.0)) c.index-insn.ensures in
    here_taken p (waiting c.lead_on.new.rows) (waiting c.take_waiting-then-not-on.new.rows) c.take_waiting-then-not-on.new.here (c.args.at + 1)
    (all_here p rows c.args.at c.requires.within c.in-Some.row c.index-insn.result.now (subst (λ o. IsPass p rows o c.args.at) c.in-Some.is c.requires.pass) insn (callee_from c.callee_in-callee.result) c.args.sums.now.held c.args.pairs.now c.args.sums.now.names.here c.narrow.new.row (edge_list c.narrowed_edge-target.result c.narrowed_edge-target.new.taken) c.callee_in-callee.ensures c.requires.held c.requires.pairs c.requires.names (c.narrow.ensures.table ∙ ap (narrowed c.index-insn.result.now c.args.program.now.image.profile c.args.sums.now.names.here c.args.pairs.now) (c.tell_on.ensures.table ∙ ap (λ q. told c.index-insn.result.now c.args.program.now.image.profile c.args.sums.now.held (summed c.index-insn.result.now c.args.program.now.image.profile c.args.pairs.now q)) c.in_default-advance.ensures.row)) c.narrowed_edge-target.ensures.edge (waiting c.lead_on.new.rows) (c.in-Ok.ensures.all c.if-not-on.true))
    c.take_waiting-then-not-on.ensures.here c.take_waiting-then-not-on.ensures.rows

pub returns-then-not-on-clause-pool : goal.returns-then-not-on-clause-pool
returns-then-not-on-clause-pool g c = c.take_waiting-then-not-on.ensures.pool c.args.program.now.image.profile c.in-Ok.ensures.pool

pub returns-then-not-on-clause-here : goal.returns-then-not-on-clause-here
returns-then-not-on-clause-here g c = c.take_waiting-then-not-on.ensures.known c.args.program.now.image.profile c.in-Ok.ensures.pool

pub returns-then-not-on-clause-taken : goal.returns-then-not-on-clause-taken
returns-then-not-on-clause-taken g c = subst (λ l. StartsZero c.args.program.now.image.profile l c.narrowed_edge-target.new.taken) (sym (c.take_waiting-then-not-on.ensures.low ∙ c.lead_on.ensures.low)) c.narrowed_edge-target.ensures.zeros

pub returns-then-not-on-clause-pairs : goal.returns-then-not-on-clause-pairs
returns-then-not-on-clause-pairs g c =
    let p = program_in c.args.program.now in
    let rows = waiting c.args.rows.now in
    let insn = slice_get_read c.args.program.now.image.code.items c.args.program.now.image.code.len c.args.at c.index-insn.result.now c.args.program.now.image.code.ok.0 (omega (arith, c.requires.within, c.args.program.now.image.code.ok.0)) c.index-insn.ensures in
    paired_here p rows c.args.at c.requires.within c.in-Some.row c.index-insn.result.now (subst (λ o. IsPass p rows o c.args.at) c.in-Some.is c.requires.pass) insn (callee_from c.callee_in-callee.result) c.args.sums.now.held c.args.pairs.now c.pairs_over-over.result c.pairs_told.result c.tell_on.new.row c.callee_in-callee.ensures (c.tell_on.ensures.table ∙ ap (λ q. told c.index-insn.result.now c.args.program.now.image.profile c.args.sums.now.held (summed c.index-insn.result.now c.args.program.now.image.profile c.args.pairs.now q)) c.in_default-advance.ensures.row) c.pairs_over-over.ensures c.pairs_told.ensures

pub returns-else-not-on-clause-unbroken : goal.returns-else-not-on-clause-unbroken
returns-else-not-on-clause-unbroken g c =
    let p = program_in c.args.program.now in
    let rows = waiting c.args.rows.now in
    let insn = slice_get_read c.args.program.now.image.code.items c.args.program.now.image.code.len c.args.at c.index-insn.result.now c.args.program.now.image.code.ok.0 (omega (arith, c.requires.within, c.args.program.now.image.code.ok.0)) c.index-insn.ensures in
    broken_here p rows c.args.at c.requires.within c.in-Some.row c.index-insn.result.now (subst (λ o. IsPass p rows o c.args.at) c.in-Some.is c.requires.pass) insn ∙ ap (λ y. first_of (rules_by p y (pairs_at p (table p) c.args.at) c.in-Some.row c.index-insn.result.now)) (sym c.callee_in-callee.ensures) ∙ ap (λ q. first_of (rules_by p (callee_from c.callee_in-callee.result) q c.in-Some.row c.index-insn.result.now)) (sym c.requires.pairs) ∙ sym c.advance.ensures.rule ∙ c.in_default-advance.is

pub returns-else-not-on-clause-pass : goal.returns-else-not-on-clause-pass
returns-else-not-on-clause-pass g c =
    let p = program_in c.args.program.now in
    let rows = waiting c.args.rows.now in
    let insn = slice_get_read c.args.program.now.image.code.items c.args.program.now.image.code.len c.args.at c.index-insn.result.now c.args.program.now.image.code.ok.0 (omega (arith, c.requires.within, c.args.program.now.image.code.ok.0)) c.index-insn.ensures in
    let on = c.if-not-on.false in
    alone_here p rows c.args.at c.requires.within c.in-Some.row c.index-insn.result.now (subst (λ o. IsPass p rows o c.args.at) c.in-Some.is c.requires.pass) insn (callee_from c.callee_in-callee.result) c.args.sums.now.held c.args.pairs.now c.args.sums.now.names.here c.narrow.new.row (edge_list c.narrowed_edge-target.result c.narrowed_edge-target.new.taken) c.callee_in-callee.ensures c.requires.held c.requires.pairs c.requires.names (c.narrow.ensures.table ∙ ap (narrowed c.index-insn.result.now c.args.program.now.image.profile c.args.sums.now.names.here c.args.pairs.now) (c.tell_on.ensures.table ∙ ap (λ q. told c.index-insn.result.now c.args.program.now.image.profile c.args.sums.now.held (summed c.index-insn.result.now c.args.program.now.image.profile c.args.pairs.now q)) c.in_default-advance.ensures.row)) c.narrowed_edge-target.ensures.edge (waiting c.lead_on.new.rows) c.lead_on.new.row (c.in-Ok.ensures.rest on) (c.in-Ok.ensures.on on) (c.in-Ok.ensures.joined on) (c.in-Ok.ensures.misses on)

pub returns-else-not-on-clause-taken : goal.returns-else-not-on-clause-taken
returns-else-not-on-clause-taken g c = subst (λ l. StartsZero c.args.program.now.image.profile l c.narrowed_edge-target.new.taken) (sym c.lead_on.ensures.low) c.narrowed_edge-target.ensures.zeros

pub returns-else-not-on-clause-pairs : goal.returns-else-not-on-clause-pairs
returns-else-not-on-clause-pairs g c =
    let p = program_in c.args.program.now in
    let rows = waiting c.args.rows.now in
    let insn = slice_get_read c.args.program.now.image.code.items c.args.program.now.image.code.len c.args.at c.index-insn.result.now c.args.program.now.image.code.ok.0 (omega (arith, c.requires.within, c.args.program.now.image.code.ok.0)) c.index-insn.ensures in
    paired_here p rows c.args.at c.requires.within c.in-Some.row c.index-insn.result.now (subst (λ o. IsPass p rows o c.args.at) c.in-Some.is c.requires.pass) insn (callee_from c.callee_in-callee.result) c.args.sums.now.held c.args.pairs.now c.pairs_over-over.result c.pairs_told.result c.tell_on.new.row c.callee_in-callee.ensures (c.tell_on.ensures.table ∙ ap (λ q. told c.index-insn.result.now c.args.program.now.image.profile c.args.sums.now.held (summed c.index-insn.result.now c.args.program.now.image.profile c.args.pairs.now q)) c.in_default-advance.ensures.row) c.pairs_over-over.ensures c.pairs_told.ensures
