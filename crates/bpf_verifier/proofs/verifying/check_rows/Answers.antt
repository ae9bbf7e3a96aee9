use Rattle.std.proofs.Common.{rules, ◌≡◌, ◌+◌, ◌<◌, ◌≤◌, length, Some, None, refl, ap, sym, ◌∙◌, subst, arith}
use Rattle.std.specs.Prelude.{slice_get}
use Rattle.std.proofs.lemmas.Option.{slice_get_read}
use Rattle.bpf_verifier.specs.Candidates.{program_in}
use Rattle.bpf_verifier.specs.Table.{table, broken_at}
use Rattle.bpf_verifier.specs.Rows.{StartsZero, IsKnown, AreRowKinds, IsPass}
use Rattle.bpf_verifier.specs.Waiting.{waiting}
use Rattle.bpf_verifier.specs.Known.{AreSums}
use Rattle.bpf_verifier.specs.PairSteps.{pairs_next}
use Rattle.bpf_verifier.specs.Meetings.{Meets}
use Rattle.bpf_verifier.specs.Lowered.{AreSlots}
use Rattle.bpf_verifier.proofs.Tables.{pass_first, none_kinds}
use Rattle.bpf_verifier.proofs.Noted.{known_kinds, one_more}
use Rattle.bpf_verifier.proofs.Visits.{bounded_here, all_visited}
use Rattle.bpf_verifier.proofs.Lowering.{slots_and, slot_here}
use Rattle.bpf_verifier.proofs.verifying.check_rows.Goals as goal

pub loop-at-init : goal.loop-at-init
loop-at-init g c =
    let p = program_in c.args.program.now in
    let rows = waiting c.in-Ok.rows in
    let empty = c.in-Ok.ensures.rows in
    let low = c.in-Ok.ensures.low in
    let code = c.args.program.now.image.code in
    record {
      pass = subst (λ r. IsPass p rows (Some r) 0) (sym c.entry-first.ensures.table) (pass_first p rows (c.len-slots.result + 1) (omega (arith, c.len-slots.ensures, code.ok.0)) empty);
      pool = record {
        kinds = subst (AreRowKinds p.profile c.in-Ok.rows.low) (sym empty) (none_kinds p.profile c.in-Ok.rows.low (c.len-slots.result + 1));
        owned = c.in-Ok.ensures.owned;
        zeros = c.in-Ok.ensures.zeros p.profile;
        registers = subst (λ l. 11 ≤ l) (sym low) c.requires.some;
        short = omega (arith, low);
      };
      sums = subst (λ n. AreSums p n 0 c.in-Ok-new.sums) (omega (arith, c.len-slots.ensures, code.ok.0)) (c.in-Ok-new.ensures p refl);
      pairs = c.no_pairs-pairs.ensures;
      meets = λ second.
          subst (λ n. Meets p (table p) n 0 c.in-Ok-none_yet.meetings) (let long = c.named_slots.ensures second in omega (arith, long, c.len-slots.ensures, code.ok.0)) (c.in-Ok-none_yet.ensures p (table p));
      here = subst (λ l. IsKnown p.profile l c.entry-first.result) (sym low) c.entry-first.ensures.known;
      taken = subst (λ l. StartsZero p.profile l c.entry-first.result) (sym low) c.entry-first.ensures.known.zeros;
      lows = record { whole = omega (arith, c.in-Ok-vec.lows.ok.0, c.in-Ok-vec.ensures.len, c.len-slots.ensures, code.ok.0); slots = λ k low lt e. absurd (omega arith) };
      unbroken = λ k lt. absurd (omega arith);
    }

pub bounds_here-known-requires : goal.bounds_here-known-requires
bounds_here-known-requires g c =
    let p = program_in c.args.program.now in
    let within : c.loop-at.at < length p.code = omega (arith, c.loop-at-test.true, c.len-slots.ensures, c.args.program.now.image.code.ok.0) in (
      search rules,
      (within, known_kinds p.profile c.loop-at.rows.low c.loop-at.here c.loop-at.invariant.here),
    )

pub advance-requires : goal.advance-requires
advance-requires g c =
    let p = program_in c.args.program.now in
    let within : c.loop-at.at < length p.code = omega (arith, c.loop-at-test.true, c.len-slots.ensures, c.args.program.now.image.code.ok.0) in
    record {
      within = within;
      old = c.loop-at.invariant.sums;
      known = λ _. bounded_here p (waiting c.loop-at.rows) c.loop-at.at within c.loop-at.here c.bounds_here-known.result c.loop-at.invariant.pass c.bounds_here-known.ensures;
    }

pub go_over-requires : goal.go_over-requires
go_over-requires g c =
    let p = program_in c.args.program.now in
    let code = c.args.program.now.image.code in
    let at = c.loop-at.at in
    record {
      within = omega (arith, c.loop-at-test.true, c.len-slots.ensures, code.ok.0);
      pairs = c.loop-at.invariant.pairs;
      next = c.in_ok-visit.ensures.pairs ∙ ap (λ s. pairs_next p (slice_get p.code at) s (slice_get (table p) at) c.loop-at.pairs) c.loop-at.invariant.sums.held;
      old = c.loop-at.invariant.meets;
    }

pub loop-at-preserved : goal.loop-at-preserved
loop-at-preserved g c = record {
  pass = c.in_ok-visit.ensures.pass;
  pool = c.in_ok-visit.ensures.pool;
  sums = c.in-Ok-advance.ensures.on;
  pairs = c.in-Ok-go_over.ensures.here;
  meets = c.in-Ok-go_over.ensures.follows;
  here = c.in_ok-visit.ensures.here;
  taken = c.in_ok-visit.ensures.taken;
  lows =
      let p = program_in c.args.program.now in
      let within : c.loop-at.at < length p.code = omega (arith, c.len-slots.ensures, c.args.program.now.image.code.ok.0, c.loop-at-test.true) in
      slots_and p c.loop-at.lows.items c.loop-at.at c.lower_slot.result within c.loop-at.invariant.lows
      (slot_here p (waiting c.loop-at.rows) c.loop-at.here c.loop-at.at c.lower_slot.result c.loop-at.invariant.pass within c.lower_slot.ensures.lowered c.lower_slot.ensures.names);
  unbroken = one_more (λ k. broken_at (program_in c.args.program.now) k ≡ None) c.loop-at.at c.loop-at.invariant.unbroken c.in_ok-visit.ensures.unbroken;
}

pub returns-clause-ok : goal.returns-clause-ok
returns-clause-ok g c =
    all_visited (program_in c.args.program.now) c.loop-at.at c.requires.formed (omega (arith, c.len-slots.ensures, c.args.program.now.image.code.ok.0, c.loop-at-test.false)) c.loop-at.invariant.unbroken

pub returns-clause-lowered : goal.returns-clause-lowered
returns-clause-lowered g c =
    let p = program_in c.args.program.now in
    let code = c.args.program.now.image.code in
    let end : c.loop-at.at ≡ length p.code = omega (arith, c.loop-at-test.false, c.loop-at.auto.at-end, c.len-slots.ensures, code.ok.0) in
    subst (AreSlots p c.loop-at.lows.items) end c.loop-at.invariant.lows
