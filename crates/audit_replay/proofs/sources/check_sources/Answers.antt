use Rattle.std.proofs.Common.{◌≡◌, ◌∙◌, ℕ, ◌+◌, ◌<◌, ◌≤◌, List, length, ap, sym, subst}
use Rattle.std.specs.Vec.{with_items}
use Rattle.std.proofs.lemmas.Option.{slice_get_within}
use Rattle.journal.specs.Logs.{Log}
use Rattle.audit_replay.specs.Interleaved.{IsInterleaving}
use Rattle.audit_replay.specs.declared.kept.Recent.{Recent}
use Rattle.audit_replay.specs.Fronts.{HasRun}
use Rattle.audit_replay.specs.Sorting.{left}
use Rattle.audit_replay.specs.Turns.{AreHeads, Joins, NoneBelow, count_at}
use Rattle.journal.specs.Logs.{max_entries}
use Rattle.audit_replay.proofs.Fronts.{no_counts, none_ran, items_given, all_ran, all_have_sources}
use Rattle.audit_replay.proofs.Sorting.{left_falls, with_next}
use Rattle.audit_replay.proofs.Firsts.{heads_go_on, next_read}
use Rattle.audit_replay.proofs.sources.check_sources.Goals as goal

pub loop-head-init : goal.loop-head-init
loop-head-init c =
    let logs = c.args.journals.now in
    let counts : c.in_ok-counts.counts.items ≡ no_counts logs = c.in_ok-counts.ensures.items_if_clones_equal (λ y h. h) in
    let fresh = c.in_ok-rerun.ensures in
    record {
      run = subst (λ (cs : List ℕ). HasRun logs cs c.in_ok-rerun.rerun.logs) (sym counts)
          (subst (λ (now : List Log). HasRun logs (no_counts logs) now) (sym fresh.logs) (none_ran logs (subst (λ (now : List Log). IsInterleaving now) fresh.logs (fresh.run.whole fresh.fronts))));
      going = fresh.fault;
      all = fresh.all;
      fronts = fresh.fronts;
      heads = subst (λ (cs : List ℕ). AreHeads logs cs c.in_ok-heads.heads) c.deref.ensures.value c.in_ok-heads.ensures;
    }

pub loop-head-smaller : goal.loop-head-smaller
loop-head-smaller c =
    let logs = c.args.journals.now in
    let counts = c.loop-head.counts.items in
    let next = (next_read logs c.deref-in-loop-head.result.now counts c.in-Some.head c.in-Some.place c.loop-head.heads c.next_of.new.heads c.deref-in-loop-head.ensures.value c.in-Some.ensures.next).0 in
    let given : (with_items c.loop-head.counts c.go_on.new.counts).items ≡ c.go_on.new.counts = items_given c.loop-head.counts c.go_on.new.counts (c.go_on.auto.counts ∙ ap length c.deref_mut.ensures.value) in
    subst (λ (xs : List ℕ). left logs xs < left logs counts) (sym (given ∙ c.in_ok-go_on.ensures.counts))
    (subst (λ (xs : List ℕ). left logs (with_next xs c.in-Some.head.index) < left logs counts) (sym c.deref_mut.ensures.value)
    (left_falls logs counts c.in-Some.head.index next.0 c.loop-head.invariant.run.split.size (slice_get_within _ _ next.1.2.0 next.1.2.1.1)))

pub loop-head-preserved : goal.loop-head-preserved
loop-head-preserved c =
    let logs = c.args.journals.now in
    let counts = c.loop-head.counts.items in
    let head = c.in-Some.head in
    let so_far = c.loop-head.invariant in
    let gone = c.in_ok-go_on.ensures in
    let told = next_read logs c.deref-in-loop-head.result.now counts head c.in-Some.place c.loop-head.heads c.next_of.new.heads c.deref-in-loop-head.ensures.value c.in-Some.ensures.next in
    let given : (with_items c.loop-head.counts c.go_on.new.counts).items ≡ c.go_on.new.counts = items_given c.loop-head.counts c.go_on.new.counts (c.go_on.auto.counts ∙ ap length c.deref_mut.ensures.value) in
    let same : (with_items c.loop-head.counts c.go_on.new.counts).items ≡ with_next counts head.index = given ∙ gone.counts ∙ ap (λ (cs : List ℕ). with_next cs head.index) c.deref_mut.ensures.value in
    let joins = subst (λ (cs : List ℕ). Joins logs cs head.index c.next_of.new.heads c.join.new.heads) (c.deref-in-Some.ensures.value ∙ same) c.in_ok-join.ensures in
    record {
      run = subst (λ (cs : List ℕ). HasRun logs cs c.go_on.new.rerun.logs) (sym given) gone.run;
      going = gone.going;
      all = subst (λ (r : Recent). max_entries ≤ r.always) (sym gone.all) so_far.all;
      fronts = gone.fronts ∙ so_far.fronts;
      heads = subst (λ (cs : List ℕ). AreHeads logs cs c.join.new.heads) (sym same) (heads_go_on logs counts (count_at counts head.index + 1) c.loop-head.heads c.next_of.new.heads c.join.new.heads head so_far.run.split.size so_far.heads told.2 joins);
    }

pub returns-clause-ok : goal.returns-clause-ok
returns-clause-ok c =
    let logs = c.args.journals.now in
    let counts = c.loop-head.counts.items in
    let none : NoneBelow logs counts (length logs) = subst (λ (cs : List ℕ). NoneBelow logs cs (length logs)) c.deref-in-loop-head.ensures.value c.in_default.ensures.next in
    all_ran logs counts c.loop-head.rerun.logs c.loop-head.invariant.run none

pub returns-clause-sources : goal.returns-clause-sources
returns-clause-sources c =
    let logs = c.args.journals.now in
    let counts = c.loop-head.counts.items in
    let none : NoneBelow logs counts (length logs) = subst (λ (cs : List ℕ). NoneBelow logs cs (length logs)) c.deref-in-loop-head.ensures.value c.in_default.ensures.next in
    all_have_sources logs counts c.loop-head.rerun.logs c.loop-head.invariant.run none
