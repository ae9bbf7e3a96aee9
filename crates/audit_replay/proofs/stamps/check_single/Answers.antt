use Rattle.std.proofs.Common.{ℕ, ◌+◌, ◌<◌, List, length, set, sym, subst, Option, Some}
use Rattle.std.proofs.lemmas.Option.{slice_get_within}
use Rattle.audit_faults.specs.declared.fault.EntryFault.TheVariants.{Twice}
use Rattle.audit_faults.specs.declared.fault.AuditFault.TheVariants.{Found}
use Rattle.audit_replay.specs.Faulty.{IsFault}
use Rattle.audit_replay.specs.Sorting.{left, IsLast, IsOnce, IsSplit}
use Rattle.audit_replay.specs.Turns.{Joins, NoneBelow}
use Rattle.audit_replay.proofs.Sorting.{left_falls, split_more, once_more, last_more, new_stamp, found_twice, all_once}
use Rattle.audit_replay.proofs.Firsts.{heads_go_on, next_read}
use Rattle.audit_replay.proofs.stamps.check_single.Goals as goal

pub returns-then-is_last-clause-err : goal.returns-then-is_last-clause-err
returns-then-is_last-clause-err c =
    let logs = c.args.journals.now in
    let counts = c.loop-head.counts.items in
    let so_far = c.loop-head.invariant in
    let head = c.in-Some.head in
    let next = next_read logs c.deref-in-loop-head.result.now counts head c.in-Some.place c.loop-head.heads c.next_of.new.heads c.deref-in-loop-head.ensures.value c.in-Some.ensures.next in
    let last : IsLast logs counts (Some head.stamp) = subst (λ (o : Option ℕ). IsLast logs counts o) c.if-is_last.ensures so_far.last in
    subst (λ (p : ℕ). IsFault logs (Found Twice head.vnode p)) (sym next.1) (found_twice logs counts head c.requires.distinct c.requires.rising so_far.split so_far.once last next.0)

pub loop-head-smaller : goal.loop-head-smaller
loop-head-smaller c =
    let logs = c.args.journals.now in
    let counts = c.loop-head.counts.items in
    let head = c.in-Some.head in
    let told = next_read logs c.deref-in-loop-head.result.now counts head c.in-Some.place c.loop-head.heads c.next_of.new.heads c.deref-in-loop-head.ensures.value c.in-Some.ensures.next in
    let next = told.0 in
    subst (λ (p : ℕ). left logs (set counts head.index (p + 1)) < left logs counts) (sym told.1) (left_falls logs counts head.index next.0 c.loop-head.invariant.split.size (slice_get_within _ _ next.1.2.0 next.1.2.1.1))

pub loop-head-preserved : goal.loop-head-preserved
loop-head-preserved c =
    let logs = c.args.journals.now in
    let counts = c.loop-head.counts.items in
    let so_far = c.loop-head.invariant in
    let head = c.in-Some.head in
    let told = next_read logs c.deref-in-loop-head.result.now counts head c.in-Some.place c.loop-head.heads c.next_of.new.heads c.deref-in-loop-head.ensures.value c.in-Some.ensures.next in
    let next = told.0 in
    let place = sym told.1 in
    record {
      split = subst (λ (p : ℕ). IsSplit logs (set counts head.index (p + 1))) place (split_more logs counts head c.requires.rising so_far.split next);
      once = subst (λ (p : ℕ). IsOnce logs (set counts head.index (p + 1))) place (once_more logs counts head so_far.split so_far.once next (new_stamp logs counts c.loop-head.last head so_far.split next so_far.last c.if-is_last.ensures));
      last = subst (λ (p : ℕ). IsLast logs (set counts head.index (p + 1)) (Some head.stamp)) place (last_more logs counts head so_far.split next);
      heads = heads_go_on logs counts (c.in-Some.place + 1) c.loop-head.heads c.next_of.new.heads c.join.new.heads head so_far.split.size so_far.heads told.2 (subst (λ (cs : List ℕ). Joins logs cs head.index c.next_of.new.heads c.join.new.heads) c.deref-in-Some.ensures.value c.in_ok-join.ensures);
    }

pub returns-clause-ok : goal.returns-clause-ok
returns-clause-ok c =
    let logs = c.args.journals.now in
    all_once logs c.loop-head.counts.items c.loop-head.invariant.once (subst (λ (cs : List ℕ). NoneBelow logs cs (length logs)) c.deref-in-loop-head.ensures.value c.in_default.ensures.next)
