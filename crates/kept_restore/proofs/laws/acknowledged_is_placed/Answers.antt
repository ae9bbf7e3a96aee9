use Rattle.std.proofs.Common.{subst, List}
use Rattle.journal.specs.Entry.{Entry}
use Rattle.journal.specs.Replay.{LeaveAlike}
use Rattle.world.specs.Beginning.{merges_of}
use Rattle.kept_restore.proofs.Placed.{context_placed, put_placed}
use Rattle.kept_restore.proofs.laws.acknowledged_is_placed.Goals as goal

pub returns-clause-puts : goal.returns-clause-puts
returns-clause-puts c = λ placement files file vnode placed old es rest stamp key seen content dot at among all legal is_key stands merges put.
    let own : List Entry = merges_of 0 file.records.items in
    let owned = c.beginnings_are_merges.ensures 0 file.records.items in
    put_placed placement files file vnode placed es rest old.entries own stamp key seen content dot at among merges owned (c.records_carry_all.ensures old file.records.items own key legal all owned) is_key stands put

pub returns-clause-contexts : goal.returns-clause-contexts
returns-clause-contexts c = λ placement files file vnode placed old es rest before after key state at among all legal is_key stands merges split left.
    let own : List Entry = merges_of 0 file.records.items in
    let owned = c.beginnings_are_merges.ensures 0 file.records.items in
    context_placed placement files file vnode placed es rest before after own key state at among merges owned
    (subst (λ (xs : List Entry). LeaveAlike xs own key) split (c.records_carry_all.ensures old file.records.items own key legal all owned)) is_key stands left
