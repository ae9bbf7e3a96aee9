use Rattle.std.proofs.Common.{◌+◌, List, take, arith, ap, sym, subst, ◌∙◌}
use Rattle.std.proofs.lemmas.List.{take_all, length-take-le}
use Rattle.key_state.specs.State.{empty}
use Rattle.journal.specs.Entry.{Entry, Merge}
use Rattle.journal.specs.Limits.{TakesEntry}
use Rattle.journal.specs.Logs.{Log, with_entry}
use Rattle.journal.specs.Replay.{IsReplay}
use Rattle.world.specs.Appending.{merges_of_copies}
use Rattle.world.proofs.LoadRuns.{merges_count}
use Rattle.world.proofs.Merging.{unknown_yet, one_more_merge}
use Rattle.world.proofs.loading.loaded.Goals as goal

pub merge_copy-requires-clause-unknown : goal.merge_copy-requires-clause-unknown
merge_copy-requires-clause-unknown c =
    subst (λ (l : Log). IsReplay l.entries c.index-held-index.result.key empty) (sym c.loop-index.invariant)
    (unknown_yet c.args.stamp c.args.from c.args.first c.args.held.now c.loop-index.index c.index-held-index.result c.requires.rising c.loop-index-test.true c.index-held-index.is)

pub merge_copy-requires-clause-place : goal.merge_copy-requires-clause-place
merge_copy-requires-clause-place c =
    subst (λ (l : Log). TakesEntry l.entries) (sym c.loop-index.invariant)
    (let n = merges_count c.args.stamp c.args.from c.args.first (take c.loop-index.index c.args.held.now) in
    let k = length-take-le c.loop-index.index c.args.held.now (let lt = c.loop-index-test.true in omega (arith, lt)) in
    let lt = c.loop-index-test.true in let p = c.requires.places in omega (arith, n, k, lt, p))

pub loop-index-preserved : goal.loop-index-preserved
loop-index-preserved c =
    c.in_ok-merge_copy.ensures.merged
    ∙ ap (λ (l : Log). with_entry l (Merge (c.args.stamp + c.loop-index.index) c.index-held-index.result.key c.args.from (c.args.first + c.loop-index.index) c.index-held-index.result.state)) c.loop-index.invariant
    ∙ ap (λ (es : List Entry). let l : Log = record { vnode = c.args.id; entries = es } in l) (sym (one_more_merge c.args.stamp c.args.from c.args.first c.args.held.now c.loop-index.index c.index-held-index.result c.loop-index-test.true c.index-held-index.is))

pub returns-clause-vnode : goal.returns-clause-vnode
returns-clause-vnode c = c.loop-index.invariant ∙ ap (λ held. let l : Log = record { vnode = c.args.id; entries = merges_of_copies c.args.stamp c.args.from c.args.first held } in l) (take_all c.loop-index.index c.args.held.now c.loop-index-test.false)
