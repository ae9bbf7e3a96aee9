use Rattle.std.proofs.Common.{arith, length, take, ap, ◌∙◌, length-append}
use Rattle.std.proofs.lemmas.List.{length-take-le}
use Rattle.journal.specs.Entry.{Merge}
use Rattle.journal.specs.Logs.{Log, with_entry}
use Rattle.world.specs.Beginning.{merges_of}
use Rattle.world.proofs.Beginnings.{length-merges, merged_more}
use Rattle.world.proofs.beginning.merge_all.Goals as goal

pub loop-place-preserved : goal.loop-place-preserved
loop-place-preserved c = record {
  merged =
      c.in_ok-merge_one.ensures.merged
      ∙ ap (λ (l : Log). with_entry l (Merge c.loop-place.place c.index-records-place.result.key c.index-records-place.result.from c.index-records-place.result.at c.index-records-place.result.state)) c.loop-place.invariant.merged
      ∙ merged_more c.args.vnode.now c.args.records.now c.loop-place.place c.index-records-place.result c.loop-place-test.true c.index-records-place.is;
  few =
      let t = c.in_ok-merge_one.ensures.takes in
      let is = ap (λ (l : Log). length l.entries) c.loop-place.invariant.merged in
      let parts = length-append c.args.vnode.now.entries (merges_of 0 (take c.loop-place.place c.args.records.now)) in
      let n = length-merges 0 (take c.loop-place.place c.args.records.now) in
      let k = length-take-le c.loop-place.place c.args.records.now (let lt = c.loop-place-test.true in omega (arith, lt)) in
      omega (arith, t, is, parts, n, k);
}
