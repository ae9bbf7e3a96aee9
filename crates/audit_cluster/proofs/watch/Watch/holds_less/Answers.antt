use Rattle.std.proofs.Common.{◌+◌, length, ap, arith}
use Rattle.std.specs.Prelude.{sum_by}
use Rattle.audit_follower.specs.Waiting.{waiting_at}
use Rattle.audit_replay.specs.Sizes.{entry_bytes}
use Rattle.audit_cluster.specs.Following.{Watched}
use Rattle.audit_cluster.proofs.Counts.{bytes_more, bytes_front}
use Rattle.audit_cluster.proofs.watch.Watch.holds_less.Goals as goal

pub returns-then-waiting-left : goal.returns-then-waiting-left
returns-then-waiting-left g c =
    let i = c.loop-index.index in
    let waiting = c.args.self.now.taken.waiting in
    let all = ap (λ (w : Watched). length w.taken.waiting) c.self.view_is in
    let here = ap (λ (w : Watched). sum_by entry_bytes (waiting_at w.taken.waiting i)) c.self.view_is in
    let more = bytes_more waiting i (omega (arith, all, c.count-index-end.ensures.waiting, c.loop-index-test.true)) in
    let front = bytes_front waiting (i + 1) in
    omega (arith, here, more, front, c.loop-index.invariant, c.waiting_bytes-waiting.ensures, c.if-waiting-left.true)

pub loop-index-preserved : goal.loop-index-preserved
loop-index-preserved g c =
    let i = c.loop-index.index in
    let waiting = c.args.self.now.taken.waiting in
    let all = ap (λ (w : Watched). length w.taken.waiting) c.self.view_is in
    let here = ap (λ (w : Watched). sum_by entry_bytes (waiting_at w.taken.waiting i)) c.self.view_is in
    let more = bytes_more waiting i (omega (arith, all, c.count-index-end.ensures.waiting, c.loop-index-test.true)) in
    omega (arith, here, more, c.loop-index.invariant, c.waiting_bytes-waiting.ensures, c.if-waiting-left.false)
