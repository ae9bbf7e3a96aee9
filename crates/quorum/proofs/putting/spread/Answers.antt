use Rattle.std.proofs.Common.{[], ◌∷◌, ◌++◌, arith, length-append}
use Rattle.std.proofs.lemmas.Grind.{common_steps}
use Rattle.quorum.proofs.PutLemmas.{one_more_merge, copies_end}
use Rattle.quorum.proofs.putting.spread.Goals as goal
use Rattle.quorum.proofs.putting.spread.Goals.{then-is_ok, else-is_ok}

pub loop-i-preserved : goal.loop-i-preserved
loop-i-preserved g c =
    let h = c.loop-i.invariant in (
      h.0 ++ c.merge_at.result ∷ [],
      one_more_merge g.P.Peers.happens c.args.peers.now c.loop-i.peers c.merge_at.new.self c.args.key.now c.args.answer.now c.args.vnodes.now h.0 c.loop-i.i-index c.merge_at.result h.1 h.2 (omega arith) c.merge_at.ensures,
      simp length-append (omega arith),
      let e = copies_end h.0 c.merge_at.result in
          elim c.if-is_ok.branch [ then-is_ok w ↦ grind (arith, common_steps) | else-is_ok w ↦ grind (arith, common_steps) ],
    )
