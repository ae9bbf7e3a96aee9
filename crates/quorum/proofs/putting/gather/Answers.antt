use Rattle.std.proofs.Common.{[], ◌∷◌, ◌++◌, sym, arith, length-append, subst}
use Rattle.peers.specs.Calls.{Made}
use Rattle.quorum.specs.Puts.{PassedOver, Merged, gathers}
use Rattle.quorum.proofs.PutLemmas.{one_passed, one_merged, failed}
use Rattle.quorum.proofs.putting.gather.Goals as goal
use Rattle.quorum.proofs.putting.gather.Goals.{in-Ok, in_default}

pub loop-i-preserved : goal.loop-i-preserved
loop-i-preserved g c =
    let h = c.loop-i.invariant in
    elim c.match-state_of.branch [
      | in-Ok w ↦ (
        h.0 ++ Merged w.in-Ok.answer w.merge_at.result ∷ [],
        subst (Made g.P.Peers.happens c.args.peers.now (gathers c.args.coordinator c.args.key.now c.args.vnodes.now (h.0 ++ Merged w.in-Ok.answer w.merge_at.result ∷ []))) (sym w.peers-is)
            (one_merged g.P.Peers.happens c.args.peers.now c.loop-i.peers c.state_of.new.self w.merge_at.new.self c.args.coordinator c.args.key.now c.args.vnodes.now h.0 c.loop-i.i-index c.state_of.result w.in-Ok.answer w.merge_at.result h.1 h.2 (omega arith) w.in-Ok.is c.state_of.ensures w.merge_at.ensures),
        simp length-append (omega arith),
      )
      | in_default w ↦ let f = failed c.state_of.result w.in_default.not-Ok in (
        h.0 ++ PassedOver f.0 ∷ [],
        subst (Made g.P.Peers.happens c.args.peers.now (gathers c.args.coordinator c.args.key.now c.args.vnodes.now (h.0 ++ PassedOver f.0 ∷ []))) (sym w.peers-is)
            (one_passed g.P.Peers.happens c.args.peers.now c.loop-i.peers c.state_of.new.self c.args.coordinator c.args.key.now c.args.vnodes.now h.0 c.loop-i.i-index c.state_of.result f.0 h.1 h.2 (omega arith) f.1 c.state_of.ensures),
        simp length-append (omega arith),
      )
    ]
