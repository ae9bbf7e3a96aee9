use Rattle.std.proofs.Common.{[], ◌∷◌, ◌++◌, refl, arith, length-append}
use Rattle.std.proofs.lemmas.Grind.{common_steps}
use Rattle.quorum.proofs.ReadLemmas.{one_more_read, answers_failed, answers_came}
use Rattle.quorum.proofs.getting.read_all.Goals as goal
use Rattle.quorum.proofs.getting.read_all.Goals.{in-Ok+in-Ok-push, in_default}

pub loop-i-init : goal.loop-i-init
loop-i-init g c = record { reads = ([], refl, refl, c.requires.none); room = c.requires.room; few = rw c.requires.none (omega arith) }

pub loop-i-preserved : goal.loop-i-preserved
loop-i-preserved g c =
    let h = c.loop-i.invariant.reads in record {
      reads = (
        h.0 ++ c.state_of.result ∷ [],
        one_more_read g.P.Peers.happens c.args.peers.now c.loop-i.peers c.state_of.new.self c.args.key.now c.args.vnodes.now h.0 c.loop-i.i-index c.state_of.result h.1 h.2 (omega arith) c.state_of.ensures,
        simp length-append (omega arith),
        elim c.match-state_of.branch [
          | in-Ok+in-Ok-push w ↦ let e = answers_came h.0 c.state_of.result w.in-Ok.answer w.in-Ok.is in grind (arith, common_steps)
          | in_default w ↦ let e = answers_failed h.0 c.state_of.result w.in_default.not-Ok in grind (arith, common_steps)
        ],
      );
      room = elim c.match-state_of.branch [ in-Ok+in-Ok-push w ↦ rw w.found-is (omega (arith, c.loop-i.invariant.room, w.push.ensures.capacity)) | in_default w ↦ rw w.found-is c.loop-i.invariant.room ];
      few = elim c.match-state_of.branch [ in-Ok+in-Ok-push w ↦ rw (w.found-is, w.in-Ok-push.ensures.items) (simp length-append (omega (arith, c.loop-i.invariant.few))) | in_default w ↦ rw w.found-is (omega (arith, c.loop-i.invariant.few)) ];
    }
