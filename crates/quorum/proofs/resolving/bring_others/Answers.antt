use Rattle.std.proofs.Common.{arith, Ok, sym, ◌∙◌, subst, ◌+◌, map, take}
use Rattle.peers.specs.Calls.{MergeAt, Made}
use Rattle.quorum.specs.Resolves.{brings, others_of}
use Rattle.quorum.proofs.ResolveLemmas.{was_own, was_taken, was_refused, took}
use Rattle.quorum.proofs.resolving.bring_others.Goals as goal
use Rattle.quorum.proofs.resolving.bring_others.Goals.{then-is_others+in_default, else-is_others}

pub returns-in-Err : goal.returns-in-Err
returns-in-Err g c =
    let h = c.loop-answer.invariant in
    let answer = c.answer-item.result in
    was_refused c.args.coordinator c.args.answers.now c.loop-answer.answer-index answer (omega arith) c.answer-item.is g.P.Peers.happens c.args.peers.now c.loop-answer.peers c.merge_at.new.self c.args.key.now h.0 h.1 h.2
    c.in-Err.fault (sym c.is_others.ensures ∙ c.if-is_others.true)
    (subst (λ b. g.P.Peers.happens c.loop-answer.peers (MergeAt c.args.coordinator c.args.key.now answer.from answer.at answer.state b) c.merge_at.new.self) c.in-Err.is c.merge_at.ensures)

pub loop-answer-preserved : goal.loop-answer-preserved
loop-answer-preserved g c =
    let h = c.loop-answer.invariant in
    let answer = c.answer-item.result in
    elim c.if-is_others.branch [
      | then-is_others+in_default w ↦
          let t = took w.merge_at.result w.in_default.not-Err in
          let more = was_taken c.args.coordinator c.args.answers.now c.loop-answer.answer-index answer (omega arith) c.answer-item.is g.P.Peers.happens c.args.peers.now c.loop-answer.peers w.merge_at.new.self c.args.key.now h.0 h.1 h.2
          t.0 (sym c.is_others.ensures ∙ w.if-is_others.true)
          (subst (λ b. g.P.Peers.happens c.loop-answer.peers (MergeAt c.args.coordinator c.args.key.now answer.from answer.at answer.state b) w.merge_at.new.self) t.1 w.merge_at.ensures) in
          (more.0, subst (Made g.P.Peers.happens c.args.peers.now (brings c.args.coordinator c.args.key.now (others_of c.args.coordinator (take (c.loop-answer.answer-index + 1) c.args.answers.now)) (map Ok more.0))) (sym w.peers-is) more.1, more.2)
      | else-is_others w ↦
          let same = was_own c.args.coordinator c.args.answers.now c.loop-answer.answer-index answer (omega arith) c.answer-item.is g.P.Peers.happens c.args.peers.now c.loop-answer.peers c.loop-answer.peers c.args.key.now h.0 h.1 h.2
          (sym c.is_others.ensures ∙ w.if-is_others.false) in
          (same.0, subst (Made g.P.Peers.happens c.args.peers.now (brings c.args.coordinator c.args.key.now (others_of c.args.coordinator (take (c.loop-answer.answer-index + 1) c.args.answers.now)) (map Ok same.0))) (sym w.peers-is) same.1, same.2)
    ]
