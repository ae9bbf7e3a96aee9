use Rattle.std.proofs.Common.{arith, sym, subst, ◌∙◌, ◌+◌}
use Rattle.std.proofs.lemmas.Grind.{common_steps}
use Rattle.std.proofs.Common.{take}
use Rattle.repair.specs.Repairs.{deliveries_of}
use Rattle.repair.proofs.RepairLemmas.{Tried, was_tried, was_passed}
use Rattle.repair.proofs.repairing.deliver.Goals as goal
use Rattle.repair.proofs.repairing.deliver.Goals.{then-is_changed_by+then-is_ok, then-is_changed_by+else-is_ok, else-is_changed_by}

pub loop-receiver-preserved : goal.loop-receiver-preserved
loop-receiver-preserved g c =
    let h = c.loop-receiver.invariant in
    elim c.if-is_changed_by.branch [
      | then-is_changed_by+then-is_ok w ↦ (
        subst (λ s. Tried g.P.Peers.happens c.args.peers.now s c.args.key.now (deliveries_of (take (c.loop-receiver.receiver-index + 1) c.args.answers.now) c.args.sender.now) c.if-is_changed_by.delivered) (sym w.peers-is)
            (was_tried g.P.Peers.happens c.args.peers.now c.loop-receiver.peers w.merge_at.new.self c.args.key.now c.args.answers.now c.args.sender.now c.loop-receiver.receiver-index c.receiver-item.result c.loop-receiver.delivered c.if-is_changed_by.delivered (omega arith) c.receiver-item.is h.0
            w.merge_at.result (sym c.is_changed_by.ensures ∙ w.if-is_changed_by.true) w.merge_at.ensures (grind (arith, common_steps))),
        grind (arith, common_steps),
      )
      | then-is_changed_by+else-is_ok w ↦ (
        subst (λ s. Tried g.P.Peers.happens c.args.peers.now s c.args.key.now (deliveries_of (take (c.loop-receiver.receiver-index + 1) c.args.answers.now) c.args.sender.now) c.if-is_changed_by.delivered) (sym w.peers-is)
            (was_tried g.P.Peers.happens c.args.peers.now c.loop-receiver.peers w.merge_at.new.self c.args.key.now c.args.answers.now c.args.sender.now c.loop-receiver.receiver-index c.receiver-item.result c.loop-receiver.delivered c.if-is_changed_by.delivered (omega arith) c.receiver-item.is h.0
            w.merge_at.result (sym c.is_changed_by.ensures ∙ w.if-is_changed_by.true) w.merge_at.ensures (grind (arith, common_steps))),
        grind (arith, common_steps),
      )
      | else-is_changed_by w ↦ (
        was_passed g.P.Peers.happens c.args.peers.now c.loop-receiver.peers c.if-is_changed_by.peers c.args.key.now c.args.answers.now c.args.sender.now c.loop-receiver.receiver-index c.receiver-item.result c.loop-receiver.delivered c.if-is_changed_by.delivered (omega arith) c.receiver-item.is h.0
            (sym c.is_changed_by.ensures ∙ w.if-is_changed_by.false) (sym w.peers-is) (sym w.delivered-is),
        grind (arith, common_steps),
      )
    ]
