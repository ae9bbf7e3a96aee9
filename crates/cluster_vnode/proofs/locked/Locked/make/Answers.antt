use Rattle.std.proofs.Common.{◌≡◌, ◌+◌, IfOk, is_ok, if◌then◌else◌, sym, ap, ◌∙◌, subst}
use Rattle.cluster_stamps.specs.declared.view.View.{View}
use Rattle.cluster_vnode.specs.Answers.{entries_told}
use Rattle.cluster_vnode.proofs.Entries.{told_at, told_more, one_made}
use Rattle.cluster_vnode.proofs.locked.Locked.make.Goals.{in-Ok, in-Err-Missing, in-Err-Refused}
use Rattle.cluster_vnode.proofs.locked.Locked.make.Goals as goal

pub returns-clause-place : goal.returns-clause-place
returns-clause-place g c =
    let here = subst (λ (v : View). c.ask-at.result.at ≡ entries_told v) c.self.view_is (told_at c.self.inside.vnode c.expect.new.self c.self.inside.card.me.0 c.ask-at.result.at c.expect.ensures c.self.invariant.2 c.ask-at.ensures.place) in
    elim c.match-outcome.branch [
      | in-Ok w ↦ subst (λ r. IfOk r (λ made. made.1.place ≡ entries_told c.args.self.now)) (sym w.result-is) here
      | in-Err-Missing w ↦ subst (λ r. IfOk r (λ made. made.1.place ≡ entries_told c.args.self.now)) (sym w.result-is) tt
      | in-Err-Refused w ↦ subst (λ r. IfOk r (λ made. made.1.place ≡ entries_told c.args.self.now)) (sym w.result-is) tt
    ]

pub returns-clause-entries : goal.returns-clause-entries
returns-clause-entries g c =
    let seat = c.self.inside.card.me.0 in
    let out = c.ask-at.result.outcome in
    let more = told_more c.self.inside.vnode c.expect.new.self c.ask-at.new.vnode seat c.ask-at.new.card.me.0 _ c.expect.ensures c.self.invariant.2 c.ask-at.ensures.vnode c.ask-at.ensures.entries in
    let same : is_ok c.match-outcome.result ≡ is_ok out = elim c.match-outcome.branch [
      | in-Ok w ↦ ap is_ok w.result-is ∙ sym (ap is_ok w.in-Ok.is)
      | in-Err-Missing w ↦ ap is_ok w.result-is ∙ sym (ap is_ok w.in-Err-Missing.is)
      | in-Err-Refused w ↦ ap is_ok w.result-is ∙ sym (ap is_ok w.in-Err-Refused.is)
    ] in
    subst (λ (v : View). entries_told c.ask-at.new.card.me.0 ≡ entries_told v + (if is_ok c.match-outcome.result then 1 else 0)) c.self.view_is (more ∙ ap (λ n. entries_told seat + n) (one_made out c.match-outcome.result same))
