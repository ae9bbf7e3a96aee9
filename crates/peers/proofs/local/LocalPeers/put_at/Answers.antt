use Rattle.std.proofs.Common.{◌∙◌, refl, sym, subst, ap, Result}
use Rattle.dvv.specs.declared.Dot.{Dot}
use Rattle.peers.specs.declared.fault.PeerFault.{PeerFault}
use Rattle.peers.specs.Calls.{Call, PutAt}
use Rattle.peers.specs.Locals.{LocalView, Does, is_next}
use Rattle.peers.proofs.LocalLemmas.{heard, not_made, was_made, step_of}
use Rattle.peers.proofs.local.LocalPeers.put_at.Goals.{then-loses, else-loses}
use Rattle.peers.proofs.local.LocalPeers.put_at.Goals as goal

pub returns : goal.returns
returns c =
    let old : LocalView = c.args.self.now in
    let mid : LocalView = c.if-loses.self in
    let back = c.if-loses.back in
    let call : Result Dot PeerFault → Call = λ r. PutAt c.args.i c.args.key.now c.args.seen.now c.args.content.now r in
    let answer = heard call (λ r. refl) (is_next mid mid.unheard) back c.hand_back.result c.hand_back.ensures.heard in
    elim c.if-loses.branch [
      | then-loses w ↦ step_of (call back) (call c.hand_back.result) c.is_ok.result old mid c.hand_back.new.self old.logs w.self-is (not_made old (call back) (sym c.loses.ensures ∙ w.if-loses.true) w.back-is) c.is_ok.ensures.value answer c.hand_back.ensures.counted
      | else-loses w ↦
          (let logs = w.put_at-back.new.vnodes.items in
          let does = subst (λ (r : Result Dot PeerFault). Does c.self.inside.stamp c.self.inside.vnodes.items (call r) logs) (sym w.back-is) w.put_at-back.ensures.does in
          step_of (call back) (call c.hand_back.result) c.is_ok.result old mid c.hand_back.new.self logs
          (w.self-is ∙ ap (λ (l : LocalView). record l { logs = logs }) c.self.view_is)
          (was_made old (call back) logs (sym c.loses.ensures ∙ w.if-loses.false) (subst (λ (l : LocalView). Does l.stamp l.logs (call back) logs) c.self.view_is does))
          c.is_ok.ensures.value answer c.hand_back.ensures.counted)
    ]
