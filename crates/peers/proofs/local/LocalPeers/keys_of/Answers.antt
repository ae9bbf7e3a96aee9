use Rattle.std.proofs.Common.{◌≡◌, ◌∙◌, refl, sym, subst, ℕ, Result, Err, List, MatchOption, slice_get, false}
use Rattle.std.specs.Global.{Vec}
use Rattle.key_state.specs.declared.content.Key.{Key}
use Rattle.journal.specs.Logs.{Log}
use Rattle.peers.specs.declared.fault.PeerFault.{PeerFault}
use Rattle.peers.specs.declared.fault.PeerFault.TheVariants.{Lost}
use Rattle.peers.specs.Calls.{Call, KeysOf}
use Rattle.peers.specs.Locals.{LocalView, KeysIn, is_next}
use Rattle.peers.proofs.LocalLemmas.{heard, not_made, was_made, step_of}
use Rattle.peers.proofs.local.LocalPeers.keys_of.Goals.{then-loses, else-loses}
use Rattle.peers.proofs.local.LocalPeers.keys_of.Goals as goal

abbrev Names : ℕ → List Log → Result (Vec Key) PeerFault → Type 0
Names i logs back = MatchOption (slice_get logs i) (back ≡ Err Lost) (λ log. KeysIn log back)

pub returns : goal.returns
returns c =
    let old : LocalView = c.args.self.now in
    let back = c.if-loses.back in
    let call : Result (Vec Key) PeerFault → Call = λ r. KeysOf c.args.i r in
    let answer = heard call (λ r. refl) (is_next old old.unheard) back c.hand_back.result c.hand_back.ensures.heard in
    elim c.if-loses.branch [
      | then-loses w ↦ step_of (call back) (call c.hand_back.result) false old old c.hand_back.new.self old.logs refl (not_made old (call back) (sym c.loses.ensures ∙ w.if-loses.true) w.back-is) refl answer c.hand_back.ensures.counted
      | else-loses w ↦
          (let told = subst (λ (r : Result (Vec Key) PeerFault). Names c.args.i w.deref.result.now r) (sym w.back-is) w.keys_at-back.ensures in
          let here = subst (λ (l : List Log). Names c.args.i l back) w.deref.ensures.value told in
          let named = subst (λ (l : LocalView). Names c.args.i l.logs back) c.self.view_is here in
          step_of (call back) (call c.hand_back.result) false old old c.hand_back.new.self old.logs refl (was_made old (call back) old.logs (sym c.loses.ensures ∙ w.if-loses.false) (named, refl)) refl answer c.hand_back.ensures.counted)
    ]
