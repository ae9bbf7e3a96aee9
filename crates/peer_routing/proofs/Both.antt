-- A put and the read behind it, on an own vnode or on one of the others'.
use Rattle.std.proofs.Common.{◌≡◌, ℕ, ◌+◌, ◌-◌, ◌^◌, Bool, true, is_err, List, refl, sym, subst, Option, Some, None, Result, Ok, Err, min, if◌then◌else◌}
use Rattle.std.specs.Prelude.{MatchOption}
use Rattle.dvv.specs.declared.Dot.{Dot}
use Rattle.key_state.specs.declared.content.Content.{Content}
use Rattle.key_state.specs.declared.content.Key.{Key}
use Rattle.peers.specs.declared.peers.Answer.{Answer}
use Rattle.peers.specs.declared.fault.PeerFault.{PeerFault}
use Rattle.peers.specs.Calls.{Call, PutAt, StateOf, Made, puts_and_reads}
use Rattle.peers.specs.Counts.{Counts, fails_within}
use Rattle.peer_routing.specs.declared.router.Router.{Router}
use Rattle.peer_routing.specs.Rings.{RingStep, ring_view, own_index, moved_to, vnode_of}

module _ {P Q : Type 0} (own : P → Call → P → Type 0) (others : Q → Call → Q → Type 0) where
  abbrev pub Step : Router P Q → Call → Router P Q → Type 0
  Step old call new = RingStep own others (ring_view old.own old.first old.count old.others old.failures) call (ring_view new.own new.first new.count new.others new.failures)

  abbrev counted : Bool → ℕ → ℕ
  counted failed n = if failed then min (n + 1) (2 ^ 64 - 1) else n

  -- a call on an own vnode
  own_step : (old : Router P Q) (call : Call) (at : ℕ) (mid : P) (failures : ℕ) → own_index old.first old.count (vnode_of call) ≡ Some at → own old.own (moved_to at call) mid → Counts call old.failures failures
      → Step old call (record old { own = mid; failures = failures })
  own_step old call at mid failures index happens counts = record {
    happens = subst (λ (o : Option ℕ). MatchOption o (others old.others call old.others × (mid ≡ old.own)) (λ n. own old.own (moved_to n call) mid × (old.others ≡ old.others))) (sym index) (happens, refl);
    first = refl;
    count = refl;
    counted = counts;
  }

  -- a call on a vnode of the others
  others_step : (old : Router P Q) (call : Call) (mid : Q) (failures : ℕ) → own_index old.first old.count (vnode_of call) ≡ None → others old.others call mid → Counts call old.failures failures
      → Step old call (record old { others = mid; failures = failures })
  others_step old call mid failures index happens counts = record {
    happens = subst (λ (o : Option ℕ). MatchOption o (others old.others call mid × (old.own ≡ old.own)) (λ n. own old.own (moved_to n call) old.own × (mid ≡ old.others))) (sym index) (happens, refl);
    first = refl;
    count = refl;
    counted = counts;
  }

  module _ (old new : Router P Q) (i : ℕ) (key : Key) (seen : List Dot) (content : Content) where
    pub by_own : (back : Result (Dot × Result Answer PeerFault) PeerFault) (at : ℕ) (mid : P) → own_index old.first old.count i ≡ Some at → Made own old.own (puts_and_reads at key seen content back) mid
        → new ≡ record old { own = mid; failures = counted (fails_within back) old.failures } → Made Step old (puts_and_reads i key seen content back) new
    by_own (Ok (dot, answer)) at mid index (middle, put, (last, read, ends)) is = (
      record old { own = middle },
      own_step old (PutAt i key seen content (Ok dot)) at middle old.failures index put refl,
      (
        record old { own = last; failures = counted (is_err answer) old.failures },
        own_step (record old { own = middle }) (StateOf i key answer) at last (counted (is_err answer) old.failures) index read refl,
        subst (λ p. new ≡ record old { own = p; failures = counted (is_err answer) old.failures }) ends is,
      ),
    )
    by_own (Err fault) at mid index (middle, put, ends) is = (
      record old { own = middle; failures = counted true old.failures },
      own_step old (PutAt i key seen content (Err fault)) at middle (counted true old.failures) index put refl,
      subst (λ p. new ≡ record old { own = p; failures = counted true old.failures }) ends is,
    )

    pub by_others : (back : Result (Dot × Result Answer PeerFault) PeerFault) (mid : Q) → own_index old.first old.count i ≡ None → Made others old.others (puts_and_reads i key seen content back) mid
        → new ≡ record old { others = mid; failures = counted (fails_within back) old.failures } → Made Step old (puts_and_reads i key seen content back) new
    by_others (Ok (dot, answer)) mid index (middle, put, (last, read, ends)) is = (
      record old { others = middle },
      others_step old (PutAt i key seen content (Ok dot)) middle old.failures index put refl,
      (
        record old { others = last; failures = counted (is_err answer) old.failures },
        others_step (record old { others = middle }) (StateOf i key answer) last (counted (is_err answer) old.failures) index read refl,
        subst (λ q. new ≡ record old { others = q; failures = counted (is_err answer) old.failures }) ends is,
      ),
    )
    by_others (Err fault) mid index (middle, put, ends) is = (
      record old { others = middle; failures = counted true old.failures },
      others_step old (PutAt i key seen content (Err fault)) middle (counted true old.failures) index put refl,
      subst (λ q. new ≡ record old { others = q; failures = counted true old.failures }) ends is,
    )
