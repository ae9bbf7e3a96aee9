-- One vnode more of a put's ways.
use Rattle.std.proofs.Common.{◌≡◌, ℕ, ◌+◌, ◌<◌, List, [], ◌∷◌, ◌++◌, length, get_or, refl, ap, sym, subst, arith, Option, Some, None, Result, Ok, Err, count_by, is_ok, cond, Bool, true, false, MatchBool}
use Rattle.std.specs.Prelude.{nat_le, if◌then◌else◌}
use Rattle.std.proofs.lemmas.List.Sums.{sum_by-append}
use Rattle.dvv.specs.declared.Dot.{Dot}
use Rattle.quorum.specs.declared.fault.QuorumFault.{QuorumFault}
use Rattle.quorum.specs.declared.fault.QuorumFault.TheVariants.{TooFew}
use Rattle.key_state.specs.declared.content.Content.{Content}
use Rattle.key_state.specs.declared.content.Key.{Key}
use Rattle.peers.specs.declared.peers.Answer.{Answer}
use Rattle.peers.specs.declared.fault.PeerFault.{PeerFault}
use Rattle.peers.specs.Calls.{Call, MergeAt, StateOf, Made}
use Rattle.quorum.specs.Puts.{Brought, PassedOver, Merged, gathers, merges, copies, is_ahead, put_of, reads_behind, IsReadFor, TriesAgain, AfterRead, AfterStored, AfterPut, AfterFirst}
use Rattle.peers.proofs.CallLemmas.{made_end, made_append}

merges_end : (key : Key) (answer : Answer) (vnodes : List ℕ) (backs : List (Result Bool PeerFault)) (back : Result Bool PeerFault) → length backs < length vnodes
    → merges key answer vnodes (backs ++ back ∷ []) ≡ merges key answer vnodes backs ++ MergeAt (get_or vnodes (length backs) 0) key answer.from answer.at answer.state back ∷ []
merges_end key answer [] backs back h = absurd (omega arith)
merges_end key answer (i ∷ vnodes) [] back h = refl
merges_end key answer (i ∷ vnodes) (b ∷ backs) back h = ap (λ c. MergeAt i key answer.from answer.at answer.state b ∷ c) (merges_end key answer vnodes backs back (omega arith))

pub one_more_merge : {S : Type 0} (happens : S → Call → S → Type 0) (start now next : S) (key : Key) (answer : Answer) (vnodes : List ℕ) (backs : List (Result Bool PeerFault)) (index : ℕ) (back : Result Bool PeerFault)
    → Made happens start (merges key answer vnodes backs) now → length backs ≡ index → index < length vnodes → happens now (MergeAt (get_or vnodes index 0) key answer.from answer.at answer.state back) next
    → Made happens start (merges key answer vnodes (backs ++ back ∷ [])) next
one_more_merge happens start now next key answer vnodes backs index back made len lt here =
    subst (λ calls. Made happens start calls next) (sym (merges_end key answer vnodes backs back (omega arith)))
    (made_end happens start now next (merges key answer vnodes backs) (MergeAt (get_or vnodes (length backs) 0) key answer.from answer.at answer.state back) made (subst (λ n. happens now (MergeAt (get_or vnodes n 0) key answer.from answer.at answer.state back) next) (sym len) here))

calls_of : ℕ → ℕ → Key → Brought → List Call
calls_of coordinator i key (PassedOver fault) = StateOf i key (Err fault) ∷ []
calls_of coordinator i key (Merged answer back) = StateOf i key (Ok answer) ∷ MergeAt coordinator key answer.from answer.at answer.state back ∷ []

gathers_end : (coordinator : ℕ) (key : Key) (vnodes : List ℕ) (bs : List Brought) (b : Brought) → length bs < length vnodes
    → gathers coordinator key vnodes (bs ++ b ∷ []) ≡ gathers coordinator key vnodes bs ++ calls_of coordinator (get_or vnodes (length bs) 0) key b
unfolding calls_of
gathers_end coordinator key [] bs b h = absurd (omega arith)
gathers_end coordinator key (i ∷ vnodes) [] (PassedOver fault) h = refl
gathers_end coordinator key (i ∷ vnodes) [] (Merged answer back) h = refl
gathers_end coordinator key (i ∷ vnodes) (PassedOver f ∷ bs) b h = ap (λ c. StateOf i key (Err f) ∷ c) (gathers_end coordinator key vnodes bs b (omega arith))
gathers_end coordinator key (i ∷ vnodes) (Merged a k ∷ bs) b h = ap (λ c. StateOf i key (Ok a) ∷ MergeAt coordinator key a.from a.at a.state k ∷ c) (gathers_end coordinator key vnodes bs b (omega arith))

pub one_passed : {S : Type 0} (happens : S → Call → S → Type 0) (start now next : S) (coordinator : ℕ) (key : Key) (vnodes : List ℕ) (bs : List Brought) (index : ℕ) (back : Result Answer PeerFault) (fault : PeerFault)
    → Made happens start (gathers coordinator key vnodes bs) now → length bs ≡ index → index < length vnodes → back ≡ Err fault → happens now (StateOf (get_or vnodes index 0) key back) next
    → Made happens start (gathers coordinator key vnodes (bs ++ PassedOver fault ∷ [])) next
unfolding calls_of
one_passed happens start now next coordinator key vnodes bs index back fault made len lt is here =
    subst (λ calls. Made happens start calls next) (sym (gathers_end coordinator key vnodes bs (PassedOver fault) (omega arith)))
    (made_end happens start now next (gathers coordinator key vnodes bs) (StateOf (get_or vnodes (length bs) 0) key (Err fault)) made
    (subst (λ n. happens now (StateOf (get_or vnodes n 0) key (Err fault)) next) (sym len) (subst (λ b. happens now (StateOf (get_or vnodes index 0) key b) next) is here)))

pub one_merged : {S : Type 0} (happens : S → Call → S → Type 0) (start now mid next : S) (coordinator : ℕ) (key : Key) (vnodes : List ℕ) (bs : List Brought) (index : ℕ) (read : Result Answer PeerFault) (answer : Answer) (back : Result Bool PeerFault)
    → Made happens start (gathers coordinator key vnodes bs) now → length bs ≡ index → index < length vnodes → read ≡ Ok answer → happens now (StateOf (get_or vnodes index 0) key read) mid
    → happens mid (MergeAt coordinator key answer.from answer.at answer.state back) next
    → Made happens start (gathers coordinator key vnodes (bs ++ Merged answer back ∷ [])) next
unfolding calls_of
one_merged happens start now mid next coordinator key vnodes bs index read answer back made len lt is here there =
    subst (λ calls. Made happens start calls next) (sym (gathers_end coordinator key vnodes bs (Merged answer back) (omega arith)))
    (made_append happens start now next (gathers coordinator key vnodes bs) (calls_of coordinator (get_or vnodes (length bs) 0) key (Merged answer back)) made
    (mid, subst (λ n. happens now (StateOf (get_or vnodes n 0) key (Ok answer)) mid) (sym len) (subst (λ b. happens now (StateOf (get_or vnodes index 0) key b) mid) is here), (next, there, refl)))

pub failed : {A E : Type 0} (r : Result A E) → ((a : A) → r ≡ Ok a → ⊥) → (e : E) × (r ≡ Err e)
failed (Ok a) none = absurd (none a refl)
failed (Err e) none = (e, refl)

pub copies_end : (backs : List (Result Bool PeerFault)) (back : Result Bool PeerFault) → copies (backs ++ back ∷ []) ≡ cond (is_ok back) (copies backs + 1) (copies backs)
copies_end backs back = at_end back (count_by is_ok (backs ++ back ∷ [])) (count_by is_ok backs) (sum_by-append (λ b. cond (is_ok b) 1 0) backs (back ∷ []))
  where
    at_end : (back : Result Bool PeerFault) (m n : ℕ) → m ≡ n + count_by is_ok (back ∷ []) → 1 + m ≡ cond (is_ok back) ((1 + n) + 1) (1 + n)
    at_end (Ok x) m n h = omega arith
    at_end (Err e) m n h = omega arith

module _ (coordinator : ℕ) (others : List ℕ) (key : Key) (w : ℕ) (dot : Dot) (own : Option (Result Answer PeerFault)) (result : Result Dot QuorumFault) (read : IsReadFor others (Ok (dot, own))) where
  -- what follows a put that was stored, and the read behind it
  abbrev Follows : List Call → Type 0
  Follows rest = AfterPut coordinator others key w (Ok dot) (reads_behind coordinator key (Ok (dot, own)) ++ rest) result

  -- a put whose copy is the only one
  pub alone : own ≡ None → result ≡ (if nat_le w 1 then Ok dot else Err TooFew) → Follows []
  alone none told = subst (λ o. AfterStored coordinator others key w dot (reads_behind coordinator key (Ok (dot, o)) ++ []) result) (sym none) (by_others others (subst (λ o. IsReadFor others (Ok (dot, o))) none read))
    where
      by_others : (all : List ℕ) → IsReadFor all (Ok (dot, None)) → AfterStored coordinator all key w dot [] result
      by_others [] is = (refl, told)
      by_others (i ∷ more) is = absurd is

  -- a put that goes to others
  pub not_alone : (back : Result Answer PeerFault) (rest : List Call) → own ≡ Some back → AfterRead coordinator others key w dot back rest result → Follows rest
  not_alone back rest some after =
      subst (λ o. AfterStored coordinator others key w dot (reads_behind coordinator key (Ok (dot, o)) ++ rest) result) (sym some) (by_others others (subst (λ o. IsReadFor others (Ok (dot, o))) some read) after)
    where
      by_others : (all : List ℕ) → IsReadFor all (Ok (dot, Some back)) → AfterRead coordinator all key w dot back rest result → AfterStored coordinator all key w dot (StateOf coordinator key back ∷ rest) result
      by_others [] is after = absurd is
      by_others (i ∷ more) is after = (back, rest, refl, after)

-- no read is behind a put that was ahead
pub ahead_unread : (coordinator : ℕ) (key : Key) (back : Result (Dot × Option (Result Answer PeerFault)) PeerFault) → is_ahead (put_of back) ≡ true → reads_behind coordinator key back ≡ []
ahead_unread coordinator key (Ok (dot, own)) e = absurd cc
ahead_unread coordinator key (Err fault) e = refl

-- the calls that follow one, with it in front
pub one_first : {S : Type 0} (happens : S → Call → S → Type 0) (start mid new : S) (call : Call) (calls : List Call) → happens start call mid → Made happens mid calls new → Made happens start (call ∷ calls) new
one_first happens start mid new call calls h m = (mid, h, m)

module _ (coordinator : ℕ) (others : List ℕ) (key : Key) (w : ℕ) (seen : List Dot) (content : Content) (first : Result Dot PeerFault) (calls : List Call) (result : Result Dot QuorumFault) where
  pub tries_again : is_ahead first ≡ true → TriesAgain coordinator others key w seen content calls result → AfterFirst coordinator others key w seen content first calls result
  tries_again e h = subst (λ b. MatchBool b (TriesAgain coordinator others key w seen content calls result) (AfterPut coordinator others key w first calls result)) (sym e) h

  pub goes_on : is_ahead first ≡ false → AfterPut coordinator others key w first calls result → AfterFirst coordinator others key w seen content first calls result
  goes_on e h = subst (λ b. MatchBool b (TriesAgain coordinator others key w seen content calls result) (AfterPut coordinator others key w first calls result)) (sym e) h
