-- One read more.
use Rattle.std.proofs.Common.{◌≡◌, ℕ, ◌≤◌, ◌<◌, List, [], ◌∷◌, ◌++◌, length, length-append, get_or, refl, ap, sym, ◌∙◌, subst, arith, Result, Ok, Err}
use Rattle.std.proofs.lemmas.List.{append-nil}
use Rattle.key_state.specs.declared.content.Key.{Key}
use Rattle.peers.specs.declared.peers.Answer.{Answer}
use Rattle.peers.specs.declared.fault.PeerFault.{PeerFault}
use Rattle.peers.specs.Calls.{Call, StateOf, Made}
use Rattle.peers.proofs.CallLemmas.{made_end}
use Rattle.quorum.specs.Gets.{reads, answers}

pub reads_end : (key : Key) (vnodes : List ℕ) (backs : List (Result Answer PeerFault)) (back : Result Answer PeerFault) → length backs < length vnodes
    → reads key vnodes (backs ++ back ∷ []) ≡ reads key vnodes backs ++ StateOf (get_or vnodes (length backs) 0) key back ∷ []
reads_end key [] backs back h = absurd (omega arith)
reads_end key (i ∷ vnodes) [] back h = refl
reads_end key (i ∷ vnodes) (b ∷ backs) back h = ap (λ c. StateOf i key b ∷ c) (reads_end key vnodes backs back (omega arith))

pub answers_end : (backs : List (Result Answer PeerFault)) (back : Result Answer PeerFault) → answers (backs ++ back ∷ []) ≡ answers backs ++ answers (back ∷ [])
answers_end [] back = refl
answers_end (Ok a ∷ backs) back = ap (λ c. a ∷ c) (answers_end backs back)
answers_end (Err e ∷ backs) back = answers_end backs back

pub one_more_read : {S : Type 0} (happens : S → Call → S → Type 0) (start now next : S) (key : Key) (vnodes : List ℕ) (backs : List (Result Answer PeerFault)) (index : ℕ) (back : Result Answer PeerFault)
    → Made happens start (reads key vnodes backs) now → length backs ≡ index → index < length vnodes → happens now (StateOf (get_or vnodes index 0) key back) next
    → Made happens start (reads key vnodes (backs ++ back ∷ [])) next
one_more_read happens start now next key vnodes backs index back made len lt here =
    subst (λ calls. Made happens start calls next) (sym (reads_end key vnodes backs back (omega arith)))
    (made_end happens start now next (reads key vnodes backs) (StateOf (get_or vnodes (length backs) 0) key back) made (subst (λ n. happens now (StateOf (get_or vnodes n 0) key back) next) (sym len) here))

pub answers_failed : (backs : List (Result Answer PeerFault)) (back : Result Answer PeerFault) → ((a : Answer) → back ≡ Ok a → ⊥) → answers (backs ++ back ∷ []) ≡ answers backs
answers_failed backs (Ok a) none = absurd (none a refl)
answers_failed backs (Err e) none = answers_end backs (Err e) ∙ append-nil (answers backs)

pub answers_came : (backs : List (Result Answer PeerFault)) (back : Result Answer PeerFault) (a : Answer) → back ≡ Ok a → answers (backs ++ back ∷ []) ≡ answers backs ++ a ∷ []
answers_came backs back a h = answers_end backs back ∙ ap (λ b. answers backs ++ answers (b ∷ [])) h

pub length_end : {A : Type 0} (xs : List A) (x : A) (n m : ℕ) → length xs ≡ n → n < m → length (xs ++ x ∷ []) ≤ m
length_end xs x n m h lt = simp length-append (omega arith)

pub answers_few : (backs : List (Result Answer PeerFault)) → length (answers backs) ≤ length backs
answers_few [] = omega arith
answers_few (Ok a ∷ backs) = let few = answers_few backs in omega arith
answers_few (Err e ∷ backs) = let few = answers_few backs in omega arith
