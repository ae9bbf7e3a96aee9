-- One vnode's answered state more.
use Rattle.std.proofs.Common.{◌≡◌, ℕ, zero, suc, ◌+◌, ◌<◌, List, [], ◌∷◌, ◌++◌, length, length-append, take, drop, map, get_or, refl, ap, sym, ◌∙◌, subst, arith, Result, Ok, Err, Bool, true, false, cond}
use Rattle.std.proofs.lemmas.List.{take_more, append-nil, map-append}
use Rattle.std.proofs.lemmas.List.Elements.{filter-append}
use Rattle.dvv.specs.declared.Dot.{Dot}
use Rattle.key_state.specs.declared.content.Content.{Content}
use Rattle.key_state.specs.declared.content.Key.{Key}
use Rattle.key_state.specs.State.{State}
use Rattle.peers.specs.declared.peers.Answer.{Answer}
use Rattle.peers.specs.declared.fault.PeerFault.{PeerFault}
use Rattle.peers.specs.Calls.{Call, PutAt, MergeAt, StateOf, Made, puts_and_reads}
use Rattle.quorum.specs.Resolves.{is_others, others_of, brings, OneFailed, told_of, AfterCommit}
use Rattle.peers.proofs.CallLemmas.{made_end}

brings_end : (coordinator : ℕ) (key : Key) (before after : List Answer) (a : Answer) (backs : List (Result Bool PeerFault)) (back : Result Bool PeerFault) → length backs ≡ length before
    → brings coordinator key (before ++ a ∷ after) (backs ++ back ∷ []) ≡ brings coordinator key before backs ++ MergeAt coordinator key a.from a.at a.state back ∷ []
brings_end coordinator key [] after a [] back e = refl
brings_end coordinator key [] after a (b ∷ backs) back e = absurd (omega arith)
brings_end coordinator key (x ∷ before) after a [] back e = absurd (omega arith)
brings_end coordinator key (x ∷ before) after a (b ∷ backs) back e = ap (λ c. MergeAt coordinator key x.from x.at x.state b ∷ c) (brings_end coordinator key before after a backs back (omega arith))

parts_of : (answers : List Answer) (i : ℕ) (a : Answer) → i < length answers → a ≡ get_or answers i a → answers ≡ take i answers ++ a ∷ drop (suc i) answers
parts_of [] i a lt is = absurd (omega arith)
parts_of (x ∷ answers) zero a lt is = ap (λ (y : Answer). y ∷ answers) (sym is)
parts_of (x ∷ answers) (suc i) a lt is = ap (λ l. x ∷ l) (parts_of answers i a (omega arith) is)

length_map_ok : (changes : List Bool) → length (map {B = Result Bool PeerFault} Ok changes) ≡ length changes
length_map_ok [] = refl
length_map_ok (x ∷ changes) = ap suc (length_map_ok changes)

pub took : (back : Result Bool PeerFault) → ((fault : PeerFault) → back ≡ Err fault → ⊥) → (changed : Bool) × (back ≡ Ok changed)
took (Ok changed) none = (changed, refl)
took (Err fault) none = absurd (none fault refl)

module _ (coordinator : ℕ) (answers : List Answer) (i : ℕ) (a : Answer) (lt : i < length answers) (is : a ≡ get_or answers i a) where
  others_more : (b : Bool) → is_others coordinator a ≡ b → others_of coordinator (take (i + 1) answers) ≡ others_of coordinator (take i answers) ++ cond b (a ∷ []) []
  others_more b e =
      ap (others_of coordinator) (take_more answers i a lt ∙ ap (λ r. take i answers ++ r ∷ []) (sym is))
      ∙ filter-append (is_others coordinator) (take i answers) (a ∷ []) ∙ ap (λ t. others_of coordinator (take i answers) ++ cond t (a ∷ []) []) e

  others_split : is_others coordinator a ≡ true → others_of coordinator answers ≡ others_of coordinator (take i answers) ++ a ∷ others_of coordinator (drop (suc i) answers)
  others_split e =
      ap (others_of coordinator) (parts_of answers i a lt is) ∙ filter-append (is_others coordinator) (take i answers) (a ∷ drop (suc i) answers)
      ∙ ap (λ t. others_of coordinator (take i answers) ++ cond t (a ∷ others_of coordinator (drop (suc i) answers)) (others_of coordinator (drop (suc i) answers))) e

  module _ {S : Type 0} (happens : S → Call → S → Type 0) (start now next : S) (key : Key) (changes : List Bool)
      (made : Made happens start (brings coordinator key (others_of coordinator (take i answers)) (map Ok changes)) now) (long : length changes ≡ length (others_of coordinator (take i answers))) where
    -- it was the coordinator's own
    pub was_own : is_others coordinator a ≡ false → (all : List Bool) × Made happens start (brings coordinator key (others_of coordinator (take (i + 1) answers)) (map Ok all)) now × (length all ≡ length (others_of coordinator (take (i + 1) answers)))
    was_own e =
        let same : others_of coordinator (take i answers) ≡ others_of coordinator (take (i + 1) answers) = sym (others_more false e ∙ append-nil (others_of coordinator (take i answers))) in
        (changes, subst (λ l. Made happens start (brings coordinator key l (map Ok changes)) now) same made, long ∙ ap length same)

    -- it was taken
    pub was_taken : (changed : Bool) → is_others coordinator a ≡ true → happens now (MergeAt coordinator key a.from a.at a.state (Ok changed)) next
        → (all : List Bool) × Made happens start (brings coordinator key (others_of coordinator (take (i + 1) answers)) (map Ok all)) next × (length all ≡ length (others_of coordinator (take (i + 1) answers)))
    was_taken changed e here =
        let more : others_of coordinator (take (i + 1) answers) ≡ others_of coordinator (take i answers) ++ a ∷ [] = others_more true e in
        let backs : List (Result Bool PeerFault) = map Ok changes in
        let whole : brings coordinator key (others_of coordinator (take (i + 1) answers)) (map Ok (changes ++ changed ∷ [])) ≡ brings coordinator key (others_of coordinator (take i answers)) backs ++ MergeAt coordinator key a.from a.at a.state (Ok changed) ∷ []
        = ap (λ l. brings coordinator key l (map Ok (changes ++ changed ∷ []))) more ∙ ap (brings coordinator key (others_of coordinator (take i answers) ++ a ∷ [])) (map-append {B = Result Bool PeerFault} Ok changes (changed ∷ []))
        ∙ brings_end coordinator key (others_of coordinator (take i answers)) [] a backs (Ok changed) (length_map_ok changes ∙ long) in (
          changes ++ changed ∷ [],
          subst (λ calls. Made happens start calls next) (sym whole) (made_end happens start now next (brings coordinator key (others_of coordinator (take i answers)) backs) (MergeAt coordinator key a.from a.at a.state (Ok changed)) made here),
          length-append changes (changed ∷ []) ∙ ap (λ n. n + 1) long ∙ sym (ap length more ∙ length-append (others_of coordinator (take i answers)) (a ∷ [])),
        )

    -- it wasn't taken
    pub was_refused : (fault : PeerFault) → is_others coordinator a ≡ true → happens now (MergeAt coordinator key a.from a.at a.state (Err fault)) next
        → (backs : List (Result Bool PeerFault)) × Made happens start (brings coordinator key (others_of coordinator answers) backs) next × OneFailed (others_of coordinator answers) backs fault
    was_refused fault e here =
        let parts = others_split e in
        let backs : List (Result Bool PeerFault) = map Ok changes in
        let whole : brings coordinator key (others_of coordinator answers) (backs ++ Err fault ∷ []) ≡ brings coordinator key (others_of coordinator (take i answers)) backs ++ MergeAt coordinator key a.from a.at a.state (Err fault) ∷ []
        = ap (λ l. brings coordinator key l (backs ++ Err fault ∷ [])) parts ∙ brings_end coordinator key (others_of coordinator (take i answers)) (others_of coordinator (drop (suc i) answers)) a backs (Err fault) (length_map_ok changes ∙ long) in
        let counted : length (others_of coordinator answers) ≡ length (others_of coordinator (take i answers)) + length (a ∷ others_of coordinator (drop (suc i) answers))
        = ap length parts ∙ length-append (others_of coordinator (take i answers)) (a ∷ others_of coordinator (drop (suc i) answers)) in (
          backs ++ Err fault ∷ [],
          subst (λ calls. Made happens start calls next) (sym whole) (made_end happens start now next (brings coordinator key (others_of coordinator (take i answers)) backs) (MergeAt coordinator key a.from a.at a.state (Err fault)) made here),
          (changes, refl, omega arith),
        )

-- what a put and the read behind it come to
abbrev pub told_both : Result (Dot × Result Answer PeerFault) PeerFault → Result State PeerFault
told_both (Ok stored) = told_of stored.1
told_both (Err fault) = Err fault

pub both_made : {S : Type 0} (happens : S → Call → S → Type 0) (old new : S) (coordinator : ℕ) (key : Key) (seen : List Dot) (content : Content) (back : Result (Dot × Result Answer PeerFault) PeerFault) (told : Result State PeerFault)
    → Made happens old (puts_and_reads coordinator key seen content back) new → told ≡ told_both back
    → (put : Result Dot PeerFault) × (rest : List Call) × Made happens old (PutAt coordinator key seen content put ∷ rest) new × AfterCommit coordinator key put rest told
both_made happens old new coordinator key seen content (Ok stored) told made is = (Ok stored.0, StateOf coordinator key stored.1 ∷ [], made, (stored.1, refl, is))
both_made happens old new coordinator key seen content (Err fault) told made is = (Err fault, [], made, (refl, is))
