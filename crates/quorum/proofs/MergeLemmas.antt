-- The states of the first answers, and of one more.
use Rattle.std.proofs.Common.{◌≡◌, ℕ, zero, suc, ◌+◌, ◌<◌, ◌≤◌, ◌⊎◌, inl, inr, List, [], ◌∷◌, ◌++◌, length, length-append, take, drop, get_or, refl, ap, sym, ◌∙◌, subst, arith, Bool, true, false}
use Rattle.std.proofs.lemmas.List.{map-append, take_more}
use Rattle.peers.specs.declared.peers.Answer.{Answer}
use Rattle.std.proofs.Math.Nat.{lt_of_not-le}
use Rattle.dvv.specs.Clock.{vnodes_together, most_entries}
use Rattle.key_state.specs.declared.content.Key.{Key}
use Rattle.key_state.specs.State.{State}
use Rattle.journal.specs.Replay.{IsMergeOf}
use Rattle.quorum.specs.Gets.{states_of, PassesClock}

pub states_more : (found : List Answer) (i : ℕ) (a : Answer) → i < length found → a ≡ get_or found i a → states_of (take (i + 1) found) ≡ states_of (take i found) ++ a.state ∷ []
states_more found i a lt is = ap states_of (take_more found i a lt ∙ ap (λ x. take i found ++ x ∷ []) (sym is)) ∙ map-append (λ a. a.state) (take i found) (a ∷ [])

pub states_split : (found : List Answer) (i : ℕ) (a : Answer) → i < length found → a ≡ get_or found i a → states_of found ≡ states_of (take i found) ++ a.state ∷ states_of (drop (suc i) found)
states_split [] i a lt is = absurd (omega arith)
states_split (x ∷ found) zero a lt is = ap (λ (y : Answer). y.state ∷ states_of found) (sym is)
states_split (x ∷ found) (suc i) a lt is = ap (λ l. x.state ∷ l) (states_split found i a (omega arith) is)

-- a place among some states and one more is among these, or it is the last
place_of : (xs before after : List State) (y state : State) → xs ++ y ∷ [] ≡ before ++ state ∷ after → ((rest : List State) × (xs ≡ before ++ state ∷ rest)) ⊎ ((xs ≡ before) × (y ≡ state))
place_of [] [] after y state e = inr (refl, cc)
place_of [] (b ∷ before) after y state e = absurd (let n = ap length e in let m = length-append before (state ∷ after) in omega arith)
place_of (x ∷ xs) [] after y state e = let same : x ≡ state = cc in inl (xs, ap (λ s. s ∷ xs) same)
place_of (x ∷ xs) (b ∷ before) after y state e = further (place_of xs before after y state cc)
  where
    first : x ≡ b
    first = cc

    further : ((rest : List State) × (xs ≡ before ++ state ∷ rest)) ⊎ ((xs ≡ before) × (y ≡ state)) → ((rest : List State) × (x ∷ xs ≡ b ∷ before ++ state ∷ rest)) ⊎ ((x ∷ xs ≡ b ∷ before) × (y ≡ state))
    further (inl (rest, is)) = inl (rest, ap (λ s. s ∷ xs) first ∙ ap (λ l. b ∷ l) is)
    further (inr (is, last)) = inr (ap (λ s. s ∷ xs) first ∙ ap (λ l. b ∷ l) is, last)

pub none_passes : (key : Key) → PassesClock key [] → ⊥
none_passes key passes = let n = ap length passes.parts in let m = length-append passes.before (passes.state ∷ passes.after) in absurd (omega arith)

-- where a state and the merge of those before it keep within the limit, no merge so far passes it
pub still_fits : (key : Key) (xs : List State) (y merged : State) → ((a b : State) → IsMergeOf key xs a → IsMergeOf key xs b → a ≡ b) → IsMergeOf key xs merged → (PassesClock key xs → ⊥) → vnodes_together merged.clock y.clock ≤ most_entries
    → PassesClock key (xs ++ y ∷ []) → ⊥
still_fits key xs y merged one is_merge fits room passes = by_place (place_of xs passes.before passes.after y passes.state passes.parts)
  where
    by_place : ((rest : List State) × (xs ≡ passes.before ++ passes.state ∷ rest)) ⊎ ((xs ≡ passes.before) × (y ≡ passes.state)) → ⊥
    by_place (inl (rest, is)) = fits (record { before = passes.before; state = passes.state; after = rest; merged = passes.merged; parts = is; is_merge = passes.is_merge; many = passes.many })
    by_place (inr (is, last)) =
        let same : merged ≡ passes.merged = one merged passes.merged is_merge (subst (λ l. IsMergeOf key l passes.merged) (sym is) passes.is_merge) in
        let count : vnodes_together merged.clock y.clock ≡ vnodes_together passes.merged.clock passes.state.clock = ap (λ (m : State). vnodes_together m.clock y.clock) same ∙ ap (λ (s : State). vnodes_together passes.merged.clock s.clock) last in
        let many = passes.many in
        absurd (omega arith)

pub room_left : (n : ℕ) → (most_entries < n → ⊥) → n ≤ most_entries
room_left n none = let small : n < most_entries + 1 = lt_of_not-le none in omega arith

pub changed_so : (changed : Bool) → (changed ≡ false → ⊥) → changed ≡ true
changed_so true none = refl
changed_so false none = absurd (none refl)
