-- What journals leave of merges, and contexts of before a fold.
use Rattle.std.proofs.Common.{◌≡◌, ℕ, ◌++◌, List, [], ◌∷◌, length, refl, sym, subst, arith, append_assoc}
use Rattle.std.specs.Prelude.{◌==◌, ◌≢◌, if◌then◌else◌, Bool, true, false}
use Rattle.std.proofs.lemmas.List.{append-nil}
use Rattle.std.proofs.lemmas.Bool.{eqb-true}
use Rattle.dvv.specs.declared.Dot.{Dot}
use Rattle.dvv.specs.Clock.{Covers, Within, counter}
use Rattle.key_state.specs.declared.content.Key.{Key}
use Rattle.key_state.specs.declared.content.Sibling.{Sibling}
use Rattle.key_state.specs.State.{State, IsState, Merges}
use Rattle.journal.specs.Replay.{IsMergeOf}
use Rattle.kept_fold.specs.Folds.{anew}
use Rattle.kept_fold.specs.Merging.{MergesInto}

-- ---- merges, one after another, are those of a journal

pub merges_of_journal : (key : Key) (more : (states : List State) (old other new : State) → IsMergeOf key states old → Merges old other new → IsState new → IsMergeOf key (states ++ other ∷ []) new)
    (done xs : List State) (own last : State) → IsMergeOf key done own → MergesInto own xs last → IsMergeOf key (done ++ xs) last
merges_of_journal key more done [] own last so is = subst (λ (s : State). IsMergeOf key (done ++ []) s) (sym is) (subst (λ (l : List State). IsMergeOf key l own) (sym (append-nil done)) so)
merges_of_journal key more done (x ∷ xs) own last so (new, fits, merges, is, rest) =
    subst (λ (l : List State). IsMergeOf key l last) (append_assoc done (x ∷ []) xs) (merges_of_journal key more (done ++ x ∷ []) xs new last (more done own x new so merges is) rest)

-- ---- a context of before

alone : (vnode n other : ℕ) → other ≢ vnode → counter (record { vnode = vnode; n = n } ∷ []) other ≡ 0
alone vnode n other apart = by_test (vnode == other) refl
  where
    by_test : (b : Bool) → (vnode == other) ≡ b → (if b then n else 0) ≡ 0
    by_test true is = absurd (apart (sym (eqb-true vnode other is)))
    by_test false is = refl

pub former_ahead : (vnode : ℕ) (siblings : List Sibling) (seen : List Dot) (event : Dot) → Covers seen event → event.vnode ≢ vnode → Within seen (anew vnode siblings).clock → ⊥
former_ahead vnode siblings seen event counts apart within =
    let h = within event counts in let none = alone vnode (length siblings) event.vnode apart in let some = h.0 in let few = h.1 in absurd (omega (arith, some, few, none))
