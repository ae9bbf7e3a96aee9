-- The journals of vnodes, one after the other.
use Rattle.std.proofs.Common.{◌≡◌, ℕ, ◌+◌, ◌<◌, ◌≤◌, List, [], ◌∷◌, ◌++◌, length, take, sym, ap, subst, ◌∙◌, arith, ◌⊎◌, inl, inr}
use Rattle.std.proofs.lemmas.Bool.{cases_lt}
use Rattle.std.proofs.lemmas.List.{take_more}
use Rattle.journal.specs.Logs.{Log}
use Rattle.journal.specs.Journals.{IsJournal}
use Rattle.world.specs.Represents.{log_at}

-- so many of the vnodes are each its journal's
abbrev pub AreUpTo : List Log → ℕ → Type 0
AreUpTo logs n = (index : ℕ) → index < n → IsJournal (log_at logs index).vnode (log_at logs index).entries

-- one more
pub logs_more : (logs : List Log) (journals : List Log) (i : ℕ) (j : Log) → i < length logs → journals ≡ take i logs → j ≡ log_at logs i → journals ++ j ∷ [] ≡ take (i + 1) logs
logs_more logs journals i j inside so is =
    ap (λ (xs : List Log). xs ++ j ∷ []) so ∙ ap (λ (l : Log). take i logs ++ l ∷ []) is
    ∙ sym (take_more logs i (record { vnode = 0; entries = [] }) inside)

pub are_more : (logs : List Log) (i : ℕ) (j : Log) → AreUpTo logs i → j ≡ log_at logs i → IsJournal j.vnode j.entries → AreUpTo logs (i + 1)
are_more logs i j so is legal index below = by (cases_lt index i)
  where
    by : (index < i) ⊎ (i ≤ index) → IsJournal (log_at logs index).vnode (log_at logs index).entries
    by (inl before) = so index before
    by (inr not_before) =
        let here : log_at logs i ≡ log_at logs index = ap (log_at logs) (omega (arith, below, not_before)) in
        subst (λ (l : Log). IsJournal l.vnode l.entries) (is ∙ here) legal
