-- Whose entry is next, and what is left when it was followed.
use Rattle.std.proofs.Common.{◌≡◌, ◌⊎◌, ℕ, zero, suc, ◌+◌, ◌<◌, ◌≤◌, List, [], ◌∷◌, ◌++◌, length, set, drop, refl, sym, ap, subst, ◌∙◌, inl, inr, arith, Option, Some, None, length-set, append_assoc}
use Rattle.std.specs.Prelude.{MatchOption, slice_get}
use Rattle.std.proofs.lemmas.Bool.{cases_eq}
use Rattle.std.proofs.lemmas.List.{get_or-set_same, get_or-set_other}
use Rattle.std.proofs.lemmas.Option.{MatchOption-at_some, MatchOption-at_none, same_Some}
use Rattle.journal.specs.Entry.{Entry}
use Rattle.journal.specs.Logs.{Log, with_entry}
use Rattle.journal.specs.Stamps.{stamp_of}
use Rattle.world.specs.Represents.{log_at, with_entry_at}
use Rattle.audit_follower.specs.declared.run.Head.{Head}
use Rattle.audit_follower.specs.Waiting.{waiting_at, count_waiting, IsNext, NoneBelow, AreTakenAlike}
use Rattle.audit_replay.proofs.Names.{same_ids}

-- an entry waits of a vnode that is there
pub next_inside : (waiting : List (List Entry)) (index : ℕ) (e : Entry) → IsNext waiting index e → index < length waiting
next_inside [] index e is = absurd (let none : None ≡ Some e = is in cc)
next_inside (queue ∷ queues) zero e is = omega arith
next_inside (queue ∷ queues) (suc index) e is = let h = next_inside queues index e is in omega (arith, h)

-- of the vnodes before this index, none has a stamp below the bound
abbrev pub NoneBefore : List (List Entry) → ℕ → ℕ → Type 0
NoneBefore waiting below end = (index : ℕ) (e : Entry) → index < end → IsNext waiting index e → below ≤ stamp_of e

-- one of the vnodes before this index has a next entry
abbrev pub IsHeadBefore : List (List Entry) → ℕ → ℕ → Head → Type 0
IsHeadBefore waiting below end head = (head.index < end) × ((e : Entry) × IsNext waiting head.index e × (stamp_of e < below))

abbrev pub IsHeadOf : List (List Entry) → ℕ → ℕ → Head → Type 0
IsHeadOf waiting below index head = (head.index ≡ index) × ((e : Entry) × IsNext waiting index e × (stamp_of e < below))

pub next_more : (waiting : List (List Entry)) (below n : ℕ) (next head r : Option Head) → MatchOption next (NoneBefore waiting below n) (λ g. IsHeadBefore waiting below n g)
    → MatchOption head ((e : Entry) → IsNext waiting n e → below ≤ stamp_of e) (λ g. IsHeadOf waiting below n g) → ((r ≡ next) ⊎ (r ≡ head)) → (r ≡ None → (next ≡ None) × (head ≡ None))
    → MatchOption r (NoneBefore waiting below (n + 1)) (λ g. IsHeadBefore waiting below (n + 1) g)
next_more waiting below n next head None before here one none = λ index e lt is. elim (cases_eq index n) [
  | inl same ↦ MatchOption-at_none _ _ (none refl).1 here e (subst (λ (i : ℕ). IsNext waiting i e) same is)
  | inr other ↦ MatchOption-at_none _ _ (none refl).0 before index e (omega arith) is
]
next_more waiting below n next head (Some h) before here one none = elim one [
  | inl own ↦ (let b : IsHeadBefore waiting below n h = MatchOption-at_some (NoneBefore waiting below n) (λ g. IsHeadBefore waiting below n g) h (sym own) before in (omega (arith, b.0), b.1))
  | inr new ↦ (let b : IsHeadOf waiting below n h = MatchOption-at_some ((e : Entry) → IsNext waiting n e → below ≤ stamp_of e) (λ g. IsHeadOf waiting below n g) h (sym new) here in (omega (arith, b.0), subst (λ (i : ℕ). (e : Entry) × IsNext waiting i e × (stamp_of e < below)) (sym b.0) b.1))
]

pub none_below : (waiting : List (List Entry)) (below n : ℕ) → length waiting ≤ n → NoneBefore waiting below n → NoneBelow waiting below
none_below waiting below n all none index e is = let inside = next_inside waiting index e is in none index e (omega (arith, inside, all)) is

-- one entry less waits
pub waits_less : (waiting : List (List Entry)) (index : ℕ) (e : Entry) → IsNext waiting index e → count_waiting (set waiting index (drop 1 (waiting_at waiting index))) < count_waiting waiting
waits_less [] index e is = absurd (let inside = next_inside [] index e is in omega (arith, inside))
waits_less ([] ∷ queues) zero e is = absurd (let none : None ≡ Some e = is in cc)
waits_less ((x ∷ queue) ∷ queues) zero e is = omega arith
waits_less (queue ∷ queues) (suc index) e is = let less = waits_less queues index e is in omega (arith, less)

-- a list is its first one and the others
split_first : (queue : List Entry) (e : Entry) → slice_get queue 0 ≡ Some e → queue ≡ e ∷ drop 1 queue
split_first [] e is = absurd (let none : None ≡ Some e = is in cc)
split_first (x ∷ queue) e is = ap (λ (y : Entry). y ∷ queue) (same_Some x e is)

pub alike_same : (logs : List Log) (waiting : List (List Entry)) → AreTakenAlike logs waiting logs waiting
alike_same logs waiting = record { size = refl; vnodes = λ index. refl; entries = λ index. refl }

-- one entry that was followed was taken, as before
pub alike_more : (first : List Log) (waited : List (List Entry)) (logs : List Log) (waiting : List (List Entry)) (i : ℕ) (e : Entry) → AreTakenAlike first waited logs waiting → i < length logs → IsNext waiting i e
    → AreTakenAlike first waited (with_entry_at logs i e) (set waiting i (drop 1 (waiting_at waiting i)))
alike_more first waited logs waiting i e alike inside is = record {
  size = length-set logs i (with_entry (log_at logs i) e) ∙ alike.size;
  vnodes = λ index. sym ((same_ids logs i e).1 index) ∙ alike.vnodes index;
  entries = λ index. entries index;
}
  where
    here : i < length waiting
    here = next_inside waiting i e is

    entries : (index : ℕ) → (log_at (with_entry_at logs i e) index).entries ++ waiting_at (set waiting i (drop 1 (waiting_at waiting i))) index ≡ (log_at first index).entries ++ waiting_at waited index
    entries index = elim (cases_eq index i) [
      | inl same ↦
          (let a : (log_at (with_entry_at logs i e) index).entries ≡ (log_at logs i).entries ++ e ∷ [] =
          ap (λ (j : ℕ). (log_at (with_entry_at logs i e) j).entries) same ∙ ap (λ (l : Log). l.entries) (get_or-set_same logs i (with_entry (log_at logs i) e) (record { vnode = 0; entries = [] }) inside) in
          let b : waiting_at (set waiting i (drop 1 (waiting_at waiting i))) index ≡ drop 1 (waiting_at waiting i) =
          ap (λ (j : ℕ). waiting_at (set waiting i (drop 1 (waiting_at waiting i))) j) same ∙ get_or-set_same waiting i (drop 1 (waiting_at waiting i)) [] here in
          ap (λ (xs : List Entry). xs ++ waiting_at (set waiting i (drop 1 (waiting_at waiting i))) index) a ∙ ap (λ (xs : List Entry). ((log_at logs i).entries ++ e ∷ []) ++ xs) b
          ∙ append_assoc (log_at logs i).entries (e ∷ []) (drop 1 (waiting_at waiting i)) ∙ ap (λ (xs : List Entry). (log_at logs i).entries ++ xs) (sym (split_first (waiting_at waiting i) e is))
          ∙ ap (λ (j : ℕ). (log_at logs j).entries ++ waiting_at waiting j) (sym same) ∙ alike.entries index)
      | inr other ↦ ap (λ (l : Log). l.entries ++ waiting_at (set waiting i (drop 1 (waiting_at waiting i))) index) (get_or-set_other logs i index (with_entry (log_at logs i) e) (record { vnode = 0; entries = [] }) other)
          ∙ ap (λ (xs : List Entry). (log_at logs index).entries ++ xs) (get_or-set_other waiting i index (drop 1 (waiting_at waiting i)) [] other) ∙ alike.entries index
    ]
