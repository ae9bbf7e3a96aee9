-- Entries more with stamps in a row, and an index that goes on anew.
use Rattle.std.proofs.Common.{◌≡◌, ◌≢◌, ℕ, zero, suc, ◌+◌, ◌<◌, ◌≤◌, ◌⊎◌, List, [], ◌∷◌, ◌++◌, length, get_or, set, refl, sym, ap, subst, ◌∙◌, inl, inr, arith, append_assoc, length-set}
use Rattle.std.specs.Prelude.{Contains, slice_set}
use Rattle.std.proofs.lemmas.Bool.{cases_eq, cases_lt}
use Rattle.std.proofs.lemmas.List.{append-nil, get_or-set_same}
use Rattle.std.proofs.lemmas.List.Sums.{sum_by-set, sum_by-append}
use Rattle.key_state.specs.declared.content.Key.{Key}
use Rattle.journal.specs.Entry.{Entry}
use Rattle.journal.specs.Logs.{Log, with_entry, with_entries}
use Rattle.journal.specs.Stamps.{stamp_of}
use Rattle.vnode.specs.declared.steps.Copied.{Copied as Held}
use Rattle.vnode.specs.Keys.{reads_of}
use Rattle.world.specs.Causality.{EachAfter}
use Rattle.world.specs.Appending.{merges_of_copies}
use Rattle.world.specs.Represents.{log_at, with_entry_at}
use Rattle.world.specs.Stamped.{AreStamped, IsLater}
use Rattle.world.proofs.Lists.{Contains-nil}
use Rattle.world.proofs.Loads.{set_here, set_there, set_last, length-set_more, one_index}
use Rattle.world.proofs.Stamped.{stamped_more}

-- entries with stamps in a row
abbrev pub AreInRow : ℕ → List Entry → Type 0
AreInRow stamp [] = Unit {0}
AreInRow stamp (e ∷ es) = (stamp_of e ≡ stamp) × AreInRow (stamp + 1) es

pub reads_in_row : (stamp : ℕ) (keys : List Key) → AreInRow stamp (reads_of stamp keys)
reads_in_row stamp [] = tt
reads_in_row stamp (key ∷ keys) = (refl, reads_in_row (stamp + 1) keys)

pub merges_in_row : (stamp from at : ℕ) (held : List Held) → AreInRow stamp (merges_of_copies stamp from at held)
merges_in_row stamp from at [] = tt
merges_in_row stamp from at (one ∷ held) = (refl, merges_in_row (stamp + 1) from (at + 1) held)

set_twice : {X : Type 0} (xs : List X) (i : ℕ) (x y : X) → set (set xs i x) i y ≡ set xs i y
set_twice [] i x y = refl
set_twice (z ∷ xs) zero x y = refl
set_twice (z ∷ xs) (suc i) x y = ap (λ ys. z ∷ ys) (set_twice xs i x y)

set_itself : {X : Type 0} (xs : List X) (i : ℕ) (d : X) → set xs i (get_or xs i d) ≡ xs
set_itself [] i d = refl
set_itself (z ∷ xs) zero d = refl
set_itself (z ∷ xs) (suc i) d = ap (λ ys. z ∷ ys) (set_itself xs i d)

set_append : {X : Type 0} (xs ys : List X) (i : ℕ) (x : X) → i < length xs → set (xs ++ ys) i x ≡ set xs i x ++ ys
set_append [] ys i x lt = absurd (omega (arith, lt))
set_append (z ∷ xs) ys zero x lt = refl
set_append (z ∷ xs) ys (suc i) x lt = ap (λ zs. z ∷ zs) (set_append xs ys i x (omega (arith, lt)))

past_end : {X : Type 0} (xs : List X) (i : ℕ) (d : X) → length xs ≤ i → get_or xs i d ≡ d
past_end [] i d le = refl
past_end (x ∷ xs) zero d le = absurd (omega (arith, le))
past_end (x ∷ xs) (suc i) d le = past_end xs i d (omega (arith, le))

-- the vnode at an index has these entries more
pub stamped_row : (logs : List Log) (made at : ℕ) (es : List Entry) → at < length logs → AreInRow made es → AreStamped logs made → AreStamped (slice_set logs at (with_entries (log_at logs at) es)) (made + length es)
stamped_row logs made at [] inside row h =
    subst (λ (ls : List Log). AreStamped ls (made + 0)) (sym (ap (λ (xs : List Entry). set logs at (let l : Log = record { vnode = (log_at logs at).vnode; entries = xs } in l)) (append-nil (log_at logs at).entries) ∙ set_itself logs at (record { vnode = 0; entries = [] })))
    (let none : made ≡ made + 0 = omega arith in subst (AreStamped logs) none h)
stamped_row logs made at (e ∷ es) inside row h =
    subst (λ (ls : List Log). AreStamped ls (made + length (e ∷ es))) moved
    (subst (AreStamped (slice_set (with_entry_at logs at e) at (with_entries (log_at (with_entry_at logs at e) at) es))) more
    (stamped_row (with_entry_at logs at e) (made + 1) at es (let n = length-set logs at (with_entry (log_at logs at) e) in omega (arith, n, inside)) row.1
    (stamped_more logs (with_entry_at logs at e) made at e inside refl row.0 h)))
  where
    more : made + 1 + length es ≡ made + length (e ∷ es)
    more = omega arith

    moved : slice_set (with_entry_at logs at e) at (with_entries (log_at (with_entry_at logs at e) at) es) ≡ slice_set logs at (with_entries (log_at logs at) (e ∷ es))
    moved = ap (λ (l : Log). set (with_entry_at logs at e) at (with_entries l es)) (get_or-set_same logs at (with_entry (log_at logs at) e) (record { vnode = 0; entries = [] }) inside)
        ∙ set_twice logs at (with_entry (log_at logs at) e) (with_entries (with_entry (log_at logs at) e) es)
        ∙ ap (λ (xs : List Entry). set logs at (let l : Log = record { vnode = (log_at logs at).vnode; entries = xs } in l)) (append_assoc (log_at logs at).entries (e ∷ []) es)

-- nothing has happened yet under the new identifier, and the closed one stands behind the others
stamped_anew : (logs : List Log) (made at id : ℕ) → at < length logs → AreStamped logs made → AreStamped (slice_set logs at (record { vnode = id; entries = [] }) ++ log_at logs at ∷ []) made
stamped_anew logs made at id inside h = record {
  count = let s = sum_by-set (λ (l : Log). length l.entries) logs at fresh none inside in let n = sum_by-append (λ (l : Log). length l.entries) (set logs at fresh) (log_at logs at ∷ []) in let c = h.count in omega (arith, s, n, c);
  below = λ u e c. let o = stands u e c in h.below o.0 e o.1;
  rise = λ u. elim (row u) [
    | inl nothing ↦ subst (λ (es : List Entry). EachAfter IsLater [] es) (sym nothing) tt
    | inr r ↦ subst (λ (l : Log). EachAfter IsLater [] l.entries) (sym r.1) (h.rise r.0)
  ];
  differ = λ u v e f ce cf same.
      let a = stands u e ce in
      let b = stands v f cf in
      one_index at (length logs) u v a.0 b.0 (h.differ a.0 b.0 e f a.1 b.1 same) a.2 b.2;
}
  where
    none : Log
    none = record { vnode = 0; entries = [] }

    fresh : Log
    fresh = record { vnode = id; entries = [] }

    row : (u : ℕ) → ((log_at (slice_set logs at fresh ++ log_at logs at ∷ []) u).entries ≡ []) ⊎ ((o : ℕ) × (log_at (slice_set logs at fresh ++ log_at logs at ∷ []) u ≡ log_at logs o) × (((u ≡ o) × (o ≢ at)) ⊎ ((o ≡ at) × (u ≡ length logs))))
    row u = elim (cases_eq u at) [
      | inl here ↦ inl (subst (λ (a : ℕ). (log_at (slice_set logs at fresh ++ log_at logs at ∷ []) a).entries ≡ []) (sym here) (ap (λ (l : Log). l.entries) (set_here logs at fresh (log_at logs at) none inside)))
      | inr other ↦ elim (cases_lt u (length logs)) [
        | inl within ↦ inr (u, set_there logs at u fresh (log_at logs at) none other within, inl (refl, other))
        | inr past ↦ elim (cases_eq u (length logs)) [
          | inl last ↦ inr (at, set_last logs at u fresh (log_at logs at) none last, inr (refl, last))
          | inr beyond ↦ inl (ap (λ (l : Log). l.entries) (past_end (set logs at fresh ++ log_at logs at ∷ []) u none (let n = length-set_more logs at fresh (log_at logs at) in omega (arith, n, past, beyond))))
        ]
      ]
    ]

    stands : (u : ℕ) (e : Entry) → Contains (log_at (slice_set logs at fresh ++ log_at logs at ∷ []) u).entries e → (o : ℕ) × Contains (log_at logs o).entries e × (((u ≡ o) × (o ≢ at)) ⊎ ((o ≡ at) × (u ≡ length logs)))
    stands u e c = elim (row u) [
      | inl nothing ↦ absurd (Contains-nil e (subst (λ (es : List Entry). Contains es e) nothing c))
      | inr r ↦ (r.0, subst (λ (l : Log). Contains l.entries e) r.1 c, r.2)
    ]

-- an index goes on under a new identifier, with these entries
pub stamped_loaded : (logs new : List Log) (made at id : ℕ) (es : List Entry) → at < length logs → AreInRow made es → new ≡ slice_set logs at (record { vnode = id; entries = es }) ++ log_at logs at ∷ [] → AreStamped logs made → AreStamped new (made + length es)
stamped_loaded logs new made at id es inside row is h =
    subst (λ (ls : List Log). AreStamped ls (made + length es)) (moved ∙ sym is)
    (stamped_row anew made at es (let n = length-set_more logs at fresh (log_at logs at) in omega (arith, n, inside)) row (stamped_anew logs made at id inside h))
  where
    fresh : Log
    fresh = record { vnode = id; entries = [] }

    anew : List Log
    anew = slice_set logs at fresh ++ log_at logs at ∷ []

    moved : slice_set anew at (with_entries (log_at anew at) es) ≡ slice_set logs at (record { vnode = id; entries = es }) ++ log_at logs at ∷ []
    moved = ap (λ (l : Log). set anew at (with_entries l es)) (set_here logs at fresh (log_at logs at) (record { vnode = 0; entries = [] }) inside)
        ∙ set_append (set logs at fresh) (log_at logs at ∷ []) at (record { vnode = id; entries = es }) (let n = length-set logs at fresh in omega (arith, n, inside))
        ∙ ap (λ (ls : List Log). ls ++ log_at logs at ∷ []) (set_twice logs at fresh (record { vnode = id; entries = es }))
