-- Stamps that rise in each journal.
use Rattle.std.proofs.Common.{◌≡◌, ◌⊎◌, ℕ, zero, suc, ◌+◌, ◌<◌, ◌≤◌, List, ◌-◌, length, get_or, refl, sym, subst, ◌∙◌, inl, inr, ap, arith, Option, None, Some}
use Rattle.std.specs.Prelude.{MatchOption, IfSome}
use Rattle.std.proofs.lemmas.Bool.{cases_eq, cases_lt}
use Rattle.std.proofs.lemmas.Option.{same_Some, MatchOption-at_some, MatchOption-at_none, slice_get_within, slice_get-get_or}
use Rattle.journal.specs.Entry.{Entry, Restart}
use Rattle.journal.specs.Logs.{Log}
use Rattle.world.specs.Represents.{log_at}
use Rattle.journal.specs.Stamps.{stamp_of}
use Rattle.audit_replay.specs.Turns.{EntryIn, IsNotAfter}
use Rattle.audit_replay.specs.Faulty.{FallsIn, FallsAt, NoneFalls}
use Rattle.audit_replay.specs.Sorting.{NoneFallsIn, IsFallOf, IsFallNotAfter, NoneFallsBelow, IsFirstFallBelow}
use Rattle.audit_replay.specs.declared.stamps.Fall.{Fall}
use Rattle.audit_replay.proofs.Firsts.{not_after_trans}

-- one entry stands at a place
pub one_entry : (logs : List Log) (index place : ℕ) (a b : Entry) → EntryIn logs index place a → EntryIn logs index place b → a ≡ b
one_entry logs index place a b at_a at_b = same_Some a b (sym at_a.1 ∙ at_b.1)

-- where a later one stands, an earlier one stands
pub entry_before : (logs : List Log) (index place later : ℕ) (b : Entry) → place ≤ later → EntryIn logs index later b → (a : Entry) × EntryIn logs index place a
entry_before logs index place later b le at =
    let within : later < length (log_at logs index).entries = slice_get_within (log_at logs index).entries later b at.1 in
    (get_or (log_at logs index).entries place (Restart 0), (at.0, slice_get-get_or (log_at logs index).entries place (Restart 0) (omega arith)))

-- the next one's stamp is higher
rises_once : (logs : List Log) (index place : ℕ) (a b : Entry) → NoneFalls logs → EntryIn logs index place a → EntryIn logs index (suc place) b → stamp_of a < stamp_of b
rises_once logs index place a b rising at_a at_b = elim (cases_lt (stamp_of a) (stamp_of b)) [
  | inl less ↦ less
  | inr not ↦ absurd (rising (log_at logs index).vnode (suc place) (index, refl, (place, a, b, omega arith, at_a, at_b, not)))
]

-- and so is each later one's
pub rises : (logs : List Log) (index place later : ℕ) (a b : Entry) → NoneFalls logs → EntryIn logs index place a → EntryIn logs index later b → place < later → stamp_of a < stamp_of b
rises logs index place zero a b rising at_a at_b lt = absurd (omega arith)
rises logs index place (suc later) a b rising at_a at_b lt =
    let m = entry_before logs index later (suc later) b (omega arith) at_b in
    let last : stamp_of m.0 < stamp_of b = rises_once logs index later m.0 b rising m.1 at_b in
    elim (cases_eq place later) [
      | inl same ↦ rises_once logs index later a b rising (subst (λ (p : ℕ). EntryIn logs index p a) same at_a) at_b
      | inr other ↦ (let early : stamp_of a < stamp_of m.0 = rises logs index place later a m.0 rising at_a m.1 (omega arith) in omega arith)
    ]

pub rises_or_same : (logs : List Log) (index place later : ℕ) (a b : Entry) → NoneFalls logs → EntryIn logs index place a → EntryIn logs index later b → place ≤ later → stamp_of a ≤ stamp_of b
rises_or_same logs index place later a b rising at_a at_b le = elim (cases_eq place later) [
  | inl same ↦ (let e : a ≡ b = one_entry logs index later a b (subst (λ (p : ℕ). EntryIn logs index p a) same at_a) at_b in let s : stamp_of a ≡ stamp_of b = ap stamp_of e in omega arith)
  | inr other ↦ (let s : stamp_of a < stamp_of b = rises logs index place later a b rising at_a at_b (omega arith) in omega arith)
]

-- no stamp falls at this place, nor at those before
pub no_fall_more : (logs : List Log) (index place : ℕ) (a b : Entry) → 1 ≤ place → NoneFallsIn logs index place → EntryIn logs index place a → EntryIn logs index (place - 1) b → stamp_of b < stamp_of a → NoneFallsIn logs index (place + 1)
no_fall_more logs index place a b from none at_a at_b less p lt falls = elim (cases_eq p place) [
  | inl same ↦
      (let e : falls.2 ≡ a = one_entry logs index place falls.2 a (subst (λ (q : ℕ). EntryIn logs index q falls.2) same falls.5) at_a in
      let f : falls.1 ≡ b = one_entry logs index (place - 1) falls.1 b (let q : falls.0 ≡ place - 1 = omega (arith, same, falls.3) in subst (λ (r : ℕ). EntryIn logs index r falls.1) q falls.4) at_b in
      let s : stamp_of falls.2 ≡ stamp_of a = ap stamp_of e in
      let t : stamp_of falls.1 ≡ stamp_of b = ap stamp_of f in
      omega (arith, falls.6))
  | inr other ↦ none p (omega arith) falls
]

-- a fall at one journal's place isn't before the first one there
not_after_own : (logs : List Log) (n : ℕ) (f : Fall) (own : Option Fall) → MatchOption own (NoneFallsIn logs n (length (log_at logs n).entries)) (λ g. IsFallOf logs n g)
    → IfSome own (λ g. IsFallNotAfter f g) → (place : ℕ) → FallsIn logs n place → IsNotAfter f.vnode f.place (log_at logs n).vnode place
not_after_own logs n f None here first place falls = absurd (here place (slice_get_within (log_at logs n).entries place falls.2 falls.5.1) falls)
not_after_own logs n f (Some g) here first place falls = not_after_trans f.vnode f.place g.vnode g.place (log_at logs n).vnode place first (inr (
  here.0,
  elim (cases_lt place g.place) [
    | inl less ↦ absurd (here.2 place less falls)
    | inr not ↦ not
  ],
))

not_after_first : (logs : List Log) (n : ℕ) (f : Fall) (next : Option Fall) → MatchOption next (NoneFallsBelow logs n) (λ g. IsFirstFallBelow logs n g)
    → IfSome next (λ g. IsFallNotAfter f g) → (index place : ℕ) → index < n → FallsIn logs index place → IsNotAfter f.vnode f.place (log_at logs index).vnode place
not_after_first logs n f None before first index place lt falls = absurd (before index place lt falls)
not_after_first logs n f (Some g) before first index place lt falls = not_after_trans f.vnode f.place g.vnode g.place (log_at logs index).vnode place first (before.1 index place lt falls)

-- the first of the first one of the journals before and of this one's is the first of all these
pub first_more : (logs : List Log) (n : ℕ) (next own r : Option Fall) → MatchOption next (NoneFallsBelow logs n) (λ g. IsFirstFallBelow logs n g)
    → MatchOption own (NoneFallsIn logs n (length (log_at logs n).entries)) (λ g. IsFallOf logs n g) → ((r ≡ next) ⊎ (r ≡ own))
    → MatchOption r ((next ≡ None) × (own ≡ None)) (λ f. IfSome next (λ g. IsFallNotAfter f g) × IfSome own (λ g. IsFallNotAfter f g))
    → MatchOption r (NoneFallsBelow logs (n + 1)) (λ g. IsFirstFallBelow logs (n + 1) g)
first_more logs n next own None before here one none = λ index place lt falls. elim (cases_eq index n) [
  | inl same ↦ (let f : FallsIn logs n place = subst (λ (i : ℕ). FallsIn logs i place) same falls in MatchOption-at_none _ _ none.1 here place (slice_get_within (log_at logs n).entries place f.2 f.5.1) f)
  | inr other ↦ MatchOption-at_none _ _ none.0 before index place (omega arith) falls
]
first_more logs n next own (Some f) before here one first = go one
  where
    firsts : (index place : ℕ) → index < n + 1 → FallsIn logs index place → IsNotAfter f.vnode f.place (log_at logs index).vnode place
    firsts index place lt falls = elim (cases_eq index n) [
      | inl same ↦ subst (λ (i : ℕ). IsNotAfter f.vnode f.place (log_at logs i).vnode place) (sym same) (not_after_own logs n f own here first.1 place (subst (λ (i : ℕ). FallsIn logs i place) same falls))
      | inr other ↦ not_after_first logs n f next before first.0 index place (omega arith) falls
    ]

    go : ((Some f ≡ next) ⊎ (Some f ≡ own)) → IsFirstFallBelow logs (n + 1) f
    go (inl is) = let b : IsFirstFallBelow logs n f = MatchOption-at_some (NoneFallsBelow logs n) (λ g. IsFirstFallBelow logs n g) f (sym is) before in (b.0, firsts)
    go (inr is) = let b : IsFallOf logs n f = MatchOption-at_some (NoneFallsIn logs n (length (log_at logs n).entries)) (λ g. IsFallOf logs n g) f (sym is) here in ((n, b), firsts)

-- the first of all, by identifiers
pub none_falls : (logs : List Log) → NoneFallsBelow logs (length logs) → NoneFalls logs
none_falls logs none vnode place at = none at.0 place at.2.5.0 at.2

pub first_falls : (logs : List Log) (fall : Fall) → IsFirstFallBelow logs (length logs) fall → FallsAt logs fall.vnode fall.place × ((v p : ℕ) → FallsAt logs v p → IsNotAfter fall.vnode fall.place v p)
first_falls logs fall first = ((first.0.0, sym first.0.1.0, first.0.1.1), λ v p at. subst (λ (w : ℕ). IsNotAfter fall.vnode fall.place w p) at.1 (first.1 at.0 p at.2.5.0 at.2))
