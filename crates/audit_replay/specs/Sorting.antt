-- What is known while the entries are gone over in the order of their stamps.
use Rattle.std.specs.Prelude.{◌≡◌, ℕ, ◌+◌, ◌-◌, ◌<◌, ◌≤◌, List, [], ◌∷◌, length, Option, MatchOption}
use Rattle.journal.specs.Entry.{Entry}
use Rattle.journal.specs.Logs.{Log}
use Rattle.world.specs.Represents.{log_at}
use Rattle.journal.specs.Stamps.{stamp_of}
use Rattle.audit_replay.specs.Turns.{HasHappened, IsToCome, IsNotAfter}
use Rattle.audit_replay.specs.Faulty.{FallsIn}
use Rattle.audit_replay.specs.declared.stamps.Fall.{Fall}

-- how many entries are to come
abbrev pub left : List Log → List ℕ → ℕ
left [] counts = 0
left (log ∷ logs) [] = 0
left (log ∷ logs) (count ∷ counts) = (length log.entries - count) + left logs counts

-- what has happened isn't after what is to come
pub record IsSplit (logs : List Log) (counts : List ℕ) : Type 0 where
  pub size : length counts ≡ length logs
  pub order : (index place : ℕ) (e : Entry) (other later : ℕ) (f : Entry) → HasHappened logs counts index place e → IsToCome logs counts other later f → IsNotAfter (stamp_of e) (log_at logs index).vnode (stamp_of f) (log_at logs other).vnode

-- of what has happened no stamp stands in two journals
abbrev pub IsOnce : List Log → List ℕ → Type 0
IsOnce logs counts = (index place : ℕ) (e : Entry) (other there : ℕ) (f : Entry) → HasHappened logs counts index place e → HasHappened logs counts other there f → stamp_of e ≡ stamp_of f → index ≡ other

-- the stamp of what happened last
abbrev pub IsLast : List Log → List ℕ → Option ℕ → Type 0
IsLast logs counts last = MatchOption last ((index place : ℕ) (e : Entry) → HasHappened logs counts index place e → ⊥)
    (λ stamp. ((index place : ℕ) × (e : Entry) × HasHappened logs counts index place e × (stamp_of e ≡ stamp)) × ((index place : ℕ) (e : Entry) → HasHappened logs counts index place e → stamp_of e ≤ stamp))

-- no stamp of a journal falls before a place
abbrev pub NoneFallsIn : List Log → ℕ → ℕ → Type 0
NoneFallsIn logs index end = (place : ℕ) → place < end → FallsIn logs index place → ⊥

-- the first such place of a journal
abbrev pub IsFallOf : List Log → ℕ → Fall → Type 0
IsFallOf logs index fall = (fall.vnode ≡ (log_at logs index).vnode) × FallsIn logs index fall.place × NoneFallsIn logs index fall.place

-- one doesn't come after another: by vnode, and then by place
abbrev pub IsFallNotAfter : Fall → Fall → Type 0
IsFallNotAfter a b = IsNotAfter a.vnode a.place b.vnode b.place

-- no stamp falls in the journals before this index
abbrev pub NoneFallsBelow : List Log → ℕ → Type 0
NoneFallsBelow logs end = (index place : ℕ) → index < end → FallsIn logs index place → ⊥

-- the first of the journals before this index
abbrev pub IsFirstFallBelow : List Log → ℕ → Fall → Type 0
IsFirstFallBelow logs end fall = ((index : ℕ) × IsFallOf logs index fall) × ((index place : ℕ) → index < end → FallsIn logs index place → IsNotAfter fall.vnode fall.place (log_at logs index).vnode place)
