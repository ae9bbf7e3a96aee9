-- Journals that began before a run: so many of the first entries of each, its front, were there.
use Rattle.std.specs.Prelude.{◌≡◌, ◌<◌, ◌≤◌, ℕ, List, Contains, length, take, filter, leb}
use Rattle.journal.specs.Logs.{Log}
use Rattle.journal.specs.Stamps.{stamp_of}
use Rattle.world.specs.Represents.{log_at}
use Rattle.audit_replay.specs.Order.{Step}
use Rattle.audit_replay.specs.Turns.{count_at}

-- the vnode with this index has the first entries of its journal, so many as are counted
pub record AreFronts (logs : List Log) (counts : List ℕ) (now : List Log) : Type 0 where
  pub size : length now ≡ length logs
  pub each : (index : ℕ) → index < length logs → log_at now index ≡ record { vnode = (log_at logs index).vnode; entries = take (count_at counts index) (log_at logs index).entries }

-- a place of the journal with this index is behind its front
abbrev pub IsBehind : List ℕ → ℕ → ℕ → Type 0
IsBehind fronts index place = count_at fronts index ≤ place

-- those of some steps that are behind the fronts
abbrev pub steps_behind : List ℕ → List Step → List Step
steps_behind fronts steps = filter (λ s. leb (count_at fronts s.vnode) s.place) steps

-- the next entry of the vnode with this index is one of its front
abbrev pub IsInFront : List ℕ → List Log → ℕ → Type 0
IsInFront fronts logs index = length (log_at logs index).entries < count_at fronts index

-- the fronts are whole: none lacks an entry
abbrev pub AreWhole : List ℕ → List Log → Type 0
AreWhole fronts logs = (index : ℕ) → index < length logs → count_at fronts index ≤ length (log_at logs index).entries

-- the fronts come first: each of their stamps is below each of those behind
abbrev pub ComeFirst : List ℕ → List Step → Type 0
ComeFirst fronts order = (s t : Step) → Contains order s → Contains order t → s.place < count_at fronts s.vnode → IsBehind fronts t.vnode t.place → stamp_of s.entry < stamp_of t.entry
