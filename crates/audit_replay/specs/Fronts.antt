-- What is known while the entries of journals happen again, one after another: so many of each have.
use Rattle.std.specs.Prelude.{◌≡◌, ◌<◌, ℕ, List, take}
use Rattle.key_state.specs.declared.content.Key.{Key}
use Rattle.key_state.specs.State.{State}
use Rattle.journal.specs.Entry.{Read, Merge}
use Rattle.journal.specs.Logs.{Log}
use Rattle.journal.specs.Replay.{IsReplay}
use Rattle.world.specs.Represents.{log_at}
use Rattle.audit_replay.specs.Interleaved.{IsInterleaving}
use Rattle.audit_replay.specs.Sorting.{IsSplit}
use Rattle.audit_replay.specs.Beginnings.{AreFronts}
use Rattle.audit_replay.specs.Turns.{EntryIn, HasHappened}

-- a journal has a read of a key at a place, with a stamp below another
abbrev pub IsReadBefore : List Log → ℕ → ℕ → Key → ℕ → Type 0
IsReadBefore logs index place key stamp = (read : ℕ) × EntryIn logs index place (Read read key) × (read < stamp)

-- each merge that has happened had its state from an earlier read of its key
abbrev pub AreSound : List Log → List ℕ → Type 0
AreSound logs counts = (index place stamp : ℕ) (key : Key) (from at : ℕ) (state : State) → HasHappened logs counts index place (Merge stamp key from at state)
    → (other : ℕ) × ((log_at logs other).vnode ≡ from) × IsReadBefore logs other at key stamp × IsReplay (take at (log_at logs other).entries) key state

-- so many entries of each journal happened, in the order of their stamps, as one run of the world
pub record HasRun (logs : List Log) (counts : List ℕ) (now : List Log) : Type 0 where
  pub split : IsSplit logs counts
  pub fronts : AreFronts logs counts now
  pub sound : AreSound logs counts
  pub run : IsInterleaving now
