-- What is said of journals that were followed from their fronts on.
use Rattle.std.specs.Prelude.{◌≡◌, ◌<◌, ℕ, List, [], take}
use Rattle.key_state.specs.declared.content.Key.{Key}
use Rattle.key_state.specs.State.{State}
use Rattle.journal.specs.Entry.{Merge, Read}
use Rattle.journal.specs.Logs.{Log}
use Rattle.journal.specs.Replay.{IsReplay}
use Rattle.world.specs.Knowledge.{Knowledge}
use Rattle.world.specs.Represents.{log_at}
use Rattle.world.specs.Running.{Begins}
use Rattle.audit_replay.specs.Beginnings.{AreFronts, IsBehind}
use Rattle.audit_replay.specs.Faulty.{NoneFalls, NoneTwice}
use Rattle.audit_replay.specs.Interleaved.{IsInterleaving, IsInterleavingFrom}
use Rattle.audit_replay.specs.Turns.{EntryIn}

-- a read of a key that stands at a place of the vnode with an identifier, behind its front, has a stamp below another, and answered a state
pub record IsReadOf (fronts : List ℕ) (logs : List Log) (key : Key) (from at : ℕ) (state : State) (below : ℕ) : Type 0 where
  pub index : ℕ
  pub vnode : (log_at logs index).vnode ≡ from
  pub behind : IsBehind fronts index at
  pub stamp : ℕ
  pub there : EntryIn logs index at (Read stamp key)
  pub earlier : stamp < below
  pub answer : IsReplay (take at (log_at logs index).entries) key state

-- each merge behind the fronts has the state of the earlier read behind them that it names
abbrev pub HaveSources : List ℕ → List Log → Type 0
HaveSources fronts logs = (index place stamp : ℕ) (key : Key) (from at : ℕ) (state : State) → EntryIn logs index place (Merge stamp key from at state) → IsBehind fronts index place → IsReadOf fronts logs key from at state stamp

-- For each beginning of the world that has led to these fronts of the journals, they are one run from there on; where no front is, they are one run from
-- nothing on. Stamps rise in each journal, fronts included, none stands in two, and each merge behind the fronts has its source.
pub record IsRunFrom (fronts : List ℕ) (logs : List Log) : Type 0 where
  pub from : (begin : Knowledge) (begun : List Log) → AreFronts logs fronts begun → Begins begun [] begin → IsInterleavingFrom begin fronts logs
  pub whole : fronts ≡ [] → IsInterleaving logs
  pub rising : NoneFalls logs
  pub single : NoneTwice logs
  pub sources : HaveSources fronts logs
