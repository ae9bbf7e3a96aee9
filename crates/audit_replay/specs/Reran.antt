-- What a rerun has come to.
use Rattle.std.specs.Prelude.{◌≡◌, ◌≢◌, ◌⊎◌, ℕ, List, Option}
use Rattle.journal.specs.Entry.{Entry}
use Rattle.journal.specs.Logs.{Log, with_entry}
use Rattle.world.specs.Represents.{log_at}
use Rattle.world.specs.Sources.{IsFrontOf}
use Rattle.audit_replay.specs.declared.kept.Recent.{Recent}
use Rattle.audit_faults.specs.declared.fault.AuditFault.{AuditFault}

-- each log goes on with what there was of it
abbrev pub GoOnFrom : List Log → List Log → Type 0
GoOnFrom old new = (index : ℕ) → IsFrontOf (log_at old index) (log_at new index)

-- a log is as it was, or has one entry more
abbrev pub HasOneMore : Log → Log → Type 0
HasOneMore old new = (new ≡ old) ⊎ ((e : Entry) × (new ≡ with_entry old e))

-- the log with this index may have one entry more, and the others are as they were
abbrev pub MayHaveOneMore : ℕ → List Log → List Log → Type 0
MayHaveOneMore index old new = ((other : ℕ) → other ≢ index → log_at new other ≡ log_at old other) × HasOneMore (log_at old index) (log_at new index)

-- how many of the first entries of each vnode were there before the run, what has happened again of each, the fault that was found, if any, and of
-- which of the last entries of each vnode answers are kept
pub record Reran : Type 0 where
  pub fronts : List ℕ
  pub logs : List Log
  pub fault : Option AuditFault
  pub recent : Recent
