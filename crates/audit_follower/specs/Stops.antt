-- Why a follower stops: what is wrong with the entry that is next.
use Rattle.std.specs.Prelude.{ℕ, ◌<◌, List, length}
use Rattle.journal.specs.Entry.{Entry}
use Rattle.journal.specs.Logs.{Log}
use Rattle.journal.specs.Stamps.{stamp_of}
use Rattle.audit_replay.specs.declared.kept.Recent.{Recent}
use Rattle.audit_replay.specs.Runs.{IsRunFrom}
use Rattle.audit_replay.specs.Wrong.{IsToldOf}
use Rattle.audit_faults.specs.declared.fault.AuditFault.{AuditFault}
use Rattle.audit_follower.specs.Waiting.{AreTakenAlike, IsNext}

-- Of what was taken, so much was followed as one run of the world from the fronts on, and the entry that was next then, below the bound, is the fault's.
pub record IsStop (fronts : List ℕ) (followed : List Log) (waited : List (List Entry)) (below : ℕ) (recent : Recent) (fault : AuditFault) : Type 0 where
  pub logs : List Log
  pub waiting : List (List Entry)
  pub alike : AreTakenAlike followed waited logs waiting
  pub run : IsRunFrom fronts logs
  pub index : ℕ
  pub entry : Entry
  pub inside : index < length logs
  pub next : IsNext waiting index entry
  pub bound : stamp_of entry < below
  pub told : IsToldOf fronts logs recent index entry fault

-- a follower stopped so, once
abbrev pub HasStopped : List ℕ → Recent → AuditFault → Type 0
HasStopped fronts recent fault = (followed : List Log) × (waited : List (List Entry)) × (below : ℕ) × IsStop fronts followed waited below recent fault
