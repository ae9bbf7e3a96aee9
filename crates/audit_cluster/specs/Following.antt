-- What is said of the journals of a gathered cluster that was followed while it served (this store's profile).
use Rattle.std.specs.Prelude.{◌≡◌, ◌≢◌, ◌<◌, ◌≤◌, ◌+◌, ◌*◌, ◌⊎◌, ◌&&◌, ◌==◌, ℕ, zero, suc, Bool, true, false, IsTrue, List, [], ◌∷◌, ◌++◌, All, drop, filter, length, Option, Some, None, Result, Ok, Err}
use Rattle.cluster_stamps.specs.declared.request.Request.TheVariants as request
use Rattle.journal.specs.Blocks.{all_of}
use Rattle.journal.specs.Entry.{Entry}
use Rattle.journal.specs.Logs.{Log}
use Rattle.cluster_stamps.specs.declared.view.News.{News}
use Rattle.cluster_stamps.specs.declared.view.News.TheVariants as news
use Rattle.cluster_stamps.specs.declared.view.Told.{Told}
use Rattle.cluster_stamps.specs.Rule.{hand_out_of}
use Rattle.cluster_vnode.specs.Gathers.{IsGathered, AreInTurn, all_handed}
use Rattle.audit_replay.specs.Faulty.{IsFaultless}
use Rattle.audit_replay.specs.Interleaved.{IsInterleaving}
use Rattle.audit_replay.specs.Runs.{IsRunFrom}
use Rattle.world.specs.Represents.{log_at}
use Rattle.audit_follower.specs.Waiting.{IsNext, Taken, bytes_waiting, count_waiting, taken_at, waiting_at}
use Rattle.audit_replay.specs.declared.kept.Recent.{Recent}
use Rattle.audit_replay.specs.Wrong.{IsToldOf}
use Rattle.audit_faults.specs.declared.fault.AuditFault.{AuditFault}
use Rattle.audit_faults.specs.declared.fault.TakeFault.{TakeFault}
use Rattle.audit_faults.specs.declared.fault.WatchFault.{WatchFault}
use Rattle.audit_faults.specs.declared.fault.WatchFault.TheVariants.{Found, Lost, NoMemory}
use Rattle.audit_cluster.specs.declared.watch.Left.{Left}

-- of which of the last entries of each vnode answers are kept
abbrev pub answers_kept : Recent
answers_kept = record { always = 256; entries = 16384; bytes = 33554432 }

-- a log is the front of a journal
pub record IsFrontOf (followed journal : Log) : Type 0 where
  pub vnode : followed.vnode ≡ journal.vnode
  pub rest : List Entry
  pub goes_on : journal.entries ≡ followed.entries ++ rest

-- So much of these journals, a front of each, is one run of the world from the fronts on that were there before, and the entry that comes next in one of them
-- is the fault's.
pub record StopsIn (fronts : List ℕ) (logs : List Log) (fault : AuditFault) : Type 0 where
  pub followed : List Log
  pub size : length followed ≡ length logs
  pub each : (index : ℕ) → index < length logs → IsFrontOf (log_at followed index) (log_at logs index)
  pub run : IsRunFrom fronts followed
  pub index : ℕ
  pub inside : index < length logs
  pub entry : Entry
  pub behind : List Entry
  pub next : (log_at logs index).entries ≡ (log_at followed index).entries ++ entry ∷ behind
  pub told : IsToldOf fronts followed answers_kept index entry fault

-- Where it is said of journals that they are one run, they are one from their fronts on, for each beginning of the world that has led to these. A fault that
-- was found is so of these journals. Entries that weren't taken, other fronts and want of memory say nothing of them.
abbrev pub IsSaidOf : List ℕ → List Log → Result (Unit {0}) WatchFault → Type 0
IsSaidOf fronts logs (Ok all) = IsRunFrom fronts logs
IsSaidOf fronts logs (Err (Found fault)) = StopsIn fronts logs fault
IsSaidOf fronts logs (Err Lost) = Unit {0}
IsSaidOf fronts logs (Err NoMemory) = Unit {0}

-- What is said is said of so many journals that hold what was told, each of it once. Where they are one run, they are one of the world, of which nothing was there
-- before, and no fault stands anywhere. A fault that was found is so of them. Entries that weren't taken and want of memory say nothing of them.
abbrev pub IsFollowedTo : List Told → ℕ → Result (Unit {0}) WatchFault → Type 0
IsFollowedTo told vnodes (Ok all) = (logs : List Log) × IsGathered told logs × (length logs ≡ vnodes) × IsInterleaving logs × IsFaultless logs
IsFollowedTo told vnodes (Err (Found fault)) = (logs : List Log) × IsGathered told logs × (length logs ≡ vnodes) × StopsIn [] logs fault
IsFollowedTo told vnodes (Err Lost) = Unit {0}
IsFollowedTo told vnodes (Err NoMemory) = Unit {0}

-- these are journals of vnodes that are numbered from the first on, each at the place of its number
abbrev pub AreNumbered : ℕ → List Log → Type 0
AreNumbered first logs = (index : ℕ) → index < length logs → (log_at logs index).vnode ≡ first + index

-- ---- what a watch has taken

-- a part of the journal was handed out
abbrev pub is_hand_out : News → Bool
is_hand_out (news.HandOut first entries) = true
is_hand_out (news.Call request outcome) = false

-- the vnode was started again, or that was refused
abbrev pub IsRestart : News → Type 0
IsRestart (news.HandOut first entries) = ⊥
IsRestart (news.Call asked outcome) = asked ≡ request.Restart

-- what one vnode was told to have handed out
abbrev pub told_of : ℕ → List Told → List Told
told_of vnode told = filter (λ t. (t.vnode == vnode) && is_hand_out t.news) told

-- all that was taken of the vnode with this index: what was followed, and what waits
abbrev pub all_taken : Taken → ℕ → List Entry
all_taken taken index = (log_at taken.followed index).entries ++ waiting_at taken.waiting index

-- these entries are what a vnode has handed out, from its first entry on and in turn, as it was told
abbrev pub IsHandedTo : List Told → ℕ → List Entry → Type 0
IsHandedTo told vnode entries = AreInTurn vnode 0 (told_of vnode told) × (all_handed (told_of vnode told) ≡ entries)

-- Vnodes are followed that are numbered from the first on, and of each of them was taken what it has handed out.
abbrev pub HasTaken : ℕ → List Told → Taken → Type 0
HasTaken first told taken = (index : ℕ) → index < length taken.followed → ((log_at taken.followed index).vnode ≡ first + index) × IsHandedTo told (first + index) (all_taken taken index)

-- Of what so many vnodes had handed out to begin with, as it was told, all was taken, so much was followed as one run of the world from the fronts on, and the
-- entry that was next then is the fault's.
pub record HasStopped (first vnodes : ℕ) (told : List Told) (fronts : List ℕ) (fault : AuditFault) : Type 0 where
  pub heard : List Told
  pub unheard : List Told
  pub all : told ≡ heard ++ unheard
  pub taken : Taken
  pub size : length taken.followed ≡ vnodes
  pub has : HasTaken first heard taken
  pub run : IsRunFrom fronts taken.followed
  pub index : ℕ
  pub inside : index < vnodes
  pub entry : Entry
  pub next : IsNext taken.waiting index entry
  pub is_wrong : IsToldOf fronts taken.followed answers_kept index entry fault

-- What a watch of so many vnodes keeps, as long as all that was handed out could be taken: all of it was taken; or a fault was found, which is so of what was taken
-- until then.
pub record Watches (first vnodes : ℕ) (told : List Told) (taken : Taken) : Type 0 where
  pub size : taken.fault ≡ None → length taken.followed ≡ vnodes
  pub has : taken.fault ≡ None → HasTaken first told taken
  pub stopped : (fault : AuditFault) → taken.fault ≡ Some fault → HasStopped first vnodes told taken.fronts fault

-- what a watch was told, what was taken, and why nothing more can be taken, if so
pub record Watched : Type 0 where
  pub told : List Told
  pub taken : Taken
  pub lost : Option TakeFault

-- a watch does nothing at vnodes but have them hand out and start again
abbrev pub IsOfWatch : Told → Type 0
IsOfWatch t = IsTrue (is_hand_out t.news) ⊎ IsRestart t.news

-- a pass was told this, and maybe more of what a watch does
abbrev pub IsToldMore : List Told → List Told → Type 0
IsToldMore old new = (more : List Told) × (new ≡ old ++ more) × All IsOfWatch more

-- a pass was told this, and then of restarts of one vnode, so many at the most
abbrev pub AreRestarts : ℕ → ℕ → List Told → List Told → Type 0
AreRestarts vnode most old new = (more : List Told) × (new ≡ old ++ more) × All (λ t. (t.vnode ≡ vnode) × IsRestart t.news) more × (length more ≤ most)

-- entries from this place on aren't the next ones of the vnode with this index: it isn't followed, or what was taken of it ended elsewhere
abbrev pub IsNotNext : Taken → ℕ → ℕ → Type 0
IsNotNext taken index first = (length taken.followed ≤ index) ⊎ (first ≢ taken_at taken index)

-- a pass was told of one hand-out of a vnode, and that it isn't what is next of it
abbrev pub IsHandedAmiss : ℕ → ℕ → Taken → List Told → List Told → Type 0
IsHandedAmiss vnode index taken old new = (at : ℕ) × (stamp : ℕ) × (first : ℕ) × (more : List Entry) × (new ≡ old ++ hand_out_of vnode at stamp first more ∷ []) × IsNotNext taken index first

-- this is of a vnode of which nothing waits
abbrev pub IsIdle : ℕ → Taken → ℕ → Type 0
IsIdle first taken vnode = (index : ℕ) × (vnode ≡ first + index) × (index < length taken.followed) × (waiting_at taken.waiting index ≡ [])

-- a pass was told this, and then of restarts of vnodes of which nothing waits
abbrev pub Rouses : ℕ → Taken → List Told → List Told → Type 0
Rouses first taken old new = (more : List Told) × (new ≡ old ++ more) × All (λ t. IsIdle first taken t.vnode × IsRestart t.news) more × (length more ≤ 1025 * length taken.followed)

-- so little waits that no vnode has to be started again: fewer than 8,192 entries, with less than 32 MiB of contents
abbrev pub WaitsLittle : Taken → Type 0
WaitsLittle taken = (count_waiting taken.waiting < 8192) × (bytes_waiting taken.waiting < 33554432)

-- more entries of the vnode with this index were taken, from this place of its journal on, where those before them ended
pub record IsTakenMore (old new : Taken) (index first : ℕ) (more : List Entry) : Type 0 where
  pub inside : (index < length old.followed) × (index < length old.waiting)
  pub place : first ≡ taken_at old index
  pub followed : new.followed ≡ old.followed
  pub size : length new.waiting ≡ length old.waiting
  pub here : waiting_at new.waiting index ≡ waiting_at old.waiting index ++ more
  pub others : (other : ℕ) → (other ≡ index → ⊥) → waiting_at new.waiting other ≡ waiting_at old.waiting other

-- ---- how the end is followed

-- where an identifier that is followed is that of a journal, what was taken of it is a front of the journal
abbrev pub AreFronts : Taken → List Log → Type 0
AreFronts taken logs =
    (index : ℕ) → index < length taken.followed → index < length logs → (log_at taken.followed index).vnode ≡ (log_at logs index).vnode
    → (rest : List Entry) × ((log_at logs index).entries ≡ all_taken taken index ++ rest)

-- ---- what waits to be taken

-- these wait, too, of the vnode with this index
abbrev pub append_at : List (List Entry) → ℕ → List Entry → List (List Entry)
append_at [] zero more = more ∷ []
append_at [] (suc index) more = [] ∷ append_at [] index more
append_at (queue ∷ queues) zero more = (queue ++ more) ∷ queues
append_at (queue ∷ queues) (suc index) more = queue ∷ append_at queues index more

-- what was taken, and these entries of the vnode with this index
abbrev pub with_more : Taken → ℕ → List Entry → Taken
with_more taken index more = record taken { waiting = append_at taken.waiting index more }

-- what waits, and what was handed out and not taken yet
abbrev pub waiting_with : List (List Entry) → Option Left → List (List Entry)
waiting_with waiting None = waiting
waiting_with waiting (Some left) = append_at waiting left.index (all_of left.blocks.items)

-- what was taken, and what was handed out and not taken yet
abbrev pub with_left : Taken → Option Left → Taken
with_left taken left = record taken { waiting = waiting_with taken.waiting left }

-- what was left of the first n of these journals was taken by a follower, too
pub record IsTakenTo (old new : Taken) (logs : List Log) (n : ℕ) : Type 0 where
  pub followed : new.followed ≡ old.followed
  pub inside : n ≤ length old.followed
  pub ids : (index : ℕ) → index < n → (log_at old.followed index).vnode ≡ (log_at logs index).vnode
  pub waits : (index : ℕ) → index < n → waiting_at new.waiting index ≡ waiting_at old.waiting index ++ drop (taken_at old index) (log_at logs index).entries
  pub others : (index : ℕ) → n ≤ index → waiting_at new.waiting index ≡ waiting_at old.waiting index

-- as many entries were followed of each vnode as its journal has
abbrev pub IsLong : Taken → List Log → Type 0
IsLong taken logs = (length taken.followed ≡ length logs) × ((index : ℕ) → index < length logs → length (log_at taken.followed index).entries ≡ length (log_at logs index).entries)
