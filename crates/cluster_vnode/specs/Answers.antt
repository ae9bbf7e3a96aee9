-- What one thread would have answered, call by call.
use Rattle.std.specs.Prelude.{◌≡◌, ◌≤◌, ℕ, Bool, true, false, List, [], ◌∷◌, ◌++◌, length, drop, Result, Ok, Err}
use Rattle.journal.specs.Entry.{Entry}
use Rattle.journal.specs.Logs.{Log}
use Rattle.vnode.specs.declared.fault.PartFault.{PartFault}
use Rattle.vnode.specs.declared.fault.PartFault.TheVariants.{Missing, Refused}
use Rattle.vnode.specs.declared.fault.VnodeFault.{VnodeFault}
use Rattle.vnode.specs.declared.fault.VnodeFault.TheVariants.{ContextAhead, TooManySiblings, ClockFull, MergedClockFull, JournalFull, NoMemory}
use Rattle.cluster_stamps.specs.declared.request.Reply.{Reply}
use Rattle.cluster_stamps.specs.Answered.{IsOutcome, made}
use Rattle.cluster_stamps.specs.Rule.{total, entries}
use Rattle.cluster_stamps.specs.declared.view.News.{News}
use Rattle.cluster_stamps.specs.declared.view.News.TheVariants as news
use Rattle.cluster_stamps.specs.declared.view.Told.{Told}
use Rattle.cluster_stamps.specs.declared.view.History.{History}
use Rattle.cluster_stamps.specs.declared.view.View.{View}

abbrev pub is_want_of_memory : VnodeFault → Bool
is_want_of_memory NoMemory = true
is_want_of_memory ContextAhead = false
is_want_of_memory TooManySiblings = false
is_want_of_memory ClockFull = false
is_want_of_memory MergedClockFull = false
is_want_of_memory JournalFull = false

-- a refusal is for memory
abbrev pub wants_memory : PartFault → Bool
wants_memory Missing = false
wants_memory (Refused fault) = is_want_of_memory fault

-- a request was refused for memory
abbrev pub lacks_memory : Result Reply PartFault → Bool
lacks_memory (Ok reply) = false
lacks_memory (Err fault) = wants_memory fault

-- what is not told, since there was no memory
abbrev pub lacks : News → Bool
lacks (news.Call request outcome) = lacks_memory outcome
lacks (news.HandOut first entries) = false

-- a journal of this vnode
abbrev pub log_of : ℕ → List Entry → Log
log_of vnode entries = record { vnode = vnode; entries = entries }

-- these entries stand in the journal, the first of them at this place
abbrev pub HasFrom : List Entry → ℕ → List Entry → Type 0
HasFrom journal first entries = (rest : List Entry) × (first ≤ length journal) × (drop first journal ≡ entries ++ rest)

-- what was told is so of this journal: what a call came to is what comes to one thread after these entries, and what was handed out stands there
abbrev pub IsSaid : Log → ℕ → News → Type 0
IsSaid log stamp (news.Call request outcome) = IsOutcome log stamp request outcome
IsSaid log stamp (news.HandOut first entries) = HasFrom log.entries first entries

-- what was told is so after these entries
abbrev pub IsAnswered : List Entry → Told → Type 0
IsAnswered front t = IsSaid (log_of t.vnode front) t.stamp t.news

-- the entries that were made: one, or by a call that was refused and where a part of the journal was handed out none
abbrev pub entries_made : ℕ → News → List Entry
entries_made stamp (news.Call request outcome) = made stamp request outcome
entries_made stamp (news.HandOut first entries) = []

-- the entries of a call: one, or where it was refused none
abbrev pub entry_of_call : Told → List Entry
entry_of_call t = entries_made t.stamp t.news

-- the entries of these calls
abbrev pub entries_of : List Told → List Entry
entries_of [] = []
entries_of (t ∷ ts) = entry_of_call t ++ entries_of ts

-- each call was answered as one thread would have been, after these entries and those of the calls before it
abbrev pub AreAnswered : List Entry → List Told → Type 0
AreAnswered front [] = Unit {0}
AreAnswered front (t ∷ ts) = IsAnswered front t × AreAnswered (front ++ entry_of_call t) ts

-- how many entries the journals have whose histories a view has
abbrev pub entries_told : View → ℕ
entries_told v = total (λ h. entries h.told) v.histories

-- the view of a vnode's seat: the history of the vnode, whose journal has these entries
pub record IsVnodes (log : Log) (v : View) : Type 0 where
  pub history : History
  pub view : v ≡ record { parts = 0; drawn = 0; pending = []; told = []; owed = []; histories = history ∷ [] }
  pub number_is : history.vnode ≡ log.vnode
  pub journal_is : entries_of history.told ≡ log.entries
  pub answered : AreAnswered [] history.told
