-- What vnodes told, in the one run that gathered journals are (dotted version vectors, Preguiça et al. 2010; the order of stamps is this store's profile).
use Rattle.std.specs.Prelude.{◌≡◌, ◌<◌, ◌≤◌, ℕ, suc, List, [], ◌∷◌, Contains, length, slice_get, Ok, Some}
use Rattle.dvv.specs.declared.Dot.{Dot}
use Rattle.key_state.specs.declared.content.Content.{Content}
use Rattle.key_state.specs.declared.content.Key.{Key}
use Rattle.key_state.specs.Parts.{Summarized}
use Rattle.key_state.specs.State.{State}
use Rattle.journal.specs.Entry.{Entry}
use Rattle.journal.specs.Logs.{Log}
use Rattle.cluster_stamps.specs.declared.request.Reply.TheVariants as reply
use Rattle.cluster_stamps.specs.declared.request.Request.TheVariants as request
use Rattle.cluster_stamps.specs.declared.view.News.{News}
use Rattle.cluster_stamps.specs.declared.view.News.TheVariants as news
use Rattle.cluster_stamps.specs.declared.view.Told.{Told}
use Rattle.cluster_vnode.specs.Answers.{entry_of_call}
use Rattle.world.specs.Knowledge.{Knowledge, IsStateOf, known_at, next_dot}
use Rattle.world.specs.Represents.{log_at}
use Rattle.world.specs.Running.{IsSummaryOf}
use Rattle.audit_replay.specs.Beginnings.{IsBehind, steps_behind}
use Rattle.audit_replay.specs.Interleaved.{IsInterleavingFrom, known_before}
use Rattle.audit_replay.specs.Order.{Step}
use Rattle.audit_replay.specs.Turns.{count_at}

-- the step with this number is the entry that a call made
pub record IsStepOf (logs : List Log) (steps : List Step) (number : ℕ) (t : Told) : Type 0 where
  pub step : Step
  pub there : slice_get steps number ≡ Some step
  pub vnode : (log_at logs step.vnode).vnode ≡ t.vnode
  pub place : step.place ≡ t.at
  pub entry : entry_of_call t ≡ step.entry ∷ []

-- What the vnode with this index told is so of what was known there: a state that it answered shows exactly the current ones of the writes that it knew of the
-- key, and their context; a summary is that of this state; a put's dot is the next one that it had to give.
pub record IsKnownOf (old : Knowledge) (vnode : ℕ) (told : News) : Type 0 where
  pub state : (key : Key) (state : State) → told ≡ news.Call (request.Read key) (Ok (reply.State state)) → IsStateOf (known_at old vnode key) state
  pub summary : (key : Key) (summary : Summarized) → told ≡ news.Call (request.Summary key) (Ok (reply.Summary summary)) → IsSummaryOf (known_at old vnode key) summary
  pub dot : (key : Key) (seen : List Dot) (content : Content) (dot : Dot) → told ≡ news.Call (request.Put key seen content) (Ok (reply.Dot dot)) → dot ≡ next_dot old vnode key

-- a call is the step of a run with this number, and what was told of it is so of what was known at its vnode when the step was next
pub record IsCallOf {begin : Knowledge} {fronts : List ℕ} {logs : List Log} (run : IsInterleavingFrom begin fronts logs) (number : ℕ) (t : Told) : Type 0 where
  pub is_step : IsStepOf logs (steps_behind fronts run.order) number t
  pub is_known : IsKnownOf (known_before run.happened number) is_step.step.vnode t.news

-- these calls are steps of a run from a number on, each behind those that stand before it here; one that made no entry is no step
pub data HappenFrom {begin : Knowledge} {fronts : List ℕ} {logs : List Log} (run : IsInterleavingFrom begin fronts logs) : ℕ → List Told → Type 0 where
  all_happened : (low : ℕ) → HappenFrom run low []
  a_step : (low number : ℕ) (t : Told) (ts : List Told) → low ≤ number → IsCallOf run number t → HappenFrom run (suc number) ts → HappenFrom run low (t ∷ ts)
  no_entry : (low : ℕ) (t : Told) (ts : List Told) → entry_of_call t ≡ [] → HappenFrom run low ts → HappenFrom run low (t ∷ ts)

-- a call lies behind the front of its vnode's journal, if it made an entry
abbrev pub IsCallBehind : List ℕ → List Log → Told → Type 0
IsCallBehind fronts logs t = (entry : Entry) → entry_of_call t ≡ entry ∷ [] → (index : ℕ) → index < length logs → (log_at logs index).vnode ≡ t.vnode → IsBehind fronts index t.at

-- each entry of these fronts of the journals was made by one of these calls
abbrev pub AreMadeBy : List Told → List ℕ → List Log → Type 0
AreMadeBy told fronts logs =
    (index place : ℕ) → index < length logs → place < count_at fronts index → (t : Told) × Contains told t × (t.vnode ≡ (log_at logs index).vnode) × (t.at ≡ place) × ((entry : Entry) × (entry_of_call t ≡ entry ∷ []))

-- these calls are steps of whatever run the journals are that goes on from these fronts, one behind the other
abbrev pub HappenBehind : List ℕ → List Log → List Told → Type 0
HappenBehind fronts logs ts = (begin : Knowledge) (run : IsInterleavingFrom begin fronts logs) → HappenFrom run 0 ts
