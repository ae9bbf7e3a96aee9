-- What a call leaves.
use Rattle.std.specs.Prelude.{◌≡◌, ◌<◌, ◌≤◌, ◌+◌, ℕ, All, MatchBool, if◌then◌else◌, List, [], ◌∷◌, ◌++◌, length, Result, Ok, Err}
use Rattle.atomic_table.specs.Seated.{TableId}
use Rattle.journal.specs.Blocks.{all_of, IsFullBlock}
use Rattle.journal.specs.Entry.{Entry}
use Rattle.std.specs.Global.{Vec}
use Rattle.journal.specs.Journals.{IsJournal}
use Rattle.key_state.specs.declared.content.Key.{Key}
use Rattle.vnode.specs.Keys.{AreKeys, AreUnsorted}
use Rattle.vnode.specs.declared.fault.PartFault.{PartFault}
use Rattle.vnode.specs.declared.fault.PartFault.TheVariants as part
use Rattle.cluster_stamps.specs.declared.request.Reply.{Reply}
use Rattle.cluster_stamps.specs.declared.request.Request.{Request}
use Rattle.cluster_stamps.specs.Rule.{IsAboveAll, IsWithin, stamps_each, hand_out_of}
use Rattle.cluster_stamps.specs.declared.view.News.TheVariants as news
use Rattle.cluster_stamps.specs.declared.view.Size.{Size}
use Rattle.cluster_stamps.specs.declared.view.Told.{Told}
use Rattle.cluster_stamps.specs.declared.view.History.{History}
use Rattle.cluster_stamps.specs.declared.view.View.{View}
use Rattle.cluster_vnode.specs.Answers.{IsAnswered, is_want_of_memory, lacks, log_of}
use Rattle.cluster_vnode.specs.declared.fault.CallFault.{CallFault}
use Rattle.cluster_vnode.specs.declared.fault.CallFault.TheVariants.{PassSpent, Missing, Refused}

-- the name of no table
abbrev pub no_table : TableId
no_table = record { words = 0; slots = 0; views_name = 0; atom = 0; block = 0; offset = 0; slot_names = [] }

-- what a pass knows
abbrev pub pass_view : ℕ → List Told → View
pass_view drawn told = record { parts = 1; drawn = drawn; pending = []; told = told; owed = []; histories = [] }

-- an accepted request's outcome
abbrev pub outcome_ok : Reply → Result Reply PartFault
outcome_ok reply = Ok reply

-- what was told after one call more: nothing more, where that was refused for memory
abbrev pub told_then : List Told → Told → List Told
told_then ts t = if lacks t.news then ts else (ts ++ t ∷ [])

-- this was told behind all that was told before: the journal of its vnode had all entries of these that are the vnode's, and its stamp is
-- above theirs, whichever vnodes they are of
pub record LiesBehind (t : Told) (before : List Told) : Type 0 where
  pub within : IsWithin t.vnode t.at before
  pub above : IsAboveAll t.stamp before

-- this was told, after some front of a journal of the vnode, as one thread answers there, and behind all that was told before
abbrev pub IsTold : Told → List Told → Type 0
IsTold t before = (front : List Entry) × (length front ≡ t.at) × IsJournal t.vnode front × IsAnswered front t × LiesBehind t before

-- the pass was told this
abbrev pub IsNews : View → View → Told → Type 0
IsNews old new t = (new.told ≡ old.told ++ t ∷ []) × IsTold t old.told

-- the pass was told of a refusal by the vnode
abbrev pub IsRefusal : View → View → ℕ → Request → PartFault → Type 0
IsRefusal old new vnode request fault = (t : Told) × IsNews old new t × (t.vnode ≡ vnode) × (t.news ≡ news.Call request (Err fault))

-- a refusal: the pass has drawn all its stamps; the vnode's, as one thread is refused there; or there was no memory
abbrev pub IsFault : View → View → ℕ → Request → CallFault → Type 0
IsFault old new vnode request PassSpent = (new.told ≡ old.told) × (old.drawn ≡ stamps_each)
IsFault old new vnode request Missing = IsRefusal old new vnode request part.Missing
IsFault old new vnode request (Refused fault) = MatchBool (is_want_of_memory fault) (new.told ≡ old.told) (IsRefusal old new vnode request (part.Refused fault))

-- The pass was told of these full blocks, which a vnode's journal has from this place on. When they were handed out it had at most a block more.
abbrev pub IsHandedOut : View → View → ℕ → ℕ → List (Vec Entry) → Type 0
IsHandedOut old new vnode first blocks =
    (at : ℕ) × (stamp : ℕ) × IsNews old new (hand_out_of vnode at stamp first (all_of blocks)) × All IsFullBlock blocks × (at ≤ first + (length (all_of blocks) + 1024))

-- the keys after some front of a journal of the vnode, which has all that the pass was told of it
abbrev pub AreKeysOf : Size → View → ℕ → List Key → Type 0
AreKeysOf size old i keys = (i < size.vnodes) × ((front : List Entry) × IsJournal (size.first + i) front × AreKeys (log_of (size.first + i) front) keys × IsWithin (size.first + i) (length front) old.told)

-- the same in any order
abbrev pub AreUnsortedOf : Size → View → ℕ → List Key → Type 0
AreUnsortedOf size old i keys = (i < size.vnodes) × ((front : List Entry) × IsJournal (size.first + i) front × AreUnsorted (log_of (size.first + i) front) keys × IsWithin (size.first + i) (length front) old.told)

-- a card from which passes and vnodes are still to be dealt
abbrev pub undealt : ℕ → List History → View
undealt parts hs = record { parts = parts; drawn = 0; pending = []; told = []; owed = []; histories = hs }
