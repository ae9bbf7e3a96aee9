-- Why entries stop happening again: what is wrong with the one that is next.
use Rattle.std.specs.Prelude.{◌≡◌, ◌≢◌, ◌<◌, ◌≤◌, ◌+◌, ◌⊎◌, ℕ, List, drop, length, take, Option, Some, None, MatchOption}
use Rattle.key_state.specs.declared.content.Key.{Key}
use Rattle.key_state.specs.State.{State}
use Rattle.journal.specs.Entry.{Entry, Put, Read, Merge, Restart}
use Rattle.journal.specs.Journals.{MayFollow}
use Rattle.journal.specs.Logs.{Log}
use Rattle.journal.specs.Replay.{IsReplay}
use Rattle.journal.specs.Stamps.{stamp_of}
use Rattle.world.specs.Represents.{log_at}
use Rattle.audit_replay.specs.Turns.{EntryIn}
use Rattle.audit_faults.specs.declared.fault.EntryFault.{EntryFault}
use Rattle.audit_faults.specs.declared.fault.EntryFault.TheVariants.{Twice, Falls, NoSource, OtherState, GivenUp, Late, Illegal}
use Rattle.audit_faults.specs.declared.fault.AuditFault.{AuditFault}
use Rattle.audit_faults.specs.declared.fault.AuditFault.TheVariants.{Found, NoMemory}
use Rattle.audit_replay.specs.declared.kept.Kept.{Kept}
use Rattle.audit_replay.specs.declared.kept.Kept.TheVariants as kept
use Rattle.audit_replay.specs.Beginnings.{AreWhole, IsBehind, IsInFront}
use Rattle.audit_replay.specs.declared.kept.Recent.{Recent}
use Rattle.audit_replay.specs.Kept.{IsOver}
use Rattle.audit_replay.specs.Followed.{AreAnswers, IsAbove, IsAnswered, kept_at}

-- a read of this key stands at a place of the vnode with an identifier, behind its front
abbrev pub IsReadAt : List ℕ → List Log → ℕ → ℕ → Key → Type 0
IsReadAt fronts logs from at key = (index : ℕ) × ((log_at logs index).vnode ≡ from) × ((stamp : ℕ) × EntryIn logs index at (Read stamp key)) × IsBehind fronts index at

-- what the read of a key that stands there answered: what the entries before it leave
abbrev pub IsAnswerAt : List Log → ℕ → ℕ → Key → State → Type 0
IsAnswerAt logs from at key state = (index : ℕ) × (index < length logs) × ((log_at logs index).vnode ≡ from) × IsReplay (take at (log_at logs index).entries) key state

-- an entry that is the next one of the vnode with this index is a merge behind its front
abbrev pub IsMergeBehind : List ℕ → List Log → ℕ → Entry → ℕ → Key → ℕ → ℕ → State → Type 0
IsMergeBehind fronts logs index e stamp key from at state = (e ≡ Merge stamp key from at state) × IsBehind fronts index (length (log_at logs index).entries)

-- what tells what the entry at a place of the vnode with this index answered isn't kept: the end from there on of what there is of its entries is more than is kept
abbrev pub IsGivenUpAt : List ℕ → List Log → Recent → ℕ → ℕ → Type 0
IsGivenUpAt fronts logs recent index at = (all : List Kept) × AreAnswers fronts logs index all × IsOver recent (drop at all)

-- it is kept: that end isn't more
abbrev pub IsHeldAt : List ℕ → List Log → Recent → ℕ → ℕ → Type 0
IsHeldAt fronts logs recent index at = (all : List Kept) × AreAnswers fronts logs index all × (IsOver recent (drop at all) → ⊥)

-- What is wrong with an entry that is the next one of the vnode with this index, where these entries were followed, the first ones of each vnode as what was there
-- before, and of the recent ones of each vnode it was kept what tells what they answered.
abbrev pub IsWrong : List ℕ → List Log → Recent → ℕ → Entry → EntryFault → Type 0
-- its stamp stands in the journal of another vnode
IsWrong fronts logs recent index e Twice = (other place : ℕ) × (a : Entry) × EntryIn logs other place a × (other ≢ index) × (stamp_of a ≡ stamp_of e)
-- its stamp is not above that of the entry before it in its journal
IsWrong fronts logs recent index e Falls = (place : ℕ) × (a : Entry) × EntryIn logs index place a × (place + 1 ≡ length (log_at logs index).entries) × (stamp_of e ≤ stamp_of a)
-- it is a merge that names no earlier read of its key behind the fronts
IsWrong fronts logs recent index e NoSource = (stamp : ℕ) × (key : Key) × (from at : ℕ) × (state : State) × IsMergeBehind fronts logs index e stamp key from at state × (IsReadAt fronts logs from at key → ⊥)
-- it is a merge that names an earlier read of its key, which answered another state
IsWrong fronts logs recent index e OtherState = (stamp : ℕ) × (key : Key) × (from at : ℕ) × (state : State) × IsMergeBehind fronts logs index e stamp key from at state × IsReadAt fronts logs from at key × (IsAnswerAt logs from at key state → ⊥)
-- it is a merge that names an earlier entry, whose answer isn't kept
IsWrong fronts logs recent index e GivenUp =
    (stamp : ℕ) × (key : Key) × (from at : ℕ) × (state : State) × IsMergeBehind fronts logs index e stamp key from at state × ((other : ℕ) × (other < length logs) × ((log_at logs other).vnode ≡ from) × IsGivenUpAt fronts logs recent other at)
-- its stamp is below that of one that was followed; or it is behind its front, and another vnode's front isn't whole
IsWrong fronts logs recent index e Late =
    ((other place : ℕ) × (a : Entry) × EntryIn logs other place a × (stamp_of e < stamp_of a)) ⊎ (IsBehind fronts index (length (log_at logs index).entries) × ((other : ℕ) × (other < length logs) × IsInFront fronts logs other))
-- it may not follow those before it in its journal
IsWrong fronts logs recent index e Illegal = MayFollow (log_at logs index).vnode (log_at logs index).entries e → ⊥

-- an entry that is a merge names an earlier read of its key, which answered its state
abbrev pub HasReadOf : List ℕ → List Log → Entry → Type 0
HasReadOf fronts logs (Merge stamp key from at state) = IsReadAt fronts logs from at key × IsAnswerAt logs from at key state
HasReadOf fronts logs (Put stamp key seen content dot) = Unit {0}
HasReadOf fronts logs (Read stamp key) = Unit {0}
HasReadOf fronts logs (Restart stamp) = Unit {0}

-- an entry that is the next one of the vnode with this index is of its front, or the fronts are whole, and it names its source where it is a merge
abbrev pub IsFounded : List ℕ → List Log → ℕ → Entry → Type 0
IsFounded fronts logs index e = IsInFront fronts logs index ⊎ (AreWhole fronts logs × HasReadOf fronts logs e)

-- an entry that is a merge names one whose answer is kept
abbrev pub NamesHeld : List ℕ → List Log → Recent → Entry → Type 0
NamesHeld fronts logs recent (Merge stamp key from at state) = (index : ℕ) × (index < length logs) × ((log_at logs index).vnode ≡ from) × IsHeldAt fronts logs recent index at
NamesHeld fronts logs recent (Put stamp key seen content dot) = Unit {0}
NamesHeld fronts logs recent (Read stamp key) = Unit {0}
NamesHeld fronts logs recent (Restart stamp) = Unit {0}

-- an entry that is the next one of the vnode with this index is of its front, or names one whose answer is kept where it is a merge
abbrev pub IsHeld : List ℕ → List Log → Recent → ℕ → Entry → Type 0
IsHeld fronts logs recent index e = IsInFront fronts logs index ⊎ NamesHeld fronts logs recent e

-- an entry's stamp is above those of all that were followed
abbrev pub IsAfterAll : List Log → Entry → Type 0
IsAfterAll logs e = (index place : ℕ) (a : Entry) → EntryIn logs index place a → stamp_of a < stamp_of e

-- an entry that is a merge names no vnode that is followed, or an entry whose answer is kept
abbrev pub IsKnown : List ℕ → List Log → Recent → Entry → Type 0
IsKnown fronts logs recent (Merge stamp key from at state) =
    ((index : ℕ) → index < length logs → (log_at logs index).vnode ≢ from) ⊎ ((index : ℕ) × (index < length logs) × ((log_at logs index).vnode ≡ from) × IsHeldAt fronts logs recent index at)
IsKnown fronts logs recent (Put stamp key seen content dot) = Unit {0}
IsKnown fronts logs recent (Read stamp key) = Unit {0}
IsKnown fronts logs recent (Restart stamp) = Unit {0}

-- the highest stamp that was followed is one of the vnode with this index
abbrev pub IsHighest : List Log → ℕ → ℕ → Type 0
IsHighest logs index stamp = ((place : ℕ) × (a : Entry) × EntryIn logs index place a × (stamp_of a ≡ stamp)) × ((other there : ℕ) (b : Entry) → EntryIn logs other there b → stamp_of b ≤ stamp)

-- Which of several faults is told of the next entry of the vnode with this index: its stamp comes first, then its place behind the fronts, then its source, then
-- whether it is legal. A stamp that isn't above the highest one falls where that one is of its own vnode; else it stands twice where they are the same, and is late
-- where it is below.
abbrev pub IsFirst : List ℕ → List Log → Recent → ℕ → Entry → EntryFault → Type 0
IsFirst fronts logs recent index e Falls = (highest : ℕ) × IsHighest logs index highest × (stamp_of e ≤ highest)
IsFirst fronts logs recent index e Twice = (other : ℕ) × (other ≢ index) × IsHighest logs other (stamp_of e)
IsFirst fronts logs recent index e Late = ((other highest : ℕ) × (other ≢ index) × IsHighest logs other highest × (stamp_of e < highest)) ⊎ IsAfterAll logs e
IsFirst fronts logs recent index e GivenUp = IsAfterAll logs e × AreWhole fronts logs
IsFirst fronts logs recent index e NoSource = IsAfterAll logs e × AreWhole fronts logs × IsKnown fronts logs recent e
IsFirst fronts logs recent index e OtherState = IsAfterAll logs e × AreWhole fronts logs × IsKnown fronts logs recent e
IsFirst fronts logs recent index e Illegal = IsAfterAll logs e × IsFounded fronts logs index e × IsHeld fronts logs recent index e

-- what is told of the next entry of the vnode with this index: what is wrong with it first, at its identifier and place; or memory was refused, and none of
-- these faults, but that it may not be legal
abbrev pub IsToldOf : List ℕ → List Log → Recent → ℕ → Entry → AuditFault → Type 0
IsToldOf fronts logs recent index e (Found code vnode place) = ((log_at logs index).vnode ≡ vnode) × (length (log_at logs index).entries ≡ place) × IsWrong fronts logs recent index e code × IsFirst fronts logs recent index e code
IsToldOf fronts logs recent index e NoMemory = IsAfterAll logs e × IsFounded fronts logs index e × IsHeld fronts logs recent index e

-- ---- how the faults are found

-- the entry that was followed last is the last one of the vnode with this index, and has the last stamp
abbrev pub IsNewest : List Log → Option ℕ → ℕ → Type 0
IsNewest logs last newest = MatchOption last (Unit {0}) (λ stamp. (place : ℕ) × (a : Entry) × EntryIn logs newest place a × (place + 1 ≡ length (log_at logs newest).entries) × (stamp_of a ≡ stamp))

-- a stamp that isn't above the last one, which was that of the vnode with index newest
abbrev pub IsStampWrong : ℕ → ℕ → ℕ → ℕ → EntryFault → Type 0
IsStampWrong last newest index stamp Falls = (newest ≡ index) × (stamp ≤ last)
IsStampWrong last newest index stamp Twice = (newest ≢ index) × (last ≡ stamp)
IsStampWrong last newest index stamp Late = (newest ≢ index) × (stamp < last)
IsStampWrong last newest index stamp NoSource = ⊥
IsStampWrong last newest index stamp OtherState = ⊥
IsStampWrong last newest index stamp GivenUp = ⊥
IsStampWrong last newest index stamp Illegal = ⊥

abbrev pub IsStampFault : Option ℕ → ℕ → ℕ → ℕ → EntryFault → Type 0
IsStampFault last newest index stamp code = MatchOption last ⊥ (λ before. IsStampWrong before newest index stamp code)

-- no read of this key is kept at a place
abbrev pub IsNotKept : List (List Kept) → ℕ → ℕ → Key → Type 0
IsNotKept answers index at key =
    (kept_at answers index at ≡ None) ⊎ (kept_at answers index at ≡ Some kept.Other) ⊎ ((own : Key) × (state : State) × (kept_at answers index at ≡ Some (kept.Was own state))) ⊎ ((other : Key) × (kept_at answers index at ≡ Some (kept.Read other)) × (other ≢ key))

-- the vnode with this index has that identifier
abbrev pub IsIndexOf : List Log → ℕ → ℕ → Type 0
IsIndexOf logs index from = (index < length logs) × ((log_at logs index).vnode ≡ from)

-- what is kept where a merge names an entry
abbrev pub IsMergeFault : List Log → List (List Kept) → Key → ℕ → ℕ → State → EntryFault → Type 0
IsMergeFault logs answers key from at state NoSource = ((index : ℕ) → index < length logs → (log_at logs index).vnode ≢ from) ⊎ ((index : ℕ) × IsIndexOf logs index from × IsNotKept answers index at key)
IsMergeFault logs answers key from at state OtherState = (index : ℕ) × IsIndexOf logs index from × (kept_at answers index at ≡ Some (kept.Read key)) × (IsAnswered logs answers index at key state → ⊥)
IsMergeFault logs answers key from at state GivenUp = (index : ℕ) × IsIndexOf logs index from × (kept_at answers index at ≡ Some kept.GivenUp)
IsMergeFault logs answers key from at state Twice = ⊥
IsMergeFault logs answers key from at state Falls = ⊥
IsMergeFault logs answers key from at state Late = ⊥
IsMergeFault logs answers key from at state Illegal = ⊥

-- the same of an entry, which is a merge
abbrev pub IsSourceFault : List Log → List (List Kept) → Entry → EntryFault → Type 0
IsSourceFault logs answers (Merge stamp key from at state) code = IsMergeFault logs answers key from at state code
IsSourceFault logs answers (Put stamp key seen content dot) code = ⊥
IsSourceFault logs answers (Read stamp key) code = ⊥
IsSourceFault logs answers (Restart stamp) code = ⊥

-- an entry that is behind the front of the vnode with this index comes before the fronts are whole, or they are and its source is wrong
abbrev pub IsPlaceFault : List ℕ → List Log → List (List Kept) → ℕ → Entry → EntryFault → Type 0
IsPlaceFault fronts logs answers index e code = IsBehind fronts index (length (log_at logs index).entries) × (((code ≡ Late) × ((other : ℕ) × (other < length logs) × IsInFront fronts logs other)) ⊎ (AreWhole fronts logs × IsSourceFault logs answers e code))

-- what an entry is found to be: its stamp comes first
abbrev pub IsFoundWrong : List ℕ → List Log → List (List Kept) → Option ℕ → ℕ → ℕ → Entry → EntryFault → Type 0
IsFoundWrong fronts logs answers last newest index e code = IsStampFault last newest index (stamp_of e) code ⊎ (IsAbove last (stamp_of e) × IsPlaceFault fronts logs answers index e code)
