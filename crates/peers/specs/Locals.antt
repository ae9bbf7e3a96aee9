-- Vnodes of one thread: what a call does that is made, and what comes back where it or its answer is lost.
use Rattle.std.specs.Prelude.{◌≡◌, ℕ, zero, suc, ◌+◌, ◌*◌, ◌-◌, ◌^◌, List, [], ◌∷◌, length, Option, Some, None, Result, Ok, Err, slice_get, slice_set, MatchBool, MatchOption, ◌==◌, Bool, false, is_ok, if◌then◌else◌, min}
use Rattle.std.specs.List.{list_any}
use Rattle.std.specs.Global.{Vec}
use Rattle.dvv.specs.declared.Dot.{Dot}
use Rattle.key_state.specs.declared.content.Content.{Content}
use Rattle.key_state.specs.declared.content.Key.{Key}
use Rattle.key_state.specs.State.{State}
use Rattle.key_state.specs.Parts.{Partial, summary_of, lacks_some, whole_of}
use Rattle.journal.specs.Entry.{Put, Merge, Read}
use Rattle.journal.specs.Replay.{IsNextDot, IsReplay, Leaves}
use Rattle.journal.specs.Limits.{TakesEntry, AcceptsPut, AcceptsMerge}
use Rattle.journal.specs.Answers.{TellsChange}
use Rattle.journal.specs.Logs.{Log, with_entry}
use Rattle.vnode.specs.Keys.{AreKeys}
use Rattle.vnode.specs.Refusals.{RefusesPut, RefusesMerge, RefusesEntry}
use Rattle.vnode.specs.Parts.{RefusesPart}
use Rattle.vnode.specs.declared.fault.PartFault.TheVariants as why
use Rattle.vnode.specs.declared.fault.VnodeFault.TheVariants.{NoMemory}
use Rattle.peers.specs.declared.peers.Answer.{Answer}
use Rattle.peers.specs.declared.peers.SummaryAnswer.{SummaryAnswer}
use Rattle.peers.specs.declared.peers.PartAnswer.{PartAnswer}
use Rattle.peers.specs.declared.peers.PartAnswer.TheVariants.{Merged, Missing}
use Rattle.peers.specs.declared.fault.PeerFault.{PeerFault}
use Rattle.peers.specs.declared.fault.PeerFault.TheVariants.{Lost, Refused}
use Rattle.peers.specs.Calls.{Call, PutAt, MergeAt, StateOf, SummaryAt, MergePartAt, KeysOf, is_merged}
use Rattle.peers.specs.Counts.{Counts}

-- the vnodes' journals, where every key's place is set to one, the numbers of the calls that are lost and of those whose answers
-- are, how many calls there were since either of these were named, how many entries were added, and how many calls failed
pub record LocalView : Type 0 where
  pub logs : List Log
  pub first : Option ℕ
  pub lost : List ℕ
  pub unheard : List ℕ
  pub calls : ℕ
  pub stamp : ℕ
  pub failures : ℕ

-- a count, one more, which stays at its greatest
abbrev pub counted : ℕ → ℕ
counted n = min (n + 1) (2 ^ 64 - 1)

-- a put at one vnode: it is accepted under the next dot, or refused and nothing happens
abbrev pub PutsIn : ℕ → Key → List Dot → Content → Log → Result Dot PeerFault → Log → Type 0
PutsIn stamp key seen content old (Ok dot) new = AcceptsPut old.vnode old.entries key seen × IsNextDot old.entries key old.vnode dot × (new ≡ with_entry old (Put stamp key seen content dot))
PutsIn stamp key seen content old (Err Lost) new = ⊥
PutsIn stamp key seen content old (Err (Refused fault)) new = RefusesPut old key seen fault × (new ≡ old)

-- a merge at one vnode
abbrev pub MergesIn : ℕ → Key → ℕ → ℕ → State → Log → Result Bool PeerFault → Log → Type 0
MergesIn stamp key from at state old (Ok changed) new = AcceptsMerge old.entries key state × TellsChange old.entries (Merge stamp key from at state) key changed × (new ≡ with_entry old (Merge stamp key from at state))
MergesIn stamp key from at state old (Err Lost) new = ⊥
MergesIn stamp key from at state old (Err (Refused fault)) new = RefusesMerge old key state fault × (new ≡ old)

-- a read at one vnode: its state there, and the place of the read
abbrev pub ReadsIn : ℕ → Key → Log → Result Answer PeerFault → Log → Type 0
ReadsIn stamp key old (Ok answer) new = TakesEntry old.entries × IsReplay old.entries key answer.state × (answer.from ≡ old.vnode) × (answer.at ≡ length old.entries) × (new ≡ with_entry old (Read stamp key))
ReadsIn stamp key old (Err Lost) new = ⊥
ReadsIn stamp key old (Err (Refused fault)) new = RefusesEntry old fault × (new ≡ old)

-- a summary at one vnode: that of its state there, and the place of the read
abbrev pub SummarizesIn : ℕ → Key → Log → Result SummaryAnswer PeerFault → Log → Type 0
SummarizesIn stamp key old (Ok answer) new = TakesEntry old.entries × Leaves old.entries key (λ state. answer.summary ≡ summary_of state) × (answer.from ≡ old.vnode) × (answer.at ≡ length old.entries) × (new ≡ with_entry old (Read stamp key))
SummarizesIn stamp key old (Err Lost) new = ⊥
SummarizesIn stamp key old (Err (Refused fault)) new = RefusesEntry old fault × (new ≡ old)

-- a part that is merged at one vnode: no content that was left out is lacking there, and the whole state that the part stands for is merged
abbrev pub MergesWhole : ℕ → Key → ℕ → ℕ → Partial → Log → Bool → Log → Type 0
MergesWhole stamp key from at part old changed new = Leaves old.entries key (λ own. (lacks_some own part ≡ false) × MergesIn stamp key from at (whole_of part own) old (Ok changed) new)

-- a part at one vnode: it is merged, or a content that was left out isn't held there and nothing happens, or it is refused and nothing happens
abbrev pub MergesPartIn : ℕ → Key → ℕ → ℕ → Partial → Log → Result PartAnswer PeerFault → Log → Type 0
MergesPartIn stamp key from at part old (Ok (Merged changed)) new = MergesWhole stamp key from at part old changed new
MergesPartIn stamp key from at part old (Ok Missing) new = RefusesPart old key part why.Missing × (new ≡ old)
MergesPartIn stamp key from at part old (Err Lost) new = ⊥
MergesPartIn stamp key from at part old (Err (Refused fault)) new = RefusesPart old key part (why.Refused fault) × (new ≡ old)

-- the keys that one vnode names; only memory can lack
abbrev pub KeysIn : Log → Result (Vec Key) PeerFault → Type 0
KeysIn log (Ok keys) = AreKeys log keys.items
KeysIn log (Err Lost) = ⊥
KeysIn log (Err (Refused NoMemory)) = Unit {0}
KeysIn log (Err (Refused fault)) = ⊥

-- a call on one vnode of these: one that isn't there can't be reached
abbrev pub AtVnode : (Log → Log → Type 0) → Type 0 → Option Log → List Log → ℕ → List Log → Type 0
AtVnode does lost None old i new = lost × (new ≡ old)
AtVnode does lost (Some log) old i new = (after : Log) × does log after × (new ≡ slice_set old i after)

-- what a call that is made does to the vnodes
abbrev pub Does : ℕ → List Log → Call → List Log → Type 0
Does stamp old (PutAt i key seen content back) new = AtVnode (λ log after. PutsIn stamp key seen content log back after) (back ≡ Err Lost) (slice_get old i) old i new
Does stamp old (MergeAt i key from at state back) new = AtVnode (λ log after. MergesIn stamp key from at state log back after) (back ≡ Err Lost) (slice_get old i) old i new
Does stamp old (StateOf i key back) new = AtVnode (λ log after. ReadsIn stamp key log back after) (back ≡ Err Lost) (slice_get old i) old i new
Does stamp old (SummaryAt i key back) new = AtVnode (λ log after. SummarizesIn stamp key log back after) (back ≡ Err Lost) (slice_get old i) old i new
Does stamp old (MergePartAt i key from at part back) new = AtVnode (λ log after. MergesPartIn stamp key from at part log back after) (back ≡ Err Lost) (slice_get old i) old i new
Does stamp old (KeysOf i back) new = MatchOption (slice_get old i) (back ≡ Err Lost) (λ log. KeysIn log back) × (new ≡ old)

-- a call that came back as lost
abbrev pub IsLost : Call → Type 0
IsLost (PutAt i key seen content back) = back ≡ Err Lost
IsLost (MergeAt i key from at state back) = back ≡ Err Lost
IsLost (StateOf i key back) = back ≡ Err Lost
IsLost (SummaryAt i key back) = back ≡ Err Lost
IsLost (MergePartAt i key from at part back) = back ≡ Err Lost
IsLost (KeysOf i back) = back ≡ Err Lost

-- whether a call added an entry
abbrev pub has_added : Call → Bool
has_added (PutAt i key seen content back) = is_ok back
has_added (MergeAt i key from at state back) = is_ok back
has_added (StateOf i key back) = is_ok back
has_added (SummaryAt i key back) = is_ok back
has_added (MergePartAt i key from at part back) = is_merged back
has_added (KeysOf i back) = false

-- the same call, come back as lost
abbrev pub unanswered : Call → Call
unanswered (PutAt i key seen content back) = PutAt i key seen content (Err Lost)
unanswered (MergeAt i key from at state back) = MergeAt i key from at state (Err Lost)
unanswered (StateOf i key back) = StateOf i key (Err Lost)
unanswered (SummaryAt i key back) = SummaryAt i key (Err Lost)
unanswered (MergePartAt i key from at part back) = MergePartAt i key from at part (Err Lost)
unanswered (KeysOf i back) = KeysOf i (Err Lost)

-- whether the next call has one of these numbers
abbrev pub is_next : LocalView → List ℕ → Bool
is_next l numbers = list_any (λ n. n == l.calls) numbers

-- a call that isn't made, and comes back as lost
abbrev pub IsUnmade : LocalView → Call → LocalView → Type 0
IsUnmade old call new = IsLost call × (new.logs ≡ old.logs) × (new.stamp ≡ old.stamp)

-- a call that is made; the stamp of an entry is the number of those before it
abbrev pub IsMade : LocalView → Call → LocalView → Type 0
IsMade old call new = Does old.stamp old.logs call new.logs × (new.stamp ≡ (if has_added call then counted old.stamp else old.stamp))

-- a call that is made, and comes back as lost, whatever it came to
abbrev pub IsUnheard : LocalView → Call → LocalView → Type 0
IsUnheard old call new = (made : Call) × IsMade old made new × (call ≡ unanswered made)

-- one call: where its number is among the lost ones it isn't made; else it is, and comes back as lost where its number is among
-- those whose answers are
pub record LocalStep (old : LocalView) (call : Call) (new : LocalView) : Type 0 where
  pub happens : MatchBool (is_next old old.lost) (IsUnmade old call new) (MatchBool (is_next old old.unheard) (IsUnheard old call new) (IsMade old call new))
  pub calls : new.calls ≡ counted old.calls
  pub lost : new.lost ≡ old.lost
  pub unheard : new.unheard ≡ old.unheard
  pub first : new.first ≡ old.first
  pub count : Counts call old.failures new.failures

-- vnodes with nothing written, numbered from an incarnation's first identifier on
abbrev pub fresh_from : ℕ → ℕ → List Log
fresh_from id zero = []
fresh_from id (suc more) = (record { vnode = id; entries = [] }) ∷ fresh_from (id + 1) more

-- so many vnodes of an incarnation, nothing written
abbrev pub fresh : ℕ → ℕ → List Log
fresh incarnation n = fresh_from (incarnation * 65536) n
