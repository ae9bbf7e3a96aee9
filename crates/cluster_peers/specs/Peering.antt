-- What a call on the vnodes of a cluster, through a pass, leaves.
use Rattle.std.specs.Prelude.{◌≡◌, ◌≢◌, ◌<◌, ◌≤◌, ◌+◌, ◌⊎◌, ℕ, Bool, List, Result, Ok, Err, IfOk}
use Rattle.std.specs.Global.{Vec}
use Rattle.dvv.specs.declared.Dot as dvv
use Rattle.key_state.specs.declared.content.Content.{Content}
use Rattle.key_state.specs.declared.content.Key.{Key}
use Rattle.key_state.specs.State.{State}
use Rattle.vnode.specs.declared.fault.VnodeFault.{VnodeFault}
use Rattle.vnode.specs.declared.fault.VnodeFault.TheVariants.{NoMemory}
use Rattle.cluster_stamps.specs.declared.request.Reply.{Reply}
use Rattle.cluster_stamps.specs.declared.request.Reply.TheVariants as reply
use Rattle.cluster_stamps.specs.declared.request.Request.{Request}
use Rattle.cluster_stamps.specs.declared.request.Request.TheVariants as request
use Rattle.peers.specs.declared.peers.Answer.{Answer}
use Rattle.peers.specs.declared.peers.SummaryAnswer.{SummaryAnswer}
use Rattle.peers.specs.declared.peers.PartAnswer.{PartAnswer}
use Rattle.peers.specs.declared.peers.PartAnswer.TheVariants.{Merged, Missing}
use Rattle.peers.specs.declared.fault.PeerFault.{PeerFault}
use Rattle.peers.specs.declared.fault.PeerFault.TheVariants.{Lost, Refused}
use Rattle.peers.specs.Calls.{Call, PutAt, MergeAt, StateOf, SummaryAt, MergePartAt, KeysOf}
use Rattle.peers.specs.Counts.{Counts}
use Rattle.cluster_stamps.specs.Rule.{stamps_each, call_of}
use Rattle.cluster_stamps.specs.declared.view.Size.{Size}
use Rattle.cluster_stamps.specs.declared.view.View.{View}
use Rattle.cluster_vnode.specs.Calls.{IsNews, IsFault, AreKeysOf, outcome_ok}
use Rattle.cluster_vnode.specs.declared.fault.CallFault.{CallFault}
use Rattle.cluster_vnode.specs.declared.fault.CallFault.TheVariants as fault
use Rattle.cluster_vnode.specs.declared.fault.Receipt.{Receipt}

-- what contracts see of the vnodes that a pass reaches: how many there are, what the pass knows, and how many calls failed
pub record Reach : Type 0 where
  pub size : Size
  pub pass : View
  pub failures : ℕ

-- a call that was lost: there is no such vnode, or the pass has drawn all its stamps
abbrev pub IsLostAt : Size → View → View → ℕ → Type 0
IsLostAt size old new i = (new.told ≡ old.told) × ((size.vnodes ≤ i) ⊎ (old.drawn ≡ stamps_each))

-- the pass was told of this reply to a request at a vnode, by an entry at this place
abbrev pub IsReplied : Size → View → View → ℕ → Request → ℕ → Reply → Type 0
IsReplied size old new i asked place told = (i < size.vnodes) × ((stamp : ℕ) × IsNews old new (call_of (size.first + i) place stamp asked (outcome_ok told)))

-- why it came back as it did
abbrev pub IsNoReply : Size → View → View → ℕ → Request → PeerFault → Type 0
IsNoReply size old new i asked Lost = IsLostAt size old new i
IsNoReply size old new i asked (Refused why) = (i < size.vnodes) × IsFault old new (size.first + i) asked (fault.Refused why)

-- what a put leaves
abbrev pub IsPut : Size → View → View → ℕ → Request → Result dvv.Dot PeerFault → Type 0
IsPut size old new i asked (Ok dot) = (place : ℕ) × IsReplied size old new i asked place (reply.Dot dot)
IsPut size old new i asked (Err why) = IsNoReply size old new i asked why

-- what a merge leaves
abbrev pub IsMerge : Size → View → View → ℕ → Request → Result Bool PeerFault → Type 0
IsMerge size old new i asked (Ok changed) = (place : ℕ) × IsReplied size old new i asked place (reply.Changed changed)
IsMerge size old new i asked (Err why) = IsNoReply size old new i asked why

-- what a read leaves
abbrev pub IsRead : Size → View → View → ℕ → Request → Result Answer PeerFault → Type 0
IsRead size old new i asked (Ok answer) = (answer.from ≡ size.first + i) × IsReplied size old new i asked answer.at (reply.State answer.state)
IsRead size old new i asked (Err why) = IsNoReply size old new i asked why

-- by cases on why a call was refused
abbrev pub MatchCall : CallFault → Type 0 → Type 0 → (VnodeFault → Type 0) → Type 0
MatchCall fault.PassSpent spent missing refused = spent
MatchCall fault.Missing spent missing refused = missing
MatchCall (fault.Refused why) spent missing refused = refused why

-- what the call of a read came to: a state, or a refusal that a read can have
abbrev pub IsReadBack : Result (Reply × Receipt) CallFault → Type 0
IsReadBack (Ok (reply.State state, receipt)) = Unit {0}
IsReadBack (Ok (reply.Dot dot, receipt)) = ⊥
IsReadBack (Ok (reply.Changed changed, receipt)) = ⊥
IsReadBack (Ok (reply.Summary summary, receipt)) = ⊥
IsReadBack (Ok (reply.Built changed whole, receipt)) = ⊥
IsReadBack (Ok (reply.Done, receipt)) = ⊥
IsReadBack (Err why) = why ≢ fault.Missing

-- the answer that is made of it
abbrev pub IsReadAs : Result (Reply × Receipt) CallFault → Result Answer PeerFault → Type 0
IsReadAs (Ok (reply.State state, receipt)) back = back ≡ Ok record { from = receipt.vnode; at = receipt.place; state = state }
IsReadAs (Ok (reply.Dot dot, receipt)) back = ⊥
IsReadAs (Ok (reply.Changed changed, receipt)) back = ⊥
IsReadAs (Ok (reply.Summary summary, receipt)) back = ⊥
IsReadAs (Ok (reply.Built changed whole, receipt)) back = ⊥
IsReadAs (Ok (reply.Done, receipt)) back = ⊥
IsReadAs (Err why) back = MatchCall why (back ≡ Err Lost) ⊥ (λ refusal. back ≡ Err (Refused refusal))

-- what a put and the read behind it leave: where the put was stored, the read's entry is the next behind it, and the pass was told of both, the put first
abbrev pub IsPutAndRead : Size → View → View → ℕ → Key → List dvv.Dot → Content → Result (dvv.Dot × Result Answer PeerFault) PeerFault → Type 0
IsPutAndRead size old new i key seen content (Ok stored) =
    (middle : View) × (place : ℕ) × IsReplied size old middle i (request.Put key seen content) place (reply.Dot stored.0) × IsRead size middle new i (request.Read key) stored.1
    × IfOk stored.1 (λ answer. answer.at ≡ place + 1)
IsPutAndRead size old new i key seen content (Err why) = IsNoReply size old new i (request.Put key seen content) why

-- what a summary leaves
abbrev pub IsSummary : Size → View → View → ℕ → Request → Result SummaryAnswer PeerFault → Type 0
IsSummary size old new i asked (Ok answer) = (answer.from ≡ size.first + i) × IsReplied size old new i asked answer.at (reply.Summary answer.summary)
IsSummary size old new i asked (Err why) = IsNoReply size old new i asked why

-- what a part leaves: the merge of the whole state that was built, or the refusal that tells of a content which isn't held
abbrev pub IsPart : Size → View → View → ℕ → Request → Result PartAnswer PeerFault → Type 0
IsPart size old new i asked (Ok (Merged changed)) = (place : ℕ) × (whole : State) × IsReplied size old new i asked place (reply.Built changed whole)
IsPart size old new i asked (Ok Missing) = (i < size.vnodes) × IsFault old new (size.first + i) asked fault.Missing
IsPart size old new i asked (Err why) = IsNoReply size old new i asked why

-- the keys that a vnode named; nothing more was told, and what is lost had no vnode: at one that is there only memory can lack
abbrev pub IsKeys : Size → View → View → ℕ → Result (Vec Key) PeerFault → Type 0
IsKeys size old new i (Ok keys) = (new.told ≡ old.told) × AreKeysOf size old i keys.items
IsKeys size old new i (Err Lost) = (new.told ≡ old.told) × (size.vnodes ≤ i)
IsKeys size old new i (Err (Refused why)) = (i < size.vnodes) × (new.told ≡ old.told) × (why ≡ NoMemory)

-- what a call leaves of what the pass knows
abbrev pub Passes : Size → View → Call → View → Type 0
Passes size old (PutAt i key seen content back) new = IsPut size old new i (request.Put key seen content) back
Passes size old (MergeAt i key from at state back) new = IsMerge size old new i (request.Merge key from at state) back
Passes size old (StateOf i key back) new = IsRead size old new i (request.Read key) back
Passes size old (SummaryAt i key back) new = IsSummary size old new i (request.Summary key) back
Passes size old (MergePartAt i key from at part back) new = IsPart size old new i (request.Part key from at part) back
Passes size old (KeysOf i back) new = IsKeys size old new i back

-- one call through the peers of a pass
pub record PassStep (size : Size) (old : View) (failures : ℕ) (call : Call) (new : View) (more : ℕ) (origin origin_after : ℕ) (size_after : Size) : Type 0 where
  pub known : Passes size old call new
  pub count : Counts call failures more
  pub origin_is : origin_after ≡ origin
  pub size_is : size_after ≡ size

-- the same of what contracts see before and behind it
abbrev pub ReachStep : Reach → Call → Reach → Type 0
ReachStep old call new = PassStep old.size old.pass old.failures call new.pass new.failures 0 0 new.size
