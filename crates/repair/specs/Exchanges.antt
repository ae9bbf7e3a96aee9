-- Exchange of the keys of two vnodes by summaries (Riak KV documentation, active anti-entropy; this store's profile).
use Rattle.std.specs.Prelude.{◌≡◌, ◌≢◌, ℕ, List, [], ◌∷◌, ◌++◌, Result, Ok, Err, Bool, true, false, is_ok, length, count_by}
use Rattle.std.specs.List.{AllByRecursion}
use Rattle.std.specs.Global.{Vec}
use Rattle.key_state.specs.declared.content.Key.{Key}
use Rattle.key_state.specs.Parts.{Summarized, summary_of, part_of}
use Rattle.peers.specs.declared.peers.Answer.{Answer}
use Rattle.peers.specs.declared.peers.PartAnswer.{PartAnswer}
use Rattle.peers.specs.declared.peers.PartAnswer.TheVariants.{Merged, Missing}
use Rattle.peers.specs.declared.peers.SummaryAnswer.{SummaryAnswer}
use Rattle.peers.specs.declared.fault.PeerFault.{PeerFault}
use Rattle.peers.specs.Calls.{Call, MergeAt, StateOf, SummaryAt, MergePartAt, KeysOf}
use Rattle.repair.specs.declared.exchanging.Exchanged.{Exchanged}

-- How a state was sent, and what came back: its part, which was merged, lost or refused; its part, of which the receiver lacked a content,
-- and then the whole state; or the whole state at once, since there was no memory for the part.
pub data Sending : Type 0 where
  InPart : (back : Result Bool PeerFault) → Sending
  AfterPart : (back : Result Bool PeerFault) → Sending
  AtOnce : (back : Result Bool PeerFault) → Sending

-- what came of one key: the receiver told no summary; or the sender answered no state; or the summary is that of the state, and nothing was
-- sent; or the state was sent
pub data Sent : Type 0 where
  Untold : (fault : PeerFault) → Sent
  Unread : (told : SummaryAnswer) (fault : PeerFault) → Sent
  Alike : (told : SummaryAnswer) (own : Answer) → Sent
  Brought : (told : SummaryAnswer) (own : Answer) (sending : Sending) → Sent

-- nothing was sent just where the summary is that of the state
abbrev pub IsFair : Sent → Type 0
IsFair (Untold fault) = Unit {0}
IsFair (Unread told fault) = Unit {0}
IsFair (Alike told own) = told.summary ≡ summary_of own.state
IsFair (Brought told own sending) = told.summary ≢ summary_of own.state

-- whether what was sent was taken
abbrev pub is_received : Sending → Bool
is_received (InPart back) = is_ok back
is_received (AfterPart back) = is_ok back
is_received (AtOnce back) = is_ok back

-- whether a state was taken
abbrev pub is_taken : Sent → Bool
is_taken (Untold fault) = false
is_taken (Unread told fault) = false
is_taken (Alike told own) = false
is_taken (Brought told own sending) = is_received sending

-- whether a state went whole at once
abbrev pub is_whole : Sending → Bool
is_whole (InPart back) = false
is_whole (AfterPart back) = false
is_whole (AtOnce back) = true

-- the same of what came of a key
abbrev pub is_whole_at_once : Sent → Bool
is_whole_at_once (Untold fault) = false
is_whole_at_once (Unread told fault) = false
is_whole_at_once (Alike told own) = false
is_whole_at_once (Brought told own sending) = is_whole sending

-- what came back of a part that lacked nothing
abbrev pub merged : Result Bool PeerFault → Result PartAnswer PeerFault
merged (Ok changed) = Ok (Merged changed)
merged (Err fault) = Err fault

-- an answered state goes to a vnode, whole
abbrev pub whole_goes : ℕ → Key → Answer → Result Bool PeerFault → Call
whole_goes to key own back = MergeAt to key own.from own.at own.state back

-- the part of an answered state goes to the vnode which told this summary: the contents of those dots that the summary doesn't hold
abbrev pub part_goes : ℕ → Key → Summarized → Answer → Result PartAnswer PeerFault → Call
part_goes to key summary own back = MergePartAt to key own.from own.at (part_of own.state summary) back

-- the calls by which an answered state was sent to the vnode which told this summary
abbrev pub sendings : ℕ → Key → Summarized → Answer → Sending → List Call
sendings to key summary own (InPart back) = part_goes to key summary own (merged back) ∷ []
sendings to key summary own (AfterPart back) = part_goes to key summary own (Ok Missing) ∷ whole_goes to key own back ∷ []
sendings to key summary own (AtOnce back) = whole_goes to key own back ∷ []

-- the calls for one key
abbrev pub sends : ℕ → ℕ → Key → Sent → List Call
sends from to key (Untold fault) = SummaryAt to key (Err fault) ∷ []
sends from to key (Unread told fault) = SummaryAt to key (Ok told) ∷ StateOf from key (Err fault) ∷ []
sends from to key (Alike told own) = SummaryAt to key (Ok told) ∷ StateOf from key (Ok own) ∷ []
sends from to key (Brought told own sending) = SummaryAt to key (Ok told) ∷ StateOf from key (Ok own) ∷ sendings to key told.summary own sending

-- the calls for these keys, in order
abbrev pub sends_all : ℕ → ℕ → List Key → List Sent → List Call
sends_all from to keys [] = []
sends_all from to [] (sent ∷ all) = []
sends_all from to (key ∷ keys) (sent ∷ all) = sends from to key sent ++ sends_all from to keys all

-- what follows where a vnode named its keys: each is brought to the other
abbrev pub AfterKeys : ℕ → ℕ → Result (Vec Key) PeerFault → List Call → Exchanged → Type 0
AfterKeys from to (Ok keys) calls came = (all : List Sent) × (calls ≡ sends_all from to keys.items all) × (length all ≡ length keys.items) × AllByRecursion IsFair all × (came.taken ≡ count_by is_taken all) × (came.whole_at_once ≡ count_by is_whole_at_once all)
AfterKeys from to (Err fault) calls came = (calls ≡ []) × (came.taken ≡ 0) × (came.whole_at_once ≡ 0)

-- the keys of a vnode are brought to another: so many states were taken, and so many went whole at once
abbrev pub BringsKeys : ℕ → ℕ → List Call → Exchanged → Type 0
BringsKeys from to calls came = (back : Result (Vec Key) PeerFault) × (rest : List Call) × (calls ≡ KeysOf from back ∷ rest) × AfterKeys from to back rest came
