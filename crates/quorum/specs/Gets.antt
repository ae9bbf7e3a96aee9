-- A read of a key at each vnode of its preference list (Riak KV documentation, reads and quorums).
use Rattle.std.specs.Prelude.{◌≡◌, ℕ, ◌≤◌, ◌<◌, ◌⊎◌, true, List, [], ◌∷◌, ◌++◌, Result, Ok, Err, map, length}
use Rattle.std.specs.Global.{Vec}
use Rattle.dvv.specs.Clock.{vnodes_together, most_entries}
use Rattle.key_state.specs.declared.content.Key.{Key}
use Rattle.key_state.specs.State.{State, is_changed_by}
use Rattle.key_state.specs.Known.{Write, Shows}
use Rattle.journal.specs.Replay.{IsMergeOf}
use Rattle.vnode.specs.declared.fault.VnodeFault.TheVariants.{MergedClockFull, NoMemory}
use Rattle.peers.specs.declared.peers.Answer.{Answer}
use Rattle.peers.specs.declared.fault.PeerFault.{PeerFault}
use Rattle.quorum.specs.declared.fault.QuorumFault.{QuorumFault}
use Rattle.quorum.specs.declared.fault.QuorumFault.TheVariants.{TooFew, Refused, Unseen, Disagrees, TooLarge, BadVerdict, Rejected}
use Rattle.peers.specs.Calls.{Call, StateOf}

-- a read at each of these vnodes, in order, with what came back from each
abbrev pub reads : Key → List ℕ → List (Result Answer PeerFault) → List Call
reads key vnodes [] = []
reads key [] (back ∷ backs) = []
reads key (i ∷ vnodes) (back ∷ backs) = StateOf i key back ∷ reads key vnodes backs

-- the answers among what came back
abbrev pub answers : List (Result Answer PeerFault) → List Answer
answers [] = []
answers (Ok answer ∷ backs) = answer ∷ answers backs
answers (Err fault ∷ backs) = answers backs

-- their states
abbrev pub states_of : List Answer → List State
states_of found = map (λ answer. answer.state) found

-- each state shows the writes beside it: its siblings are the current ones, and its clock is their context
abbrev pub EachShows : List (List Write) → List State → Type 0
EachShows [] [] = Unit {0}
EachShows (known ∷ knowns) (state ∷ states) = Shows known state × EachShows knowns states
EachShows [] (state ∷ states) = ⊥
EachShows (known ∷ knowns) [] = ⊥

-- a merge of states passes the clock's limit: one of them and the merge of those before it count over more vnodes together than a clock may
pub record PassesClock (key : Key) (states : List State) : Type 0 where
  pub before : List State
  pub state : State
  pub after : List State
  pub merged : State
  pub parts : states ≡ before ++ state ∷ after
  pub is_merge : IsMergeOf key before merged
  pub many : most_entries < vnodes_together merged.clock state.clock

-- a merge of states that memory may lack for: that of one of them into the merge of those before it, none of which passes the
-- clock's limit, and which changes something
pub record MayLackMemory (key : Key) (states : List State) : Type 0 where
  pub before : List State
  pub state : State
  pub after : List State
  pub merged : State
  pub parts : states ≡ before ++ state ∷ after
  pub is_merge : IsMergeOf key before merged
  pub fits : ¬ PassesClock key (before ++ state ∷ [])
  pub changes : is_changed_by merged state ≡ true

-- each vnode was read, and at least r answered
abbrev pub Suffice : List ℕ → ℕ → List (Result Answer PeerFault) → Type 0
Suffice vnodes r backs = (length backs ≡ length vnodes) × (r ≤ length (answers backs))

-- what a get answers to what came back: the merge of all states that came, and these; too few just where less than r came;
-- a full clock just where their merge passes its limit. Memory may lack for what is read of one vnode or more, and then none
-- was read; and for a merge of what came that changes something, where this one and those before it keep within the limit
abbrev pub GetsAnswer : Key → List ℕ → ℕ → List (Result Answer PeerFault) → Result (State × Vec Answer) QuorumFault → Type 0
GetsAnswer key vnodes r backs (Ok found) = Suffice vnodes r backs × IsMergeOf key (states_of (answers backs)) found.0 × (¬ PassesClock key (states_of (answers backs))) × (found.1.items ≡ answers backs)
GetsAnswer key vnodes r backs (Err TooFew) = (length backs ≡ length vnodes) × (length (answers backs) < r)
GetsAnswer key vnodes r backs (Err (Refused MergedClockFull)) = Suffice vnodes r backs × PassesClock key (states_of (answers backs))
GetsAnswer key vnodes r backs (Err (Refused NoMemory)) = ((backs ≡ []) × (0 < length vnodes)) ⊎ (Suffice vnodes r backs × MayLackMemory key (states_of (answers backs)))
GetsAnswer key vnodes r backs (Err (Refused fault)) = ⊥
GetsAnswer key vnodes r backs (Err Unseen) = ⊥
GetsAnswer key vnodes r backs (Err Disagrees) = ⊥
GetsAnswer key vnodes r backs (Err TooLarge) = ⊥
GetsAnswer key vnodes r backs (Err (BadVerdict bad)) = ⊥
GetsAnswer key vnodes r backs (Err (Rejected code)) = ⊥
