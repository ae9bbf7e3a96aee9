-- A put at a coordinator, and its way to the other vnodes of the list (Riak KV documentation, writes and quorums).
use Rattle.std.specs.Prelude.{◌≡◌, ℕ, ◌+◌, ◌≤◌, List, [], ◌∷◌, ◌++◌, Option, Some, None, Result, Ok, Err, length, count_by, is_ok, nat_le, Bool, true, false, MatchBool, if◌then◌else◌}
use Rattle.dvv.specs.declared.Dot.{Dot}
use Rattle.key_state.specs.declared.content.Key.{Key}
use Rattle.key_state.specs.declared.content.Content.{Content}
use Rattle.vnode.specs.declared.fault.VnodeFault.TheVariants.{ContextAhead, TooManySiblings, ClockFull, MergedClockFull, JournalFull, NoMemory}
use Rattle.peers.specs.declared.peers.Answer.{Answer}
use Rattle.peers.specs.declared.fault.PeerFault.{PeerFault}
use Rattle.peers.specs.declared.fault.PeerFault.TheVariants.{Lost, Refused}
use Rattle.quorum.specs.declared.fault.QuorumFault.{QuorumFault}
use Rattle.quorum.specs.declared.fault.QuorumFault.TheVariants.{TooFew}
use Rattle.quorum.specs.Faults.{fault_of}
use Rattle.peers.specs.Calls.{Call, PutAt, MergeAt, StateOf}

-- what came of bringing one vnode's state to the coordinator: its read failed and is passed over, or the state was merged, whatever that gave
pub data Brought : Type 0 where
  PassedOver : (fault : PeerFault) → Brought
  Merged : (answer : Answer) (back : Result Bool PeerFault) → Brought

-- each of these vnodes is read and what came is merged into the coordinator, in order
abbrev pub gathers : ℕ → Key → List ℕ → List Brought → List Call
gathers coordinator key vnodes [] = []
gathers coordinator key [] (b ∷ bs) = []
gathers coordinator key (i ∷ vnodes) (PassedOver fault ∷ bs) = StateOf i key (Err fault) ∷ gathers coordinator key vnodes bs
gathers coordinator key (i ∷ vnodes) (Merged answer back ∷ bs) = StateOf i key (Ok answer) ∷ MergeAt coordinator key answer.from answer.at answer.state back ∷ gathers coordinator key vnodes bs

-- one state is merged into each of these vnodes, in order
abbrev pub merges : Key → Answer → List ℕ → List (Result Bool PeerFault) → List Call
merges key answer vnodes [] = []
merges key answer [] (back ∷ backs) = []
merges key answer (i ∷ vnodes) (back ∷ backs) = MergeAt i key answer.from answer.at answer.state back ∷ merges key answer vnodes backs

-- whether a put was refused since its context is ahead
abbrev pub is_ahead : Result Dot PeerFault → Bool
is_ahead (Ok dot) = false
is_ahead (Err Lost) = false
is_ahead (Err (Refused ContextAhead)) = true
is_ahead (Err (Refused TooManySiblings)) = false
is_ahead (Err (Refused ClockFull)) = false
is_ahead (Err (Refused MergedClockFull)) = false
is_ahead (Err (Refused JournalFull)) = false
is_ahead (Err (Refused NoMemory)) = false

-- what a coordinator's put came to: its dot is told, and where there are other vnodes what the read behind it came to
abbrev pub put_of : Result (Dot × Option (Result Answer PeerFault)) PeerFault → Result Dot PeerFault
put_of (Ok stored) = Ok stored.0
put_of (Err fault) = Err fault

-- the read behind a put that was taken
abbrev pub reads_behind : ℕ → Key → Result (Dot × Option (Result Answer PeerFault)) PeerFault → List Call
reads_behind coordinator key (Ok (dot, Some own)) = StateOf coordinator key own ∷ []
reads_behind coordinator key (Ok (dot, None)) = []
reads_behind coordinator key (Err fault) = []

-- a coordinator that took a put was read exactly where there are others, whom its state is for
abbrev pub IsReadFor : List ℕ → Result (Dot × Option (Result Answer PeerFault)) PeerFault → Type 0
IsReadFor [] (Ok (dot, None)) = Unit {0}
IsReadFor [] (Ok (dot, Some own)) = ⊥
IsReadFor [] (Err fault) = Unit {0}
IsReadFor (i ∷ others) (Ok (dot, None)) = ⊥
IsReadFor (i ∷ others) (Ok (dot, Some own)) = Unit {0}
IsReadFor (i ∷ others) (Err fault) = Unit {0}

-- the coordinator and each vnode that answered its merge have a copy
abbrev pub copies : List (Result Bool PeerFault) → ℕ
copies backs = 1 + count_by is_ok backs

module _ (coordinator : ℕ) (others : List ℕ) (key : Key) (w : ℕ) where
  -- what follows the coordinator's read of its own state: it is merged into each other vnode, and w copies are enough
  abbrev pub AfterRead : Dot → Result Answer PeerFault → List Call → Result Dot QuorumFault → Type 0
  AfterRead dot (Ok answer) calls result = (backs : List (Result Bool PeerFault)) × (length backs ≡ length others) × (calls ≡ merges key answer others backs) × (result ≡ (if nat_le w (copies backs) then Ok dot else Err TooFew))
  AfterRead dot (Err fault) calls result = (calls ≡ []) × (result ≡ Err (fault_of fault))

-- what follows the put that a coordinator took: it reads its own state for the other vnodes, and where there is none its copy is the only one, and no call follows
abbrev pub AfterStored : ℕ → List ℕ → Key → ℕ → Dot → List Call → Result Dot QuorumFault → Type 0
AfterStored coordinator [] key w dot calls result = (calls ≡ []) × (result ≡ (if nat_le w 1 then Ok dot else Err TooFew))
AfterStored coordinator (i ∷ others) key w dot calls result = (own : Result Answer PeerFault) × (rest : List Call) × (calls ≡ StateOf coordinator key own ∷ rest) × AfterRead coordinator (i ∷ others) key w dot own rest result

module _ (coordinator : ℕ) (others : List ℕ) (key : Key) (w : ℕ) where
  -- what follows the coordinator's last put
  abbrev pub AfterPut : Result Dot PeerFault → List Call → Result Dot QuorumFault → Type 0
  AfterPut (Ok dot) calls result = AfterStored coordinator others key w dot calls result
  AfterPut (Err fault) calls result = (calls ≡ []) × (result ≡ Err (fault_of fault))

  module _ (seen : List Dot) (content : Content) where
    -- the others' states are brought, and the put is tried once more
    abbrev pub TriesAgain : List Call → Result Dot QuorumFault → Type 0
    TriesAgain calls result = (brought : List Brought) × (second : Result Dot PeerFault) × (rest : List Call) × (length brought ≡ length others)
        × (calls ≡ gathers coordinator key others brought ++ PutAt coordinator key seen content second ∷ rest) × AfterPut second rest result

    -- what follows the coordinator's first put: where its context is ahead, the others' states are brought and it is tried once more
    abbrev pub AfterFirst : Result Dot PeerFault → List Call → Result Dot QuorumFault → Type 0
    AfterFirst first calls result = MatchBool (is_ahead first) (TriesAgain calls result) (AfterPut first calls result)

    -- the calls of a put, and its answer
    abbrev pub IsPut : List Call → Result Dot QuorumFault → Type 0
    IsPut calls result = (first : Result Dot PeerFault) × (rest : List Call) × (calls ≡ PutAt coordinator key seen content first ∷ rest) × AfterFirst first rest result

-- the calls behind the put that a coordinator took, where at least w vnodes answered that they have a copy, with the coordinator: it answered its own state, which
-- was then merged into each other vnode; where there is none no call is made
abbrev pub HasSpread : ℕ → List ℕ → Key → ℕ → List Call → Type 0
HasSpread coordinator [] key w calls = (calls ≡ []) × (w ≤ 1)
HasSpread coordinator (i ∷ others) key w calls = (own : Answer) × (backs : List (Result Bool PeerFault)) × (calls ≡ StateOf coordinator key (Ok own) ∷ merges key own (i ∷ others) backs)
    × (length backs ≡ length (i ∷ others)) × (w ≤ copies backs)

-- the last calls of a put that went through: the coordinator stored it under this dot, and it went to the other vnodes
pub record StoresCopies (coordinator : ℕ) (others : List ℕ) (key : Key) (w : ℕ) (seen : List Dot) (dot : Dot) (calls : List Call) : Type 0 where
  pub before : List Call
  pub content : Content
  pub behind : List Call
  pub parts : calls ≡ before ++ PutAt coordinator key seen content (Ok dot) ∷ behind
  pub spread : HasSpread coordinator others key w behind
