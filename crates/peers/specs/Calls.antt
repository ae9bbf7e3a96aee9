-- Calls on the vnodes, with what came back from each.
use Rattle.std.specs.Prelude.{◌≡◌, ℕ, List, [], ◌∷◌, Result, Ok, Err, Bool, true, false}
use Rattle.std.specs.Global.{Vec}
use Rattle.dvv.specs.declared.Dot.{Dot}
use Rattle.key_state.specs.declared.content.Content.{Content}
use Rattle.key_state.specs.declared.content.Key.{Key}
use Rattle.key_state.specs.State.{State}
use Rattle.key_state.specs.Parts.{Partial}
use Rattle.peers.specs.declared.peers.Answer.{Answer}
use Rattle.peers.specs.declared.peers.SummaryAnswer.{SummaryAnswer}
use Rattle.peers.specs.declared.peers.PartAnswer.{PartAnswer}
use Rattle.peers.specs.declared.peers.PartAnswer.TheVariants.{Merged, Missing}
use Rattle.peers.specs.declared.fault.PeerFault.{PeerFault}

-- a call on vnode i and what came back
pub data Call : Type 0 where
  PutAt : (i : ℕ) (key : Key) (seen : List Dot) (content : Content) (back : Result Dot PeerFault) → Call
  MergeAt : (i : ℕ) (key : Key) (from at : ℕ) (state : State) (back : Result Bool PeerFault) → Call
  StateOf : (i : ℕ) (key : Key) (back : Result Answer PeerFault) → Call
  SummaryAt : (i : ℕ) (key : Key) (back : Result SummaryAnswer PeerFault) → Call
  MergePartAt : (i : ℕ) (key : Key) (from at : ℕ) (part : Partial) (back : Result PartAnswer PeerFault) → Call
  KeysOf : (i : ℕ) (back : Result (Vec Key) PeerFault) → Call

-- whether a part was merged
abbrev pub is_merged : Result PartAnswer PeerFault → Bool
is_merged (Ok (Merged changed)) = true
is_merged (Ok Missing) = false
is_merged (Err fault) = false

-- these calls, one after another, lead from one state to the other
abbrev pub Made : {S : Type 0} → (S → Call → S → Type 0) → S → List Call → S → Type 0
Made happens old [] new = new ≡ old
Made {S} happens old (call ∷ calls) new = (mid : S) × happens old call mid × Made happens mid calls new

-- a put, and where it was stored a read of the same key behind it, with what came back of both
abbrev pub puts_and_reads : ℕ → Key → List Dot → Content → Result (Dot × Result Answer PeerFault) PeerFault → List Call
puts_and_reads i key seen content (Ok stored) = PutAt i key seen content (Ok stored.0) ∷ StateOf i key stored.1 ∷ []
puts_and_reads i key seen content (Err fault) = PutAt i key seen content (Err fault) ∷ []
