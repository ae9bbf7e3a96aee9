-- What a call on another server's vnode came to: it is lost, or it is what that server sent (this store's profile).
use Rattle.std.specs.Prelude.{◌≡◌, ℕ, ◌%◌, Result, Ok, Err}
use Rattle.peers.specs.declared.peers.PartAnswer.TheVariants.{Merged, Missing}
use Rattle.peers.specs.declared.fault.PeerFault.{PeerFault}
use Rattle.peers.specs.declared.fault.PeerFault.TheVariants.{Lost, Refused}
use Rattle.peers.specs.Calls.{Call, PutAt, MergeAt, StateOf, SummaryAt, MergePartAt, KeysOf}
use Rattle.peers.specs.Counts.{Counts}
use Rattle.peer_remote.specs.declared.message.Question.{Question}
use Rattle.peer_remote.specs.declared.message.Question.TheVariants.{Put, Merge, Read, Summary, Part}
use Rattle.peer_remote.specs.declared.message.Told.{Told}
use Rattle.peer_remote.specs.declared.message.Told.TheVariants as told

module _ (sent : Question → Told → Type 0) where
  -- why there is no answer: none came, or the server sent the refusal
  abbrev pub IsFault : Question → PeerFault → Type 0
  IsFault question Lost = Unit {0}
  IsFault question (Refused fault) = sent question (told.Refused fault)

  -- Each answer is one that the vnode's server has sent to that very question, at some time: it may be late, and of a question that was asked twice it may be either
  -- answer. A state or a summary names a read of a vnode with the index that was asked.
  abbrev pub IsAnswered : Call → Type 0
  IsAnswered (PutAt i key seen content (Ok dot)) = sent (Put i key seen content) (told.Dot dot)
  IsAnswered (PutAt i key seen content (Err fault)) = IsFault (Put i key seen content) fault
  IsAnswered (MergeAt i key from at state (Ok changed)) = sent (Merge i key from at state) (told.Changed changed)
  IsAnswered (MergeAt i key from at state (Err fault)) = IsFault (Merge i key from at state) fault
  IsAnswered (StateOf i key (Ok answer)) = (answer.from % 256 ≡ i) × sent (Read i key) (told.State answer.from answer.at answer.state)
  IsAnswered (StateOf i key (Err fault)) = IsFault (Read i key) fault
  IsAnswered (SummaryAt i key (Ok answer)) = (answer.from % 256 ≡ i) × sent (Summary i key) (told.Summary answer.from answer.at answer.summary)
  IsAnswered (SummaryAt i key (Err fault)) = IsFault (Summary i key) fault
  IsAnswered (MergePartAt i key from at part (Ok (Merged changed))) = sent (Part i key from at part) (told.Changed changed)
  IsAnswered (MergePartAt i key from at part (Ok Missing)) = sent (Part i key from at part) told.Missing
  IsAnswered (MergePartAt i key from at part (Err fault)) = IsFault (Part i key from at part) fault
  -- other servers' keys are not named
  IsAnswered (KeysOf i back) = back ≡ Err Lost

-- one call on a vnode of another server, from a count of failures to the next
pub record RemoteStep (sent : Question → Told → Type 0) (old : ℕ) (call : Call) (new : ℕ) : Type 0 where
  pub answered : IsAnswered sent call
  pub counted : Counts call old new
