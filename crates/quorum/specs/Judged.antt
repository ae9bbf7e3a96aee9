-- A put with its bucket's pre-commit hook in front (Riak KV documentation, pre-commit hooks; this store's profile).
use Rattle.std.specs.Prelude.{◌≡◌, ℕ, ◌⊎◌, List, [], ◌∷◌, Option, Some, None, Result, Ok, Err}
use Rattle.dvv.specs.declared.Dot.{Dot}
use Rattle.key_state.specs.declared.content.Key.{Key}
use Rattle.key_state.specs.declared.content.Content.{Content}
use Rattle.key_state.specs.declared.content.Content.TheVariants.{Value, Tombstone}
use Rattle.key_state.specs.declared.content.Sibling.{Sibling}
use Rattle.key_state.specs.State.{kept}
use Rattle.vnode.specs.declared.fault.VnodeFault.TheVariants.{NoMemory}
use Rattle.bpf_verifier.specs.Program.{Program}
use Rattle.bpf_helpers.specs.declared.sig.Entry.{Entry}
use Rattle.hook_abi.specs.declared.answer.BadAnswer.TheVariants.{UnknownCode}
use Rattle.hook_abi.specs.Verdicts.{Meaning, Pass, Write, Reject, Keep, Delete, Take}
use Rattle.hook_abi.specs.Written.{octet_stream}
use Rattle.hook_run.specs.declared.deciding.RunFault.{RunFault}
use Rattle.hook_run.specs.declared.deciding.RunFault.TheVariants as run
use Rattle.hook_run.specs.Decisions.{IsDecision}
use Rattle.hook_registry.specs.declared.fault.NotSeen.{NotSeen}
use Rattle.peers.specs.declared.peers.Answer.{Answer}
use Rattle.peers.specs.declared.fault.PeerFault.{PeerFault}
use Rattle.quorum.specs.declared.fault.QuorumFault.{QuorumFault}
use Rattle.quorum.specs.declared.fault.QuorumFault.TheVariants.{Refused, Unseen, BadVerdict, Rejected}
use Rattle.quorum.specs.Faults.{fault_of, fault_of_run}
use Rattle.peers.specs.Calls.{Call, StateOf}
use Rattle.quorum.specs.Puts.{IsPut}

-- a content with the value that a hook wrote: its media type is kept, and a tombstone becomes a value of application/octet-stream
abbrev pub rewritten : Content → List ℕ → Content
rewritten (Value media bytes) written = Value media written
rewritten Tombstone written = octet_stream written

-- what a pre-commit hook's decision makes of the new content: what is put, or why nothing is; for a written value memory may
-- lack, and a verdict that is a resolver's alone is a bad one
abbrev pub Judges : Content → Result Meaning RunFault → Result Content QuorumFault → Type 0
Judges content (Ok Pass) judged = judged ≡ Ok content
Judges content (Ok (Write bytes)) judged = (judged ≡ Ok (rewritten content bytes)) ⊎ (judged ≡ Err (Refused NoMemory))
Judges content (Ok (Reject code)) judged = judged ≡ Err (Rejected code)
Judges content (Ok Keep) judged = judged ≡ Err (BadVerdict UnknownCode)
Judges content (Ok Delete) judged = judged ≡ Err (BadVerdict UnknownCode)
Judges content (Ok (Take index)) judged = judged ≡ Err (BadVerdict UnknownCode)
Judges content (Err fault) judged = judged ≡ Err (fault_of_run fault)

-- what a pre-commit hook rules: what it decides on the new content and all siblings; where these don't fit its input, on the new content
-- and the siblings that the write's context leaves, so that a write that has seen all of them is judged by itself
module _ (listed : List Entry) (hook : Program) (seen : List Dot) (content : Content) (siblings : List Sibling) where
  abbrev pub Narrows : Result Meaning RunFault → Result Meaning RunFault → Type 0
  Narrows (Ok verdict) ruled = ruled ≡ Ok verdict
  Narrows (Err run.Disagrees) ruled = ruled ≡ Err run.Disagrees
  Narrows (Err run.TooLarge) ruled = IsDecision hook (Some content) (kept seen siblings) listed ruled
  Narrows (Err (run.Bad bad)) ruled = ruled ≡ Err (run.Bad bad)
  Narrows (Err run.NoMemory) ruled = ruled ≡ Err run.NoMemory

  abbrev pub IsRuling : Result Meaning RunFault → Type 0
  IsRuling ruled = (of_all : Result Meaning RunFault) × IsDecision hook (Some content) siblings listed of_all × Narrows of_all ruled

-- what is put where a judge names only a content that it changed
abbrev pub or_same : Content → Result (Option Content) QuorumFault → Result Content QuorumFault
or_same content (Ok (Some changed)) = Ok changed
or_same content (Ok None) = Ok content
or_same content (Err fault) = Err fault

module _ (listed : List Entry) (coordinator : ℕ) (others : List ℕ) (key : Key) (w : ℕ) (seen : List Dot) (content : Content) where
  -- what follows the hook's decision: the put of what it let through, or no further call
  abbrev pub AfterJudged : Result Content QuorumFault → List Call → Result Dot QuorumFault → Type 0
  AfterJudged (Ok judged) calls result = IsPut coordinator others key w seen judged calls result
  AfterJudged (Err fault) calls result = (calls ≡ []) × (result ≡ Err fault)

  -- what follows the coordinator's read of its own state: the hook rules on the new content and the siblings there
  abbrev pub AfterSiblings : Program → Result Answer PeerFault → List Call → Result Dot QuorumFault → Type 0
  AfterSiblings hook (Ok answer) calls result = (decided : Result Meaning RunFault) × (judged : Result Content QuorumFault)
      × IsRuling listed hook seen content answer.state.siblings decided × Judges content decided judged × AfterJudged judged calls result
  AfterSiblings hook (Err fault) calls result = (calls ≡ []) × (result ≡ Err (fault_of fault))

  -- the calls of a put and its answer, by what the look-up of the pre-commit hook found
  abbrev pub IsJudgedPut : Result (Option Program) NotSeen → List Call → Result Dot QuorumFault → Type 0
  IsJudgedPut (Ok None) calls result = IsPut coordinator others key w seen content calls result
  IsJudgedPut (Ok (Some hook)) calls result = (own : Result Answer PeerFault) × (rest : List Call) × (calls ≡ StateOf coordinator key own ∷ rest) × AfterSiblings hook own rest result
  IsJudgedPut (Err fault) calls result = (calls ≡ []) × (result ≡ Err Unseen)
