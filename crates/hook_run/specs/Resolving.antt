-- What a resolver makes of the siblings of a key, and the content that is then put (Riak KV documentation, conflict resolution; the verdicts are this store's profile).
use Rattle.std.specs.Prelude.{◌≡◌, ℕ, List, Option, None, Some, Result, Ok, Err, slice_get}
use Rattle.std.specs.Option.{option_map}
use Rattle.bpf_helpers.specs.declared.sig.Entry.{Entry}
use Rattle.bpf_verifier.specs.Program.{Program}
use Rattle.key_state.specs.declared.content.Content.{Content}
use Rattle.key_state.specs.declared.content.Content.TheVariants.{Tombstone}
use Rattle.key_state.specs.declared.content.Sibling.{Sibling}
use Rattle.hook_abi.specs.Verdicts.{Meaning, Pass, Reject, Keep as Kept, Take as Took, Write as Wrote, Delete as Deleted}
use Rattle.hook_abi.specs.Written.{octet_stream}
use Rattle.hook_run.specs.declared.deciding.RunFault.{RunFault}
use Rattle.hook_run.specs.declared.deciding.RunFault.TheVariants as fault
use Rattle.hook_run.specs.declared.resolving.Resolution.{Resolution}
use Rattle.hook_run.specs.declared.resolving.Resolution.TheVariants.{Keep, Take, Write, Delete, TooLarge, Bad}
use Rattle.hook_run.specs.declared.resolving.Unresolved.{Unresolved}
use Rattle.hook_run.specs.declared.resolving.Unresolved.TheVariants.{Disagrees, NoMemory}
use Rattle.bpf_semantics.specs.State.{Calls}
use Rattle.bpf_helpers.specs.Calls.{calls_of}
use Rattle.hook_run.specs.Decisions.{IsDecision, IsDecisionBy}

-- what a decision comes to: a written value is a content of the media type application/octet-stream; the verdicts of other kinds of hooks keep the siblings
abbrev pub resolution_of : Result Meaning RunFault → Result Resolution Unresolved
resolution_of (Ok Pass) = Ok Keep
resolution_of (Ok (Wrote bytes)) = Ok (Write (octet_stream bytes))
resolution_of (Ok (Reject code)) = Ok Keep
resolution_of (Ok Kept) = Ok Keep
resolution_of (Ok Deleted) = Ok Delete
resolution_of (Ok (Took place)) = Ok (Take place)
resolution_of (Err fault.Disagrees) = Err Disagrees
resolution_of (Err fault.TooLarge) = Ok TooLarge
resolution_of (Err (fault.Bad bad)) = Ok (Bad bad)
resolution_of (Err fault.NoMemory) = Err NoMemory

-- the content of the sibling at a place, if there is one
abbrev pub content_at : List Sibling → ℕ → Option Content
content_at siblings place = option_map (λ s. s.content) (slice_get siblings place)

-- the content that is then put, if any: that of the sibling taken, the value written, or a tombstone
abbrev pub chosen_by : Resolution → List Sibling → Option Content
chosen_by (Take place) siblings = content_at siblings place
chosen_by (Write content) siblings = Some content
chosen_by Delete siblings = Some Tombstone
chosen_by Keep siblings = None
chosen_by TooLarge siblings = None
chosen_by (Bad bad) siblings = None

-- a value was written
abbrev pub IsWritten : Meaning → Type 0
IsWritten (Wrote bytes) = Unit {0}
IsWritten other = ⊥

module _ (calls : Calls) (listed : List Entry) (hook : Program) (siblings : List Sibling) where
  -- what a run of the hook on the siblings comes to, over a table of these helpers, where calls answer by a relation
  abbrev pub IsResolutionBy : Resolution → Type 0
  IsResolutionBy resolution = (decided : Result Meaning RunFault) × IsDecisionBy calls hook None siblings listed decided × (resolution_of decided ≡ Ok resolution)

  -- the hook wrote a value, for which alone a resolver whose room fits wants memory
  abbrev pub WritesValueBy : Type 0
  WritesValueBy = (written : Meaning) × IsWritten written × IsDecisionBy calls hook None siblings listed (Ok written)

-- the same by the Sigs alone: a helper's answer is some number of its Sig's range
module _ (listed : List Entry) (hook : Program) (siblings : List Sibling) where
  abbrev pub IsResolution : Resolution → Type 0
  IsResolution resolution = IsResolutionBy (calls_of hook.sigs) listed hook siblings resolution

  -- why it comes to nothing: the table lacks a helper of the hook, or memory ran out
  abbrev pub IsUnresolved : Unresolved → Type 0
  IsUnresolved Disagrees = IsDecision hook None siblings listed (Err fault.Disagrees)
  IsUnresolved NoMemory = IsDecision hook None siblings listed (Err fault.NoMemory)

  -- the hook wrote a value
  abbrev pub WritesValue : Type 0
  WritesValue = WritesValueBy (calls_of hook.sigs) listed hook siblings
