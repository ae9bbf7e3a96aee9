-- What a hook decides: from the siblings of a key to the verdict of a run on their layout (this store's profile).
use Rattle.std.specs.Prelude.{◌≡◌, ℕ, ◌<◌, ◌≤◌, ◌⊎◌, List, length, Option, Result, Ok, Err}
use Rattle.bpf_semantics.specs.Step.{instruction_count}
use Rattle.bpf_semantics.specs.State.{Calls}
use Rattle.bpf_helpers.specs.declared.sig.Entry.{Entry}
use Rattle.bpf_helpers.specs.Entries.{AgreesWith}
use Rattle.bpf_helpers.specs.Calls.{calls_of}
use Rattle.bpf_verifier.specs.Program.{Program}
use Rattle.bpf_interpreter.specs.Running.{EndsWith}
use Rattle.key_state.specs.declared.content.Content.{Content}
use Rattle.key_state.specs.declared.content.Sibling.{Sibling}
use Rattle.hook_abi.specs.declared.answer.BadAnswer.{BadAnswer}
use Rattle.hook_abi.specs.Input.{contents_shown, used_by, window_of}
use Rattle.hook_abi.specs.Verdicts.{Meaning, verdict_of}
use Rattle.hook_run.specs.declared.deciding.RunFault.{RunFault}
use Rattle.hook_run.specs.declared.deciding.RunFault.TheVariants.{Disagrees, TooLarge, Bad, NoMemory}

-- what an answer means, as what is decided
abbrev pub told_of : Result Meaning BadAnswer → Result Meaning RunFault
told_of (Ok verdict) = Ok verdict
told_of (Err bad) = Err (Bad bad)

module _ (p : Program) (new : Option Content) (siblings : List Sibling) where
  -- how many bytes of the input show the contents
  abbrev pub used : ℕ
  used = used_by (contents_shown new siblings)

  -- there are at most 64 siblings, and the input window has room for what is shown
  abbrev pub HasRoom : Type 0
  HasRoom = (length siblings ≤ 64) × (used ≤ p.in_len)

  abbrev pub LacksRoom : Type 0
  LacksRoom = (64 < length siblings) ⊎ (p.in_len < used)

-- what is decided where calls answer by a relation
module _ (calls : Calls) (p : Program) (new : Option Content) (siblings : List Sibling) where
  -- a run of the program on the layout of the contents, with this answer and this output, of no more steps than it has instructions
  pub record IsRunBy (answer : ℕ) (output : List ℕ) : Type 0 where
    pub steps : ℕ
    pub short : steps ≤ instruction_count p.code
    pub ends : EndsWith calls p.code (window_of p.in_len p.kind (contents_shown new siblings)) (used p new siblings) p.out_len steps answer output

  -- what the table of verdicts says of such a run
  abbrev pub IsVerdictBy : Result Meaning BadAnswer → Type 0
  IsVerdictBy told = HasRoom p new siblings × ((answer : ℕ) × (output : List ℕ) × IsRunBy answer output × (verdict_of p.kind answer (length siblings) output ≡ told))

  -- what a hook decides: the verdict of a run, or that the input is too large, or that the answer has no meaning; or memory ran out
  abbrev pub IsRulingBy : Result Meaning RunFault → Type 0
  IsRulingBy (Ok verdict) = IsVerdictBy (Ok verdict)
  IsRulingBy (Err Disagrees) = ⊥
  IsRulingBy (Err TooLarge) = LacksRoom p new siblings
  IsRulingBy (Err (Bad bad)) = IsVerdictBy (Err bad)
  IsRulingBy (Err NoMemory) = Unit {0}

  -- the same with a table of these helpers, which may not be those that the program was verified with
  abbrev pub IsDecisionBy : List Entry → Result Meaning RunFault → Type 0
  IsDecisionBy listed (Err Disagrees) = ¬ AgreesWith listed p.sigs
  IsDecisionBy listed told = AgreesWith listed p.sigs × IsRulingBy told

-- the same by the Sigs alone: a helper's answer is some number of its Sig's range
module _ (p : Program) (new : Option Content) (siblings : List Sibling) where
  abbrev pub IsRun : ℕ → List ℕ → Type 0
  IsRun answer output = IsRunBy (calls_of p.sigs) p new siblings answer output

  abbrev pub IsDecision : List Entry → Result Meaning RunFault → Type 0
  IsDecision listed told = IsDecisionBy (calls_of p.sigs) p new siblings listed told
