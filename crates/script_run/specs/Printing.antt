-- What a script prints (this store's profile).
use Rattle.std.specs.Prelude.{◌≡◌, ℕ, ◌++◌, ◌∷◌, [], List, Option, Some, Result, codes, decimal}
use Rattle.std.specs.Io.KnownBytes.{Appends}
use Rattle.bpf_helpers.specs.declared.sig.Entry.{Entry}
use Rattle.bpf_admission.specs.Admissions.{refusal_text}
use Rattle.key_state.specs.State.{State}
use Rattle.hook_abi.specs.Verdicts.{Meaning}
use Rattle.hook_run.specs.Decisions.{IsDecision}
use Rattle.hook_run.specs.declared.deciding.RunFault.{RunFault}
use Rattle.script_lines.specs.Lines.{lines_in}
use Rattle.script_replies.specs.Numbers.{token_fault_number}
use Rattle.script_replies.specs.Texts.{line, reply_text, decision_text, IsTold}
use Rattle.world.specs.declared.event.Reply.{Reply}
use Rattle.world.specs.declared.event.Reply.TheVariants as reply
use Rattle.world.specs.Running.{Ran, IsWorldOf}
use Rattle.script_events.specs.declared.check.Check.{Check}
use Rattle.script_events.specs.declared.script.Script.{Script}
use Rattle.script_events.specs.declared.script.Answered.{Answered}
use Rattle.script_events.specs.declared.script.Answered.TheVariants as answered
use Rattle.script_events.specs.Scripts.{IsRunnable, AnswersFor, AnswersUpTo}

module _ (listed : List Entry) where
  -- a hook decides so, with a table of these helpers, on a new content beside the siblings that a get found
  pub record Decides (check : Check) (state : State) (decided : Result Meaning RunFault) : Type 0 where
    pub decision : IsDecision check.hook (Some check.new) state.siblings listed decided
    pub told : IsTold decided

  -- what a check prints over the reply of its get: what its hook decides, or why the get was refused
  abbrev pub TellsCheck : Check → Reply → List ℕ → Type 0
  TellsCheck check (reply.Found state) text = (decided : Result Meaning RunFault) × Decides check state decided × (text ≡ decision_text decided)
  TellsCheck check (reply.Stored dot) text = text ≡ reply_text (reply.Stored dot)
  TellsCheck check (reply.Summarized summary) text = text ≡ reply_text (reply.Summarized summary)
  TellsCheck check (reply.Sent message) text = text ≡ reply_text (reply.Sent message)
  TellsCheck check (reply.SentPart message) text = text ≡ reply_text (reply.SentPart message)
  TellsCheck check (reply.Changed changed) text = text ≡ reply_text (reply.Changed changed)
  TellsCheck check reply.Missing text = text ≡ reply_text reply.Missing
  TellsCheck check reply.Restarted text = text ≡ reply_text reply.Restarted
  TellsCheck check (reply.Dumped copies) text = text ≡ reply_text (reply.Dumped copies)
  TellsCheck check (reply.Loaded count) text = text ≡ reply_text (reply.Loaded count)
  TellsCheck check (reply.Resolved resolution) text = text ≡ reply_text (reply.Resolved resolution)
  TellsCheck check reply.Nothing text = text ≡ reply_text reply.Nothing
  TellsCheck check (reply.Refused refusal) text = text ≡ reply_text (reply.Refused refusal)

  -- what a line prints over the replies from its own on, and those that it leaves to the lines behind it: a line that tells of an event takes one
  abbrev pub TellsLine : Answered → List Reply → List Reply → List ℕ → Type 0
  TellsLine (answered.Refused fault) replies left text = (left ≡ replies) × (text ≡ line (token_fault_number fault))
  TellsLine (answered.NotLetIn refusal) replies left text = (left ≡ replies) × (text ≡ line (codes "refused " ++ refusal_text refusal))
  TellsLine answered.Nothing replies left text = (left ≡ replies) × (text ≡ line (codes "nothing"))
  TellsLine answered.Reply replies left text = (reply : Reply) × (replies ≡ reply ∷ left) × (text ≡ reply_text reply)
  TellsLine (answered.Checked check) replies left text = (reply : Reply) × (replies ≡ reply ∷ left) × TellsCheck check reply text

  -- what lines print over the replies of the events, one after another; no reply is left
  abbrev pub Tells : List Answered → List Reply → List ℕ → Type 0
  Tells [] replies text = (replies ≡ []) × (text ≡ [])
  Tells (answer ∷ answers) replies text = (left : List Reply) × (own : List ℕ) × (rest : List ℕ) × TellsLine answer replies left own × Tells answers left rest × (text ≡ own ++ rest)

  -- a text grew by what a line prints
  pub record AddsLine (answer : Answered) (replies left : List Reply) (old new : List ℕ) : Type 0 where
    pub own : List ℕ
    pub tells : TellsLine answer replies left own
    pub text : new ≡ old ++ own

  -- a text grew by what a check prints
  pub record AddsCheck (check : Check) (reply : Reply) (old new : List ℕ) : Type 0 where
    pub own : List ℕ
    pub tells : TellsCheck check reply own
    pub text : new ≡ old ++ own

  -- a text is what a script's lines print over the replies of a run of its events
  pub record Prints (script : Script) (text : List ℕ) : Type 0 where
    pub runnable : IsRunnable listed script
    pub ran : Ran
    pub world : IsWorldOf script.vnodes listed script.events.items ran
    pub tells : Tells script.answered.items ran.replies text

  -- a script was read from all lines, and this is what it prints
  pub record PrintsAll (bytes text : List ℕ) : Type 0 where
    pub script : Script
    pub read : AnswersFor script (lines_in bytes)
    pub prints : Prints script text

  -- a script was read from the lines before a bad one, and this is what it prints, and which line is bad
  pub record PrintsUpTo (bytes text : List ℕ) : Type 0 where
    pub script : Script
    pub number : ℕ
    pub front : List ℕ
    pub read : AnswersUpTo script bytes number
    pub prints : Prints script front
    pub told : text ≡ front ++ line (codes "bad line " ++ decimal number)

  -- What is known of the output grew by what a script's lines print, with the status that goes with it: 0 where all were read, 2 where one is bad,
  -- and 1, with a line of its own, where memory was refused for the script as a whole. Which line asks for which event is not said.
  pub data Simulated (bytes : List ℕ) (before after : Option (List ℕ)) (status : ℕ) : Type 0 where
    whole : (text : List ℕ) → status ≡ 0 → PrintsAll bytes text → Appends before after text → Simulated bytes before after status
    up_to : (text : List ℕ) → status ≡ 2 → PrintsUpTo bytes text → Appends before after text → Simulated bytes before after status
    no_memory : status ≡ 1 → Appends before after (line (codes "E1")) → Simulated bytes before after status
