-- Scripts whose first vnode has merged records before the first line (this store's profile).
use Rattle.std.specs.Prelude.{◌≡◌, ℕ, ◌++◌, ◌∷◌, [], List, codes, decimal, max}
use Rattle.bpf_helpers.specs.declared.sig.Entry.{Entry}
use Rattle.script_lines.specs.Lines.{lines_in}
use Rattle.script_replies.specs.Texts.{line}
use Rattle.record_codec.specs.declared.record.Record.{Record}
use Rattle.world.specs.Beginning.{BeginsWith}
use Rattle.world.specs.Dumps.{GoesOnFrom, IsDumpIn}
use Rattle.journal.specs.Logs.{Log}
use Rattle.world.specs.Knowledge.{Knowledge}
use Rattle.world.specs.Running.{Ran, IsWorldFrom}
use Rattle.script_events.specs.declared.script.Script.{Script}
use Rattle.script_events.specs.Scripts.{IsRunnableFrom, AnswersFor, AnswersUpTo}
use Rattle.script_run.specs.Printing.{Tells}

-- how many vnodes there are: as many as a script has, and one where it has none
abbrev pub vnodes_of : Script → ℕ
vnodes_of script = max 1 script.vnodes

module _ (listed : List Entry) (incarnation : ℕ) (records : List Record) where
  -- a text is what a script's lines print over the replies of a run of its events, where vnodes begin under an incarnation and the first has merged the records:
  -- a run from each beginning in which these are true, and there is one where the records are a dump in some world: it goes on from what the dumped vnode knew there
  pub record PrintsFrom (script : Script) (text : List ℕ) : Type 0 where
    pub runnable : IsRunnableFrom (0 ∷ incarnation ∷ []) listed script
    pub ran : Ran
    pub world : (begin : Knowledge) → BeginsWith incarnation (vnodes_of script) records script.events.items begin → IsWorldFrom begin (vnodes_of script) listed script.events.items ran
    pub dumped : (before : Knowledge) (logs : List Log) (vnode : ℕ) → IsDumpIn before logs vnode incarnation (vnodes_of script) records script.events.items
        → (begin : Knowledge) × GoesOnFrom before vnode begin × IsWorldFrom begin (vnodes_of script) listed script.events.items ran
    pub tells : Tells listed script.answered.items ran.replies text

  -- a script was read from all lines, and this is what it prints
  pub record PrintsAllFrom (bytes text : List ℕ) : Type 0 where
    pub script : Script
    pub read : AnswersFor script (lines_in bytes)
    pub prints : PrintsFrom script text

  -- a script was read from the lines before a bad one, and this is what it prints, and which line is bad
  pub record PrintsUpToFrom (bytes text : List ℕ) : Type 0 where
    pub script : Script
    pub number : ℕ
    pub front : List ℕ
    pub read : AnswersUpTo script bytes number
    pub prints : PrintsFrom script front
    pub told : text ≡ front ++ line (codes "bad line " ++ decimal number)
