-- Scripts behind whose lines a vnode is dumped (this store's profile).
use Rattle.std.specs.Prelude.{◌≡◌, ℕ, ◌<◌, ◌≤◌, ◌++◌, ◌∷◌, [], List}
use Rattle.bpf_helpers.specs.declared.sig.Entry.{Entry}
use Rattle.script_lines.specs.Lines.{lines_in}
use Rattle.vnode.specs.declared.fault.VnodeFault.{VnodeFault}
use Rattle.world.specs.declared.event.Copies.{Copies}
use Rattle.world.specs.declared.event.Event.TheVariants as event
use Rattle.world.specs.declared.event.Reply.{Reply}
use Rattle.world.specs.declared.event.Reply.TheVariants.{Dumped, Refused}
use Rattle.world.specs.Running.{Ran, IsWorldOf}
use Rattle.script_events.specs.declared.script.Script.{Script}
use Rattle.script_events.specs.Scripts.{IsRunnable, AnswersFor}
use Rattle.script_run.specs.Printing.{Tells, PrintsAll, PrintsUpTo}
use Rattle.script_run.specs.declared.dumping.Dumping.{Dumping}
use Rattle.script_run.specs.declared.dumping.Dumping.TheVariants as dumping

-- what a dump replies: copies, or why there are none
pub data IsDumpReply (reply : Reply) : Type 0 where
  copied : (copies : Copies) → reply ≡ Dumped copies → IsDumpReply reply
  refused : (why : VnodeFault) → reply ≡ Refused why → IsDumpReply reply

module _ (listed : List Entry) where
  -- the events of a script were run with a dump of a vnode behind them, which had the last reply. The text is what the script prints over the others.
  pub record DumpsBehind (script : Script) (vnode : ℕ) (text : List ℕ) (ran : Ran) : Type 0 where
    pub runnable : IsRunnable listed script
    pub within : vnode < script.vnodes
    pub world : IsWorldOf script.vnodes listed (script.events.items ++ event.Dump vnode ∷ []) ran
    pub replies : List Reply
    pub last : Reply
    pub split : ran.replies ≡ replies ++ last ∷ []
    pub dumped : IsDumpReply last
    pub tells : Tells listed script.answered.items replies text

  -- the same of a script that was read from all lines
  pub record PrintsAndDumps (bytes : List ℕ) (vnode : ℕ) (text : List ℕ) (ran : Ran) : Type 0 where
    pub script : Script
    pub read : AnswersFor script (lines_in bytes)
    pub dumps : DumpsBehind script vnode text ran

  -- a script without the vnode was read from all lines, and this is what it prints
  pub record PrintsAlone (bytes : List ℕ) (vnode : ℕ) (text : List ℕ) : Type 0 where
    pub prints : PrintsAll listed bytes text
    pub without : prints.script.vnodes ≤ vnode

  -- what comes of a dump behind the lines of a script: a script with a bad line is run up to it
  abbrev pub Dumps : List ℕ → ℕ → List ℕ → Dumping → Type 0
  Dumps bytes vnode text (dumping.Done ran) = PrintsAndDumps bytes vnode text ran
  Dumps bytes vnode text dumping.NoVnode = PrintsAlone bytes vnode text
  Dumps bytes vnode text (dumping.BadLine why) = PrintsUpTo listed bytes text
