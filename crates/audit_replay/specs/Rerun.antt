-- What is known while entries happen again, one after another.
use Rattle.std.specs.Prelude.{◌≡◌, ◌<◌, ℕ, List, length, slice_get, Option, Some}
use Rattle.journal.specs.Journals.{IsJournal}
use Rattle.journal.specs.Logs.{Log}
use Rattle.world.specs.declared.event.Message.{Message}
use Rattle.world.specs.declared.event.Reply.{Reply}
use Rattle.world.specs.declared.event.Reply.TheVariants.{Sent}
use Rattle.world.specs.Knowledge.{Knowledge}
use Rattle.world.specs.Represents.{Represents, log_at}
use Rattle.world.specs.Running.{Remember}
use Rattle.audit_replay.specs.Order.{Step}
use Rattle.audit_replay.specs.Interleaved.{Happened, IsMoment, known_before}

-- from a beginning on these steps happened, the vnodes are now these, their journals brought what was known before each step, and the reads among the steps answered
-- these messages
pub record IsSoFar (begin : Knowledge) (logs : List Log) (steps : List Step) (now : List Log) (messages : List (Option Message)) : Type 0 where
  pub replies : List Reply
  pub known : Knowledge
  pub happened : Happened begin logs steps replies known
  pub moments : (number : ℕ) (step : Step) → slice_get steps number ≡ Some step → IsMoment now step (known_before happened number)
  pub represents : Represents now known
  pub remember : Remember replies known
  pub len : length messages ≡ length replies
  pub sent : (k : ℕ) (m : Message) → slice_get messages k ≡ Some (Some m) → slice_get replies k ≡ Some (Sent m)

-- each is the journal of its vnode
abbrev pub AreLegal : List Log → Type 0
AreLegal logs = (index : ℕ) → index < length logs → IsJournal (log_at logs index).vnode (log_at logs index).entries
