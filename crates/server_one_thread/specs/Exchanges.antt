-- What the answers on a connection to a store of one thread tell, by what happened to it so far.
use Rattle.std.specs.Prelude.{◌≡◌, ℕ, List, ◌++◌, Ok, Option}
use Rattle.hook_registry.specs.Changes.{Change}
use Rattle.hook_registry.specs.Tables.{Shows}
use Rattle.http_request.specs.declared.ask.Call.{Call}
use Rattle.http_request.specs.declared.ask.Call.TheVariants as ask
use Rattle.http_response.specs.declared.reply.Reply.{Reply}
use Rattle.http_response.specs.declared.reply.Reply.TheVariants.{Got, Stored}
use Rattle.http_connection.specs.Dialogue.{Completes, BreaksOff}
use Rattle.peers.specs.Locals.{LocalStep}
use Rattle.ring.specs.Places.{copies_in}
use Rattle.server_store.specs.Gives.{Gives}
use Rattle.server_one_thread.specs.Hooks.{FindsAt, NamesAt, TakesAt}
use Rattle.server_one_thread.specs.Journals.{AreJournals, GoOn}
use Rattle.server_one_thread.specs.Past.{Now, Past, past}
use Rattle.server_one_thread.specs.Reads.{IsCurrent}
use Rattle.server_one_thread.specs.Writes.{IsStored}

-- what a read that found, and a write that went through, tell of the writes
abbrev pub Tells : Past → Past → Call → Reply → Type 0
Tells old new (ask.Get key r at) (Got (Ok state)) = IsCurrent old new key r at state
Tells old new (ask.Put key seen content w at) (Stored (Ok dot)) = IsStored old new key seen w at dot
Tells old new call reply = Unit {0}

-- a call on a store with this past is answered so: each hook that is used or told is that of the changes so far, a change that is
-- answered comes behind them, and what is told of the writes is what the journals so far say
pub record Answers (old : Past) (call : Call) (reply : Reply) (new : Past) : Type 0 where
  pub gives : Gives LocalStep FindsAt NamesAt TakesAt old new call reply
  pub tells : Tells old new call reply

-- what a store is after some exchanges: its hooks are those of all changes, of which those before are the front, and its vnodes have
-- journals, of which those before are the fronts
pub record Follows (old new : Now) (changes after : List Change) : Type 0 where
  pub made : List Change
  pub behind : after ≡ changes ++ made
  pub shows : Shows after new.hooks
  pub are : AreJournals new.peers.logs
  pub go_on : GoOn old.peers.logs new.peers.logs

-- all requests of the bytes were answered, each by the changes and the journals so far
abbrev pub Serves : List ℕ → Now → Now → List Change → List ℕ → Option (List ℕ) → ℕ → Type 0
Serves bytes old new changes before written count =
    (after : List Change) × Completes Answers (copies_in old.placement) bytes (past old changes) (past new after) before written count × Follows old new changes after

-- the connection broke off: so were those of a front of the bytes, and a front of the answers was written
abbrev pub ServesFront : List ℕ → Now → Now → List Change → List ℕ → Option (List ℕ) → Type 0
ServesFront bytes old new changes before written =
    (after : List Change) × BreaksOff Answers (copies_in old.placement) bytes (past old changes) (past new after) before written × Follows old new changes after
