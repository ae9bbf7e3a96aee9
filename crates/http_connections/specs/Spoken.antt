-- What one connection came to, and what a worker's piece of work makes of it.
use Rattle.std.specs.Prelude.{◌≡◌, ℕ, ◌<◌, ◌≤◌, ◌⊎◌, Bool, true, List, [], ◌∷◌, ◌++◌, Option, Some, None, Result, Ok, Err}
use Rattle.http_request.specs.Ask.{IsUnfinished}
use Rattle.http_request.specs.declared.ask.Call.{Call}
use Rattle.http_response.specs.declared.reply.Reply.{Reply}
use Rattle.http_connection.specs.declared.fault.FrontFault.{FrontFault}
use Rattle.http_connection.specs.declared.fault.FrontFault.TheVariants as fault
use Rattle.http_connection.specs.Dialogue.{Exchange, Talks, Runs, answers_of}
use Rattle.http_connection.specs.Pending.{IsPending}
use Rattle.http_connections.specs.Sockets.{Socket, Sockets, OnlyAt}
use Rattle.http_connections.specs.declared.socket_ring.Closing.{Closing}
use Rattle.http_connections.specs.declared.socket_ring.Closing.TheVariants.{InOrder, Broken, GivenUp}
use Rattle.http_connections.specs.declared.socket_ring.Heard.{Heard}
use Rattle.http_connections.specs.declared.socket_ring.Heard.TheVariants as heard
use Rattle.http_connections.specs.declared.socket_ring.Told.{Told}
use Rattle.http_connections.specs.declared.socket_ring.Told.TheVariants as told
use Rattle.http_connections.specs.declared.seat.Phase.{Phase}
use Rattle.http_connections.specs.declared.seat.Phase.TheVariants as phase
use Rattle.http_connections.specs.declared.seat.Round.{Round}
use Rattle.http_connections.specs.declared.seat.Round.TheVariants as round
use Rattle.http_connections.specs.declared.seat.Seat.{Seat}
use Rattle.http_connections.specs.declared.seat.Standing.{Standing}
use Rattle.http_connections.specs.declared.seat.Standing.TheVariants.{Idle, Asking, Telling}

-- a read gave one byte at least, and no more than there is room for
abbrev pub FitsHeard : ℕ → Heard → Type 0
FitsHeard room (heard.Bytes n) = (0 < n) × (n ≤ room)
FitsHeard room heard.End = Unit {0}
FitsHeard room heard.NotNow = Unit {0}

-- a write took one byte at least, and no more than there are
abbrev pub FitsTold : ℕ → Told → Type 0
FitsTold len (told.Bytes n) = (0 < n) × (n ≤ len)
FitsTold len told.NotNow = Unit {0}

-- what a fault says of a connection: a call on it failed, or memory was wanting
abbrev pub Blames : FrontFault → Bool → Type 0
Blames fault.Read has_failed = has_failed ≡ true
Blames fault.Write has_failed = has_failed ≡ true
Blames fault.NoMemory has_failed = Unit {0}

-- so many copies of each key
module _ (copies : ℕ) where
  -- the exchanges are those of all requests of what was heard, in order: the last one ends the connection, whatever comes behind what was heard; or the input ended
  -- before a whole one more
  abbrev pub IsOverAt : List ℕ → Bool → List Exchange → Type 0
  IsOverAt heard has_ended xs = ((more : List ℕ) → Talks copies (heard ++ more) xs []) ⊎ ((has_ended ≡ true) × (after : List ℕ) × Talks copies heard xs after × IsUnfinished after)

  -- the exchanges are those of the requests of what was heard, in order. Of an open connection what waits is left to read, whatever comes
  -- behind it; of one that closes no request is left
  abbrev pub Reads : Phase → List ℕ → List ℕ → Bool → List Exchange → Type 0
  Reads phase.Open waits heard has_ended xs = (more : List ℕ) → Talks copies (heard ++ more) xs (waits ++ more)
  Reads phase.Ended waits heard has_ended xs = ((more : List ℕ) → Talks copies (heard ++ more) xs (waits ++ more)) × (has_ended ≡ true)
  Reads phase.Closing waits heard has_ended xs = IsOverAt heard has_ended xs

  -- the same, and their answers are what was written and what waits to be
  pub record Speaks (p : Phase) (waits out : List ℕ) (s : Socket) (xs : List Exchange) : Type 0 where
    pub reads : Reads p waits s.heard s.has_ended xs
    pub answers : answers_of copies xs ≡ s.written ++ out

  -- the exchanges are those of all requests of what was heard, and all their answers were written
  pub record Completes (s : Socket) (xs : List Exchange) : Type 0 where
    pub over : IsOverAt s.heard s.has_ended xs
    pub answers : answers_of copies xs ≡ s.written

  -- the exchanges are those of a front of what was heard, and a front of their answers was written
  pub record BreaksOff (why : FrontFault) (s : Socket) (xs : List Exchange) : Type 0 where
    pub after : List ℕ
    pub talks : Talks copies s.heard xs after
    pub rest : List ℕ
    pub answers : answers_of copies xs ≡ s.written ++ rest
    pub blames : Blames why s.has_failed

  -- the same of one that was given up
  pub record IsGivenUp (s : Socket) (xs : List Exchange) : Type 0 where
    pub after : List ℕ
    pub talks : Talks copies s.heard xs after
    pub rest : List ℕ
    pub answers : answers_of copies xs ≡ s.written ++ rest

  abbrev pub Ends : Closing → Socket → List Exchange → Type 0
  Ends InOrder s xs = Completes s xs
  Ends (Broken why) s xs = BreaksOff why s xs
  Ends GivenUp s xs = IsGivenUp s xs

  abbrev pub Serves : Seat → Socket → List Exchange → Type 0
  Serves seat s xs = Speaks seat.phase seat.talk.waits seat.talk.unsent s xs

-- what a connection waits for: its client takes no more of the answers that wait, or sends no more of a request, or asks nothing
abbrev pub waiting_for : (unsent waits : List ℕ) → Standing
waiting_for (b ∷ unsent) waits = Telling
waiting_for [] (b ∷ waits) = Asking
waiting_for [] [] = Idle

abbrev pub standing_of : Seat → Standing
standing_of seat = waiting_for seat.talk.unsent seat.talk.waits

-- nothing holds the connection up but its client: it takes nothing now, or it is open, its answers are all written, no whole request waits
-- and nothing is there to be read; or it will be reported once more
abbrev pub IsAnswered : Phase → List ℕ → List ℕ → Socket → Type 0
IsAnswered phase.Open waits out s = (s.is_dry ≡ true) × (out ≡ []) × IsPending waits
IsAnswered phase.Ended waits out s = ⊥
IsAnswered phase.Closing waits out s = ⊥

abbrev pub Rests : Seat → Socket → Type 0
Rests seat s = (s.is_called ≡ true) ⊎ (s.is_stuffed ≡ true) ⊎ IsAnswered seat.phase seat.talk.waits seat.talk.unsent s

module _ (copies : ℕ) where
  -- after one round the connection goes on, rests, or ends
  abbrev pub Left : Result Round FrontFault → Seat → Socket → List Exchange → Type 0
  Left (Ok round.Again) seat s xs = Serves copies seat s xs
  Left (Ok round.Rests) seat s xs = Serves copies seat s xs × Rests seat s
  Left (Ok round.Done) seat s xs = Completes copies s xs
  Left (Err why) seat s xs = BreaksOff copies why s xs

  -- after a piece of work it rests, or ends so
  abbrev pub Attended : Option Closing → Seat → Socket → List Exchange → Type 0
  Attended None seat s xs = Serves copies seat s xs × Rests seat s
  Attended (Some closing) seat s xs = Ends copies closing s xs

-- no other connection was touched, and this one came to that
pub record Moves (shows : Sockets → Type 0) (n : ℕ) (old : Sockets) (P : Socket → Type 0) : Type 0 where
  pub new : Sockets
  pub shown : shows new
  pub only : OnlyAt n old new
  pub state : (new n).state ≡ (old n).state
  pub to : P (new n)

-- the same, and these calls were made for it, in order, and no others
module _ {B : Type 0} (gives : B → Call → Reply → B → Type 0) where
  pub record Attends (shows : Sockets → Type 0) (n : ℕ) (old : Sockets) (from now : B) (xs : List Exchange) (P : Socket → List Exchange → Type 0) : Type 0 where
    pub new : Sockets
    pub shown : shows new
    pub only : OnlyAt n old new
    pub state : (new n).state ≡ (old n).state
    pub made : List Exchange
    pub runs : Runs gives from made now
    pub to : P (new n) (xs ++ made)
