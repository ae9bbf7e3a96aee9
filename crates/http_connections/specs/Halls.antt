-- A worker with many connections: one log of calls for all of them.
use Rattle.std.specs.Prelude.{◌≡◌, ◌≢◌, ℕ, ◌==◌, ◌<◌, ◌≤◌, ◌⊎◌, cond, length, slice_index, is_some, Bool, List, [], ◌∷◌, ◌++◌, Option, Some, None, Result, Ok, Err}
use Rattle.std.specs.BTreeMap.{get}
use Rattle.std.specs.Ordering.{nat_cmp}
use Rattle.http_request.specs.declared.ask.Call.{Call}
use Rattle.http_response.specs.declared.reply.Reply.{Reply}
use Rattle.http_connection.specs.Dialogue.{Exchange, Runs}
use Rattle.http_connection.specs.declared.device.Failed.{Failed}
use Rattle.http_connection.specs.declared.fault.FrontFault.TheVariants as fault
use Rattle.http_connections.specs.Sockets.{State, not_yet, here, gone, Socket, Sockets, OnlyAt, IsReported, unborn, after_accept, after_close}
use Rattle.http_connections.specs.Spoken.{Serves, Ends, Rests}
use Rattle.http_connections.specs.declared.socket_ring.Closing.TheVariants.{Broken}
use Rattle.http_connections.specs.declared.seat.Seat.{Seat}
use Rattle.http_connections.specs.declared.hall.Hall.{Hall}

-- the calls of all connections in the order in which they were made, each with the number of its connection
abbrev pub Log : Type 0
Log = List (ℕ × Exchange)

-- the exchanges of one connection
abbrev pub part : ℕ → Log → List Exchange
part n [] = []
part n (e ∷ log) = cond (e.0 == n) (e.1 ∷ part n log) (part n log)

-- those of all
abbrev pub all_parts : Log → List Exchange
all_parts [] = []
all_parts (e ∷ log) = e.1 ∷ all_parts log

-- the seat of a connection
abbrev pub seat_at : Hall → ℕ → Option Seat
seat_at hall n = get nat_cmp hall.seats.by_number n

-- what is known of a connection: it didn't come yet; or it is here, its exchanges are the requests of what was heard so far, and nothing but
-- its client holds it up, or it was reported and not attended yet; or it ended, in order or not
abbrev pub Stands : ℕ → State → Option Seat → Socket → List Exchange → Type 0
Stands copies not_yet seat s xs = (s ≡ unborn) × (seat ≡ None) × (xs ≡ [])
Stands copies here seat s xs = (it : Seat) × (seat ≡ Some it) × Serves copies it s xs × (Rests it s ⊎ IsReported s)
Stands copies (gone closing) seat s xs = (seat ≡ None) × Ends copies closing s xs

-- so with every connection, each with its part of the log
abbrev pub AllStand : ℕ → Log → Sockets → (ℕ → Option Seat) → Type 0
AllStand copies log sockets seats = (n : ℕ) → Stands copies (sockets n).state (seats n) (sockets n) (part n log)

-- if it is here, nothing but its client holds it up
abbrev pub RestsAt : ℕ → Sockets → (ℕ → Option Seat) → Type 0
RestsAt n sockets seats = (it : Seat) → seats n ≡ Some it → Rests it (sockets n)

-- all do but those that stand among these from a place on
abbrev pub AllRestBut : List ℕ → ℕ → Sockets → (ℕ → Option Seat) → Type 0
AllRestBut reported from sockets seats =
    (n : ℕ) (it : Seat) → seats n ≡ Some it → Rests it (sockets n) ⊎ ((k : ℕ) × (from ≤ k) × (k < length reported) × (slice_index reported k ≡ n))

-- nobody but this connection has a part of it
abbrev pub IsOfOne : ℕ → Log → Type 0
IsOfOne n log = (m : ℕ) → m ≢ n → part m log ≡ []

-- the calls of these exchanges were made since, in order, and each connection's part of the longer log is its own
module _ {B : Type 0} (gives : B → Call → Reply → B → Type 0) (copies : ℕ) (log : Log) where
  pub record Goes (from now : B) (sockets : Sockets) (seats : ℕ → Option Seat) : Type 0 where
    pub made : Log
    pub runs : Runs gives from (all_parts made) now
    pub each : AllStand copies (log ++ made) sockets seats

module _ {B : Type 0} (gives : B → Call → Reply → B → Type 0) (copies : B → ℕ) where
  -- the backend went through the calls of one log, in order, and each connection's part of the log is its own
  pub record HallStands (start now : B) (sockets : Sockets) (seats : ℕ → Option Seat) : Type 0 where
    pub same : copies now ≡ copies start
    pub log : Log
    pub runs : Runs gives start (all_parts log) now
    pub each : AllStand (copies start) log sockets seats

-- no other seat than that of n is touched
abbrev pub OnlySeat : ℕ → (ℕ → Option Seat) → (ℕ → Option Seat) → Type 0
OnlySeat n old new = (m : ℕ) → m ≢ n → new m ≡ old m

-- what becomes of the connection that an accept answered: it is here and has its seat, or there was no memory for it and it is gone; no other
-- is touched
abbrev pub Greets : Result (Option ℕ) Failed → Sockets → Sockets → (ℕ → Option Seat) → Type 0
Greets (Ok (Some n)) old new seats =
    (old n ≡ unborn) × OnlyAt n old new
    × (((new n ≡ after_accept unborn) × (it : Seat) × (seats n ≡ Some it)) ⊎ (new n ≡ after_close (Broken fault.NoMemory) (after_accept unborn)))
Greets (Ok None) old new seats = new ≡ old
Greets (Err failed) old new seats = new ≡ old

-- whether one came
abbrev pub comes_to : Result (Option ℕ) Failed → Result Bool Failed
comes_to (Ok answer) = Ok (is_some answer)
comes_to (Err failed) = Err failed
