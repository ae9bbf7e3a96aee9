-- What becomes of a worker's connections.
use Rattle.std.specs.Prelude.{◌≡◌, ℕ, Option}
use Rattle.http_request.specs.declared.ask.Call.{Call}
use Rattle.http_response.specs.declared.reply.Reply.{Reply}
use Rattle.http_connections.specs.Sockets.{Sockets}
use Rattle.http_connections.specs.Halls.{AllStand, Goes, Log, seat_at}
use Rattle.http_connections.specs.declared.seat.Seat.{Seat}
use Rattle.server_sockets.specs.Shows.{Shows}
use Rattle.server_sockets.specs.declared.worker.Worker.{Worker}

-- the seats of the connections of a worker
abbrev pub seats_of : Worker → ℕ → Option Seat
seats_of worker = seat_at worker.hall

-- its sockets came to this, as far as is known
abbrev pub shows : Worker → Sockets → Type 0
shows worker sockets = Shows worker.sockets.next sockets

-- no call was made, and all connections stand as before, or ended
abbrev pub Stays : Worker → Worker → Type 0
Stays old new =
    (copies : ℕ) (log : Log) (s : Sockets) → shows old s → AllStand copies log s (seats_of old)
    → (t : Sockets) × shows new t × AllStand copies log t (seats_of new)

module _ {B : Type 0} (gives : B → Call → Reply → B → Type 0) (copies : B → ℕ) where
  -- where all connections stood with a log of their calls, they stand again with a longer one: what is behind it are the calls that were made since, in order
  abbrev pub Works : Worker → Worker → B → B → Type 0
  Works old new from now =
      (copies now ≡ copies from)
      × ((log : Log) (s : Sockets) → shows old s → AllStand (copies from) log s (seats_of old)
      → (t : Sockets) × shows new t × Goes gives (copies from) log from now t (seats_of new))
