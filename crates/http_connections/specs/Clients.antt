-- Clients in memory.
use Rattle.std.specs.Prelude.{◌≡◌, ◌≢◌, ℕ, List, [], slice_get, Option, Some, None, Result, Ok, Err}
use Rattle.http_connection.specs.declared.device.Failed.{Failed}
use Rattle.http_connections.specs.Sockets.{State, not_yet, here, gone, Socket, Sockets}
use Rattle.http_connections.specs.declared.clients.Client.{Client}
use Rattle.http_connections.specs.declared.clients.Stage.{Stage}
use Rattle.http_connections.specs.declared.clients.Stage.TheVariants as stage

-- where a client stands
abbrev pub state_of : Stage → State
state_of stage.NotYet = not_yet
state_of stage.Here = here
state_of (stage.Gone closing) = gone closing

-- its connection
abbrev pub socket_of : Client → Socket
socket_of c = record {
  state = state_of c.stage;
  heard = c.heard.items;
  written = c.written.items;
  is_dry = c.is_dry;
  is_stuffed = c.is_stuffed;
  is_called = c.is_called;
  has_ended = c.has_ended;
  has_failed = c.has_failed;
}

-- the connections of the clients are these, and of one that no client has nothing was read
pub record Shows (clients : List Client) (sockets : Sockets) : Type 0 where
  pub each : (n : ℕ) (c : Client) → slice_get clients n ≡ Some c → sockets n ≡ socket_of c
  pub nobody : (n : ℕ) → slice_get clients n ≡ None → (sockets n).heard ≡ []

-- an accept answers the next number, or none
abbrev pub IsNext : ℕ → Result (Option ℕ) Failed → Type 0
IsNext taken (Ok (Some n)) = n ≡ taken
IsNext taken (Ok None) = Unit {0}
IsNext taken (Err failed) = ⊥

-- the connection of the client i becomes f of it, and no other client is touched, nor does one go
pub record Alters (i : ℕ) (f : Socket → Socket) (old new : List Client) : Type 0 where
  pub there : (now : Client) → slice_get new i ≡ Some now → (c : Client) × (slice_get old i ≡ Some c) × (socket_of now ≡ f (socket_of c))
  pub others : (j : ℕ) → j ≢ i → slice_get new j ≡ slice_get old j
  pub absent : slice_get new i ≡ None → slice_get old i ≡ None
