-- A worker that nobody has taken yet.
use Rattle.std.specs.Prelude.{◌≡◌, ℕ, None}
use Rattle.http_connections.specs.Sockets.{Sockets, unborn}
use Rattle.server_sockets.specs.Work.{seats_of, shows}
use Rattle.server_sockets.specs.declared.worker.Worker.{Worker}

-- no connection ever came to it
abbrev pub HasHadNone : Worker → Type 0
HasHadNone worker = ((n : ℕ) → seats_of worker n ≡ None) × ((sockets : Sockets) → ((n : ℕ) → sockets n ≡ unborn) → shows worker sockets)
