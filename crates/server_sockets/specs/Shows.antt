-- What is known of the sockets of the system: which connections did not come yet.
use Rattle.std.specs.Prelude.{◌≡◌, ℕ, ◌-◌, ◌^◌, ◌<◌, ◌≤◌, Option, Some, None, Result, Ok, Err}
use Rattle.mio.specs.declared.net.stream.TcpStream.{TcpStream}
use Rattle.http_connection.specs.declared.device.Failed.{Failed}
use Rattle.http_connections.specs.Sockets.{Sockets, unborn}

-- no connection had the next number, or a greater one; all else may be so or otherwise
abbrev pub Shows : ℕ → Sockets → Type 0
Shows next sockets = (n : ℕ) → next ≤ n → n < 2 ^ 64 - 1 → sockets n ≡ unborn

-- where a connection waits, an accept answers it under the next number, or fails; where none does, it answers none
abbrev pub Answers : Option TcpStream → ℕ → Result (Option ℕ) Failed → Type 0
Answers (Some stream) next (Ok (Some n)) = n ≡ next
Answers (Some stream) next (Ok None) = ⊥
Answers (Some stream) next (Err failed) = Unit {0}
Answers None next (Ok (Some n)) = ⊥
Answers None next (Ok None) = Unit {0}
Answers None next (Err failed) = ⊥
