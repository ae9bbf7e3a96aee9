-- How long clients may take, in milliseconds: this store's profile.
use Rattle.std.specs.Prelude.{◌-◌, ℕ, Bool, false, not, ◌&&◌, ◌||◌, nat_le, nat_lt, Option, Some, None}
use Rattle.http_connections.specs.declared.seat.Standing.{Standing}
use Rattle.http_connections.specs.declared.seat.Standing.TheVariants.{Idle, Asking, Telling}
use Rattle.server_sockets.specs.declared.watch.Watch.{Watch}

-- ten minutes without asking, a minute for a whole request, and a minute without taking anything of the answers that wait
abbrev pub most_of : Standing → ℕ
most_of Idle = 600000
most_of Asking = 60000
most_of Telling = 60000

-- whether a connection has had its time since its worker was told to stop: eight seconds
abbrev pub is_past_stop : Option ℕ → ℕ → Bool
is_past_stop None now = false
is_past_stop (Some stopped) now = nat_lt 8000 (now - stopped)

-- whether a worker was full for so long that it closes connections: a tenth of a second
abbrev pub is_past_full : Option ℕ → ℕ → Bool
is_past_full None now = false
is_past_full (Some since) now = nat_le 100 (now - since)

-- whether a connection's client is given up: the time that was left when its worker was told to stop is over, or it is read from and has
-- stood so for longer than it may
abbrev pub is_too_slow : Watch → Bool → Option ℕ → ℕ → Bool
is_too_slow watch is_held stopped now = is_past_stop stopped now || not is_held && nat_lt (most_of watch.standing) (now - watch.since)
