-- How the thread that accepts bears that no connection can be taken, in milliseconds: this store's profile.
use Rattle.std.specs.Prelude.{ℕ, ◌+◌, ◌-◌, ◌*◌, ◌^◌, ◌==◌, ◌&&◌, max, min, nat_le, Bool, true, if◌then◌else◌, Option, Some, None}
use Rattle.server_accept.specs.declared.acceptor.Patience.{Patience}

-- how long it rests after one more failure in a row: twice as long each time, a millisecond at least and a second at most
abbrev pub rest_after : ℕ → ℕ
rest_after millis = min (max (2 * millis) 1) 1000

-- it told of none within the second before
abbrev pub may_tell : Option ℕ → ℕ → Bool
may_tell None now = true
may_tell (Some told) now = nat_le 1000 (now - told)

-- it tells of a failure that is the first in a row, where it may
abbrev pub tells : Patience → ℕ → Bool
tells patience now = (patience.millis == 0) && may_tell patience.told now

-- what it goes by after one more failure
abbrev pub borne : Patience → ℕ → Patience
borne patience now = record {
  millis = rest_after patience.millis;
  until = min (now + rest_after patience.millis) (2 ^ 64 - 1);
  told = if tells patience now then Some now else patience.told;
}
