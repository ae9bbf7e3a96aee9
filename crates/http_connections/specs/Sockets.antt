-- The sockets of one worker: what reads gave and writes took so far, connection by connection.
use Rattle.std.specs.Prelude.{◌≡◌, ◌≢◌, ℕ, ◌==◌, cond, Bool, true, false, List, [], ◌++◌, take, Option, Some, None, Result, Ok, Err}
use Rattle.http_connection.specs.declared.device.Failed.{Failed}
use Rattle.http_connections.specs.declared.socket_ring.Closing.{Closing}
use Rattle.http_connections.specs.declared.socket_ring.Heard.{Heard}
use Rattle.http_connections.specs.declared.socket_ring.Heard.TheVariants as heard
use Rattle.http_connections.specs.declared.socket_ring.Told.{Told}
use Rattle.http_connections.specs.declared.socket_ring.Told.TheVariants as told

-- where a connection stands: it did not come yet, it is here, or it was closed so
pub data State : Type 0 where
  not_yet : State
  here : State
  gone : Closing → State

-- one connection
pub record Socket : Type 0 where
  pub state : State
  -- the bytes that reads gave, and those that writes took
  pub heard : List ℕ
  pub written : List ℕ
  -- the last read answered that nothing is there now, the last write that nothing is taken now
  pub is_dry : Bool
  pub is_stuffed : Bool
  -- it is reported once more, and was not read nor written since that was asked
  pub is_called : Bool
  -- a read answered that nothing comes any more
  pub has_ended : Bool
  -- a call on it failed
  pub has_failed : Bool

-- the connections by their numbers
abbrev pub Sockets : Type 0
Sockets = ℕ → Socket

-- of which none came yet
abbrev pub unborn : Socket
unborn = record { state = not_yet; heard = []; written = []; is_dry = false; is_stuffed = false; is_called = false; has_ended = false; has_failed = false }

-- nothing holds it: when the ring last reported it, what its last read and write had answered no longer counted
pub record IsReported (s : Socket) : Type 0 where
  pub dry : s.is_dry ≡ false
  pub stuffed : s.is_stuffed ≡ false
  pub called : s.is_called ≡ false

-- no other connection than n is touched
abbrev pub OnlyAt : ℕ → Sockets → Sockets → Type 0
OnlyAt n old new = (m : ℕ) → m ≢ n → new m ≡ old m

-- the connection n becomes f of it, and no other is touched
pub record Changes (n : ℕ) (f : Socket → Socket) (old new : Sockets) : Type 0 where
  pub there : new n ≡ f (old n)
  pub only : OnlyAt n old new

-- what the connections are where n became f of it
abbrev pub changed_at : ℕ → (Socket → Socket) → Sockets → Sockets
changed_at n f old m = cond (m == n) (f (old m)) (old m)

-- a connection that just came: it will be reported
abbrev pub after_accept : Socket → Socket
after_accept s = record s { state = here; is_called = true }

-- after a read of these bytes
abbrev pub after_read : Result Heard Failed → List ℕ → Socket → Socket
after_read (Ok (heard.Bytes n)) buf s = record s { heard = s.heard ++ take n buf; is_dry = false; is_called = false }
after_read (Ok heard.End) buf s = record s { has_ended = true; is_called = false }
after_read (Ok heard.NotNow) buf s = record s { is_dry = true; is_called = false }
after_read (Err failed) buf s = record s { has_failed = true; is_called = false }

-- after a write of a front of these bytes
abbrev pub after_write : Result Told Failed → List ℕ → Socket → Socket
after_write (Ok (told.Bytes n)) bytes s = record s { written = s.written ++ take n bytes; is_stuffed = false; is_called = false }
after_write (Ok told.NotNow) bytes s = record s { is_stuffed = true; is_called = false }
after_write (Err failed) bytes s = record s { has_failed = true; is_called = false }

-- after it was asked to be reported once more
abbrev pub after_call : Result (Unit {0}) Failed → Socket → Socket
after_call (Ok done) s = record s { is_called = true }
after_call (Err failed) s = record s { has_failed = true }

abbrev pub after_close : Closing → Socket → Socket
after_close closing s = record s { state = gone closing }

-- what an accept answers: a connection that did not come before, or none
abbrev pub Accepts : Result (Option ℕ) Failed → Sockets → Sockets → Type 0
Accepts (Ok (Some n)) old new = (old n ≡ unborn) × Changes n after_accept old new
Accepts (Ok None) old new = new ≡ old
Accepts (Err failed) old new = new ≡ old
