-- A full worker: how much of its answers may wait, and which connections it closes.
use Rattle.std.specs.Prelude.{◌≡◌, ℕ, ◌<◌, ◌≤◌, None}
use Rattle.std.specs.BTreeMap.{values}
use Rattle.http_connections.specs.Halls.{OnlySeat, seat_at}
use Rattle.http_connections.specs.Unsent.{IsBounded, full, half_full, most_held, unsent_of, held_at}
use Rattle.http_connections.specs.declared.hall.Hall.{Hall}

-- how many bytes of answers wait to be written, of all connections together
abbrev pub unsent_in : Hall → ℕ
unsent_in hall = unsent_of hall.seats.by_number

-- how many of them the connection n holds, if it is here
abbrev pub held_in : Hall → ℕ → ℕ
held_in hall n = held_at hall.seats.by_number n

-- fewer wait than fill a worker, but for those of the connection that holds most
abbrev pub IsWithin : Hall → Type 0
IsWithin hall = IsBounded hall.seats.by_number

-- no request is begun
abbrev pub IsFull : Hall → Type 0
IsFull hall = full ≤ unsent_in hall

-- no connection holds more of them than n does
abbrev pub HoldsMost : ℕ → Hall → Type 0
HoldsMost n hall = held_in hall n ≡ most_held (values hall.seats.by_number)

-- connections were closed one after the other, each where more than half of what fills a worker waited, and it was one that held most
pub data Sheds (old : Hall) : Hall → Type 0 where
  nobody : Sheds old old
  one_more : (mid new : Hall) (n : ℕ) → Sheds old mid → half_full < unsent_in mid → HoldsMost n mid → seat_at new n ≡ None
      → OnlySeat n (seat_at mid) (seat_at new) → Sheds old new
