-- The answers of one worker that wait unsent, and when they are too many: this store's profile.
use Rattle.std.specs.Prelude.{◌≡◌, ◌≢◌, ℕ, ◌+◌, ◌<◌, max, List, [], ◌∷◌, length, option_map, unwrap_or}
use Rattle.std.specs.List.{sum_by}
use Rattle.std.specs.BTreeMap.{BTreeMap, get, values}
use Rattle.std.specs.Ordering.{nat_cmp}
use Rattle.http_connections.specs.declared.seat.Seat.{Seat}

-- with so many bytes unsent a worker is full: 64 MiB
abbrev pub full : ℕ
full = 67108864

-- so many are left where connections were closed to make room: half of that
abbrev pub half_full : ℕ
half_full = 33554432

-- how many bytes of a connection's answers wait
abbrev pub held : Seat → ℕ
held seat = length seat.talk.unsent

-- the most that one of these holds
abbrev pub most_held : List Seat → ℕ
most_held [] = 0
most_held (seat ∷ seats) = max (held seat) (most_held seats)

module _ (seats : BTreeMap ℕ Seat) where
  -- how many bytes of answers wait, of all connections together
  abbrev pub unsent_of : ℕ
  unsent_of = sum_by held (values seats)

  -- how many the connection n holds, if it is here
  abbrev pub held_at : ℕ → ℕ
  held_at n = unwrap_or (option_map held (get nat_cmp seats n)) 0

  -- fewer wait than fill a worker, but for those of the connection that holds most
  abbrev pub IsBounded : Type 0
  IsBounded = unsent_of < full + most_held (values seats)

-- no other seat than that of n is touched
abbrev pub OthersStay : ℕ → BTreeMap ℕ Seat → BTreeMap ℕ Seat → Type 0
OthersStay n old new = (m : ℕ) → m ≢ n → get nat_cmp new m ≡ get nat_cmp old m
