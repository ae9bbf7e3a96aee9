-- Where the keys of a shard stand on a ring of three vnodes, as far as it was told.
use Rattle.std.specs.Prelude.{◌≡◌, ◌≤◌, ℕ, List, Option, None, Some, length, slice_get}
use Rattle.key_state.specs.declared.content.Key.{Key}
use Rattle.ring.specs.Places.{ring_place}
use Rattle.vnode.specs.declared.ring_places.RingPlace.{RingPlace}
use Rattle.vnode.specs.declared.ring_places.RingPlace.TheVariants.{Untold, First, Second, Third}

-- the number of a place that was told, from 0 on
abbrev pub number : RingPlace → Option ℕ
number Untold = None
number First = Some 0
number Second = Some 1
number Third = Some 2

-- what was told are the places of these keys
pub record AreOf (told : List (Option ℕ)) (keys : List Key) : Type 0 where
  pub within : length told ≤ length keys
  pub each : (i p : ℕ) (k : Key) → slice_get told i ≡ Some (Some p) → slice_get keys i ≡ Some k → p ≡ ring_place k.bucket k.key
