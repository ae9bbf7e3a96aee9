-- Workers over one cluster: where their keys stand (this store's profile).
use Rattle.std.specs.Prelude.{◌≡◌, ℕ, List, None}
use Rattle.std.specs.List.{All}
use Rattle.ring.specs.Places.{PlacementView}

-- keys stand at so many vnodes, each at the place that its digest names, with so many copies
abbrev pub by_digest : ℕ → ℕ → PlacementView
by_digest vnodes copies = record { vnodes = vnodes; copies = copies; first = None }

-- of all workers they do
abbrev pub AreAllPlaced : ℕ → ℕ → List PlacementView → Type 0
AreAllPlaced vnodes copies placements = All (λ placement. placement ≡ by_digest vnodes copies) placements
