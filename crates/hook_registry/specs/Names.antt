-- What stands under names.
use Rattle.std.specs.Prelude.{ℕ, List, map}
use Rattle.std.specs.declared.vec.Vec.{Vec}
use Rattle.std.specs.Global.{Global}

-- values under names, each name seen as its bytes
abbrev pub by_bytes : {V : Type 0} → List (Vec ℕ Global × V) → List (List ℕ × V)
by_bytes entries = map (λ e. (e.0.items, e.1)) entries
