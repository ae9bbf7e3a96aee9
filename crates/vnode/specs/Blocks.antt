-- Items in the order in which they came, in blocks.
use Rattle.std.specs.Prelude.{◌≡◌, ◌≤◌, ◌-◌, ℕ, List, ◌++◌, length, min, vec_len, vec_capacity}
use Rattle.std.specs.List.{All, flat_map}
use Rattle.std.specs.Global.{Vec}

-- those of full blocks and of the one behind them
abbrev pub items_of : {X B : Type 0} → (B → List X) → List B → List X → List X
items_of items_in full last = flat_map items_in full ++ last

-- how many more can be added to a block before room has to grow
abbrev pub room_in : {X : Type 0} → Vec X → ℕ
room_in last = min (vec_capacity last) 128 - vec_len last

-- each of the full blocks has 128 items, and the one behind them no more
pub record AreBlocks {X B : Type 0} (items_in : B → List X) (full : List B) (last : List X) : Type 0 where
  pub all_full : All (λ block. length (items_in block) ≡ 128) full
  pub fits : length last ≤ 128
