-- States in the order in which their keys came, in blocks.
use Rattle.std.specs.Prelude.{ℕ, List}
use Rattle.std.specs.Global.{Vec}
use Rattle.key_state.specs.State.{State}

-- the states of a block
abbrev pub states_in : Vec State → List State
states_in block = block.items

-- states, and how many can be added before room has to grow
pub record Stated : Type 0 where
  pub states : List State
  pub room : ℕ
