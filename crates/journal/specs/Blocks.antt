-- Entries in blocks of 1,024, of which the last alone may have room.
use Rattle.std.specs.Prelude.{◌≡◌, ℕ, ◌-◌, ◌≤◌, List, ◌++◌, length, min, drop, All}
use Rattle.std.specs.List.{flat_map}
use Rattle.std.specs.Global.{Vec}
use Rattle.journal.specs.Entry.{Entry}

abbrev pub IsFullBlock : Vec Entry → Type 0
IsFullBlock block = length block.items ≡ 1024

-- the entries of some blocks
abbrev pub all_of : List (Vec Entry) → List Entry
all_of blocks = flat_map (λ block. block.items) blocks

-- the entries of full blocks and of the block behind them
abbrev pub in_blocks : List (Vec Entry) → List Entry → List Entry
in_blocks closed last = all_of closed ++ last

-- each block is full, but the last
abbrev pub AreBlocks : List (Vec Entry) → List Entry → Type 0
AreBlocks closed last = All IsFullBlock closed × (length last ≤ 1024)

-- how many entries a block takes that has so much room and holds so many
abbrev pub room_in : ℕ → ℕ → ℕ
room_in capacity held = min capacity 1024 - held

-- entries, and how many can be added before room has to grow
pub record Held : Type 0 where
  pub entries : List Entry
  pub room : ℕ

-- of a journal's entries: from a place on they are those of full blocks, and less than a block is left behind them
pub record AreHandedOut (entries : List Entry) (first : ℕ) (blocks : List (Vec Entry)) : Type 0 where
  pub within : first ≤ length entries
  pub full : All IsFullBlock blocks
  pub rest : List Entry
  pub few : length rest ≤ 1024
  pub next : drop first entries ≡ all_of blocks ++ rest
