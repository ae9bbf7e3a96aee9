-- What contracts see of one connection.
use Rattle.std.specs.Prelude.{ℕ, List, Bool}

-- the bytes that came and wait to be read, and whether they are worth a look; the answers that wait to be written; and the room of the
-- buffers that hold both, in bytes
pub record Talking : Type 0 where
  pub waits : List ℕ
  pub is_due : Bool
  pub unsent : List ℕ
  pub room : ℕ
