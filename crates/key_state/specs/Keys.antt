-- What contracts see of a key.
use Rattle.std.specs.Prelude.{ℕ, List}

-- the bucket's bytes, and those of the key in it
pub record KeyParts : Type 0 where
  pub bucket : List ℕ
  pub key : List ℕ
