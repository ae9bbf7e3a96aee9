-- Bytes written one after another into a window.
use Rattle.std.specs.Prelude.{ℕ, ◌≡◌, ◌+◌, List, ◌++◌, length, take, drop}
use Rattle.hook_abi.specs.declared.writer.Writer.{Writer}

-- bytes stand behind what was written before, and the rest is as it was
pub record Writes (old new : Writer) (bytes : List ℕ) : Type 0 where
  pub lent : new.window.ghost_name ≡ old.window.ghost_name
  pub long : length new.window.now ≡ length old.window.now
  pub end : new.at ≡ old.at + length bytes
  pub front : take new.at new.window.now ≡ take old.at old.window.now ++ bytes
  pub rest : drop new.at new.window.now ≡ drop new.at old.window.now
