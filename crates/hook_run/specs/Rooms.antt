-- The windows of hooks, which are kept from run to run (this store's profile).
use Rattle.std.specs.Prelude.{ℕ, ◌≡◌, ◌≤◌, ◌⊎◌, max}
use Rattle.bpf_verifier.specs.Program.{Program}

-- the lengths of the two windows
pub record Lengths : Type 0 where
  pub input : ℕ
  pub output : ℕ

-- none of the windows is shorter than a hook's
pub record HasRoomFor (room : Lengths) (hook : Program) : Type 0 where
  pub input : hook.in_len ≤ room.input
  pub output : hook.out_len ≤ room.output

-- none of the windows has shrunk
pub record IsKept (old new : Lengths) : Type 0 where
  pub input : old.input ≤ new.input
  pub output : old.output ≤ new.output

-- a room whose windows were grown to a hook's, where they were shorter
abbrev pub grown : Lengths → Program → Lengths
grown room hook = record { input = max room.input hook.in_len; output = max room.output hook.out_len }

-- a room whose windows could not all be grown: the output's is as it was, and the input's, which comes first, is or has grown
pub record IsPartlyGrown (old : Lengths) (hook : Program) (new : Lengths) : Type 0 where
  pub input : (new.input ≡ old.input) ⊎ (new.input ≡ max old.input hook.in_len)
  pub output : new.output ≡ old.output
