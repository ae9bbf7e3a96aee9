-- How many bytes contents have.
use Rattle.std.specs.Prelude.{ℕ}
use Rattle.key_state.specs.Sizes.{content_bytes, state_bytes}
use Rattle.journal.specs.Entry.{Entry, Put, Read, Merge, Restart}

-- those of what a put writes, or of the state that is merged
abbrev pub entry_bytes : Entry → ℕ
entry_bytes (Put stamp key seen content dot) = content_bytes content
entry_bytes (Merge stamp key from at state) = state_bytes state
entry_bytes (Read stamp key) = 0
entry_bytes (Restart stamp) = 0
