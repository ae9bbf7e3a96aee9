-- How many bytes contents have.
use Rattle.std.specs.Prelude.{ℕ, ◌+◌, length, min, sum_by}
use Rattle.key_state.specs.declared.content.Content.{Content}
use Rattle.key_state.specs.declared.content.Content.TheVariants.{Value, Tombstone}
use Rattle.key_state.specs.State.{State}

-- the most that are told: 2^64 - 1
abbrev pub most_bytes : ℕ
most_bytes = 18446744073709551615

-- those of a value and of its media type; a delete has none
abbrev pub content_bytes : Content → ℕ
content_bytes (Value media bytes) = min (length media + length bytes) most_bytes
content_bytes Tombstone = 0

-- those of a state's contents
abbrev pub state_bytes : State → ℕ
state_bytes state = min (sum_by (λ s. content_bytes s.content) state.siblings) most_bytes
