-- Sums of bytes stay below 2^127.
use Rattle.std.proofs.Common.{◌+◌, ◌*◌, ◌≤◌, List, [], ◌∷◌, length, arith}
use Rattle.std.specs.Prelude.{sum_by}
use Rattle.std.proofs.Math.Nat.{min-le_right}
use Rattle.std.proofs.lemmas.List.Sums.{sum_by-cons}
use Rattle.journal.specs.Entry.{Entry, Put, Read, Merge, Restart}
use Rattle.key_state.specs.declared.content.Content.{Content}
use Rattle.key_state.specs.declared.content.Content.TheVariants.{Value, Tombstone}
use Rattle.key_state.specs.Sizes.{content_bytes, most_bytes}
use Rattle.audit_replay.specs.Sizes.{entry_bytes}

of_content : (content : Content) → content_bytes content ≤ 18446744073709551615
of_content (Value media bytes) = min-le_right (length media + length bytes) most_bytes
of_content Tombstone = omega arith

of_entry : (e : Entry) → entry_bytes e ≤ 18446744073709551615
of_entry (Put stamp key seen content dot) = of_content content
of_entry (Merge stamp key from at state) = min-le_right (sum_by (λ s. content_bytes s.content) state.siblings) most_bytes
of_entry (Read stamp key) = omega arith
of_entry (Restart stamp) = omega arith

-- each entry has at most 2^64 - 1
pub few_bytes : (entries : List Entry) → sum_by entry_bytes entries ≤ length entries * 18446744073709551615
few_bytes [] = omega arith
few_bytes (e ∷ es) = let rest = few_bytes es in let sum = sum_by-cons entry_bytes e es in let most = of_entry e in omega (arith, rest, sum, most)
