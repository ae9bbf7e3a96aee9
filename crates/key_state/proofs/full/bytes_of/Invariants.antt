use Rattle.std.proofs.Common.{◌≡◌, take, min}
use Rattle.std.specs.Prelude.{sum_by}
use Rattle.key_state.specs.Sizes.{content_bytes, most_bytes}
use Rattle.key_state.proofs.full.bytes_of.Given as goal

-- the bytes of the siblings so far
abbrev pub invariant-loop-sibling : goal.invariant-loop-sibling
invariant-loop-sibling l = l.bytes ≡ min (sum_by (λ s. content_bytes s.content) (take l.sibling-index l.siblings)) most_bytes
