-- What a reader knows once it was told of all changes, and of which it is told.
use Rattle.std.proofs.Common.{◌≡◌, ◌⊎◌, ◌++◌, List, sym, refl, ⊎_elim, subst}
use mathlib.Core.List.{IsPrefix}
use Rattle.hook_registry.specs.Changes.{Change}
use Rattle.shared_prefix.proofs.Prefixes.{prefix_whole, prefix_length, prefix_trans}

-- it knows what it was told, where that begins with all that it knew
pub learned : (old note new : List Change) → IsPrefix old note → (new ≡ old) ⊎ (new ≡ note) → IsPrefix note new → new ≡ note
learned old note new before one told =
    ⊎_elim (λ (same : new ≡ old). sym (prefix_whole note new told (prefix_length new note (subst (λ xs. IsPrefix xs note) (sym same) before)))) (λ (is : new ≡ note). is) one

-- what all changes begin with, they still begin with once there are more
pub begins_later : (known made more after : List Change) → IsPrefix known made → after ≡ made ++ more → IsPrefix known after
begins_later known made more after begins is =
    prefix_trans known made after begins (more, sym is)
