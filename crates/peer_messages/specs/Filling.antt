-- Parts as states: tombstones in place of contents that were left out.
use Rattle.std.specs.Prelude.{List, [], ◌∷◌, Option, Some, None, if◌then◌else◌, is_some, map}
use Rattle.std.specs.List.{flat_map}
use Rattle.dvv.specs.declared.Dot.{Dot}
use Rattle.key_state.specs.declared.content.Content.{Content}
use Rattle.key_state.specs.declared.content.Content.TheVariants.{Tombstone}
use Rattle.key_state.specs.declared.content.Sibling.{Sibling}
use Rattle.key_state.specs.declared.part.PartSibling.{PartSibling}

-- a dot alone, as a sibling without a value
abbrev pub bare : Dot → Sibling
bare d = record { dot = d; content = Tombstone }

abbrev pub content_or_none : Option Content → Content
content_or_none None = Tombstone
content_or_none (Some c) = c

-- a sibling of a part, a tombstone where its content was left out
abbrev pub filled : PartSibling → Sibling
filled s = record { dot = s.dot; content = content_or_none s.content }

-- a sibling whose content was left out, and no other
abbrev pub bare_of : PartSibling → List Sibling
bare_of s = if is_some s.content then [] else (bare s.dot ∷ [])

abbrev pub bare_siblings : List PartSibling → List Sibling
bare_siblings ss = flat_map bare_of ss

-- the dots whose contents were left out
abbrev pub left_out : List PartSibling → List Dot
left_out ss = map (λ s. s.dot) (bare_siblings ss)
