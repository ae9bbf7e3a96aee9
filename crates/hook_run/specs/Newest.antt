-- Which sibling is the newest, and where a hook's input shows it (this store's profile).
use Rattle.std.specs.Prelude.{ℕ, ◌+◌, List, map, position, Option, None, Some}
use Rattle.std.specs.Option.{option_map_or}
use Rattle.key_state.specs.declared.content.Content.{Content}
use Rattle.key_state.specs.declared.content.Sibling.{Sibling}
use Rattle.bpf_helpers.specs.declared.layout.Row.{Row}
use Rattle.bpf_helpers.specs.Layout.{is_newest}

-- what the order of siblings goes by
abbrev pub row_of : Sibling → Row
row_of s = record { vnode = s.dot.vnode; n = s.dot.n }

abbrev pub rows_of_siblings : List Sibling → List Row
rows_of_siblings ss = map row_of ss

-- the place of the newest sibling: the first that counts from 1 on and that none is newer than
abbrev pub newest_sibling : List Sibling → Option ℕ
newest_sibling siblings = position (λ s. is_newest (rows_of_siblings siblings) (row_of s)) siblings

-- the row that shows the sibling at a place: a new content's row stands before those of siblings
abbrev pub row_that_shows : Option Content → ℕ → ℕ
row_that_shows None place = place
row_that_shows (Some content) place = place + 1

-- the row of the newest sibling, and 64 where there is none
abbrev pub newest_row : Option Content → List Sibling → ℕ
newest_row new siblings = option_map_or (row_that_shows new) (newest_sibling siblings) 64
