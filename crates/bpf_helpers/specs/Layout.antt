-- What the written helper answers of a hook's input (this store's profile): its newest sibling.
use Rattle.std.specs.Prelude.{ℕ, zero, suc, ◌≡◌, ◌<◌, ◌^◌, ◌+◌, ◌*◌, Bool, ◌&&◌, ◌||◌, not, ◌==◌, nat_le, nat_lt, All, List, [], ◌∷◌, ◌++◌, length, position, unwrap_or, if◌then◌else◌}
use Rattle.std.specs.Int.{w32, w64, to_le_bytes}
use Rattle.std.specs.List.{list_all}
use Rattle.bpf_semantics.specs.Windows.{little_endian, range}
use Rattle.bpf_helpers.specs.declared.layout.Row.{Row}

-- the number in a field of some bytes, from a place on
abbrev pub field_at : List ℕ → ℕ → ℕ → ℕ
field_at layout at size = little_endian (range layout at size)

-- A head of 16 bytes, which has the number of rows in its second word, and rows of 24 bytes after it: vnode, flags, n,
-- and a value's place and length.
abbrev pub row_at : List ℕ → ℕ → Row
row_at layout k = record { vnode = field_at layout (16 + 24 * k) 4; n = field_at layout (16 + 24 * k + 8) 8 }

-- the rows from the k-th on, so many of them
abbrev pub rows_from : List ℕ → ℕ → ℕ → List Row
rows_from layout k zero = []
rows_from layout k (suc count) = row_at layout k ∷ rows_from layout (k + 1) count

-- the rows of a layout that has 1 to 64 of them, all within it
abbrev pub is_layout : List ℕ → Bool
is_layout layout =
    let count = field_at layout 4 4 in
    nat_le 16 (length layout) && nat_le 1 count && nat_le count 64 && nat_le (16 + 24 * count) (length layout)

abbrev pub rows_of : List ℕ → List Row
rows_of layout = if is_layout layout then rows_from layout 0 (field_at layout 4 4) else []

-- the greater n, or the same and the greater vnode
abbrev pub is_newer : Row → Row → Bool
is_newer a b = nat_lt b.n a.n || (a.n == b.n && nat_lt b.vnode a.vnode)

-- a sibling that no row is newer than
abbrev pub is_newest : List Row → Row → Bool
is_newest rows r = not (r.n == 0) && list_all (λ other. not (is_newer other r)) rows

-- the index of the first such row, 64 where there is none
abbrev pub newest_of : List ℕ → ℕ
newest_of layout = let rows = rows_of layout in unwrap_or (position (is_newest rows) rows) 64

-- ---- bytes that lay out rows, as a hook's input does

-- a row: its vnode, flags, its n, and where its value stands and how long it is, all little-endian
abbrev pub row_bytes : Row → ℕ → ℕ → ℕ → List ℕ
row_bytes r flags place len = to_le_bytes w32 r.vnode ++ to_le_bytes w32 flags ++ to_le_bytes w64 r.n ++ to_le_bytes w32 place ++ to_le_bytes w32 len

-- the bytes begin with these rows, whatever the flags and the values are
abbrev pub ShowRows : List Row → List ℕ → Type 0
ShowRows [] bytes = Unit {0}
ShowRows (r ∷ rows) bytes = (flags place len : ℕ) × (more : List ℕ) × (bytes ≡ row_bytes r flags place len ++ more) × ShowRows rows more

-- a window with a head of four words, of which the second is the number of rows, and then these rows
abbrev pub LaysOut : List ℕ → List Row → Type 0
LaysOut window rows =
    (kind used zeros : ℕ) × (more : List ℕ)
    × (window ≡ to_le_bytes w32 kind ++ to_le_bytes w32 (length rows) ++ to_le_bytes w32 used ++ to_le_bytes w32 zeros ++ more) × ShowRows rows more

-- rows whose numbers fit their fields
abbrev pub AreRows : List Row → Type 0
AreRows rows = All (λ r. (r.vnode < 2 ^ 32) × (r.n < 2 ^ 64)) rows
