-- The rows that a window lays out are those that are read there.
use Rattle.std.proofs.Common.{Bool, ◌≡◌, ℕ, suc, ◌+◌, ◌*◌, ◌<◌, ◌≤◌, ◌^◌, true, List, [], ◌∷◌, ◌++◌, length, drop, take, refl, sym, ap, ◌∙◌, arith}
use Rattle.std.specs.Prelude.{nat_le, ◌&&◌, if◌then◌else◌}
use Rattle.std.specs.Int.{w32, w64, to_le_bytes, from_le_bytes}
use Rattle.std.proofs.lemmas.Nat.{from_le_bytes-to_le_bytes_4, from_le_bytes-to_le_bytes_8}
use Rattle.std.proofs.lemmas.Bool.{cond_both, cond-true, le-leb}
use Rattle.std.proofs.lemmas.List.{drop-drop}
use Rattle.bpf_semantics.specs.Windows.{little_endian}
use Rattle.bpf_helpers.specs.declared.layout.Row.{Row}
use Rattle.bpf_helpers.specs.Layout.{field_at, row_at, rows_from, rows_of, row_bytes, ShowRows, LaysOut, AreRows}

four : (a b c d : ℕ) → little_endian (a ∷ b ∷ c ∷ d ∷ []) ≡ from_le_bytes w32 (a ∷ b ∷ c ∷ d ∷ [])
four a b c d = omega arith

eight : (a b c d e f g h : ℕ) → little_endian (a ∷ b ∷ c ∷ d ∷ e ∷ f ∷ g ∷ h ∷ []) ≡ from_le_bytes w64 (a ∷ b ∷ c ∷ d ∷ e ∷ f ∷ g ∷ h ∷ [])
eight a b c d e f g h = omega arith

word_spelled : (v : ℕ) → v < 2 ^ 32 → little_endian (to_le_bytes w32 v) ≡ v
word_spelled v h = four _ _ _ _ ∙ from_le_bytes-to_le_bytes_4 v h

number_spelled : (v : ℕ) → v < 2 ^ 64 → little_endian (to_le_bytes w64 v) ≡ v
number_spelled v h = eight _ _ _ _ _ _ _ _ ∙ from_le_bytes-to_le_bytes_8 v h

-- the row that stands from a place on
row_there : (layout : List ℕ) (k : ℕ) (r : Row) (flags place len : ℕ) (more : List ℕ) → r.vnode < 2 ^ 32 → r.n < 2 ^ 64 → drop (16 + 24 * k) layout ≡ row_bytes r flags place len ++ more → row_at layout k ≡ r
row_there layout k r flags place len more small_vnode small_n e =
    let at = 16 + 24 * k in
    let vnode : field_at layout at 4 ≡ r.vnode = ap (λ bs. little_endian (take 4 bs)) e ∙ word_spelled r.vnode small_vnode in
    let after : drop (at + 8) layout ≡ drop 8 (row_bytes r flags place len ++ more) = sym (drop-drop 8 at layout) ∙ ap (drop 8) e in
    let n : field_at layout (at + 8) 8 ≡ r.n = ap (λ bs. little_endian (take 8 bs)) after ∙ number_spelled r.n small_n in
    let with_vnode : ℕ → Row = λ v. record { vnode = v; n = field_at layout (at + 8) 8 } in
    let with_n : ℕ → Row = λ v. record { vnode = r.vnode; n = v } in
    ap with_vnode vnode ∙ ap with_n n

rows_there : (layout : List ℕ) (k : ℕ) (rows : List Row) (more : List ℕ) → drop (16 + 24 * k) layout ≡ more → ShowRows rows more → AreRows rows → rows_from layout k (length rows) ≡ rows
rows_there layout k [] more e shows small = refl
rows_there layout k (r ∷ rows) more e shows small =
    let here : drop (16 + 24 * k) layout ≡ row_bytes r shows.0 shows.1 shows.2 ++ shows.3 = e ∙ shows.4 in
    let fits : (r.vnode < 2 ^ 32) × (r.n < 2 ^ 64) = small 0 r (omega arith) in
    let row = row_there layout k r shows.0 shows.1 shows.2 shows.3 fits.0 fits.1 here in
    let further : 16 + 24 * (k + 1) ≡ (16 + 24 * k) + 24 = omega arith in
    let next : drop (16 + 24 * (k + 1)) layout ≡ shows.3 = ap (λ n. drop n layout) further ∙ sym (drop-drop 24 (16 + 24 * k) layout) ∙ ap (drop 24) here in
    ap (λ x. x ∷ rows_from layout (k + 1) (length rows)) row
    ∙ ap (λ xs. r ∷ xs) (rows_there layout (k + 1) rows shows.3 next shows.5 (λ j d below. small (suc j) d (omega arith)))

rows_long : (rows : List Row) (bytes : List ℕ) → ShowRows rows bytes → 24 * length rows ≤ length bytes
rows_long [] bytes shows = omega arith
rows_long (r ∷ rows) bytes shows = let rest = rows_long rows shows.3 shows.5 in omega (arith, ap length shows.4, rest)

and_four : (a b c d : Bool) → a ≡ true → b ≡ true → c ≡ true → d ≡ true → (a && b && c && d) ≡ true
and_four a b c d e f g h = rw (e, f, g, h) refl

-- the rows that are read where so many are said to stand
abbrev read_rows : List ℕ → ℕ → List Row
read_rows window count =
    if nat_le 16 (length window) && nat_le 1 count && nat_le count 64 && nat_le (16 + 24 * count) (length window) then rows_from window 0 count else []

laid_rows : (window : List ℕ) (rows : List Row) → LaysOut window rows → AreRows rows → length rows ≤ 64 → read_rows window (length rows) ≡ rows
laid_rows window [] laid small few = cond_both _ _ _ (λ xs. xs ≡ []) (λ _. refl) (λ _. refl)
laid_rows window (r ∷ rows) laid small few =
    let long : 16 + 24 * length (r ∷ rows) ≤ length window = omega (arith, ap length laid.4, rows_long (r ∷ rows) laid.3 laid.5) in
    let is = and_four _ _ _ _ (le-leb 16 (length window) (omega arith)) (le-leb 1 (length (r ∷ rows)) (omega arith)) (le-leb (length (r ∷ rows)) 64 few) (le-leb (16 + 24 * length (r ∷ rows)) (length window) long) in
    cond-true _ _ _ is ∙ rows_there window 0 (r ∷ rows) laid.3 (ap (drop 16) laid.4) laid.5 small

pub laid : (window : List ℕ) (rows : List Row) → LaysOut window rows → AreRows rows → length rows ≤ 64 → rows_of window ≡ rows
laid window rows out small few =
    let count : field_at window 4 4 ≡ length rows = ap (λ bs. little_endian (take 4 (drop 4 bs))) out.4 ∙ word_spelled (length rows) (omega (arith, few)) in
    ap (read_rows window) count ∙ laid_rows window rows out small few
