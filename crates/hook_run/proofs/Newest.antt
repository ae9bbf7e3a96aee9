-- The rows that a hook's input shows, and the newest of them.
use Rattle.std.proofs.Common.{Bool, ◌≡◌, ℕ, suc, ◌+◌, ◌-◌, ◌*◌, ◌<◌, ◌≤◌, ◌^◌, true, false, List, [], ◌∷◌, ◌++◌, length, take, replicate, Option, None, Some, cond, refl, sym, ap, ◌∙◌, arith, append_assoc, lit<}
use Rattle.std.specs.Prelude.{All, nat_lt, not, ◌&&◌, ◌==◌, position, unwrap_or}
use Rattle.std.specs.List.{list_all, position_or_len}
use Rattle.std.specs.Option.{option_map_or}
use Rattle.std.proofs.Math.Seq.{take-append-add}
use Rattle.std.proofs.lemmas.Bool.{le-ltb}
use Rattle.std.proofs.lemmas.List.{length-map}
use Rattle.std.proofs.lemmas.List.Elements.{All-cons, All-map}
use Rattle.key_state.specs.declared.content.Content.{Content}
use Rattle.key_state.specs.declared.content.Sibling.{Sibling}
use Rattle.bpf_image.specs.declared.image.ImageKind.{ImageKind}
use Rattle.bpf_image.specs.Image.{kind_number}
use Rattle.hook_abi.specs.Input.{contents_shown, flag_of, head, row, rows, shown, used_by, values, values_at, window_of}
use Rattle.bpf_helpers.specs.declared.layout.Row.{Row}
use Rattle.bpf_helpers.specs.Layout.{AreRows, LaysOut, ShowRows, is_newer, is_newest, row_bytes}
use Rattle.hook_run.specs.Newest.{newest_row, row_of, rows_of_siblings}

-- the first n bytes of so many that stand in front, and of what follows them
taken : (n : ℕ) (front rest : List ℕ) → length front ≤ n → take n (front ++ rest) ≡ front ++ take (n - length front) rest
taken n front rest h = let split : n ≡ length front + (n - length front) = omega arith in ap (λ k. take k (front ++ rest)) split ∙ take-append-add front rest (n - length front)

-- ---- the rows

rows_shown : (ss : List Sibling) (offset n : ℕ) (rest : List ℕ) → 24 * length ss ≤ n → ShowRows (rows_of_siblings ss) (take n (rows offset ss ++ rest))
rows_shown [] offset n rest h = tt
rows_shown (s ∷ ss) offset n rest h =
    let next = offset + length (shown s.content) in
    let more = take (n - 24) (rows next ss ++ rest) in
    let here : take n (rows offset (s ∷ ss) ++ rest) ≡ row_bytes (row_of s) (flag_of s.content) offset (length (shown s.content)) ++ more = ap (take n) (append_assoc (row offset s) (rows next ss) rest) ∙ taken n (row offset s) (rows next ss ++ rest) (omega arith) in
    (flag_of s.content, offset, length (shown s.content), more, here, rows_shown ss next (n - 24) rest (omega arith))

pub laid_out : (len n : ℕ) (kind : ImageKind) (ss : List Sibling) → values_at ss ≤ n → LaysOut (take n (window_of len kind ss)) (rows_of_siblings ss)
laid_out len n kind ss h =
    let zeros : List ℕ = replicate (len - used_by ss) 0 in
    let front : List ℕ = head kind (length ss) (used_by ss) in
    let behind : List ℕ = rows (values_at ss) ss ++ (values ss ++ zeros) in
    let whole : window_of len kind ss ≡ front ++ behind = simp append_assoc in
    let counted : front ≡ head kind (length (rows_of_siblings ss)) (used_by ss) = ap (λ count. head kind count (used_by ss)) (sym (length-map ss row_of)) in (
      kind_number kind,
      used_by ss,
      0,
      take (n - 16) behind,
      ap (take n) whole ∙ taken n front behind (omega arith) ∙ ap (λ bytes. bytes ++ take (n - 16) behind) counted,
      rows_shown ss (values_at ss) (n - 16) (values ss ++ zeros) (omega arith),
    )

-- ---- the newest

-- the row of a content that has no dot yet
abbrev blank : Row
blank = record { vnode = 0; n = 0 }

and_false : (b : Bool) → (b && false) ≡ false
and_false true = refl
and_false false = refl

blank_is_old : (r : Row) → is_newer blank r ≡ false
blank_is_old r = rw (le-ltb r.n 0 (omega arith), le-ltb r.vnode 0 (omega arith)) (and_false (0 == r.n))

same_newest : (rs : List Row) → is_newest (blank ∷ rs) ≡ is_newest rs
same_newest rs = λ i r. not (r.n == 0) && (not (blank_is_old r i) && list_all (λ other. not (is_newer other r)) rs)

one_more : (a b : ℕ) → nat_lt (1 + a) (suc b) ≡ nat_lt a b
one_more a b = grind arith

behind_one : (t : Bool) (place : ℕ) → unwrap_or (cond t (Some (1 + place)) None) 64 ≡ option_map_or (λ k. k + 1) (cond t (Some place) None) 64
behind_one true place = omega arith
behind_one false place = refl

-- the first row that passes stands one further behind a row that does not pass
pub newest_behind_blank : (rs : List Row) → unwrap_or (position (is_newest (blank ∷ rs)) (blank ∷ rs)) 64 ≡ option_map_or (λ k. k + 1) (position (is_newest rs) rs) 64
newest_behind_blank rs =
    let place = position_or_len (is_newest rs) rs in
    ap (λ p. unwrap_or (position p (blank ∷ rs)) 64) (same_newest rs)
    ∙ ap (λ t. unwrap_or (cond t (Some (1 + place)) None) 64) (one_more place (length rs))
    ∙ behind_one (nat_lt place (length rs)) place

place_over_map : (p : Row → Bool) (ss : List Sibling) → position_or_len p (rows_of_siblings ss) ≡ position_or_len (λ s. p (row_of s)) ss
place_over_map p [] = refl
place_over_map p (s ∷ ss) = ap (λ n. cond (not (p (row_of s))) (1 + n) 0) (place_over_map p ss)

position_over_map : (p : Row → Bool) (ss : List Sibling) → position p (rows_of_siblings ss) ≡ position (λ s. p (row_of s)) ss
position_over_map p ss =
    ap (λ n. cond (nat_lt n (length (rows_of_siblings ss))) (Some n) None) (place_over_map p ss)
    ∙ ap (λ n. cond (nat_lt (position_or_len (λ s. p (row_of s)) ss) n) (Some (position_or_len (λ s. p (row_of s)) ss)) None) (length-map ss row_of)

option_same : (o : Option ℕ) → unwrap_or o 64 ≡ option_map_or (λ k. k) o 64
option_same None = refl
option_same (Some k) = refl

pub newest_shown : (new : Option Content) (siblings : List Sibling) → let rs = rows_of_siblings (contents_shown new siblings) in unwrap_or (position (is_newest rs) rs) 64 ≡ newest_row new siblings
newest_shown None siblings = option_same (position (is_newest (rows_of_siblings siblings)) (rows_of_siblings siblings)) ∙ ap (λ o. option_map_or (λ k. k) o 64) (position_over_map (is_newest (rows_of_siblings siblings)) siblings)
newest_shown (Some content) siblings = newest_behind_blank (rows_of_siblings siblings) ∙ ap (λ o. option_map_or (λ k. k + 1) o 64) (position_over_map (is_newest (rows_of_siblings siblings)) siblings)

-- ---- the numbers of the rows

-- the numbers of a row fit their fields
abbrev IsRow : Row → Type 0
IsRow r = (r.vnode < 2 ^ 32) × (r.n < 2 ^ 64)

fit_rows : (ss : List Sibling) → All (λ s. (s.dot.vnode < 2 ^ 32) × (s.dot.n < 2 ^ 64)) ss → AreRows (rows_of_siblings ss)
fit_rows ss h = All-map IsRow row_of ss h

pub shown_fit : (new : Option Content) (siblings : List Sibling) → All (λ s. (s.dot.vnode < 2 ^ 32) × (s.dot.n < 2 ^ 64)) siblings → AreRows (rows_of_siblings (contents_shown new siblings))
shown_fit None siblings h = fit_rows siblings h
shown_fit (Some content) siblings h = All-cons IsRow blank (rows_of_siblings siblings) (lit< tt, lit< tt) (fit_rows siblings h)
