-- The rows and the values that are left to write.
use Rattle.std.proofs.Common.{◌≡◌, ℕ, ◌+◌, ◌*◌, ◌<◌, [], ◌∷◌, ◌++◌, List, Option, None, Some, length, length-append, drop, get_or, append_assoc, arith, ap, refl, ◌∙◌, sym}
use Rattle.std.proofs.lemmas.List.{at_drop_more}
use Rattle.key_state.specs.declared.content.Content.{Content}
use Rattle.key_state.specs.declared.content.Sibling.{Sibling}
use Rattle.bpf_image.specs.declared.image.ImageKind.{ImageKind}
use Rattle.hook_abi.specs.Input.{contents_shown, head, layout, new_shown, row, rows, shown, used_by, values, values_at}

-- the first of the rows that are left, and the first of the values
pub rows_more : (ss : List Sibling) (i offset : ℕ) (s : Sibling) → i < length ss → s ≡ get_or ss i s → rows offset (drop i ss) ≡ row offset s ++ rows (offset + length (shown s.content)) (drop (i + 1) ss)
rows_more ss i offset s lt is = at_drop_more (rows offset) ss i s lt ∙ ap (λ x. rows offset (x ∷ drop (i + 1) ss)) (sym is)

pub values_more : (ss : List Sibling) (i : ℕ) (s : Sibling) → i < length ss → s ≡ get_or ss i s → values (drop i ss) ≡ shown s.content ++ values (drop (i + 1) ss)
values_more ss i s lt is = at_drop_more values ss i s lt ∙ ap (λ x. values (x ∷ drop (i + 1) ss)) (sym is)

pub length_more : (ss : List Sibling) (i : ℕ) (s : Sibling) → i < length ss → s ≡ get_or ss i s → length (values (drop i ss)) ≡ length (shown s.content) + length (values (drop (i + 1) ss))
length_more ss i s lt is = ap length (values_more ss i s lt is) ∙ length-append (shown s.content) (values (drop (i + 1) ss))

-- ---- the parts of a layout, of which the new content is the first where there is one

pub rows_long : (offset : ℕ) (ss : List Sibling) → length (rows offset ss) ≡ 24 * length ss
rows_long offset [] = refl
rows_long offset (s ∷ ss) = let rest = rows_long (offset + length (shown s.content)) ss in omega (arith, length-append (row offset s) (rows (offset + length (shown s.content)) ss))

pub count_parts : (new : Option Content) (ss : List Sibling) → length (contents_shown new ss) ≡ length (contents_shown new []) + length ss
count_parts None ss = omega arith
count_parts (Some content) ss = omega arith

pub rows_parts : (offset : ℕ) (new : Option Content) (ss : List Sibling) → rows offset (contents_shown new ss) ≡ rows offset (contents_shown new []) ++ rows (offset + length (new_shown new)) ss
rows_parts offset None ss = let same : offset ≡ offset + 0 = omega arith in ap (λ n. rows n ss) same
rows_parts offset (Some content) ss = refl

pub values_parts : (new : Option Content) (ss : List Sibling) → values (contents_shown new ss) ≡ new_shown new ++ values ss
values_parts None ss = refl
values_parts (Some content) ss = refl

regroup : (h a b n v : List ℕ) → (((h ++ a) ++ b) ++ n) ++ v ≡ (h ++ (a ++ b)) ++ (n ++ v)
regroup h a b n v = simp append_assoc

pub layout_parts : (kind : ImageKind) (new : Option Content) (ss : List Sibling) (count used first second : ℕ)
    → count ≡ length (contents_shown new ss) → used ≡ used_by (contents_shown new ss) → first ≡ values_at (contents_shown new ss) → second ≡ first + length (new_shown new)
    → (((head kind count used ++ rows first (contents_shown new [])) ++ rows second ss) ++ new_shown new) ++ values ss ≡ layout kind (contents_shown new ss)
layout_parts kind new ss count used first second is_count is_used is_first is_second =
    let cs = contents_shown new ss in
    let heads : head kind count used ≡ head kind (length cs) (used_by cs) = ap (λ n. head kind n used) is_count ∙ ap (λ n. head kind (length cs) n) is_used in
    let there : rows first (contents_shown new []) ++ rows second ss ≡ rows (values_at cs) cs = ap (λ n. rows first (contents_shown new []) ++ rows n ss) is_second ∙ sym (rows_parts first new ss) ∙ ap (λ n. rows n cs) is_first in
    regroup (head kind count used) (rows first (contents_shown new [])) (rows second ss) (new_shown new) (values ss)
    ∙ (λ i. (heads i ++ there i) ++ sym (values_parts new ss) i)

pub layout_long : (kind : ImageKind) (ss : List Sibling) → length (layout kind ss) ≡ used_by ss
layout_long kind ss =
    let front : List ℕ = head kind (length ss) (used_by ss) in
    let there : List ℕ = rows (values_at ss) ss in
    omega (arith, length-append (front ++ there) (values ss), length-append front there, rows_long (values_at ss) ss)
