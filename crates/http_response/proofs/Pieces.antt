-- On bytes that are pushed in pieces.
use Rattle.std.proofs.Common.{◌≡◌, ◌∙◌, ap, sym, ℕ, List, [], ◌∷◌, ◌++◌, Option, Some, None, true, false, refl, rules, append_assoc}
use Rattle.std.specs.Prelude.{codes, is_some}
use Rattle.http_response.specs.Answer.{or_nothing, quoted}
use Rattle.http_response.specs.Parts.{field_line}

-- two parts for two parts
pub both_pieces : (l l' x x' : List ℕ) → l ≡ l' → x ≡ x' → l ++ x ≡ l' ++ x'
both_pieces l l' x x' e d = ap (λ a. a ++ x) e ∙ ap (λ a. l' ++ a) d

pub answer_grouped : (o s m v t k l a f g w d e y : List ℕ)
    → (((((((((o ++ s) ++ m) ++ v) ++ t) ++ k) ++ l) ++ a) ++ f) ++ (((g ++ w) ++ d) ++ e)) ++ y
    ≡ o ++ ((((((((((((s ++ m) ++ v) ++ t) ++ k) ++ l) ++ a) ++ f) ++ g) ++ w) ++ d) ++ e) ++ y)
answer_grouped o s m v t k l a f g w d e y = simp append_assoc

pub part_grouped : (o e d k t b : List ℕ)
    → ((((o ++ (e ++ d)) ++ e) ++ k) ++ (t ++ e)) ++ b ≡ o ++ (((((e ++ (d ++ e)) ++ k) ++ t) ++ e) ++ b)
part_grouped o e d k t b = simp append_assoc

pub clock_grouped : (o x t e : List ℕ) → ((o ++ x) ++ t) ++ e ≡ o ++ ((x ++ t) ++ e)
clock_grouped o x t e = simp append_assoc

pub tag_grouped : (o x t e : List ℕ) → ((o ++ x) ++ t) ++ (e ++ e) ≡ o ++ (((x ++ t) ++ e) ++ e)
tag_grouped o x t e = simp append_assoc

pub end_grouped : (o g w d e : List ℕ) → (((o ++ g) ++ w) ++ d) ++ e ≡ o ++ (((g ++ w) ++ d) ++ e)
end_grouped o g w d e = simp append_assoc

-- a tag between its quotes
pub tag_quoted : (o t : List ℕ) → ((o ++ (34 ∷ [])) ++ t) ++ (34 ∷ []) ≡ o ++ quoted t
tag_quoted o t = clock_grouped o (34 ∷ []) t (34 ∷ [])

-- that of siblings as parts
pub parts_quoted : (t : List ℕ) → codes "\"" ++ t ++ codes "-parts\"" ≡ quoted (t ++ codes "-parts")
parts_quoted t = ap (λ (l : List ℕ). 34 ∷ l) (sym (append_assoc t (codes "-parts") (34 ∷ [])))

-- an entity tag as a line, where there is one
pub no_line : (etag : Option (List ℕ)) → is_some etag ≡ false → field_line (codes "ETag") etag ≡ []
no_line None e = refl
no_line (Some t) e = absurd (search (e, rules))

pub tag_line : (o : List ℕ) (etag : Option (List ℕ)) → is_some etag ≡ true
    → ((o ++ codes "ETag: ") ++ or_nothing etag) ++ (13 ∷ 10 ∷ []) ≡ o ++ field_line (codes "ETag") etag
tag_line o None e = absurd (search (e, rules))
tag_line o (Some t) e = clock_grouped o (codes "ETag: ") t (13 ∷ 10 ∷ [])
