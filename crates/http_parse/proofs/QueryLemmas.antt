-- On the words of a query.
use Rattle.std.proofs.Common.{◌≡◌, ℕ, List, ◌∷◌, map, sym, ap, ◌∙◌, subst}
use Rattle.std.specs.Str.Lossy.{utf8_lossy}
use Rattle.form_urlencoded.specs.Form.{decode}
use Rattle.http_parse.specs.declared.query.Words.{Words}
use Rattle.http_parse.specs.Words.{WordsLeadTo}

abbrev pub text_pair : List ℕ × List ℕ → List ℕ × List ℕ
text_pair pair = (utf8_lossy (decode pair.0), utf8_lossy (decode pair.1))

-- one pair more is read
pub one_pair : (words after : Words) (left rest pairs : List (List ℕ × List ℕ)) (n v name value : List ℕ) → left ≡ (n, v) ∷ rest
    → name ≡ utf8_lossy (decode n) → value ≡ utf8_lossy (decode v)
    → (WordsLeadTo words ((name, value) ∷ map text_pair rest) pairs → WordsLeadTo after (map text_pair rest) pairs)
    → WordsLeadTo words (map text_pair left) pairs → WordsLeadTo after (map text_pair rest) pairs
one_pair words after left rest pairs n v name value split is_name is_value step leads =
    let all : map text_pair left ≡ (name, value) ∷ map text_pair rest =
    ap (map text_pair) split
    ∙ (ap (λ x. (x, utf8_lossy (decode v)) ∷ map text_pair rest) (sym is_name)
    ∙ ap (λ x. (name, x) ∷ map text_pair rest) (sym is_value)) in
    step (subst (λ xs. WordsLeadTo words xs pairs) all leads)
