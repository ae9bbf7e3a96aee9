-- On how the fields frame a body.
use Rattle.std.proofs.Common.{◌≡◌, ℕ, Bool, true, false, List, [], ◌∷◌, length, refl, sym, ap, ◌∙◌, arith, Some, None}
use Rattle.std.specs.Prelude.{◌==◌, ◌&&◌, if◌then◌else◌, bytes_eq, codes}
use Rattle.std.specs.Str.{str_to_ascii_lowercase}
use Rattle.std.proofs.lemmas.Bool.{ne_eqb}
use Rattle.http_request.specs.Fields.{Pair, value_of, values_of, coding_among, coding_said, plain, in_chunks, unknown}
use Rattle.http_parse.proofs.FieldLemmas.{no_values, first_value}

-- without a field there is no coding
pub coding_none : (pairs : List Pair) → value_of (codes "transfer-encoding") pairs ≡ None → coding_among pairs ≡ plain
coding_none pairs e = ap coding_said (no_values (codes "transfer-encoding") pairs e)

and_true : (b : Bool) → (b && true) ≡ b
and_true true = refl
and_true false = refl

and_false : (b : Bool) → (b && false) ≡ false
and_false true = refl
and_false false = refl

said_by : (v : List ℕ) (vs : List (List ℕ))
    → coding_said (v ∷ vs) ≡ (if bytes_eq (str_to_ascii_lowercase v) (codes "chunked") && (length (v ∷ vs) == 1) then in_chunks else unknown)
said_by v [] = ap (λ b. if b then in_chunks else unknown) (sym (and_true (bytes_eq (str_to_ascii_lowercase v) (codes "chunked"))))
said_by v (w ∷ vs) =
    sym (ap (λ b. if bytes_eq (str_to_ascii_lowercase v) (codes "chunked") && b then in_chunks else unknown) (ne_eqb (length (v ∷ w ∷ vs)) 1 (omega arith))
    ∙ ap (λ b. if b then in_chunks else unknown) (and_false (bytes_eq (str_to_ascii_lowercase v) (codes "chunked"))))

-- one field says it, where its value does
pub coding_some : (pairs : List Pair) (v : List ℕ) → value_of (codes "transfer-encoding") pairs ≡ Some v
    → coding_among pairs
    ≡ (if bytes_eq (str_to_ascii_lowercase v) (codes "chunked") && (length (values_of (codes "transfer-encoding") pairs) == 1) then in_chunks else unknown)
coding_some pairs v e =
    let f = first_value (codes "transfer-encoding") v pairs e in
    ap coding_said f.1 ∙ (said_by v f.0
    ∙ sym (ap (λ (l : List (List ℕ)). if bytes_eq (str_to_ascii_lowercase v) (codes "chunked") && (length l == 1) then in_chunks else unknown) f.1))

-- the same by what was tested
pub coding_by : (pairs : List Pair) (v : List ℕ) (once is_chunked : Bool) → value_of (codes "transfer-encoding") pairs ≡ Some v
    → once ≡ (length (values_of (codes "transfer-encoding") pairs) == 1) → is_chunked ≡ (bytes_eq (str_to_ascii_lowercase v) (codes "chunked") && once)
    → coding_among pairs ≡ (if is_chunked then in_chunks else unknown)
coding_by pairs v once is_chunked e o k =
    coding_some pairs v e
    ∙ (ap (λ b. if bytes_eq (str_to_ascii_lowercase v) (codes "chunked") && b then in_chunks else unknown) (sym o)
    ∙ ap (λ b. if b then in_chunks else unknown) (sym k))
