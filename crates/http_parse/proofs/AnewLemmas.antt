-- A head without what its client expects is shorter.
use Rattle.std.proofs.Common.{◌≡◌, ℕ, ◌+◌, ◌<◌, ◌≤◌, suc, Bool, true, false, List, [], ◌∷◌, ◌++◌, length, map, reverse, refl, sym, ap, subst, ◌∙◌, arith, length-append, Option, Some, None}
use Rattle.std.specs.Prelude.{if◌then◌else◌, ◌==◌, ◌&&◌, codes}
use Rattle.std.specs.List.{flat_map}
use Rattle.std.proofs.lemmas.List.{length-reverse}
use Rattle.httparse.specs.Grammar.{LineEnd, crlf, lf, print_end, Field, print_field, print_blank, print_version, print_section, is_ows, skip_ows, trim_ows, field_value, RequestHead, print_request}
use Rattle.httparse.specs.Spans.{header_bytes, name_and_value}
use Rattle.httparse.specs.declared.spans.HeaderSpan.{HeaderSpan}
use Rattle.http_request.specs.Fields.{Pair, is_named, value_of, pairs_of, expected_by, expected_of, nothing, is_go_on, waits_to_go_on, line_anew, head_anew, without_expectation}

-- a line's end has a byte
end_some : (e : LineEnd) → 0 < length (print_end e)
end_some crlf = omega arith
end_some lf = omega arith

skip_shorter : (bytes : List ℕ) → length (skip_ows bytes) ≤ length bytes
skip_shorter [] = omega arith
skip_shorter (b ∷ bytes) = at (is_ows b) (skip_shorter bytes)
  where
    at : (c : Bool) → length (skip_ows bytes) ≤ length bytes → length (if c then skip_ows bytes else b ∷ bytes) ≤ suc (length bytes)
    at true le = omega (arith, le)
    at false le = omega arith

trim_shorter : (bytes : List ℕ) → length (trim_ows bytes) ≤ length bytes
unfolding trim_ows
trim_shorter bytes =
    omega (arith, length-reverse (skip_ows (reverse (skip_ows bytes))), skip_shorter (reverse (skip_ows bytes)), length-reverse (skip_ows bytes), skip_shorter bytes)

field_len : (n r e : List ℕ) → length (n ++ 58 ∷ r ++ e) ≡ length n + suc (length r) + length e
field_len n r e = length-append (n ++ 58 ∷ r) e ∙ ap (λ k. k + length e) (length-append n (58 ∷ r))

field_length : (f : Field) → length (print_field f) ≡ length f.name + suc (length f.raw) + length (print_end f.end)
field_length f = field_len f.name f.raw (print_end f.end)

anew_field_length : (f : Field) → length (f.name ++ 58 ∷ field_value f ++ 10 ∷ []) ≡ length f.name + suc (length (field_value f)) + 1
anew_field_length f = field_len f.name (field_value f) (10 ∷ [])

-- a field anew is no longer than its line, and is nothing where it says what is expected
line_by : (b : Bool) (f : Field) → length (if b then [] else f.name ++ 58 ∷ field_value f ++ 10 ∷ []) ≤ length (print_field f)
line_by true f = omega arith
line_by false f = subst (λ n. n ≤ length (print_field f)) (sym (anew_field_length f)) (omega (arith, field_length f, trim_shorter f.raw, end_some f.end))

line_shorter : (f : Field) → length (line_anew (name_and_value f)) ≤ length (print_field f)
line_shorter f = line_by (is_named (codes "expect") (name_and_value f)) f

lines_shorter : (fields : List Field) → length (flat_map line_anew (map name_and_value fields)) ≤ length (flat_map print_field fields)
lines_shorter [] = omega arith
lines_shorter (f ∷ fields) =
    omega (
      arith,
      length-append (line_anew (name_and_value f)) (flat_map line_anew (map name_and_value fields)),
      length-append (print_field f) (flat_map print_field fields),
      line_shorter f,
      lines_shorter fields,
    )

-- with such a field the lines are shorter
lines_less : (fields : List Field) (value : List ℕ) → value_of (codes "expect") (map name_and_value fields) ≡ Some value
    → length (flat_map line_anew (map name_and_value fields)) < length (flat_map print_field fields)
lines_less [] value e = cc
lines_less (f ∷ fields) value e = at (is_named (codes "expect") (name_and_value f)) refl e (lines_less fields value)
  where
    both : length (flat_map print_field (f ∷ fields)) ≡ length (print_field f) + length (flat_map print_field fields)
    both = length-append (print_field f) (flat_map print_field fields)

    at : (b : Bool) → is_named (codes "expect") (name_and_value f) ≡ b
        → (if b then Some (name_and_value f).1 else value_of (codes "expect") (map name_and_value fields)) ≡ Some value
        → (value_of (codes "expect") (map name_and_value fields) ≡ Some value
        → length (flat_map line_anew (map name_and_value fields)) < length (flat_map print_field fields))
        → length (flat_map line_anew (map name_and_value (f ∷ fields))) < length (flat_map print_field (f ∷ fields))
    at true named found less =
        let none : length (line_anew (name_and_value f)) ≡ 0 =
        ap (λ b. length (if b then [] else f.name ++ 58 ∷ field_value f ++ 10 ∷ [])) named in
        omega (arith, both, none, length-append (line_anew (name_and_value f)) (flat_map line_anew (map name_and_value fields)), lines_shorter fields, field_length f)
    at false named found less =
        omega (arith, both, length-append (line_anew (name_and_value f)) (flat_map line_anew (map name_and_value fields)), line_shorter f, less found)

anew_len : (m t v l : List ℕ) → length (m ++ 32 ∷ t ++ v ++ 10 ∷ l ++ 10 ∷ []) ≡ length m + suc (length t) + length v + suc (length l) + 1
anew_len m t v l =
    length-append (m ++ 32 ∷ t ++ v ++ 10 ∷ l) (10 ∷ [])
    ∙ ap (λ k. k + 1) (length-append (m ++ 32 ∷ t ++ v) (10 ∷ l)
    ∙ ap (λ k. k + suc (length l)) (length-append (m ++ 32 ∷ t) v ∙ ap (λ k. k + length v) (length-append m (32 ∷ t))))

anew_length : (method target : List ℕ) (pairs : List Pair)
    → length (head_anew method target pairs) ≡ length method + suc (length target) + 9 + suc (length (flat_map line_anew pairs)) + 1
anew_length method target pairs = anew_len method target (codes " HTTP/1.1") (flat_map line_anew pairs)

print_len : (b m t v e s : List ℕ) → length (b ++ m ++ 32 ∷ t ++ 32 ∷ v ++ e ++ s) ≡ length b + length m + suc (length t) + suc (length v) + length e + length s
print_len b m t v e s =
    length-append (b ++ m ++ 32 ∷ t ++ 32 ∷ v ++ e) s
    ∙ ap (λ k. k + length s) (length-append (b ++ m ++ 32 ∷ t ++ 32 ∷ v) e
    ∙ ap (λ k. k + length e) (length-append (b ++ m ++ 32 ∷ t) (32 ∷ v)
    ∙ ap (λ k. k + suc (length v)) (length-append (b ++ m) (32 ∷ t) ∙ ap (λ k. k + suc (length t)) (length-append b m))))

print_length : (h : RequestHead)
    → length (print_request h) ≡ length (print_blank h.blank) + length h.method + suc (length h.target) + 9 + length (print_end h.line_end) + length (print_section h.fields h.last)
unfolding print_request
print_length h = print_len (print_blank h.blank) h.method h.target (print_version h.minor) (print_end h.line_end) (print_section h.fields h.last)

section_length : (fields : List Field) (last : LineEnd) → length (print_section fields last) ≡ length (flat_map print_field fields) + length (print_end last)
section_length fields last = length-append (flat_map print_field fields) (print_end last)

and_first : (a b : Bool) → (a && b) ≡ true → a ≡ true
and_first true b e = refl
and_first false b e = e

-- a head that says what is expected has a field that does
expects_some : (minor : ℕ) (pairs : List Pair) → is_go_on (expected_of minor pairs) ≡ true → (value : List ℕ) × (value_of (codes "expect") pairs ≡ Some value)
expects_some minor pairs e = by_minor (minor == 0) e
  where
    by_value : (o : Option (List ℕ)) → is_go_on (expected_by o) ≡ true → (value : List ℕ) × (o ≡ Some value)
    by_value None e = cc
    by_value (Some value) e = (value, refl)

    by_minor : (b : Bool) → is_go_on (if b then nothing else expected_by (value_of (codes "expect") pairs)) ≡ true
        → (value : List ℕ) × (value_of (codes "expect") pairs ≡ Some value)
    by_minor true e = cc
    by_minor false e = by_value (value_of (codes "expect") pairs) e

pub anew_shorter : (head : RequestHead) → waits_to_go_on head ≡ true → length (without_expectation head) < length (print_request head)
anew_shorter head waits =
    let said = expects_some head.minor (pairs_of head) (and_first (is_go_on (expected_of head.minor (pairs_of head))) _ waits) in
    omega (arith, anew_length head.method head.target (pairs_of head), print_length head, section_length head.fields head.last, lines_less head.fields said.0 said.1, end_some head.line_end, end_some head.last)

pub anew_some : (head : RequestHead) → 0 < length (without_expectation head)
anew_some head = omega (arith, anew_length head.method head.target (pairs_of head))

-- the lines of fields that lie there
pub lines_of : (bytes : List ℕ) (lines : List HeaderSpan) → flat_map (λ line. line_anew (header_bytes bytes line)) lines ≡ flat_map line_anew (map (header_bytes bytes) lines)
lines_of bytes [] = refl
lines_of bytes (line ∷ lines) = ap (λ l. line_anew (header_bytes bytes line) ++ l) (lines_of bytes lines)
