-- On a whole request with its body.
use Rattle.std.proofs.Common.{◌≡◌, ℕ, ◌+◌, ◌<◌, List, [], ◌∷◌, ◌++◌, length, take, drop, sym, ap, subst, ◌∙◌, refl, append_assoc, arith, None}
use Rattle.std.specs.Prelude.{◌==◌}
use Rattle.std.proofs.Common.{get_or, suc, zero, Bool, true, false, Option, Some, add-one}
use Rattle.std.specs.Prelude.{IfSome, IfNone}
use Rattle.std.specs.List.{slice_split, onto_first, before_first}
use Rattle.std.proofs.lemmas.List.Sums.{position_or_len_is}
use Rattle.memchr.specs.Find.{IsFirstByte, is_byte}
use Rattle.std.proofs.lemmas.List.Splits.{slice_split-cons_yes, slice_split-cons_no}
use Rattle.std.proofs.lemmas.List.{take-append-drop, drop-drop, take_all}
use Rattle.httparse.specs.Grammar.{RequestHead}
use Rattle.httparse.proofs.GrammarLemmas.{ReadsRequest-append}
use Rattle.http_request.specs.Head.{BeginsHead}
use Rattle.http_request.specs.Fields.{without_zeros}

-- a head at the front stays there, whatever follows
pub begins_append : (buf : List ℕ) (head : RequestHead) (after more : List ℕ) → BeginsHead buf head after
    → BeginsHead (buf ++ more) head (after ++ more)
begins_append buf head after more begins = record {
  reads = ReadsRequest-append buf head after more begins.reads;
  short = begins.short;
  few = begins.few;
}

-- a body of n bytes after the head, and what follows it
pub body_split : (buf : List ℕ) (len n : ℕ) (more : List ℕ)
    → drop len buf ++ more ≡ take n (drop len buf) ++ (drop (len + n) buf ++ more)
body_split buf len n more =
    ap (λ l. l ++ more) (sym (take-append-drop n (drop len buf)))
    ∙ (append_assoc (take n (drop len buf)) (drop n (drop len buf)) more
    ∙ ap (λ l. take n (drop len buf) ++ (l ++ more)) (drop-drop n len buf))

-- a zero in front goes
pub zeros-step : (b : ℕ) (tail : List ℕ) → b ≡ 48 → without_zeros (b ∷ tail) ≡ without_zeros tail
zeros-step b tail e = let P : ℕ → Type 0 = λ x. without_zeros (x ∷ tail) ≡ without_zeros tail in subst P (sym e) refl

-- a test that does not hold fails
pub not_true : (b : Bool) → (b ≡ true → ⊥) → b ≡ false
not_true true h = absurd (h refl)
not_true false h = refl

-- a text without such a byte is one part
no_mark : (c : ℕ) (text : List ℕ) → ((k : ℕ) → k < length text → is_byte c (get_or text k 0) ≡ true → ⊥) → slice_split (λ b. b == c) text ≡ text ∷ []
no_mark c [] h = refl
no_mark c (x ∷ xs) h =
    slice_split-cons_no (λ b. b == c) x xs (not_true (x == c) (h 0 (omega arith)))
    ∙ ap (onto_first x) (no_mark c xs (λ k lt. h (suc k) (omega arith)))

-- the first part ends at the first one
first_mark : (c : ℕ) (text : List ℕ) (i : ℕ) → i < length text → ((k : ℕ) → k < i → is_byte c (get_or text k 0) ≡ true → ⊥) → is_byte c (get_or text i 0) ≡ true
    → slice_split (λ b. b == c) text ≡ take i text ∷ slice_split (λ b. b == c) (drop (suc i) text)
first_mark c [] i lt h e = absurd (omega (arith, lt))
first_mark c (x ∷ xs) zero lt h e = slice_split-cons_yes (λ b. b == c) x xs e
first_mark c (x ∷ xs) (suc i) lt h e =
    slice_split-cons_no (λ b. b == c) x xs (not_true (x == c) (h 0 (omega arith)))
    ∙ ap (onto_first x) (first_mark c xs i (omega arith) (λ k kl. h (suc k) (omega arith)) e)

pub mark_found : (c : ℕ) (text : List ℕ) (r : Option ℕ) → IsFirstByte (is_byte c) text r
    → IfSome r (λ at. (at < length text) × (slice_split (λ b. b == c) text ≡ take at text ∷ slice_split (λ b. b == c) (drop (at + 1) text)))
mark_found c text None h = tt
mark_found c text (Some at) h = (h.0.high, rw add-one (first_mark c text at h.0.high (λ k lt. h.0.before k (omega arith) lt) h.1))

pub mark_nowhere : (c : ℕ) (text : List ℕ) (r : Option ℕ) → IsFirstByte (is_byte c) text r → IfNone r (slice_split (λ b. b == c) text ≡ text ∷ [])
mark_nowhere c text None h = no_mark c text (λ k lt. h k (omega arith) lt)
mark_nowhere c text (Some at) h = tt

-- what stands before the first semicolon that a search found
pub before_semicolon : (part : List ℕ) (at : ℕ) → IsFirstByte (is_byte 59) part (Some at) → take at part ≡ before_first (λ b. b == 59) part
before_semicolon part at h =
    ap (λ n. take n part) (sym (position_or_len_is (λ b. b == 59) part at 0 (omega (arith, h.0.high))
    (λ k lt. not_true (get_or part k 0 == 59) (h.0.before k (omega arith) lt)) (λ lt. h.1)))

pub no_semicolon : (part : List ℕ) → IsFirstByte (is_byte 59) part None → part ≡ before_first (λ b. b == 59) part
no_semicolon part h =
    sym (take_all (length part) part (omega arith))
    ∙ ap (λ n. take n part) (sym (position_or_len_is (λ b. b == 59) part (length part) 0 (omega arith)
    (λ k lt. not_true (get_or part k 0 == 59) (h k (omega arith) lt)) (λ lt. absurd (omega (arith, lt)))))
