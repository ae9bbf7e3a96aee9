-- A frame: length, number, body and tag.
use Rattle.std.proofs.Common.{◌≡◌, ℕ, ◌+◌, ◌-◌, ◌^◌, ◌<◌, ◌≤◌, List, [], ◌∷◌, ◌++◌, length, get_or, take, drop, refl, sym, ap, ◌∙◌, append_assoc, arith, inl, inr, length-append, length-take, length-drop}
use Rattle.std.specs.Int.{w32, w64, from_be_bytes, to_be_bytes}
use Rattle.std.proofs.lemmas.Bool.{cases_lt}
use Rattle.std.proofs.lemmas.List.{append-nil, drop-drop, drop-take, drop_at, get_or-drop, get_or-take, get_or_past, take-append-drop, take-take, take_at}
use Rattle.std.proofs.lemmas.Nat.{be_bytes_4, be_bytes_8, from_be_bytes-to_be_bytes_4, from_be_bytes-to_be_bytes_8}
use Rattle.sha2.specs.Sha256.{digest_bytes, sha256}
use Rattle.peer_hmac.specs.Hmac.{hmac}
use Rattle.peer_frames.specs.Frames.{IsCut, IsFrame, IsWhole, body_in, frame, length_in, longest_body, number_in, tag_in, tag_of}

pub length-sha256 : (m : List ℕ) → length (sha256 m) ≡ 32
unfolding sha256 digest_bytes
length-sha256 m = refl

pub length-tag : (key : List ℕ) (number : ℕ) (body : List ℕ) → length (tag_of key number body) ≡ 32
length-tag key number body = length-sha256 _

-- two parts that stand one after the other
pub take-more : (n m : ℕ) (l : List ℕ) → take (n + m) l ≡ take n l ++ take m (drop n l)
take-more n m l =
    let front : take n (take (n + m) l) ≡ take n l = take-take n (n + m) l (omega arith) in
    sym (take-append-drop n (take (n + m) l)) ∙ ap (λ f. f ++ drop n (take (n + m) l)) front ∙ ap (λ b. take n l ++ b) (drop-take n m l)

abbrev pub IsBytes : List ℕ → Type 0
IsBytes bytes = (i : ℕ) → get_or bytes i 0 < 256

pub IsBytes-drop : (n : ℕ) (bytes : List ℕ) → IsBytes bytes → IsBytes (drop n bytes)
IsBytes-drop n bytes h i = rw get_or-drop (h (n + i))

pub IsBytes-take : (n : ℕ) (bytes : List ℕ) → IsBytes bytes → IsBytes (take n bytes)
IsBytes-take n bytes h i =
    elim (cases_lt i n) [
      | inl lt ↦ rw (get_or-take n bytes i 0 lt) (h i)
      | inr le ↦ rw (get_or_past (take n bytes) i 0 (omega (arith, length-take n bytes))) (omega arith)
    ]

pub length-frame : (key : List ℕ) (number : ℕ) (body : List ℕ) → length (frame key number body) ≡ 44 + length body
length-frame key number body =
    let a = length-append (to_be_bytes w32 (length body) ++ to_be_bytes w64 number ++ body) (tag_of key number body) in
    let b = length-tag key number body in
    omega arith

-- ---- what bytes say that a frame begins

after_head : (key : List ℕ) (number : ℕ) (body rest : List ℕ) → drop 12 (frame key number body ++ rest) ≡ body ++ (tag_of key number body ++ rest)
after_head key number body rest = append_assoc body (tag_of key number body) rest

says_length : (key : List ℕ) (number : ℕ) (body rest : List ℕ) → length body ≤ longest_body → length_in (frame key number body ++ rest) ≡ length body
says_length key number body rest short = from_be_bytes-to_be_bytes_4 (length body) (omega arith)

says_number : (key : List ℕ) (number : ℕ) (body rest : List ℕ) → number < 2 ^ 64 → number_in (frame key number body ++ rest) ≡ number
says_number key number body rest lt = from_be_bytes-to_be_bytes_8 number lt

pub says_body : (key : List ℕ) (number : ℕ) (body rest : List ℕ) → length body ≤ longest_body → body_in (frame key number body ++ rest) ≡ body
says_body key number body rest short =
    ap (λ n. take n (drop 12 (frame key number body ++ rest))) (says_length key number body rest short) ∙ ap (take (length body)) (after_head key number body rest) ∙ take_at body (tag_of key number body ++ rest) (length body) refl

says_tag : (key : List ℕ) (number : ℕ) (body rest : List ℕ) → length body ≤ longest_body → tag_in (frame key number body ++ rest) ≡ tag_of key number body
says_tag key number body rest short =
    ap (λ n. take 32 (drop (12 + n) (frame key number body ++ rest))) (says_length key number body rest short)
    ∙ ap (take 32) (sym (drop-drop (length body) 12 (frame key number body ++ rest)) ∙ ap (drop (length body)) (after_head key number body rest) ∙ drop_at body (tag_of key number body ++ rest) (length body) refl)
    ∙ take_at (tag_of key number body) rest 32 (length-tag key number body)

pub says_all : (key : List ℕ) (number : ℕ) (body rest : List ℕ) → length body ≤ longest_body → 44 + length_in (frame key number body ++ rest) ≡ length (frame key number body)
says_all key number body rest short =
    let says = says_length key number body rest short in
    let len = length-frame key number body in
    omega arith

pub sent_is_taken : (key body rest : List ℕ) (number : ℕ) → length body ≤ longest_body → number < 2 ^ 64 - 1 → IsFrame key number (frame key number body ++ rest)
sent_is_taken key body rest number short last =
    let all = length-append (frame key number body) rest in
    let len = length-frame key number body in
    let says = says_length key number body rest short in
    record {
      whole = record { short = omega arith; whole = omega arith };
      numbered = says_number key number body rest (omega arith);
      last = last;
      tagged = says_tag key number body rest short ∙ ap (tag_of key number) (sym (says_body key number body rest short));
    }

-- ---- a front of a frame

pub front_is_cut : (key body : List ℕ) (number n : ℕ) → length body ≤ longest_body → n < length (frame key number body) → IsCut (take n (frame key number body))
front_is_cut key body number n short lt =
    let whole : List ℕ = frame key number body in
    let len : length (take n whole) ≡ n = omega (arith, length-take n whole) in
    let all = length-frame key number body in
    elim (cases_lt n 4) [
      | inl low ↦ inl (omega arith)
      | inr high ↦
          let says : length_in (take n whole) ≡ length body = ap (from_be_bytes w32) (take-take 4 n whole high) ∙ ap length_in (sym (append-nil whole)) ∙ says_length key number body [] short in
          inr (omega arith, omega arith)
    ]

-- ---- what is taken is spelled so

-- the parts of a frame, one after another
parts_of : (bytes : List ℕ) (n : ℕ) → take (44 + n) bytes ≡ ((take 4 bytes ++ take 8 (drop 4 bytes)) ++ take n (drop 12 bytes)) ++ take 32 (drop (12 + n) bytes)
parts_of bytes n =
    let sum : 44 + n ≡ (12 + n) + 32 = omega arith in
    ap (λ m. take m bytes) sum ∙ take-more (12 + n) 32 bytes
    ∙ ap (λ (front : List ℕ). front ++ take 32 (drop (12 + n) bytes)) (take-more 12 n bytes ∙ ap (λ (front : List ℕ). front ++ take n (drop 12 bytes)) (take-more 4 8 bytes))

pub taken_is_spelled : (key bytes : List ℕ) (number : ℕ) → IsBytes bytes → IsFrame key number bytes → bytes ≡ frame key number (body_in bytes) ++ drop (44 + length_in bytes) bytes
taken_is_spelled key bytes number fits is =
    let n = length_in bytes in
    let enough = is.whole.whole in
    let behind = length-drop 12 bytes in
    let front = length-drop 4 bytes in
    let body_len : length (body_in bytes) ≡ n = omega (arith, length-take n (drop 12 bytes)) in
    let head : to_be_bytes w32 (length (body_in bytes)) ≡ take 4 bytes = be_bytes_4 (take 4 bytes) (length (body_in bytes)) (omega (arith, length-take 4 bytes)) (IsBytes-take 4 bytes fits) body_len in
    let numbered : to_be_bytes w64 number ≡ take 8 (drop 4 bytes) = be_bytes_8 (take 8 (drop 4 bytes)) number (omega (arith, length-take 8 (drop 4 bytes))) (IsBytes-take 8 (drop 4 bytes) (IsBytes-drop 4 bytes fits)) (sym is.numbered) in
    let spelled : take (44 + n) bytes ≡ frame key number (body_in bytes) =
    parts_of bytes n
    ∙ ap (λ (h : List ℕ). ((h ++ take 8 (drop 4 bytes)) ++ body_in bytes) ++ tag_in bytes) (sym head)
    ∙ ap (λ (m : List ℕ). ((to_be_bytes w32 (length (body_in bytes)) ++ m) ++ body_in bytes) ++ tag_in bytes) (sym numbered)
    ∙ ap (λ (t : List ℕ). ((to_be_bytes w32 (length (body_in bytes)) ++ to_be_bytes w64 number) ++ body_in bytes) ++ t) is.tagged in
    sym (take-append-drop (44 + n) bytes) ∙ ap (λ (f : List ℕ). f ++ drop (44 + n) bytes) spelled
