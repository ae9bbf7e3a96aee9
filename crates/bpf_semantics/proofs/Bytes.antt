-- The bytes that a write leaves as they were.
use Rattle.std.proofs.Common.{◌≡◌, ℕ, zero, suc, ◌+◌, ◌-◌, ◌<◌, ◌≤◌, ◌⊎◌, List, [], ◌∷◌, ◌++◌, length, take, drop, arith, refl, sym, ap, ◌∙◌, inl, inr, length-append, length-take}
use Rattle.std.specs.Prelude.{None, slice_get, nat_le, true, false}
use Rattle.std.specs.Option.{option_or}
use Rattle.std.proofs.lemmas.Bool.{le-leb, lt-leb, cases_lt, cond-true, cond-false}
use Rattle.bpf_semantics.specs.Windows.{Memory, Covers, window, base, byte_in, byte_at, overwritten, written, with_window}
use Rattle.bpf_semantics.specs.declared.Region.{Region}
use Rattle.bpf_semantics.specs.declared.Region.TheVariants.{Stack, Input, Output}

get-drop : (xs : List ℕ) (n k : ℕ) → slice_get (drop n xs) k ≡ slice_get xs (n + k)
get-drop xs zero k = let same : k ≡ 0 + k = omega arith in ap (slice_get xs) same
get-drop [] (suc n) k = refl
get-drop (x ∷ xs) (suc n) k = let same : suc (n + k) ≡ suc n + k = omega arith in get-drop xs n k ∙ ap (slice_get (x ∷ xs)) same

get-take : (xs : List ℕ) (n k : ℕ) → k < n → slice_get (take n xs) k ≡ slice_get xs k
get-take xs zero k h = absurd (omega arith)
get-take [] (suc n) k h = refl
get-take (x ∷ xs) (suc n) zero h = refl
get-take (x ∷ xs) (suc n) (suc k) h = get-take xs n k (omega arith)

get-left : (xs ys : List ℕ) (k : ℕ) → k < length xs → slice_get (xs ++ ys) k ≡ slice_get xs k
get-left [] ys k h = absurd (omega arith)
get-left (x ∷ xs) ys zero h = refl
get-left (x ∷ xs) ys (suc k) h = get-left xs ys k (omega arith)

get-right : (xs ys : List ℕ) (k j : ℕ) → k ≡ length xs + j → slice_get (xs ++ ys) k ≡ slice_get ys j
get-right [] ys k j e = let same : k ≡ j = omega arith in ap (slice_get ys) same
get-right (x ∷ xs) ys zero j e = absurd (omega arith)
get-right (x ∷ xs) ys (suc k) j e = get-right xs ys k j (omega arith)

-- a list that was overwritten is the same before the place and behind it
get-kept : (xs : List ℕ) (at : ℕ) (new : List ℕ) (k : ℕ) → at + length new ≤ length xs → (k < at) ⊎ (at + length new ≤ k) → slice_get (overwritten xs at new) k ≡ slice_get xs k
get-kept xs at new k h (inl before) =
    let front : length (take at xs) ≡ at = omega (arith, length-take at xs) in
    let there : k < length (take at xs ++ new) = omega (arith, length-append (take at xs) new) in
    get-left (take at xs ++ new) (drop (at + length new) xs) k there ∙ get-left (take at xs) new k (omega arith) ∙ get-take xs at k before
get-kept xs at new k h (inr behind) =
    let front : length (take at xs) ≡ at = omega (arith, length-take at xs) in
    let whole : length (take at xs ++ new) ≡ at + length new = omega (arith, length-append (take at xs) new) in
    let same : at + length new + (k - (at + length new)) ≡ k = omega arith in
    get-right (take at xs ++ new) (drop (at + length new) xs) k (k - (at + length new)) (omega arith)
    ∙ get-drop xs (at + length new) (k - (at + length new))
    ∙ ap (slice_get xs) same

window-same : (m : Memory) (r : Region) (bytes : List ℕ) → window (with_window m r bytes) r ≡ bytes
window-same m Stack bytes = refl
window-same m Input bytes = refl
window-same m Output bytes = refl

-- the byte of the changed window
same-window : (m : Memory) (r : Region) (address other : ℕ) (new : List ℕ) → Covers m r address (length new) → (other < address) ⊎ (address + length new ≤ other) → byte_in (written m r (address - base r) new) r other ≡ byte_in m r other
same-window m r address other new c away =
    let n : Memory = written m r (address - base r) new in
    elim (cases_lt other (base r)) [
      | inl below ↦
          let off : nat_le (base r) other ≡ false = lt-leb (base r) other below in
          cond-false (nat_le (base r) other) (slice_get (window n r) (other - base r)) None off
          ∙ sym (cond-false (nat_le (base r) other) (slice_get (window m r) (other - base r)) None off)
      | inr from ↦
          let on : nat_le (base r) other ≡ true = le-leb (base r) other from in
          let apart : (other - base r < address - base r) ⊎ (address - base r + length new ≤ other - base r) = elim away [ inl x ↦ inl (omega (arith, c.0)) | inr x ↦ inr (omega (arith, c.0)) ] in
          cond-true (nat_le (base r) other) (slice_get (window n r) (other - base r)) None on
          ∙ ap (λ (xs : List ℕ). slice_get xs (other - base r)) (window-same m r (overwritten (window m r) (address - base r) new))
          ∙ get-kept (window m r) (address - base r) new (other - base r) (omega (arith, c.0, c.1)) apart
          ∙ sym (cond-true (nat_le (base r) other) (slice_get (window m r) (other - base r)) None on)
    ]

-- a write changes no byte before its place or behind it
pub byte-kept : (m : Memory) (r : Region) (address other : ℕ) (new : List ℕ) → Covers m r address (length new) → (other < address) ⊎ (address + length new ≤ other) → byte_at (written m r (address - base r) new) other ≡ byte_at m other
byte-kept m Stack address other new c away = ap (λ x. option_or x (option_or (byte_in m Input other) (byte_in m Output other))) (same-window m Stack address other new c away)
byte-kept m Input address other new c away = ap (λ x. option_or (byte_in m Stack other) (option_or x (byte_in m Output other))) (same-window m Input address other new c away)
byte-kept m Output address other new c away = ap (λ x. option_or (byte_in m Stack other) (option_or (byte_in m Input other) x)) (same-window m Output address other new c away)
