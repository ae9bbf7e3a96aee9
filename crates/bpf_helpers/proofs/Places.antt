-- A search of a needle finds the first of a text's tails that begins with it.
use Rattle.std.proofs.Common.{◌≡◌, ℕ, zero, suc, ◌+◌, ◌<◌, ◌≤◌, true, false, List, [], ◌∷◌, length, drop, Some, None, get_or, refl, sym, ap, ◌∙◌, arith, eqb}
use Rattle.std.specs.Prelude.{slice_index}
use Rattle.std.specs.Option.{option_map_or}
use Rattle.std.proofs.lemmas.List.{get_or-drop, length-drop}
use Rattle.bpf_helpers.proofs.Positions.{position-is, position-none}
use Rattle.std.proofs.lemmas.Bool.{eq-eqb, eqb-true, and_parts, false_from_ne_true}
use Rattle.memchr.specs.Find.{OccursAt, FindsNeedle}
use Rattle.bpf_helpers.specs.Text.{begins_with, tails, place_of}

-- a needle that stands at the start of a text
starts : (needle text : List ℕ) → length needle ≤ length text → ((j : ℕ) → j < length needle → slice_index text j ≡ slice_index needle j) → begins_with needle text ≡ true
starts [] text h r = refl
starts (n ∷ needle) [] h r = absurd (omega arith)
starts (n ∷ needle) (b ∷ text) h r =
    let first : b ≡ n = r 0 (omega arith) in
    let rest = starts needle text (omega arith) (λ j below. r (suc j) (omega arith)) in
    rw (eq-eqb n b (sym first)) rest

-- and one that does not
begun : (needle text : List ℕ) → begins_with needle text ≡ true → (length needle ≤ length text) × ((j : ℕ) → j < length needle → slice_index text j ≡ slice_index needle j)
begun [] text t = (omega arith, λ j below. absurd (omega arith))
begun (n ∷ needle) [] t = absurd (cc)
begun (n ∷ needle) (b ∷ text) t =
    let parts = and_parts (eqb n b) (begins_with needle text) t in
    let first : n ≡ b = eqb-true n b parts.0 in
    let rest = begun needle text parts.1 in (
      omega (arith, rest.0),
      λ j. elim j as (λ j. j < suc (length needle) → slice_index (b ∷ text) j ≡ slice_index (n ∷ needle) j) [
        | zero ↦ λ below. sym first
        | suc k ↦ λ below. rest.1 k (omega arith)
      ],
    )

length-tails : (text : List ℕ) → length (tails text) ≡ suc (length text)
length-tails [] = refl
length-tails (b ∷ text) = ap suc (length-tails text)

get_or-tails : (text : List ℕ) (k : ℕ) → k ≤ length text → get_or (tails text) k [] ≡ drop k text
get_or-tails [] zero h = refl
get_or-tails [] (suc k) h = absurd (omega arith)
get_or-tails (b ∷ text) zero h = refl
get_or-tails (b ∷ text) (suc k) h = get_or-tails text k (omega arith)

-- what a place where the needle stands, or does not, says of the tail from there on
stands : (text needle : List ℕ) (k : ℕ) → OccursAt text needle k → begins_with needle (drop k text) ≡ true
stands text needle k occurs =
    let fits : length needle ≤ length (drop k text) = omega (arith, length-drop k text, occurs.fits) in
    starts needle (drop k text) fits (λ j below. get_or-drop k text j 0 ∙ occurs.reads j below)

stood : (text needle : List ℕ) (k : ℕ) → k ≤ length text → begins_with needle (drop k text) ≡ true → OccursAt text needle k
stood text needle k h t =
    let parts = begun needle (drop k text) t in
    record { fits = omega (arith, length-drop k text, parts.0); reads = λ j below. sym (get_or-drop k text j 0) ∙ parts.1 j below }

-- the tail from a place on does not begin with a needle that does not stand there
fails : (text needle : List ℕ) (k : ℕ) → k ≤ length text → ¬ OccursAt text needle k → begins_with needle (get_or (tails text) k []) ≡ false
fails text needle k h absent =
    rw (get_or-tails text k h) (false_from_ne_true _ (λ t. absent (stood text needle k h t)))

pub first_place : (text needle : List ℕ) (k : ℕ) → FindsNeedle text needle 0 (Some k) → k + 1 ≡ place_of text needle
first_place text needle k found =
    let h : k ≤ length text = omega (arith, found.1.fits) in
    let place = position-is (begins_with needle) (tails text) k [] (omega (arith, length-tails text))
    (λ j small. fails text needle j (omega arith) (found.0.before j (omega arith) small))
    (rw (get_or-tails text k h) (stands text needle k found.1)) in
    sym (ap (λ place. option_map_or (λ k. k + 1) place 0) place)

pub no_place : (text needle : List ℕ) → FindsNeedle text needle 0 None → 0 ≡ place_of text needle
no_place text needle none =
    let place = position-none (begins_with needle) (tails text) []
    (λ j small. let h : j ≤ length text = omega (arith, length-tails text) in fails text needle j h (none j (omega arith) (omega arith))) in
    sym (ap (λ place. option_map_or (λ k. k + 1) place 0) place)
