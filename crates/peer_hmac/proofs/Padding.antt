-- A key that is padded byte by byte.
use Rattle.std.proofs.Common.{◌≡◌, ℕ, zero, suc, ◌+◌, ◌-◌, ◌<◌, ◌≤◌, List, [], ◌∷◌, ◌++◌, length, map, replicate, take, set, get_or, refl, ap, sym, ◌∙◌, arith, append_assoc, bit_xor, length-take}
use Rattle.std.proofs.Math.Seq.{set-append_seam, take-suc}
use Rattle.std.proofs.lemmas.List.{map-append, take_all, length-map}

module _ (pad : ℕ) where
  abbrev pub turned : ℕ → ℕ
  turned b = bit_xor b pad

  front_length : (i : ℕ) (key : List ℕ) → i < length key → length (map turned (take i key)) ≡ i
  front_length i key lt = simp (length-map, length-take) (omega (arith, lt))

  pub one_more : (i : ℕ) (key : List ℕ) → i < length key → length key ≤ 64
      → set (map turned (take i key) ++ replicate (64 - i) pad) i (turned (get_or key i 0)) ≡ map turned (take (i + 1) key) ++ replicate (64 - (i + 1)) pad
  one_more i key lt few =
      let front : List ℕ = map turned (take i key) in
      let more : 64 - i ≡ suc (64 - (i + 1)) = omega (arith, lt, few) in
      let next : suc i ≡ i + 1 = omega arith in
      ap (λ (n : ℕ). set (front ++ replicate n pad) i (turned (get_or key i 0))) more
      ∙ ap (λ (n : ℕ). set (front ++ pad ∷ replicate (64 - (i + 1)) pad) n (turned (get_or key i 0))) (sym (front_length i key lt))
      ∙ set-append_seam front pad (replicate (64 - (i + 1)) pad) (turned (get_or key i 0))
      ∙ sym (append_assoc front (turned (get_or key i 0) ∷ []) (replicate (64 - (i + 1)) pad))
      ∙ ap (λ (xs : List ℕ). xs ++ replicate (64 - (i + 1)) pad) (sym (map-append turned (take i key) (get_or key i 0 ∷ [])))
      ∙ ap (λ (xs : List ℕ). map turned xs ++ replicate (64 - (i + 1)) pad) (sym (take-suc key i 0 lt))
      ∙ ap (λ (n : ℕ). map turned (take n key) ++ replicate (64 - (i + 1)) pad) next

  -- zeros, each of them turned
  map_zeros : (n : ℕ) → map turned (replicate n 0) ≡ replicate n pad
  map_zeros zero = refl
  map_zeros (suc n) = ap (λ (xs : List ℕ). pad ∷ xs) (map_zeros n)

  pub all_turned : (i : ℕ) (key : List ℕ) → i ≡ length key → map turned (take i key) ++ replicate (64 - i) pad ≡ map turned (key ++ replicate (64 - length key) 0)
  all_turned i key is =
      ap (λ (n : ℕ). map turned (take n key) ++ replicate (64 - n) pad) is
      ∙ ap (λ (xs : List ℕ). map turned xs ++ replicate (64 - length key) pad) (take_all (length key) key (omega arith))
      ∙ ap (λ (xs : List ℕ). map turned key ++ xs) (sym (map_zeros (64 - length key)))
      ∙ sym (map-append turned key (replicate (64 - length key) 0))
