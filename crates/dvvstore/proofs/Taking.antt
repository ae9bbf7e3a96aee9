-- Things that are made one after the other, each with something that is taken from the end of a list.
use Rattle.std.proofs.Common.{◌≡◌, ◌∙◌, ◌+◌, ◌++◌, ◌∷◌, [], ℕ, List, length, map, reverse, sym, ap, refl, subst, arith}
use Rattle.std.specs.List.{All}
use Rattle.std.proofs.lemmas.List.Elements.{All-push}
use Rattle.std.proofs.lemmas.List.{map-append, reverse-append, reverse-reverse, length-reverse, length-append, length-map, nil_from_length, append_assoc}

module _ {S A : Type 0} (of : S → A) where
  -- one more is made
  pub made_one : (made more : List S) (one : S) (xs : List A) (x : A) → map of made ≡ xs → more ≡ made ++ one ∷ [] → of one ≡ x → map of more ≡ xs ++ x ∷ []
  made_one made more one xs x is grown its =
      ap (map of) grown ∙ (map-append of made (one ∷ []) ∙ (ap (λ l. l ++ of one ∷ []) is ∙ ap (λ y. xs ++ y ∷ []) its))

  pub all_made_one : (P : A → Type 0) (made more : List S) (one : S) → All P (map of made) → more ≡ made ++ one ∷ [] → P (of one) → All P (map of more)
  all_made_one P made more one all grown p =
      subst (All P) (sym (made_one made more one (map of made) (of one) refl grown refl)) (All-push P (map of made) (of one) all p)

  -- what is left and what was taken, the last of it first, are all; one more is taken
  pub taken_one : (left rest all : List A) (made more : List S) (one : S) (x : A) → left ++ reverse (map of made) ≡ all
      → left ≡ rest ++ x ∷ [] → more ≡ made ++ one ∷ [] → of one ≡ x → rest ++ reverse (map of more) ≡ all
  taken_one left rest all made more one x is last grown its =
      ap (λ l. rest ++ reverse (map of l)) grown
      ∙ (ap (λ l. rest ++ reverse l) (map-append of made (one ∷ []))
      ∙ (ap (λ l. rest ++ l) (reverse-append (map of made) (of one ∷ []))
      ∙ (sym (append_assoc rest (of one ∷ []) (reverse (map of made)))
      ∙ (ap (λ y. (rest ++ y ∷ []) ++ reverse (map of made)) its
      ∙ (ap (λ l. l ++ reverse (map of made)) (sym last) ∙ is)))))

  -- once as many were taken as there are, they are all of them, the last first
  pub all_taken : (rest all : List A) (made : List S) → rest ++ reverse (map of made) ≡ all → length made ≡ length all → map of made ≡ reverse all
  all_taken rest all made is even =
      let lengths : length rest + length made ≡ length made =
      ap (λ n. length rest + n) (sym (length-map made of) ∙ sym (length-reverse (map of made))) ∙ (sym (length-append rest (reverse (map of made))) ∙ (ap length is ∙ sym even)) in
      let none : rest ≡ [] = nil_from_length rest (omega arith) in
      sym (reverse-reverse (map of made)) ∙ ap reverse (ap (λ l. l ++ reverse (map of made)) (sym none) ∙ is)

  -- one more is copied
  pub copied_one : (xs more : List A) (made : List S) (one : S) (x : A) → xs ≡ map of made → more ≡ xs ++ x ∷ [] → x ≡ of one → more ≡ map of (made ++ one ∷ [])
  copied_one xs more made one x is grown its =
      grown ∙ (ap (λ l. l ++ x ∷ []) is ∙ (ap (λ y. map of made ++ y ∷ []) its ∙ sym (map-append of made (one ∷ []))))

  -- so there are as many
  pub counted_one : (len : ℕ) (more : List A) (made : List S) (one : S) → len ≡ length more → more ≡ map of (made ++ one ∷ []) → len ≡ length (made ++ one ∷ [])
  counted_one len more made one is same = is ∙ (ap length same ∙ length-map (made ++ one ∷ []) of)
