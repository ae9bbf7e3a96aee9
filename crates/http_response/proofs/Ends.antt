-- On how many numbers have their delimiters in so many bytes: no two end at the same byte.
use Rattle.std.proofs.Common.{◌≡◌, ◌∙◌, sym, ap, refl, subst, ℕ, zero, suc, ◌+◌, ◌<◌, ◌≤◌, ◌^◌, ◌⊎◌, inl, inr, Bool, true, false, not, if◌then◌else◌, List, [], ◌∷◌, ◌++◌, Some, length, take, drop, get_or, arith, ⊎_elim, add-one, append-nil, take-append-drop, length-append, sum_by, unwrap_or}
use Rattle.std.specs.Prelude.{◌||◌, ◌&&◌, decimal, nat_eq}
use Rattle.std.specs.List.{find, range_with_len, starts_with}
use Rattle.std.specs.Str.Parse.{AllDigits}
use Rattle.std.proofs.lemmas.Bool.{cases_Bool, cases_lt, cases_eq}
use Rattle.std.proofs.lemmas.Fmt.{decimal_injective, decimal_is_IsNumeral}
use Rattle.std.proofs.lemmas.List.{take_more, take-append-le, drop_all}
use Rattle.std.proofs.lemmas.List.Sums.{sum_by-cons}
use Rattle.std.proofs.lemmas.Str.Parse.{digit_from_value}
use Rattle.std.proofs.Math.Seq.{take-append_seam}
use Rattle.key_state.specs.declared.content.Sibling.{Sibling}
use Rattle.http_response.specs.Parts.{bytes_of, occurs_in, delimiter, is_free, boundary_of, IsLeastFree}
use Rattle.http_response.proofs.Delimiters.{begins_is, begins_from}

-- ---- how many numbers pass a test

-- how many of the k numbers from a on pass
abbrev pub how_many : (ℕ → Bool) → ℕ → ℕ → ℕ
how_many p a zero = 0
how_many p a (suc k) = if p a then suc (how_many p (a + 1) k) else how_many p (a + 1) k

counted : (p : ℕ → Bool) (a k : ℕ) → p a ≡ true → how_many p a (suc k) ≡ suc (how_many p (a + 1) k)
counted p a k e = ap (λ t. if t then suc (how_many p (a + 1) k) else how_many p (a + 1) k) e

passed_over : (p : ℕ → Bool) (a k : ℕ) → p a ≡ false → how_many p a (suc k) ≡ how_many p (a + 1) k
passed_over p a k e = ap (λ t. if t then suc (how_many p (a + 1) k) else how_many p (a + 1) k) e

at_most_one_less : (p : ℕ → Bool) (a k : ℕ) → how_many p (a + 1) k ≤ how_many p a (suc k)
at_most_one_less p a k = ⊎_elim (λ yes. omega (arith, counted p a k yes)) (λ no. omega (arith, passed_over p a k no)) (cases_Bool (p a))

none_many : (p : ℕ → Bool) (a k : ℕ) → ((n : ℕ) → a ≤ n → n < a + k → p n ≡ false) → how_many p a k ≡ 0
none_many p a zero none = refl
none_many p a (suc k) none =
    passed_over p a k (none a (omega arith) (omega arith))
    ∙ none_many p (a + 1) k (λ n low high. none n (omega (arith, low)) (omega (arith, high)))

-- what passes one test passes the second or the third
either_many : (p q r : ℕ → Bool) (a k : ℕ) → ((n : ℕ) → p n ≡ true → (q n ≡ true) ⊎ (r n ≡ true))
    → how_many p a k ≤ how_many q a k + how_many r a k
either_many p q r a zero into = omega arith
either_many p q r a (suc k) into =
    let rest = either_many p q r (a + 1) k into in
    let q_less = at_most_one_less q a k in
    let r_less = at_most_one_less r a k in
    ⊎_elim
    (λ (yes : p a ≡ true).
    ⊎_elim
    (λ (here : q a ≡ true). omega (arith, rest, r_less, counted p a k yes, counted q a k here))
    (λ (here : r a ≡ true). omega (arith, rest, q_less, counted p a k yes, counted r a k here))
    (into a yes))
    (λ (no : p a ≡ false). omega (arith, rest, q_less, r_less, passed_over p a k no))
    (cases_Bool (p a))

-- what passes one test passes the other, but for one number
one_more : (p q : ℕ → Bool) (E : ℕ → Type 0) (a k : ℕ)
    → ((n : ℕ) → p n ≡ true → (q n ≡ true) ⊎ E n) → ((m n : ℕ) → m < a + k → n < a + k → E m → E n → m ≡ n)
    → how_many p a k ≤ how_many q a k + 1
one_more p q E a zero into alike = omega arith
one_more p q E a (suc k) into alike =
    let rest = one_more p q E (a + 1) k into (λ m n low high. alike m n (omega (arith, low)) (omega (arith, high))) in
    let less = at_most_one_less q a k in
    ⊎_elim
    (λ (yes : p a ≡ true).
    ⊎_elim
    (λ (here : q a ≡ true). omega (arith, rest, counted p a k yes, counted q a k here))
    (λ (here : E a).
    omega (
      arith,
      less,
      counted p a k yes,
      others p q E (a + 1) k
          (λ n from low is. ⊎_elim (λ (passes : q n ≡ true). passes) (λ (ends : E n). absurd (omega (arith, from, alike a n (omega arith) (omega (arith, low)) here ends))) (into n is)),
    ))
    (into a yes))
    (λ (no : p a ≡ false). omega (arith, rest, less, passed_over p a k no))
    (cases_Bool (p a))
  where
    others : (p q : ℕ → Bool) (E : ℕ → Type 0) (a k : ℕ) → ((n : ℕ) → a ≤ n → n < a + k → p n ≡ true → q n ≡ true) → how_many p a k ≤ how_many q a k
    others p q E a zero into = omega arith
    others p q E a (suc k) into =
        let rest = others p q E (a + 1) k (λ n low high. into n (omega (arith, low)) (omega (arith, high))) in
        ⊎_elim
        (λ (yes : p a ≡ true). omega (arith, rest, counted p a k yes, counted q a k (into a (omega arith) (omega arith) yes)))
        (λ (no : p a ≡ false). omega (arith, rest, at_most_one_less q a k, passed_over p a k no))
        (cases_Bool (p a))

-- ---- the ends of delimiters

no_dash : (g rest : List ℕ) → AllDigits 10 (g ++ 45 ∷ rest) → ⊥
no_dash [] rest all = omega (arith, digit_from_value 45 all.0)
no_dash (b ∷ g) rest all = no_dash g rest all.1

-- no delimiter ends with another
not_within : (g : List ℕ) (b m n : ℕ) → m < 2 ^ 64 → delimiter m ≡ b ∷ g ++ delimiter n → ⊥
not_within [] b m n small e = absurd (omega (arith, ap (λ l. get_or l 2 0) e))
not_within (c ∷ []) b m n small e = absurd (omega (arith, ap (λ l. get_or l 2 0) e))
not_within (c ∷ d ∷ g) b m n small e =
    no_dash g (45 ∷ 115 ∷ decimal n) (subst (AllDigits 10) (ap (drop 3) e) (decimal_is_IsNumeral m small).0.1)

ends_alike : (f g : List ℕ) (m n : ℕ) → m < 2 ^ 64 → n < 2 ^ 64 → f ++ delimiter m ≡ g ++ delimiter n → m ≡ n
ends_alike [] [] m n small fits e = decimal_injective m n small fits (ap (drop 3) e)
ends_alike [] (b ∷ g) m n small fits e = absurd (not_within g b m n small e)
ends_alike (b ∷ f) [] m n small fits e = absurd (not_within f b n m fits (sym e))
ends_alike (b ∷ f) (c ∷ g) m n small fits e = ends_alike f g m n small fits (ap (drop 1) e)

-- ---- one byte more

occurs_here : (bytes needle : List ℕ) → starts_with nat_eq bytes needle ≡ true → occurs_in needle bytes ≡ true
occurs_here [] needle e = e
occurs_here (b ∷ bytes) needle e = ap (λ t. t || occurs_in needle bytes) e

-- bytes end with a needle
abbrev Ends : List ℕ → List ℕ → Type 0
Ends bytes needle = (front : List ℕ) × (bytes ≡ front ++ needle)

begins_more : (bytes needle : List ℕ) (b : ℕ) → starts_with nat_eq (bytes ++ b ∷ []) needle ≡ true
    → (occurs_in needle bytes ≡ true) ⊎ Ends (bytes ++ b ∷ []) needle
begins_more bytes needle b e =
    let all : List ℕ = bytes ++ b ∷ [] in
    let is : all ≡ needle ++ drop (length needle) all = begins_is all needle e in
    ⊎_elim
    (λ (longer : length bytes < length needle).
    inr ([], is ∙ (ap (λ l. needle ++ l) (drop_all (length needle) all (omega (arith, longer, length-append bytes (b ∷ [])))) ∙ append-nil needle)))
    (λ (short : length needle ≤ length bytes).
    let front : take (length needle) bytes ≡ needle =
    sym (take-append-le (length needle) bytes (b ∷ []) short) ∙ (ap (take (length needle)) is ∙ take-append_seam needle (drop (length needle) all)) in
    inl (occurs_here bytes needle (begins_from bytes needle (drop (length needle) bytes)
    (sym (take-append-drop (length needle) bytes) ∙ ap (λ l. l ++ drop (length needle) bytes) front))))
    (cases_lt (length bytes) (length needle))

or_second : (a b : Bool) → a ≡ false → (a || b) ≡ true → b ≡ true
or_second a b off e = sym (ap (λ t. t || b) off) ∙ e

or_is_true : (a b : Bool) → b ≡ true → (a || b) ≡ true
or_is_true true b e = refl
or_is_true false b e = e

occurs_more : (bytes needle : List ℕ) (b : ℕ) → occurs_in needle (bytes ++ b ∷ []) ≡ true
    → (occurs_in needle bytes ≡ true) ⊎ Ends (bytes ++ b ∷ []) needle
occurs_more [] needle b e =
    ⊎_elim
    (λ (here : starts_with nat_eq (b ∷ []) needle ≡ true). begins_more [] needle b here)
    (λ (no : starts_with nat_eq (b ∷ []) needle ≡ false). inl (or_second _ _ no e))
    (cases_Bool (starts_with nat_eq (b ∷ []) needle))
occurs_more (c ∷ bytes) needle b e =
    ⊎_elim
    (λ (here : starts_with nat_eq (c ∷ bytes ++ b ∷ []) needle ≡ true). begins_more (c ∷ bytes) needle b here)
    (λ (no : starts_with nat_eq (c ∷ bytes ++ b ∷ []) needle ≡ false).
    ⊎_elim
    (λ (behind : occurs_in needle bytes ≡ true). inl (or_is_true (starts_with nat_eq (c ∷ bytes) needle) (occurs_in needle bytes) behind))
    (λ (ends : Ends (bytes ++ b ∷ []) needle). inr (c ∷ ends.0, ap (λ l. c ∷ l) ends.1))
    (occurs_more bytes needle b (or_second _ _ no e)))
    (cases_Bool (starts_with nat_eq (c ∷ bytes ++ b ∷ []) needle))

-- ---- delimiters in bytes, and in values

in_front : (bytes : List ℕ) (i k : ℕ) → k ≤ 2 ^ 64 → i ≤ length bytes → how_many (λ n. occurs_in (delimiter n) (take i bytes)) 0 k ≤ i
in_front bytes zero k fits inside = omega (arith, none_many (λ n. occurs_in (delimiter n) (take 0 bytes)) 0 k (λ n low high. ap (occurs_in (delimiter n)) (none_taken bytes)))
  where
    none_taken : (xs : List ℕ) → take 0 xs ≡ []
    none_taken [] = refl
    none_taken (x ∷ xs) = refl
in_front bytes (suc i) k fits inside =
    let b = get_or bytes i 0 in
    let more : take (suc i) bytes ≡ take i bytes ++ b ∷ [] = ap (λ (j : ℕ). take j bytes) (sym (add-one i)) ∙ take_more bytes i 0 (omega (arith, inside)) in
    let rest = in_front bytes i k fits (omega (arith, inside)) in
    let step = one_more (λ n. occurs_in (delimiter n) (take (suc i) bytes)) (λ n. occurs_in (delimiter n) (take i bytes))
    (λ n. Ends (take i bytes ++ b ∷ []) (delimiter n)) 0 k
    (λ n is. occurs_more (take i bytes) (delimiter n) b (sym (ap (occurs_in (delimiter n)) more) ∙ is))
    (λ m n low high em en. ends_alike em.0 en.0 m n (omega (arith, low, fits)) (omega (arith, high, fits)) (sym em.1 ∙ en.1)) in
    omega (arith, rest, step)

in_bytes : (bytes : List ℕ) (k : ℕ) → k ≤ 2 ^ 64 → how_many (λ n. occurs_in (delimiter n) bytes) 0 k ≤ length bytes
in_bytes bytes k fits =
    subst (λ (l : List ℕ). how_many (λ n. occurs_in (delimiter n) l) 0 k ≤ length bytes) (taken bytes) (in_front bytes (length bytes) k fits (omega arith))
  where
    taken : (xs : List ℕ) → take (length xs) xs ≡ xs
    taken [] = refl
    taken (x ∷ xs) = ap (λ l. x ∷ l) (taken xs)

barred_by : (here rest : Bool) → not (not here && rest) ≡ true → (here ≡ true) ⊎ (not rest ≡ true)
barred_by true rest e = inl refl
barred_by false rest e = inr e

pub in_values : (siblings : List Sibling) (k : ℕ) → k ≤ 2 ^ 64
    → how_many (λ n. not (is_free siblings n)) 0 k ≤ sum_by (λ s. length (bytes_of s.content)) siblings
in_values [] k fits = omega (arith, none_many (λ n. not (is_free [] n)) 0 k (λ n low high. refl))
in_values (s ∷ siblings) k fits =
    let here = in_bytes (bytes_of s.content) k fits in
    let rest = in_values siblings k fits in
    let both = either_many (λ n. not (is_free (s ∷ siblings) n)) (λ n. occurs_in (delimiter n) (bytes_of s.content)) (λ n. not (is_free siblings n)) 0 k
    (λ n is. barred_by (occurs_in (delimiter n) (bytes_of s.content)) (is_free siblings n) is) in
    omega (arith, here, rest, both, sum_by-cons (λ s. length (bytes_of s.content)) s siblings)

-- ---- the least

-- where not all are barred, the first that isn't is found
first_found : (p : ℕ → Bool) (a k : ℕ) → how_many (λ n. not (p n)) a k < k
    → (n : ℕ) × (find p (range_with_len a k) ≡ Some n) × (p n ≡ true) × ((j : ℕ) → a ≤ j → j < n → p j ≡ false)
first_found p a zero few = absurd (omega (arith, few))
first_found p a (suc k) few =
    ⊎_elim
    (λ (yes : p a ≡ true). (a, ap (λ t. if t then Some a else find p (range_with_len (a + 1) k)) yes, yes, λ j low high. absurd (omega (arith, low, high))))
    (λ (no : p a ≡ false).
    let rest = first_found p (a + 1) k (omega (arith, few, counted (λ n. not (p n)) a k (ap not no))) in (
      rest.0,
      ap (λ t. if t then Some a else find p (range_with_len (a + 1) k)) no ∙ rest.1,
      rest.2,
      λ j low high. ⊎_elim (λ (same : a ≡ j). ap p (sym same) ∙ no) (λ (other : a ≡ j → ⊥). rest.3 j (omega (arith, low, other)) high) (cases_eq a j),
    ))
    (cases_Bool (p a))

-- the boundary's number is the least
pub least_free : (siblings : List Sibling) → sum_by (λ s. length (bytes_of s.content)) siblings < 2 ^ 64 → IsLeastFree siblings (boundary_of siblings)
least_free siblings fits =
    let size = sum_by (λ s. length (bytes_of s.content)) siblings + 1 in
    let found = first_found (is_free siblings) 0 size (omega (arith, in_values siblings size (omega (arith, fits)))) in
    subst (IsLeastFree siblings) (sym (ap (λ o. unwrap_or o 0) found.1)) (record { free = found.2; least = λ k lt. found.3 k (omega arith) lt })
