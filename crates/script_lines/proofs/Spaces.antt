-- The words of a line, as they are parted.
use Rattle.std.proofs.Common.{◌≡◌, ℕ, zero, suc, ◌<◌, ◌≤◌, List, [], ◌∷◌, ◌++◌, length, get_or, refl, sym, ap, subst, ◌∙◌, arith, append_assoc, eq-eqb, if◌then◌else◌}
use Rattle.std.specs.Prelude.{◌==◌, Bool, true, false}
use Rattle.std.specs.Borrow.{Bor}
use Rattle.std.specs.Prelude.{MatchBool}
use Rattle.std.specs.List.{AllWithin, IsFirstMatchOrLen}
use Rattle.std.proofs.lemmas.List.{append-nil}
use Rattle.std.proofs.lemmas.Bool.{cond-false, cond-true, ne_eqb}
use Rattle.std.proofs.lemmas.Bool.Decides.{nat_tests}
use Rattle.script_lines.specs.Grammar.{lent}
use Rattle.script_lines.specs.Lines.{begin_line, words_in}

-- bytes without a space are one word
pub one_word : (xs : List ℕ) → ((k : ℕ) → k < length xs → get_or xs k 0 ≡ 32 → ⊥) → words_in xs ≡ xs ∷ []
unfolding words_in
one_word [] none = refl
one_word (x ∷ xs) none =
    cond-false (x == 32) ([] ∷ words_in xs) (begin_line x (words_in xs)) (ne_eqb x 32 (none 0 (omega arith))) ∙ ap (begin_line x) (one_word xs (λ k h. none (suc k) (omega arith)))

-- a word ends at the first space
pub first_word : (xs rest : List ℕ) (y : ℕ) → y ≡ 32 → ((k : ℕ) → k < length xs → get_or xs k 0 ≡ 32 → ⊥) → words_in (xs ++ y ∷ rest) ≡ xs ∷ words_in rest
unfolding words_in
first_word [] rest y space none = cond-true (y == 32) ([] ∷ words_in rest) (begin_line y (words_in rest)) (eq-eqb y 32 space)
first_word (x ∷ xs) rest y space none =
    cond-false (x == 32) ([] ∷ words_in (xs ++ y ∷ rest)) (begin_line x (words_in (xs ++ y ∷ rest))) (ne_eqb x 32 (none 0 (omega arith)))
    ∙ ap (begin_line x) (first_word xs rest y space (λ k h. none (suc k) (omega arith)))

-- one more is lent
pub lent_more : (words more : List (Bor (List ℕ))) (word : Bor (List ℕ)) → more ≡ words ++ word ∷ [] → lent more ≡ lent words ++ word.now ∷ []
lent_more words more word is = ap lent is ∙ go words
  where
    go : (ws : List (Bor (List ℕ))) → lent (ws ++ word ∷ []) ≡ lent ws ++ word.now ∷ []
    go [] = refl
    go (w ∷ ws) = ap (λ (rest : List (List ℕ)). w.now ∷ rest) (go ws)

-- a short list is told by its elements
pub six_long : (xs : List ℕ) (a b c d e f : ℕ) → 6 ≤ length xs → length xs < 7 → get_or xs 0 0 ≡ a → get_or xs 1 0 ≡ b → get_or xs 2 0 ≡ c → get_or xs 3 0 ≡ d → get_or xs 4 0 ≡ e → get_or xs 5 0 ≡ f
    → xs ≡ a ∷ b ∷ c ∷ d ∷ e ∷ f ∷ []
six_long (u ∷ v ∷ w ∷ x ∷ y ∷ z ∷ []) a b c d e f least most g h i j k l = rw (g, h, i, j, k, l) refl
six_long (u ∷ v ∷ w ∷ x ∷ y ∷ z ∷ zz ∷ more) a b c d e f least most g h i j k l = absurd (omega (arith, most))
six_long (u ∷ v ∷ w ∷ x ∷ y ∷ []) a b c d e f least most g h i j k l = absurd (omega (arith, least))
six_long (u ∷ v ∷ w ∷ x ∷ []) a b c d e f least most g h i j k l = absurd (omega (arith, least))
six_long (u ∷ v ∷ w ∷ []) a b c d e f least most g h i j k l = absurd (omega (arith, least))
six_long (u ∷ v ∷ []) a b c d e f least most g h i j k l = absurd (omega (arith, least))
six_long (u ∷ []) a b c d e f least most g h i j k l = absurd (omega (arith, least))
six_long [] a b c d e f least most g h i j k l = absurd (omega (arith, least))

pub seven_long : (xs : List ℕ) (a b c d e f t : ℕ) → 7 ≤ length xs → length xs < 8 → get_or xs 0 0 ≡ a → get_or xs 1 0 ≡ b → get_or xs 2 0 ≡ c → get_or xs 3 0 ≡ d → get_or xs 4 0 ≡ e → get_or xs 5 0 ≡ f → get_or xs 6 0 ≡ t
    → xs ≡ a ∷ b ∷ c ∷ d ∷ e ∷ f ∷ t ∷ []
seven_long [] a b c d e f t least most g h i j k l m = absurd (omega (arith, least))
seven_long (x ∷ xs) a b c d e f t least most g h i j k l m = rw (g, six_long xs b c d e f t (omega (arith, least)) (omega (arith, most)) h i j k l m) refl

-- the words that are still to come of what is left of a line
abbrev to_come : Bool → List ℕ → List (List ℕ)
to_come done rest = if done then [] else words_in rest

pub begun : (line : List ℕ) (words : List (Bor (List ℕ))) (rest : List ℕ) (done : Bool) → words ≡ [] → rest ≡ line → done ≡ false → words_in line ≡ lent words ++ to_come done rest
begun line words rest done none all going = rw (none, all, going) refl

pub ended : (line : List ℕ) (words : List (Bor (List ℕ))) (rest : List ℕ) (done : Bool) → words_in line ≡ lent words ++ to_come done rest → done ≡ true → lent words ≡ words_in line
ended line words rest done so_far over =
    sym (so_far ∙ ap (λ (b : Bool). lent words ++ to_come b rest) over ∙ append-nil (lent words))

at_end : (xs rest : List ℕ) (y : ℕ) → get_or (xs ++ y ∷ rest) (length xs) 0 ≡ y
at_end [] rest y = refl
at_end (x ∷ xs) rest y = at_end xs rest y

in_front : (xs rest : List ℕ) (k : ℕ) → k < length xs → get_or (xs ++ rest) k 0 ≡ get_or xs k 0
in_front [] rest k lt = absurd (omega (arith, lt))
in_front (x ∷ xs) rest zero lt = refl
in_front (x ∷ xs) rest (suc k) lt = in_front xs rest k (omega (arith, lt))

no_space : (xs : List ℕ) (n : ℕ) → AllWithin (λ y. (y == 32) ≡ false) xs 0 n → (k : ℕ) → k < n → get_or xs k 0 ≡ 32 → ⊥
no_space xs n all k lt is = let clash : false ≡ true = sym (all k 0 (omega arith) lt) ∙ eq-eqb (get_or xs k 0) 32 is in cc

is_space : (y : ℕ) → (y == 32) ≡ true → y ≡ 32
is_space y e = grind (arith, nat_tests)

-- a word more was parted
pub word_more : (line : List ℕ) (words more : List (Bor (List ℕ))) (word : Bor (List ℕ)) (rest left : List ℕ) (done over : Bool) → words_in line ≡ lent words ++ to_come done rest → more ≡ words ++ word ∷ []
    → done ≡ false → MatchBool over (rest ≡ word.now) ((y : ℕ) × (rest ≡ word.now ++ (y ∷ left))) → IsFirstMatchOrLen (λ (b : ℕ). b == 32) rest (length word.now) → words_in line ≡ lent more ++ to_come over left
word_more line words more word rest left done true so_far is going parts first =
    so_far ∙ ap (λ (b : Bool). lent words ++ to_come b rest) going ∙ ap (λ (xs : List ℕ). lent words ++ words_in xs) parts
    ∙ ap (λ (ws : List (List ℕ)). lent words ++ ws) (one_word word.now (λ k h. no_space word.now (length word.now) (subst (λ (xs : List ℕ). AllWithin (λ y. (y == 32) ≡ false) xs 0 (length word.now)) parts first.0) k h))
    ∙ sym (lent_more words more word is) ∙ sym (append-nil (lent more))
word_more line words more word rest left done false so_far is going (y, parts) first =
    let here : IsFirstMatchOrLen (λ (b : ℕ). b == 32) (word.now ++ y ∷ left) (length word.now) = subst (λ (xs : List ℕ). IsFirstMatchOrLen (λ (b : ℕ). b == 32) xs (length word.now)) parts first in
    let space : y ≡ 32 = sym (at_end word.now left y) ∙ is_space (get_or (word.now ++ y ∷ left) (length word.now) 0) (here.1 (long word.now left y) 0) in
    so_far ∙ ap (λ (b : Bool). lent words ++ to_come b rest) going ∙ ap (λ (xs : List ℕ). lent words ++ words_in xs) parts
    ∙ ap (λ (ws : List (List ℕ)). lent words ++ ws) (first_word word.now left y space (λ k h e. no_space (word.now ++ y ∷ left) (length word.now) here.0 k h (in_front word.now (y ∷ left) k h ∙ e)))
    ∙ sym (append_assoc (lent words) (word.now ∷ []) (words_in left)) ∙ ap (λ (ws : List (List ℕ)). ws ++ words_in left) (sym (lent_more words more word is))
  where
    long : (xs ys : List ℕ) (z : ℕ) → length xs < length (xs ++ z ∷ ys)
    long [] ys z = omega arith
    long (x ∷ xs) ys z = let h = long xs ys z in omega (arith, h)
