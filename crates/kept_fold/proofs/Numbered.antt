-- Contents under an identifier's dots, in order.
use Rattle.std.proofs.Common.{◌≡◌, ℕ, zero, suc, ◌+◌, ◌<◌, ◌≤◌, ◌++◌, inr, Bool, true, List, [], ◌∷◌, length, take, get_or, refl, sym, ap, ◌∙◌, arith, rules, if◌then◌else◌}
use Rattle.std.specs.Prelude.{◌==◌, ◌^◌}
use Rattle.std.specs.List.{AllByRecursion}
use Rattle.std.proofs.lemmas.List.{take_more}
use Rattle.dvv.specs.declared.Dot.{Dot}
use Rattle.dvv.specs.Dots.{IsBefore}
use Rattle.dvv.specs.Clock.{IsClock, counter}
use Rattle.key_state.specs.declared.content.Content.{Content}
use Rattle.key_state.specs.declared.content.Sibling.{Sibling}
use Rattle.key_state.specs.State.{AreInOrder, AreCovered}
use Rattle.kept_fold.specs.Folds.{numbered}

-- a content under an identifier's dot
abbrev pub at_dot : ℕ → ℕ → Content → Sibling
at_dot id n content = record { dot = record { vnode = id; n = n }; content = content }

-- ---- one more

numbered_append : (id n : ℕ) (xs : List Sibling) (x : Sibling) → numbered id n (xs ++ x ∷ []) ≡ numbered id n xs ++ at_dot id (n + length xs) x.content ∷ []
numbered_append id n [] x = ap (λ (k : ℕ). at_dot id k x.content ∷ []) (omega arith)
numbered_append id n (y ∷ xs) x =
    ap (λ (l : List Sibling). at_dot id n y.content ∷ l) (numbered_append id (n + 1) xs x ∙ ap (λ (k : ℕ). numbered id (n + 1) xs ++ at_dot id k x.content ∷ []) (omega arith))

pub numbered_more : (id : ℕ) (xs : List Sibling) (i : ℕ) (x : Sibling) (so_far new : List Sibling) → i < length xs → x ≡ get_or xs i x → so_far ≡ numbered id 1 (take i xs)
    → new ≡ so_far ++ at_dot id (i + 1) x.content ∷ [] → new ≡ numbered id 1 (take (i + 1) xs)
numbered_more id xs i x so_far new lt is so news =
    let len : length (take i xs) ≡ i = length_take i xs (omega arith) in
    news ∙ ap (λ (l : List Sibling). l ++ at_dot id (i + 1) x.content ∷ []) so
    ∙ ap (λ (k : ℕ). numbered id 1 (take i xs) ++ at_dot id k x.content ∷ []) (let e : i + 1 ≡ 1 + length (take i xs) = omega (arith, len) in e)
    ∙ sym (numbered_append id 1 (take i xs) x)
    ∙ ap (λ (l : List Sibling). numbered id 1 l) (sym (take_more xs i x lt ∙ ap (λ (y : Sibling). take i xs ++ y ∷ []) (sym is)))
  where
    length_take : (k : ℕ) (ys : List Sibling) → k ≤ length ys → length (take k ys) ≡ k
    length_take zero ys le = refl
    length_take (suc k) [] le = absurd (omega (arith, le))
    length_take (suc k) (y ∷ ys) le = ap suc (length_take k ys (let l = le in omega (arith, l)))

-- ---- a state

before_all : (id m n : ℕ) (xs : List Sibling) → m < n → AllByRecursion (λ (later : Sibling). IsBefore (record { vnode = id; n = m }) later.dot) (numbered id n xs)
before_all id m n [] lt = tt
before_all id m n (x ∷ xs) lt = (inr (refl, lt), before_all id m (n + 1) xs (let l = lt in omega (arith, l)))

pub numbered_in_order : (id n : ℕ) (xs : List Sibling) → AreInOrder (numbered id n xs)
numbered_in_order id n [] = tt
numbered_in_order id n (x ∷ xs) = (before_all id n (n + 1) xs (omega arith), numbered_in_order id (n + 1) xs)

counter_is : (id n : ℕ) → counter (record { vnode = id; n = n } ∷ []) id ≡ n
counter_is id n = ap (λ (b : Bool). if b then n else 0) (same id)
  where
    same : (k : ℕ) → (k == k) ≡ true
    same k = search rules

covered_all : (id last n : ℕ) (xs : List Sibling) → 1 ≤ n → n + length xs ≤ last + 1 → AreCovered (record { vnode = id; n = last } ∷ []) (numbered id n xs)
covered_all id last n [] one le = tt
covered_all id last n (x ∷ xs) one le =
    let c = counter_is id last in
    ((one, (let l = le in omega (arith, l, c))), covered_all id last (n + 1) xs (omega arith) (let l = le in omega (arith, l)))

pub numbered_covered : (id : ℕ) (xs : List Sibling) → AreCovered (record { vnode = id; n = length xs } ∷ []) (numbered id 1 xs)
numbered_covered id xs = covered_all id (length xs) 1 xs (omega arith) (omega arith)

pub one_entry : (last : Dot) → 1 ≤ last.n → last.n ≤ 2 ^ 62 → IsClock (last ∷ [])
one_entry last first few = record { rising = (omega arith, first, few, tt); few = omega arith }
