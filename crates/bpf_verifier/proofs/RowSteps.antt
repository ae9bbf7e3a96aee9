-- Rows that change at one register, and rows joined from the front.
use Rattle.std.proofs.Common.{◌≡◌, ℕ, zero, suc, ◌+◌, ◌-◌, ◌<◌, ◌≤◌, List, [], ◌∷◌, ◌++◌, length, get_or, set, take, drop, Option, refl, ap, ◌∙◌, subst, arith, add-one}
use Rattle.bpf_ranges.specs.Kinds.{IsKind}
use Rattle.bpf_ranges.specs.Transfer.{join_of}
use Rattle.bpf_semantics.specs.declared.profile.Profile.{Profile}
use Rattle.bpf_ranges.specs.declared.kind.Kind.{Kind}
use Rattle.bpf_ranges.specs.declared.kind.Kind.TheVariants.{Unset}
use Rattle.bpf_verifier.specs.Registers.{Row}
use Rattle.bpf_verifier.specs.Table.{join_rows, joined, AreKinds}
use Rattle.bpf_verifier.specs.Rows.{row_at, AreAlike, HasKinds, AreRowKinds}
use Rattle.std.proofs.lemmas.List.{append-nil, length-drop, take_all}
use Rattle.std.proofs.lemmas.Option.{same_Some}

-- ---- kinds stay kinds

pub kinds_set : (row : Row) (i : ℕ) (k : Kind) → AreKinds row → IsKind k → AreKinds (set row i k)
kinds_set [] i k h hk r = h r
kinds_set (x ∷ row) zero k h hk zero = hk
kinds_set (x ∷ row) zero k h hk (suc r) = h (suc r)
kinds_set (x ∷ row) (suc i) k h hk zero = h zero
kinds_set (x ∷ row) (suc i) k h hk (suc r) = kinds_set row i k (λ n. h (suc n)) hk r

pub kinds_drop : (n : ℕ) (row : Row) → AreKinds row → AreKinds (drop n row)
kinds_drop zero row h = h
kinds_drop (suc n) [] h = h
kinds_drop (suc n) (x ∷ row) h = kinds_drop n row (λ r. h (suc r))

pub kinds_take : (n : ℕ) (row : Row) → AreKinds row → AreKinds (take n row)
kinds_take zero row h r = tt
kinds_take (suc n) [] h r = tt
kinds_take (suc n) (x ∷ row) h zero = h zero
kinds_take (suc n) (x ∷ row) h (suc r) = kinds_take n row (λ i. h (suc i)) r

-- after a call
pub call_sets : (row : Row) (k : Kind) → 11 ≤ length row → set (set (set (set (set (set row 0 k) 1 Unset) 2 Unset) 3 Unset) 4 Unset) 5 Unset ≡ k ∷ Unset ∷ Unset ∷ Unset ∷ Unset ∷ Unset ∷ drop 6 row
call_sets [] k h = absurd (omega arith)
call_sets (a ∷ []) k h = absurd (omega arith)
call_sets (a ∷ b ∷ []) k h = absurd (omega arith)
call_sets (a ∷ b ∷ c ∷ []) k h = absurd (omega arith)
call_sets (a ∷ b ∷ c ∷ d ∷ []) k h = absurd (omega arith)
call_sets (a ∷ b ∷ c ∷ d ∷ e ∷ []) k h = absurd (omega arith)
call_sets (a ∷ b ∷ c ∷ d ∷ e ∷ f ∷ row) k h = refl

module _ (profile : Profile) (low : ℕ) where
  pub row_kinds_set : (rows : List (Option Row)) (i : ℕ) (next : Option Row) → AreRowKinds profile low rows → HasKinds profile low next → AreRowKinds profile low (set rows i next)
  row_kinds_set [] i next h hn k o e = h k o e
  row_kinds_set (r ∷ rows) zero next h hn zero o e = subst (HasKinds profile low) (same_Some _ _ e) hn
  row_kinds_set (r ∷ rows) zero next h hn (suc k) o e = h (suc k) o e
  row_kinds_set (r ∷ rows) (suc i) next h hn zero o e = h zero o e
  row_kinds_set (r ∷ rows) (suc i) next h hn (suc k) o e = row_kinds_set rows i next (λ n. h (suc n)) hn k o e

  pub at_kinds : (rows : List (Option Row)) (k : ℕ) → AreRowKinds profile low rows → HasKinds profile low (row_at rows k)
  at_kinds [] k h = tt
  at_kinds (r ∷ rows) zero h = h zero r refl
  at_kinds (r ∷ rows) (suc k) h = at_kinds rows k (λ n. h (suc n))

-- ---- joins

front : Profile → ℕ → Row → Row → Row
front profile i a b = join_rows profile (take i a) (take i b) ++ drop i a

join_suc : (profile : Profile) (i : ℕ) (a b : Row) (d : Kind) → i < length a → i < length b → set (front profile i a b) i (join_of profile (get_or a i d) (get_or b i d)) ≡ front profile (suc i) a b
unfolding front
join_suc profile i [] b d h g = absurd (omega arith)
join_suc profile i (x ∷ xs) [] d h g = absurd (omega arith)
join_suc profile zero (x ∷ xs) (y ∷ ys) d h g = refl
join_suc profile (suc i) (x ∷ xs) (y ∷ ys) d h g = ap (λ zs. join_of profile x y ∷ zs) (join_suc profile i xs ys d (omega arith) (omega arith))

front_at : (profile : Profile) (i : ℕ) (a b : Row) (d : Kind) → i < length a → i < length b → get_or (front profile i a b) i d ≡ get_or a i d
unfolding front
front_at profile i [] b d h g = absurd (omega arith)
front_at profile i (x ∷ xs) [] d h g = absurd (omega arith)
front_at profile zero (x ∷ xs) (y ∷ ys) d h g = refl
front_at profile (suc i) (x ∷ xs) (y ∷ ys) d h g = front_at profile i xs ys d (omega arith) (omega arith)

pub join_more : (profile : Profile) (i : ℕ) (a b row : Row) (k : Kind) → i < length a → i < length b → k ≡ join_of profile (get_or row i Unset) (get_or b i Unset) → row ≡ join_rows profile (take i a) (take i b) ++ drop i a → set row i k ≡ join_rows profile (take (i + 1) a) (take (i + 1) b) ++ drop (i + 1) a
unfolding front
join_more profile i a b row k h g ek e =
    let here : get_or row i Unset ≡ get_or a i Unset = ap (λ r. get_or r i Unset) e ∙ front_at profile i a b Unset h g in
    let ek' : k ≡ join_of profile (get_or a i Unset) (get_or b i Unset) = ek ∙ ap (λ x. join_of profile x (get_or b i Unset)) here in
    rw (e, ek', add-one) (join_suc profile i a b Unset h g)

-- the same, joined into the second
onto : Profile → ℕ → Row → Row → Row
onto profile i a b = join_rows profile (take i a) (take i b) ++ drop i b

onto_suc : (profile : Profile) (i : ℕ) (a b : Row) (d : Kind) → i < length a → i < length b → set (onto profile i a b) i (join_of profile (get_or a i d) (get_or b i d)) ≡ onto profile (suc i) a b
unfolding onto
onto_suc profile i [] b d h g = absurd (omega arith)
onto_suc profile i (x ∷ xs) [] d h g = absurd (omega arith)
onto_suc profile zero (x ∷ xs) (y ∷ ys) d h g = refl
onto_suc profile (suc i) (x ∷ xs) (y ∷ ys) d h g = ap (λ zs. join_of profile x y ∷ zs) (onto_suc profile i xs ys d (omega arith) (omega arith))

onto_at : (profile : Profile) (i : ℕ) (a b : Row) (d : Kind) → i < length a → i < length b → get_or (onto profile i a b) i d ≡ get_or b i d
unfolding onto
onto_at profile i [] b d h g = absurd (omega arith)
onto_at profile i (x ∷ xs) [] d h g = absurd (omega arith)
onto_at profile zero (x ∷ xs) (y ∷ ys) d h g = refl
onto_at profile (suc i) (x ∷ xs) (y ∷ ys) d h g = onto_at profile i xs ys d (omega arith) (omega arith)

pub join_onto_more : (profile : Profile) (i : ℕ) (a b row : Row) (k : Kind) → i < length a → i < length b → k ≡ join_of profile (get_or a i Unset) (get_or row i Unset) → row ≡ join_rows profile (take i a) (take i b) ++ drop i b → set row i k ≡ join_rows profile (take (i + 1) a) (take (i + 1) b) ++ drop (i + 1) b
unfolding onto
join_onto_more profile i a b row k h g ek e =
    let here : get_or row i Unset ≡ get_or b i Unset = ap (λ r. get_or r i Unset) e ∙ onto_at profile i a b Unset h g in
    let ek' : k ≡ join_of profile (get_or a i Unset) (get_or b i Unset) = ek ∙ ap (join_of profile (get_or a i Unset)) here in
    rw (e, ek', add-one) (onto_suc profile i a b Unset h g)

row_is : (rows : List (Option Row)) (k : ℕ) (d : Option Row) → k < length rows → get_or rows k d ≡ row_at rows k
row_is [] k d h = absurd (omega arith)
row_is (r ∷ rows) zero d h = refl
row_is (r ∷ rows) (suc k) d h = row_is rows k d (omega arith)

-- a row that is read is the row there
pub read_row : (rows : List (Option Row)) (k : ℕ) (o : Option Row) → k < length rows → o ≡ get_or rows k o → o ≡ row_at rows k
read_row rows k o h e = e ∙ row_is rows k o h

pub pushed_at : (profile : Profile) (rows : List (Option Row)) (k : ℕ) (o next : Option Row) (row : Row) → k < length rows → o ≡ get_or rows k o → next ≡ joined profile o row → set rows k next ≡ set rows k (joined profile (row_at rows k) row)
pushed_at profile rows k o next row h e n = ap (set rows k) (n ∙ ap (λ q. joined profile q row) (e ∙ row_is rows k o h))

-- ---- copies

-- the kinds before one place and those from another on are copied, and those between are the same
copied_from : (n low : ℕ) (row into : Row) → n ≤ low → low ≤ length row → length into ≡ length row → ((i : ℕ) → n ≤ i → i < low → get_or into i Unset ≡ get_or row i Unset) → take low (take n row ++ drop n into) ++ drop low row ≡ row
copied_from zero zero row into nl lr same h = refl
copied_from zero (suc low) [] into nl lr same h = absurd (omega (arith, lr))
copied_from zero (suc low) (x ∷ row) [] nl lr same h = absurd (omega (arith, same))
copied_from zero (suc low) (x ∷ row) (y ∷ into) nl lr same h =
    ap (λ k. k ∷ take low into ++ drop low row) (h zero (omega arith) (omega arith))
    ∙ ap (λ ks. x ∷ ks) (copied_from zero low row into (omega arith) (omega (arith, lr)) (omega (arith, same)) (λ i ge lt. h (suc i) (omega arith) (omega (arith, lt))))
copied_from (suc n) zero row into nl lr same h = absurd (omega (arith, nl))
copied_from (suc n) (suc low) [] into nl lr same h = absurd (omega (arith, lr))
copied_from (suc n) (suc low) (x ∷ row) [] nl lr same h = absurd (omega (arith, same))
copied_from (suc n) (suc low) (x ∷ row) (y ∷ into) nl lr same h =
    ap (λ ks. x ∷ ks) (copied_from n low row into (omega (arith, nl)) (omega (arith, lr)) (omega (arith, same)) (λ i ge lt. h (suc i) (omega (arith, ge)) (omega (arith, lt))))

pub copied : (low k : ℕ) (row into first rest : Row) → 11 ≤ low → low ≤ length row → length into ≡ length row → length row - low ≤ k → AreAlike low into row → first ≡ take 11 row → rest ≡ take k (drop low row) → take low (first ++ drop 11 into) ++ (rest ++ []) ≡ row
copied low k row into first rest ge lr same le alike f r =
    ap (λ ys. take low (ys ++ drop 11 into) ++ (rest ++ [])) f
    ∙ ap (λ ys. take low (take 11 row ++ drop 11 into) ++ ys) (append-nil rest ∙ r ∙ take_all k (drop low row) (omega (arith, length-drop low row, le)))
    ∙ copied_from 11 low row into ge lr same alike
