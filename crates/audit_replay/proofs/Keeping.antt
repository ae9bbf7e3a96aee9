-- What is kept of a vnode's entries: the longest end of their answers that isn't more than is kept.
use Rattle.std.proofs.Common.{◌≡◌, ℕ, zero, suc, ◌+◌, ◌-◌, ◌*◌, ◌<◌, ◌≤◌, ◌⊎◌, List, [], ◌∷◌, ◌++◌, length, drop, replicate, refl, sym, ap, subst, ◌∙◌, inl, inr, arith, Option, None, Some, Bool, true, false, cond}
use Rattle.std.specs.Prelude.{slice_get, sum_by}
use Rattle.std.specs.Option.{option_or}
use Rattle.std.proofs.lemmas.Bool.{cases_lt}
use Rattle.std.proofs.lemmas.List.{drop-append-le, drop_all, length-drop, length_push}
use Rattle.std.proofs.lemmas.List.Sums.{sum_by-cons, sum_by-take-drop, sum_by_push}
use Rattle.std.proofs.Math.Nat.{min-le_right}
use Rattle.std.proofs.Math.Seq.{drop-nil}
use Rattle.std.proofs.lemmas.Option.{same_Some}
use Rattle.audit_replay.specs.declared.kept.Kept.{Kept}
use Rattle.audit_replay.specs.declared.kept.Kept.TheVariants.{GivenUp}
use Rattle.audit_replay.specs.declared.kept.Kept.TheVariants as kept
use Rattle.key_state.specs.declared.content.Key.{Key}
use Rattle.key_state.specs.Sizes.{content_bytes, most_bytes}
use Rattle.key_state.specs.State.{State}
use Rattle.journal.specs.Keys.{same_key}
use Rattle.journal.proofs.Keyed.{one_key, same_itself}
use Rattle.audit_replay.specs.declared.kept.Recent.{Recent}
use Rattle.audit_replay.specs.Kept.{kept_bytes, first_was, was_before, IsMore, IsOver, IsLeft}

-- ---- ends

-- a longer end holds as much and more
less_held : (p q : ℕ) (xs : List Kept) → p ≤ q → sum_by kept_bytes (drop q xs) ≤ sum_by kept_bytes (drop p xs)
less_held zero q xs le = let both = sum_by-take-drop kept_bytes xs q in omega (arith, both)
less_held (suc p) zero xs le = absurd (omega (arith, le))
less_held (suc p) (suc q) [] le = omega arith
less_held (suc p) (suc q) (x ∷ xs) le = less_held p q xs (omega (arith, le))

over_more : (recent : Recent) (end other : List Kept) → IsOver recent end → length end ≤ length other → sum_by kept_bytes end ≤ sum_by kept_bytes other → IsOver recent other
over_more recent end other (many, inl entries) long held = (omega (arith, many, long), inl (omega (arith, entries, long)))
over_more recent end other (many, inr bytes) long held = (omega (arith, many, long), inr (omega (arith, bytes, held)))

-- an end that begins earlier is more, too
pub over_before : (recent : Recent) (all : List Kept) (p q : ℕ) → p ≤ q → IsOver recent (drop q all) → IsOver recent (drop p all)
over_before recent all p q le over = over_more recent (drop q all) (drop p all) over (omega (arith, length-drop p all, length-drop q all, le)) (less_held p q all le)

pub over_or_not : (recent : Recent) (end : List Kept) → IsOver recent end ⊎ (IsOver recent end → ⊥)
over_or_not recent end = elim (cases_lt recent.always (length end)) [
  | inr few ↦ inr (λ over. omega (arith, few, over.0))
  | inl many ↦ elim (cases_lt recent.entries (length end)) [
    | inl entries ↦ inl (many, inl entries)
    | inr fits ↦ elim (cases_lt recent.bytes (sum_by kept_bytes end)) [
      | inl bytes ↦ inl (many, inr bytes)
      | inr light ↦ inr (λ over. elim over.1 [
        | inl entries ↦ omega (arith, entries, fits)
        | inr bytes ↦ omega (arith, bytes, light)
      ])
    ]
  ]
]

-- the bytes of one answer
at_most : (k : Kept) → kept_bytes k ≤ 18446744073709551615
at_most (kept.Was key state) = min-le_right (sum_by (λ s. content_bytes s.content) state.siblings) most_bytes
at_most (kept.Read key) = omega arith
at_most kept.Other = omega arith
at_most kept.GivenUp = omega arith

-- ---- what is given up

-- one before is given up, too, where the end from it on is more, or it was given up
one_before : (recent : Recent) (x : Kept) (xs new : List Kept) → IsLeft recent xs new → IsOver recent (x ∷ xs) ⊎ (GivenUp ≡ x) → IsLeft recent (x ∷ xs) (GivenUp ∷ new)
one_before recent x xs new rest why = record { size = ap suc rest.size; gone = gone; stays = stays }
  where
    gone : (place : ℕ) → IsOver recent (drop place (x ∷ xs)) → slice_get (GivenUp ∷ new) place ≡ Some GivenUp
    gone zero more = refl
    gone (suc place) more = rest.gone place more

    stays : (place : ℕ) → (IsOver recent (drop place (x ∷ xs)) → ⊥) → slice_get (GivenUp ∷ new) place ≡ slice_get (x ∷ xs) place
    stays zero not = elim why [
      | inl over ↦ absurd (not over)
      | inr same ↦ ap Some same
    ]
    stays (suc place) not = rest.stays place not

-- the first that is left begins the longest end that isn't more
first_left : (recent : Recent) (cut : ℕ) (xs : List Kept) → (IsOver recent (drop cut xs) → ⊥) → ((n : ℕ) → n < cut → IsOver recent (drop n xs)) → IsLeft recent xs (replicate cut GivenUp ++ drop cut xs)
first_left recent zero xs fits over = record { size = refl; gone = λ place more. absurd (fits (over_before recent xs 0 place (omega arith) more)); stays = λ place not. refl }
first_left recent (suc cut) [] fits over = absurd (let h = over 0 (omega arith) in omega (arith, h.0))
first_left recent (suc cut) (x ∷ xs) fits over =
    one_before recent x xs (replicate cut GivenUp ++ drop cut xs) (first_left recent cut xs fits (λ n lt. over (suc n) (omega (arith, lt)))) (inl (over 0 (omega arith)))

-- so is it behind those that were given up before
pub cut_left : (recent : Recent) (first cut : ℕ) (xs : List Kept) → (IsOver recent (drop cut xs) → ⊥) → ((n : ℕ) → n < cut → IsOver recent (drop n xs)) → IsLeft recent (replicate first GivenUp ++ xs) (replicate (first + cut) GivenUp ++ drop cut xs)
cut_left recent zero cut xs fits over =
    let none : cut ≡ 0 + cut = omega arith in
    subst (λ (n : ℕ). IsLeft recent xs (replicate n GivenUp ++ drop cut xs)) none (first_left recent cut xs fits over)
cut_left recent (suc first) cut xs fits over =
    let one : suc (first + cut) ≡ suc first + cut = omega arith in
    subst (λ (n : ℕ). IsLeft recent (GivenUp ∷ (replicate first GivenUp ++ xs)) (replicate n GivenUp ++ drop cut xs)) one
    (one_before recent GivenUp (replicate first GivenUp ++ xs) (replicate (first + cut) GivenUp ++ drop cut xs) (cut_left recent first cut xs fits over) (inr refl))

-- nothing is left of nothing
pub none_left : (recent : Recent) → IsLeft recent [] []
none_left recent = record { size = refl; gone = λ place over. absurd (let n = length-drop place (let none : List Kept = [] in none) in omega (arith, n, over.0)); stays = λ place not. refl }

-- so many were given up of those that were here, each of them the first of an end that is more than is kept; these are left
abbrev pub AreGone : Recent → ℕ → List Kept → ℕ → List Kept → ℕ → Type 0
AreGone recent before all first here bytes = (cut : ℕ) × (first ≡ before + cut) × (here ≡ drop cut all) × ((n : ℕ) → n < cut → IsOver recent (drop n all)) × (bytes ≡ sum_by kept_bytes here)

-- one more is given up
drop_one : (n : ℕ) (xs : List Kept) → drop 1 (drop n xs) ≡ drop (n + 1) xs
drop_one zero xs = refl
drop_one (suc n) [] = sym (drop-nil (suc n + 1))
drop_one (suc n) (x ∷ xs) = drop_one n xs ∙ ap (λ (m : ℕ). drop m (x ∷ xs)) (let m : suc (n + 1) ≡ suc n + 1 = omega arith in m)

pub one_gone : (recent : Recent) (before first bytes less count : ℕ) (all here rest : List Kept) (k : Kept) → AreGone recent before all first here bytes → count ≡ length here → IsMore recent count bytes
    → here ≡ k ∷ rest → less ≡ kept_bytes k → AreGone recent before all (first + 1) rest (bytes - less)
one_gone recent before first bytes less count all here rest k (cut, at, is, over, held) counted many split weighs = (
  cut + 1,
  omega (arith, at),
  ap (drop 1) (sym split) ∙ ap (drop 1) is ∙ drop_one cut all,
  λ n lt. elim (cases_lt n cut) [
    | inl was ↦ over n was
    | inr not ↦ subst (λ (end : List Kept). IsOver recent end) (is ∙ ap (λ (m : ℕ). drop m all) (let same : cut ≡ n = omega (arith, not, lt) in same)) more
  ],
  (let sum : sum_by kept_bytes here ≡ kept_bytes k + sum_by kept_bytes rest = ap (sum_by kept_bytes) split ∙ sum_by-cons kept_bytes k rest in omega (arith, held, sum, weighs)),
)
  where
    more : IsOver recent here
    more = subst (λ (n : ℕ). IsMore recent n (sum_by kept_bytes here)) counted (subst (λ (b : ℕ). IsMore recent count b) held many)

-- no more than so many bytes are here
pub few_bytes : (here : List Kept) → sum_by kept_bytes here ≤ length here * 18446744073709551615
few_bytes [] = omega arith
few_bytes (x ∷ xs) = let rest = few_bytes xs in let sum = sum_by-cons kept_bytes x xs in let most = at_most x in omega (arith, rest, sum, most)

-- ---- one answer more

-- lists with the same elements
same_lists : (xs ys : List Kept) → length xs ≡ length ys → ((place : ℕ) → slice_get xs place ≡ slice_get ys place) → xs ≡ ys
same_lists [] [] size each = refl
same_lists [] (y ∷ ys) size each = absurd (omega (arith, size))
same_lists (x ∷ xs) [] size each = absurd (omega (arith, size))
same_lists (x ∷ xs) (y ∷ ys) size each = ap (λ (z : Kept). z ∷ xs) (same_Some x y (each 0)) ∙ ap (λ (zs : List Kept). y ∷ zs) (same_lists xs ys (omega (arith, size)) (λ place. each (suc place)))

-- with the same elements from a place on
same_ends : (from : ℕ) (xs ys : List Kept) → length xs ≡ length ys → ((place : ℕ) → from ≤ place → slice_get xs place ≡ slice_get ys place) → drop from xs ≡ drop from ys
same_ends zero xs ys size each = same_lists xs ys size (λ place. each place (omega arith))
same_ends (suc from) [] [] size each = refl
same_ends (suc from) [] (y ∷ ys) size each = absurd (omega (arith, size))
same_ends (suc from) (x ∷ xs) [] size each = absurd (omega (arith, size))
same_ends (suc from) (x ∷ xs) (y ∷ ys) size each = same_ends from xs ys (omega (arith, size)) (λ place le. each (suc place) (omega (arith, le)))

-- with one more behind them
same_pushed : (xs ys : List Kept) (k : Kept) (place : ℕ) → length xs ≡ length ys → slice_get xs place ≡ slice_get ys place → slice_get (xs ++ k ∷ []) place ≡ slice_get (ys ++ k ∷ []) place
same_pushed [] [] k place size same = refl
same_pushed [] (y ∷ ys) k place size same = absurd (omega (arith, size))
same_pushed (x ∷ xs) [] k place size same = absurd (omega (arith, size))
same_pushed (x ∷ xs) (y ∷ ys) k zero size same = same
same_pushed (x ∷ xs) (y ∷ ys) k (suc place) size same = same_pushed xs ys k place (omega (arith, size)) same

at_pushed : (xs : List Kept) (k what : Kept) (place : ℕ) → slice_get xs place ≡ Some what → slice_get (xs ++ k ∷ []) place ≡ Some what
at_pushed [] k what place is = absurd (let none : None ≡ Some what = is in cc)
at_pushed (x ∷ xs) k what zero is = is
at_pushed (x ∷ xs) k what (suc place) is = at_pushed xs k what place is

-- the end behind a place, with one more
end_pushed : (xs ys : List Kept) (k : Kept) (place : ℕ) → length xs ≡ length ys → drop place xs ≡ drop place ys → drop place (xs ++ k ∷ []) ≡ drop place (ys ++ k ∷ [])
end_pushed xs ys k place size same = elim (cases_lt (length xs) place) [
  | inl past ↦ drop_all place (xs ++ k ∷ []) (let n = length_push xs k in omega (arith, n, past)) ∙ sym (drop_all place (ys ++ k ∷ []) (let n = length_push ys k in omega (arith, n, past, size)))
  | inr within ↦ drop-append-le place xs (k ∷ []) within ∙ ap (λ (zs : List Kept). zs ++ k ∷ []) same ∙ sym (drop-append-le place ys (k ∷ []) (omega (arith, within, size)))
]

over_pushed : (recent : Recent) (all : List Kept) (k : Kept) (place : ℕ) → IsOver recent (drop place all) → IsOver recent (drop place (all ++ k ∷ []))
over_pushed recent all k place over =
    let within : place ≤ length all = (let n = length-drop place all in omega (arith, n, over.0)) in
    let is = drop-append-le place all (k ∷ []) within in
    subst (λ (end : List Kept). IsOver recent end) (sym is) (over_more recent (drop place all) (drop place all ++ k ∷ []) over (let n = length_push (drop place all) k in omega (arith, n)) (let s = sum_by_push kept_bytes (drop place all) k in omega (arith, s)))

-- what is left of what was left and one more is what is left of all and one more
pub left_more : (recent : Recent) (all list new : List Kept) (k : Kept) → IsLeft recent all list → IsLeft recent (list ++ k ∷ []) new → IsLeft recent (all ++ k ∷ []) new
left_more recent all list new k was left = record {
  size = left.size ∙ length_push list k ∙ ap (λ (n : ℕ). n + 1) was.size ∙ sym (length_push all k);
  gone = λ place over. elim (over_or_not recent (drop place all)) [
    | inl before ↦ elim (over_or_not recent (drop place (list ++ k ∷ []))) [
      | inl still ↦ left.gone place still
      | inr not ↦ left.stays place not ∙ at_pushed list k GivenUp place (was.gone place before)
    ]
    | inr not ↦ left.gone place (subst (λ (end : List Kept). IsOver recent end) (sym (same place not)) over)
  ];
  stays = λ place not. (
      let before : IsOver recent (drop place all) → ⊥ = λ over. not (over_pushed recent all k place over) in
      left.stays place (λ over. not (subst (λ (end : List Kept). IsOver recent end) (same place before) over)) ∙ same_pushed list all k place was.size (was.stays place before));
}
  where
    same : (place : ℕ) → (IsOver recent (drop place all) → ⊥) → drop place (list ++ k ∷ []) ≡ drop place (all ++ k ∷ [])
    same place not = end_pushed list all k place was.size (same_ends place list all was.size (λ q le. was.stays q (λ over. not (over_before recent all place q le over))))

-- ---- what was there before a change

pub drop_next : (list : List Kept) (p : ℕ) (k : Kept) → slice_get list p ≡ Some k → drop p list ≡ k ∷ drop (p + 1) list
drop_next [] p k is = absurd (let none : None ≡ Some k = is in cc)
drop_next (x ∷ xs) zero k is = ap (λ (y : Kept). y ∷ xs) (same_Some x k is)
drop_next (x ∷ xs) (suc p) k is = drop_next xs p k is ∙ ap (λ (m : ℕ). k ∷ drop m (x ∷ xs)) (let m : suc (p + 1) ≡ suc p + 1 = omega arith in m)

-- a change of the key itself tells its state
same_was : (key : Key) (state : State) (b : Bool) → same_key key key ≡ b → Some state ≡ cond b (Some state) None
same_was key state true is = refl
same_was key state false is = (let clash : true ≡ false = sym (same_itself key) ∙ is in cc)

pub was_same : (own key : Key) (state : State) → own ≡ key → Some state ≡ was_before (kept.Was own state) key
was_same own key state same = subst (λ (k : Key). Some state ≡ was_before (kept.Was k state) key) (sym same) (same_was key state (same_key key key) refl)

-- that of another doesn't
other_was : (own key : Key) (state : State) (b : Bool) → same_key own key ≡ b → (own ≡ key → ⊥) → None ≡ cond b (Some state) None
other_was own key state true is differs = absurd (differs (one_key own key is))
other_was own key state false is differs = refl

pub was_other : (own key : Key) (state : State) → (own ≡ key → ⊥) → None ≡ was_before (kept.Was own state) key
was_other own key state differs = other_was own key state (same_key own key) refl differs

-- those that were given up tell nothing of it
first_here : (first p : ℕ) (here : List Kept) (key : Key) → first_was (drop p (replicate first GivenUp ++ here)) key ≡ first_was (drop (p - first) here) key
first_here zero p here key = ap (λ (n : ℕ). first_was (drop n here) key) (let n : p ≡ p - 0 = omega arith in n)
first_here (suc first) zero here key = first_here first 0 here key ∙ ap (λ (n : ℕ). first_was (drop n here) key) (let n : 0 - first ≡ 0 - suc first = omega arith in n)
first_here (suc first) (suc p) here key = first_here first p here key ∙ ap (λ (n : ℕ). first_was (drop n here) key) (let n : p - first ≡ suc p - suc first = omega arith in n)

-- so only those that are here are looked at
pub first_begun : (list : List Kept) (first p behind : ℕ) (here : List Kept) (key : Key) → replicate first GivenUp ++ here ≡ list → behind ≡ p - first → first_was (drop p list) key ≡ first_was (drop behind here) key
first_begun list first p behind here key is at = ap (λ (l : List Kept). first_was (drop p l) key) (sym is) ∙ first_here first p here key ∙ ap (λ (n : ℕ). first_was (drop n here) key) (sym at)

-- an index past the end may be any such
pub first_past : (here : List Kept) (p q : ℕ) (key : Key) → (p ≡ q) ⊎ ((length here ≤ p) × (length here ≤ q)) → first_was (drop p here) key ≡ first_was (drop q here) key
first_past here p q key (inl same) = ap (λ (n : ℕ). first_was (drop n here) key) same
first_past here p q key (inr (a, b)) = ap (λ (l : List Kept). first_was l key) (drop_all p here a ∙ sym (drop_all q here b))

-- one that tells nothing of it is passed
pub first_passed : (here : List Kept) (i : ℕ) (k : Kept) (key : Key) → slice_get here i ≡ Some k → None ≡ was_before k key → first_was (drop i here) key ≡ first_was (drop (i + 1) here) key
first_passed here i k key at none = ap (λ (l : List Kept). first_was l key) (drop_next here i k at) ∙ ap (λ (o : Option State). option_or o (first_was (drop (i + 1) here) key)) (sym none)

-- one that tells it is the first
pub first_found : (here : List Kept) (i : ℕ) (k : Kept) (key : Key) (state : State) → slice_get here i ≡ Some k → Some state ≡ was_before k key → Some state ≡ first_was (drop i here) key
first_found here i k key state at some = sym (ap (λ (l : List Kept). first_was l key) (drop_next here i k at) ∙ ap (λ (o : Option State). option_or o (first_was (drop (i + 1) here) key)) (sym some))

-- behind the last there is none
pub first_none : (here : List Kept) (i : ℕ) (key : Key) → length here ≤ i → None ≡ first_was (drop i here) key
first_none here i key past = sym (ap (λ (l : List Kept). first_was l key) (drop_all i here past))
