-- Where the entry of a number stands.
use Rattle.std.proofs.Common.{◌≡◌, ℕ, zero, suc, ◌<◌, List, [], ◌∷◌, ◌++◌, Bool, true, false, Option, Some, None, eqb, length, get_or, set, replicate, map, count_by, cond, ap, sym, ◌∙◌, subst, refl, arith}
use Rattle.std.specs.Prelude.{if◌then◌else◌, is_some}
use Rattle.std.specs.Option.{option_map, option_or}
use Rattle.std.proofs.lemmas.List.{length-map, get_or-map, get_or-set_same, get_or-set_other, length-append, map-append}
use Rattle.std.proofs.lemmas.List.Folds.{sum_by-replicate}
use Rattle.std.proofs.lemmas.List.Sums.{sum_by-set}
use Rattle.std.proofs.lemmas.Bool.Decides.{nat_tests}
use Rattle.std.proofs.lemmas.Bool.{eqb-true, eq-eqb}
use Rattle.bpf_helpers.specs.declared.sig.Sig.{Sig}
use Rattle.bpf_helpers.specs.declared.sig.Entry.{Entry}
use Rattle.bpf_helpers.specs.Rules.{is_helper_number}
use Rattle.bpf_helpers.specs.Entries.{sig_of, place_of}

-- what a place says of a number
abbrev Tells : List Entry → ℕ → Option ℕ → Option Sig → Type 0
Tells entries number None sig = sig ≡ None
Tells entries number (Some k) sig = (k < length entries) × ((d : Entry) → ((get_or entries k d).number ≡ number) × (sig ≡ Some (get_or entries k d).sig))

later : (e : Entry) (entries : List Entry) (number : ℕ) (place : Option ℕ) (sig : Option Sig) → Tells entries number place sig → Tells (e ∷ entries) number (option_map suc place) sig
later e entries number None sig h = h
later e entries number (Some k) sig h = (omega (arith, h.0), h.1)

split : (b : Bool) (P : Option ℕ → Option Sig → Type 0) (x y : Option ℕ) (v w : Option Sig) → (b ≡ true → P x v) → (b ≡ false → P y w) → P (if b then x else y) (if b then v else w)
split true P x y v w p q = p refl
split false P x y v w p q = q refl

tells : (entries : List Entry) (number : ℕ) → Tells entries number (place_of entries number) (sig_of entries number)
unfolding place_of
tells [] number = refl
tells (e ∷ entries) number =
    split (eqb e.number number) (Tells (e ∷ entries) number) (Some 0) (option_map suc (place_of entries number)) (Some e.sig) (sig_of entries number)
    (λ here. (omega arith, λ d. (eqb-true e.number number here, refl)))
    (λ _. later e entries number (place_of entries number) (sig_of entries number) (tells entries number))

tells_at : (entries : List Entry) (number : ℕ) (place : Option ℕ) → place ≡ place_of entries number → Tells entries number place (sig_of entries number)
tells_at entries number place e =
    subst (λ p. Tells entries number p (sig_of entries number)) (sym e) (tells entries number)

-- a number that has no place has no Sig
pub nowhere : (entries : List Entry) (number : ℕ) → None ≡ place_of entries number → sig_of entries number ≡ None
nowhere entries number e = tells_at entries number None e

-- one list has as many elements as the other
pub same_length : {X : Type 0} (f : X → Entry) (xs : List X) (entries : List Entry) → map f xs ≡ entries → length xs ≡ length entries
same_length f xs entries is = sym (length-map xs f) ∙ ap length is

-- a place lies within the list whose entries are given
pub place_within : {X : Type 0} (f : X → Entry) (xs : List X) (entries : List Entry) (number place : ℕ) → map f xs ≡ entries → Some place ≡ place_of entries number → place < length xs
place_within f xs entries number place is e =
    let h = tells_at entries number (Some place) e in omega (arith, h.0, same_length f xs entries is)

-- what stands there has the number, and its Sig
pub found : {X : Type 0} (f : X → Entry) (xs : List X) (entries : List Entry) (number place : ℕ) (x : X) → map f xs ≡ entries → Some place ≡ place_of entries number → x ≡ get_or xs place x → ((f x).number ≡ number) × (sig_of entries number ≡ Some (f x).sig)
found f xs entries number place x is e stands =
    let there : get_or entries place (f x) ≡ f x =
    ap (λ es. get_or es place (f x)) (sym is) ∙ get_or-map f xs place x (f x) (place_within f xs entries number place is e) ∙ ap f (sym stands) in
    subst (λ (y : Entry). (y.number ≡ number) × (sig_of entries number ≡ Some y.sig)) there ((tells_at entries number (Some place) e).1 (f x))

one_later : (b : Bool) (p : Option ℕ) (c : Bool) (n : ℕ) → (if b then Some 0 else option_map suc (option_or p (if c then Some n else None))) ≡ option_or (if b then Some 0 else option_map suc p) (if c then Some (suc n) else None)
one_later true p c n = refl
one_later false None true n = refl
one_later false None false n = refl
one_later false (Some k) c n = refl

-- with one more entry at the end
place_of-push : (entries : List Entry) (e : Entry) (number : ℕ) → place_of (entries ++ e ∷ []) number ≡ option_or (place_of entries number) (if eqb e.number number then Some (length entries) else None)
unfolding place_of
place_of-push [] e number = refl
place_of-push (x ∷ entries) e number =
    ap (λ p. if eqb x.number number then Some 0 else option_map suc p) (place_of-push entries e number)
    ∙ one_later (eqb x.number number) (place_of entries number) (eqb e.number number) (length entries)

free_at : (count number : ℕ) (free : Option ℕ) → get_or (replicate count free) number free ≡ free
free_at zero number free = refl
free_at (suc count) zero free = refl
free_at (suc count) (suc number) free = free_at count number free

-- no place is taken where there is no entry
pub indexed_none : (places : List (Option ℕ)) (entries : List Entry) (count : ℕ) → places ≡ replicate count None → entries ≡ [] → (number : ℕ) → get_or places number None ≡ place_of entries number
unfolding place_of
indexed_none places entries count free empty number =
    ap (λ ps. get_or ps number None) free ∙ free_at count number None ∙ sym (ap (λ es. place_of es number) empty)

pub counted_none : (places : List (Option ℕ)) (entries : List Entry) (count : ℕ) → places ≡ replicate count None → entries ≡ [] → length entries ≡ count_by is_some places
counted_none places entries count free empty =
    ap length empty ∙ sym (ap (count_by is_some) free ∙ sum_by-replicate (λ p. cond (is_some p) 1 0) count None ∙ omega arith)

-- a helper's number lies within the places
pub number_within : (number : ℕ) → is_helper_number number ≡ true → number < 128
number_within number h = grind (arith, nat_tests)

unplaced : (entries : List Entry) (e : Entry) (place : Option ℕ) → Tells entries e.number place (sig_of entries e.number) → sig_of entries e.number ≡ None → place ≡ None
unplaced entries e None h none = refl
unplaced entries e (Some k) h none = let known = (h.1 e).1 in absurd (cc)

-- a number that has no Sig has no place
no_place : (entries : List Entry) (e : Entry) → sig_of entries e.number ≡ None → place_of entries e.number ≡ None
no_place entries e none = unplaced entries e (place_of entries e.number) (tells entries e.number) none

or_none : (p : Option ℕ) → option_or p None ≡ p
or_none None = refl
or_none (Some k) = refl

placed : (places : List (Option ℕ)) (entries : List Entry) (e : Entry) (number k : ℕ) (b : Bool) → e.number < length places → sig_of entries e.number ≡ None → get_or places number None ≡ place_of entries number → eqb e.number number ≡ b → get_or (set places e.number (Some k)) number None ≡ option_or (place_of entries number) (if b then Some k else None)
placed places entries e number k true within none was is =
    let same = eqb-true e.number number is in
    subst (λ n. get_or (set places e.number (Some k)) n None ≡ option_or (place_of entries n) (Some k)) same
    (get_or-set_same places e.number (Some k) None within ∙ sym (ap (λ p. option_or p (Some k)) (no_place entries e none)))
placed places entries e number k false within none was is =
    get_or-set_other places e.number number (Some k) None (λ same. absurd (cc (eq-eqb e.number number (sym same), is)))
    ∙ was ∙ sym (or_none (place_of entries number))

-- the places of one more entry
pub indexed_push : (places : List (Option ℕ)) (entries more : List Entry) (e : Entry) (k : ℕ) → more ≡ entries ++ e ∷ [] → k ≡ length entries → e.number < length places → sig_of entries e.number ≡ None → ((number : ℕ) → get_or places number None ≡ place_of entries number) → (number : ℕ) → get_or (set places e.number (Some k)) number None ≡ place_of more number
indexed_push places entries more e k grown at within none was number =
    placed places entries e number k (eqb e.number number) within none (was number) refl
    ∙ ap (λ n. option_or (place_of entries number) (if eqb e.number number then Some n else None)) at
    ∙ sym (ap (λ es. place_of es number) grown ∙ place_of-push entries e number)

-- the entries of one more element
pub paired_push : {X : Type 0} (f : X → Entry) (xs ys zs : List X) (x : X) (entries more : List Entry) → ys ≡ xs → zs ≡ ys ++ x ∷ [] → more ≡ entries ++ f x ∷ [] → map f xs ≡ entries → map f zs ≡ more
paired_push f xs ys zs x entries more kept pushed grown paired =
    ap (map f) pushed ∙ map-append f ys (x ∷ []) ∙ ap (λ es. es ++ f x ∷ []) (ap (map f) kept ∙ paired) ∙ sym grown

-- as many places are taken as there are entries
pub counted_push : (places : List (Option ℕ)) (entries more : List Entry) (e : Entry) (k : ℕ) → more ≡ entries ++ e ∷ [] → e.number < length places → sig_of entries e.number ≡ None → get_or places e.number None ≡ place_of entries e.number → length entries ≡ count_by is_some places → length more ≡ count_by is_some (set places e.number (Some k))
counted_push places entries more e k grown within none was counted =
    let one : Option ℕ → ℕ = λ p. cond (is_some p) 1 0 in
    let free : one (get_or places e.number None) ≡ 0 = ap one (was ∙ no_place entries e none) in
    omega (arith, sum_by-set one places e.number (Some k) None within, ap length grown, length-append entries (e ∷ []))
