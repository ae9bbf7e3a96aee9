-- Fronts of one list.
use Rattle.std.proofs.Common.{◌≡◌, ◌⊎◌, take, drop, fold, ◌+◌, ◌-◌, ◌<◌, ◌≤◌, List, [], ◌∷◌, ◌++◌, length, refl, sym, ap, ◌∙◌, subst, arith, length-append, append_assoc, ⊎_elim, Result, Ok, Err, MatchResult}
use mathlib.Core.List.{IsPrefix}
use Rattle.std.proofs.lemmas.List.{map-append, length-map, take-append-drop, take-append-le, take_all}
use Rattle.hook_readers.specs.declared.edit.Edit.{Edit}
use Rattle.hook_readers.specs.Edits.{change_of, changes_of}
use Rattle.hook_readers.proofs.Fronts.{changes_prefix}
use Rattle.hook_sharing.specs.Lists.{last_of}
use Rattle.shared_prefix.proofs.Prefixes.{prefix_shorter, prefix_whole, prefix_length}

-- the longer of a front and of one that has one more at its end
pub one_longer : {A : Type 0} (mine op r before : List A) (e : A) → (r ≡ op) ⊎ (r ≡ mine) → IsPrefix op r → IsPrefix mine r → op ≡ before ++ e ∷ [] → 0 < length op → length mine ≡ length op - 1 → mine ++ e ∷ [] ≡ r
one_longer {A} mine op r before e one this that ends some short =
    let is : r ≡ op = ⊎_elim (λ (a : r ≡ op). a) (λ (b : r ≡ mine). absurd (let n = prefix_length op r this in let m = ap length b in omega arith)) one in
    let into : IsPrefix mine op = subst (λ xs. IsPrefix mine xs) is that in
    let len : length op ≡ length before + 1 = ap length ends ∙ length-append before (e ∷ []) in
    let front : IsPrefix mine before = prefix_shorter mine before op into (e ∷ [], sym ends) (omega arith) in
    let same : mine ≡ before = prefix_whole mine before front (omega arith) in
    ap (λ xs. xs ++ e ∷ []) same ∙ sym ends ∙ sym is

-- the beginning of a list, as so many of its first members
pub begins_by : {A : Type 0} (xs ys : List A) → take (length xs) ys ≡ xs → IsPrefix xs ys
begins_by xs ys is = (drop (length xs) ys, ap (λ zs. zs ++ drop (length xs) ys) (sym is) ∙ take-append-drop (length xs) ys)

-- what a list begins with, it begins with once it has grown
pub begins_grown : {A : Type 0} (xs ys zs : List A) (e : A) → take (length xs) ys ≡ xs → zs ≡ ys ++ e ∷ [] → take (length xs) zs ≡ xs
begins_grown xs ys zs e is grown =
    let short = prefix_length xs ys (begins_by xs ys is) in
    ap (take (length xs)) grown ∙ take-append-le (length xs) ys (e ∷ []) short ∙ is

-- a list begins with itself
pub begins_itself : {A : Type 0} (xs ys : List A) → xs ≡ ys → take (length xs) ys ≡ xs
begins_itself xs ys is = ap (take (length xs)) (sym is) ∙ take_all (length xs) xs (omega arith)

-- what is shown after a publish begins the front, whether it was refused or not
pub shown_begins : {E : Type 0} (result : Result (Unit {0}) E) (old new front : List Edit) → take (length old) front ≡ old → MatchResult result (λ _. new ≡ front) (λ _. new ≡ old) → take (length new) front ≡ new
shown_begins (Ok done) old new front is shown = begins_itself new front shown
shown_begins (Err fault) old new front is shown = subst (λ xs. take (length xs) front ≡ xs) (sym shown) is

-- and the front is what is shown with what waits
pub still_agreed : {E : Type 0} (result : Result (Unit {0}) E) (old new front : List Edit) (before after : List (List Edit)) → last_of old before ≡ front → MatchResult result (λ _. (new ≡ front) × (after ≡ [])) (λ _. (new ≡ old) × (after ≡ before)) → last_of new after ≡ front
still_agreed (Ok done) old new front before after is shown = ap (last_of new) shown.1 ∙ shown.0
still_agreed (Err fault) old new front before after is shown = ap (λ xs. last_of xs after) shown.0 ∙ ap (last_of old) shown.1 ∙ is

-- one change more
pub one_more : (front after waiting more : List Edit) (edit : Edit) → after ≡ front → more ≡ waiting ++ edit ∷ [] → changes_of (after ++ more) ≡ changes_of (front ++ waiting) ++ change_of edit ∷ []
one_more front after waiting more edit same longer =
    ap changes_of (ap (λ xs. xs ++ more) same ∙ ap (λ xs. front ++ xs) longer ∙ sym (append_assoc front waiting (edit ∷ []))) ∙ map-append change_of (front ++ waiting) (edit ∷ [])

-- where the longer of two fronts is as long as the first, the first has all changes of the second, at its head
pub begins : (known front both : List Edit) → IsPrefix front both → IsPrefix known both → length both ≡ length front → IsPrefix (changes_of known) (changes_of front)
begins known front both this that len =
    let same : front ≡ both = prefix_whole front both this (omega arith) in
    changes_prefix known front (subst (λ xs. IsPrefix known xs) (sym same) that)

-- and only there
pub as_long : (known front both : List Edit) → (both ≡ front) ⊎ (both ≡ known) → IsPrefix front both → IsPrefix (changes_of known) (changes_of front) → length both ≡ length front
as_long known front both one this p =
    let l = prefix_length (changes_of known) (changes_of front) p in
    let m = prefix_length front both this in
    ⊎_elim (λ (a : both ≡ front). ap length a) (λ (b : both ≡ known). let n = ap length b in omega (arith, length-map known change_of, length-map front change_of)) one

-- a front that one change after another ends
pub last_of_applied : (applied : List Edit → List Edit → List Edit) → ((before after : List Edit) → applied before after ≡ after) → (before : List Edit) (lists : List (List Edit)) → fold applied before lists ≡ last_of before lists
last_of_applied applied last before [] = refl
last_of_applied applied last before (xs ∷ lists) = ap (λ ys. fold applied ys lists) (last before xs) ∙ last_of_applied applied last xs lists
