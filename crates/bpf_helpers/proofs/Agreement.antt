-- A table that has each Sig of a list has the Sig of each number there.
use Rattle.std.proofs.Common.{◌≡◌, ℕ, zero, suc, List, [], ◌∷◌, ◌++◌, Bool, true, false, Option, Some, None, eqb, ◌∙◌, refl, subst, arith}
use Rattle.std.specs.Prelude.{All, if◌then◌else◌}
use Rattle.std.proofs.lemmas.Bool.{eqb-true, eq-eqb, cond_both, cond-true}
use Rattle.std.proofs.lemmas.List.Elements.{All-append}
use Rattle.bpf_helpers.specs.declared.sig.Sig.{Sig}
use Rattle.bpf_helpers.specs.declared.sig.Entry.{Entry}
use Rattle.bpf_helpers.specs.Entries.{sig_of, AgreesWith}

abbrev pub Stands : List Entry → Entry → Type 0
Stands table e = sig_of table e.number ≡ Some e.sig

pub same_sigs : (table entries : List Entry) → All (Stands table) entries → (number : ℕ) (sig : Sig) → sig_of entries number ≡ Some sig → sig_of table number ≡ Some sig
same_sigs table [] all number sig = λ found. absurd (cc)
same_sigs table (e ∷ entries) all number sig =
    let rest : All (Stands table) entries = λ k d below. all (suc k) d (omega arith) in
    cond_both (eqb e.number number) (Some e.sig) (sig_of entries number) (λ found. found ≡ Some sig → sig_of table number ≡ Some sig)
    (λ t found. let same = eqb-true e.number number t in
    subst (λ n. sig_of table n ≡ Some sig) same (all 0 e (omega arith) ∙ found))
    (λ _ found. same_sigs table entries rest number sig found)

-- ---- a list in which no number stands twice

cond_split : (b : Bool) (x y v w : Option Sig) (P : Option Sig → Option Sig → Type 0) → (b ≡ true → P x v) → (b ≡ false → P y w) → P (if b then x else y) (if b then v else w)
cond_split true x y v w P p q = p refl
cond_split false x y v w P p q = q refl

-- what is found stays found where more follows
found_stays : (entries more : List Entry) (number : ℕ) (sig : Sig) → sig_of entries number ≡ Some sig → sig_of (entries ++ more) number ≡ Some sig
found_stays [] more number sig = λ found. absurd (cc)
found_stays (e ∷ entries) more number sig =
    cond_split (eqb e.number number) (Some e.sig) (sig_of entries number) (Some e.sig) (sig_of (entries ++ more) number) (λ a b. a ≡ Some sig → b ≡ Some sig)
    (λ _ found. found) (λ _. found_stays entries more number sig)

-- a number that isn't found is found at the end
found_at_end : (entries : List Entry) (e : Entry) → sig_of entries e.number ≡ None → sig_of (entries ++ e ∷ []) e.number ≡ Some e.sig
found_at_end [] e none = cond-true (eqb e.number e.number) (Some e.sig) None (eq-eqb e.number e.number refl)
found_at_end (x ∷ entries) e none =
    cond_split (eqb x.number e.number) (Some x.sig) (sig_of entries e.number) (Some x.sig) (sig_of (entries ++ e ∷ []) e.number) (λ a b. a ≡ None → b ≡ Some e.sig)
    (λ _ none. absurd (cc)) (λ _. found_at_end entries e) none

only_one : (table : List Entry) (e : Entry) → Stands table e → All (Stands table) (e ∷ [])
only_one table e stands zero d below = stands
only_one table e stands (suc k) d below = absurd (omega arith)

-- a list that has each of its own Sigs still does so with one more whose number is new
pub one_more : (entries : List Entry) (e : Entry) → AgreesWith entries entries → sig_of entries e.number ≡ None → AgreesWith (entries ++ e ∷ []) (entries ++ e ∷ [])
one_more entries e whole none =
    All-append (Stands (entries ++ e ∷ [])) entries (e ∷ [])
    (λ k d below. found_stays entries (e ∷ []) _ _ (whole k d below))
    (only_one (entries ++ e ∷ []) e (found_at_end entries e none))
