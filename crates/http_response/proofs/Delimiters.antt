-- On delimiters in bytes.
use Rattle.std.proofs.Common.{◌≡◌, ◌∙◌, sym, ap, refl, ℕ, zero, suc, ◌+◌, ◌<◌, ◌≤◌, Bool, true, false, List, [], ◌∷◌, ◌++◌, length, drop, arith, append_assoc, length-drop, ⊎_elim}
use Rattle.std.specs.Prelude.{◌||◌, nat_eq, codes}
use Rattle.std.specs.List.{starts_with}
use Rattle.std.proofs.Math.Bool.{or_assoc, or-false}
use Rattle.std.proofs.lemmas.Bool.{cases_Bool}
use Rattle.std.proofs.lemmas.Bool.Decides.{Decides-eqb}
use Rattle.std.proofs.lemmas.List.Prefix.{front_fits, at_reads, at_from_reads}
use Rattle.std.proofs.lemmas.Slice.Eq.{starts_is}
use Rattle.memchr.specs.Find.{OccursAt, NoneBefore, Nowhere}
use Rattle.http_response.specs.Parts.{occurs_in}

-- the bytes begin with a needle
begins : (bytes needle : List ℕ) → starts_with nat_eq bytes needle ≡ true → bytes ≡ needle ++ drop (length needle) bytes
begins bytes needle e = (starts_is Decides-eqb bytes needle _ refl).0 e

pub begins_from : (bytes needle rest : List ℕ) → bytes ≡ needle ++ rest → starts_with nat_eq bytes needle ≡ true
begins_from bytes needle rest e = (starts_is Decides-eqb bytes needle _ refl).1 rest e

pub begins_is : (bytes needle : List ℕ) → starts_with nat_eq bytes needle ≡ true → bytes ≡ needle ++ drop (length needle) bytes
begins_is bytes needle e = begins bytes needle e

-- bytes that begin with a needle begin with its front
front_begins : (bytes front needle : List ℕ) → starts_with nat_eq bytes (front ++ needle) ≡ true → starts_with nat_eq bytes front ≡ true
front_begins bytes front needle e =
    begins_from bytes front _ (begins bytes (front ++ needle) e ∙ append_assoc front needle _)

begins_at : (bytes needle : List ℕ) (j : ℕ) → j ≤ length bytes → starts_with nat_eq (drop j bytes) needle ≡ true → OccursAt bytes needle j
begins_at bytes needle j inside e =
    let is = begins (drop j bytes) needle e in
    record {
      fits = omega (arith, front_fits (drop j bytes) needle (drop (length needle) (drop j bytes)) is, length-drop j bytes);
      reads = at_reads 0 bytes needle j (drop (length needle) (drop j bytes)) is;
    }

-- where no front of a needle begins, the needle doesn't
none_begins : (bytes front needle : List ℕ) (j : ℕ) → j ≤ length bytes → ¬ (OccursAt bytes front j)
    → starts_with nat_eq (drop j bytes) (front ++ needle) ≡ false
none_begins bytes front needle j inside none =
    ⊎_elim (λ yes. absurd (none (begins_at bytes front j inside (front_begins (drop j bytes) front needle yes)))) (λ no. no)
    (cases_Bool (starts_with nat_eq (drop j bytes) (front ++ needle)))

-- bytes at whose first places no needle begins hold it where the rest does
occurs_behind : (needle bytes : List ℕ) (k : ℕ) → k ≤ length bytes
    → ((j : ℕ) → j < k → starts_with nat_eq (drop j bytes) needle ≡ false) → occurs_in needle bytes ≡ occurs_in needle (drop k bytes)
occurs_behind needle [] zero inside none = refl
occurs_behind needle (b ∷ bytes) zero inside none = refl
occurs_behind needle [] (suc k) inside none = absurd (omega (arith, inside))
occurs_behind needle (b ∷ bytes) (suc k) inside none =
    ap (λ t. t || occurs_in needle bytes) (none 0 (omega arith))
    ∙ occurs_behind needle bytes k (omega (arith, inside)) (λ j lt. none (suc j) (omega (arith, lt)))

-- a delimiter that begins here, or stands further behind
at_delimiter : (ds bytes : List ℕ)
    → occurs_in (codes "--s" ++ ds) (codes "--s" ++ bytes) ≡ (starts_with nat_eq bytes ds || occurs_in (codes "--s" ++ ds) bytes)
at_delimiter ds bytes = refl

-- where no delimiter's front stands, no delimiter does
pub none_stands : (bytes ds : List ℕ) → Nowhere (OccursAt bytes (codes "--s")) 0 (length bytes + 1)
    → occurs_in (codes "--s" ++ ds) bytes ≡ false
none_stands bytes ds none =
    occurs_behind (codes "--s" ++ ds) bytes (length bytes) (omega arith)
    (λ j lt. none_begins bytes (codes "--s") ds j (omega (arith, lt)) (none j (omega arith) (omega (arith, lt))))
    ∙ ap (occurs_in (codes "--s" ++ ds)) (drop_all bytes)
  where
    drop_all : (xs : List ℕ) → drop (length xs) xs ≡ []
    drop_all [] = refl
    drop_all (x ∷ xs) = drop_all xs

-- behind the first front of a delimiter
pub first_stands : (bytes ds : List ℕ) (at : ℕ) → NoneBefore (OccursAt bytes (codes "--s")) 0 (length bytes + 1) at → OccursAt bytes (codes "--s") at
    → occurs_in (codes "--s" ++ ds) bytes ≡ (starts_with nat_eq (drop (at + 3) bytes) ds || occurs_in (codes "--s" ++ ds) (drop (at + 3) bytes))
first_stands bytes ds at first stands =
    occurs_behind (codes "--s" ++ ds) bytes at (omega (arith, stands.fits))
    (λ j lt. none_begins bytes (codes "--s") ds j (omega (arith, lt, stands.fits)) (first.before j (omega arith) lt))
    ∙ (ap (occurs_in (codes "--s" ++ ds)) (at_from_reads 0 bytes (codes "--s") at stands.fits stands.reads)
    ∙ at_delimiter ds (drop (at + 3) bytes))

-- one step of the search, on the tests of one number
pub marked_behind : (old new stands begins behind all : Bool) → new ≡ (old || begins) → stands ≡ (begins || behind)
    → (old || stands) ≡ all → (new || behind) ≡ all
marked_behind old new stands begins behind all e d h =
    ap (λ t. t || behind) e ∙ (or_assoc old begins behind ∙ (ap (λ t. old || t) (sym d) ∙ h))

pub marked_at_end : (marked stands all : Bool) → stands ≡ false → (marked || stands) ≡ all → marked ≡ all
marked_at_end marked stands all e h = sym (or-false marked) ∙ (ap (λ t. marked || t) (sym e) ∙ h)
