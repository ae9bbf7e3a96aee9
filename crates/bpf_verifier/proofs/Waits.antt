-- What waits for the slots, as rows change.
use Rattle.std.proofs.Common.{◌≡◌, ◌≢◌, ℕ, zero, suc, ◌+◌, ◌<◌, ◌≤◌, eqb, List, [], ◌∷◌, ◌++◌, length, get_or, set, replicate, true, false, Option, Some, None, refl, sym, ap, ◌∙◌, subst, ⊎_elim, arith}
use Rattle.std.specs.Prelude.{slice_get, Result, Ok, Err, IfOk}
use Rattle.std.specs.Option.{option_eq}
use Rattle.std.proofs.lemmas.Bool.{cases_eq, cond-true, cond-false, eqb-true, eq-eqb, ne_eqb}
use Rattle.std.proofs.lemmas.Option.{same_Some, slice_get_read}
use Rattle.bpf_semantics.specs.declared.profile.Profile.{Profile}
use Rattle.bpf_verifier.specs.declared.waiting.Held.{Held}
use Rattle.bpf_verifier.specs.declared.waiting.Waiting.{Waiting}
use Rattle.bpf_verifier.specs.Registers.{Row}
use Rattle.bpf_verifier.specs.Rows.{row_at, StartsZero, AreAlike, IsKnown, HasKinds, AreRowKinds}
use Rattle.bpf_verifier.specs.Waiting.{owner_of, owner_at, owned_by, held_for, waiting_from, waiting, AreOwned, StartZero, IsPool}
use Rattle.bpf_verifier.proofs.Tables.{row_there}
use Rattle.bpf_verifier.proofs.Zeros.{fewer_zeros, zeros_alike}

pub length_waiting : {N : ℕ} (s : ℕ) (places : List ℕ) (rows : List (Held N)) → length (waiting_from s places rows) ≡ length places
length_waiting s [] rows = refl
length_waiting s (p ∷ places) rows = ap suc (length_waiting (suc s) places rows)

-- what waits for a slot is the row at its place, where it is the slot's
pub row_waiting : {N : ℕ} (s k slot : ℕ) (places : List ℕ) (rows : List (Held N)) (place : ℕ) → slot ≡ s + k → slice_get places k ≡ Some place → row_at (waiting_from s places rows) k ≡ held_for slot (slice_get rows place)
row_waiting s k slot [] rows place e h = cc
row_waiting s zero slot (p ∷ places) rows place e h = let same : s ≡ slot = omega (arith, e) in ap (λ q. held_for q (slice_get rows p)) same ∙ ap (λ q. held_for slot (slice_get rows q)) (same_Some _ _ h)
row_waiting s (suc k) slot (p ∷ places) rows place e h = row_waiting (suc s) k slot places rows place (omega (arith, e)) h

pub owned : (slot : ℕ) (o : Option ℕ) (kinds : Row) → o ≡ Some slot → owned_by slot o kinds ≡ Some kinds
owned slot None kinds e = cc
owned slot (Some k) kinds e = cond-true (eqb k slot) (Some kinds) None (eq-eqb k slot (same_Some _ _ e))

pub not_owned : (slot : ℕ) (o : Option ℕ) (kinds : Row) → ((k : ℕ) → o ≡ Some k → k ≢ slot) → owned_by slot o kinds ≡ None
not_owned slot None kinds h = refl
not_owned slot (Some k) kinds h = cond-false (eqb k slot) (Some kinds) None (ne_eqb k slot (h k refl))

pub not_held : {N : ℕ} (slot : ℕ) (o : Option (Held N)) → ((k : ℕ) → owner_of o ≡ Some k → k ≢ slot) → held_for slot o ≡ None
not_held slot None h = refl
not_held slot (Some r) h = not_owned slot r.owner r.kinds h

-- rows that are the same for each slot but one
abbrev pub SameBut : {N : ℕ} → ℕ → List (Held N) → List (Held N) → Type 0
SameBut slot rows rows' = (j i : ℕ) → j ≢ slot → held_for j (slice_get rows' i) ≡ held_for j (slice_get rows i)

above : {N : ℕ} (s slot : ℕ) (places : List ℕ) (rows rows' : List (Held N)) → SameBut slot rows rows' → slot < s → waiting_from s places rows' ≡ waiting_from s places rows
above s slot [] rows rows' h lt = refl
above s slot (p ∷ places) rows rows' h lt =
    ap (λ r. r ∷ waiting_from (suc s) places rows') (h s p (λ e. omega (arith, e, lt)))
    ∙ ap (λ rs. held_for s (slice_get rows p) ∷ rs) (above (suc s) slot places rows rows' h (omega (arith, lt)))

-- a slot's place changes, and no row but the slot's
pub placed : {N : ℕ} (s k slot : ℕ) (places : List ℕ) (rows rows' : List (Held N)) (place : ℕ) → SameBut slot rows rows' → slot ≡ s + k → k < length places → waiting_from s (set places k place) rows' ≡ set (waiting_from s places rows) k (held_for slot (slice_get rows' place))
placed s k slot [] rows rows' place h e lt = absurd (omega (arith, lt))
placed s zero slot (p ∷ places) rows rows' place h e lt =
    let same : s ≡ slot = omega (arith, e) in
    ap (λ q. held_for q (slice_get rows' place) ∷ waiting_from (suc s) places rows') same
    ∙ ap (λ rs. held_for slot (slice_get rows' place) ∷ rs) (above (suc s) slot places rows rows' h (omega (arith, e)))
placed s (suc k) slot (p ∷ places) rows rows' place h e lt =
    ap (λ r. r ∷ waiting_from (suc s) (set places k place) rows') (h s p (λ q. omega (arith, e, q)))
    ∙ ap (λ rs. held_for s (slice_get rows p) ∷ rs) (placed (suc s) k slot places rows rows' place h (omega (arith, e)) (omega (arith, lt)))

set_same : (places : List ℕ) (k place : ℕ) → slice_get places k ≡ Some place → set places k place ≡ places
set_same [] k place e = refl
set_same (p ∷ places) zero place e = ap (λ q. q ∷ places) (sym (same_Some _ _ e))
set_same (p ∷ places) (suc k) place e = ap (λ ps. p ∷ ps) (set_same places k place e)

got_below : (places : List ℕ) (k place : ℕ) → slice_get places k ≡ Some place → k < length places
got_below [] k place e = cc
got_below (p ∷ places) zero place e = omega arith
got_below (p ∷ places) (suc k) place e = let h = got_below places k place e in omega (arith, h)

-- a slot's place stays, and no row changes but the slot's
pub kept_place : {N : ℕ} (slot : ℕ) (places : List ℕ) (rows rows' : List (Held N)) (place : ℕ) → SameBut slot rows rows' → slice_get places slot ≡ Some place → waiting_from 0 places rows' ≡ set (waiting_from 0 places rows) slot (held_for slot (slice_get rows' place))
kept_place slot places rows rows' place h e =
    ap (λ ps. waiting_from 0 ps rows') (sym (set_same places slot place e)) ∙ placed 0 slot slot places rows rows' place h (omega arith) (got_below places slot place e)

-- the row at a place, of that slot or free, becomes another of that slot, or free
pub one_row : {N : ℕ} (slot : ℕ) (rows : List (Held N)) (place : ℕ) (held : Held N) → ((k : ℕ) → owner_at rows place ≡ Some k → k ≡ slot) → ((k : ℕ) → held.owner ≡ Some k → k ≡ slot) → SameBut slot rows (set rows place held)
one_row slot [] place held was is j i ne = refl
one_row slot (r ∷ rows) zero held was is j zero ne =
    not_owned j held.owner held.kinds (λ k e q. ne (sym q ∙ is k e)) ∙ sym (not_owned j r.owner r.kinds (λ k e q. ne (sym q ∙ was k e)))
one_row slot (r ∷ rows) zero held was is j (suc i) ne = refl
one_row slot (r ∷ rows) (suc place) held was is j zero ne = refl
one_row slot (r ∷ rows) (suc place) held was is j (suc i) ne = one_row slot rows place held was is j i ne

-- a row more, of that slot
pub row_more : {N : ℕ} (slot : ℕ) (rows : List (Held N)) (held : Held N) → ((k : ℕ) → held.owner ≡ Some k → k ≡ slot) → SameBut slot rows (rows ++ held ∷ [])
row_more slot [] held is j zero ne = not_owned j held.owner held.kinds (λ k e q. ne (sym q ∙ is k e))
row_more slot [] held is j (suc i) ne = refl
row_more slot (r ∷ rows) held is j zero ne = refl
row_more slot (r ∷ rows) held is j (suc i) ne = row_more slot rows held is j i ne

pub got_set : {N : ℕ} (rows : List (Held N)) (place : ℕ) (held : Held N) → place < length rows → slice_get (set rows place held) place ≡ Some held
got_set [] place held h = absurd (omega (arith, h))
got_set (r ∷ rows) zero held h = refl
got_set (r ∷ rows) (suc place) held h = got_set rows place held (omega (arith, h))

pub got_more : {N : ℕ} (rows : List (Held N)) (place : ℕ) (held : Held N) → place ≡ length rows → slice_get (rows ++ held ∷ []) place ≡ Some held
got_more [] zero held h = refl
got_more [] (suc place) held h = absurd (omega (arith, h))
got_more (r ∷ rows) zero held h = absurd (omega (arith, h))
got_more (r ∷ rows) (suc place) held h = got_more rows place held (omega (arith, h))

-- nothing waits at first
none_from : {N : ℕ} (s n place : ℕ) (rows : List (Held N)) → rows ≡ [] → waiting_from s (replicate n place) rows ≡ replicate n None
none_from s zero place rows e = refl
none_from s (suc n) place rows e = ap (λ rs. held_for s (slice_get rs place) ∷ waiting_from (suc s) (replicate n place) rows) e ∙ ap (λ rs. None ∷ rs) (none_from (suc s) n place rows e)

pub none_at_first : {N : ℕ} (places : List ℕ) (n place : ℕ) (rows : List (Held N)) → places ≡ replicate n place → rows ≡ [] → waiting_from 0 places rows ≡ replicate n None
none_at_first places n place rows p e = ap (λ ps. waiting_from 0 ps rows) p ∙ none_from 0 n place rows e

pub is_owner : (o : Option ℕ) (slot : ℕ) → true ≡ option_eq eqb o (Some slot) → o ≡ Some slot
is_owner None slot e = cc
is_owner (Some k) slot e = ap Some (eqb-true k slot (sym e))

pub no_owner : (o : Option ℕ) (slot : ℕ) → false ≡ option_eq eqb o (Some slot) → (k : ℕ) → o ≡ Some k → k ≢ slot
no_owner o slot e k is same = let yes : option_eq eqb o (Some slot) ≡ true = ap (λ q. option_eq eqb q (Some slot)) is ∙ eq-eqb k slot same in let clash : false ≡ true = e ∙ yes in cc

-- a slot's row, where the row at its place is the slot's
pub row_is_held : {N : ℕ} (slot : ℕ) (places : List ℕ) (rows : List (Held N)) (place : ℕ) (held : Held N) → slice_get places slot ≡ Some place → slice_get rows place ≡ Some held → held.owner ≡ Some slot → row_at (waiting_from 0 places rows) slot ≡ Some held.kinds
row_is_held slot places rows place held p r o =
    row_waiting 0 slot slot places rows place (omega arith) p ∙ ap (held_for slot) r ∙ owned slot held.owner held.kinds o

-- and none, where it isn't
pub row_is_none : {N : ℕ} (slot : ℕ) (places : List ℕ) (rows : List (Held N)) (place : ℕ) → slice_get places slot ≡ Some place → ((k : ℕ) → owner_at rows place ≡ Some k → k ≢ slot) → row_at (waiting_from 0 places rows) slot ≡ None
row_is_none slot places rows place p h = row_waiting 0 slot slot places rows place (omega arith) p ∙ not_held slot (slice_get rows place) h

pub none_some : (k : ℕ) → None ≡ Some k → ⊥
none_some k e = cc

pub only_some : (o : Option ℕ) (slot : ℕ) → o ≡ Some slot → (k : ℕ) → o ≡ Some k → k ≡ slot
only_some o slot e k f = same_Some _ _ (sym f ∙ e)

pub only_none : (o : Option ℕ) (slot : ℕ) → o ≡ None → (k : ℕ) → o ≡ Some k → k ≡ slot
only_none o slot e k f = let clash : None ≡ Some k = sym e ∙ f in cc

-- a slot's row is let go
pub let_go : {N : ℕ} (slot : ℕ) (places : List ℕ) (rows : List (Held N)) (place : ℕ) (held : Held N) → slice_get places slot ≡ Some place → owner_at rows place ≡ Some slot → place < length rows → held.owner ≡ None → waiting_from 0 places (set rows place held) ≡ set (waiting_from 0 places rows) slot None
let_go slot places rows place held p o lt none =
    kept_place slot places rows (set rows place held) place (one_row slot rows place held (only_some _ slot o) (only_none _ slot none)) p
    ∙ ap (set (waiting_from 0 places rows) slot) (ap (held_for slot) (got_set rows place held lt) ∙ not_owned slot held.owner held.kinds (λ k e. absurd (none_some k (sym none ∙ e))))

-- a slot's row changes
pub changed : {N : ℕ} (slot : ℕ) (places : List ℕ) (rows : List (Held N)) (place : ℕ) (held : Held N) → slice_get places slot ≡ Some place → owner_at rows place ≡ Some slot → place < length rows → held.owner ≡ Some slot → waiting_from 0 places (set rows place held) ≡ set (waiting_from 0 places rows) slot (Some held.kinds)
changed slot places rows place held p o lt is =
    kept_place slot places rows (set rows place held) place (one_row slot rows place held (only_some _ slot o) (only_some _ slot is)) p
    ∙ ap (set (waiting_from 0 places rows) slot) (ap (held_for slot) (got_set rows place held lt) ∙ owned slot held.owner held.kinds is)

-- a free row becomes a slot's
pub taken_up : {N : ℕ} (slot : ℕ) (places : List ℕ) (rows : List (Held N)) (place : ℕ) (held : Held N) → slot < length places → owner_at rows place ≡ None → place < length rows → held.owner ≡ Some slot → waiting_from 0 (set places slot place) (set rows place held) ≡ set (waiting_from 0 places rows) slot (Some held.kinds)
taken_up slot places rows place held s o lt is =
    placed 0 slot slot places rows (set rows place held) place (one_row slot rows place held (only_none _ slot o) (only_some _ slot is)) (omega arith) s
    ∙ ap (set (waiting_from 0 places rows) slot) (ap (held_for slot) (got_set rows place held lt) ∙ owned slot held.owner held.kinds is)

-- a row more, which is a slot's
pub one_more : {N : ℕ} (slot : ℕ) (places : List ℕ) (rows : List (Held N)) (place : ℕ) (held : Held N) → slot < length places → place ≡ length rows → held.owner ≡ Some slot → waiting_from 0 (set places slot place) (rows ++ held ∷ []) ≡ set (waiting_from 0 places rows) slot (Some held.kinds)
one_more slot places rows place held s e is =
    placed 0 slot slot places rows (rows ++ held ∷ []) place (row_more slot rows held (only_some _ slot is)) (omega arith) s
    ∙ ap (set (waiting_from 0 places rows) slot) (ap (held_for slot) (got_more rows place held e) ∙ owned slot held.owner held.kinds is)

-- what is read at the place of a slot's row
pub read_held : {N : ℕ} (slot : ℕ) (places : List ℕ) (rows : List (Held N)) (place : ℕ) (held : Held N) → slice_get places slot ≡ Some place → owner_at rows place ≡ Some slot → place < length rows → held ≡ get_or rows place held → (held.owner ≡ Some slot) × (row_at (waiting_from 0 places rows) slot ≡ Some held.kinds)
read_held slot places rows place held p o lt e =
    let there = slice_get_read rows (length rows) place held refl lt e in
    let is = sym (ap owner_of there) ∙ o in
    (is, row_is_held slot places rows place held p there is)

pub set_none : (rows : List (Option Row)) (slot : ℕ) → row_at rows slot ≡ None → rows ≡ set rows slot None
set_none [] slot e = refl
set_none (r ∷ rows) zero e = ap (λ q. q ∷ rows) e
set_none (r ∷ rows) (suc slot) e = ap (λ rs. r ∷ rs) (set_none rows slot e)

pub row_kinds : (profile : Profile) (low : ℕ) (rows : List (Option Row)) (slot : ℕ) (row : Row) → slot < length rows → row_at rows slot ≡ Some row → AreRowKinds profile low rows → IsKnown profile low row
row_kinds profile low rows slot row lt e kinds = subst (HasKinds profile low) e (kinds slot (row_at rows slot) (row_there rows slot lt))

-- ---- the pool

-- the owners of the rows before a place, as a row there or behind it changes
before_set : {N : ℕ} (rows : List (Held N)) (place q : ℕ) (held : Held N) → q < place → owner_at (set rows place held) q ≡ owner_at rows q
before_set [] place q held lt = refl
before_set (r ∷ rows) zero q held lt = absurd (omega (arith, lt))
before_set (r ∷ rows) (suc place) zero held lt = refl
before_set (r ∷ rows) (suc place) (suc q) held lt = before_set rows place q held (omega (arith, lt))

before_more : {N : ℕ} (rows : List (Held N)) (q : ℕ) (held : Held N) → q < length rows → owner_at (rows ++ held ∷ []) q ≡ owner_at rows q
before_more [] q held lt = absurd (omega (arith, lt))
before_more (r ∷ rows) zero held lt = refl
before_more (r ∷ rows) (suc q) held lt = before_more rows q held (omega (arith, lt))

is_some_owner : (o : Option ℕ) (slot : ℕ) → o ≡ Some slot → o ≢ None
is_some_owner o slot e none = let clash : Some slot ≡ None = sym e ∙ none in cc

-- no place before one was free, and this one is taken
pub owned_more : {N : ℕ} (rows : List (Held N)) (place slot : ℕ) (held : Held N) → AreOwned rows place → place < length rows → held.owner ≡ Some slot → AreOwned (set rows place held) (place + 1)
owned_more rows place slot held h lt is q le =
    ⊎_elim (λ same. is_some_owner _ slot (ap (owner_at (set rows place held)) same ∙ ap owner_of (got_set rows place held lt) ∙ is))
    (λ other. let before : q < place = omega (arith, other, le) in subst (λ o. o ≢ None) (sym (before_set rows place q held before)) (h q before))
    (cases_eq q place)

-- each place was taken, and a row more is
pub owned_pushed : {N : ℕ} (rows : List (Held N)) (place slot : ℕ) (held : Held N) → AreOwned rows (length rows) → place ≡ length rows → held.owner ≡ Some slot → AreOwned (rows ++ held ∷ []) (place + 1)
owned_pushed rows place slot held h e is q le =
    ⊎_elim (λ same. is_some_owner _ slot (ap (owner_at (rows ++ held ∷ [])) same ∙ ap owner_of (got_more rows place held e) ∙ is))
    (λ other. let before : q < length rows = omega (arith, other, le, e) in subst (λ o. o ≢ None) (sym (before_more rows q held before)) (h q before))
    (cases_eq q place)

-- one is let go
pub owned_less : {N : ℕ} (rows : List (Held N)) (free place less : ℕ) (held : Held N) → AreOwned rows free → less ≤ free → less ≤ place → AreOwned (set rows place held) less
owned_less rows free place less held h le there q lt =
    subst (λ o. o ≢ None) (sym (before_set rows place q held (omega (arith, lt, there)))) (h q (omega (arith, lt, le)))

pub owner_set : {N : ℕ} (rows : List (Held N)) (place : ℕ) (held : Held N) → place < length rows → owner_at (set rows place held) place ≡ held.owner
owner_set rows place held lt = ap owner_of (got_set rows place held lt)

-- a row changes, and not its owner
pub owned_kept : {N : ℕ} (rows : List (Held N)) (free place : ℕ) (held : Held N) → AreOwned rows free → place < length rows → owner_at rows place ≡ held.owner → AreOwned (set rows place held) free
owned_kept rows free place held h lt same q le =
    ⊎_elim (λ e. let here : owner_at (set rows place held) q ≡ owner_at rows q = ap (owner_at (set rows place held)) e ∙ owner_set rows place held lt ∙ sym same ∙ sym (ap (owner_at rows) e) in subst (λ o. o ≢ None) (sym here) (h q le))
    (λ ne. subst (λ o. o ≢ None) (sym (elsewhere rows place q held ne)) (h q le))
    (cases_eq q place)
  where
    elsewhere : {N : ℕ} (rows : List (Held N)) (place q : ℕ) (held : Held N) → q ≢ place → owner_at (set rows place held) q ≡ owner_at rows q
    elsewhere [] place q held ne = refl
    elsewhere (r ∷ rows) zero zero held ne = absurd (ne refl)
    elsewhere (r ∷ rows) zero (suc q) held ne = refl
    elsewhere (r ∷ rows) (suc place) zero held ne = refl
    elsewhere (r ∷ rows) (suc place) (suc q) held ne = elsewhere rows place q held (λ e. ne (ap suc e))

module _ (profile : Profile) (low : ℕ) where
  -- rows that are held begin with zeros: where none is, where one is set, and where there is one more
  pub none_zeros : {N : ℕ} (rows : List (Held N)) → rows ≡ [] → StartZero profile low rows
  none_zeros [] e place held got = cc
  none_zeros (r ∷ rows) e place held got = cc

  pub zeros_set : {N : ℕ} (rows : List (Held N)) (place : ℕ) (held : Held N) → StartZero profile low rows → StartsZero profile low held.kinds → StartZero profile low (set rows place held)
  zeros_set [] place held h z q other e = h q other e
  zeros_set (r ∷ rows) zero held h z zero other e = subst (λ o. StartsZero profile low o.kinds) (same_Some _ _ e) z
  zeros_set (r ∷ rows) zero held h z (suc q) other e = h (suc q) other e
  zeros_set (r ∷ rows) (suc place) held h z zero other e = h zero other e
  zeros_set (r ∷ rows) (suc place) held h z (suc q) other e = zeros_set rows place held (λ i o. h (suc i) o) z q other e

  pub zeros_more : {N : ℕ} (rows : List (Held N)) (held : Held N) → StartZero profile low rows → StartsZero profile low held.kinds → StartZero profile low (rows ++ held ∷ [])
  zeros_more [] held h z zero other e = subst (λ o. StartsZero profile low o.kinds) (same_Some _ _ e) z
  zeros_more [] held h z (suc q) other e = cc
  zeros_more (r ∷ rows) held h z zero other e = h zero other e
  zeros_more (r ∷ rows) held h z (suc q) other e = zeros_more rows held (λ i o. h (suc i) o) z q other e

  -- where one is read
  pub zeros_read : {N : ℕ} (rows : List (Held N)) (place : ℕ) (held : Held N) → StartZero profile low rows → place < length rows → held ≡ get_or rows place held → StartsZero profile low held.kinds
  zeros_read rows place held h lt e = h place held (slice_get_read rows (length rows) place held refl lt e)

  -- before a lower place
  pub zeros_below : {N : ℕ} (less : ℕ) (rows : List (Held N)) → less ≤ low → StartZero profile low rows → StartZero profile less rows
  zeros_below less rows le h place held e = fewer_zeros profile low less held.kinds le (h place held e)

  -- a row that begins with zeros is like each of them there
  pub all_alike : {N : ℕ} (rows : List (Held N)) (row : Row) → StartZero profile low rows → StartsZero profile low row → (place : ℕ) (held : Held N) → slice_get rows place ≡ Some held → AreAlike low held.kinds row
  all_alike rows row h z place held e = zeros_alike profile low held.kinds row (h place held e) z

-- a pool after a row was set, with the same zeros
pub pool_moved : {N : ℕ} (profile : Profile) (w w' : Waiting N) → w'.low ≡ w.low → AreOwned w'.held.items w'.free → StartZero profile w.low w'.held.items → AreRowKinds profile w.low (waiting w') → IsPool profile w → IsPool profile w'
pool_moved {N} profile w w' e owned zeros kinds pool = record {
  kinds = subst (λ l. AreRowKinds profile l (waiting w')) (sym e) kinds;
  owned = owned;
  zeros = subst (λ l. StartZero profile l w'.held.items) (sym e) zeros;
  registers = subst (λ l. 11 ≤ l) (sym e) pool.registers;
  short = subst (λ l. l ≤ N) (sym e) pool.short;
}

pub ok_both : {A E : Type 0} (r : Result A E) (P Q R : A → Type 0) → IfOk r P → IfOk r Q → ((x : A) → P x → Q x → R x) → IfOk r R
ok_both (Ok x) P Q R p q f = f x p q
ok_both (Err e) P Q R p q f = tt
