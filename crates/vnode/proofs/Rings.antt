-- Where the keys of a shard stand, as it was told.
use Rattle.std.proofs.Common.{◌≡◌, ℕ, zero, suc, ◌<◌, ◌≤◌, ◌⊎◌, inl, inr, List, [], ◌∷◌, ◌++◌, length, Option, Some, get_or, refl, ap, sym, subst, ◌∙◌, arith, length-append}
use Rattle.std.specs.Prelude.{slice_get, slice_set, map, max, replicate, take, Bool, true, false, if◌then◌else◌}
use Rattle.std.specs.List.{zip}
use Rattle.std.proofs.Math.Nat.{mod-lt}
use Rattle.std.proofs.lemmas.Option.{slice_get-get_or, slice_get_within, same_Some}
use Rattle.key_state.specs.declared.content.Key.{Key}
use Rattle.key_state.specs.State.{State, empty}
use Rattle.ring.specs.Places.{ring_place}
use Rattle.vnode.specs.RingPlaces.{AreOf, number}
use Rattle.vnode.specs.declared.ring_places.RingPlace.{RingPlace}
use Rattle.vnode.specs.declared.ring_places.RingPlace.TheVariants.{Untold}
use Rattle.vnode.proofs.Entries.{zip-get}

-- nothing was told
pub none_of : (told : List (Option ℕ)) (ks : List Key) → told ≡ [] → AreOf told ks
none_of told ks is = subst (λ ps. AreOf ps ks) (sym is) (record { within = omega (arith); each = λ i p k there key. cc })

-- one key more
get_left : {X : Type 0} (xs : List X) (x y : X) (i : ℕ) → i < length xs → slice_get (xs ++ x ∷ []) i ≡ Some y → slice_get xs i ≡ Some y
get_left [] x y i lt there = absurd (omega (arith, lt))
get_left (z ∷ xs) x y zero lt there = there
get_left (z ∷ xs) x y (suc i) lt there = get_left xs x y i (omega (arith, lt)) there

pub more_of : (told : List (Option ℕ)) (ks more : List Key) (q : Key) → more ≡ ks ++ q ∷ [] → AreOf told ks → AreOf told more
more_of told ks more q is are = subst (AreOf told) (sym is) (
    let within = are.within in
    let longer = length-append ks (q ∷ []) in record {
      within = omega (arith, within, longer);
      each = λ i p k there key. are.each i p k there (get_left ks q k i (let lt = slice_get_within told i (Some p) there in omega (arith, lt, within)) key);
    })

-- the place of a key was told
pub told_of : (old new : List (Option ℕ)) (ks : List Key) (vs : List State) (i place : ℕ) → length vs ≡ length ks
    → ((j p : ℕ) → slice_get new j ≡ Some (Some p) → (slice_get old j ≡ Some (Some p)) ⊎ ((j ≡ i) × (p ≡ place)))
    → length new ≤ max (length old) (length ks)
    → ((k : Key) (v : State) → slice_get (zip ks vs) i ≡ Some (k, v) → place ≡ ring_place k.bucket k.key)
    → AreOf old ks → AreOf new ks
told_of old new ks vs i place stated told count is are = record {
  within = let within = are.within in omega (arith, within, count);
  each = λ j p k there key. by_told j p k key (told j p there);
}
  where
    by_told : (j p : ℕ) (k : Key) → slice_get ks j ≡ Some k → (slice_get old j ≡ Some (Some p)) ⊎ ((j ≡ i) × (p ≡ place)) → p ≡ ring_place k.bucket k.key
    by_told j p k key (inl there) = are.each j p k there key
    by_told j p k key (inr at) =
        let lt : j < length vs = let within = slice_get_within ks j k key in omega (arith, within, stated) in
        let there : slice_get (zip ks vs) j ≡ Some (k, get_or vs j empty) = zip-get ks vs j k (get_or vs j empty) key (slice_get-get_or vs j empty lt) in
        at.1 ∙ is k (get_or vs j empty) (ap (slice_get (zip ks vs)) (sym at.0) ∙ there)

-- such a place is one of three
pub is_one : (ks : List Key) (vs : List State) (i place : ℕ) → i < length (zip ks vs) → ((k : Key) (v : State) → slice_get (zip ks vs) i ≡ Some (k, v) → place ≡ ring_place k.bucket k.key) → place < 3
is_one [] vs i place lt is = absurd (omega (arith, lt))
is_one (k ∷ ks) [] i place lt is = absurd (omega (arith, lt))
is_one (k ∷ ks) (v ∷ vs) zero place lt is = subst (λ n. n < 3) (sym (is k v refl)) (mod-lt _ (omega (arith)))
is_one (k ∷ ks) (v ∷ vs) (suc i) place lt is = is_one ks vs i place (omega (arith, lt)) is

-- of a list that is cut and filled up, what was told was told before
cut_told : (xs : List RingPlace) (n j p : ℕ) → slice_get (map number (take n xs)) j ≡ Some (Some p) → slice_get (map number xs) j ≡ Some (Some p)
cut_told xs zero j p told = cc
cut_told [] (suc n) j p told = told
cut_told (x ∷ xs) (suc n) zero p told = told
cut_told (x ∷ xs) (suc n) (suc j) p told = cut_told xs n j p told

untold : (m j p : ℕ) → slice_get (map number (replicate m Untold)) j ≡ Some (Some p) → ⊥
untold zero j p told = cc
untold (suc m) zero p told = cc
untold (suc m) (suc j) p told = untold m j p told

filled_told : (xs : List RingPlace) (m j p : ℕ) → slice_get (map number (xs ++ replicate m Untold)) j ≡ Some (Some p) → slice_get (map number xs) j ≡ Some (Some p)
filled_told [] m j p told = absurd (untold m j p told)
filled_told (x ∷ xs) m zero p told = told
filled_told (x ∷ xs) m (suc j) p told = filled_told xs m j p told

pub resized_told : (xs new : List RingPlace) (ok : Bool) (n m j p : ℕ) → new ≡ (if ok then take n xs ++ replicate m Untold else xs)
    → slice_get (map number new) j ≡ Some (Some p) → slice_get (map number xs) j ≡ Some (Some p)
resized_told xs new true n m j p is told = cut_told xs n j p (filled_told (take n xs) m j p (subst (λ ps. slice_get (map number ps) j ≡ Some (Some p)) is told))
resized_told xs new false n m j p is told = subst (λ ps. slice_get (map number ps) j ≡ Some (Some p)) is told

-- of a list in which one place was written, what was told is that, or was told before
pub set_told : (xs : List RingPlace) (i : ℕ) (x : RingPlace) (place j p : ℕ) → number x ≡ Some place
    → slice_get (map number (slice_set xs i x)) j ≡ Some (Some p) → (slice_get (map number xs) j ≡ Some (Some p)) ⊎ ((j ≡ i) × (p ≡ place))
set_told [] i x place j p is told = inl told
set_told (y ∷ ys) zero x place zero p is told = inr (refl, sym (same_Some place p (sym is ∙ same_Some (number x) (Some p) told)))
set_told (y ∷ ys) zero x place (suc j) p is told = inl told
set_told (y ∷ ys) (suc i) x place zero p is told = inl told
set_told (y ∷ ys) (suc i) x place (suc j) p is told = by_rest (set_told ys i x place j p is told)
  where
    by_rest : (slice_get (map number ys) j ≡ Some (Some p)) ⊎ ((j ≡ i) × (p ≡ place)) → (slice_get (map number ys) j ≡ Some (Some p)) ⊎ ((suc j ≡ suc i) × (p ≡ place))
    by_rest (inl there) = inl there
    by_rest (inr at) = inr (ap (λ n. suc n) at.0, at.1)
