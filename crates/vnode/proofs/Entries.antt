-- The entries of a shard: its keys beside its states.
use Rattle.std.proofs.Common.{◌≡◌, ◌<◌, ℕ, zero, suc, Bool, true, false, cond, List, [], ◌∷◌, ◌++◌, length, Option, Some, None, get_or, refl, ap, sym, subst, ◌∙◌, arith, map, is_some, length-append}
use Rattle.std.specs.Prelude.{◌↔◌, Contains, OnOk, OnErr, Result, Ok, Err, option_map, slice_get, slice_set, slice_index}
use Rattle.std.specs.List.{IsDistinct, list_any, zip}
use Rattle.std.specs.Map.{lookup}
use Rattle.std.proofs.lemmas.List.{length-map, length-set, map-append}
use Rattle.std.proofs.lemmas.Map.Entries.{lookup_from_place, place_from_lookup}
use Rattle.std.proofs.lemmas.Map.Keys.{IsDistinct-push}
use Rattle.std.proofs.lemmas.Map.Made.{is_some-lookup}
use Rattle.std.proofs.lemmas.Map.Views.{Contains-from_lookup, lookup-from_Contains}
use Rattle.std.proofs.lemmas.Option.{get_or_from_slice_get, same_Some, slice_get-get_or, slice_get-map, slice_get_within}
use Rattle.std.proofs.lemmas.Slice.Zip.{firsts-zip}
use Rattle.key_state.specs.declared.content.Key.{Key}
use Rattle.key_state.specs.State.{State, empty}
use Rattle.vnode.specs.Shards.{AreEntries, IsEntry, IsHashed, IsUnique, LacksHashed, Shard, found_in, key_eq, known_keys, short_of}
use Rattle.vnode.specs.declared.seed.Seed.{Seed}
use Rattle.vnode.proofs.Keyed.{key_laws, key_one}

-- the element that was set, and the others
pub slice_get-set_same : {X : Type 0} (xs : List X) (i : ℕ) (x : X) → i < length xs → slice_get (slice_set xs i x) i ≡ Some x
slice_get-set_same [] i x lt = absurd (omega (arith, lt))
slice_get-set_same (y ∷ ys) zero x lt = refl
slice_get-set_same (y ∷ ys) (suc i) x lt = slice_get-set_same ys i x (omega (arith, lt))

pub slice_get-set_other : {X : Type 0} (xs : List X) (i j : ℕ) (x : X) → (j ≡ i → ⊥) → slice_get (slice_set xs i x) j ≡ slice_get xs j
slice_get-set_other [] i j x apart = refl
slice_get-set_other (y ∷ ys) zero zero x apart = absurd (apart refl)
slice_get-set_other (y ∷ ys) zero (suc j) x apart = refl
slice_get-set_other (y ∷ ys) (suc i) zero x apart = refl
slice_get-set_other (y ∷ ys) (suc i) (suc j) x apart = slice_get-set_other ys i j x (λ e. apart (ap (λ n. suc n) e))

-- keys beside states
pub zip-get : {K X : Type 0} (ks : List K) (vs : List X) (i : ℕ) (k : K) (v : X) → slice_get ks i ≡ Some k → slice_get vs i ≡ Some v → slice_get (zip ks vs) i ≡ Some (k, v)
zip-get [] vs i k v key value = cc
zip-get (x ∷ ks) [] i k v key value = cc
zip-get (x ∷ ks) (y ∷ vs) zero k v key value = ap (λ x. Some (x, y)) (same_Some x k key) ∙ ap (λ y. Some (k, y)) (same_Some y v value)
zip-get (x ∷ ks) (y ∷ vs) (suc i) k v key value = zip-get ks vs i k v key value

pub zip-key : {K X : Type 0} (ks : List K) (vs : List X) (i : ℕ) (k : K) (v : X) → slice_get (zip ks vs) i ≡ Some (k, v) → slice_get ks i ≡ Some k
zip-key [] vs i k v there = cc
zip-key (x ∷ ks) [] i k v there = cc
zip-key (x ∷ ks) (y ∷ vs) zero k v there = ap (λ e. Some e.0) (same_Some (x, y) (k, v) there)
zip-key (x ∷ ks) (y ∷ vs) (suc i) k v there = zip-key ks vs i k v there

pub zip-set : {K X : Type 0} (ks : List K) (vs : List X) (i : ℕ) (k : K) (v w : X) → slice_get (zip ks vs) i ≡ Some (k, v) → zip ks (slice_set vs i w) ≡ slice_set (zip ks vs) i (k, w)
zip-set [] vs i k v w there = refl
zip-set (x ∷ ks) [] i k v w there = refl
zip-set (x ∷ ks) (y ∷ vs) zero k v w there = ap (λ e. (e.0, w) ∷ zip ks vs) (same_Some (x, y) (k, v) there)
zip-set (x ∷ ks) (y ∷ vs) (suc i) k v w there = ap (λ es. (x, y) ∷ es) (zip-set ks vs i k v w there)

pub zip-push : {K X : Type 0} (ks : List K) (vs : List X) (k : K) (v : X) → length vs ≡ length ks → zip (ks ++ k ∷ []) (vs ++ v ∷ []) ≡ zip ks vs ++ (k, v) ∷ []
zip-push [] [] k v same = refl
zip-push [] (y ∷ vs) k v same = absurd (omega (arith, same))
zip-push (x ∷ ks) [] k v same = absurd (omega (arith, same))
zip-push (x ∷ ks) (y ∷ vs) k v same = ap (λ es. (x, y) ∷ es) (zip-push ks vs k v (omega (arith, same)))

pub known-zip : (ks : List Key) (vs : List State) → length vs ≡ length ks → known_keys (zip ks vs) ≡ ks
known-zip ks vs same = firsts-zip ks vs same

pub length-entries : (ks : List Key) (vs : List State) → length vs ≡ length ks → length (zip ks vs) ≡ length ks
length-entries ks vs same = sym (length-map (zip ks vs) (λ (e : Key × State). e.0)) ∙ ap length (known-zip ks vs same)

pub unique_entries : (hashes : List ℕ) (ks : List Key) (vs : List State) → AreEntries hashes ks vs → IsDistinct key_eq (known_keys (zip ks vs))
unique_entries hashes ks vs are = subst (IsDistinct key_eq) (sym (known-zip ks vs are.each_stated)) are.once

-- what a key has behind the others, and each other key
pushed_here : (es : List (Key × State)) (k : Key) (w : State) → lookup (key_eq k) es ≡ None → lookup (key_eq k) (es ++ (k, w) ∷ []) ≡ Some w
pushed_here [] k w none = ap (λ b. cond b (Some w) None) (key_laws.refl k)
pushed_here (e ∷ es) k w none = split (key_eq k e.0) none (pushed_here es k w)
  where
    split : (b : Bool) → cond b (Some e.1) (lookup (key_eq k) es) ≡ None → (lookup (key_eq k) es ≡ None → lookup (key_eq k) (es ++ (k, w) ∷ []) ≡ Some w) → cond b (Some e.1) (lookup (key_eq k) (es ++ (k, w) ∷ [])) ≡ Some w
    split true none rest = cc
    split false none rest = rest none

pushed_other : (es : List (Key × State)) (k q : Key) (w : State) → key_eq k q ≡ false → lookup (key_eq q) (es ++ (k, w) ∷ []) ≡ lookup (key_eq q) es
pushed_other [] k q w apart = ap (λ b. cond b (Some w) None) (key_laws.symm q k ∙ apart)
pushed_other (e ∷ es) k q w apart = ap (cond (key_eq q e.0) (Some e.1)) (pushed_other es k q w apart)

set_other : (es : List (Key × State)) (i : ℕ) (k q : Key) (v w : State) → slice_get es i ≡ Some (k, v) → key_eq k q ≡ false → lookup (key_eq q) (slice_set es i (k, w)) ≡ lookup (key_eq q) es
set_other [] i k q v w there apart = refl
set_other (e ∷ es) zero k q v w there apart =
    ap (λ b. cond b (Some w) (lookup (key_eq q) es)) (key_laws.symm q k ∙ apart)
    ∙ sym (ap (λ b. cond b (Some e.1) (lookup (key_eq q) es)) (ap (λ (x : Key × State). key_eq q x.0) (same_Some e (k, v) there) ∙ key_laws.symm q k ∙ apart))
set_other (e ∷ es) (suc i) k q v w there apart = ap (cond (key_eq q e.0) (Some e.1)) (set_other es i k q v w there apart)

-- a state was written under a key of a shard, and nothing else
abbrev pub Updates : Shard → Shard → Key → State → Type 0
Updates before after k w = (found_in (Some after) k ≡ Some w) × ((q : Key) → key_eq k q ≡ false → found_in (Some after) q ≡ found_in (Some before) q)

pub push_updates : (before after : Shard) (k : Key) (w : State) → found_in (Some before) k ≡ None → after.entries ≡ before.entries ++ (k, w) ∷ [] → Updates before after k w
push_updates before after k w none is = (
  ap (lookup (key_eq k)) is ∙ pushed_here before.entries k w none,
  λ q apart. ap (lookup (key_eq q)) is ∙ pushed_other before.entries k q w apart,
)

pub set_updates : (before after : Shard) (i : ℕ) (k : Key) (v w : State) → i < length before.entries → slice_get before.entries i ≡ Some (k, v) → after.entries ≡ slice_set before.entries i (k, w) → IsUnique after → Updates before after k w
set_updates before after i k v w within there is unique = (
  lookup_from_place key_laws after.entries i k w unique (ap (λ es. slice_get es i) is ∙ slice_get-set_same before.entries i (k, w) within),
  λ q apart. ap (lookup (key_eq q)) is ∙ set_other before.entries i k q v w there apart,
)

-- what a key has is in an entry
pub get_iff : (shard : Shard) → IsUnique shard → (k : Key) (v : State) → (found_in (Some shard) k ≡ Some v) ↔ Contains shard.entries (k, v)
get_iff shard unique k v = (λ found. Contains-from_lookup key_one k v shard.entries found, λ there. lookup-from_Contains key_laws k v shard.entries unique there)

-- what lies beside a key that compares equal is its entry
pub found_entry : (hashes : List ℕ) (ks : List Key) (vs : List State) (i : ℕ) (q : Key) → AreEntries hashes ks vs → i < length hashes → true ≡ key_eq (get_or ks i q) q
    → (v : State) × IsEntry (record { hashes = hashes; entries = zip ks vs }) i q v
found_entry hashes ks vs i q are lt equal =
    let hashed = are.each_hashed in
    let stated = are.each_stated in
    let one : slice_get ks i ≡ Some (get_or ks i q) = slice_get-get_or ks i q (omega (arith, lt, hashed)) in
    let key : slice_get ks i ≡ Some q = one ∙ ap (λ k. Some k) (key_one (get_or ks i q) q (sym equal)) in
    let there : slice_get (zip ks vs) i ≡ Some (q, get_or vs i empty) = zip-get ks vs i q (get_or vs i empty) key (slice_get-get_or vs i empty (omega (arith, lt, hashed, stated))) in
    (get_or vs i empty, record { there = there; found = lookup_from_place key_laws (zip ks vs) i q (get_or vs i empty) (unique_entries hashes ks vs are) there })

-- where none with the hash does there is no entry
pub absent_entry : (hashes : List ℕ) (ks : List Key) (vs : List State) (hash : ℕ) (q : Key) → ((i : ℕ) → i < length hashes → slice_index hashes i ≡ hash → false ≡ key_eq (get_or ks i q) q)
    → LacksHashed (record { hashes = hashes; entries = zip ks vs }) hash q
absent_entry hashes ks vs hash q none i v there hashed = clash (none i (slice_get_within hashes i hash hashed) (get_or_from_slice_get hashes i hash 0 hashed) ∙ ap (λ k. key_eq k q) (get_or_from_slice_get ks i q q (zip-key ks vs i q v there)) ∙ key_laws.refl q)
  where
    clash : false ≡ true → ⊥
    clash e = cc

-- one entry more
pushed_entries : (hashes : List ℕ) (ks : List Key) (vs : List State) (hash : ℕ) (k : Key) (w : State) → AreEntries hashes ks vs → lookup (key_eq k) (zip ks vs) ≡ None
    → AreEntries (hashes ++ hash ∷ []) (ks ++ k ∷ []) (vs ++ w ∷ [])
pushed_entries hashes ks vs hash k w are none =
    let hashed = are.each_hashed in
    let stated = are.each_stated in
    let more_hashes = length-append hashes (hash ∷ []) in
    let more_keys = length-append ks (k ∷ []) in
    let more_states = length-append vs (w ∷ []) in
    record {
      each_hashed = omega (arith, hashed, more_hashes, more_keys);
      each_stated = omega (arith, stated, more_states, more_keys);
      once = IsDistinct-push key_laws ks k are.once (ap (list_any (key_eq k)) (sym (known-zip ks vs stated)) ∙ sym (is_some-lookup (key_eq k) (zip ks vs)) ∙ ap is_some none);
    }

module _ (hashes : List ℕ) (ks : List Key) (vs : List State) (hash : ℕ) (k : Key) (w : State) (more_hashes : List ℕ) (more_keys : List Key) (more_states : List State)
    (hashes_are : more_hashes ≡ hashes ++ hash ∷ []) (keys_are : more_keys ≡ ks ++ k ∷ []) (states_are : more_states ≡ vs ++ w ∷ []) (are : AreEntries hashes ks vs) where
  pub more_entries : lookup (key_eq k) (zip ks vs) ≡ None → AreEntries more_hashes more_keys more_states
  more_entries none =
      subst (λ hs. AreEntries hs more_keys more_states) (sym hashes_are) (subst (λ xs. AreEntries (hashes ++ hash ∷ []) xs more_states) (sym keys_are)
      (subst (λ ys. AreEntries (hashes ++ hash ∷ []) (ks ++ k ∷ []) ys) (sym states_are) (pushed_entries hashes ks vs hash k w are none)))

  pub more_zipped : zip more_keys more_states ≡ zip ks vs ++ (k, w) ∷ []
  more_zipped = ap (λ xs. zip xs more_states) keys_are ∙ ap (zip (ks ++ k ∷ [])) states_are ∙ zip-push ks vs k w are.each_stated

-- the same entries
pub unique_kept : (hashes : List ℕ) (ks same_keys : List Key) (vs same_states : List State) → AreEntries hashes ks vs → same_keys ≡ ks → same_states ≡ vs → IsDistinct key_eq (known_keys (zip same_keys same_states))
unique_kept hashes ks same_keys vs same_states are keys states =
    subst (λ xs. IsDistinct key_eq (known_keys (zip xs same_states))) (sym keys) (subst (λ ys. IsDistinct key_eq (known_keys (zip ks ys))) (sym states) (unique_entries hashes ks vs are))

-- another state at a place
pub set_entries : (hashes : List ℕ) (ks : List Key) (vs others : List State) (i : ℕ) (w : State) → others ≡ slice_set vs i w → AreEntries hashes ks vs → AreEntries hashes ks others
set_entries hashes ks vs others i w are_set are = record { each_hashed = are.each_hashed; each_stated = ap length are_set ∙ length-set vs i w ∙ are.each_stated; once = are.once }

known-set : (es : List (Key × State)) (i : ℕ) (k : Key) (v w : State) → slice_get es i ≡ Some (k, v) → known_keys (slice_set es i (k, w)) ≡ known_keys es
known-set [] i k v w there = refl
known-set (e ∷ es) zero k v w there = ap (λ x. x ∷ known_keys es) (sym (ap (λ (x : Key × State). x.0) (same_Some e (k, v) there)))
known-set (e ∷ es) (suc i) k v w there = ap (λ ks. e.0 ∷ ks) (known-set es i k v w there)

-- the hashes are those of the keys still
pub set_hashed : (seed : Seed) (before after : Shard) (i : ℕ) (k : Key) (v w : State) → slice_get before.entries i ≡ Some (k, v) → after.entries ≡ slice_set before.entries i (k, w) → after.hashes ≡ before.hashes
    → IsHashed seed before → IsHashed seed after
set_hashed seed before after i k v w there entries hashes hashed = hashes ∙ hashed ∙ ap (map (short_of seed)) (sym (ap known_keys entries ∙ known-set before.entries i k v w there))

pub push_hashed : {T E : Type 0} (r : Result T E) (seed : Seed) (before after : Shard) (hash : ℕ) (k : Key) (w : State) → hash ≡ short_of seed k
    → OnOk r (after.entries ≡ before.entries ++ (k, w) ∷ []) → OnOk r (after.hashes ≡ before.hashes ++ hash ∷ []) → OnErr r (after ≡ before) → IsHashed seed before → IsHashed seed after
push_hashed (Ok x) seed before after hash k w is entries hashes same hashed =
    hashes ∙ ap (λ hs. hs ++ hash ∷ []) hashed ∙ ap (λ h. map (short_of seed) (known_keys before.entries) ++ h ∷ []) is
    ∙ sym (ap (λ es. map (short_of seed) (known_keys es)) entries ∙ ap (map (short_of seed)) (map-append (λ (e : Key × State). e.0) before.entries ((k, w) ∷ [])) ∙ map-append (short_of seed) (known_keys before.entries) (k ∷ []))
push_hashed (Err e) seed before after hash k w is entries hashes same hashed = subst (IsHashed seed) (sym same) hashed

-- where no entry with the hash of a key is the key's nothing is found
pub lacks_found : (seed : Seed) (shard : Shard) (hash : ℕ) (k : Key) → IsHashed seed shard → hash ≡ short_of seed k → LacksHashed shard hash k → found_in (Some shard) k ≡ None
lacks_found seed shard hash k hashed is lacks = split (lookup (key_eq k) shard.entries) refl
  where
    split : (o : Option State) → lookup (key_eq k) shard.entries ≡ o → lookup (key_eq k) shard.entries ≡ None
    split None none = none
    split (Some v) found =
        let place = place_from_lookup (key_eq k) shard.entries v found in
        let there : slice_get shard.entries place.0 ≡ Some (k, v) = place.2 ∙ ap (λ q. Some (q, v)) (sym (key_one k place.1 place.3)) in
        let key : slice_get (known_keys shard.entries) place.0 ≡ Some k = slice_get-map (λ (e : Key × State). e.0) shard.entries place.0 ∙ ap (option_map (λ (e : Key × State). e.0)) there in
        absurd (lacks place.0 v there
        (ap (λ hs. slice_get hs place.0) hashed ∙ slice_get-map (short_of seed) (known_keys shard.entries) place.0 ∙ ap (option_map (short_of seed)) key ∙ ap (λ h. Some h) (sym is)))
