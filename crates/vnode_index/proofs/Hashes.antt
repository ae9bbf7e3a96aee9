-- The hashes that slots hold.
use Rattle.std.proofs.Common.{◌≡◌, ℕ, zero, suc, ◌+◌, ◌-◌, ◌/◌, ◌<◌, ◌≤◌, ◌⊎◌, inl, inr, true, false, cond, nat_eq, arith, refl, sym, ◌∙◌, ap, subst, List, [], ◌∷◌, ◌++◌, length, get_or, max, take, Option, Some, None, IfNone}
use Rattle.std.proofs.Math.Decide.{dec_lt, ℕ_discrete}
use Rattle.std.proofs.lemmas.Bool.Decides.{nat_tests}
use Rattle.std.proofs.lemmas.List.FromFn.{length-map-range_with_len, get_or-map-range_with_len, map-range_with_len_more, fill_by_all}
use Rattle.std.proofs.Math.Seq.{take-append_seam}
use Rattle.vnode_index.specs.Slots.{Slot, Indexed, HasRoom, IsSlotCount, Reaches, slot_at, item_at, slot_of, taken, AreProbed, Puts, Rehashes, Indexes, IsValid, hash_of, hashes_of}
use Rattle.vnode_index.proofs.Probing.{taken_within, taken_none}
use Rattle.vnode_index.proofs.Putting.{length_put, put_taken, put_here, put_elsewhere, put_keeps, put_probed}

-- ---- the list of hashes
pub length_hashes : (slots : List Slot) (n : ℕ) → length (hashes_of slots n) ≡ n
unfolding hashes_of
length_hashes slots n = length-map-range_with_len (hash_of slots) 0 n

pub hashes_at : (slots : List Slot) (n i : ℕ) → i < n → get_or (hashes_of slots n) i 0 ≡ hash_of slots i
unfolding hashes_of
hashes_at slots n i before = get_or-map-range_with_len (hash_of slots) 0 n i i 0 before (omega arith)

pub hashes_none : (slots : List Slot) → hashes_of slots 0 ≡ []
unfolding hashes_of
hashes_none slots = refl

hashes_more : (slots : List Slot) (n : ℕ) → hashes_of slots (n + 1) ≡ hashes_of slots n ++ hash_of slots n ∷ []
unfolding hashes_of
hashes_more slots n = map-range_with_len_more (hash_of slots) 0 n n (omega arith)

hashes_same : (a b : List Slot) (n : ℕ) → ((i : ℕ) → i < n → hash_of a i ≡ hash_of b i) → hashes_of a n ≡ hashes_of b n
unfolding hashes_of
hashes_same a b n same = fill_by_all (hash_of b) (hashes_of a n) n 0 (length_hashes a n) (λ i before. hashes_at a n i before ∙ same i before)

-- ---- the hash of an item
first_here : (slot : Slot) (slots : List Slot) (i : ℕ) → slot.item ≡ i + 1 → hash_of (slot ∷ slots) i ≡ slot.hash
first_here slot slots i here =
    let test : nat_eq slot.item (i + 1) ≡ true = grind (arith, nat_tests) in
    ap (λ b. cond b slot.hash (hash_of slots i)) test

first_slot : (slots : List Slot) (i p : ℕ) → item_at slots p ≡ i + 1 → (q : ℕ) × (item_at slots q ≡ i + 1) × (hash_of slots i ≡ (slot_at slots q).hash)
first_slot [] i p is = absurd (omega arith)
first_slot (slot ∷ slots) i zero is = (0, is, first_here slot slots i is)
first_slot (slot ∷ slots) i (suc p) is =
    elim (ℕ_discrete slot.item (i + 1)) [
      | yes here ↦ (0, here, first_here slot slots i here)
      | no other ↦
          let rest = first_slot slots i p is in
          let test : nat_eq slot.item (i + 1) ≡ false = grind (arith, nat_tests) in
          (suc rest.0, rest.1, ap (λ b. cond b slot.hash (hash_of slots i)) test ∙ rest.2)
    ]

pub hash_held : (slots : List Slot) (i p : ℕ) → AreProbed slots → item_at slots p ≡ i + 1 → hash_of slots i ≡ (slot_at slots p).hash
hash_held slots i p are is =
    let first = first_slot slots i p is in
    first.2 ∙ ap (λ q. (slot_at slots q).hash) (are.distinct first.0 p (omega (arith, first.1)) (first.1 ∙ sym is))

-- ---- one item more
module _ (old new : List Slot) (n hash : ℕ) (was : Indexes old n) (puts : Puts old (slot_of hash n) new) where
  some : 0 < n + 1
  some = omega arith

  keeps : (p i : ℕ) → item_at old p ≡ i + 1 → slot_at new p ≡ slot_at old p
  keeps p i is = put_keeps old (slot_of hash n) new some puts p (omega arith)

  pub push_indexes : Indexes new (n + 1)
  push_indexes = record {
    probed = put_probed old (slot_of hash n) new some puts was.probed (λ p same. omega (arith, was.only p, same));
    all = λ i before. elim (ℕ_discrete i n) [
      | yes same ↦ (puts.at, ap (λ (s : Slot). s.item) (put_here old (slot_of hash n) new some puts) ∙ ap (λ (k : ℕ). k + 1) (sym same))
      | no other ↦ let one = was.all i (omega arith) in (one.0, ap (λ (s : Slot). s.item) (keeps one.0 i one.1) ∙ one.1)
    ];
    only = λ p. elim (ℕ_discrete p puts.at) [
      | yes same ↦ omega (arith, ap (item_at new) same, ap (λ (s : Slot). s.item) (put_here old (slot_of hash n) new some puts))
      | no other ↦ omega (arith, was.only p, ap (λ (s : Slot). s.item) (put_elsewhere old (slot_of hash n) new some puts p other))
    ];
  }

  old_hash : (i : ℕ) → i < n → hash_of new i ≡ hash_of old i
  old_hash i before =
      let one = was.all i before in
      let kept = keeps one.0 i one.1 in
      hash_held new i one.0 push_indexes.probed (ap (λ (s : Slot). s.item) kept ∙ one.1) ∙ (ap (λ (s : Slot). s.hash) kept ∙ sym (hash_held old i one.0 was.probed one.1))

  new_hash : hash_of new n ≡ hash
  new_hash =
      let here = put_here old (slot_of hash n) new some puts in
      hash_held new n puts.at push_indexes.probed (ap (λ (s : Slot). s.item) here) ∙ ap (λ (s : Slot). s.hash) here

  pub push_hashes : hashes_of new (n + 1) ≡ hashes_of old n ++ hash ∷ []
  push_hashes = hashes_more new n ∙ (λ i. hashes_same new old n old_hash i ++ new_hash i ∷ [])

-- ---- the same items in more slots
module _ (from to : List Slot) (n : ℕ) (was : Indexes from n) (re : Rehashes from to (length from)) where
  moved : (i : ℕ) → i < n → (p q : ℕ) × (item_at from p ≡ i + 1) × (slot_at to q ≡ slot_at from p)
  moved i before =
      let one = was.all i before in
      let some : 0 < item_at from one.0 = omega (arith, one.1) in
      let there = re.all one.0 (taken_within from one.0 some) some in
      (one.0, there.0, one.1, there.1)

  pub rehash_indexes : Indexes to n
  rehash_indexes = record {
    probed = re.probed;
    all = λ i before. let one = moved i before in (one.1, ap (λ (s : Slot). s.item) one.3 ∙ one.2);
    only = λ q. elim (dec_lt 0 (item_at to q)) [
      | yes some ↦ let one = re.only q some in omega (arith, was.only one.0, ap (λ (s : Slot). s.item) one.2)
      | no none ↦ omega arith
    ];
  }

  pub rehash_hashes : hashes_of to n ≡ hashes_of from n
  rehash_hashes =
      hashes_same to from n (λ i before.
      let one = moved i before in
      hash_held to i one.1 re.probed (ap (λ (s : Slot). s.item) one.3 ∙ one.2) ∙ (ap (λ (s : Slot). s.hash) one.3 ∙ sym (hash_held from i one.0 was.probed one.2)))

-- ---- what is kept of an index
pub none_valid : IsValid [] 0
none_valid = record {
  count = inl refl;
  load = omega arith;
  indexes = record {
    probed = record { distinct = λ p q some same. absurd (omega arith); reached = λ p some. absurd (omega arith) };
    all = λ i before. absurd (omega arith);
    only = λ p. omega arith;
  };
  taken = taken_none;
}

pub push_valid : (old new : List Slot) (n hash : ℕ) → IsValid old n → n < length old - length old / 8 → Puts old (slot_of hash n) new → IsValid new (n + 1)
push_valid old new n hash was room puts =
    let some : 0 < n + 1 = omega arith in
    let length : length new ≡ length old = length_put old (slot_of hash n) new some puts in
    record {
      count = subst (λ (count : ℕ). (count ≡ 0) ⊎ IsSlotCount count) (sym length) was.count;
      load = omega arith;
      indexes = push_indexes old new n hash was.indexes puts;
      taken = omega (arith, put_taken old (slot_of hash n) new some puts, was.taken);
    }

pub wider_valid : (from to : List Slot) (n : ℕ) → IsValid from n → IsSlotCount (length to) → length from ≤ length to → Rehashes from to (length from) → taken to ≡ taken from → IsValid to n
wider_valid from to n was count more re taken = record {
  count = inr count;
  load = omega (arith, was.load);
  indexes = rehash_indexes from to n was.indexes re;
  taken = taken ∙ was.taken;
}

-- a quarter more slots, or the first eight, hold one item more
pub wider_room : (count n more : ℕ) → (count ≡ 0) ⊎ IsSlotCount count → n ≤ count - count / 8 → max (count + count / 4) 8 ≤ more → n < more - more / 8
wider_room count n more few load long = grind arith

-- what is written back over all that a list held
pub written_back : (n : ℕ) (slots rest : List Slot) → n ≡ length slots → take n (slots ++ rest) ≡ slots
written_back n slots rest is = ap (λ (k : ℕ). take k (slots ++ rest)) is ∙ take-append_seam slots rest

-- ---- what is seen of an index
abbrev pub view : List Slot → ℕ → Indexed
view slots n = record { hashes = hashes_of slots n; slots = length slots }

pub room_seen : (slots : List Slot) (n : ℕ) (seen : Indexed) → view slots n ≡ seen → HasRoom seen → n < length slots - length slots / 8
room_seen slots n seen is room = let here : HasRoom (view slots n) = subst HasRoom (sym is) room in omega (arith, length_hashes slots n)

pub room_shown : (slots : List Slot) (n : ℕ) (seen : Indexed) → view slots n ≡ seen → n < length slots - length slots / 8 → HasRoom seen
room_shown slots n seen is room = let here : HasRoom (view slots n) = omega (arith, length_hashes slots n) in subst HasRoom is here

-- ---- what a search finds, in the slots or in what is seen
module _ (slots items : List Slot) (lent : slots ≡ items) (n hash : ℕ) (seen : Indexed) (is : view items n ≡ seen) (held : Indexes items n) where
  pub found_seen : (p i : ℕ) → slot_at slots p ≡ slot_of hash i → (i < length seen.hashes) × (get_or seen.hashes i 0 ≡ hash)
  found_seen p i found =
      let slot : slot_at items p ≡ slot_of hash i = ap (λ (l : List Slot). slot_at l p) (sym lent) ∙ found in
      let item : item_at items p ≡ i + 1 = ap (λ (s : Slot). s.item) slot in
      let before : i < n = omega (arith, held.only p) in
      let at_place : get_or (hashes_of items n) i 0 ≡ hash = hashes_at items n i before ∙ (hash_held items i p held.probed item ∙ ap (λ (s : Slot). s.hash) slot) in
      subst (λ (v : Indexed). (i < length v.hashes) × (get_or v.hashes i 0 ≡ hash)) is (omega (arith, before, length_hashes items n), at_place)

  pub seen_stands : (i : ℕ) → i < length seen.hashes → get_or seen.hashes i 0 ≡ hash → (p : ℕ) × (slot_at slots p ≡ slot_of hash i) × Reaches slots hash p
  seen_stands i within at_place =
      let before : i < n = omega (arith, within, length_hashes items n, ap (λ (v : Indexed). length v.hashes) is) in
      let one = held.all i before in
      let hashed : (slot_at items one.0).hash ≡ hash = sym (hash_held items i one.0 held.probed one.1) ∙ (sym (hashes_at items n i before) ∙ (ap (λ (v : Indexed). get_or v.hashes i 0) is ∙ at_place)) in
      let reached = held.probed.reached one.0 (omega (arith, one.1)) in
      (one.0, ap (λ (l : List Slot). slot_at l one.0) lent ∙ (λ z. record { hash = hashed z; item = one.1 z }), subst (λ (l : List Slot). Reaches l hash one.0) (sym lent) (subst (λ (h : ℕ). Reaches items h one.0) hashed reached))

pub none_then : {X : Type 0} {P Q : Type 0} (r : Option X) → IfNone r P → (P → Q) → IfNone r Q
none_then None p then = then p
none_then (Some x) p then = tt
