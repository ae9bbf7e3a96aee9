-- Which item lies where in blocks.
use Rattle.std.proofs.Common.{◌≡◌, ◌<◌, ◌≤◌, ◌+◌, ◌-◌, ◌*◌, ◌/◌, ◌%◌, ℕ, zero, suc, List, [], ◌∷◌, ◌++◌, length, get_or, set, Some, refl, ap, sym, ◌∙◌, arith, length-append}
use Rattle.std.specs.Prelude.{slice_get}
use Rattle.std.specs.List.{All, flat_map}
use Rattle.std.proofs.lemmas.List.{get_or_append_left, get_or-append-add, set-append_left, set-append_right}
use Rattle.std.proofs.lemmas.Option.{slice_get_read}
use Rattle.vnode.specs.Blocks.{AreBlocks, items_of}

module _ {X B : Type 0} (items_in : B → List X) where
  -- blocks of 128 items
  abbrev AreFull : List B → Type 0
  AreFull full = All (λ block. length (items_in block) ≡ 128) full

  full_head : (block : B) (full : List B) → AreFull (block ∷ full) → length (items_in block) ≡ 128
  full_head block full are = are 0 block (omega arith)

  full_tail : (block : B) (full : List B) → AreFull (block ∷ full) → AreFull full
  full_tail block full are k d lt = are (suc k) d (omega (arith, lt))

  length-all : (full : List B) → AreFull full → length (flat_map items_in full) ≡ 128 * length full
  length-all [] are = refl
  length-all (block ∷ full) are =
      let here = full_head block full are in
      let rest = length-all full (full_tail block full are) in
      let both = length-append (items_in block) (flat_map items_in full) in omega (arith, here, rest, both)

  -- an item in a full block
  get_full : (full : List B) (b j : ℕ) (block : B) (x : X) → AreFull full → b < length full → j < 128 → get_or (flat_map items_in full) (128 * b + j) x ≡ get_or (items_in (get_or full b block)) j x
  get_full [] b j block x are within lt = absurd (omega (arith, within))
  get_full (first ∷ full) zero j block x are within lt =
      let here = full_head first full are in
      let at : 128 * 0 + j ≡ j = omega arith in
      ap (λ n. get_or (items_in first ++ flat_map items_in full) n x) at ∙ get_or_append_left (items_in first) (flat_map items_in full) x j (omega (arith, here, lt))
  get_full (first ∷ full) (suc b) j block x are within lt =
      let here = full_head first full are in
      let at : 128 * suc b + j ≡ length (items_in first) + (128 * b + j) = omega (arith, here) in
      ap (λ n. get_or (items_in first ++ flat_map items_in full) n x) at ∙ get_or-append-add (items_in first) (flat_map items_in full) (128 * b + j) x
      ∙ get_full full b j block x (full_tail first full are) (omega (arith, within)) lt

  pub get_in_block : (full seen : List B) (last : List X) (i : ℕ) (block : B) (x : X) → AreBlocks items_in full last → seen ≡ full → i / 128 < length seen → block ≡ get_or seen (i / 128) block
      → x ≡ get_or (items_in block) (i % 128) x → slice_get (items_of items_in full last) i ≡ Some x
  get_in_block full seen last i block x are same within there is =
      let count = length-all full are.all_full in
      let both = length-append (flat_map items_in full) last in
      let len = ap length same in
      let at : i ≡ 128 * (i / 128) + i % 128 = omega arith in
      let found : get_or (items_of items_in full last) i x ≡ x =
      get_or_append_left (flat_map items_in full) last x i (omega (arith, within, len, count)) ∙ ap (λ n. get_or (flat_map items_in full) n x) at
      ∙ get_full full (i / 128) (i % 128) block x are.all_full (omega (arith, within, len)) (omega arith)
      ∙ sym (is ∙ ap (λ b. get_or (items_in b) (i % 128) x) (there ∙ ap (λ bs. get_or bs (i / 128) block) same)) in
      slice_get_read (items_of items_in full last) (length (items_of items_in full last)) i x refl (omega (arith, within, len, count, both)) (sym found)

  -- and one behind them
  pub within_last : (full : List B) (last : List X) (i : ℕ) → AreBlocks items_in full last → length full ≤ i / 128 → i < length (items_of items_in full last) → i % 128 < length last
  within_last full last i are beyond lt =
      let count = length-all full are.all_full in
      let both = length-append (flat_map items_in full) last in
      let fits = are.fits in omega (arith, count, both, fits, beyond, lt)

  at_last : (full : List B) (last : List X) (i : ℕ) → AreBlocks items_in full last → length full ≤ i / 128 → i < length (items_of items_in full last) → i ≡ length (flat_map items_in full) + i % 128
  at_last full last i are beyond lt =
      let count = length-all full are.all_full in
      let both = length-append (flat_map items_in full) last in
      let fits = are.fits in omega (arith, count, both, fits, beyond, lt)

  pub get_in_last : (full : List B) (last : List X) (i : ℕ) (x : X) → AreBlocks items_in full last → length full ≤ i / 128 → i < length (items_of items_in full last) → x ≡ get_or last (i % 128) x
      → slice_get (items_of items_in full last) i ≡ Some x
  get_in_last full last i x are beyond lt is =
      slice_get_read (items_of items_in full last) (length (items_of items_in full last)) i x refl lt
      (is ∙ sym (ap (λ n. get_or (items_of items_in full last) n x) (at_last full last i are beyond lt) ∙ get_or-append-add (flat_map items_in full) last (i % 128) x))

  -- another item in a full block
  set_full : (full : List B) (b j : ℕ) (block other : B) (x : X) → AreFull full → b < length full → j < 128 → items_in other ≡ set (items_in (get_or full b block)) j x
      → flat_map items_in (set full b other) ≡ set (flat_map items_in full) (128 * b + j) x
  set_full [] b j block other x are within lt is = absurd (omega (arith, within))
  set_full (first ∷ full) zero j block other x are within lt is =
      let here = full_head first full are in
      let at : j ≡ 128 * 0 + j = omega arith in
      ap (λ xs. xs ++ flat_map items_in full) is ∙ sym (set-append_left (items_in first) (flat_map items_in full) j x (omega (arith, here, lt)))
      ∙ ap (λ n. set (items_in first ++ flat_map items_in full) n x) at
  set_full (first ∷ full) (suc b) j block other x are within lt is =
      let here = full_head first full are in
      let at : 128 * suc b + j - 128 ≡ 128 * b + j = omega arith in
      ap (λ xs. items_in first ++ xs) (set_full full b j block other x (full_tail first full are) (omega (arith, within)) lt is)
      ∙ sym (set-append_right (items_in first) (flat_map items_in full) 128 (128 * suc b + j) x here (omega arith) ∙ ap (λ n. items_in first ++ set (flat_map items_in full) n x) at)

  pub set_in_block : (full : List B) (last : List X) (i : ℕ) (block other : B) (x : X) → AreBlocks items_in full last → i / 128 < length full → block ≡ get_or full (i / 128) block
      → items_in other ≡ set (items_in block) (i % 128) x → items_of items_in (set full (i / 128) other) last ≡ set (items_of items_in full last) i x
  set_in_block full last i block other x are within there is =
      let count = length-all full are.all_full in
      let at : 128 * (i / 128) + i % 128 ≡ i = omega arith in
      ap (λ xs. xs ++ last)
      (set_full full (i / 128) (i % 128) block other x are.all_full within (omega arith) (is ∙ ap (λ b. set (items_in b) (i % 128) x) there) ∙ ap (λ n. set (flat_map items_in full) n x) at)
      ∙ sym (set-append_left (flat_map items_in full) last i x (omega (arith, within, count)))

  -- and behind them
  pub set_in_last : (full : List B) (last : List X) (i : ℕ) (x : X) → AreBlocks items_in full last → length full ≤ i / 128 → i < length (items_of items_in full last)
      → items_of items_in full (set last (i % 128) x) ≡ set (items_of items_in full last) i x
  set_in_last full last i x are beyond lt =
      let count = length-all full are.all_full in
      let place = at_last full last i are beyond lt in
      let at : i - length (flat_map items_in full) ≡ i % 128 = omega (arith, place) in
      sym (set-append_right (flat_map items_in full) last (length (flat_map items_in full)) i x refl (omega (arith, place)) ∙ ap (λ n. flat_map items_in full ++ set last n x) at)

  -- a block of the same items in place of another
  swapped : (full : List B) (b : ℕ) (block other : B) → b < length full → items_in other ≡ items_in (get_or full b block) → flat_map items_in (set full b other) ≡ flat_map items_in full
  swapped [] b block other within is = absurd (omega (arith, within))
  swapped (first ∷ full) zero block other within is = ap (λ xs. xs ++ flat_map items_in full) is
  swapped (first ∷ full) (suc b) block other within is = ap (λ xs. items_in first ++ xs) (swapped full b block other (omega (arith, within)) is)

  pub items_swapped : (full : List B) (last : List X) (b : ℕ) (block other : B) → b < length full → block ≡ get_or full b block → items_in other ≡ items_in block
      → items_of items_in (set full b other) last ≡ items_of items_in full last
  items_swapped full last b block other within there is = ap (λ xs. xs ++ last) (swapped full b block other within (is ∙ ap items_in there))
