-- Entries in blocks are counted, and found, by a division.
use Rattle.std.proofs.Common.{◌≡◌, refl, ap, ◌∙◌, arith, ℕ, zero, suc, ◌+◌, ◌*◌, ◌-◌, ◌/◌, ◌%◌, ◌<◌, ◌≤◌, List, [], ◌∷◌, ◌++◌, length, Some, length-append, append_assoc, slice_get, take, sym}
use Rattle.std.specs.List.{All, flat_map}
use Rattle.std.specs.Global.{Vec}
use Rattle.std.proofs.lemmas.List.{take-append-le}
use Rattle.std.proofs.Math.Seq.{take-append-add}
use Rattle.std.proofs.lemmas.List.Elements.{All-head, All-tail}
use Rattle.journal.specs.Entry.{Entry}
use Rattle.journal.specs.Blocks.{all_of, in_blocks, IsFullBlock}

module _ {X : Type 0} where
  in_front : (xs ys : List X) (i : ℕ) → i < length xs → slice_get (xs ++ ys) i ≡ slice_get xs i
  in_front [] ys i within = absurd (omega arith)
  in_front (x ∷ xs) ys zero within = refl
  in_front (x ∷ xs) ys (suc i) within = in_front xs ys i (omega arith)

  behind : (xs ys : List X) (i j : ℕ) → i ≡ length xs + j → slice_get (xs ++ ys) i ≡ slice_get ys j
  behind [] ys i j at = ap (slice_get ys) (omega arith)
  behind (x ∷ xs) ys zero j at = absurd (omega arith)
  behind (x ∷ xs) ys (suc i) j at = behind xs ys i j (omega arith)

module _ (last : List Entry) where
  joined : (block : Vec Entry) (closed : List (Vec Entry)) → in_blocks (block ∷ closed) last ≡ block.items ++ in_blocks closed last
  joined block closed = append_assoc block.items (flat_map (λ b. b.items) closed) last

  -- each closed block counts 1,024
  pub long : (closed : List (Vec Entry)) → All IsFullBlock closed → length (in_blocks closed last) ≡ length closed * 1024 + length last
  long [] full = omega arith
  long (block ∷ closed) full =
      let whole = ap length (joined block closed) ∙ length-append block.items (in_blocks closed last) in
      let first = All-head IsFullBlock block closed full in
      let rest = long closed (All-tail IsFullBlock block closed full) in
      omega arith

  at_place : (closed : List (Vec Entry)) → All IsFullBlock closed → (i j k : ℕ) (block : Vec Entry) → slice_get closed i ≡ Some block → j < 1024 → k ≡ i * 1024 + j
      → slice_get (in_blocks closed last) k ≡ slice_get block.items j
  at_place [] full i j k block here small at = cc
  at_place (first ∷ closed) full zero j k block here small at =
      let size = All-head IsFullBlock first closed full in
      let is : first ≡ block = cc in
      let at' : k ≡ j = omega (arith, at) in
      ap (λ xs. slice_get xs k) (joined first closed) ∙ in_front first.items (in_blocks closed last) k (omega (arith, size, at', small)) ∙ ap (slice_get first.items) at' ∙ ap (λ (b : Vec Entry). slice_get b.items j) is
  at_place (first ∷ closed) full (suc i) j k block here small at =
      let size = All-head IsFullBlock first closed full in
      ap (λ xs. slice_get xs k) (joined first closed) ∙ behind first.items (in_blocks closed last) k (i * 1024 + j) (omega (arith, size, at))
      ∙ at_place closed (All-tail IsFullBlock first closed full) i j (i * 1024 + j) block here small refl

  -- the entry at a place stands in the block of its thousand
  pub in_block : (closed : List (Vec Entry)) → All IsFullBlock closed → (k : ℕ) (block : Vec Entry) → slice_get closed (k / 1024) ≡ Some block
      → slice_get (in_blocks closed last) k ≡ slice_get block.items (k % 1024)
  in_block closed full k block here = at_place closed full (k / 1024) (k % 1024) k block here (omega arith) (omega arith)

  -- or behind them all
  pub in_last : (closed : List (Vec Entry)) → All IsFullBlock closed → (k : ℕ) → length closed * 1024 ≤ k
      → slice_get (in_blocks closed last) k ≡ slice_get last (k - length closed * 1024)
  in_last closed full k past =
      behind (flat_map (λ b. b.items) closed) last k (k - length closed * 1024) (let size = long closed full in let whole = length-append (flat_map (λ b. b.items) closed) last in omega arith)

-- the first entries, cut behind the first block
cut_behind : (first : Vec Entry) (closed : List (Vec Entry)) (last rest : List Entry) (n : ℕ) → IsFullBlock first → 1024 ≤ n → take (n - 1024) (in_blocks closed last) ≡ rest
    → take n (in_blocks (first ∷ closed) last) ≡ first.items ++ rest
cut_behind first closed last rest n size past is =
    ap (take n) (joined last first closed) ∙ ap (λ k. take k (first.items ++ in_blocks closed last)) (omega (arith, size, past))
    ∙ take-append-add first.items (in_blocks closed last) (n - 1024) ∙ ap (λ xs. first.items ++ xs) is

-- the first entries, cut behind the closed blocks
pub cut_last : (closed : List (Vec Entry)) (last : List Entry) → All IsFullBlock closed → (n : ℕ) → length closed * 1024 ≤ n
    → take n (in_blocks closed last) ≡ in_blocks closed (take (n - length closed * 1024) last)
cut_last [] last full n past = ap (λ k. take k last) (omega arith)
cut_last (first ∷ closed) last full n past =
    cut_behind first closed last (in_blocks closed (take (n - length (first ∷ closed) * 1024) last)) n (All-head IsFullBlock first closed full) (omega (arith, past))
    (cut_last closed last (All-tail IsFullBlock first closed full) (n - 1024) (omega (arith, past)) ∙ ap (λ k. in_blocks closed (take k last)) (omega arith))
    ∙ sym (joined (take (n - length (first ∷ closed) * 1024) last) first closed)

-- and cut within a closed block
pub cut_block : (closed : List (Vec Entry)) (last : List Entry) → All IsFullBlock closed → (n at : ℕ) (block : Vec Entry) → slice_get closed at ≡ Some block → at * 1024 ≤ n → n ≤ at * 1024 + 1024
    → take n (in_blocks closed last) ≡ in_blocks (take at closed) (take (n - at * 1024) block.items)
cut_block [] last full n at block here past within = cc
cut_block (first ∷ closed) last full n zero block here past within =
    let size = All-head IsFullBlock first closed full in
    let is : first ≡ block = cc in
    ap (take n) (joined last first closed) ∙ take-append-le n first.items (in_blocks closed last) (omega (arith, size, within)) ∙ ap (λ k. take k first.items) (omega arith) ∙ ap (λ (b : Vec Entry). take (n - zero * 1024) b.items) is
cut_block (first ∷ closed) last full n (suc at) block here past within =
    cut_behind first closed last (in_blocks (take at closed) (take (n - suc at * 1024) block.items)) n (All-head IsFullBlock first closed full) (omega (arith, past))
    (cut_block closed last (All-tail IsFullBlock first closed full) (n - 1024) at block here (omega (arith, past)) (omega (arith, within)) ∙ ap (λ k. in_blocks (take at closed) (take k block.items)) (omega arith))
    ∙ sym (joined (take (n - suc at * 1024) block.items) first (take at closed))

-- where there is a full block there is an entry
pub has_entry : (blocks : List (Vec Entry)) → All IsFullBlock blocks → 1 ≤ length blocks → 1 ≤ length (all_of blocks)
has_entry [] full here = absurd (omega (arith, here))
has_entry (block ∷ blocks) full here =
    let size = All-head IsFullBlock block blocks full in
    let whole = length-append block.items (all_of blocks) in
    omega (arith, size, whole)
