-- Cells that hold two words: what is read of a part, and what is left where a part is written.
use Rattle.std.proofs.Common.{◌≡◌, ℕ, ◌+◌, ◌-◌, ◌*◌, ◌/◌, ◌%◌, ◌^◌, ◌<◌, ◌≤◌, eqb, sym, subst, arith, Option, Some, None}
use Rattle.std.proofs.Math.Nat.{mod-lt}
use Rattle.std.proofs.lemmas.Bool.{cond_both, eqb-true}
use Rattle.bpf_semantics.specs.declared.profile.Profile.{Profile}
use Rattle.bpf_ranges.specs.declared.kind.Kind.{Kind}
use Rattle.bpf_ranges.specs.declared.kind.Kind.TheVariants.{Unset, Dead, Num, Ptr, Halves}
use Rattle.bpf_ranges.specs.declared.kind.Part.{Part}
use Rattle.bpf_ranges.specs.declared.kind.Part.TheVariants.{Whole, Low, High}
use Rattle.bpf_ranges.specs.declared.range.Range.{Range}
use Rattle.bpf_ranges.specs.declared.word.Word.{Word}
use Rattle.bpf_ranges.specs.Numbers.{InRange, range}
use Rattle.bpf_ranges.specs.Kinds.{Admits, IsKind, InWord, IsWord}
use Rattle.bpf_ranges.specs.Words.{low_of, high_of, low_word, high_word, joined_words}
use Rattle.bpf_ranges.specs.Transfer.{word_kind, whole_kind, part_of, with_part, part_value, value_with}
use Rattle.bpf_ranges.proofs.Ranges.{wrapped_sound}
use Rattle.bpf_ranges.proofs.Operations.{range_sound, range_kind}

-- ---- the words of a number

low_mod : (n : ℕ) → n % 2 ^ 32 < 2 ^ 32
low_mod n = mod-lt n (omega arith)

pub low_in : (r : Range) (n : ℕ) → InRange r n → InWord (Some (low_of r)) (n % 2 ^ 32)
low_in r n h = wrapped_sound 32 r.lo r.hi n h.0 h.1

pub high_in : (r : Range) (n : ℕ) → InRange r n → InWord (Some (high_of r)) (n / 2 ^ 32)
high_in r n h = (omega (arith, h.0), omega (arith, h.1))

pub low_is : (r : Range) → r.lo ≤ r.hi → IsWord (Some (low_of r))
low_is r le =
    let first = low_mod r.lo in
    let last = low_mod r.hi in
    cond_both (eqb (r.lo / 2 ^ 32) (r.hi / 2 ^ 32)) _ _ (λ (w : Range). (w.lo ≤ w.hi) × (w.hi < 2 ^ 32))
    (λ t. let same = eqb-true (r.lo / 2 ^ 32) (r.hi / 2 ^ 32) t in (omega arith, last))
    (λ _. (omega arith, omega arith))

pub high_is : (r : Range) → r.lo ≤ r.hi → r.hi < 2 ^ 64 → IsWord (Some (high_of r))
high_is r le f = (omega arith, omega arith)

any_in : (n : ℕ) → n < 2 ^ 32 → (0 ≤ n) × (n ≤ 2 ^ 32 - 1)
any_in n f = (omega arith, omega arith)

-- ---- the words of a kind

pub low_admits : (k : Kind) (n : ℕ) → Admits k (Some n) → InWord (low_word k) (n % 2 ^ 32)
low_admits Unset n h = tt
low_admits Dead n h = absurd h
low_admits (Num a) n h = low_in a.range n h.within
low_admits (Ptr region lo hi) n h = tt
low_admits (Halves low high) n h = h.0

pub high_admits : (k : Kind) (n : ℕ) → Admits k (Some n) → InWord (high_word k) (n / 2 ^ 32)
high_admits Unset n h = tt
high_admits Dead n h = absurd h
high_admits (Num a) n h = high_in a.range n h.within
high_admits (Ptr region lo hi) n h = tt
high_admits (Halves low high) n h = h.1

pub low_is_word : (k : Kind) → IsKind k → IsWord (low_word k)
low_is_word Unset h = tt
low_is_word Dead h = (omega arith, omega arith)
low_is_word (Num a) h = low_is a.range h.range.ordered
low_is_word (Ptr region lo hi) h = tt
low_is_word (Halves low high) h = h.0

pub high_is_word : (k : Kind) → IsKind k → IsWord (high_word k)
high_is_word Unset h = tt
high_is_word Dead h = (omega arith, omega arith)
high_is_word (Num a) h = high_is a.range h.range.ordered h.range.fits
high_is_word (Ptr region lo hi) h = tt
high_is_word (Halves low high) h = h.1

-- ---- joins

pub words_left : (a b : Option Word) (n : ℕ) → InWord a n → InWord (joined_words a b) n
words_left None b n h = tt
words_left (Some a) None n h = tt
words_left (Some a) (Some b) n h = (omega (arith, h.0), omega (arith, h.1))

pub words_right : (a b : Option Word) (n : ℕ) → InWord b n → InWord (joined_words a b) n
words_right None b n h = tt
words_right (Some a) None n h = tt
words_right (Some a) (Some b) n h = (omega (arith, h.0), omega (arith, h.1))

pub words_are : (a b : Option Word) → IsWord a → IsWord b → IsWord (joined_words a b)
words_are None b ha hb = tt
words_are (Some a) None ha hb = tt
words_are (Some a) (Some b) ha hb = (omega (arith, ha.0, hb.0), omega (arith, ha.1, hb.1))

-- ---- parts

-- a number of its halves
halves_mod : (low high : ℕ) → low < 2 ^ 32 → (low + 2 ^ 32 * high) % 2 ^ 32 ≡ low
halves_mod low high f = omega arith

halves_div : (low high : ℕ) → low < 2 ^ 32 → (low + 2 ^ 32 * high) / 2 ^ 32 ≡ high
halves_div low high f = omega arith

module _ (profile : Profile) where
  word_sound : (o : Option Word) (n : ℕ) → IsWord o → InWord o n → Admits (word_kind profile o) (Some n)
  word_sound None n k h = tt
  word_sound (Some w) n k h = range_sound profile (range w.lo w.hi) n (omega (arith, k.1)) h

  word_is : (o : Option Word) → IsWord o → IsKind (word_kind profile o)
  word_is None k = tt
  word_is (Some w) k = range_kind profile (range w.lo w.hi) k.0 (omega (arith, k.1))

  whole_sound : (low high : Option Word) (n : ℕ) → IsWord low → IsWord high → InWord low (n % 2 ^ 32) → InWord high (n / 2 ^ 32) → Admits (whole_kind profile low high) (Some n)
  whole_sound None high n kl kh hl hh = tt
  whole_sound (Some l) None n kl kh hl hh = tt
  whole_sound (Some l) (Some h) n kl kh hl hh =
      range_sound profile (range (l.lo + 2 ^ 32 * h.lo) (l.hi + 2 ^ 32 * h.hi)) n (omega (arith, kl.1, kh.1)) (omega (arith, hl.0, hh.0), omega (arith, hl.1, hh.1))

  whole_is : (low high : Option Word) → IsWord low → IsWord high → IsKind (whole_kind profile low high)
  whole_is None high kl kh = tt
  whole_is (Some l) None kl kh = tt
  whole_is (Some l) (Some h) kl kh =
      range_kind profile (range (l.lo + 2 ^ 32 * h.lo) (l.hi + 2 ^ 32 * h.hi)) (omega (arith, kl.0, kh.0)) (omega (arith, kl.1, kh.1))

  pub part_sound : (part : Part) (k : Kind) (n : ℕ) → IsKind k → n < 2 ^ 64 → Admits k (Some n) → Admits (part_of profile part k) (Some (part_value part n))
  part_sound Whole Unset n is f h = tt
  part_sound Whole Dead n is f h = h
  part_sound Whole (Num a) n is f h = h
  part_sound Whole (Ptr region lo hi) n is f h = h
  part_sound Whole (Halves low high) n is f h = whole_sound low high n is.0 is.1 h.0 h.1
  part_sound Low k n is f h = word_sound (low_word k) (n % 2 ^ 32) (low_is_word k is) (low_admits k n h)
  part_sound High k n is f h = word_sound (high_word k) (n / 2 ^ 32) (high_is_word k is) (high_admits k n h)

  pub part_kind : (part : Part) (k : Kind) → IsKind k → IsKind (part_of profile part k)
  part_kind Whole Unset is = tt
  part_kind Whole Dead is = tt
  part_kind Whole (Num a) is = is
  part_kind Whole (Ptr region lo hi) is = is
  part_kind Whole (Halves low high) is = whole_is low high is.0 is.1
  part_kind Low k is = word_is (low_word k) (low_is_word k is)
  part_kind High k is = word_is (high_word k) (high_is_word k is)

pub written_sound : (part : Part) (k cell : Kind) (n old : ℕ) → IsKind k → IsKind cell → old < 2 ^ 64 → Admits k (Some n) → Admits cell (Some old) → Admits (with_part part k cell) (Some (value_with part n old))
written_sound Whole k cell n old ik ic f h g = h
written_sound Low k cell n old ik ic f h g =
    let small = low_mod n in
    (subst (InWord (low_word k)) (sym (halves_mod (n % 2 ^ 32) (old / 2 ^ 32) small)) (low_admits k n h), subst (InWord (high_word cell)) (sym (halves_div (n % 2 ^ 32) (old / 2 ^ 32) small)) (high_admits cell old g))
written_sound High k cell n old ik ic f h g =
    let small = low_mod old in
    (subst (InWord (low_word cell)) (sym (halves_mod (old % 2 ^ 32) (n % 2 ^ 32) small)) (low_admits cell old g), subst (InWord (low_word k)) (sym (halves_div (old % 2 ^ 32) (n % 2 ^ 32) small)) (low_admits k n h))

pub written_kind : (part : Part) (k cell : Kind) → IsKind k → IsKind cell → IsKind (with_part part k cell)
written_kind Whole k cell ik ic = ik
written_kind Low k cell ik ic = (low_is_word k ik, high_is_word cell ic)
written_kind High k cell ik ic = (low_is_word cell ic, low_is_word k ik)
