-- The two words of 4 bytes of a word of 8: what is read of a part, and what is left where a part is written.
use Rattle.std.proofs.Common.{◌≡◌, ℕ, zero, suc, ◌+◌, ◌*◌, ◌/◌, ◌%◌, ◌^◌, ◌<◌, ◌≤◌, List, [], ◌∷◌, ◌++◌, length, take, drop, refl, sym, ap, ◌∙◌, arith, length-drop}
use Rattle.std.proofs.lemmas.List.{length-take-le}
use Rattle.bpf_insn.specs.declared.Size.TheVariants.{Word}
use Rattle.bpf_semantics.specs.Windows.{little_endian, low_bytes, overwritten}
use Rattle.bpf_semantics.specs.Step.{AreBytes}
use Rattle.bpf_ranges.specs.declared.kind.Part.{Part}
use Rattle.bpf_ranges.specs.declared.kind.Part.TheVariants.{Whole, Low, High}
use Rattle.bpf_ranges.specs.Transfer.{part_value, value_with}
use Rattle.bpf_verifier.proofs.Words.{bytes_take, bytes_drop, read_small, low_whole}
use Rattle.bpf_verifier.proofs.StackCells.{drop_twice}

-- how many bytes a part has, and how many of its cell are before it
abbrev pub part_size : Part → ℕ
part_size Whole = 8
part_size Low = 4
part_size High = 4

abbrev pub part_offset : Part → ℕ
part_offset Whole = 0
part_offset Low = 0
part_offset High = 4

pub offset_few : (part : Part) → part_offset part ≤ 4
offset_few Whole = omega arith
offset_few Low = omega arith
offset_few High = omega arith

pub part_ends : (part : Part) → part_offset part + part_size part ≤ 8
part_ends Whole = omega arith
part_ends Low = omega arith
part_ends High = omega arith

-- ---- two words

-- a word of 8 bytes by its two of 4
split : (bytes : List ℕ) → little_endian (take 8 bytes) ≡ little_endian (take 4 bytes) + 2 ^ 32 * little_endian (take 4 (drop 4 bytes))
split [] = refl
split (a ∷ []) = omega arith
split (a ∷ b ∷ []) = omega arith
split (a ∷ b ∷ c ∷ []) = omega arith
split (a ∷ b ∷ c ∷ d ∷ bytes) = omega arith

-- the low one is of 32 bits
low_small : (bytes : List ℕ) → AreBytes bytes → 4 ≤ length bytes → little_endian (take 4 bytes) < 2 ^ 32
low_small bytes h le = read_small Word (take 4 bytes) (bytes_take 4 bytes h) (length-take-le 4 bytes le)

low_half : (bytes : List ℕ) → AreBytes bytes → 4 ≤ length bytes → little_endian (take 8 bytes) % 2 ^ 32 ≡ little_endian (take 4 bytes)
low_half bytes h le = omega (arith, split bytes, low_small bytes h le)

high_half : (bytes : List ℕ) → AreBytes bytes → 4 ≤ length bytes → little_endian (take 8 bytes) / 2 ^ 32 ≡ little_endian (take 4 (drop 4 bytes))
high_half bytes h le = omega (arith, split bytes, low_small bytes h le)

-- ---- reads

pub read_part : (part : Part) (bytes : List ℕ) (i : ℕ) → AreBytes bytes → 8 * i + 8 ≤ length bytes → little_endian (take (part_size part) (drop (8 * i + part_offset part) bytes)) ≡ part_value part (little_endian (take 8 (drop (8 * i) bytes)))
read_part Whole bytes i h le = let e : 8 * i + 0 ≡ 8 * i = omega arith in ap (λ n. little_endian (take 8 (drop n bytes))) e
read_part Low bytes i h le =
    let e : 8 * i + 0 ≡ 8 * i = omega arith in
    ap (λ n. little_endian (take 4 (drop n bytes))) e ∙ sym (low_half (drop (8 * i) bytes) (bytes_drop (8 * i) bytes h) (omega (arith, le, length-drop (8 * i) bytes)))
read_part High bytes i h le =
    ap (λ xs. little_endian (take 4 xs)) (sym (drop_twice (8 * i) 4 bytes)) ∙ sym (high_half (drop (8 * i) bytes) (bytes_drop (8 * i) bytes h) (omega (arith, le, length-drop (8 * i) bytes)))

-- ---- writes

-- what is written, from a place before it on
from_place : (n m : ℕ) (bytes new rest : List ℕ) → n + m ≤ length bytes → drop n (take (n + m) bytes ++ new ++ rest) ≡ take m (drop n bytes) ++ new ++ rest
from_place zero m bytes new rest le = let e : zero + m ≡ m = omega arith in ap (λ k. take k bytes ++ new ++ rest) e
from_place (suc n) m [] new rest le = absurd (omega (arith, le))
from_place (suc n) m (b ∷ bytes) new rest le =
    let e : suc n + m ≡ suc (n + m) = omega arith in
    ap (λ k. drop (suc n) (take k (b ∷ bytes) ++ new ++ rest)) e ∙ from_place n m bytes new rest (omega (arith, le))

-- the low bytes of a number spell what is left of it
low_word : (v : ℕ) → little_endian (low_bytes 4 v) ≡ v % 2 ^ 32
low_word v = omega arith

before_rest : (v : ℕ) (rest : List ℕ) → little_endian (take 8 (low_bytes 4 v ++ rest)) ≡ v % 2 ^ 32 + 2 ^ 32 * little_endian (take 4 rest)
before_rest v rest = split (low_bytes 4 v ++ rest) ∙ ap (λ n. n + 2 ^ 32 * little_endian (take 4 rest)) (low_word v)

behind_low : (bytes : List ℕ) (v : ℕ) (rest : List ℕ) → 4 ≤ length bytes → little_endian (take 8 (take 4 bytes ++ low_bytes 4 v ++ rest)) ≡ little_endian (take 4 bytes) + 2 ^ 32 * (v % 2 ^ 32)
behind_low [] v rest le = absurd (omega arith)
behind_low (a ∷ []) v rest le = absurd (omega arith)
behind_low (a ∷ b ∷ []) v rest le = absurd (omega arith)
behind_low (a ∷ b ∷ c ∷ []) v rest le = absurd (omega arith)
behind_low (a ∷ b ∷ c ∷ d ∷ bytes) v rest le =
    split (a ∷ b ∷ c ∷ d ∷ low_bytes 4 v ++ rest) ∙ ap (λ n. little_endian (a ∷ b ∷ c ∷ d ∷ []) + 2 ^ 32 * n) (low_word v)

pub written_part : (part : Part) (bytes : List ℕ) (i v : ℕ) → AreBytes bytes → 8 * i + 8 ≤ length bytes → v < 2 ^ 64 → little_endian (take 8 (drop (8 * i) (overwritten bytes (8 * i + part_offset part) (low_bytes (part_size part) v)))) ≡ value_with part v (little_endian (take 8 (drop (8 * i) bytes)))
written_part Whole bytes i v h le small =
    ap (λ xs. little_endian (take 8 xs)) (from_place (8 * i) 0 bytes (low_bytes 8 v) (drop (8 * i + 0 + 8) bytes) (omega (arith, le)))
    ∙ low_whole 8 v small
written_part Low bytes i v h le small =
    let old = drop (8 * i) bytes in
    let long : 4 ≤ length old = omega (arith, le, length-drop (8 * i) bytes) in
    let next : 8 * i + 0 + 4 ≡ 8 * i + 4 = omega arith in
    ap (λ xs. little_endian (take 8 xs)) (from_place (8 * i) 0 bytes (low_bytes 4 v) (drop (8 * i + 0 + 4) bytes) (omega (arith, le)))
    ∙ before_rest v (drop (8 * i + 0 + 4) bytes)
    ∙ ap (λ xs. v % 2 ^ 32 + 2 ^ 32 * little_endian (take 4 xs)) (ap (λ n. drop n bytes) next ∙ sym (drop_twice (8 * i) 4 bytes))
    ∙ ap (λ n. v % 2 ^ 32 + 2 ^ 32 * n) (sym (high_half old (bytes_drop (8 * i) bytes h) long))
written_part High bytes i v h le small =
    let old = drop (8 * i) bytes in
    let long : 4 ≤ length old = omega (arith, le, length-drop (8 * i) bytes) in
    ap (λ xs. little_endian (take 8 xs)) (from_place (8 * i) 4 bytes (low_bytes 4 v) (drop (8 * i + 4 + 4) bytes) (omega (arith, le)))
    ∙ behind_low old v (drop (8 * i + 4 + 4) bytes) long
    ∙ ap (λ n. n + 2 ^ 32 * (v % 2 ^ 32)) (sym (low_half old (bytes_drop (8 * i) bytes h) long))
