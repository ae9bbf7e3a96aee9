-- Words and bytes.
use Rattle.std.proofs.Common.{◌≡◌, ℕ, zero, suc, ◌+◌, ◌*◌, ◌/◌, ◌%◌, ◌^◌, ◌<◌, ◌≤◌, ℤ, pos, negsuc, List, [], ◌∷◌, ◌++◌, length, take, drop, refl, ap, ◌∙◌, subst, arith, length-append, length-take, length-drop}
use Rattle.std.specs.Prelude.{replicate}
use Rattle.std.proofs.Math.Nat.{mod-lt, mod-eq_of_lt, pow-succ'}
use Rattle.std.proofs.lemmas.Nat.{pow_pos}
use Rattle.bpf_alu.specs.Value.{bits, wrapped}
use Rattle.bpf_alu.specs.declared.Width.{Width}
use Rattle.bpf_alu.specs.declared.Width.TheVariants.{W32, W64}
use Rattle.bpf_insn.specs.Encoding.{size_bytes}
use Rattle.bpf_insn.specs.declared.Size.{Size}
use Rattle.bpf_insn.specs.declared.Size.TheVariants.{Byte, Half, Word, Double}
use Rattle.bpf_semantics.specs.Windows.{little_endian, low_bytes, overwritten}
use Rattle.bpf_semantics.specs.Step.{AreBytes}

pub wrapped_below : (k : ℕ) (z : ℤ) → wrapped k z < 2 ^ k
wrapped_below k (pos n) = mod-lt n (pow_pos k)
wrapped_below k (negsuc n) = omega (arith, pow_pos k)

pub wrapped_small : (k n : ℕ) → n < 2 ^ k → wrapped k (pos n) ≡ n
wrapped_small k n h = mod-eq_of_lt h

-- what is left of a number by a width is a word
pub cut_word : (w : Width) (x : ℕ) → x % 2 ^ bits w < 2 ^ 64
cut_word W32 x = let h : x % 2 ^ 32 < 2 ^ 32 = mod-lt x (omega arith) in omega (arith, h)
cut_word W64 x = mod-lt x (omega arith)

-- ---- bytes

pub bytes_take : (n : ℕ) (xs : List ℕ) → AreBytes xs → AreBytes (take n xs)
bytes_take zero xs h k = omega arith
bytes_take (suc n) [] h k = h k
bytes_take (suc n) (x ∷ xs) h zero = h zero
bytes_take (suc n) (x ∷ xs) h (suc k) = bytes_take n xs (λ j. h (suc j)) k

pub bytes_drop : (n : ℕ) (xs : List ℕ) → AreBytes xs → AreBytes (drop n xs)
bytes_drop zero xs h k = h k
bytes_drop (suc n) [] h k = h k
bytes_drop (suc n) (x ∷ xs) h k = bytes_drop n xs (λ j. h (suc j)) k

pub bytes_append : (xs ys : List ℕ) → AreBytes xs → AreBytes ys → AreBytes (xs ++ ys)
bytes_append [] ys h g k = g k
bytes_append (x ∷ xs) ys h g zero = h zero
bytes_append (x ∷ xs) ys h g (suc k) = bytes_append xs ys (λ j. h (suc j)) g k

pub bytes_low : (n v : ℕ) → AreBytes (low_bytes n v)
bytes_low zero v k = omega arith
bytes_low (suc n) v zero = mod-lt v (omega arith)
bytes_low (suc n) v (suc k) = bytes_low n (v / 256) k

pub bytes_replicate : (n b : ℕ) → b < 256 → AreBytes (replicate n b)
bytes_replicate zero b h k = omega arith
bytes_replicate (suc n) b h zero = h
bytes_replicate (suc n) b h (suc k) = bytes_replicate n b h k

pub bytes_zero : (n : ℕ) → AreBytes (replicate n 0)
bytes_zero n = bytes_replicate n 0 (omega arith)

pub bytes_overwritten : (bytes : List ℕ) (at : ℕ) (new : List ℕ) → AreBytes bytes → AreBytes new → AreBytes (overwritten bytes at new)
bytes_overwritten bytes at new h g =
    bytes_append (take at bytes ++ new) (drop (at + length new) bytes) (bytes_append (take at bytes) new (bytes_take at bytes h) g) (bytes_drop (at + length new) bytes h)

pub length_low : (n v : ℕ) → length (low_bytes n v) ≡ n
length_low zero v = refl
length_low (suc n) v = ap suc (length_low n (v / 256))

pub length_overwritten : (bytes : List ℕ) (at : ℕ) (new : List ℕ) → at + length new ≤ length bytes → length (overwritten bytes at new) ≡ length bytes
length_overwritten bytes at new h = simp (length-append, length-take, length-drop) (omega arith)

-- the low bytes of a number that has no more spell it
pub low_whole : (n v : ℕ) → v < 256 ^ n → little_endian (low_bytes n v) ≡ v
low_whole zero v h = omega arith
low_whole (suc n) v h =
    let rest = low_whole n (v / 256) (above n v h) in
    ap (λ m. v % 256 + 256 * m) rest ∙ omega arith
  where
    above : (n v : ℕ) → v < 256 ^ suc n → v / 256 < 256 ^ n
    above n v h = let e : 256 ^ suc n ≡ 256 * 256 ^ n = pow-succ' 256 n in omega (arith, e, h)

-- the number that bytes spell
digit : (b l p : ℕ) → b < 256 → l < p → b + 256 * l < 256 * p
digit b l p h g = omega arith

little_small : (xs : List ℕ) → AreBytes xs → little_endian xs < 256 ^ length xs
little_small [] h = omega arith
little_small (x ∷ xs) h = rw pow-succ' (digit x (little_endian xs) (256 ^ length xs) (h zero) (little_small xs (λ j. h (suc j))))

size_bound : (size : Size) → 256 ^ size_bytes size ≡ 2 ^ (8 * size_bytes size)
size_bound Byte = refl
size_bound Half = refl
size_bound Word = refl
size_bound Double = refl

pub size_fits : (size : Size) → 2 ^ (8 * size_bytes size) ≤ 2 ^ 64
size_fits Byte = omega arith
size_fits Half = omega arith
size_fits Word = omega arith
size_fits Double = omega arith

pub some_bytes : (size : Size) → 1 ≤ size_bytes size
some_bytes Byte = omega arith
some_bytes Half = omega arith
some_bytes Word = omega arith
some_bytes Double = omega arith

pub few_bytes : (size : Size) → size_bytes size ≤ 8
few_bytes Byte = omega arith
few_bytes Half = omega arith
few_bytes Word = omega arith
few_bytes Double = omega arith

pub read_small : (size : Size) (xs : List ℕ) → AreBytes xs → length xs ≡ size_bytes size → little_endian xs < 2 ^ (8 * size_bytes size)
read_small size xs h e = subst (λ p. little_endian xs < p) (ap (λ n. 256 ^ n) e ∙ size_bound size) (little_small xs h)
