-- An access that the verifier allows lies in its window.
use Rattle.std.proofs.Common.{◌≡◌, ◌≢◌, ℕ, ℤ, pos, negsuc, ◌+◌, ◌-◌, ◌*◌, ◌^◌, ◌<◌, ◌≤◌, Bool, true, false, ◌&&◌, List, length, take, drop, refl, sym, ap, ◌∙◌, subst, arith, length-take, length-drop}
use Rattle.std.specs.Prelude.{◌≤ℤ◌, ◌+ℤ◌, int_le}
use Rattle.std.proofs.lemmas.Int.{ints}
use Rattle.std.proofs.lemmas.Bool.{and_parts}
use Rattle.bpf_alu.specs.Value.{wrapped}
use Rattle.bpf_insn.specs.Encoding.{size_bytes}
use Rattle.bpf_insn.specs.declared.Size.{Size}
use Rattle.bpf_semantics.specs.Windows.{Memory, Covers, window, base, read, written, low_bytes, little_endian, overwritten, with_window}
use Rattle.bpf_semantics.specs.Step.{AreBytes}
use Rattle.bpf_semantics.specs.declared.Region.{Region}
use Rattle.bpf_semantics.specs.declared.Region.TheVariants.{Stack, Input, Output}
use Rattle.bpf_ranges.specs.declared.kind.Kind.{Kind}
use Rattle.bpf_ranges.specs.declared.kind.Kind.TheVariants.{Ptr}
use Rattle.bpf_ranges.specs.Kinds.{InRegion}
use Rattle.bpf_verifier.specs.Program.{Program, HasLimits}
use Rattle.bpf_verifier.specs.Registers.{is_input_pointer, is_inside, first_offset, end_offset}
use Rattle.bpf_verifier.proofs.Words.{wrapped_small, bytes_take, bytes_drop, bytes_low, bytes_overwritten, length_low, length_overwritten, read_small}

-- the three windows have their lengths, and hold bytes
pub record IsMemory (p : Program) (m : Memory) : Type 0 where
  pub stack_length : length m.stack ≡ 512
  pub input_length : length m.input ≡ p.in_len
  pub output_length : length m.output ≡ p.out_len
  pub stack_bytes : AreBytes m.stack
  pub input_bytes : AreBytes m.input
  pub output_bytes : AreBytes m.output

-- what the code's test computes
pub inside_is : (p : Program) (region : Region) (lo hi offset : ℤ) (size : ℕ) (kind : Kind) (first low off high off' z end : ℤ) (b : Bool) → b ≡ (int_le first (low +ℤ off) && int_le (high +ℤ off' +ℤ z) end) → kind ≡ Ptr region lo hi → first ≡ first_offset region → low ≡ lo → off ≡ offset → high ≡ hi → off' ≡ offset → z ≡ pos size → end ≡ end_offset p region → b ≡ is_inside p kind offset size
inside_is p region lo hi offset size kind first low off high off' z end b t k f l o h o' s e =
    t
    ∙ ap (λ y. int_le y (low +ℤ off) && int_le (high +ℤ off' +ℤ z) end) f
    ∙ ap (λ y. int_le (first_offset region) (y +ℤ off) && int_le (high +ℤ off' +ℤ z) end) l
    ∙ ap (λ y. int_le (first_offset region) (lo +ℤ y) && int_le (high +ℤ off' +ℤ z) end) o
    ∙ ap (λ y. int_le (first_offset region) (lo +ℤ offset) && int_le (y +ℤ off' +ℤ z) end) h
    ∙ ap (λ y. int_le (first_offset region) (lo +ℤ offset) && int_le (hi +ℤ y +ℤ z) end) o'
    ∙ ap (λ y. int_le (first_offset region) (lo +ℤ offset) && int_le (hi +ℤ offset +ℤ y) end) s
    ∙ ap (λ y. int_le (first_offset region) (lo +ℤ offset) && int_le (hi +ℤ offset +ℤ pos size) y) e
    ∙ ap (λ y. is_inside p y offset size) (sym k)

pub int_le_true : (a b : ℤ) → int_le a b ≡ true → a ≤ℤ b
int_le_true a b t = grind (arith, ints)

pub natural : (z : ℤ) → pos 0 ≤ℤ z → (a : ℕ) × (z ≡ pos a)
natural (pos a) h = (a, refl)
natural (negsuc m) h = absurd (omega (arith, ints))

covered : (m : Memory) (region : Region) (z : ℤ) (a size : ℕ) → z ≡ pos a → a < 2 ^ 64 → base region ≤ a → a + size ≤ base region + length (window m region) → Covers m region (wrapped 64 z) size
covered m region z a size e f g h =
    let is : wrapped 64 z ≡ a = ap (wrapped 64) e ∙ wrapped_small 64 a f in
    subst (λ n. Covers m region n size) (sym is) (g, h)

pub place_in : (p : Program) (m : Memory) (region : Region) (lo hi : ℤ) (n : ℕ) (offset : ℤ) (size : ℕ) → HasLimits p → IsMemory p m → InRegion region lo hi n → is_inside p (Ptr region lo hi) offset size ≡ true → Covers m region (wrapped 64 (pos n +ℤ offset)) size
place_in p m Stack lo hi n offset size limits im h t =
    let parts = and_parts (int_le (negsuc 511) (lo +ℤ offset)) (int_le (hi +ℤ offset +ℤ pos size) (pos 0)) t in
    let low = int_le_true (negsuc 511) (lo +ℤ offset) parts.0 in
    let high = int_le_true (hi +ℤ offset +ℤ pos size) (pos 0) parts.1 in
    let at = natural (pos n +ℤ offset) (omega (arith, ints)) in
    let e = at.1 in
    let first : 2 ^ 40 - 512 ≤ at.0 = omega (arith, ints) in
    let last : at.0 + size ≤ 2 ^ 40 = omega (arith, ints) in
    let len = im.stack_length in
    covered m Stack (pos n +ℤ offset) at.0 size e (omega arith) first (omega arith)
place_in p m Input lo hi n offset size limits im h t =
    let parts = and_parts (int_le (pos 0) (lo +ℤ offset)) (int_le (hi +ℤ offset +ℤ pos size) (pos p.in_len)) t in
    let low = int_le_true (pos 0) (lo +ℤ offset) parts.0 in
    let high = int_le_true (hi +ℤ offset +ℤ pos size) (pos p.in_len) parts.1 in
    let at = natural (pos n +ℤ offset) (omega (arith, ints)) in
    let e = at.1 in
    let first : 2 ^ 41 ≤ at.0 = omega (arith, ints) in
    let last : at.0 + size ≤ 2 ^ 41 + p.in_len = omega (arith, ints) in
    let len = im.input_length in
    let fit = limits.input in
    covered m Input (pos n +ℤ offset) at.0 size e (omega arith) first (omega arith)
place_in p m Output lo hi n offset size limits im h t =
    let parts = and_parts (int_le (pos 0) (lo +ℤ offset)) (int_le (hi +ℤ offset +ℤ pos size) (pos p.out_len)) t in
    let low = int_le_true (pos 0) (lo +ℤ offset) parts.0 in
    let high = int_le_true (hi +ℤ offset +ℤ pos size) (pos p.out_len) parts.1 in
    let at = natural (pos n +ℤ offset) (omega (arith, ints)) in
    let e = at.1 in
    let first : 2 ^ 42 ≤ at.0 = omega (arith, ints) in
    let last : at.0 + size ≤ 2 ^ 42 + p.out_len = omega (arith, ints) in
    let len = im.output_length in
    let fit = limits.output in
    covered m Output (pos n +ℤ offset) at.0 size e (omega arith) first (omega arith)

-- fewer bytes from there on
pub covers_less : (m : Memory) (region : Region) (a n size : ℕ) → n ≤ size → Covers m region a size → Covers m region a n
covers_less m region a n size h c = (c.0, omega (arith, c.1))

-- a pointer that is not the input's
pub not_input : (region : Region) (lo hi : ℤ) → is_input_pointer (Ptr region lo hi) ≡ false → region ≢ Input
not_input Stack lo hi h e = cc
not_input Input lo hi h e = cc
not_input Output lo hi h e = cc

-- bytes of another window are not the input's
pub not_in_input : (p : Program) (m : Memory) (region : Region) (a size : ℕ) → HasLimits p → IsMemory p m → 1 ≤ size → region ≢ Input → Covers m region a size → Covers m Input a size → ⊥
not_in_input p m Stack a size limits im some ne c d = omega (arith, c.1, d.0, im.stack_length)
not_in_input p m Input a size limits im some ne c d = ne refl
not_in_input p m Output a size limits im some ne c d = omega (arith, c.0, d.1, im.input_length, limits.input)

pub window_bytes : (p : Program) (m : Memory) (region : Region) → IsMemory p m → AreBytes (window m region)
window_bytes p m Stack im = im.stack_bytes
window_bytes p m Input im = im.input_bytes
window_bytes p m Output im = im.output_bytes

-- what a load reads
pub load_small : (p : Program) (m : Memory) (region : Region) (a : ℕ) (size : Size) → IsMemory p m → Covers m region a (size_bytes size) → little_endian (read m region (a - base region) (size_bytes size)) < 2 ^ (8 * size_bytes size)
load_small p m region a size im c =
    let w = window m region in
    let len : length (take (size_bytes size) (drop (a - base region) w)) ≡ size_bytes size = simp (length-take, length-drop) (omega (arith, c.0, c.1)) in
    read_small size (read m region (a - base region) (size_bytes size)) (bytes_take (size_bytes size) (drop (a - base region) w) (bytes_drop (a - base region) w (window_bytes p m region im))) len

-- what a store leaves
with_memory : (p : Program) (m : Memory) (region : Region) (bytes : List ℕ) → IsMemory p m → length bytes ≡ length (window m region) → AreBytes bytes → IsMemory p (with_window m region bytes)
with_memory p m Stack bytes im e h = record { stack_length = e ∙ im.stack_length; input_length = im.input_length; output_length = im.output_length; stack_bytes = h; input_bytes = im.input_bytes; output_bytes = im.output_bytes }
with_memory p m Input bytes im e h = record { stack_length = im.stack_length; input_length = e ∙ im.input_length; output_length = im.output_length; stack_bytes = im.stack_bytes; input_bytes = h; output_bytes = im.output_bytes }
with_memory p m Output bytes im e h = record { stack_length = im.stack_length; input_length = im.input_length; output_length = e ∙ im.output_length; stack_bytes = im.stack_bytes; input_bytes = im.input_bytes; output_bytes = h }

pub written_kept : (p : Program) (m : Memory) (region : Region) (a : ℕ) (new : List ℕ) → IsMemory p m → Covers m region a (length new) → AreBytes new → IsMemory p (written m region (a - base region) new)
written_kept p m region a new im c h =
    let fits : a - base region + length new ≤ length (window m region) = omega (arith, c.0, c.1) in
    with_memory p m region (overwritten (window m region) (a - base region) new) im (length_overwritten (window m region) (a - base region) new fits) (bytes_overwritten (window m region) (a - base region) new (window_bytes p m region im) h)

pub store_kept : (p : Program) (m : Memory) (region : Region) (a : ℕ) (size : Size) (v : ℕ) → IsMemory p m → Covers m region a (size_bytes size) → IsMemory p (written m region (a - base region) (low_bytes (size_bytes size) v))
store_kept p m region a size v im c =
    written_kept p m region a (low_bytes (size_bytes size) v) im (subst (Covers m region a) (sym (length_low (size_bytes size) v)) c) (bytes_low (size_bytes size) v)
