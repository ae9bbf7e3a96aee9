-- Two lists of bytes that are longer than any image, alike in their heads and in what is left over by whole slots, are read alike.
use Rattle.std.proofs.Common.{◌≡◌, ℕ, ◌+◌, ◌*◌, ◌%◌, ◌<◌, ◌≤◌, inl, inr, List, [], ◌∷◌, ◌++◌, length, take, drop, arith, sym, ap, subst, ◌∙◌, length-append}
use Rattle.std.specs.Prelude.{Bool, true, false, MatchBool, slice_index, nat_eq}
use Rattle.std.specs.Cmp.Lexicographic.{pointwise}
use Rattle.std.specs.List.{flat_map}
use Rattle.std.proofs.Math.Nat.{mod-le, add-mod-mod}
use Rattle.std.proofs.lemmas.List.{get_or-take, take-take, length-take-le, length-drop}
use Rattle.bpf_insn.specs.Encoding.{spelling, slots}
use Rattle.bpf_insn.specs.Refusal.{Spells, IsRefused}
use Rattle.bpf_insn.specs.declared.Insn.{Insn}
use Rattle.bpf_insn.specs.declared.Insn.TheVariants as insn
use Rattle.bpf_insn.specs.declared.decode.Refusal.{Refusal}
use Rattle.bpf_insn.specs.declared.decode.Refusal.TheVariants as why
use Rattle.bpf_image.specs.Image.{number_at, Breaks, IsCodeFault, IsFirstFault, IsImage, IsRaw, IsProgram, IsNoProgram, is_marked}
use Rattle.bpf_image.specs.declared.image.ImageKind.{ImageKind}
use Rattle.bpf_image.specs.declared.image.ImageFault.{ImageFault}
use Rattle.bpf_semantics.specs.declared.profile.Profile.{Profile}
use Rattle.bpf_image.specs.declared.image.ImageFault.TheVariants.{Short, Mark, Version, Kind, Window, Code, NoMemory}
use Rattle.bpf_admission.specs.Enough.{AreReadAlike}

-- ---- code has eight bytes a slot

slots_long : (i : Insn) (is : List Insn) → length (flat_map spelling is) ≤ 8 * length is → length (flat_map spelling (slots i ++ is)) ≤ 8 * length (slots i ++ is)
slots_long (insn.Alu o w d s) is h = omega arith
slots_long (insn.Swap k b d) is h = omega arith
slots_long (insn.Load z e d b f) is h = omega arith
slots_long (insn.Store z b f s) is h = omega arith
slots_long (insn.Jump d) is h = omega (arith, length-append {A = ℕ})
slots_long (insn.JumpIf c w l r f) is h = omega arith
slots_long (insn.Call n) is h = omega arith
slots_long insn.Exit is h = omega arith
slots_long (insn.Wide d v) is h = omega arith
slots_long insn.Tail is h = omega arith

code_long : (is : List Insn) → length (flat_map spelling (flat_map slots is)) ≤ 8 * length (flat_map slots is)
code_long [] = omega arith
code_long (i ∷ is) = slots_long i (flat_map slots is) (code_long is)

-- bytes that spell code are those of 4,096 slots at most
too_long : (code : List Insn) (bytes : List ℕ) → Spells code bytes → 8 * 4096 < length bytes → ⊥
too_long code bytes s long =
    let is : List Insn = s.is_code.0 in
    let e : length bytes ≡ length (flat_map spelling (flat_map slots is)) = ap length s.bytes_are ∙ ap (λ c. length (flat_map spelling c)) s.is_code.2 in
    let f : length code ≡ length (flat_map slots is) = ap length s.is_code.2 in
    let g : length (flat_map spelling (flat_map slots is)) ≤ 8 * length (flat_map slots is) = code_long is in
    let few : length code ≤ 4096 = s.few_slots in
    omega arith

-- ---- long code

long_refused : (x y : List ℕ) (place : ℕ) (w : Refusal) → 8 * 4096 < length x → 8 * 4096 < length y → length x % 8 ≡ length y % 8 → IsRefused x place w → IsRefused y place w
long_refused x y place why.UnevenLength lx ly e r = (r.0, λ z. r.1 (e ∙ z))
long_refused x y place why.Empty lx ly e r = let none : length x ≡ 0 = ap length r.1 in absurd (omega arith)
long_refused x y place why.TooLong lx ly e r = (r.0, sym e ∙ r.1, ly)
long_refused x y place why.Memory lx ly e r = let few : length x ≤ 8 * 4096 = r.3 in absurd (omega arith)
long_refused x y place why.UnknownOpcode lx ly e r = let few : length x ≤ 8 * 4096 = r.1 in absurd (omega arith)
long_refused x y place why.UnusedField lx ly e r = let few : length x ≤ 8 * 4096 = r.1 in absurd (omega arith)
long_refused x y place why.BadRegister lx ly e r = let few : length x ≤ 8 * 4096 = r.1 in absurd (omega arith)
long_refused x y place why.CutWide lx ly e r = let few : length x ≤ 8 * 4096 = r.1 in absurd (omega arith)
long_refused x y place why.LeftOut lx ly e r = let few : length x ≤ 8 * 4096 = r.1 in absurd (omega arith)
long_refused x y place why.BadSwapWidth lx ly e r = let few : length x ≤ 8 * 4096 = r.1 in absurd (omega arith)

long_fault : (x y : List ℕ) (f : ImageFault) → 8 * 4096 < length x → 8 * 4096 < length y → length x % 8 ≡ length y % 8 → IsCodeFault x f → IsCodeFault y f
long_fault x y (Code fault) lx ly e h = (h.0, long_refused x y fault.slot fault.why lx ly e h.1)
long_fault x y NoMemory lx ly e h = long_refused x y 0 why.Memory lx ly e h
long_fault x y Short lx ly e h = absurd h
long_fault x y Mark lx ly e h = absurd h
long_fault x y Version lx ly e h = absurd h
long_fault x y Kind lx ly e h = absurd h
long_fault x y Window lx ly e h = absurd h

-- ---- long images

pub record AreLong (a b : List ℕ) : Type 0 where
  pub long : 16 + 8 * 4096 < length a
  pub other_long : 16 + 8 * 4096 < length b
  pub left_over : length a % 8 ≡ length b % 8
  pub head : take 16 a ≡ take 16 b

turned : (a b : List ℕ) → AreLong a b → AreLong b a
turned a b h = record { long = h.other_long; other_long = h.long; left_over = sym h.left_over; head = sym h.head }

same_mark : (a b : List ℕ) → AreLong a b → take 4 a ≡ take 4 b
same_mark a b h = sym (take-take 4 16 a (omega arith)) ∙ ap (take 4) h.head ∙ take-take 4 16 b (omega arith)

same_byte : (a b : List ℕ) (k : ℕ) → AreLong a b → k < 16 → slice_index a k ≡ slice_index b k
same_byte a b k h below = sym (get_or-take 16 a k 0 below) ∙ ap (λ xs. slice_index xs k) h.head ∙ get_or-take 16 b k 0 below

same_input : (a b : List ℕ) → AreLong a b → number_at a 8 ≡ number_at b 8
same_input a b h =
    let e8 : slice_index a 8 ≡ slice_index b 8 = same_byte a b 8 h (omega arith) in
    let e9 : slice_index a 9 ≡ slice_index b 9 = same_byte a b 9 h (omega arith) in
    let e10 : slice_index a 10 ≡ slice_index b 10 = same_byte a b 10 h (omega arith) in
    let e11 : slice_index a 11 ≡ slice_index b 11 = same_byte a b 11 h (omega arith) in
    (cc)

same_output : (a b : List ℕ) → AreLong a b → number_at a 12 ≡ number_at b 12
same_output a b h =
    let e12 : slice_index a 12 ≡ slice_index b 12 = same_byte a b 12 h (omega arith) in
    let e13 : slice_index a 13 ≡ slice_index b 13 = same_byte a b 13 h (omega arith) in
    let e14 : slice_index a 14 ≡ slice_index b 14 = same_byte a b 14 h (omega arith) in
    let e15 : slice_index a 15 ≡ slice_index b 15 = same_byte a b 15 h (omega arith) in
    (cc)

same_code_fault : (a b : List ℕ) (f : ImageFault) → AreLong a b → IsCodeFault (drop 16 a) f → IsCodeFault (drop 16 b) f
same_code_fault a b f h x =
    let la : 16 + 8 * 4096 < length a = h.long in
    let lb : 16 + 8 * 4096 < length b = h.other_long in
    let e : length a % 8 ≡ length b % 8 = h.left_over in
    long_fault (drop 16 a) (drop 16 b) f (omega (arith, length-drop 16 a)) (omega (arith, length-drop 16 b)) (omega (arith, length-drop 16 a, length-drop 16 b)) x

breaks : (a b : List ℕ) (f : ImageFault) → AreLong a b → Breaks f a → Breaks f b
breaks a b Short h x = let la : 16 + 8 * 4096 < length a = h.long in absurd (omega arith)
breaks a b Mark h x = λ e. x (same_mark a b h ∙ e)
breaks a b Version h x = (λ e. x.0 (same_byte a b 4 h (omega arith) ∙ e), λ e. x.1 (same_byte a b 4 h (omega arith) ∙ e))
breaks a b Kind h x =
    elim x [
      | inl past ↦ inl (subst (λ n. 2 < n) (same_byte a b 5 h (omega arith)) past)
      | inr more ↦ inr (elim more [
        | inl set ↦ inl (λ e. set (same_byte a b 6 h (omega arith) ∙ e))
        | inr set ↦ inr (λ e. set (same_byte a b 7 h (omega arith) ∙ e))
      ])
    ]
breaks a b Window h x =
    elim x [
      | inl past ↦ inl (subst (λ n. 65536 < n) (same_input a b h) past)
      | inr past ↦ inr (subst (λ n. 65536 < n) (same_output a b h) past)
    ]
breaks a b (Code fault) h x = same_code_fault a b (Code fault) h x
breaks a b NoMemory h x = same_code_fault a b NoMemory h x

first_fault : (a b : List ℕ) (f : ImageFault) → AreLong a b → IsFirstFault a f → IsFirstFault b f
first_fault a b f h x = record { stands = breaks a b f h x.stands; first = λ other before broken. x.first other before (breaks b a other (turned a b h) broken) }

-- ---- programs

matched : (c d : Bool) {X Y Z W : Type 0} → c ≡ d → (X → Z) → (Y → W) → MatchBool c X Y → MatchBool d Z W
matched true true e f g x = f x
matched false false e f g y = g y
matched true false e f g x = absurd (cc)
matched false true e f g y = absurd (cc)

same_kind : (a b : List ℕ) → AreLong a b → is_marked a ≡ is_marked b
same_kind a b h = ap (λ xs. pointwise nat_eq (82 ∷ 66 ∷ 80 ∷ 70 ∷ []) xs) (same_mark a b h)

no_program : (a b : List ℕ) (f : ImageFault) → AreLong a b → IsNoProgram a f → IsNoProgram b f
no_program a b f h x =
    let la : 16 + 8 * 4096 < length a = h.long in
    let lb : 16 + 8 * 4096 < length b = h.other_long in
    matched (is_marked a) (is_marked b) (same_kind a b h) (first_fault a b f h) (long_fault a b f (omega arith) (omega arith) h.left_over) x

no_image : (a : List ℕ) (kind : ImageKind) (profile : Profile) (in_len out_len : ℕ) (code : List Insn) → 16 + 8 * 4096 < length a → IsImage a kind profile in_len out_len code → ⊥
no_image a kind profile in_len out_len code long x = too_long code (drop 16 a) x.code_is (omega (arith, length-drop 16 a))

no_raw : (a : List ℕ) (kind : ImageKind) (profile : Profile) (in_len out_len : ℕ) (code : List Insn) → 16 + 8 * 4096 < length a → IsRaw a kind profile in_len out_len code → ⊥
no_raw a kind profile in_len out_len code long x = too_long code a x.code_is (omega arith)

none : (c : Bool) {X Y : Type 0} → (X → ⊥) → (Y → ⊥) → MatchBool c X Y → ⊥
none true f g x = f x
none false f g y = g y

no_long : (a : List ℕ) (kind : ImageKind) (profile : Profile) (in_len out_len : ℕ) (code : List Insn) → 16 + 8 * 4096 < length a → IsProgram a kind profile in_len out_len code → ⊥
no_long a kind profile in_len out_len code long x =
    none (is_marked a) (no_image a kind profile in_len out_len code long) (no_raw a kind profile in_len out_len code long) x

long_alike : (a b : List ℕ) → AreLong a b → AreReadAlike a b
long_alike a b h = record {
  programs = λ kind profile in_len out_len code. (λ x. absurd (no_long a kind profile in_len out_len code h.long x), λ x. absurd (no_long b kind profile in_len out_len code h.other_long x));
  no_programs = λ fault. (no_program a b fault h, no_program b a fault (turned a b h));
  images = λ kind profile in_len out_len code. (λ x. absurd (no_image a kind profile in_len out_len code h.long x), λ x. absurd (no_image b kind profile in_len out_len code h.other_long x));
  no_images = λ fault. (first_fault a b fault h, first_fault b a fault (turned a b h));
}

-- ---- the first bytes of a file

-- more than an image has, with as many left over by whole slots
first_alike : (bytes : List ℕ) (n : ℕ) → 16 + 8 * 4096 < n → n ≤ length bytes → n % 8 ≡ length bytes % 8 → AreReadAlike (take n bytes) bytes
first_alike bytes n long within left =
    let e : length (take n bytes) ≡ n = length-take-le n bytes within in
    let sixteen : take 16 (take n bytes) ≡ take 16 bytes = take-take 16 n bytes (omega arith) in
    long_alike (take n bytes) bytes (record { long = omega arith; other_long = omega arith; left_over = ap (λ k. k % 8) e ∙ left; head = sixteen })

pub past_alike : (bytes : List ℕ) (past : ℕ) → length bytes ≡ 32785 + past → AreReadAlike (take (32785 + past % 8) bytes) bytes
past_alike bytes past e =
    let part : past % 8 ≤ past = mod-le past 8 in
    first_alike bytes (32785 + past % 8) (omega arith) (omega arith) (add-mod-mod 32785 past 8 ∙ ap (λ n. n % 8) (sym e))
