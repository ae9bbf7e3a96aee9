-- Pointers and numbers added and subtracted, and pointers as numbers.
use Rattle.std.proofs.Common.{◌≡◌, ℕ, ℤ, pos, negsuc, ◌+◌, ◌-◌, ◌*◌, ◌%◌, ◌^◌, ◌<◌, ◌≤◌, true, ◌&&◌, ltb, leb, min, max, refl, ap, ◌∙◌, inl, inr, arith, Option, Some, None}
use Rattle.std.specs.Prelude.{◌⊎◌, IfOk, IfSome, ◌≤ℤ◌, ◌+ℤ◌, ◌-ℤ◌, int_le, unsigned_abs}
use Rattle.std.proofs.lemmas.Int.{ints}
use Rattle.std.proofs.Math.Nat.{mod-eq_of_lt, add-mul-mod_self_right}
use Rattle.std.proofs.lemmas.Bool.{cond_both, ltb-true, leb-true, and_parts}
use Rattle.bpf_semantics.specs.declared.Region.{Region}
use Rattle.bpf_semantics.specs.declared.Region.TheVariants.{Stack, Input, Output}
use Rattle.bpf_semantics.specs.declared.profile.Profile.{Profile}
use Rattle.bpf_semantics.specs.declared.profile.Profile.TheVariants.{First, Second}
use Rattle.bpf_ranges.specs.declared.range.Range.{Range}
use Rattle.bpf_ranges.specs.declared.kind.Kind.TheVariants.{Ptr}
use Rattle.bpf_ranges.specs.Numbers.{InRange, IsOf, IsNumber}
use Rattle.bpf_ranges.specs.Kinds.{InRegion, Admits, IsKind, origin}
use Rattle.bpf_ranges.specs.Transfer.{signed_range, is_near, pointer, moved_up, moved_down, address, as_number, pointer_left}
use Rattle.bpf_ranges.proofs.KnownBits.{nothing_sound}
use Rattle.bpf_ranges.proofs.Settled.{nothing_fits}

int_le_true : (a b : ℤ) → int_le a b ≡ true → a ≤ℤ b
int_le_true a b t = grind (arith, ints)

near_both : (profile : Profile) (lo : ℤ) → is_near profile lo ≡ true → (negsuc (2 ^ 33 - 1) ≤ℤ lo) × (lo ≤ℤ pos (2 ^ 33))
near_both First lo t =
    let parts = and_parts (int_le (negsuc (2 ^ 20 - 1)) lo) (int_le lo (pos (2 ^ 20))) t in
    let low = int_le_true (negsuc (2 ^ 20 - 1)) lo parts.0 in
    let high = int_le_true lo (pos (2 ^ 20)) parts.1 in
    (omega (arith, ints, low), omega (arith, ints, high))
near_both Second lo t =
    let parts = and_parts (int_le (negsuc (2 ^ 33 - 1)) lo) (int_le lo (pos (2 ^ 33))) t in
    (int_le_true _ _ parts.0, int_le_true _ _ parts.1)

origin_bounds : (region : Region) → (2 ^ 40 ≤ origin region) × (origin region ≤ 2 ^ 42)
origin_bounds Stack = (omega arith, omega arith)
origin_bounds Input = (omega arith, omega arith)
origin_bounds Output = (omega arith, omega arith)

-- within 2^33 of the base
record IsNear (lo : ℤ) : Type 0 where
  low : negsuc (2 ^ 33 - 1) ≤ℤ lo
  high : lo ≤ℤ pos (2 ^ 33)

-- a pointer kind that is made admits what lies between its bounds
pointer_sound : (profile : Profile) (region : Region) (lo hi : ℤ) (n : ℕ) → (IsNear lo → IsNear hi → InRegion region lo hi n) → IfOk (pointer profile region lo hi) (λ k. Admits k (Some n))
pointer_sound profile region lo hi n h =
    cond_both (is_near profile lo && is_near profile hi) _ _ (λ r. IfOk r (λ k. Admits k (Some n)))
    (λ t. let parts = and_parts (is_near profile lo) (is_near profile hi) t in
    let l = near_both profile lo parts.0 in let u = near_both profile hi parts.1 in
    h (record { low = l.0; high = l.1 }) (record { low = u.0; high = u.1 }))
    (λ _. tt)

-- what a number is, read as signed
abbrev pub Signed : ℕ → Option (ℤ × ℤ) → Type 0
Signed y None = Unit {0}
Signed y (Some d) = ((y < 2 ^ 63) × (d.0 ≤ℤ pos y) × (pos y ≤ℤ d.1)) ⊎ ((2 ^ 63 ≤ y) × (d.0 ≤ℤ (pos y -ℤ pos (2 ^ 64))) × ((pos y -ℤ pos (2 ^ 64)) ≤ℤ d.1))

pub signed_range_is : (lo hi y : ℕ) → lo ≤ y → y ≤ hi → Signed y (signed_range lo hi)
signed_range_is lo hi y p q =
    cond_both (ltb hi (2 ^ 63)) _ _ (Signed y) (λ t. let h = ltb-true _ _ t in inl (omega arith, omega (arith, ints), omega (arith, ints)))
    (λ _. cond_both (leb (2 ^ 63) lo) _ _ (Signed y) (λ t. let h = leb-true _ _ t in inr (omega arith, omega (arith, ints), omega (arith, ints))) (λ _. tt))

wraps : (n : ℕ) → 2 ^ 64 ≤ n → n < 2 * 2 ^ 64 → n % 2 ^ 64 ≡ n - 2 ^ 64
wraps n h l =
    let e : n ≡ (n - 2 ^ 64) + 1 * 2 ^ 64 = omega arith in
    let small : n - 2 ^ 64 < 2 ^ 64 = omega arith in
    ap (λ m. m % 2 ^ 64) e ∙ add-mul-mod_self_right (n - 2 ^ 64) 1 (2 ^ 64) ∙ mod-eq_of_lt small

pub up_sound : (profile : Profile) (region : Region) (lo hi : ℤ) (x y : ℕ) (o : Option (ℤ × ℤ)) → InRegion region lo hi x → y < 2 ^ 64 → Signed y o → IfOk (moved_up profile region lo hi o) (λ k. Admits k (Some ((x + y) % 2 ^ 64)))
up_sound profile region lo hi x y None h fy s = tt
up_sound profile region lo hi x y (Some d) h fy s =
    let bounds = origin_bounds region in
    pointer_sound profile region (lo +ℤ d.0) (hi +ℤ d.1) ((x + y) % 2 ^ 64)
    (λ l u. elim s [
      | inl p ↦ let small : x + y < 2 ^ 64 = omega (arith, ints) in
          rw (mod-eq_of_lt small) (omega (arith, ints), omega (arith, ints))
      | inr p ↦ let big : 2 ^ 64 ≤ x + y = omega (arith, ints) in
          let high : x + y < 2 * 2 ^ 64 = omega (arith, ints) in
          rw (wraps (x + y) big high) (omega (arith, ints), omega (arith, ints))
    ])

pub down_sound : (profile : Profile) (region : Region) (lo hi : ℤ) (x y : ℕ) (o : Option (ℤ × ℤ)) → InRegion region lo hi x → y < 2 ^ 64 → Signed y o → IfOk (moved_down profile region lo hi o) (λ k. Admits k (Some ((x + (2 ^ 64 - y)) % 2 ^ 64)))
down_sound profile region lo hi x y None h fy s = tt
down_sound profile region lo hi x y (Some d) h fy s =
    let bounds = origin_bounds region in
    pointer_sound profile region (lo -ℤ d.1) (hi -ℤ d.0) ((x + (2 ^ 64 - y)) % 2 ^ 64)
    (λ l u. elim s [
      | inl p ↦ let big : 2 ^ 64 ≤ x + (2 ^ 64 - y) = omega (arith, ints) in
          let high : x + (2 ^ 64 - y) < 2 * 2 ^ 64 = omega (arith, ints) in
          rw (wraps (x + (2 ^ 64 - y)) big high) (omega (arith, ints), omega (arith, ints))
      | inr p ↦ let small : x + (2 ^ 64 - y) < 2 ^ 64 = omega (arith, ints) in
          rw (mod-eq_of_lt small) (omega (arith, ints), omega (arith, ints))
    ])

pub same_pointer : (profile : Profile) (region : Region) (a a' b b' : ℤ) → a ≡ a' → b ≡ b' → pointer profile region a b ≡ pointer profile region a' b'
same_pointer profile region a a' b b' p q = ap (λ z. pointer profile region z b) p ∙ ap (pointer profile region a') q

-- ---- a pointer that is made is near its region

pointer_kind : (profile : Profile) (region : Region) (lo hi : ℤ) → lo ≤ℤ hi → IfOk (pointer profile region lo hi) IsKind
pointer_kind profile region lo hi le =
    cond_both (is_near profile lo && is_near profile hi) _ _ (λ r. IfOk r IsKind)
    (λ t. let parts = and_parts (is_near profile lo) (is_near profile hi) t in ((near_both profile lo parts.0).0, le, (near_both profile hi parts.1).1))
    (λ _. tt)

-- numbers read as signed, in order
abbrev pub AreInOrder : Option (ℤ × ℤ) → Type 0
AreInOrder o = IfSome o (λ d. d.0 ≤ℤ d.1)

pub signed_in_order : (lo hi : ℕ) → lo ≤ hi → AreInOrder (signed_range lo hi)
signed_in_order lo hi le =
    cond_both (ltb hi (2 ^ 63)) _ _ AreInOrder (λ _. omega (arith, ints))
    (λ _. cond_both (leb (2 ^ 63) lo) _ _ AreInOrder (λ _. omega (arith, ints)) (λ _. tt))

pub up_kind : (profile : Profile) (region : Region) (lo hi : ℤ) (o : Option (ℤ × ℤ)) → lo ≤ℤ hi → AreInOrder o → IfOk (moved_up profile region lo hi o) IsKind
up_kind profile region lo hi None le h = tt
up_kind profile region lo hi (Some d) le h = pointer_kind profile region (lo +ℤ d.0) (hi +ℤ d.1) (omega (arith, ints))

pub down_kind : (profile : Profile) (region : Region) (lo hi : ℤ) (o : Option (ℤ × ℤ)) → lo ≤ℤ hi → AreInOrder o → IfOk (moved_down profile region lo hi o) IsKind
down_kind profile region lo hi None le h = tt
down_kind profile region lo hi (Some d) le h = pointer_kind profile region (lo -ℤ d.1) (hi -ℤ d.0) (omega (arith, ints))

-- ---- pointers as numbers

abs_is : (z : ℤ) → pos 0 ≤ℤ z → pos (unsigned_abs z) ≡ z
abs_is (pos n) h = refl
abs_is (negsuc n) h = absurd (omega (arith, ints))

pub address_is : (region : Region) (z : ℤ) → negsuc (2 ^ 33 - 1) ≤ℤ z → pos (address region z) ≡ (pos (origin region) +ℤ z)
address_is region z low = let bounds = origin_bounds region in abs_is (pos (origin region) +ℤ z) (omega (arith, ints))

-- an address between two offsets is a number of their addresses
pub as_number_sound : (region : Region) (lo hi : ℤ) (n : ℕ) → IsKind (Ptr region lo hi) → InRegion region lo hi n → IsOf (as_number region lo hi) n
as_number_sound region lo hi n k h =
    let first = address_is region lo k.0 in
    let last = address_is region hi (omega (arith, ints)) in
    record { within = (omega (arith, ints), omega (arith, ints)); has = nothing_sound n }

pub as_number_is : (region : Region) (lo hi : ℤ) → IsKind (Ptr region lo hi) → IsNumber (as_number region lo hi)
as_number_is region lo hi k =
    let bounds = origin_bounds region in
    let first = address_is region lo k.0 in
    let last = address_is region hi (omega (arith, ints)) in
    record { range = record { ordered = omega (arith, ints); fits = omega (arith, ints) }; bits = nothing_fits }

-- what a range of addresses leaves of a pointer
pub pointer_left_sound : (region : Region) (lo hi : ℤ) (r : Range) (n : ℕ) → IsKind (Ptr region lo hi) → InRegion region lo hi n → InRange r n → Admits (pointer_left region lo hi r) (Some n)
pointer_left_sound region lo hi r n k h in_range =
    let first = address_is region lo k.0 in
    let last = address_is region hi (omega (arith, ints)) in
    cond_both (leb (max (address region lo) r.lo) (min (address region hi) r.hi)) _ _ (λ k. Admits k (Some n))
    (λ _. (omega (arith, ints), omega (arith, ints)))
    (λ _. h)

pub pointer_left_kind : (region : Region) (lo hi : ℤ) (r : Range) → IsKind (Ptr region lo hi) → IsKind (pointer_left region lo hi r)
pointer_left_kind region lo hi r k =
    let first = address_is region lo k.0 in
    let last = address_is region hi (omega (arith, ints)) in
    let low = max (address region lo) r.lo in
    let high = min (address region hi) r.hi in
    cond_both (leb low high) _ _ IsKind
    (λ t. let le = leb-true low high t in (omega (arith, ints), omega (arith, ints), omega (arith, ints)))
    (λ _. k)
