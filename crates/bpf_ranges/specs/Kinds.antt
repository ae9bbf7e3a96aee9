-- What the verifier knows of a register (this store's profile).
use Rattle.std.specs.Prelude.{ℕ, ℤ, pos, negsuc, Option, None, Some, ◌^◌, ◌-◌, ◌/◌, ◌%◌, ◌<◌, ◌≤◌, ◌≤ℤ◌, ◌+ℤ◌, IsSomeAnd}
use Rattle.bpf_semantics.specs.declared.Region.{Region}
use Rattle.bpf_semantics.specs.declared.Region.TheVariants.{Stack, Input, Output}
use Rattle.bpf_ranges.specs.declared.kind.Kind.{Kind}
use Rattle.bpf_ranges.specs.declared.kind.Kind.TheVariants.{Unset, Dead, Num, Ptr, Halves}
use Rattle.bpf_ranges.specs.declared.word.Word.{Word}
use Rattle.bpf_ranges.specs.Numbers.{IsOf, IsNumber}

-- the address that offsets into a region count from: the end of the stack, the first byte of the input or the output
abbrev pub origin : Region → ℕ
origin Stack = 2 ^ 40
origin Input = 2 ^ 41
origin Output = 2 ^ 42

-- an address between two offsets into a region
abbrev pub InRegion : Region → ℤ → ℤ → ℕ → Type 0
InRegion region lo hi n = ((pos (origin region) +ℤ lo) ≤ℤ pos n) × (pos n ≤ℤ (pos (origin region) +ℤ hi))

-- a number of 32 bits of some words, if these are known
abbrev pub InWord : Option Word → ℕ → Type 0
InWord None n = Unit {0}
InWord (Some w) n = (w.lo ≤ n) × (n ≤ w.hi)

-- What a kind admits that a register holds: a number of its range with its bits, an address between its bounds, and
-- anything at all, nothing too, where nothing is known. What is Dead admits nothing: no run comes there. Of a cell that holds two words each is known by itself.
abbrev pub Admits : Kind → Option ℕ → Type 0
Admits Unset v = Unit {0}
Admits Dead v = ⊥
Admits (Num a) v = IsSomeAnd v (IsOf a)
Admits (Ptr region lo hi) v = IsSomeAnd v (InRegion region lo hi)
Admits (Halves low high) v = IsSomeAnd v (λ n. InWord low (n % 2 ^ 32) × InWord high (n / 2 ^ 32))

-- words of 32 bits, not none, if they are known
abbrev pub IsWord : Option Word → Type 0
IsWord None = Unit {0}
IsWord (Some w) = (w.lo ≤ w.hi) × (w.hi < 2 ^ 32)

-- a kind that may be known of a register: no range is empty, and no pointer is further than 2 ^ 33 from its region
abbrev pub IsKind : Kind → Type 0
IsKind Unset = Unit {0}
IsKind Dead = Unit {0}
IsKind (Num a) = IsNumber a
IsKind (Ptr region lo hi) = (negsuc (2 ^ 33 - 1) ≤ℤ lo) × (lo ≤ℤ hi) × (hi ≤ℤ pos (2 ^ 33))
IsKind (Halves low high) = IsWord low × IsWord high
