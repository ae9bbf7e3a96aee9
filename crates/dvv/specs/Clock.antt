-- Dotted version vectors (Preguiça, Baquero, Almeida, Fonte, Gonçalves, 2010): dots, version vectors and the events that they stand for.
use Rattle.std.specs.Prelude.{◌≡◌, ℕ, ◌+◌, ◌^◌, ◌<◌, ◌≤◌, ◌==◌, ◌⊎◌, ◌↔◌, nat_le, ◌&&◌, Bool, if◌then◌else◌, List, [], ◌∷◌, length, count_by}
use Rattle.std.specs.List.{AllByRecursion}
use Rattle.std.specs.Prelude.{take, slice_index_or}
use Rattle.dvv.specs.declared.Dot.{Dot}

-- how many events of a vnode a clock counts: 0 where it has no entry for it (version vector, Preguiça et al. 2010)
abbrev pub counter : List Dot → ℕ → ℕ
counter [] vnode = 0
counter (entry ∷ entries) vnode = if entry.vnode == vnode then entry.n else counter entries vnode

-- the set that a clock stands for, `down`: each event (v, n) with n from 1 to v's counter (Preguiça et al. 2010)
abbrev pub Covers : List Dot → Dot → Type 0
Covers clock dot = (1 ≤ dot.n) × (dot.n ≤ counter clock dot.vnode)

-- the same, as a test
abbrev pub covers : List Dot → Dot → Bool
covers clock dot = nat_le 1 dot.n && nat_le dot.n (counter clock dot.vnode)

-- one set lies within another
abbrev pub Within : List Dot → List Dot → Type 0
Within small large = (dot : Dot) → Covers small dot → Covers large dot

-- a clock stands for the union of two others
abbrev pub IsUnion : List Dot → List Dot → List Dot → Type 0
IsUnion a b union = (dot : Dot) → Covers union dot ↔ (Covers a dot ⊎ Covers b dot)

-- a clock stands for one event more
abbrev pub AddsEvent : List Dot → List Dot → Dot → Type 0
AddsEvent old new event = (dot : Dot) → Covers new dot ↔ (Covers old dot ⊎ (dot ≡ event))

-- a clock stands for a further vnode's events up to one, too
abbrev pub AddsVnode : List Dot → List Dot → Dot → Type 0
AddsVnode old new last = (dot : Dot) → Covers new dot ↔ (Covers old dot ⊎ ((dot.vnode ≡ last.vnode) × (1 ≤ dot.n) × (dot.n ≤ last.n)))

-- the greatest event of its vnode
abbrev pub IsGreatest : List Dot → Dot → Type 0
IsGreatest clock last = Covers clock last × ((dot : Dot) → dot.vnode ≡ last.vnode → Covers clock dot → dot.n ≤ last.n)

-- the greatest counter of an entry, and the most entries (this store's profile)
abbrev pub greatest_counter : ℕ
greatest_counter = 2 ^ 62

abbrev pub most_entries : ℕ
most_entries = 1024

-- entries whose vnodes are above a bound and strictly rise, with counters from 1 to 2^62 (this store's profile)
abbrev pub AreRising : ℕ → List Dot → Type 0
AreRising bound [] = Unit {0}
AreRising bound (entry ∷ entries) = (bound ≤ entry.vnode) × (1 ≤ entry.n) × (entry.n ≤ greatest_counter) × AreRising (entry.vnode + 1) entries

-- the entries of a clock: one for each vnode, rising, at most 1,024 (this store's profile)
pub record IsClock (entries : List Dot) : Type 0 where
  pub rising : AreRising 0 entries
  pub few : length entries ≤ most_entries

-- how many vnodes two clocks count together
abbrev pub vnodes_together : List Dot → List Dot → ℕ
vnodes_together a b = length a + count_by (λ entry. counter a entry.vnode == 0) b

-- the entry of a vnode is at this place
pub record IsPlaceOf (entries : List Dot) (place vnode : ℕ) : Type 0 where
  pub inside : place < length entries
  pub lower : AllByRecursion (λ entry. entry.vnode < vnode) (take place entries)
  pub here : (slice_index_or entries place (record { vnode = 0; n = 0 })).vnode ≡ vnode

-- a vnode has no entry, and one would go to this place
pub record IsGapFor (entries : List Dot) (place vnode : ℕ) : Type 0 where
  pub within : place ≤ length entries
  pub lower : AllByRecursion (λ entry. entry.vnode < vnode) (take place entries)
  pub higher : place < length entries → vnode < (slice_index_or entries place (record { vnode = 0; n = 0 })).vnode

-- the entries but for a first one of this vnode
abbrev pub after_vnode : ℕ → List Dot → List Dot
after_vnode vnode [] = []
after_vnode vnode (entry ∷ entries) = if entry.vnode == vnode then entries else entry ∷ entries

-- the lowest vnode of two clocks' entries, how many of its events each counts, and the entries after it
pub record IsNextVnode (own other : List Dot) (vnode own_count other_count : ℕ) (own_rest other_rest : List Dot) : Type 0 where
  pub own_from : AreRising vnode own
  pub other_from : AreRising vnode other
  pub own_counts : own_count ≡ counter own vnode
  pub other_counts : other_count ≡ counter other vnode
  pub own_after : own_rest ≡ after_vnode vnode own
  pub other_after : other_rest ≡ after_vnode vnode other
  pub some : (1 ≤ own_count) ⊎ (1 ≤ other_count)

-- The next event of a vnode is within the limits (this store's profile).
pub record HasRoom (clock : List Dot) (next : Dot) : Type 0 where
  pub counter : next.n ≤ greatest_counter
  pub entries : next.n ≡ 1 → length clock < most_entries
