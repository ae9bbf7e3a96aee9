-- The place of a key on the ring (this store's profile; Riak KV documentation, consistent hashing by SHA-1).
use Rattle.std.specs.Prelude.{ℕ, ◌+◌, ◌%◌, ◌<◌, ◌≢◌, ◌==◌, not, List, [], ◌∷◌, ◌++◌, length, take, map, filter, min, Option, Some, None, unwrap_or}
use Rattle.std.specs.Int.{w32, w64, to_be_bytes, from_be_bytes}
use Rattle.std.specs.List.{AllByRecursion, range_with_len}
use Rattle.sha1.specs.Sha1.{sha1}

-- what is hashed: the bucket's length in four bytes, the bucket and the key
abbrev pub hashed : List ℕ → List ℕ → List ℕ
hashed bucket key = to_be_bytes w32 (length bucket) ++ bucket ++ key

-- the first eight bytes of the digest as a number, modulo the number of vnodes
abbrev pub place_of : List ℕ → List ℕ → ℕ → ℕ
place_of bucket key vnodes = from_be_bytes w64 (take 8 (sha1 (hashed bucket key))) % vnodes

-- the place of a key on a ring of three vnodes
abbrev pub ring_place : List ℕ → List ℕ → ℕ
ring_place bucket key = place_of bucket key 3

-- how many vnodes there are, how many copies of each key are wanted, and where every key's place is set to one, that
pub record PlacementView : Type 0 where
  pub vnodes : ℕ
  pub copies : ℕ
  pub first : Option ℕ

-- where every key's place is set to one, there is a vnode
abbrev pub IsPlaced : Option ℕ → ℕ → Type 0
IsPlaced None vnodes = Unit {0}
IsPlaced (Some first) vnodes = first < vnodes

-- the place of a key: the one of every key, or by its digest
abbrev pub place_in : PlacementView → List ℕ → List ℕ → ℕ
place_in placement bucket key = unwrap_or placement.first (place_of bucket key placement.vnodes)

-- how many vnodes a preference list has: as many as copies are wanted, or all where there are fewer
abbrev pub copies_in : PlacementView → ℕ
copies_in placement = min placement.copies placement.vnodes

-- the vnode at an index of the preference list that begins at a place: past the last it goes on from 0
abbrev pub vnode_at : ℕ → ℕ → ℕ → ℕ
vnode_at place index vnodes = (place + index) % vnodes

-- the preference list that begins at a place
abbrev pub preferred : PlacementView → ℕ → List ℕ
preferred placement place = map (λ index. vnode_at place index placement.vnodes) (range_with_len 0 (copies_in placement))

-- the preference list without the vnode at an index
abbrev pub others : PlacementView → ℕ → ℕ → List ℕ
others placement place at = map (λ index. vnode_at place index placement.vnodes) (filter (λ index. not (index == at)) (range_with_len 0 (copies_in placement)))

-- no vnode is named twice
abbrev pub AreDifferent : List ℕ → Type 0
AreDifferent [] = Unit {0}
AreDifferent (i ∷ vnodes) = AllByRecursion (λ j. i ≢ j) vnodes × AreDifferent vnodes
