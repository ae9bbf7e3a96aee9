-- What a shard has: entries that are found by the hashes of their keys.
use Rattle.std.specs.Prelude.{◌≡◌, ◌++◌, ◌∷◌, ◌&&◌, [], ℕ, Bool, List, Option, Some, None, nat_eq, map, length, slice_get}
use Rattle.std.specs.Cmp.Lexicographic.{pointwise}
use Rattle.std.specs.Hash as fed
use Rattle.std.specs.Hash.DefaultHasher.{write, finish}
use Rattle.std.specs.Map.{lookup}
use Rattle.std.specs.List.{IsDistinct, fold}
use Rattle.key_state.specs.declared.content.Key.{Key}
use Rattle.key_state.specs.State.{State}
use Rattle.vnode_index.specs.Slots.{folded}
use Rattle.vnode.specs.declared.seed.Seed.{Seed}

-- whether two keys are equal, as a look-up by hash compares them
abbrev pub key_eq : Key → Key → Bool
key_eq a b = pointwise nat_eq a.bucket b.bucket && pointwise nat_eq a.key b.key

-- the entries of a shard, in the order in which they came, and their hashes
pub record Shard : Type 0 where
  pub hashes : List ℕ
  pub entries : List (Key × State)

-- the hash of a key, which begins with a seed
abbrev pub hash_of : Seed → Key → ℕ
hash_of seed k = finish (fold write seed.begun (fed.usize (length k.bucket) ++ (k.bucket ++ k.key) ∷ []))

-- the fingerprint by which a shard finds a key
abbrev pub short_of : Seed → Key → ℕ
short_of seed k = folded (hash_of seed k)

-- the keys of a shard's entries
abbrev pub known_keys : List (Key × State) → List Key
known_keys es = map (λ e. e.0) es

-- what a shard has at a key, if there is one
abbrev pub found_in : Option Shard → Key → Option State
found_in None k = None
found_in (Some shard) k = lookup (key_eq k) shard.entries

-- no two entries of a shard have one key
abbrev pub IsUnique : Shard → Type 0
IsUnique shard = IsDistinct key_eq (known_keys shard.entries)

-- the hashes of a shard are those of its keys
abbrev pub IsHashed : Seed → Shard → Type 0
IsHashed seed shard = shard.hashes ≡ map (short_of seed) (known_keys shard.entries)

-- the entry at a place is that of a key
pub record IsEntry (shard : Shard) (i : ℕ) (k : Key) (v : State) : Type 0 where
  pub there : slice_get shard.entries i ≡ Some (k, v)
  pub found : found_in (Some shard) k ≡ Some v

-- no entry with a hash is that of a key
abbrev pub LacksHashed : Shard → ℕ → Key → Type 0
LacksHashed shard hash k = (i : ℕ) (v : State) → slice_get shard.entries i ≡ Some (k, v) → slice_get shard.hashes i ≡ Some hash → ⊥

-- as many hashes and states as keys, none of which comes twice
pub record AreEntries (hashes : List ℕ) (keys : List Key) (states : List State) : Type 0 where
  pub each_hashed : length hashes ≡ length keys
  pub each_stated : length states ≡ length keys
  pub once : IsDistinct key_eq keys
