-- The limits of keys, contents and siblings, as numbers (this store's profile).
use Rattle.std.specs.Prelude.{ℕ, ◌≤◌, length}
use Rattle.key_state.specs.declared.content.Content.{Content}
use Rattle.key_state.specs.declared.content.Content.TheVariants.{Value, Tombstone}
use Rattle.key_state.specs.declared.content.Key.{Key}

-- the most siblings after a put
abbrev pub most_siblings : ℕ
most_siblings = 64

-- the most bytes of a bucket, of a key's name in it, of a media type and of a value
abbrev pub longest_bucket : ℕ
longest_bucket = 64

abbrev pub longest_key : ℕ
longest_key = 255

abbrev pub longest_media : ℕ
longest_media = 127

abbrev pub longest_value : ℕ
longest_value = 65536

-- the limits of a key: a bucket of 1 to 64 bytes and a name of 1 to 255
pub record IsKey (k : Key) : Type 0 where
  pub bucket_some : 1 ≤ length k.bucket
  pub bucket_short : length k.bucket ≤ longest_bucket
  pub key_some : 1 ≤ length k.key
  pub key_short : length k.key ≤ longest_key

-- the limits of a content: a media type of 1 to 127 bytes, and at most 65,536 bytes
abbrev pub IsContent : Content → Type 0
IsContent (Value media bytes) = (1 ≤ length media) × (length media ≤ longest_media) × (length bytes ≤ longest_value)
IsContent Tombstone = Unit {0}
