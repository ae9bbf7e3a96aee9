-- Frames between servers (this store's profile). All numbers are big-endian.
use Rattle.std.specs.Prelude.{◌≡◌, ℕ, ◌+◌, ◌-◌, ◌^◌, ◌<◌, ◌≤◌, ◌⊎◌, List, ◌++◌, length, take, drop}
use Rattle.std.specs.Int.{w32, w64, to_be_bytes, from_be_bytes}
use Rattle.peer_hmac.specs.Hmac.{hmac}

-- the most bytes of a body: 16 MiB
abbrev pub longest_body : ℕ
longest_body = 2 ^ 24

-- the tag of a frame: of its number and its body, by the key of its sender on this connection
abbrev pub tag_of : List ℕ → ℕ → List ℕ → List ℕ
tag_of key number body = hmac key (to_be_bytes w64 number ++ body)

-- a frame: the body's length, the frame's number, the body, and the tag
abbrev pub frame : List ℕ → ℕ → List ℕ → List ℕ
frame key number body = to_be_bytes w32 (length body) ++ to_be_bytes w64 number ++ body ++ tag_of key number body

-- what bytes say of a frame, from the left: how long its body is, its number, its body, and its tag
abbrev pub length_in : List ℕ → ℕ
length_in bytes = from_be_bytes w32 (take 4 bytes)

abbrev pub number_in : List ℕ → ℕ
number_in bytes = from_be_bytes w64 (take 8 (drop 4 bytes))

abbrev pub body_in : List ℕ → List ℕ
body_in bytes = take (length_in bytes) (drop 12 bytes)

abbrev pub tag_in : List ℕ → List ℕ
tag_in bytes = take 32 (drop (12 + length_in bytes) bytes)

-- they end before the length, or before all that it says, which is within its limit
abbrev pub IsCut : List ℕ → Type 0
IsCut bytes = (length bytes < 4) ⊎ ((length_in bytes ≤ longest_body) × (length bytes < 44 + length_in bytes))

-- they say a length past its limit
pub record IsTooLong (bytes : List ℕ) : Type 0 where
  pub head : 4 ≤ length bytes
  pub long : longest_body < length_in bytes

-- they say one within its limit, and have all of it
pub record IsWhole (bytes : List ℕ) : Type 0 where
  pub short : length_in bytes ≤ longest_body
  pub whole : 44 + length_in bytes ≤ length bytes

-- a frame of this number begins them, with the tag of this key. A number is below 2^64 - 1, so there is a next one
pub record IsFrame (key : List ℕ) (number : ℕ) (bytes : List ℕ) : Type 0 where
  pub whole : IsWhole bytes
  pub numbered : number_in bytes ≡ number
  pub last : number < 2 ^ 64 - 1
  pub tagged : tag_in bytes ≡ tag_of key number (body_in bytes)
