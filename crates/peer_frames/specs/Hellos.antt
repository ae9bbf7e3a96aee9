-- How a connection between servers begins (this store's profile). All numbers are big-endian.
use Rattle.std.specs.Prelude.{◌≡◌, ◌≢◌, ℕ, ◌<◌, ◌≤◌, ◌⊎◌, List, [], ◌∷◌, ◌++◌, length, take, drop, slice_index_or}
use Rattle.std.specs.Int.{w32, to_be_bytes}
use Rattle.peer_hmac.specs.Hmac.{hmac}
use Rattle.peer_frames.specs.declared.hello.Hello.{Hello}
use Rattle.peer_frames.specs.declared.hello.HelloFault.{HelloFault}
use Rattle.peer_frames.specs.declared.hello.HelloFault.TheVariants.{Mark, Version, Tag, Other}
use Rattle.peer_frames.specs.declared.hello.Greeting.{Greeting}
use Rattle.peer_frames.specs.declared.hello.Greeting.TheVariants as greeting
use Rattle.peer_frames.specs.declared.hello.Side.{Side}
use Rattle.peer_frames.specs.declared.hello.Side.TheVariants.{Dialer, Listener}

-- `DVPR`
abbrev pub mark : List ℕ
mark = 68 ∷ 86 ∷ 80 ∷ 82 ∷ []

-- who asked for the connection, or who took it
abbrev pub side_byte : Side → ℕ
side_byte Dialer = 0
side_byte Listener = 1

-- a hello: the mark, the version 1, the side, the server, its start's number, the digest of its list, and random bytes
abbrev pub hello_bytes : Hello → List ℕ
hello_bytes h = mark ++ (1 ∷ side_byte h.side ∷ h.server ∷ []) ++ to_be_bytes w32 h.number ++ h.list ++ h.random

-- the same with its tag by the secret
abbrev pub tagged_hello : List ℕ → Hello → List ℕ
tagged_hello secret h = hello_bytes h ++ hmac secret (hello_bytes h)

-- the key of the frames that one side sends on the connection that these hellos began
abbrev pub key_of : List ℕ → Side → Hello → Hello → List ℕ
key_of secret side dialer listener = hmac secret ((side_byte side ∷ []) ++ (hello_bytes dialer ++ hello_bytes listener))

-- bytes begin with the mark and the version
pub record IsOfVersion (bytes : List ℕ) : Type 0 where
  pub head : 5 ≤ length bytes
  pub marked : take 4 bytes ≡ mark
  pub version : slice_index_or bytes 4 0 ≡ 1

-- they do, have all of a hello, and the tag is its
pub record IsTagged (secret bytes : List ℕ) : Type 0 where
  pub begun : IsOfVersion bytes
  pub whole : 107 ≤ length bytes
  pub tagged : take 32 (drop 75 bytes) ≡ hmac secret (take 75 bytes)

-- what comes of bytes of this side: more of them are waited for; or a hello begins them; or none does, and why
abbrev pub IsGreeted : List ℕ → Side → List ℕ → Greeting → Type 0
IsGreeted secret side bytes greeting.NotYet = (length bytes < 5) ⊎ (IsOfVersion bytes × (length bytes < 107))
IsGreeted secret side bytes (greeting.Hello h) = (h.side ≡ side) × (107 ≤ length bytes) × (take 107 bytes ≡ tagged_hello secret h)
IsGreeted secret side bytes (greeting.Refused Mark) = (5 ≤ length bytes) × (take 4 bytes ≢ mark)
IsGreeted secret side bytes (greeting.Refused Version) = (5 ≤ length bytes) × (take 4 bytes ≡ mark) × (slice_index_or bytes 4 0 ≢ 1)
IsGreeted secret side bytes (greeting.Refused Tag) = IsOfVersion bytes × (107 ≤ length bytes) × (take 32 (drop 75 bytes) ≢ hmac secret (take 75 bytes))
IsGreeted secret side bytes (greeting.Refused Other) = IsTagged secret bytes × (slice_index_or bytes 5 0 ≢ side_byte side)
