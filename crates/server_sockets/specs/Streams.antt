-- What reads and writes of a stream come to: which bytes they moved, and no others.
use Rattle.std.specs.Prelude.{◌≡◌, ◌⊎◌, ℕ, List, [], take, Option, Result, Ok, Err}
use Rattle.std.specs.Io.KnownBytes.{Appends, Consumes, IsAtEnd, Keeps}
use Rattle.http_connections.specs.declared.socket_ring.Heard.{Heard}
use Rattle.http_connections.specs.declared.socket_ring.Heard.TheVariants as heard
use Rattle.http_connections.specs.declared.socket_ring.Told.{Told}
use Rattle.http_connections.specs.declared.socket_ring.Told.TheVariants as told

-- a read that gave so much is told so
abbrev pub IsHeardAs : {E : Type 0} → Result ℕ E → Heard → Type 0
IsHeardAs (Ok given) (heard.Bytes n) = n ≡ given
IsHeardAs (Ok given) heard.End = given ≡ 0
IsHeardAs (Ok given) heard.NotNow = ⊥
IsHeardAs (Err error) (heard.Bytes n) = ⊥
IsHeardAs (Err error) heard.End = ⊥
IsHeardAs (Err error) heard.NotNow = Unit {0}

-- a write that took so much is told so
abbrev pub IsToldAs : {E : Type 0} → Result ℕ E → Told → Type 0
IsToldAs (Ok taken) (told.Bytes n) = n ≡ taken
IsToldAs (Ok taken) told.NotNow = ⊥
IsToldAs (Err error) (told.Bytes n) = ⊥
IsToldAs (Err error) told.NotNow = Unit {0}

-- so many bytes went out by a write
abbrev pub gone : Told → ℕ
gone (told.Bytes n) = n
gone told.NotNow = 0

-- of a stream: which bytes are known of it, and what it is like once it is to be reported again
module _ {S : Type 0} (known : S → Option (List ℕ)) (keeps : S → S → Type 0) where
  -- its bytes stay: it was left alone, or a call of it moved none; and it may be reported again since
  abbrev pub MovesNone : S → S → Type 0
  MovesNone old new = (new ≡ old) ⊎ ((mid : S) × Keeps (known old) (known mid) × ((new ≡ mid) ⊎ keeps mid new))

  -- a read gave the bytes at the front of a buffer, so many as are told, or it came to the end of them
  abbrev pub GivesBytes : S → S → List ℕ → Heard → Type 0
  GivesBytes old new buf (heard.Bytes n) = Consumes (known old) (known new) (take n buf)
  GivesBytes old new buf heard.End = Consumes (known old) (known new) [] × IsAtEnd (known new)
  GivesBytes old new buf heard.NotNow = MovesNone old new

  -- a write took so many bytes of the front as are told
  abbrev pub TakesBytes : S → S → List ℕ → Told → Type 0
  TakesBytes old new bytes (told.Bytes n) = Appends (known old) (known new) (take n bytes)
  TakesBytes old new bytes told.NotNow = MovesNone old new
