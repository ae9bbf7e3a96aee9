-- HMAC (RFC 2104; FIPS 198-1) with SHA-256 (FIPS 180-4), whose blocks have 64 bytes.
use Rattle.std.specs.Prelude.{ℕ, ◌-◌, nat_le, List, ◌++◌, length, map, replicate, bit_xor, if◌then◌else◌}
use Rattle.sha2.specs.Sha256.{sha256}

-- the key as it is used: itself where a block holds it, else its digest (FIPS 198-1, steps 1 and 2)
abbrev pub short_key : List ℕ → List ℕ
short_key key = if nat_le (length key) 64 then key else sha256 key

-- such a key, behind it zeros up to a block, each byte xor a number (steps 3, 4 and 7)
abbrev pub padded : ℕ → List ℕ → List ℕ
padded pad key = map (λ b. bit_xor b pad) (key ++ replicate (64 - length key) 0)

-- the tag of a message by a key that a block holds: ipad is 0x36, opad is 0x5c
abbrev pub hmac_short : List ℕ → List ℕ → List ℕ
hmac_short key message = sha256 (padded 0x5c key ++ sha256 (padded 0x36 key ++ message))

-- the tag of a message by a key
abbrev pub hmac : List ℕ → List ℕ → List ℕ
hmac key message = hmac_short (short_key key) message
