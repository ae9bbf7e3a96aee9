-- What a file holds, and behind it its seal: the SHA-1 of its bytes as a line of hexadecimal digits (this store's profile).
use Rattle.std.specs.Prelude.{ℕ, List, [], ◌∷◌, ◌++◌}
use Rattle.hex.specs.Hex.{encode_lower}
use Rattle.sha1.specs.Sha1.{sha1}

abbrev pub sealed : List ℕ → List ℕ
sealed held = held ++ encode_lower (sha1 held) ++ 10 ∷ []
