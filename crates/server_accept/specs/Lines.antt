-- What lines on standard input say: this store's profile.
use Rattle.std.specs.Prelude.{◌≡◌, ℕ, ◌+◌, ◌-◌, ◌^◌, min, Bool, bytes_eq, if◌then◌else◌, List, codes, Option, Some, None}
use Rattle.server_accept.specs.declared.console.Said.{Said}

-- a count after one more: it stays at the greatest number
abbrev one_more : ℕ → ℕ
one_more count = min (count + 1) (2 ^ 32 - 1)

-- what is said with one more line, of which there is no text where it is too long
abbrev pub said_with : Said → Option (List ℕ) → Said
said_with said None = record said { others = one_more said.others }
said_with said (Some text) =
    if bytes_eq text (codes "stop") then record said { stops = one_more said.stops }
    else (if bytes_eq text (codes "snapshot") then record said { snapshots = one_more said.snapshots }
    else record said { others = one_more said.others })
