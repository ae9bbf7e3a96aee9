-- Numbers in decimal.
use Rattle.std.specs.Prelude.{ℕ, ◌-◌, ◌&&◌, min, if◌then◌else◌, nat_le, nat_lt, List, Option, Some, None}
use Rattle.std.specs.Str.Parse.{digits_value}
use Rattle.http_request.specs.Limits.{longest_body, most_copies}
use Rattle.http_request.specs.Target.{is_plain_number}

-- the number that a text without zeros in front spells, if it is within the limit of a body
abbrev pub plain_number : List ℕ → Option ℕ
plain_number text = if is_plain_number text && nat_le (digits_value 10 text) longest_body then Some (digits_value 10 text) else None

-- a number of copies that a store may have: all, where there are n and the number is above
abbrev pub counted : ℕ → Option ℕ → Option ℕ
counted n None = None
counted n (Some m) = if nat_le 1 m && nat_le m most_copies then Some (min m n) else None

-- an index among so many as a store may have: the last of n, where it is past that
abbrev pub placed : ℕ → Option ℕ → Option ℕ
placed n None = None
placed n (Some m) = if nat_lt m most_copies then Some (min m (n - 1)) else None
