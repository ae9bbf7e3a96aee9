-- Bytes in which no whole request waits.
use Rattle.std.specs.Prelude.{◌≡◌, ℕ, ◌==◌, ◌≤◌, ◌<◌, ◌+◌, ◌⊎◌, ◌||◌, nat_lt, nat_le, Bool, false, List, ◌++◌, length}
use Rattle.std.specs.List.{list_any}
use Rattle.http_request.specs.Ask.{IsUnfinished}
use Rattle.http_request.specs.Head.{IsHeadUnfinished}
use Rattle.http_request.specs.Limits.{longest_head}
use Rattle.http_connection.specs.Room.{room}
use Rattle.http_connection.specs.declared.turn.Wanted.{Wanted}
use Rattle.http_connection.specs.declared.turn.Wanted.TheVariants.{Line, Bytes}

-- a front of the bytes ends inside a head, and no line has ended behind it
pub record IsInLine (rest : List ℕ) : Type 0 where
  pub front : List ℕ
  pub line : List ℕ
  pub parts : rest ≡ front ++ line
  pub began : IsHeadUnfinished front
  pub goes_on : list_any (λ b. b == 10) line ≡ false
  pub short : length rest ≤ longest_head

-- no whole request is there: the bytes end inside one, or inside a line of a head that was none so far
abbrev pub IsPending : List ℕ → Type 0
IsPending rest = IsUnfinished rest ⊎ IsInLine rest

-- what is wanted has not come
abbrev pub Lacks : Wanted → List ℕ → Type 0
Lacks Line waits = IsInLine waits
Lacks (Bytes needs) waits =
    (needs ≤ room) × (length waits < needs) × ((more : List ℕ) → length waits + length more < needs → IsUnfinished (waits ++ more))

-- whether what is wanted came with these bytes, the last of so many that wait
abbrev pub has_come : Wanted → List ℕ → ℕ → Bool
has_come Line bytes waiting = nat_lt longest_head waiting || list_any (λ b. b == 10) bytes
has_come (Bytes needs) bytes waiting = nat_le needs waiting
