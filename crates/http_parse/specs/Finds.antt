-- What contracts see of an answer about the bytes at hand.
use Rattle.std.specs.Prelude.{◌≡◌, ℕ, ◌+◌, ◌<◌, ◌≤◌, Bool, false, if◌then◌else◌, List, [], ◌++◌, length, drop}
use Rattle.http_request.specs.Ask.{Asks, IsUnfinished, asked_to_go_on}
use Rattle.http_request.specs.Fits.{FitsAsk}
use Rattle.http_request.specs.Head.{IsHeadUnfinished}
use Rattle.http_request.specs.Limits.{longest_head, longest_coded}
use Rattle.http_parse.specs.declared.request.Asking.{Asking}
use Rattle.http_parse.specs.declared.request.Asking.TheVariants.{Head, Body, GoOn, First}

-- what is read after a request of len bytes, of the bytes at hand and those to come
abbrev pub next_of : Bool → ℕ → List ℕ → List ℕ → List ℕ
next_of ends len bytes more = if ends then [] else drop len bytes ++ more

-- whatever follows the bytes, their first request is this one; or they are no whole request, and may be one's front: they
-- end inside its head, or with a whole head they are one's front as long as they are fewer than it needs. Where a client waits to be told to go
-- on, the same request is read next with a shorter head
abbrev pub Finds : ℕ → List ℕ → Asking → Type 0
Finds copies bytes Head = IsHeadUnfinished bytes
Finds copies bytes (Body needs) =
    IsUnfinished bytes × (length bytes < needs) × (needs ≤ longest_head + longest_coded)
    × ((more : List ℕ) → length bytes + length more < needs → IsUnfinished (bytes ++ more))
Finds copies bytes (GoOn head len) =
    (0 < length head.items) × (length head.items < len) × (len ≤ length bytes)
    × ((more : List ℕ) → Asks copies (bytes ++ more) asked_to_go_on false ((head.items ++ drop len bytes) ++ more))
Finds copies bytes (First ask ends len) =
    (len ≤ length bytes) × (ends ≡ false → 0 < len) × FitsAsk copies ask
    × ((more : List ℕ) → Asks copies (bytes ++ more) ask ends (next_of ends len bytes more))
