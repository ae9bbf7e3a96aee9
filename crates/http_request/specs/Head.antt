-- The head of the first request of some bytes (RFC 9112, sections 2 to 5), within this store's limits.
use Rattle.std.specs.Prelude.{◌≡◌, ℕ, ◌<◌, ◌≤◌, ◌⊎◌, List, length, slice_index, None}
use Rattle.httparse.specs.Grammar.{RequestHead, print_request, ReadsRequest, HasNoRequest, NeverHasRequest, MayBecomeRequest}
use Rattle.httparse.specs.Spans.{RequestExceeds}
use Rattle.http_uri.specs.Grammar.{IsUriText, without_fragment}
use Rattle.http_request.specs.Limits.{longest_head, most_lines}

-- rest begins with this head, which is within the limits, and after follows it
pub record BeginsHead (rest : List ℕ) (head : RequestHead) (after : List ℕ) : Type 0 where
  pub reads : ReadsRequest rest head after
  pub short : length (print_request head) ≤ longest_head
  pub few : length head.fields ≤ most_lines

-- rest begins with no head within the limits
abbrev pub HasNoHead : List ℕ → Type 0
HasNoHead rest = (head : RequestHead) (after : List ℕ) → ¬ (BeginsHead rest head after)

-- a bad head: nothing that follows can make rest begin with a head, or it is too long, or it has too many lines
abbrev pub IsBadHead : List ℕ → Type 0
IsBadHead rest =
    HasNoHead rest
    × (NeverHasRequest rest ⊎ ((longest_head < length rest) ⊎ RequestExceeds most_lines rest))

-- the input ends before a whole head: a head may still come, or a target is being read
pub record IsHeadUnfinished (rest : List ℕ) : Type 0 where
  pub none : HasNoRequest rest
  pub may : MayBecomeRequest rest
  pub short : length rest ≤ longest_head

-- the target is a path with its query (RFC 9112, 3.2.1)
abbrev pub IsOriginTarget : List ℕ → Type 0
IsOriginTarget target =
    (slice_index target 0 ≡ 47) × IsUriText target None None (without_fragment target)
