-- What contracts see of a target that was read.
use Rattle.std.specs.Prelude.{◌≡◌, ℕ, List, [], unwrap_or}
use Rattle.http_uri.specs.ByteClasses.{split_once_front, split_once_back, question_mark}
use Rattle.http_request.specs.Head.{IsOriginTarget}
use Rattle.http_request.specs.Target.{path_at, query_at}

-- the target is a path with its query, and these are both
abbrev pub IsTargetOf : List ℕ → List ℕ → List ℕ → Type 0
IsTargetOf target path query = IsOriginTarget target × (path ≡ path_at target) × (query ≡ query_at target)

-- a text is cut at its first question mark, if it has one
abbrev pub IsTarget : List ℕ → List ℕ → List ℕ → Type 0
IsTarget kept path query =
    (path ≡ split_once_front question_mark kept) × (query ≡ unwrap_or (split_once_back question_mark kept) [])
