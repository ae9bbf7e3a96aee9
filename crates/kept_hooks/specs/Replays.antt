-- Requests all of which were done.
use Rattle.std.specs.Prelude.{ℕ, zero, suc, List, [], ◌++◌, ◌∷◌, codes}

-- the answer to a request that was done and has nothing to tell
abbrev pub no_content : List ℕ
no_content =
    codes "HTTP/1.1 204 No Content" ++ 13 ∷ 10 ∷ codes "X-Content-Type-Options: nosniff" ++ 13 ∷ 10 ∷ codes "Server: dvvstore" ++ 13 ∷ 10 ∷ 13 ∷ 10 ∷ []

-- so many of them
abbrev pub no_contents : ℕ → List ℕ
no_contents zero = []
no_contents (suc n) = no_contents n ++ no_content
