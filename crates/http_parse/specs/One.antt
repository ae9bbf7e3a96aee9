-- What the first request of some bytes asks for is one.
use Rattle.std.specs.Prelude.{◌≡◌, ℕ, Bool, List}
use Rattle.http_request.specs.Ask.{Asks}
use Rattle.http_request.specs.declared.ask.Ask.{Ask}

-- whatever the first request of the bytes asks for, it asks for nothing else, and what is read next is one too
abbrev pub AsksOne : ℕ → List ℕ → Type 0
AsksOne copies bytes =
    (ask other : Ask) (ends stops : Bool) (next after : List ℕ) → Asks copies bytes ask ends next → Asks copies bytes other stops after
    → (ask ≡ other) × (ends ≡ stops) × (next ≡ after)
