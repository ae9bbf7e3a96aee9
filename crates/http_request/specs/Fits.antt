-- What holds of the calls that requests ask for: their words are within the limits.
use Rattle.std.specs.Prelude.{ℕ, ◌≤◌, ◌<◌}
use Rattle.key_state.specs.Limits.{IsKey}
use Rattle.http_request.specs.declared.ask.Ask.{Ask}
use Rattle.http_request.specs.declared.ask.What.{What}
use Rattle.http_request.specs.declared.ask.What.TheVariants as what
use Rattle.http_request.specs.declared.ask.Call.{Call}
use Rattle.http_request.specs.declared.ask.Call.TheVariants.{Get, Put, Install, Remove, ReadProps, SetProps}

-- a key is one, of its n copies so many are asked for, and the coordinator is one of them
abbrev pub Fits : ℕ → Call → Type 0
Fits n (Get key r at) = IsKey key × (1 ≤ r) × (r ≤ n) × (at < n)
Fits n (Put key seen content w at) = IsKey key × (1 ≤ w) × (w ≤ n) × (at < n)
Fits n (Install name image) = Unit {0}
Fits n (Remove name) = Unit {0}
Fits n (ReadProps bucket) = Unit {0}
Fits n (SetProps bucket precommit resolver) = Unit {0}

-- the words of what is asked are within their limits
abbrev pub FitsWhat : ℕ → What → Type 0
FitsWhat n what.Ping = Unit {0}
FitsWhat n what.Resources = Unit {0}
FitsWhat n (what.Options route) = Unit {0}
FitsWhat n what.Continue = Unit {0}
FitsWhat n (what.Call call form) = Fits n call
FitsWhat n (what.Refused refusal) = Unit {0}

abbrev pub FitsAsk : ℕ → Ask → Type 0
FitsAsk n ask = FitsWhat n ask.what
