use Rattle.std.proofs.Common.{◌≡◌, ◌≤◌, take}
use Rattle.std.specs.Str.Parse.{digits_value}
use Rattle.http_request.specs.Limits.{longest_body}
use Rattle.http_parse.proofs.number.small_number.Given as goal

-- what was read so far
abbrev pub invariant-loop-digit : goal.invariant-loop-digit
invariant-loop-digit l = (l.n ≡ digits_value 10 (take l.digit-index l.digits)) × (l.n ≤ longest_body)
