use Rattle.std.proofs.Common.{◌≡◌, length}
use Rattle.http_request.specs.Fields as spec
use Rattle.http_parse.proofs.fields.any_weighed.Given as goal

abbrev pub invariant-loop-at : goal.invariant-loop-at
invariant-loop-at l = spec.has_weighed l.element l.rest ≡ spec.has_weighed l.element l.value

abbrev pub decreases-loop-at : goal.decreases-loop-at
decreases-loop-at l = length l.rest
