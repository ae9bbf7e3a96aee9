use Rattle.std.proofs.Common.{◌≡◌, length}
use Rattle.http_request.specs.Fields as spec
use Rattle.http_parse.proofs.fields.without_zeros.Given as goal

abbrev pub invariant-loop-rest : goal.invariant-loop-rest
invariant-loop-rest l = spec.without_zeros l.rest ≡ spec.without_zeros l.text

abbrev pub decreases-loop-rest : goal.decreases-loop-rest
decreases-loop-rest l = length l.rest
