use Rattle.std.proofs.Common.{◌≡◌, length}
use Rattle.std.specs.Prelude.{◌==◌}
use Rattle.std.specs.List.{list_any, slice_split}
use Rattle.http_request.specs.Fields as spec
use Rattle.http_parse.proofs.fields.has_no_weight.Given as goal

abbrev pub invariant-loop-at : goal.invariant-loop-at
invariant-loop-at l = list_any spec.is_no_weight (slice_split (λ b. b == 59) l.rest) ≡ list_any spec.is_no_weight (slice_split (λ b. b == 59) l.part)

abbrev pub decreases-loop-at : goal.decreases-loop-at
decreases-loop-at l = length l.rest
