use Rattle.std.proofs.Common.{◌≡◌, ◌++◌, take}
use Rattle.std.specs.List.{flat_map}
use Rattle.http_response.specs.Parts as spec
use Rattle.http_response.proofs.parts.push_parts_body.Given as goal

-- the parts so far
abbrev pub invariant-loop-sibling : goal.invariant-loop-sibling
invariant-loop-sibling l = l.out.items ≡ l.initial.out.items ++ flat_map (λ s. spec.part l.boundary s) (take l.sibling-index l.siblings)
