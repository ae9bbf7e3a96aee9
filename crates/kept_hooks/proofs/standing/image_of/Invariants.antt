use Rattle.std.proofs.Common.{◌≡◌, None, take}
use Rattle.std.specs.List.{fold}
use Rattle.kept_hooks.specs.Lists.{image_after}
use Rattle.kept_hooks.proofs.standing.image_of.Given as goal

abbrev pub invariant-loop-request : goal.invariant-loop-request
invariant-loop-request l = l.image ≡ fold (image_after l.name) None (take l.request-index l.requests)
