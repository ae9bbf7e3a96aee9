use Rattle.std.proofs.Common.{◌≡◌, take}
use Rattle.key_state.specs.State.{kept}
use Rattle.quorum.proofs.hooking.unseen_of.Given as goal

-- copies of those so far that aren't covered
abbrev pub invariant-loop-sibling : goal.invariant-loop-sibling
invariant-loop-sibling l = l.unseen.items ≡ kept l.seen (take l.sibling-index l.siblings)
