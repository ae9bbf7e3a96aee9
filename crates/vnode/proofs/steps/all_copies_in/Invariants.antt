use Rattle.std.proofs.Common.{◌≡◌, take}
use Rattle.std.specs.List.{All}
use Rattle.vnode.specs.declared.steps.Copied.{Copied}
use Rattle.vnode.specs.States.{state_at, keys_of}
use Rattle.vnode.proofs.steps.all_copies_in.Given as goal

abbrev pub invariant-loop-key : goal.invariant-loop-key
invariant-loop-key l = (keys_of l.copies.items ≡ take l.key-index l.key-items) × All (λ (c : Copied). c.state ≡ state_at l.states c.key) l.copies.items
