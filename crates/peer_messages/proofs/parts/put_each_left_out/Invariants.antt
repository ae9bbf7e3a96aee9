use Rattle.std.proofs.Common.{◌≡◌, ◌++◌, take}
use Rattle.std.specs.List.{flat_map}
use Rattle.peer_messages.specs.Messages.{left_out_dot}
use Rattle.peer_messages.proofs.parts.put_each_left_out.Given as goal

abbrev pub invariant-loop-one : goal.invariant-loop-one
invariant-loop-one l = l.out.items ≡ l.fn.out.items ++ flat_map left_out_dot (take l.one-index l.dots)
