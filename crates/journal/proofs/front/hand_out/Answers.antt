use Rattle.std.proofs.Common.{rules, ◌≤◌, length}
use Rattle.journal.proofs.front.hand_out.Goals as goal
use Rattle.journal.proofs.Blocked.{has_entry}

pub invariant_of-past : goal.invariant_of-past
invariant_of-past c = let here : 1 ≤ length c.args.blocks.items = search (rules) in has_entry c.args.blocks.items c.requires here
