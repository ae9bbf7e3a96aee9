use Rattle.std.proofs.Common.{take}
use Rattle.dvvstore.proofs.Sides.{HasCounted}
use Rattle.dvvstore.proofs.saver.all_keys.Given as goal

-- the keys of the sides so far
abbrev pub invariant-loop-side : goal.invariant-loop-side
invariant-loop-side g l = HasCounted (λ s. s.came) (take l.side-index l.sides) l.keys
