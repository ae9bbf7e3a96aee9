use Rattle.kept_file.proofs.Standing.{AreMade}
use Rattle.kept_file.proofs.placing.placed.Given as goal

-- those of the vnodes before were made
abbrev pub invariant-loop-vnode : goal.invariant-loop-vnode
invariant-loop-vnode l = AreMade l.placement l.files l.placed.items l.vnode
