use Rattle.world.specs.Represents.{AreDistinct}
use Rattle.audit_replay.specs.Interleaved.{ids_of}
use Rattle.audit_replay.specs.Rerun.{AreLegal}
use Rattle.test_store.proofs.parts.judging.judge.Given as goal

-- the journals so far are those of vnodes with different identifiers
abbrev pub invariant-loop-vnode : goal.invariant-loop-vnode
invariant-loop-vnode l = record { distinct : AreDistinct (ids_of l.journals.items); legal : AreLegal l.journals.items }
