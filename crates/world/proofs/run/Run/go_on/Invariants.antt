use Rattle.std.proofs.Common.{length, take}
use Rattle.world.specs.Knowledge.{Knowledge}
use Rattle.world.specs.Running.{Begins, IsRunSoFar, IsKnownSoFar}
use Rattle.world.specs.Sources.{GoOnBy}
use Rattle.world.proofs.run.Run.go_on.Given as goal

-- the events so far were run
abbrev pub invariant-loop-event : goal.invariant-loop-event
invariant-loop-event o l = record {
  goes : GoOnBy (take l.event-index l.events) l.replies.items l.initial.self.vnodes.items l.self.vnodes.items;
  run : IsRunSoFar (length l.initial.self.vnodes.items) l.events l.event-index l.replies.items l.self.vnodes.items l.self.made;
  known : (begin : Knowledge) → Begins l.initial.self.vnodes.items l.events begin → IsKnownSoFar begin (length l.initial.self.vnodes.items) l.table.listed l.events l.event-index l.replies.items l.self.vnodes.items;
}
