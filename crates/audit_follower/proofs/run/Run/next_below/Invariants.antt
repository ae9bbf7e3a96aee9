use Rattle.std.specs.Prelude.{MatchOption}
use Rattle.audit_follower.proofs.Turns.{NoneBefore, IsHeadBefore}
use Rattle.audit_follower.proofs.run.Run.next_below.Given as goal

-- the next one of the vnodes before, if any
abbrev pub invariant-loop-index : goal.invariant-loop-index
invariant-loop-index l = MatchOption l.next (NoneBefore l.self.waiting.items l.below l.index) (λ head. IsHeadBefore l.self.waiting.items l.below l.index head)
