use Rattle.std.proofs.Common.{take}
use Rattle.key_state.specs.declared.content.Key.{Key}
use Rattle.journal.specs.Replay.{IsMergeOf}
use Rattle.quorum.specs.Gets.{states_of, PassesClock}
use Rattle.quorum.proofs.getting.merge_all.Given as goal

-- the merge of the states so far, none of which passed the limit
abbrev pub invariant-loop-answer : goal.invariant-loop-answer
invariant-loop-answer l = (key : Key) → IsMergeOf key (states_of (take l.answer-index l.found)) l.merged × (¬ PassesClock key (states_of (take l.answer-index l.found)))
