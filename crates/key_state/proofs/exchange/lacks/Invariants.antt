use Rattle.std.proofs.Common.{◌≡◌, false, take}
use Rattle.key_state.specs.Parts.{lacks_content}
use Rattle.key_state.proofs.exchange.lacks.Given as goal

-- none so far lacks its content
abbrev pub invariant-loop-sent : goal.invariant-loop-sent
invariant-loop-sent l = lacks_content l.own (take l.sent-index l.sent-items) ≡ false
