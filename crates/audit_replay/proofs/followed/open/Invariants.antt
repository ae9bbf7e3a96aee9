use Rattle.std.proofs.Common.{◌≡◌, [], take, replicate}
use Rattle.world.specs.Represents.{empty_logs}
use Rattle.audit_replay.proofs.followed.open.Given as goal

-- so many fresh vnodes, of which nothing is kept
abbrev pub invariant-loop-index : goal.invariant-loop-index
invariant-loop-index l = record { vnodes : l.vnodes.items ≡ take l.index (empty_logs l.ids); answers : l.answers.items ≡ replicate l.index [] }
