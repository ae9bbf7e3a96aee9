use Rattle.std.specs.Prelude.{◌≡◌, ◌+◌, drop}
use Rattle.audit_replay.specs.Kept.{first_was}
use Rattle.audit_replay.proofs.kept.Answers.first_was.Given as goal

-- none of those so far changed the key
abbrev pub invariant-loop-index : goal.invariant-loop-index
invariant-loop-index l = first_was (drop (l.place + 1) l.self) l.key ≡ first_was (drop l.index l.self-inside.here.items) l.key
