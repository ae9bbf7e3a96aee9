use Rattle.std.proofs.Common.{◌≡◌}
use Rattle.kept_file.proofs.placing.Seen.has.Given as goal

-- they are the same files
abbrev pub invariant-loop-index : goal.invariant-loop-index
invariant-loop-index l = (l.self.files ≡ l.fn.self.files) × (l.files ≡ l.fn.self.files.now)
