use Rattle.std.proofs.Common.{◌≡◌, drop}
use Rattle.kept_file.specs.Files.{records_at}
use Rattle.kept_restore.proofs.beginning.records_of.Given as goal

-- the file is none of those before
abbrev pub invariant-loop-file : goal.invariant-loop-file
invariant-loop-file l = records_at l.files l.index ≡ records_at (drop l.file-index l.files) l.index
