use Rattle.std.proofs.Common.{◌≡◌, take}
use Rattle.kept_folder.specs.Reads.{vnodes_of}
use Rattle.kept_folder.proofs.opening.count_vnodes.Given as goal

-- those of the files so far
abbrev pub invariant-loop-file : goal.invariant-loop-file
invariant-loop-file l = l.count ≡ vnodes_of (take l.file-index l.files)
