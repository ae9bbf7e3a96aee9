use Rattle.std.proofs.Common.{◌≡◌, ◌++◌, List, length}
use Rattle.std.specs.List.{flat_map}
use Rattle.kept_folder.specs.declared.settings.Line.{Line}
use Rattle.kept_folder.specs.Settings.{Says, text_of}
use Rattle.kept_folder.proofs.settings.written_in.Given as goal

-- the lines before were added
abbrev pub invariant-loop-left : goal.invariant-loop-left
invariant-loop-left l = (lines : List Line) × (l.bytes ≡ flat_map text_of lines ++ l.left) × Says lines l.written.every l.written.least l.written.copies l.written.sync

abbrev pub decreases-loop-left : goal.decreases-loop-left
decreases-loop-left l = length l.left
