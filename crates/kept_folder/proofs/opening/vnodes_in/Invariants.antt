use Rattle.std.proofs.Common.{◌≡◌, ◌+◌, length}
use Rattle.kept_folder.proofs.Reading.{AreRead, AreThereTo}
use Rattle.kept_folder.proofs.opening.vnodes_in.Given as goal

-- the first vnode was read, and as many behind it, and there is a file of each of these that has one
abbrev pub invariant-loop-answer : goal.invariant-loop-answer
invariant-loop-answer g l =
    (l.index ≡ length l.yielded) × AreRead (g.F.Folder.finds l.folder) l.files.items (length l.yielded + 1) × AreThereTo (g.F.Folder.finds l.folder) l.filed (length l.yielded + 1)
