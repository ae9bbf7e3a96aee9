use Rattle.std.proofs.Common.{◌≤◌}
use Rattle.kept_folder.proofs.Logging.{AreEndedTo}
use Rattle.kept_folder.proofs.logs.add_ended.Given as goal

-- the logs so far were read
abbrev pub invariant-loop-number : goal.invariant-loop-number
invariant-loop-number g l = record {
  read : AreEndedTo (g.F.Folder.finds l.folder) l.fn.span.first l.number l.fn.files.items l.files.items;
  within : l.number ≤ l.fn.span.last;
}
