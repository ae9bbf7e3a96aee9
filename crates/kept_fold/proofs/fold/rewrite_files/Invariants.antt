use Rattle.std.specs.List.{AllZip}
use Rattle.kept_fold.specs.Folds.{IsRewrittenBy}
use Rattle.kept_fold.proofs.fold.rewrite_files.Given as goal

-- those so far are rewritten
abbrev pub invariant-loop-file : goal.invariant-loop-file
invariant-loop-file l = AllZip (IsRewrittenBy l.merges l.id) l.yielded l.folded.items
