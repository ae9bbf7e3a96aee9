use Rattle.std.proofs.Common.{◌≡◌, take}
use Rattle.kept_fold.specs.Folds.{numbered}
use Rattle.kept_fold.proofs.anew.numbered.Given as goal

-- those so far are numbered
abbrev pub invariant-loop-place : goal.invariant-loop-place
invariant-loop-place l = l.contents.items ≡ numbered l.id 1 (take l.place l.siblings)
