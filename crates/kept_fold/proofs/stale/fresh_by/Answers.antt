use Rattle.std.proofs.Common.{List, ◌∷◌, [], ◌++◌, sym, subst}
use Rattle.std.specs.List.{AllZip}
use Rattle.std.proofs.lemmas.List.Elements.{AllZip-push}
use Rattle.kept_file.specs.declared.file.KeptFile.{KeptFile}
use Rattle.kept_fold.specs.Stale.{IsFreshBy}
use Rattle.kept_fold.proofs.stale.fresh_by.Goals as goal

pub loop-file-preserved : goal.loop-file-preserved
loop-file-preserved c =
    subst (λ (l : List KeptFile). AllZip (IsFreshBy c.args.last.now) (c.loop-file.yielded ++ c.in-Some.file ∷ []) l) (sym c.in_ok-push.ensures.items)
    (AllZip-push (IsFreshBy c.args.last.now) c.loop-file.yielded c.loop-file.fresh.items c.in-Some.file c.fresh_of.result c.loop-file.invariant c.fresh_of.ensures)
