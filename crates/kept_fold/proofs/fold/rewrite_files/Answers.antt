use Rattle.std.proofs.Common.{List, ◌∷◌, [], ◌++◌, sym, subst}
use Rattle.std.specs.List.{AllZip}
use Rattle.std.proofs.lemmas.List.Elements.{AllZip-push}
use Rattle.kept_file.specs.declared.file.KeptFile.{KeptFile}
use Rattle.kept_fold.specs.Folds.{IsRewrittenBy}
use Rattle.kept_fold.proofs.fold.rewrite_files.Goals as goal

pub loop-file-preserved : goal.loop-file-preserved
loop-file-preserved c =
    subst (λ (l : List KeptFile). AllZip (IsRewrittenBy c.args.merges.now c.args.id) (c.loop-file.yielded ++ c.in-Some.file ∷ []) l) (sym c.in_ok-push.ensures.items)
    (AllZip-push (IsRewrittenBy c.args.merges.now c.args.id) c.loop-file.yielded c.loop-file.folded.items c.in-Some.file c.in_ok-rewrite_file.field-0 c.loop-file.invariant c.in_ok-rewrite_file.ensures)
