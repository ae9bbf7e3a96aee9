use Rattle.std.proofs.Common.{ℕ, ◌∙◌, ap}
use Rattle.std.specs.Prelude.{max}
use Rattle.kept_fold.specs.Stale.{fold_in}
use Rattle.kept_fold.proofs.Lasts.{greatest_more}
use Rattle.kept_fold.proofs.stale.last_fold.Goals as goal

pub loop-entry-preserved : goal.loop-entry-preserved
loop-entry-preserved c =
    greatest_more fold_in c.args.entries.now c.loop-entry.entry-index _ c.loop-entry.last c.max-last.result c.loop-entry-test.true c.loop-entry.invariant (c.max-last.ensures ∙ ap (λ (n : ℕ). max c.loop-entry.last n) c.fold_in.ensures)
