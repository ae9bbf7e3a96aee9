use Rattle.std.proofs.Common.{List, subst}
use Rattle.kept_file.specs.Placed.{ArePlaced}
use Rattle.kept_file.specs.declared.file.KeptFile.{KeptFile}
use Rattle.ring.specs.Places.{PlacementView}
use Rattle.dvvstore.proofs.network.held_for.Goals as goal

pub returns-clause-placed : goal.returns-clause-placed
returns-clause-placed c =
    subst (λ (p : PlacementView). ArePlaced p c.args.held.files.items c.in_ok-files.files.items) c.placement.ensures
    (subst (λ (l : List KeptFile). ArePlaced c.placement.result l c.in_ok-files.files.items) c.deref.ensures.value c.in_ok-files.ensures.placed)
