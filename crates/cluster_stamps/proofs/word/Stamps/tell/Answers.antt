use Rattle.std.proofs.Common.{ap, ◌∙◌}
use Rattle.cluster_stamps.specs.Rule.{settled}
use Rattle.cluster_stamps.proofs.word.Stamps.tell.Goals as goal

pub returns-then-is_ok-clause-told : goal.returns-then-is_ok-clause-told
returns-then-is_ok-clause-told g c =
    let a = c.append.ensures.told in
    let s = c.settle.ensures.told in
    ((λ h own. (s.0 ∙ ap settled (a.0 h own).0, (a.0 h own).1)), s.1 ∙ a.1)
