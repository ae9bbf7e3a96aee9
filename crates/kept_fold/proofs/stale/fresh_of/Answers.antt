use Rattle.std.proofs.Common.{rules, refl}
use Rattle.std.proofs.lemmas.Fn.{filter_same}
use Rattle.kept_fold.proofs.stale.fresh_of.Goals as goal

pub returns : goal.returns
returns c = (refl, filter_same _ _ _ (λ x b f' k. search rules) _ _ c.retain.ensures.filtered)
