use Rattle.std.proofs.Common.{ap, subst, sym, Err}
use Rattle.vnode.specs.Refusals.{RefusesMerge}
use Rattle.vnode.proofs.vnode.Vnode.merge_lent.Goals as goal

pub returns-in-Ok-clause-exact : goal.returns-in-Ok-clause-exact
returns-in-Ok-clause-exact c = λ fault other refuses.
    c.merge.ensures.exact fault other
    (subst (λ k. RefusesMerge c.args.self.now k c.in-Ok.merged.value.state fault) (sym c.in-Ok.ensures.0) (subst (λ state. RefusesMerge c.args.self.now c.args.key.now state fault) (sym c.in-Ok.ensures.3) refuses))

pub returns-in-Err-clause-exact : goal.returns-in-Err-clause-exact
returns-in-Err-clause-exact c = λ fault other refuses. ap (λ f. Err f) (c.merge_refusal.ensures.exact fault refuses)
