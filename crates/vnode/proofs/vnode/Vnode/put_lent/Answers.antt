use Rattle.std.proofs.Common.{ap, subst, sym, Err}
use Rattle.vnode.specs.Refusals.{RefusesPut}
use Rattle.vnode.proofs.vnode.Vnode.put_lent.Goals as goal

pub returns-in-Ok-clause-exact : goal.returns-in-Ok-clause-exact
returns-in-Ok-clause-exact c = λ fault other refuses.
    c.put.ensures.exact fault other
    (subst (λ k. RefusesPut c.args.self.now k c.in-Ok.write.value.seen fault) (sym c.in-Ok.ensures.0) (subst (λ seen. RefusesPut c.args.self.now c.args.key.now seen fault) (sym c.in-Ok.ensures.1) refuses))

pub returns-in-Err-clause-exact : goal.returns-in-Err-clause-exact
returns-in-Err-clause-exact c = λ fault other refuses. ap (λ f. Err f) (c.put_refusal.ensures.exact fault refuses)
