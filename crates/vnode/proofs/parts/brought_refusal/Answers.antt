use Rattle.std.proofs.Common.{subst, sym}
use Rattle.vnode.specs.declared.fault.PartFault.TheVariants.{Refused}
use Rattle.vnode.specs.Parts.{RefusesBroughtAt}
use Rattle.vnode.proofs.parts.brought_refusal.Goals as goal

pub returns-in-None : goal.returns-in-None
returns-in-None c = subst (λ part. RefusesBroughtAt c.args.journal.now.log part c.args.came.now c.args.own.now (Refused c.merge_refusal.result)) (sym c.in-None.is) (c.merge_refusal.ensures c.args.own.now c.args.came.now.clock c.can_merge.ensures)
