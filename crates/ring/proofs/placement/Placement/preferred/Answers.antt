use Rattle.std.proofs.Common.{sym, subst}
use Rattle.ring.specs.Places.{AreDifferent}
use Rattle.ring.proofs.ListLemmas.{preferred_differ, front_preferred}
use Rattle.ring.proofs.placement.Placement.preferred.Goals as goal

pub returns-clause-list : goal.returns-clause-list
returns-clause-list c = rw (c.vnode_at.ensures.vnode, c.vnode_at-2.ensures.vnode, c.vnode_at-3.ensures.vnode, c.copies-copies.ensures.copies)
    (front_preferred c.args.self.now c.args.place (rw c.copies-copies.ensures.copies at c.copies-copies.ensures.few))

pub returns-clause-different : goal.returns-clause-different
returns-clause-different c = subst AreDifferent (sym (returns-clause-list c)) (preferred_differ c.args.self.now c.args.place c.requires)
