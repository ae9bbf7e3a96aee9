use Rattle.std.proofs.Common.{◌+◌, ◌∷◌, ◌≡◌, List, ℕ, arith, length, subst, sym}
use Rattle.ring.specs.Places.{AreDifferent, copies_in, vnode_at}
use Rattle.ring.proofs.ListLemmas.{front_others, others_count, others_differ}
use Rattle.ring.proofs.placement.Placement.others.Goals as goal

pub returns-clause-list : goal.returns-clause-list
returns-clause-list c = rw (c.vnode_at.ensures.vnode, c.vnode_at-2.ensures.vnode, c.vnode_at-3.ensures.vnode, c.copies-copies.ensures.copies)
    (front_others (λ index. vnode_at c.args.place index c.args.self.now.vnodes) c.args.at (copies_in c.args.self.now) c.other_indexes.result c.requires.index (rw c.copies-copies.ensures.copies at c.copies-copies.ensures.few) c.other_indexes.ensures)

pub returns-clause-count : goal.returns-clause-count
returns-clause-count c = subst (λ (l : List ℕ). length l + 1 ≡ copies_in c.args.self.now) (sym (returns-clause-list c))
    (others_count (λ index. vnode_at c.args.place index c.args.self.now.vnodes) c.args.at (copies_in c.args.self.now) c.requires.index (rw c.copies-copies.ensures.copies at c.copies-copies.ensures.few))

pub returns-clause-different : goal.returns-clause-different
returns-clause-different c = subst (λ (l : List ℕ). AreDifferent (vnode_at c.args.place c.args.at c.args.self.now.vnodes ∷ l)) (sym (returns-clause-list c))
    (others_differ c.args.place c.args.self.now.vnodes c.args.at (copies_in c.args.self.now) c.requires.place (grind arith) c.requires.index (rw c.copies-copies.ensures.copies at c.copies-copies.ensures.few))
