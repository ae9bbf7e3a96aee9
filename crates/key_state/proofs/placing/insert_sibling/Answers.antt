use Rattle.std.proofs.Common.{List, subst}
use Rattle.key_state.specs.declared.content.Sibling.{Sibling}
use Rattle.key_state.specs.Placing.{IsSiblingGap}
use Rattle.key_state.proofs.placing.insert_sibling.Goals as goal
use Rattle.key_state.proofs.Siblings.{inserts}

pub returns : goal.returns
returns c = rw c.in-Ok.ensures.ok (inserts c.args.siblings.now.items c.place_of-at.result c.args.sibling c.requires.order (subst (λ (xs : List Sibling). IsSiblingGap xs c.place_of-at.result c.args.sibling.dot) c.deref.ensures c.place_of-at.ensures))
