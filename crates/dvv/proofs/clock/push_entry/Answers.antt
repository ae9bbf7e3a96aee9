use Rattle.std.proofs.Common.{◌<◌, arith}
use Rattle.std.proofs.lemmas.List.Elements.{recursion_from_All}
use Rattle.dvv.proofs.Clocks.{IsClock-push, adds_vnode}
use Rattle.dvv.proofs.clock.push_entry.Goals as goal

pub returns-clause-clock : goal.returns-clause-clock
returns-clause-clock c = rw c.in_ok-push.ensures.ok (IsClock-push _ _ c.requires.clock c.requires.above c.requires.first (omega arith) (omega arith))

pub returns-clause-adds : goal.returns-clause-adds
returns-clause-adds c = rw c.in_ok-push.ensures.ok (adds_vnode _ _ c.requires.clock.rising (recursion_from_All (λ e. e.vnode < c.args.last.vnode) _ c.requires.above))
