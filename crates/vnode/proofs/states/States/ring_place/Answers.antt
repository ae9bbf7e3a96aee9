use Rattle.std.proofs.lemmas.Option.{IfSome_then}
use Rattle.vnode.proofs.Mapped.{lies_there}
use Rattle.vnode.proofs.states.States.ring_place.Goals as goal

pub returns-in-Ok : goal.returns-in-Ok
returns-in-Ok c =
    let k = c.args.key.now in
    let lies = c.in-Ok.ensures.found in
    IfSome_then c.ring_place.result c.ring_place.ensures (λ told is. is k lies.state (lies_there c.args.self.now k c.in-Ok.found c.index.result.now lies c.index.ensures))
