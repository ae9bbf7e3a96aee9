use Rattle.std.proofs.lemmas.Option.{IfSome_then}
use Rattle.vnode_index.proofs.Hashes.{found_seen, none_then, seen_stands}
use Rattle.vnode_index.proofs.index.Index.find.Goals as goal

pub find_place-requires-clause-callable : goal.find_place-requires-clause-callable
find_place-requires-clause-callable g c = λ p i is.
    let found = found_seen _ _ c.as_slice.ensures.value c.self.inside.len c.args.hash _ c.self.view_is c.self.invariant.indexes p i is in
    c.requires i found.0 found.1

pub returns-clause-found : goal.returns-clause-found
returns-clause-found g c =
    IfSome_then c.find_place.result c.find_place.ensures.found (λ i w.
    let found = found_seen _ _ c.as_slice.ensures.value c.self.inside.len c.args.hash _ c.self.view_is c.self.invariant.indexes w.0 i w.1 in
    (found.0, found.1, w.2))

pub returns-clause-absent : goal.returns-clause-absent
returns-clause-absent g c =
    none_then c.find_place.result c.find_place.ensures.absent (λ absent i within is.
    let one = seen_stands _ _ c.as_slice.ensures.value c.self.inside.len c.args.hash _ c.self.view_is c.self.invariant.indexes i within is in
    absent one.0 i one.1 one.2)
