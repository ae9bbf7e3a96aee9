use Rattle.std.proofs.Common.{◌≡◌, true, false, Option, Some, None, IfNone, get_or, subst, of_calls}
use Rattle.std.proofs.lemmas.Option.{IfSome_then}
use Rattle.key_state.specs.State.{State}
use Rattle.vnode.specs.Shards.{IsEntry, LacksHashed, Shard, key_eq}
use Rattle.vnode.proofs.Entries.{absent_entry, found_entry}
use Rattle.vnode.proofs.shard.Shard.search.Goals as goal

none_then : {X P Q : Type 0} (r : Option X) → IfNone r P → (P → Q) → IfNone r Q
none_then None p then = then p
none_then (Some x) p then = tt

pub returns-clause-found : goal.returns-clause-found
returns-clause-found c =
    IfSome_then c.find.result c.find.ensures.found (λ i found.
    let answered = found.2 in
    let equal : true ≡ key_eq (get_or c.self.inside.keys.keys i c.args.key.now) c.args.key.now = search (of_calls, answered) in
    subst (λ (s : Shard). (v : State) × IsEntry s i c.args.key.now v) c.self.view_is
    (found_entry c.self.inside.index.hashes c.self.inside.keys.keys c.self.inside.states.states i c.args.key.now c.self.invariant.0 found.0 equal))

pub returns-clause-absent : goal.returns-clause-absent
returns-clause-absent c =
    none_then c.find.result c.find.ensures.absent (λ absent.
    subst (λ (s : Shard). LacksHashed s c.args.hash c.args.key.now) c.self.view_is
    (absent_entry c.self.inside.index.hashes c.self.inside.keys.keys c.self.inside.states.states c.args.hash c.args.key.now
    (λ i within is.
    let answered = absent i within is in
    let equal : false ≡ key_eq (get_or c.self.inside.keys.keys i c.args.key.now) c.args.key.now = search (of_calls, answered) in
    equal)))
