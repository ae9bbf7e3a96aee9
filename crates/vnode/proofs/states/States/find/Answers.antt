use Rattle.std.proofs.Common.{◌∙◌, ap, arith, get_or, length}
use Rattle.vnode.proofs.Mapped.{found_there, if_none, none_at}
use Rattle.vnode.proofs.states.States.find.Goals as goal

pub returns-in_err-place-clause-absent : goal.returns-in_err-place-clause-absent
returns-in_err-place-clause-absent c = λ is.
    let shard = c.in_ok-get.field-0.now in
    let lookup = c.in_ok-get.ensures.lookup in
    let all = c.deref.ensures.value in
    let within = lookup.3.0 in
    let len = ap length all in
    if_none c.from_residual-in_err-place.result
    (none_at c.args.self.now c.args.spot shard c.of.result c.args.key.now is (omega (arith, within, len)) (lookup.1 ∙ ap (λ xs. get_or xs c.args.spot.shard shard) all) c.of.ensures c.in_err-place.ensures.absent)

pub returns-clause-found : goal.returns-clause-found
returns-clause-found c =
    let shard = c.in_ok-get.field-0.now in
    let lookup = c.in_ok-get.ensures.lookup in
    let all = c.deref.ensures.value in
    let within = lookup.3.0 in
    let len = ap length all in
    let found = c.in_ok-place.ensures.found in
    found_there c.args.self.now c.args.spot shard c.args.key.now c.in_ok-place.place found.0 c.requires (omega (arith, within, len)) (lookup.1 ∙ ap (λ xs. get_or xs c.args.spot.shard shard) all) found.1
