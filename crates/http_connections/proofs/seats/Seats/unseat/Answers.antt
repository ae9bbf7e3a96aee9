use Rattle.std.proofs.Common.{◌≡◌, ◌∙◌, ap, arith, sym, Some}
use Rattle.std.specs.BTreeMap.{get}
use Rattle.std.specs.Ordering.{nat_cmp}
use Rattle.http_connections.proofs.UnsentLemmas.{bounded_removed, held_at-le, held_by, removed}
use Rattle.http_connections.proofs.seats.Seats.unseat.Goals as goal

pub overflow_sub-self : goal.overflow_sub-self
overflow_sub-self c =
    let old = c.args.self.now in
    let is : get nat_cmp old.by_number c.args.number ≡ Some c.in-Some.seat = sym c.remove.ensures.value ∙ c.in-Some.is in
    omega (arith, c.held.ensures.held, old.counted, held_at-le old.by_number c.args.number, ap held_by is)

pub invariant_of-self : goal.invariant_of-self
invariant_of-self c =
    let old = c.args.self.now in
    let is : get nat_cmp old.by_number c.args.number ≡ Some c.in-Some.seat = sym c.remove.ensures.value ∙ c.in-Some.is in record {
      counted = omega (arith, c.held.ensures.held, old.counted, ap held_by is, removed old.by_number c.remove.new.self c.args.number c.remove.ensures.entries);
      bounded = bounded_removed old.by_number c.remove.new.self c.args.number c.remove.ensures.entries old.bounded;
    }

pub returns-in-Some-clause-less : goal.returns-in-Some-clause-less
returns-in-Some-clause-less c = removed c.args.self.now.by_number c.remove.new.self c.args.number c.remove.ensures.entries
