use Rattle.std.proofs.Common.{◌≡◌, ◌∙◌, ap, arith, sym, Some, None}
use Rattle.std.specs.BTreeMap.{get}
use Rattle.std.specs.Ordering.{nat_cmp}
use Rattle.http_connections.proofs.UnsentLemmas.{bounded_inserted, held_at-le, held_by, inserted}
use Rattle.http_connections.proofs.seats.Seats.seat.Goals as goal

pub overflow_sub-self : goal.overflow_sub-self
overflow_sub-self c =
    let old = c.args.self.now in
    let is : get nat_cmp old.by_number c.args.number ≡ Some c.in-Some.before = sym c.in_ok-before.ensures.old ∙ c.in-Some.is in
    omega (arith, c.held.ensures.held, old.counted, held_at-le old.by_number c.args.number, ap held_by is)

pub invariant_of-self-in-Some : goal.invariant_of-self-in-Some
invariant_of-self-in-Some c =
    let old = c.args.self.now in
    let put = c.in_ok-before.ensures in
    let is : get nat_cmp old.by_number c.args.number ≡ Some c.in-Some.before = sym put.old ∙ c.in-Some.is in record {
      counted =
          omega (
            arith,
            c.held.ensures.held,
            old.counted,
            ap held_by is,
            inserted old.by_number c.insert.new.self c.args.number c.new.result put.was_ordered c.new.ensures.held put.entries,
          );
      bounded = bounded_inserted old.by_number c.insert.new.self c.args.number c.new.result put.was_ordered c.new.ensures.held put.entries old.bounded;
    }

pub invariant_of-self-in_default : goal.invariant_of-self-in_default
invariant_of-self-in_default c =
    let old = c.args.self.now in
    let put = c.in_ok-before.ensures in
    let is : get nat_cmp old.by_number c.args.number ≡ None = sym put.old ∙ c.in_default.is in record {
      counted = omega (arith, old.counted, ap held_by is, inserted old.by_number c.insert.new.self c.args.number c.new.result put.was_ordered c.new.ensures.held put.entries);
      bounded = bounded_inserted old.by_number c.insert.new.self c.args.number c.new.result put.was_ordered c.new.ensures.held put.entries old.bounded;
    }
