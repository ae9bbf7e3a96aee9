use Rattle.std.proofs.Common.{◌≡◌, ◌∙◌, ap, arith, rules, sym, Some}
use Rattle.std.specs.BTreeMap.{get}
use Rattle.std.specs.Option.{option_copied_mut}
use Rattle.std.specs.Ordering.{nat_cmp}
use Rattle.http_connections.proofs.UnsentLemmas.{bounded_written, held_at-le, held_by, written}
use Rattle.http_connections.proofs.seats.Seats.write_out.Goals as goal

pub invariant_of-self : goal.invariant_of-self
invariant_of-self g c =
    let old = c.args.self.now in
    let now = c.write_out-ended.new.self in
    let held = c.get_mut.follows.holds now in
    let before : get nat_cmp old.by_number c.args.number ≡ Some c.in-Some.seat.now = sym c.get_mut.ensures.value ∙ ap option_copied_mut c.in-Some.is in
    let after : get nat_cmp (c.get_mut.follows.lender now) c.args.number ≡ Some now = (held.3 (search (rules, before))).1 in record {
      counted =
          omega (
            arith,
            c.held-held.ensures.held,
            c.held.ensures.held,
            old.counted,
            held_at-le old.by_number c.args.number,
            ap held_by before,
            written old.by_number (c.get_mut.follows.lender now) c.args.number c.in-Some.seat.now now before after held.0,
          );
      bounded = bounded_written old.by_number (c.get_mut.follows.lender now) c.args.number c.in-Some.seat.now now before after held.0 c.write_out-ended.ensures.fewer old.bounded;
    }
