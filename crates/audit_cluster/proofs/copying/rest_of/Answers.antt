use Rattle.std.proofs.Common.{arith, sym}
use Rattle.audit_cluster.proofs.Ends.{copied_more}
use Rattle.audit_cluster.proofs.copying.rest_of.Goals as goal

pub loop-place-preserved : goal.loop-place-preserved
loop-place-preserved c =
    let journal = c.args.journal.now in
    record {
      all = copied_more c.loop-place.rest.items c.push.new.self.items c.in_ok-copy.field-0 journal.first c.loop-place.place journal.log.entries c.in-Some.entry.now c.loop-place.invariant.all
          (sym (c.in-Some.ensures.here c.loop-place.invariant.from)) c.in_ok-copy.ensures c.in_ok-push.ensures.items;
      from = omega (arith, c.loop-place.invariant.from);
    }
