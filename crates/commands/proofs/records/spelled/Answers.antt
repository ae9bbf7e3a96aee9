use Rattle.std.proofs.Common.{◌≡◌, ◌+◌, ◌∙◌}
use Rattle.commands.proofs.Spelled.{copy_spelled, next_place}
use Rattle.commands.proofs.records.spelled.Goals as goal

pub loop-copy-preserved : goal.loop-copy-preserved
loop-copy-preserved c =
    let here : c.in-Some.at ≡ c.args.copies.now.first + c.loop-copy.copy-index = rw c.in-Some.is at c.loop-copy.invariant.place in
    record {
      spelled = copy_spelled _ _ _ c.in-Some.at c.deref-copy-items.result.now c.args.copies.now.held.items c.copy-item.result _ _ _ c.deref-copy-items.ensures.value c.loop-copy-test.true c.copy-item.is c.loop-copy.invariant.spelled
          here c.in_ok-record_of.ensures.0 (c.deref.ensures.value ∙ c.in_ok-record_of.ensures.1) c.in_ok-extend_from_slice.ensures.items;
      place = next_place c.checked_add-place.result c.args.copies.now.first c.loop-copy.copy-index c.in-Some.at here c.checked_add-place.ensures;
    }
