use Rattle.std.proofs.Common.{◌≡◌, ◌+◌, Ok, rules, take}
use Rattle.dvvstore.proofs.Sides.{counted_more, take_more}
use Rattle.dvvstore.proofs.saver.all_keys.Goals as goal

pub loop-side-preserved : goal.loop-side-preserved
loop-side-preserved g c =
    let sides = c.args.sides.now in
    let at = c.loop-side.side-index in
    let side = c.side-item.result in
    let one : side.came ≡ Ok c.in_ok-side.field-0 = search rules in
    counted_more (λ s. s.came) (take at sides) (take (at + 1) sides) side c.in_ok-side.field-0 c.loop-side.keys c.saturating_add-keys.result (take_more sides at side c.loop-side-test.true c.side-item.is) one
    (search rules) c.loop-side.invariant
