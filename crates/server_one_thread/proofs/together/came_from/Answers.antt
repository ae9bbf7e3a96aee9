use Rattle.std.proofs.Common.{◌∙◌, ap, arith}
use Rattle.std.proofs.lemmas.List.{take_all}
use Rattle.server_one_thread.specs.declared.together.Arrival.TheVariants as arrival
use Rattle.server_one_thread.specs.Together.{sent_by}
use Rattle.server_one_thread.proofs.CameLemmas.{came_more, comes_more}
use Rattle.server_one_thread.proofs.together.came_from.Goals as goal

pub loop-place-preserved : goal.loop-place-preserved
loop-place-preserved c =
    let n = c.args.number in
    let deliveries = c.args.deliveries.now in
    let i = c.loop-place.place in
    let was = c.loop-place.invariant in
    record {
      bytes = came_more n deliveries i _ c.loop-place-test.true c.loop-place.came.bytes.items c.add.new.self.bytes.items was.bytes c.in_ok-add.ensures.own c.in_ok-add.ensures.other;
      ends = comes_more n deliveries i _ c.loop-place-test.true arrival.End c.loop-place.came.ends c.add.new.self.ends was.ends c.in_ok-add.ensures.ends;
      fails = comes_more n deliveries i _ c.loop-place-test.true arrival.Failure c.loop-place.came.fails c.add.new.self.fails was.fails c.in_ok-add.ensures.fails;
    }

pub returns : goal.returns
returns c =
    let was = c.loop-place.invariant in
    record { bytes = was.bytes ∙ ap (sent_by c.args.number) (take_all c.loop-place.place c.args.deliveries.now (omega (arith, c.loop-place-test.false))); ends = was.ends; fails = was.fails }
