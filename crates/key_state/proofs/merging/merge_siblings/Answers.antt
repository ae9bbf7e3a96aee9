use Rattle.std.proofs.Common.{◌+◌, arith, drop}
use Rattle.key_state.proofs.Merges.{drop_is, front_of, begins_inside, alike_inside, takes_own, takes_other, takes_both}
use Rattle.key_state.proofs.merging.merge_siblings.Goals as goal

pub loop-i-preserved-in-Own : goal.loop-i-preserved-in-Own
loop-i-preserved-in-Own c = record {
  own_within = omega (arith, begins_inside c.args.own.now (drop c.loop-i.j c.args.others.now) c.loop-i.i c.in-Own.ensures);
  others_within = c.loop-i.invariant.others_within;
  merging = rw c.in_ok-push_uncovered-in-Own.ensures (takes_own c.args.own.now c.args.own_clock.now c.args.others.now c.args.other_clock.now c.loop-i.merged.items _ _ (drop (c.loop-i.i + 1) c.args.own.now) c.index-own-i.result c.loop-i.invariant.merging (drop_is c.args.own.now c.loop-i.i c.index-own-i.result (begins_inside c.args.own.now (drop c.loop-i.j c.args.others.now) c.loop-i.i c.in-Own.ensures) c.index-own-i.is) c.in-Own.ensures);
}

pub loop-i-preserved-in-Other : goal.loop-i-preserved-in-Other
loop-i-preserved-in-Other c = record {
  own_within = c.loop-i.invariant.own_within;
  others_within = omega (arith, begins_inside c.args.others.now (drop c.loop-i.i c.args.own.now) c.loop-i.j c.in-Other.ensures);
  merging = rw c.in_ok-push_uncovered-in-Other.ensures (takes_other c.args.own.now c.args.own_clock.now c.args.others.now c.args.other_clock.now c.loop-i.merged.items _ _ (drop (c.loop-i.j + 1) c.args.others.now) c.index-others-j.result c.loop-i.invariant.merging (drop_is c.args.others.now c.loop-i.j c.index-others-j.result (begins_inside c.args.others.now (drop c.loop-i.i c.args.own.now) c.loop-i.j c.in-Other.ensures) c.index-others-j.is) c.in-Other.ensures);
}

pub loop-i-preserved : goal.loop-i-preserved
loop-i-preserved c =
    let inside = alike_inside c.args.own.now c.args.others.now c.loop-i.i c.loop-i.j c.in-Both.ensures in
    let other = front_of c.args.others.now c.loop-i.j inside.1 in record {
      own_within = omega (arith, inside.0);
      others_within = omega (arith, inside.1);
      merging = rw (c.in_ok-push-in-Both.ensures.ok, c.in_ok-copy-in-Both.ensures) (takes_both c.args.own.now c.args.own_clock.now c.args.others.now c.args.other_clock.now c.loop-i.merged.items _ _ (drop (c.loop-i.i + 1) c.args.own.now) (drop (c.loop-i.j + 1) c.args.others.now) c.index-own-i-in-Both.result other.0 c.loop-i.invariant.merging (drop_is c.args.own.now c.loop-i.i c.index-own-i-in-Both.result inside.0 c.index-own-i-in-Both.is) other.1 c.in-Both.ensures);
    }
