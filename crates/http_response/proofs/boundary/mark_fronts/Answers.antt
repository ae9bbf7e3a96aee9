use Rattle.std.proofs.Common.{◌≡◌, ◌+◌, ◌<◌, ◌^◌, arith, refl, take}
use Rattle.std.specs.Prelude.{decimal}
use Rattle.std.proofs.lemmas.Int.Digits.{digits_value_more}
use Rattle.std.proofs.lemmas.Str.{digit_value_digit}
use Rattle.http_response.proofs.Fronts.{all_marked, next_marked, next_spelled, none_marked, short_at_end, short_at_large, short_at_other}
use Rattle.http_response.proofs.boundary.mark_fronts.Goals as goal

pub loop-i-init : goal.loop-i-init
loop-i-init c = record {
  none = λ e. e;
  spelled = λ lt. absurd (omega (arith, lt));
  value = refl;
  marked = none_marked c.args.marks.now c.args.bytes.now (omega arith);
}

pub returns-in_default : goal.returns-in_default
returns-in_default c =
    let none = c.in_default.ensures in
    all_marked _ _ _ c.loop-i.i c.loop-i.invariant.marked (λ n lt.
    short_at_other _ c.loop-i.i c.loop-i.n n none.none c.loop-i.invariant.spelled (omega (arith, lt)))

pub returns-then-longer-marks : goal.returns-then-longer-marks
returns-then-longer-marks c =
    let some = c.in-Some.ensures in
    all_marked _ _ _ c.loop-i.i c.loop-i.invariant.marked (λ n lt.
    short_at_large _ c.loop-i.i c.loop-i.n n c.in-Some.longer c.loop-i-test.true c.loop-i.invariant.value some.some.0
    (omega (arith, some.some.2)) (omega (arith, lt, c.if-longer-marks.true)) (omega (arith, lt)))

pub loop-i-preserved : goal.loop-i-preserved
loop-i-preserved c =
    let some = c.in-Some.ensures in
    let bytes = c.args.bytes.now in
    let below : c.in-Some.longer < 2 ^ 64 = omega (arith, c.if-longer-marks.false) in
    let spelled : decimal c.in-Some.longer ≡ take (c.loop-i.i + 1) bytes =
    next_spelled bytes c.loop-i.i c.loop-i.n c.in-Some.longer c.loop-i-test.true some.some.0 c.loop-i.invariant.none c.loop-i.invariant.spelled some.some.1
    below (omega (arith, some.some.2, c.if-longer-marks.false)) in
    record {
      none = λ e. absurd (omega (arith, e));
      spelled = λ _. spelled;
      value = omega (
        arith,
        some.some.2,
        c.if-longer-marks.false,
        digits_value_more 10 bytes c.loop-i.i c.loop-i-test.true,
        digit_value_digit _ some.some.0,
        c.loop-i.invariant.value,
      );
      marked = next_marked _ _ bytes c.loop-i.i c.in-Some.longer c.loop-i-test.true (omega arith) c.if-longer-marks.false spelled c.loop-i.invariant.marked;
    }

pub returns : goal.returns
returns c = all_marked _ _ _ c.loop-i.i c.loop-i.invariant.marked (λ n lt. short_at_end _ c.loop-i.i n c.loop-i-test.false)
