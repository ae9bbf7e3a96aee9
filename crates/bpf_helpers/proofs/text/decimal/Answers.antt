use Rattle.std.proofs.Common.{◌≡◌, ◌<◌, arith, length, get_or, true, sym, ◌∙◌}
use Rattle.std.specs.Char.{is_ascii_digit}
use Rattle.std.proofs.lemmas.Int.Digits.{digits_value_more}
use Rattle.std.proofs.lemmas.List.Folds.{list_all_more}
use Rattle.bpf_helpers.proofs.Digits.{room, one_more, digit_value-is, digit_bounds}
use Rattle.bpf_helpers.proofs.text.decimal.Goals as goal

pub overflow_mul-number : goal.overflow_mul-number
overflow_mul-number c = omega (arith, room c.loop-digit.number c.loop-digit.digit-index c.loop-digit.invariant.small)

pub overflow_add-number : goal.overflow_add-number
overflow_add-number c =
    let digit : is_ascii_digit (get_or c.args.text.now c.loop-digit.digit-index 0) ≡ true = sym c.is_ascii_digit.ensures.value ∙ c.if-not-is_ascii_digit.false in
    omega (arith, digit_bounds (get_or c.args.text.now c.loop-digit.digit-index 0) digit, room c.loop-digit.number c.loop-digit.digit-index c.loop-digit.invariant.small, c.from.ensures)

pub loop-digit-preserved : goal.loop-digit-preserved
loop-digit-preserved c =
    let i = c.loop-digit.digit-index in
    let text = c.args.text.now in
    let digit : is_ascii_digit (get_or text i 0) ≡ true = sym c.is_ascii_digit.ensures.value ∙ c.if-not-is_ascii_digit.false in
    let bounds = digit_bounds (get_or c.args.text.now c.loop-digit.digit-index 0) digit in
    let below : i < length text = c.loop-digit-test.true in
    record {
      value = omega (arith, digits_value_more 10 text i below, digit_value-is (get_or text i 0) bounds.0 bounds.1, c.loop-digit.invariant.value, c.from.ensures);
      digits = rw (list_all_more is_ascii_digit text i 0 below, c.loop-digit.invariant.digits) digit;
      small = omega (arith, one_more c.loop-digit.number i c.from.result c.loop-digit.invariant.small, c.from.ensures, bounds);
    }
