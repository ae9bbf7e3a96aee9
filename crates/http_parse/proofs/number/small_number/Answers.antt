use Rattle.std.proofs.Common.{arith, ◌+◌}
use Rattle.std.specs.Char.{is_ascii_digit}
use Rattle.std.proofs.lemmas.Str.Parse.{digits_value-take-le}
use Rattle.http_parse.proofs.NumberLemmas.{next_value, all_at, both_hold}
use Rattle.http_parse.proofs.number.small_number.Goals as goal

pub returns-then-n-gt-MAX_BODY_BYTES-clause-large : goal.returns-then-n-gt-MAX_BODY_BYTES-clause-large
returns-then-n-gt-MAX_BODY_BYTES-clause-large c =
    let digits = c.args.digits.now in
    let digit = all_at is_ascii_digit digits c.loop-digit.digit-index c.loop-digit-test.true (both_hold _ _ c.requires).1 in
    omega (
      arith,
      c.if-n-gt-MAX_BODY_BYTES.true,
      c.worth.ensures.worth digit,
      next_value digits c.loop-digit.digit-index c.loop-digit.n c.loop-digit-test.true c.loop-digit.invariant.0,
      digits_value-take-le 10 digits (c.loop-digit.digit-index + 1) (omega arith),
    )

pub loop-digit-preserved : goal.loop-digit-preserved
loop-digit-preserved c =
    let digits = c.args.digits.now in
    let digit = all_at is_ascii_digit digits c.loop-digit.digit-index c.loop-digit-test.true (both_hold _ _ c.requires).1 in
    (omega (arith, c.worth.ensures.worth digit, next_value digits c.loop-digit.digit-index c.loop-digit.n c.loop-digit-test.true c.loop-digit.invariant.0), omega (arith, c.if-n-gt-MAX_BODY_BYTES.false))
