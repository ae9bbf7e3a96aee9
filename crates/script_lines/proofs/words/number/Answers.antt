use Rattle.std.proofs.Common.{◌∙◌, sym, arith}
use Rattle.script_lines.proofs.Decimals.{digit_at, is_written, next_value, not_written, past_limit, whole_value}
use Rattle.script_lines.proofs.words.number.Goals as goal

pub returns-then-not-is_decimal-clause-none : goal.returns-then-not-is_decimal-clause-none
returns-then-not-is_decimal-clause-none c = not_written c.args.word.now c.is_decimal.result c.is_decimal.ensures (search (c.if-not-is_decimal.true))

pub returns-in_default-clause-none : goal.returns-in_default-clause-none
returns-in_default-clause-none c =
    let word = c.args.word.now in
    past_limit word c.loop-byte.byte-index c.loop-byte.value c.loop-byte-test.true c.loop-byte.invariant.0 (omega (arith, c.in_default.ensures))

pub returns-in_default-checked_add-clause-none : goal.returns-in_default-checked_add-clause-none
returns-in_default-checked_add-clause-none c =
    let word = c.args.word.now in
    let digit = digit_at word c.loop-byte.byte-index (sym c.is_decimal.ensures ∙ c.if-not-is_decimal.false) c.loop-byte-test.true in
    past_limit word c.loop-byte.byte-index c.loop-byte.value c.loop-byte-test.true c.loop-byte.invariant.0 (omega (arith, c.in-Some.ensures, c.in_default-checked_add.ensures, c.worth.ensures.worth digit))

pub loop-byte-preserved : goal.loop-byte-preserved
loop-byte-preserved c =
    let word = c.args.word.now in
    let digit = digit_at word c.loop-byte.byte-index (sym c.is_decimal.ensures ∙ c.if-not-is_decimal.false) c.loop-byte-test.true in
    (omega (arith, c.in-Some.ensures, c.in-Some-checked_add.ensures, c.worth.ensures.worth digit, next_value word c.loop-byte.byte-index c.loop-byte.value c.loop-byte-test.true c.loop-byte.invariant.0), omega (arith, c.in-Some.ensures, c.in-Some-checked_add.ensures))

pub returns-clause-some : goal.returns-clause-some
returns-clause-some c =
    let word = c.args.word.now in
    is_written word c.loop-byte.value (sym c.is_decimal.ensures ∙ c.if-not-is_decimal.false) (whole_value word c.loop-byte.byte-index c.loop-byte.value (omega (arith, c.loop-byte.auto.byte-index-end, c.loop-byte-test.false)) c.loop-byte.invariant.0) c.loop-byte.invariant.1
