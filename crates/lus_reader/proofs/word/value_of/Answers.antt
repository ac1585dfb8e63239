use Rattle.std.proofs.Common.{◌<◌, length, refl, arith}
use Rattle.lus_lexer.specs.Tokens.{byte}
use Rattle.lus_reader.proofs.Texts.{digit_read}
use Rattle.lus_reader.proofs.word.value_of.Goals as goal

pub overflow_mul-value : goal.overflow_mul-value
overflow_mul-value c =
    let l : c.loop-digit.digit-index < length c.args.digits.now = c.loop-digit-test.true in
    let k = digit_read (byte c.args.digits.now) c.loop-digit.digit-index (length c.args.digits.now) (byte c.args.digits.now c.loop-digit.digit-index) l refl in
    let i = c.loop-digit.invariant in
    omega (arith, k, i, c.requires)

pub overflow_add-value : goal.overflow_add-value
overflow_add-value c =
    let l : c.loop-digit.digit-index < length c.args.digits.now = c.loop-digit-test.true in
    let k = digit_read (byte c.args.digits.now) c.loop-digit.digit-index (length c.args.digits.now) (byte c.args.digits.now c.loop-digit.digit-index) l refl in
    let i = c.loop-digit.invariant in
    omega (arith, k, i, c.requires, c.saturating_sub.ensures, c.from.ensures)

pub loop-digit-preserved : goal.loop-digit-preserved
loop-digit-preserved c =
    let l : c.loop-digit.digit-index < length c.args.digits.now = c.loop-digit-test.true in
    let k = digit_read (byte c.args.digits.now) c.loop-digit.digit-index (length c.args.digits.now) (byte c.args.digits.now c.loop-digit.digit-index) l refl in
    let i = c.loop-digit.invariant in
    omega (arith, k, i, c.saturating_sub.ensures, c.from.ensures)
