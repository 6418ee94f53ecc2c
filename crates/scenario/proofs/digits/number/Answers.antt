use Rattle.std.proofs.Common.{◌<◌, length, subst, ap, ◌∙◌, arith}
use Rattle.std.proofs.lemmas.List.{take_all}
use Rattle.std.proofs.lemmas.Str.Parse.{digit_at}
use Rattle.std.specs.Char.{digit_value}
use Rattle.scenario.proofs.Numerals.{Led, Counts, written_from_counts, counts_more, narrowed, too_large, unwritten_from_byte, unwritten_from_more}
use Rattle.scenario.proofs.digits.number.Goals as goal

pub returns-in_err-digit : goal.returns-in_err-digit
returns-in_err-digit c =
    rw c.from_residual.ensures
    (unwritten_from_byte c.args.digits.now c.loop-digit.digit-index c.loop-digit-test.true (subst (λ b. digit_value b < 10 → ⊥) c.from.ensures c.in_err-digit.ensures.value))

pub returns-in_err-value : goal.returns-in_err-value
returns-in_err-value c =
    let large = too_large _ _ c.try_from.result c.try_from.ensures c.in_err-value.ensures.value in
    rw c.from_residual-in_err-value.ensures
    (unwritten_from_more c.args.digits.now c.loop-digit.digit-index c.loop-digit-test.true c.loop-digit.value c.loop-digit.invariant
    (omega (arith, large, c.from-in-loop-digit.ensures, c.in_ok-digit.ensures.value.1 ∙ ap digit_value c.from.ensures)))

pub loop-digit-preserved : goal.loop-digit-preserved
loop-digit-preserved c =
    let digit = c.in_ok-digit.ensures.value in
    let value = narrowed _ _ c.try_from.result c.try_from.ensures c.in_ok-value.value c.in_ok-value.ensures.value in
    counts_more c.args.digits.now c.loop-digit.digit-index c.loop-digit-test.true c.loop-digit.value c.in_ok-value.value c.loop-digit.invariant
    (subst (λ b. digit_value b < 10) c.from.ensures digit.0)
    (omega (arith, value.1, c.from-in-loop-digit.ensures, digit.1 ∙ ap digit_value c.from.ensures))
    (omega (arith, value.0, value.1))

pub returns : goal.returns
returns c =
    let ds = c.args.digits.now in
    let counts = subst (λ l. Counts l c.loop-digit.value) (take_all c.loop-digit.digit-index ds c.loop-digit-test.false) c.loop-digit.invariant in
    let some : 0 < length ds = grind arith in
    let digit = digit_at ds 0 counts.all some in
    let lead : Led ds = record { some = some; low = omega (arith, digit); high = omega (arith, digit); alone = grind arith } in
    written_from_counts ds lead c.loop-digit.value counts
