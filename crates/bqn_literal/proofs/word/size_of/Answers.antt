use Rattle.std.proofs.Common.{◌≡◌, ◌≤◌, ◌^◌, Some, None, sym, ap, ◌∙◌, arith}
use Rattle.std.specs.Option.{option_and_then}
use Rattle.bqn_literal.specs.Spellings.{spelled_by}
use Rattle.bqn_literal.specs.Values.{nothing, with_digits}
use Rattle.bqn_literal.specs.declared.significand.Significand.{Significand}
use Rattle.bqn_literal.proofs.Digits.{figures-are_digits}
use Rattle.bqn_literal.proofs.Sizes.{size-wide, size-down, size-up}
use Rattle.bqn_literal.proofs.word.size_of.Goals as goal

pub returns-in_err-whole : goal.returns-in_err-whole
returns-in_err-whole c =
    let s = spelled_by c.args.spelling in
    let e : with_digits s.whole nothing ≡ None = sym (c.in_err-whole.ensures.value ∙ ap (with_digits s.whole) c.new.ensures) in
    c.from_residual.ensures ∙ sym (size-wide s (figures-are_digits c.args.spelling.whole.now) (figures-are_digits c.args.spelling.fraction.now) (ap (option_and_then (with_digits s.fraction)) e))

pub returns-in_err-read : goal.returns-in_err-read
returns-in_err-read c =
    let s = spelled_by c.args.spelling in
    let e : with_digits s.whole nothing ≡ Some c.in_ok-whole.whole = sym (c.in_ok-whole.ensures.value ∙ ap (with_digits s.whole) c.new.ensures) in
    let f : with_digits s.fraction c.in_ok-whole.whole ≡ None = sym c.in_err-read.ensures.value in
    c.from_residual-in_err-read.ensures ∙ sym (size-wide s (figures-are_digits c.args.spelling.whole.now) (figures-are_digits c.args.spelling.fraction.now) (ap (option_and_then (with_digits s.fraction)) e ∙ f))

pub returns-then-spelling : goal.returns-then-spelling
returns-then-spelling c =
    let s = spelled_by c.args.spelling in
    let e : with_digits s.whole nothing ≡ Some c.in_ok-whole.whole = sym (c.in_ok-whole.ensures.value ∙ ap (with_digits s.whole) c.new.ensures) in
    let f : with_digits s.fraction c.in_ok-whole.whole ≡ Some c.in_ok-read.read = sym c.in_ok-read.ensures.value in
    let few : c.in_ok-read.read.zeros ≤ 2 ^ 66 = omega (arith, ap (λ (t : Significand). t.zeros) c.new.ensures, c.in_ok-whole.ensures.few, c.in_ok-read.ensures.few) in
    c.scaled.ensures
    ∙ sym (size-down s c.in_ok-read.read c.power_of-power.result c.digit_count-places.result (figures-are_digits c.args.spelling.whole.now) (figures-are_digits c.args.spelling.fraction.now) (ap (option_and_then (with_digits s.fraction)) e ∙ f) few (omega arith) c.if-spelling.true c.power_of-power.ensures c.digit_count-places.ensures)

pub returns-else-spelling : goal.returns-else-spelling
returns-else-spelling c =
    let s = spelled_by c.args.spelling in
    let e : with_digits s.whole nothing ≡ Some c.in_ok-whole.whole = sym (c.in_ok-whole.ensures.value ∙ ap (with_digits s.whole) c.new.ensures) in
    let f : with_digits s.fraction c.in_ok-whole.whole ≡ Some c.in_ok-read.read = sym c.in_ok-read.ensures.value in
    let few : c.in_ok-read.read.zeros ≤ 2 ^ 66 = omega (arith, ap (λ (t : Significand). t.zeros) c.new.ensures, c.in_ok-whole.ensures.few, c.in_ok-read.ensures.few) in
    c.scaled-else-spelling.ensures
    ∙ sym (size-up s c.in_ok-read.read c.power_of-power.result c.digit_count-places.result (figures-are_digits c.args.spelling.whole.now) (figures-are_digits c.args.spelling.fraction.now) (ap (option_and_then (with_digits s.fraction)) e ∙ f) few (omega arith) c.if-spelling.false c.power_of-power.ensures c.digit_count-places.ensures)
