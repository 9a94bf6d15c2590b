use Rattle.std.proofs.Common.{◌≡◌, ◌∙◌, ap, arith, ℤ}
use Rattle.std.specs.Prelude.{int_rem, nat_abs, ◌≢◌}
use Rattle.std.specs.Int.{w64}
use Rattle.std.proofs.lemmas.Int.{ints, to_z-of_z}
use Rattle.bqn_base.proofs.Remainders.{modulus-kept_up, modulus-kept_down, modulus-moved_down, of_numbers}
use Rattle.bqn_base.proofs.num.modulus.Goals as goal

pub returns-else-rest-lt0 : goal.returns-else-rest-lt0
returns-else-rest-lt0 c =
    let e = c.wrapping_rem-rest.ensures ∙ of_numbers c.args.x c.args.w c.ranges.x c.ranges.w in
    modulus-kept_up c.args.w c.args.x c.wrapping_rem-rest.result _ c.ranges.w (λ z. omega (arith, ints)) e (omega (arith, ints)) (omega (arith, ints)) (omega (arith, ints))

pub returns-then-rest-gt0 : goal.returns-then-rest-gt0
returns-then-rest-gt0 c =
    let e = c.wrapping_rem-rest.ensures ∙ of_numbers c.args.x c.args.w c.ranges.x c.ranges.w in
    modulus-moved_down c.args.w c.args.x c.wrapping_rem-rest.result _ c.ranges.w (λ z. omega (arith, ints)) e (omega (arith, ints)) (omega (arith, ints)) (omega (arith, ints))

pub returns-else-rest-gt0 : goal.returns-else-rest-gt0
returns-else-rest-gt0 c =
    let e = c.wrapping_rem-rest.ensures ∙ of_numbers c.args.x c.args.w c.ranges.x c.ranges.w in
    modulus-kept_down c.args.w c.args.x c.wrapping_rem-rest.result _ c.ranges.w (λ z. omega (arith, ints)) e (omega (arith, ints)) (omega (arith, ints)) (omega (arith, ints))
