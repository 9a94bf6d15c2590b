use Rattle.std.proofs.Common.{◌≡◌, suc, ◌+◌, ◌-◌, ◌/◌, arith, ap, sym, ◌∙◌}
use Rattle.bqn_compile.specs.Walking.{reads}
use Rattle.bqn_compile.proofs.Reading.{reads-odd, reads-even}
use Rattle.bqn_compile.proofs.read.Read.of.Goals as goal

pub returns-then-parts-eq1 : goal.returns-then-parts-eq1
returns-then-parts-eq1 c =
    let e : c.args.parts ≡ suc (c.args.parts / 2 + c.args.parts / 2) = omega arith in
    sym (ap reads e ∙ reads-odd (c.args.parts / 2))

pub returns-else-parts-eq1 : goal.returns-else-parts-eq1
returns-else-parts-eq1 c =
    let e : c.args.parts ≡ suc (suc ((c.args.parts / 2 - 1) + (c.args.parts / 2 - 1))) = omega arith in
    sym (ap reads e ∙ reads-even (c.args.parts / 2 - 1))
