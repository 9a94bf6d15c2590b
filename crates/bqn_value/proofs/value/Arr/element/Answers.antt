use Rattle.std.proofs.Common.{arith, ap, length}
use Rattle.std.proofs.lemmas.List.{length-map}
use Rattle.bqn_value.specs.Meaning.{plain}
use Rattle.bqn_value.proofs.Build.{element-of}
use Rattle.bqn_value.proofs.value.Arr.element.Goals as goal

pub bounds-all-i : goal.bounds-all-i
bounds-all-i c = omega (arith, ap length c.elements-all.ensures, length-map c.elements-all.result.now plain)

pub returns-clause-whole : goal.returns-clause-whole
returns-clause-whole c = (element-of c.args.self.now c.elements-all.result.now c.args.i c.index-all-i.result c.count.ensures.whole c.elements-all.ensures (omega (arith, ap length c.elements-all.ensures, length-map c.elements-all.result.now plain)) c.index-all-i.is).whole

pub returns-clause-less : goal.returns-clause-less
returns-clause-less c = (element-of c.args.self.now c.elements-all.result.now c.args.i c.index-all-i.result c.count.ensures.whole c.elements-all.ensures (omega (arith, ap length c.elements-all.ensures, length-map c.elements-all.result.now plain)) c.index-all-i.is).less
