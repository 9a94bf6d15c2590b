use Rattle.bqn_compile.specs.Walking.{onward, filled}
use Rattle.bqn_compile.proofs.Bodies.{filled-some, filled-none}
use Rattle.bqn_compile.proofs.places.fill.Goals as goal

pub returns-in-Some : goal.returns-in-Some
unfolding onward filled
returns-in-Some c = λ i. record { at = c.args.out.now.at; code = c.args.out.now.code.items; blocks = filled-some c.args.bodies c.args.out.now.blocks.items c.args.place c.in-Some.block.now c.in-Some.ensures.item.3.0 c.in-Some.ensures.value i }

pub returns-in_default : goal.returns-in_default
unfolding onward filled
returns-in_default c = λ i. record { at = c.args.out.now.at; code = c.args.out.now.code.items; blocks = filled-none c.args.bodies c.args.out.now.blocks.items c.args.place c.in_default.ensures.item.2 i }
