use Rattle.std.proofs.Common.{◌≡◌, ◌<◌, ◌^◌, length, List, sym, ◌∙◌, ap, arith}
use Rattle.std.proofs.lemmas.List.Elements.{All-set}
use Rattle.bqn_code.specs.Plain.{code_of}
use Rattle.bqn_code.specs.declared.code.Body.{Body}
use Rattle.bqn_verify.specs.Judged.{all_are_judged}
use Rattle.bqn_verify.specs.Rows.{IsStart}
use Rattle.bqn_verify.proofs.Bounds.{few_bodies}
use Rattle.bqn_verify.proofs.Starting.{next_start, judged_block}
use Rattle.bqn_verify.proofs.bodies.all_are_judged.Goals as goal

pub loop-i-preserved : goal.loop-i-preserved
loop-i-preserved c =
    let many : length c.list-bodies.result.now ≡ length c.index-blocks-i.result.bodies = ap (λ (bs : List Body). length bs) c.list-bodies.ensures in
    let few : length c.list-bodies.result.now < 2 ^ 32 = few_bodies c.args.blocks.now c.loop-i.i (length c.list-bodies.result.now) c.index-blocks-i.result c.requires.small c.loop-i-test.true c.index-blocks-i.is many in (
      judged_block (code_of c.args.code.now) c.args.blocks.now c.loop-i.i c.loop-i.number c.index-blocks-i.result c.list-bodies.result.now (all_are_judged (code_of c.args.code.now) 0 c.args.blocks.now)
          (c.loop-i.invariant.0) c.loop-i-test.true c.index-blocks-i.is c.list-bodies.ensures (sym c.bodies_are_judged.ensures ∙ c.if-not-bodies_are_judged.false),
      omega (arith, few, c.loop-i.invariant.1),
      next_start c.args.blocks.now c.loop-i.i c.loop-i.number (length c.list-bodies.result.now) c.index-blocks-i.result (c.loop-i.invariant.2) c.loop-i-test.true c.index-blocks-i.is many,
      All-set (IsStart c.args.blocks.now) c.loop-i.starts c.starts_before-around.result (record { block = c.loop-i.i; first = c.loop-i.number }) (c.loop-i.invariant.2) (c.loop-i.invariant.3),
      omega arith,
    )
