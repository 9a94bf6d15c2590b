use Rattle.std.proofs.Common.{◌∙◌, rules, tests}
use Rattle.std.proofs.lemmas.Iterator.{YieldsList-from_slice}
use Rattle.std.proofs.lemmas.Iterator.Search.{any_from_yields_List}
use Rattle.bqn_headers.specs.Marks.{has}
use Rattle.bqn_headers.specs.Heading.{marks_shown}
use Rattle.bqn_headers.proofs.Bodies.{list_any-map}
use Rattle.bqn_headers.proofs.class.any_has.Goals as goal

pub returns : goal.returns
returns c =
    any_from_yields_List (λ m. has c.args.mark (marks_shown m)) _ _ _ c.any.ensures.ran (YieldsList-from_slice c.args.bodies.now cc) (λ x b q k. search (rules, tests))
    ∙ list_any-map (has c.args.mark) marks_shown c.args.bodies.now
