use Rattle.std.proofs.Common.{◌∙◌, rules, tests}
use Rattle.std.proofs.lemmas.Iterator.{YieldsList-from_slice}
use Rattle.std.proofs.lemmas.Iterator.Search.{all_from_yields_List}
use Rattle.bqn_syntax.specs.grammar.Classes.{is_plain}
use Rattle.bqn_headers.specs.Heading.{marks_shown}
use Rattle.bqn_headers.proofs.Bodies.{list_all-map}
use Rattle.bqn_headers.proofs.class.all_are_plain.Goals as goal

pub returns : goal.returns
returns c =
    all_from_yields_List (λ m. is_plain (marks_shown m)) _ _ _ c.all.ensures.ran (YieldsList-from_slice c.args.bodies.now cc) (λ x b q k. search (rules, tests))
    ∙ list_all-map (is_plain) marks_shown c.args.bodies.now
