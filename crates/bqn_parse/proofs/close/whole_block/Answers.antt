use Rattle.std.proofs.Common.{List, map, subst}
use Rattle.bqn_syntax.specs.grammar.Classes as classes
use Rattle.bqn_syntax.specs.grammar.Parsing as parsing
use Rattle.bqn_syntax.specs.grammar.Trees.{body_of, bodies}
use Rattle.bqn_syntax.specs.declared.tree.BodyTree.{BodyTree}
use Rattle.bqn_parse.specs.Views.{element_of}
use Rattle.bqn_parse.specs.Walking.{Made}
use Rattle.bqn_parse.proofs.close.whole_block.Goals as goal

pub returns : goal.returns
returns c = λ tokens place.
    subst (λ (l : parsing.OpenBracket). Made (parsing.block_part l.opened (bodies l.done) (classes.class_of (classes.marks_in (bodies l.done)))) element_of c.block.result)
    (c.in_ok-end_body.ensures tokens)
    (subst (λ (bs : List BodyTree). Made (parsing.block_part c.end_body.new.self.opened (bodies (map body_of bs)) (classes.class_of (classes.marks_in (bodies (map body_of bs))))) element_of c.block.result)
    c.in_ok-done.ensures.taken c.block.ensures)
