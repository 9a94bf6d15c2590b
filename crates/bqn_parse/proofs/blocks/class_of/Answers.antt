use Rattle.std.proofs.Common.{◌≡◌, ◌∙◌, List, map, ap, Ok}
use Rattle.bqn_syntax.specs.grammar.Classes as classes
use Rattle.bqn_syntax.specs.grammar.Trees.{body_of, bodies}
use Rattle.bqn_headers.specs.declared.class.BodyMarks.{BodyMarks}
use Rattle.bqn_headers.specs.Heading.{marks_shown}
use Rattle.bqn_parse.specs.Marking.{brief}
use Rattle.bqn_parse.proofs.Briefs.{class-told}
use Rattle.bqn_parse.proofs.blocks.class_of.Goals as goal

pub returns : goal.returns
returns c =
    let all = classes.marks_in (bodies (map body_of c.args.all.now)) in
    let ms = c.in_ok-marks.marks.items in
    let e : map marks_shown ms ≡ map brief all = cc (c.in_ok-marks.ensures) in
    ap Ok (class-told ms all c.block_class.result e (c.block_class.ensures ∙ ap (λ (xs : List BodyMarks). classes.class_of (map marks_shown xs)) c.deref.ensures.value))
