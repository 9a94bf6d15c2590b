use Rattle.std.proofs.Common.{◌∷◌, [], ◌++◌, List, map, ap, ◌∙◌}
use Rattle.bqn_syntax.specs.grammar.Trees.{stmt_of, stmts}
use Rattle.bqn_scope.specs.Numbering.{body_shown}
use Rattle.bqn_code.specs.declared.code.Body.{Body}
use Rattle.bqn_compile.specs.Shown.{setting_shown}
use Rattle.bqn_compile.specs.Walking.{setting_of, names_of}
use Rattle.bqn_compile.proofs.Bodies.{program-made}
use Rattle.bqn_compile.proofs.blocks.program_blocks.Goals as goal

pub returns : goal.returns
unfolding setting_of names_of
returns c =
    c.new-4.ensures
    ∙ program-made (setting_shown c.args.uses.now c.args.pools.now) (map body_shown c.args.names.now) (stmts (map stmt_of c.args.statements.now))
    (record { at = c.start.result; code = c.new.result; blocks = c.new-2.result }) c.reserve.new.out c.body.new.out c.fill.new.out c.in_ok-place.place c.in_ok-own.own c.new-3.result
    c.start.ensures c.new-2.ensures.items c.in_ok-place.ensures.place c.in_ok-place.ensures.walk c.in_ok-own.ensures.made c.in_ok-own.ensures.walk
    (c.new-3.ensures ∙ c.in_ok-push.ensures.items ∙ ap (λ (bs : List Body). bs ++ c.in_ok-own.own ∷ []) c.new-bodies.ensures.items)
    c.fill.ensures
