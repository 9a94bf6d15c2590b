use Rattle.std.proofs.Common.{drop, subst, sym, Result, arith}
use Rattle.bqn_base.specs.declared.refusal.Refusal.{Refusal}
use Rattle.bqn_syntax.specs.grammar.Parsing as parsing
use Rattle.bqn_syntax.specs.grammar.Trees.{Stmts}
use Rattle.bqn_syntax.specs.grammar.Sorts.{sort_of}
use Rattle.bqn_parse.specs.declared.error.ParseError.{ParseError}
use Rattle.bqn_parse.specs.Looking.{ahead_shown}
use Rattle.bqn_parse.specs.Views.{Gives}
use Rattle.bqn_parse.specs.Walking.{walk_shown, Moves}
use Rattle.bqn_parse.proofs.Parsed.{going-step, going-failed, going-end}
use Rattle.bqn_parse.proofs.parsing.walk.Goals as goal

pub tokens-preserved : goal.tokens-preserved
tokens-preserved c =
    let tokens = c.args.tokens.now in
    let index = c.tokens.index in
    let so = walk_shown tokens c.tokens.walk in
    let next = walk_shown tokens c.step.new.walk in
    let token = c.index-tokens-index in
    let a = c.ahead_of-ahead in
    going-step index c.tokens.left.items a.new.left.items so next tokens token.result a.result c.tokens.invariant (omega arith) token.is a.ensures.ahead a.ensures.left
    (subst (λ (r : Result (Unit {0}) ParseError). Moves (parsing.step (sort_of token.result.kind) (ahead_shown a.result) token.result (drop index tokens) so) next r) c.in-Ok.is c.step.ensures)

pub returns-in-Err : goal.returns-in-Err
returns-in-Err c =
    let tokens = c.args.tokens.now in
    let index = c.tokens.index in
    let so = walk_shown tokens c.tokens.walk in
    let next = walk_shown tokens c.step.new.walk in
    let token = c.index-tokens-index in
    let a = c.ahead_of-ahead in
    going-failed index c.tokens.left.items so next tokens token.result a.result c.in-Err.error c.tokens.invariant (omega arith) token.is a.ensures.ahead
    (subst (λ (r : Result (Unit {0}) ParseError). Moves (parsing.step (sort_of token.result.kind) (ahead_shown a.result) token.result (drop index tokens) so) next r) c.in-Err.is c.step.ensures)

pub returns : goal.returns
returns c =
    let tokens = c.args.tokens.now in
    subst (λ (a : Result Stmts Refusal). Gives a c.finish.result) (sym (going-end c.tokens.index c.tokens.left.items (walk_shown tokens c.tokens.walk) tokens c.tokens.invariant (omega arith))) c.finish.ensures
