-- What each tree is as plain data, level by level.
use Rattle.std.proofs.Common.{◌≡◌, List, map, Option, Some, None, rules}
use Rattle.std.specs.Option.{option_map}
use Rattle.bqn_base.specs.declared.place.Place.{Place}
use Rattle.bqn_syntax.specs.declared.token.Token.{Token}
use Rattle.bqn_syntax.specs.declared.tree.Arrow.{Arrow}
use Rattle.bqn_syntax.specs.declared.pattern.Pattern.{Pattern as CodePattern, the_lemmas as pattern_lemmas}
use Rattle.bqn_syntax.specs.declared.pattern.Pattern.TheVariants as pattern
use Rattle.bqn_syntax.specs.declared.tree.Expr.{Expr as CodeExpr, the_lemmas}
use Rattle.bqn_syntax.specs.declared.tree.Expr.TheVariants as expr
use Rattle.bqn_syntax.specs.declared.tree.ModUse.TheVariants as use_code
use Rattle.bqn_syntax.specs.declared.tree.Part.{Part as CodePart}
use Rattle.bqn_syntax.specs.declared.tree.Part.TheVariants as part
use Rattle.bqn_syntax.specs.declared.tree.Step.{Step as CodeStep}
use Rattle.bqn_syntax.specs.declared.tree.Step.TheVariants as step
use Rattle.bqn_syntax.specs.declared.tree.Stmt.TheVariants as stmt
use Rattle.bqn_syntax.specs.declared.tree.BlockTree.{BlockTree as CodeBlock, out-BlockTree}
use Rattle.bqn_syntax.specs.declared.tree.BodyTree.{BodyTree as CodeBody, out-BodyTree}
use Rattle.bqn_syntax.specs.declared.tree.Derived.{Derived as CodeDerived, out-Derived}
use Rattle.bqn_syntax.specs.grammar.Trees.{Name, Skip, Literal, ListPattern, StrandPattern, Value, Train, Modifier, One, Two, Leaf, Elements, Merge, Paren, Block, Field, Strand, Nothing, Apply, Assign, Modify, Eval, Predicate, Export, block, body, derived, none, some, maybe_part, patterns, exprs, uses, parts, steps, stmts, bodies, deriveds, pattern_of, header_of, expr_of, use_of, part_of, step_of, stmt_of, block_of, body_of, derived_of}

pub pattern-Name : (token : Token) → pattern_of (pattern.Name token) ≡ Name token
pattern-Name token = search (rules, pattern_lemmas)

pub pattern-Skip : (place : Place) → pattern_of (pattern.Skip place) ≡ Skip place
pattern-Skip place = search (rules, pattern_lemmas)

pub pattern-Literal : (token : Token) → pattern_of (pattern.Literal token) ≡ Literal token
pattern-Literal token = search (rules, pattern_lemmas)

pub pattern-List : (all : List CodePattern) → pattern_of (pattern.List all) ≡ ListPattern (patterns (map pattern_of all))
pattern-List all = search (rules, pattern_lemmas)

pub pattern-Strand : (all : List CodePattern) → pattern_of (pattern.Strand all) ≡ StrandPattern (patterns (map pattern_of all))
pattern-Strand all = search (rules, pattern_lemmas)

pub expr-Value : (last : Option CodePart) (all : List CodeStep) → expr_of (expr.Value last all)
    ≡ Value (maybe_part (option_map part_of last)) (steps (map step_of all))
expr-Value None all = search (rules, the_lemmas)
expr-Value (Some first) all = search (rules, the_lemmas)

-- and where it is known whether there is a part
pub expr-Value-none : (all : List CodeStep) → expr_of (expr.Value None all) ≡ Value none (steps (map step_of all))
expr-Value-none all = search (rules, the_lemmas)

pub expr-Value-some : (last : CodePart) (all : List CodeStep) → expr_of (expr.Value (Some last) all) ≡ Value (some (part_of last)) (steps (map step_of all))
expr-Value-some last all = search (rules, the_lemmas)

pub expr-Train : (targets : List (Token × Arrow)) (all : List CodeDerived) → expr_of (expr.Train targets all) ≡ Train targets (deriveds (map derived_of all))
expr-Train targets all = search (rules, the_lemmas)

pub expr-Modifier : (targets : List (Token × Arrow)) (modifier : CodePart) → expr_of (expr.Modifier targets modifier) ≡ Modifier targets (part_of modifier)
expr-Modifier targets modifier = search (rules, the_lemmas)

pub use-One : (modifier : CodePart) → use_of (use_code.One modifier) ≡ One (part_of modifier)
use-One modifier = search (rules, the_lemmas)

pub use-Two : (modifier right : CodePart) → use_of (use_code.Two modifier right) ≡ Two (part_of modifier) (part_of right)
use-Two modifier right = search (rules, the_lemmas)

pub part-Leaf : (token : Token) → part_of (part.Leaf token) ≡ Leaf token
part-Leaf token = search (rules, the_lemmas)

pub part-List : (all : List CodeExpr) → part_of (part.List all) ≡ Elements (exprs (map expr_of all))
part-List all = search (rules, the_lemmas)

pub part-Merge : (all : List CodeExpr) → part_of (part.Merge all) ≡ Merge (exprs (map expr_of all))
part-Merge all = search (rules, the_lemmas)

pub part-Paren : (inner : CodeExpr) → part_of (part.Paren inner) ≡ Paren (expr_of inner)
part-Paren inner = search (rules, the_lemmas)

pub part-Block : (inner : CodeBlock) → part_of (part.Block inner) ≡ Block (block_of inner)
part-Block inner = search (rules, the_lemmas)

pub part-Field : (base : CodePart) (names : List Token) → part_of (part.Field base names) ≡ Field (part_of base) names
part-Field base names = search (rules, the_lemmas)

pub part-Strand : (all : List CodePart) → part_of (part.Strand all) ≡ Strand (parts (map part_of all))
part-Strand all = search (rules, the_lemmas)

pub part-Nothing : (place : Place) → part_of (part.Nothing place) ≡ Nothing place
part-Nothing place = search (rules, the_lemmas)

pub step-Apply : (function : CodeDerived) (left : Option CodePart) → step_of (step.Apply function left)
    ≡ Apply (derived_of function) (maybe_part (option_map part_of left))
step-Apply function None = search (rules, the_lemmas)
step-Apply function (Some before) = search (rules, the_lemmas)

pub step-Apply-none : (function : CodeDerived) → step_of (step.Apply function None) ≡ Apply (derived_of function) none
step-Apply-none function = search (rules, the_lemmas)

pub step-Apply-some : (function : CodeDerived) (left : CodePart) → step_of (step.Apply function (Some left)) ≡ Apply (derived_of function) (some (part_of left))
step-Apply-some function left = search (rules, the_lemmas)

pub step-Assign : (target : CodePattern) (arrow : Arrow) → step_of (step.Assign target arrow) ≡ Assign (pattern_of target) arrow
step-Assign target arrow = search (rules, the_lemmas)

pub step-Modify : (target : Token) (function : CodeDerived) → step_of (step.Modify target function) ≡ Modify target (derived_of function)
step-Modify target function = search (rules, the_lemmas)

pub stmt-Eval : (inner : CodeExpr) → stmt_of (stmt.Eval inner) ≡ Eval (expr_of inner)
stmt-Eval inner = search (rules, the_lemmas)

pub stmt-Predicate : (inner : CodeExpr) → stmt_of (stmt.Predicate inner) ≡ Predicate (expr_of inner)
stmt-Predicate inner = search (rules, the_lemmas)

pub stmt-Export : (target : CodePattern) → stmt_of (stmt.Export target) ≡ Export (pattern_of target)
stmt-Export target = search (rules, the_lemmas)

pub block-out : (b : CodeBlock) → block_of b ≡ block (out-BlockTree b).place (out-BlockTree b).class (bodies (map body_of (out-BlockTree b).bodies))
block-out b = search (rules, the_lemmas)

pub body-out : (b : CodeBody) → body_of b ≡ body (option_map header_of (out-BodyTree b).header) (stmts (map stmt_of (out-BodyTree b).statements))
body-out b = search (rules, the_lemmas)

pub derived-out : (d : CodeDerived) → derived_of d ≡ derived (part_of (out-Derived d).first) (uses (map use_of (out-Derived d).uses))
derived-out d = search (rules, the_lemmas)

pub ruleset tree_equations = (
  pattern-Name,
  pattern-Skip,
  pattern-Literal,
  pattern-List,
  pattern-Strand,
  expr-Value,
  expr-Value-none,
  expr-Value-some,
  expr-Train,
  expr-Modifier,
  use-One,
  use-Two,
  part-Leaf,
  part-List,
  part-Merge,
  part-Paren,
  part-Block,
  part-Field,
  part-Strand,
  part-Nothing,
  step-Apply,
  step-Apply-none,
  step-Apply-some,
  step-Assign,
  step-Modify,
  stmt-Eval,
  stmt-Predicate,
  stmt-Export,
  block-out,
  body-out,
  derived-out,
)
