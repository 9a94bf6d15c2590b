-- A bracket that closes.
use Rattle.std.proofs.Common.{◌≡◌, ◌<◌, List, [], ◌∷◌, ◌++◌, Ok, Err, length, map, refl, ap, ◌∙◌, arith, Box}
use Rattle.std.specs.Global.{Global}
use Rattle.bqn_base.specs.declared.place.Place.{Place}
use Rattle.bqn_base.specs.declared.refusal.Refusal.TheVariants as refusal
use Rattle.bqn_syntax.specs.declared.tree.Expr.{Expr as CodeExpr}
use Rattle.bqn_syntax.specs.declared.token.Token.{Token}
use Rattle.bqn_syntax.specs.grammar.Items.{OfPart}
use Rattle.bqn_syntax.specs.grammar.Parsing as parsing
use Rattle.bqn_syntax.specs.grammar.Trees.{expr_of, exprs, Merge, Paren}
use Rattle.bqn_parse.specs.declared.open_bracket.OpenBracket.{OpenBracket}
use Rattle.bqn_parse.specs.Walking.{around_shown, bracket_shown}
use Rattle.bqn_parse.proofs.Stepping.{pushed-shown}

pub parens-one : (place : Place) (all xs : List CodeExpr) (x : CodeExpr) → all ≡ xs ++ x ∷ [] → xs ≡ [] → parsing.parens_part place (map expr_of all) ≡ Ok (OfPart (Paren (expr_of x)))
parens-one place all xs x e none = ap (λ (es : List CodeExpr). parsing.parens_part place (map expr_of es)) (e ∙ ap (λ (ys : List CodeExpr). ys ++ x ∷ []) none)

many : (place : Place) (xs : List CodeExpr) (x : CodeExpr) → 0 < length xs → parsing.parens_part place (map expr_of (xs ++ x ∷ [])) ≡ Err (refusal.Grammar place)
many place [] x some = absurd (omega arith)
many place (y ∷ []) x some = refl
many place (y ∷ z ∷ xs) x some = refl

pub parens-many : (place : Place) (all xs : List CodeExpr) (x : CodeExpr) → all ≡ xs ++ x ∷ [] → 0 < length xs → parsing.parens_part place (map expr_of all) ≡ Err (refusal.Grammar place)
parens-many place all xs x e some = ap (λ (es : List CodeExpr). parsing.parens_part place (map expr_of es)) e ∙ many place xs x some

pub ruleset parens_laws = (parens-one, parens-many)

pub merge-some : (place : Place) (all : List CodeExpr) → 0 < length all → parsing.merge_part place (map expr_of all) ≡ Ok (OfPart (Merge (exprs (map expr_of all))))
merge-some place [] some = absurd (omega arith)
merge-some place (x ∷ xs) some = refl

pub ruleset merge_laws = (merge-some)

-- the bracket around, and those around that
pub around-popped : (tokens : List Token) (outer rest : List (Box OpenBracket Global)) (around : Box OpenBracket Global) → outer ≡ rest ++ around ∷ [] → around_shown tokens outer ≡ bracket_shown tokens around.value ∷ around_shown tokens rest
around-popped tokens outer rest around e = ap (around_shown tokens) e ∙ pushed-shown tokens rest around

pub ruleset hand_laws = (around-popped)
