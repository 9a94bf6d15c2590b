-- The flat half of completeness: the items of a well piece are read as this piece.
use Rattle.std.proofs.Common.{◌≡◌, Bool, true, false, List, [], ◌∷◌, ◌++◌, Option, Some, refl, ap, ◌∙◌, subst}
use Rattle.std.specs.Option.{option_map, option_and_then}
use Rattle.bqn_syntax.specs.declared.token.Kind.{Kind}
use Rattle.bqn_syntax.specs.declared.token.Kind.TheVariants as kind
use Rattle.bqn_syntax.specs.declared.token.Token.{Token}
use Rattle.bqn_syntax.specs.declared.tree.Arrow.TheVariants as arrow
use Rattle.bqn_syntax.specs.declared.sort.Tag.{Tag}
use Rattle.bqn_syntax.specs.declared.sort.Tag.TheVariants as tag
use Rattle.bqn_syntax.specs.grammar.Sorts.{tag as tag_of, is_word}
use Rattle.bqn_syntax.specs.grammar.Items.{Item, Drawn, Term, leaf_pattern, terms_of, piece_pattern}
use Rattle.bqn_syntax.specs.grammar.Units.{Unit', Arrow', alone, units_of}
use Rattle.bqn_syntax.specs.grammar.Expressions.{expression, exported, statement, predicate, units_in, piece_expression, piece_statement, piece_predicate}
use Rattle.bqn_syntax.specs.grammar.Trees.{Pattern, Name, Skip, Literal, ListPattern, StrandPattern, Expr, Leaf, Eval, Predicate, Export}
use Rattle.bqn_syntax.specs.grammar.Well.{WellExpr, WellPattern, IsValue}
use Rattle.bqn_grammar.proofs.TreeItems.{pattern_items, expr_items}
use Rattle.bqn_grammar.proofs.found.Patterns.{pattern_read, pattern_has_items}
use Rattle.bqn_grammar.proofs.found.Steps.{units_terms, target_unit, expr_units, target_given, start, expr_terms_of}
use Rattle.bqn_grammar.proofs.found.Units.{expr_units_of, target_units_of}
use Rattle.bqn_grammar.proofs.found.Expressions.{expression_read, statement_read, predicate_read}

-- Expressions and statements.

units_are : (items : List Item) (us : List Unit') → terms_of items ≡ Some (units_terms us) → units_of (units_terms us) ≡ Some us → units_in items ≡ Some us
units_are items us t u = ap (λ (o : Option (List Term)). option_and_then units_of o) t ∙ u

expr_units_in : (e : Expr) → WellExpr e → units_in (expr_items e) ≡ Some (expr_units e)
expr_units_in e w = units_are (expr_items e) (expr_units e) (expr_terms_of e w) (expr_units_of e w)

pub expression_found : (e : Expr) → WellExpr e → piece_expression (expr_items e) ≡ Some e
expression_found e w = ap (λ (o : Option (List Unit')). option_and_then expression o) (expr_units_in e w) ∙ expression_read e w

pub evaluated_found : (e : Expr) → WellExpr e → piece_statement (expr_items e) ≡ Some (Eval e)
evaluated_found e w = ap (λ (o : Option (List Unit')). option_and_then statement o) (expr_units_in e w) ∙ statement_read (expr_units e) e (expression_read e w)

pub predicate_found : (e : Expr) → IsValue e → WellExpr e → piece_predicate (expr_items e) ≡ Some (Predicate e)
predicate_found e v w = ap (λ (o : Option Expr). option_and_then predicate o) (expression_found e w) ∙ predicate_read e v

-- Exports.

kind_exported : (t : Token) (k : Kind) → is_word k ≡ true → leaf_pattern false k t ≡ Some (Name t)
kind_exported t (kind.Word n r) w = refl
kind_exported t _ w = absurd (cc)

leaf_exported : (g : Tag) (t : Token) → exported (alone g (Leaf t)) ≡ leaf_pattern false t.kind t
leaf_exported tag.Subject t = refl
leaf_exported tag.Function t = refl
leaf_exported tag.Mod1 t = refl
leaf_exported tag.Mod2 t = refl
leaf_exported tag.Nothing t = refl

target_exported : (q : Pattern) → WellPattern false q → exported (target_unit q) ≡ Some q
target_exported (Name t) w = leaf_exported (tag_of (Leaf t)) t ∙ kind_exported t t.kind w
target_exported (Skip place) w = refl
target_exported (Literal t) w = absurd (cc (w.0))
target_exported (ListPattern qs) w = refl
target_exported (StrandPattern qs) w = refl

pub exported_found : (q : Pattern) → WellPattern false q → piece_statement (pattern_items q ++ Drawn arrow.Export ∷ []) ≡ Some (Export q)
exported_found q w =
    ap (λ (o : Option (List Unit')). option_and_then statement o)
    (units_are (pattern_items q ++ Drawn arrow.Export ∷ []) (Arrow' arrow.Export ∷ target_unit q ∷ []) (target_given q arrow.Export w start [] refl) (target_units_of q arrow.Export))
    ∙ ap (λ (o : Option Pattern). option_map (λ (p : Pattern). Export p) o) (target_exported q w)

-- Each piece has an item.

nothing_read : (items : List Item) (e : Expr) → piece_expression items ≡ Some e → items ≡ [] → ⊥
nothing_read items e h n =
    let k : piece_expression [] ≡ Some e = subst (λ (l : List Item). piece_expression l ≡ Some e) n h in
    absurd (cc)

pub items_are_some : (e : Expr) → WellExpr e → expr_items e ≡ [] → ⊥
items_are_some e w n = nothing_read (expr_items e) e (expression_found e w) n

-- the first item, and those after it
pub record Begins (items : List Item) : Type 0 where
  pub first : Item
  pub rest : List Item
  pub are : items ≡ first ∷ rest

some_items : (items : List Item) → (items ≡ [] → ⊥) → Begins items
some_items [] n = absurd (n refl)
some_items (i ∷ is) n = record { first = i; rest = is; are = refl }

pub items_begin : (e : Expr) → WellExpr e → Begins (expr_items e)
items_begin e w = some_items (expr_items e) (items_are_some e w)

pub pattern_items_begin : (literals : Bool) (q : Pattern) → WellPattern literals q → Begins (pattern_items q)
pattern_items_begin literals q w = some_items (pattern_items q) (pattern_has_items literals q w)
