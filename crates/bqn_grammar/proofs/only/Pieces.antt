-- What is read of a piece is spelled by its items alone, and is well.
use Rattle.std.proofs.Common.{◌≡◌, ◌≤◌, ℕ, true, false, List, [], ◌∷◌, ◌++◌, Some, refl, sym, ap, ◌∙◌, subst}
use Rattle.std.specs.Option.{option_map, option_and_then}
use Rattle.bqn_syntax.specs.declared.tree.Arrow.TheVariants as arrow
use Rattle.bqn_syntax.specs.grammar.Classes.{is_predicate}
use Rattle.bqn_syntax.specs.grammar.Items.{Item, Drawn, terms_of}
use Rattle.bqn_syntax.specs.grammar.Units.{Unit', Absent, Arrow', Aim, units_of}
use Rattle.bqn_syntax.specs.grammar.Expressions.{expression, single, exported_part, exported, statement, predicate, units_in, piece_expression, piece_statement, piece_predicate}
use Rattle.bqn_syntax.specs.grammar.Well.{WellStmt, WellPattern, stmt_depth}
use Rattle.bqn_syntax.specs.grammar.Trees.{Pattern, Skip, Expr, Value, Train, Modifier, Part, Leaf, Nothing, Stmt, Eval, Predicate, Export}
use Rattle.bqn_grammar.proofs.TreeItems.{part_item, part_items, pattern_items, expr_items, GoodItems, ItemDepths}
use Rattle.bqn_grammar.proofs.only.Elements.{map_some, and_then_some, PatternOf, leaf_is}
use Rattle.bqn_grammar.proofs.only.Terms.{terms_only}
use Rattle.bqn_grammar.proofs.only.Units.{unit_items, units_items, WellUnit, WellUnits, UnitsRead, units_only}
use Rattle.bqn_grammar.proofs.only.Steps.{single_items}
use Rattle.bqn_grammar.proofs.only.Expressions.{expression_read}
use Rattle.bqn_grammar.proofs.only.Depths.{depths_split}
pub use Rattle.bqn_grammar.proofs.only.Depths.{expr_depths, pattern_depths}
pub use Rattle.bqn_grammar.proofs.only.Expressions.{Read}
pub use Rattle.bqn_grammar.proofs.only.Patterns.{ReadPattern, pattern_only}

-- Expressions.

piece_units_only : (items : List Item) (units : List Unit') → GoodItems false items → units_in items ≡ Some units → UnitsRead items units
piece_units_only items units g e =
    let m = and_then_some units_of (terms_of items) units e in
    units_only items m.0 units (terms_only items m.0 g m.1) m.2

pub expression_only : (items : List Item) (e : Expr) → GoodItems false items → piece_expression items ≡ Some e → Read items e
expression_only items e g h =
    let m = and_then_some expression (units_in items) e h in
    let u = piece_units_only items m.0 g m.1 in
    let r = expression_read m.0 e u.well m.2 in
    record { written = r.written ∙ u.written; well = r.well }

-- Statements.

abbrev pub stmt_items : Stmt → List Item
stmt_items (Eval e) = expr_items e
stmt_items (Predicate e) = expr_items e
stmt_items (Export q) = pattern_items q ++ Drawn arrow.Export ∷ []

pub record ReadStmt (items : List Item) (s : Stmt) : Type 0 where
  pub written : stmt_items s ≡ items
  pub well : WellStmt true s

exported_part_is : (x : Part) (q : Pattern) → exported_part x ≡ Some q → PatternOf false (part_items x) q
exported_part_is (Leaf t) q e = leaf_is false t.kind t q refl e
exported_part_is (Nothing place) q e = let n : Skip place ≡ q = cc in subst (λ (p : Pattern). PatternOf false (part_item (Nothing place) ∷ []) p) n (record { written = refl; element = tt; well = tt })
exported_part_is _ q e = absurd (cc)

record Exported (u : Unit') (q : Pattern) : Type 0 where
  pub written : pattern_items q ≡ unit_items u
  pub well : WellPattern false q

exported_single : (u : Unit') (q : Pattern) → option_and_then exported_part (single u) ≡ Some q → Exported u q
exported_single u q e =
    let m = and_then_some exported_part (single u) q e in
    let k = exported_part_is m.0 q m.2 in
    record { written = k.written ∙ sym (single_items u m.0 m.1); well = k.well }

exported_is : (u : Unit') (q : Pattern) → WellUnit u → exported u ≡ Some q → Exported u q
exported_is (Aim p) q w e = let n : p ≡ q = cc in subst (λ (r : Pattern). Exported (Aim p) r) n (record { written = refl; well = w.1 })
exported_is (Absent x) q w e = let k = exported_part_is x q e in record { written = k.written; well = k.well }
exported_is u q w e = exported_single u q e

-- a statement that is no predicate
record Plain (items : List Item) (s : Stmt) : Type 0 where
  pub read : ReadStmt items s
  pub plain : is_predicate s ≡ false
  pub well : WellStmt false s

export_read : (u : Unit') (s : Stmt) → WellUnit u → option_map (λ (q : Pattern). Export q) (exported u) ≡ Some s → Plain (unit_items u ++ Drawn arrow.Export ∷ []) s
export_read u s w h =
    let m = map_some (λ (q : Pattern). Export q) (exported u) s h in
    let k = exported_is u m.0 w m.1 in
    subst (λ (x : Stmt). Plain (unit_items u ++ Drawn arrow.Export ∷ []) x) m.2 (record {
      read = record { written = ap (λ (l : List Item). l ++ Drawn arrow.Export ∷ []) k.written; well = k.well };
      plain = refl;
      well = k.well;
    })

eval_read : (units : List Unit') (s : Stmt) → WellUnits units → option_map (λ (e : Expr). Eval e) (expression units) ≡ Some s → Plain (units_items units) s
eval_read units s w h =
    let m = map_some (λ (e : Expr). Eval e) (expression units) s h in
    let r = expression_read units m.0 w m.1 in
    subst (λ (x : Stmt). Plain (units_items units) x) m.2 (record { read = record { written = r.written; well = r.well }; plain = refl; well = r.well })

statement_read : (units : List Unit') (s : Stmt) → WellUnits units → statement units ≡ Some s → Plain (units_items units) s
statement_read (Arrow' arrow.Export ∷ u ∷ []) s w h = export_read u s w.2.0 h
statement_read units s w h = eval_read units s w h

pub statement_only : (items : List Item) (s : Stmt) → GoodItems false items → piece_statement items ≡ Some s → ReadStmt items s × (is_predicate s ≡ false) × WellStmt false s
statement_only items s g h =
    let m = and_then_some statement (units_in items) s h in
    let u = piece_units_only items m.0 g m.1 in
    let k = statement_read m.0 s u.well m.2 in
    (record { written = k.read.written ∙ u.written; well = k.read.well }, k.plain, k.well)

predicate_read : (items : List Item) (e : Expr) (s : Stmt) → Read items e → predicate e ≡ Some s → ReadStmt items s × (is_predicate s ≡ true)
predicate_read items (Value last ss) s r h =
    let q : Predicate (Value last ss) ≡ s = cc in
    subst (λ (x : Stmt). ReadStmt items x × (is_predicate x ≡ true)) q (record { written = r.written; well = (refl, tt, r.well) }, refl)
predicate_read items (Train ts ds) s r h = absurd (cc)
predicate_read items (Modifier ts x) s r h = absurd (cc)

pub predicate_only : (items : List Item) (s : Stmt) → GoodItems false items → piece_predicate items ≡ Some s → ReadStmt items s × (is_predicate s ≡ true)
predicate_only items s g h =
    let m = and_then_some predicate (piece_expression items) s h in
    predicate_read items m.0 s (expression_only items m.0 g m.1) m.2

pub stmt_depths : (n : ℕ) (s : Stmt) → ItemDepths n (stmt_items s) → stmt_depth s ≤ n
stmt_depths n (Eval e) d = expr_depths n e d
stmt_depths n (Predicate e) d = expr_depths n e d
stmt_depths n (Export q) d = let h = depths_split n (pattern_items q) (Drawn arrow.Export ∷ []) d in pattern_depths n q h.0
