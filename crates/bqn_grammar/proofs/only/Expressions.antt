-- An expression is read from what spells it alone, and it is well.
use Rattle.std.proofs.Common.{◌≡◌, Bool, true, false, not, List, [], ◌∷◌, ◌++◌, Option, Some, refl, sym, ap, ◌∙◌, subst, append_assoc, append-nil}
use Rattle.std.specs.Option.{option_map}
use Rattle.bqn_syntax.specs.declared.token.Token.{Token}
use Rattle.bqn_syntax.specs.declared.tree.Arrow.{Arrow}
use Rattle.bqn_syntax.specs.declared.tree.Arrow.TheVariants as arrow
use Rattle.bqn_syntax.specs.declared.sort.Tag.{Tag}
use Rattle.bqn_syntax.specs.declared.sort.Tag.TheVariants as tag
use Rattle.bqn_syntax.specs.grammar.Sorts.{tag as tag_of, named}
use Rattle.bqn_syntax.specs.grammar.Items.{Item}
use Rattle.bqn_syntax.specs.grammar.Units.{Unit', Subject, Function, Absent, Alone, Arrow'}
use Rattle.bqn_syntax.specs.grammar.Expressions.{changed, steps_of, value, targets, train, expression}
use Rattle.bqn_syntax.specs.grammar.Well.{WellExpr, WellPart, WellDerived, WellDeriveds, IsModifier, IsFunction, PlaceFits, TrainFits, IsSome, any_left_of, IsLast, BeginsWithChange}
use Rattle.bqn_syntax.specs.grammar.Trees.{Expr, Value, Train, Modifier, Part, Derived, derived, no_uses, and_uses, MaybePart, none, some, Steps, Deriveds, no_deriveds, and_deriveds}
use Rattle.bqn_grammar.proofs.TreeItems.{part_items, derived_items, deriveds_items, steps_items, expr_items}
use Rattle.bqn_grammar.proofs.only.Elements.{map_some}
use Rattle.bqn_grammar.proofs.only.Units.{units_items, WellUnit, WellUnits}
use Rattle.bqn_grammar.proofs.only.Steps.{steps_read, begins_apply, begins_change, targets_read}

pub record Read (items : List Item) (e : Expr) : Type 0 where
  pub written : expr_items e ≡ items
  pub well : WellExpr e

-- Trains.

no_modifier : (x : Part) (t : Tag) → (IsModifier t → ⊥) → tag_of x ≡ t → IsModifier (tag_of x) → ⊥
no_modifier x t n e i = n (subst IsModifier e i)

function_fits : (any : Bool) (f : Derived) → IsFunction f → PlaceFits any f
function_fits false f i = i
function_fits true (derived x no_uses) i = no_modifier x tag.Function (λ b. b) i
function_fits true (derived x (and_uses u us)) i = i

left_more : (f : Derived) (ds : Deriveds) → IsSome ds → any_left_of (and_deriveds f ds) ≡ not (any_left_of ds)
left_more f no_deriveds s = elim s [ ]
left_more f (and_deriveds d ds) s = refl

-- what is kept of the parts so far
record Parts (any : Bool) (ds : Deriveds) : Type 0 where
  pub next : any ≡ any_left_of ds
  pub any_part : IsSome ds
  pub fit : TrainFits ds
  pub well : WellDeriveds ds

more_parts : (any : Bool) (d : Derived) (ds : Deriveds) → PlaceFits any d → WellDerived d → Parts any ds → Parts (not any) (and_deriveds d ds)
more_parts any d ds p w k = record {
  next = ap not k.next ∙ sym (left_more d ds k.any_part);
  any_part = tt;
  fit = (subst (λ (b : Bool). PlaceFits b d) k.next p, k.fit);
  well = (w, k.well);
}

train_end : (any : Bool) (ds : Deriveds) (units : List Unit') (e : Expr) → Parts any ds → option_map (λ (ts : List (Token × Arrow)). Train ts ds) (targets tag.Function [] units) ≡ Some e → Read (units_items units ++ deriveds_items ds) e
train_end any ds units e k h =
    let m = map_some (λ (ts : List (Token × Arrow)). Train ts ds) (targets tag.Function [] units) e h in
    let r = targets_read tag.Function [] units m.0 tt m.1 in
    subst (λ (x : Expr). Read (units_items units ++ deriveds_items ds) x) m.2 (record {
      written = ap (λ (l : List Item). l ++ deriveds_items ds) (r.written ∙ append-nil (units_items units));
      well = (r.fit, k.any_part, k.fit, k.well);
    })

same_items : (a b : List Item) (e : Expr) → a ≡ b → Read a e → Read b e
same_items a b e q r = record { written = r.written ∙ q; well = r.well }

part_of_train : (units : List Unit') (x : Part) (ds : Deriveds) (e : Expr) → Read (units_items units ++ deriveds_items (and_deriveds (derived x no_uses) ds)) e → Read ((units_items units ++ part_items x) ++ deriveds_items ds) e
part_of_train units x ds e r =
    same_items (units_items units ++ ((part_items x ++ []) ++ deriveds_items ds)) ((units_items units ++ part_items x) ++ deriveds_items ds) e
    (ap (λ (l : List Item). units_items units ++ (l ++ deriveds_items ds)) (append-nil (part_items x)) ∙ sym (append_assoc (units_items units) (part_items x) (deriveds_items ds))) r

train_read : (any : Bool) (ds : Deriveds) (units : List Unit') (e : Expr) → Parts any ds → WellUnits units → train any ds units ≡ Some e → Read (units_items units ++ deriveds_items ds) e
train_read any ds (Function f ∷ units) e k w h =
    same_items (units_items units ++ (derived_items f ++ deriveds_items ds)) ((units_items units ++ derived_items f) ++ deriveds_items ds) e
    (sym (append_assoc (units_items units) (derived_items f) (deriveds_items ds)))
    (train_read (not any) (and_deriveds f ds) units e (more_parts any f ds (function_fits any f w.0.0) w.0.1 k) w.2 h)
train_read true ds (Subject x ∷ units) e k w h =
    part_of_train units x ds e (train_read false (and_deriveds (derived x no_uses) ds) units e (more_parts true (derived x no_uses) ds (no_modifier x tag.Subject (λ b. b) w.0.0) (w.0.1, tt) k) w.2 h)
train_read true ds (Absent x ∷ units) e k w h =
    part_of_train units x ds e (train_read false (and_deriveds (derived x no_uses) ds) units e (more_parts true (derived x no_uses) ds (no_modifier x tag.Nothing (λ b. b) w.0.0) (w.0.1, tt) k) w.2 h)
train_read any ds units e k w h = train_end any ds units e k h

-- Values.

value_read : (last : MaybePart) (o : Option Steps) (e : Expr) (items : List Item) → ((ss : Steps) → o ≡ Some ss → Read items (Value last ss)) → value last o ≡ Some e → Read items e
value_read last o e items k h =
    let m = map_some (λ (all : Steps). Value last all) o e h in
    subst (λ (x : Expr). Read items x) m.2 (k m.0 m.1)

last_subject : (x : Part) (ss : Steps) → tag_of x ≡ tag.Subject → IsLast (tag_of x) ss
last_subject x ss e = subst (λ (t : Tag). IsLast t ss) (sym e) tt

last_absent : (x : Part) (ss : Steps) → tag_of x ≡ tag.Nothing → IsLast tag.Nothing ss → IsLast (tag_of x) ss
last_absent x ss e i = subst (λ (t : Tag). IsLast t ss) (sym e) i

with_last : (units : List Unit') (x : Part) (ss : Steps) → WellUnits units → WellPart x → IsLast (tag_of x) ss → steps_of units ≡ Some ss → Read (units_items units ++ part_items x) (Value (some x) ss)
with_last units x ss w v i h = let r = steps_read units ss w h in record { written = ap (λ (l : List Item). l ++ part_items x) r.written; well = (i, v, r.well) }

with_none : (units : List Unit') (ss : Steps) → WellUnits units → BeginsWithChange ss → steps_of units ≡ Some ss → Read (units_items units) (Value none ss)
with_none units ss w b h = let r = steps_read units ss w h in record { written = append-nil (steps_items ss) ∙ r.written; well = (b, r.well) }

modifier_read : (units : List Unit') (m : Part) (e : Expr) → WellUnit (Alone m) → option_map (λ (ts : List (Token × Arrow)). Modifier ts m) (targets (tag_of m) [] units) ≡ Some e → Read (units_items units ++ part_items m) e
modifier_read units x e w h =
    let m = map_some (λ (ts : List (Token × Arrow)). Modifier ts x) (targets (tag_of x) [] units) e h in
    let r = targets_read (tag_of x) [] units m.0 tt m.1 in
    subst (λ (y : Expr). Read (units_items units ++ part_items x) y) m.2 (record {
      written = ap (λ (l : List Item). l ++ part_items x) (r.written ∙ append-nil (units_items units));
      well = (w.0, r.fit, w.1);
    })

pub expression_read : (units : List Unit') (e : Expr) → WellUnits units → expression units ≡ Some e → Read (units_items units) e
expression_read (Subject x ∷ units) e w h =
    value_read (some x) (steps_of units) e (units_items units ++ part_items x) (λ ss k. with_last units x ss w.2 w.0.1 (last_subject x ss w.0.0) k) h
expression_read (Absent x ∷ Function f ∷ units) e w h =
    value_read (some x) (steps_of (Function f ∷ units)) e (units_items (Function f ∷ units) ++ part_items x) (λ ss k. with_last (Function f ∷ units) x ss w.2 w.0.1 (last_absent x ss w.0.0 (begins_apply f units ss k)) k) h
expression_read (Arrow' arrow.Change ∷ Function f ∷ Subject x ∷ units) e w h =
    value_read none (changed (named tag.Subject x) f (steps_of units)) e (units_items (Arrow' arrow.Change ∷ Function f ∷ Subject x ∷ units)) (λ ss k. with_none (Arrow' arrow.Change ∷ Function f ∷ Subject x ∷ units) ss w (begins_change (named tag.Subject x) f (steps_of units) ss k) k) h
expression_read (Function f ∷ units) e w h =
    same_items (units_items units ++ (derived_items f ++ [])) (units_items units ++ derived_items f) e
    (ap (λ (l : List Item). units_items units ++ l) (append-nil (derived_items f)))
    (train_read false (and_deriveds f no_deriveds) units e (record { next = refl; any_part = tt; fit = (w.0.0, tt); well = (w.0.1, tt) }) w.2 h)
expression_read (Alone m ∷ units) e w h = modifier_read units m e w.0 h
expression_read _ e w h = absurd (cc)
