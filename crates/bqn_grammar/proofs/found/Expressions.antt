-- The units of a tree are read as this tree.
use Rattle.std.proofs.Common.{◌≡◌, Bool, true, false, not, List, [], ◌∷◌, ◌++◌, Option, Some, refl, sym, ap, ◌∙◌, subst}
use Rattle.std.proofs.lemmas.List.{append-nil}
use Rattle.std.specs.Option.{option_map, option_and_then}
use Rattle.bqn_base.specs.declared.role.Role.TheVariants as role
use Rattle.bqn_syntax.specs.declared.token.Kind.{Kind}
use Rattle.bqn_syntax.specs.declared.token.Kind.TheVariants as kind
use Rattle.bqn_syntax.specs.declared.token.Token.{Token}
use Rattle.bqn_syntax.specs.declared.tree.Arrow.{Arrow}
use Rattle.bqn_syntax.specs.declared.tree.Arrow.TheVariants as arrow
use Rattle.bqn_syntax.specs.declared.sort.Tag.{Tag}
use Rattle.bqn_syntax.specs.declared.sort.Tag.TheVariants as tag
use Rattle.bqn_syntax.specs.grammar.Sorts.{tag as tag_of, is_name, named, token_named}
use Rattle.bqn_syntax.specs.grammar.Units.{Unit', Function, Arrow', alone}
use Rattle.bqn_syntax.specs.grammar.Expressions.{more, assigned, changed, steps_of, value, single, targets, train, expression, statement, predicate}
use Rattle.bqn_syntax.specs.grammar.Trees.{Pattern, Name, Skip, Literal, Expr, Value, Train, Modifier, Part, Leaf, Apply, Assign, Modify, Eval, Predicate, Derived, derived, none, some, no_uses, and_uses, Steps, no_steps, and_steps, Deriveds, no_deriveds, and_deriveds}
use Rattle.bqn_syntax.specs.grammar.Well.{WellExpr, WellSteps, TargetsFit, IsLeft, IsModifier, IsFunction, IsTarget, IsSome, IsValue, PlaceFits, TrainFits, any_left_of, IsLast, BeginsWithChange}
use Rattle.bqn_grammar.proofs.found.Terms.{named_is}
use Rattle.bqn_grammar.proofs.found.Steps.{target_unit, steps_units, derived_unit, deriveds_units, targets_units, expr_units}

-- Values.

name_read : (r : Tag) (t : Token) → is_name r t.kind ≡ true → named r (Leaf t) ≡ Some t
name_read r t e = ap (λ (b : Bool). token_named b t) e

left_read : (g : Tag) → IsLeft g → (x : Part) (f : Derived) (us : List Unit') → steps_of (Function f ∷ alone g x ∷ us) ≡ more (Apply f (some x)) (steps_of us)
left_read tag.Subject l x f us = refl
left_read tag.Nothing l x f us = refl
left_read _ l x f us = elim l [ ]

no_left_read : (ss : Steps) (f : Derived) → steps_of (Function f ∷ steps_units ss) ≡ more (Apply f none) (steps_of (steps_units ss))
no_left_read no_steps f = refl
no_left_read (and_steps (Apply g none) ss) f = refl
no_left_read (and_steps (Apply g (some x)) ss) f = refl
no_left_read (and_steps (Assign q a) ss) f = refl
no_left_read (and_steps (Modify t g) ss) f = refl

target_read : (q : Pattern) → IsTarget q → (a : Arrow) (us : List Unit') → steps_of (Arrow' a ∷ target_unit q ∷ us) ≡ more (Assign q a) (steps_of us)
target_read (Name t) h a us =
    ap (λ (g : Tag). steps_of (Arrow' a ∷ alone g (Leaf t) ∷ us)) (named_is tag.Subject t.kind h).1
    ∙ ap (λ (n : Option Token). assigned n a (steps_of us)) (name_read tag.Subject t h)
target_read (Skip place) h a us = elim h [ ]
target_read (Literal t) h a us = elim h [ ]
target_read _ h a us = refl

change_read : (t : Token) (f : Derived) (ss : Steps) (r : Option Steps) → is_name tag.Subject t.kind ≡ true → r ≡ Some ss → changed (named tag.Subject (Leaf t)) f r ≡ Some (and_steps (Modify t f) ss)
change_read t f ss r w h = ap (λ (n : Option Token). changed n f r) (name_read tag.Subject t w) ∙ ap (λ (o : Option Steps). more (Modify t f) o) h

steps_read : (ss : Steps) → WellSteps ss → steps_of (steps_units ss) ≡ Some ss
steps_read no_steps w = refl
steps_read (and_steps (Apply f none) ss) w = no_left_read ss f ∙ ap (λ (r : Option Steps). more (Apply f none) r) (steps_read ss w.1)
steps_read (and_steps (Apply f (some x)) ss) w = left_read (tag_of x) w.0.2 x f (steps_units ss) ∙ ap (λ (r : Option Steps). more (Apply f (some x)) r) (steps_read ss w.1)
steps_read (and_steps (Assign q a) ss) w = target_read q w.0.0 a (steps_units ss) ∙ ap (λ (r : Option Steps). more (Assign q a) r) (steps_read ss w.1)
steps_read (and_steps (Modify t f) ss) w = change_read t f ss (steps_of (steps_units ss)) w.0.0 (steps_read ss w.1)

last_read : (g : Tag) (x : Part) (ss : Steps) → IsLast g ss → WellSteps ss → expression (alone g x ∷ steps_units ss) ≡ Some (Value (some x) ss)
last_read tag.Subject x ss l w = ap (λ (r : Option Steps). value (some x) r) (steps_read ss w)
last_read tag.Nothing x (and_steps (Apply f none) ss) l w = ap (λ (r : Option Steps). value (some x) r) (steps_read (and_steps (Apply f none) ss) w)
last_read tag.Nothing x (and_steps (Apply f (some y)) ss) l w = ap (λ (r : Option Steps). value (some x) r) (steps_read (and_steps (Apply f (some y)) ss) w)
last_read tag.Nothing x _ l w = elim l [ ]
last_read _ x ss l w = elim l [ ]

changed_read : (ss : Steps) → BeginsWithChange ss → WellSteps ss → expression (steps_units ss) ≡ Some (Value none ss)
changed_read (and_steps (Modify t f) ss) b w = ap (λ (r : Option Steps). value none r) (change_read t f ss (steps_of (steps_units ss)) w.0.0 (steps_read ss w.1))
changed_read _ b w = elim b [ ]

-- Targets.

no_name : (k : Kind) → is_name tag.Nothing k ≡ true → ⊥
no_name (kind.Word n role.Subject) e = cc
no_name (kind.Word n role.Function) e = cc
no_name (kind.Word n role.Mod1) e = cc
no_name (kind.Word n role.Mod2) e = cc
no_name _ e = cc

single_is : (r g : Tag) (k : Token) → g ≡ r → is_name r k.kind ≡ true → option_and_then (named r) (single (alone g (Leaf k))) ≡ Some k
single_is r tag.Subject k e w = name_read r k w
single_is r tag.Function k e w = name_read r k w
single_is r tag.Mod1 k e w = name_read r k w
single_is r tag.Mod2 k e w = name_read r k w
single_is r tag.Nothing k e w = absurd (no_name k.kind (subst (λ (g : Tag). is_name g k.kind ≡ true) (sym e) w))

targets_read : (r : Tag) (ts so : List (Token × Arrow)) (us : List Unit') → TargetsFit r ts → targets r so (targets_units ts us) ≡ targets r (ts ++ so) us
targets_read r [] so us w = refl
targets_read r (t ∷ ts) so us w =
    targets_read r ts so (Arrow' t.1 ∷ alone (tag_of (Leaf t.0)) (Leaf t.0) ∷ us) w.1
    ∙ ap (λ (o : Option Token). option_and_then (λ (k : Token). targets r ((k, t.1) ∷ (ts ++ so)) us) o) (single_is r (tag_of (Leaf t.0)) t.0 (named_is r t.0.kind w.0).1 w.0)

all_targets : (r : Tag) (ts : List (Token × Arrow)) → TargetsFit r ts → targets r [] (targets_units ts []) ≡ Some ts
all_targets r ts w = targets_read r ts [] [] w ∙ ap (λ (l : List (Token × Arrow)). Some l) (append-nil ts)

-- Trains.

abbrev AreTargets : List Unit' → Type 0
AreTargets [] = Unit {0}
AreTargets (Arrow' a ∷ us) = Unit {0}
AreTargets _ = ⊥

are_targets : (ts : List (Token × Arrow)) (us : List Unit') → AreTargets us → AreTargets (targets_units ts us)
are_targets [] us h = h
are_targets (t ∷ ts) us h = are_targets ts (Arrow' t.1 ∷ alone (tag_of (Leaf t.0)) (Leaf t.0) ∷ us) tt

train_ends : (b : Bool) (ds : Deriveds) (us : List Unit') → AreTargets us → train b ds us ≡ option_map (λ (ts : List (Token × Arrow)). Train ts ds) (targets tag.Function [] us)
train_ends true ds [] h = refl
train_ends false ds [] h = refl
train_ends true ds (Arrow' a ∷ us) h = refl
train_ends false ds (Arrow' a ∷ us) h = refl
train_ends b ds _ h = elim h [ ]

any_read : (g : Tag) → (IsModifier g → ⊥) → (x : Part) (ds : Deriveds) (us : List Unit') → train true ds (alone g x ∷ us) ≡ train false (and_deriveds (derived x no_uses) ds) us
any_read tag.Subject n x ds us = refl
any_read tag.Function n x ds us = refl
any_read tag.Nothing n x ds us = refl
any_read tag.Mod1 n x ds us = absurd (n tt)
any_read tag.Mod2 n x ds us = absurd (n tt)

train_step : (b : Bool) (d : Derived) → PlaceFits b d → (ds : Deriveds) (us : List Unit') → train b ds (derived_unit d ∷ us) ≡ train (not b) (and_deriveds d ds) us
train_step true (derived x no_uses) p ds us = any_read (tag_of x) p x ds us
train_step false (derived x no_uses) p ds us = ap (λ (g : Tag). train false ds (alone g x ∷ us)) p
train_step true (derived x (and_uses u vs)) p ds us = refl
train_step false (derived x (and_uses u vs)) p ds us = refl

train_first : (d : Derived) → IsFunction d → (us : List Unit') → expression (derived_unit d ∷ us) ≡ train false (and_deriveds d no_deriveds) us
train_first (derived x no_uses) f us = ap (λ (g : Tag). expression (alone g x ∷ us)) f
train_first (derived x (and_uses u vs)) f us = refl

train_read : (ds : Deriveds) → IsSome ds → TrainFits ds → (us : List Unit') → expression (deriveds_units ds us) ≡ train (any_left_of ds) ds us
train_read no_deriveds s w us = elim s [ ]
train_read (and_deriveds d no_deriveds) s w us = train_first d w.0 us
train_read (and_deriveds d (and_deriveds c ds)) s w us =
    train_read (and_deriveds c ds) tt w.1 (derived_unit d ∷ us)
    ∙ train_step (any_left_of (and_deriveds c ds)) d w.0 (and_deriveds c ds) us

-- Expressions.

pub expression_read : (e : Expr) → WellExpr e → expression (expr_units e) ≡ Some e
expression_read (Value none ss) w = changed_read ss w.0 w.1
expression_read (Value (some x) ss) w = last_read (tag_of x) x ss w.0 w.2
expression_read (Train ts ds) w =
    train_read ds w.1 w.2 (targets_units ts [])
    ∙ train_ends (any_left_of ds) ds (targets_units ts []) (are_targets ts [] tt)
    ∙ ap (λ (o : Option (List (Token × Arrow))). option_map (λ (l : List (Token × Arrow)). Train l ds) o) (all_targets tag.Function ts w.0)
expression_read (Modifier ts x) w = ap (λ (o : Option (List (Token × Arrow))). option_map (λ (l : List (Token × Arrow)). Modifier l x) o) (all_targets (tag_of x) ts w.1)

-- no expression is an export
pub statement_read : (us : List Unit') (e : Expr) → expression us ≡ Some e → statement us ≡ Some (Eval e)
statement_read (Arrow' arrow.Export ∷ u ∷ []) e h = absurd (cc)
statement_read _ e h = ap (λ (o : Option Expr). option_map (λ (x : Expr). Eval x) o) h

pub predicate_read : (e : Expr) → IsValue e → predicate e ≡ Some (Predicate e)
predicate_read (Value last ss) v = refl
predicate_read (Train ts ds) v = elim v [ ]
predicate_read (Modifier ts x) v = elim v [ ]
