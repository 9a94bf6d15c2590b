-- The terms of a tree's units are bound to these units.
use Rattle.std.proofs.Common.{◌≡◌, Bool, true, false, List, [], ◌∷◌, ◌++◌, Option, Some, None, refl, sym, ap, ◌∙◌, subst, append_assoc}
use Rattle.std.proofs.lemmas.List.{append-nil}
use Rattle.std.specs.Option.{option_map, option_and_then}
use Rattle.bqn_syntax.specs.declared.token.Token.{Token}
use Rattle.bqn_syntax.specs.declared.tree.Arrow.{Arrow}
use Rattle.bqn_syntax.specs.declared.tree.Arrow.TheVariants as arrow
use Rattle.bqn_syntax.specs.declared.sort.Tag.{Tag}
use Rattle.bqn_syntax.specs.declared.sort.Tag.TheVariants as tag
use Rattle.bqn_syntax.specs.grammar.Sorts.{tag as tag_of, kind_tag}
use Rattle.bqn_syntax.specs.grammar.Items.{Term, Operand, Draw}
use Rattle.bqn_syntax.specs.grammar.Units.{Unit', Subject, Function, Absent, Alone, Arrow', Aim, Binding, Free, Bound, Wanting, Row, row, alone, closed, operand, beside, bind_part, bind, binds, bound, units_of}
use Rattle.bqn_syntax.specs.grammar.Trees.{Pattern, Name, Skip, Literal, Expr, Value, Train, Modifier, Use, One, Two, Part, Leaf, Step, Apply, Assign, Modify, Derived, derived, none, some, Uses, no_uses, and_uses, uses, Steps, no_steps, and_steps, Deriveds, no_deriveds, and_deriveds}
use Rattle.bqn_syntax.specs.grammar.Well.{WellExpr, WellSteps, WellStep, UseFits, UsesFit, IsOperand, IsLeft, IsModifier, IsFunction, IsTarget, PlaceFits, TrainFits, any_left_of, IsLast}
use Rattle.bqn_grammar.proofs.found.Terms.{named_is}
use Rattle.bqn_grammar.proofs.found.Steps.{use_terms, uses_terms, unit_terms, units_terms, target_unit, step_units, steps_units, derived_unit, deriveds_units, targets_units, expr_units, alone_terms}

abbrev pub runs : Option Row → List Term → Option Row
runs o ts = option_and_then (λ (so : Row). binds so ts) o

runs_some : (o : Option Row) (a b : List Term) → ((so : Row) → binds so (a ++ b) ≡ runs (binds so a) b) → runs o (a ++ b) ≡ runs (runs o a) b
runs_some None a b h = refl
runs_some (Some so) a b h = h so

binds_append : (so : Row) (a b : List Term) → binds so (a ++ b) ≡ runs (binds so a) b
binds_append so [] b = refl
binds_append so (t ∷ a) b = runs_some (bind so t) a b (λ (s : Row). binds_append s a b)

-- the row has come to the end of these units
abbrev Ends : Option Row → List Unit' → Type 0
Ends o us = option_and_then bound o ≡ Some us

-- One more unit.

opened : (vs us : List Unit') (b : Binding) (x : Part) → closed vs b ≡ Some us → operand vs b x ≡ row us (Bound x [])
opened vs us Free x e = cc
opened vs us (Bound y ws) x e = cc
opened vs us (Wanting y ws m) x e = absurd (cc)

bind_operand : (vs us : List Unit') (b : Binding) (x : Part) (g : Tag) → IsOperand g → closed vs b ≡ Some us → bind_part g vs b x ≡ Some (row us (Bound x []))
bind_operand vs us b x tag.Subject o e = ap (λ (r : Row). Some r) (opened vs us b x e)
bind_operand vs us b x tag.Function o e = ap (λ (r : Row). Some r) (opened vs us b x e)
bind_operand vs us b x _ o e = elim o [ ]

run_operand : (o : Option Row) (us : List Unit') (x : Part) (more : List Term) → IsOperand (tag_of x) → Ends o us → runs o (Operand x ∷ more) ≡ binds (row us (Bound x [])) more
run_operand None us x more w e = absurd (cc)
run_operand (Some so) us x more w e = ap (λ (r : Option Row). runs r more) (bind_operand so.units us so.binding x (tag_of x) w e)

run_beside : (u : Unit') (vs us : List Unit') (b : Binding) → closed vs b ≡ Some us → beside u vs b ≡ Some (row (u ∷ us) Free)
run_beside u vs us b e = ap (λ (o : Option (List Unit')). option_map (λ (all : List Unit'). row (u ∷ all) Free) o) e

abbrev list_of : Uses → List Use
list_of no_uses = []
list_of (and_uses u us) = u ∷ list_of us

list_back : (us : Uses) → uses (list_of us) ≡ us
list_back no_uses = refl
list_back (and_uses u us) = ap (λ (x : Uses). and_uses u x) (list_back us)

use_second : (us : List Unit') (x : Part) (vs : List Use) (m y : Part) (g : Tag) → IsOperand g → bind_part g us (Wanting x vs m) y ≡ Some (row us (Bound x (vs ++ Two m y ∷ [])))
use_second us x vs m y tag.Subject o = refl
use_second us x vs m y tag.Function o = refl
use_second us x vs m y _ o = elim o [ ]

use_binds : (us : List Unit') (x : Part) (vs : List Use) (u : Use) (more : List Term) → UseFits u → binds (row us (Bound x vs)) (use_terms u ++ more) ≡ binds (row us (Bound x (vs ++ u ∷ []))) more
use_binds us x vs (One m) more w = ap (λ (g : Tag). runs (bind_part g us (Bound x vs) m) more) w
use_binds us x vs (Two m y) more w =
    ap (λ (g : Tag). runs (bind_part g us (Bound x vs) m) (Operand y ∷ more)) w.0
    ∙ ap (λ (o : Option Row). runs o more) (use_second us x vs m y (tag_of y) w.1)

uses_bind : (us : List Unit') (x : Part) (vs : List Use) (ws : Uses) → UsesFit ws → binds (row us (Bound x vs)) (uses_terms ws) ≡ Some (row us (Bound x (vs ++ list_of ws)))
uses_bind us x vs no_uses w = ap (λ (l : List Use). Some (row us (Bound x l))) (sym (append-nil vs))
uses_bind us x vs (and_uses u ws) w =
    use_binds us x vs u (uses_terms ws) w.0
    ∙ uses_bind us x (vs ++ u ∷ []) ws w.1
    ∙ ap (λ (l : List Use). Some (row us (Bound x l))) (append_assoc vs (u ∷ []) (list_of ws))

-- no modifier by itself
abbrev WellUnit : Unit' → Type 0
WellUnit (Subject x) = tag_of x ≡ tag.Subject
WellUnit (Function d) = IsFunction d
WellUnit (Absent x) = tag_of x ≡ tag.Nothing
WellUnit (Alone m) = ⊥
WellUnit (Arrow' a) = Unit {0}
WellUnit (Aim q) = Unit {0}

is_operand : (g : Tag) → g ≡ tag.Subject → IsOperand g
is_operand g e = subst IsOperand (sym e) tt

is_operand_too : (g : Tag) → g ≡ tag.Function → IsOperand g
is_operand_too g e = subst IsOperand (sym e) tt

unit_ends : (o : Option Row) (us : List Unit') (u : Unit') → WellUnit u → Ends o us → Ends (runs o (unit_terms u)) (u ∷ us)
unit_ends None us u w e = absurd (cc)
unit_ends (Some so) us (Subject x) w e =
    subst (λ (r : Option Row). Ends r (Subject x ∷ us)) (sym (run_operand (Some so) us x [] (is_operand (tag_of x) w) e)) (ap (λ (g : Tag). Some (alone g x ∷ us)) w)
unit_ends (Some so) us (Function (derived x no_uses)) w e =
    subst (λ (r : Option Row). Ends r (Function (derived x no_uses) ∷ us)) (sym (run_operand (Some so) us x [] (is_operand_too (tag_of x) w) e)) (ap (λ (g : Tag). Some (alone g x ∷ us)) w)
unit_ends (Some so) us (Function (derived x (and_uses u ws))) w e =
    subst (λ (r : Option Row). Ends r (Function (derived x (and_uses u ws)) ∷ us))
    (sym (run_operand (Some so) us x (uses_terms (and_uses u ws)) w.0 e ∙ uses_bind us x [] (and_uses u ws) (w.1, w.2)))
    (ap (λ (l : Uses). Some (Function (derived x (and_uses u l)) ∷ us)) (list_back ws))
unit_ends (Some so) us (Absent x) w e =
    subst (λ (r : Option Row). Ends r (Absent x ∷ us))
    (sym (ap (λ (g : Tag). runs (bind_part g so.units so.binding x) []) w ∙ ap (λ (r : Option Row). runs r []) (run_beside (Absent x) so.units us so.binding e)))
    refl
unit_ends (Some so) us (Alone m) w e = elim w [ ]
unit_ends (Some so) us (Arrow' a) w e =
    subst (λ (r : Option Row). Ends r (Arrow' a ∷ us)) (sym (ap (λ (r : Option Row). runs r []) (run_beside (Arrow' a) so.units us so.binding e))) refl
unit_ends (Some so) us (Aim q) w e =
    subst (λ (r : Option Row). Ends r (Aim q ∷ us)) (sym (ap (λ (r : Option Row). runs r []) (run_beside (Aim q) so.units us so.binding e))) refl

abbrev empty : Row
empty = row [] Free

abbrev pub UnitsFound : List Unit' → Type 0
UnitsFound us = units_of (units_terms us) ≡ Some us

unit_found : (u : Unit') (us : List Unit') → WellUnit u → UnitsFound us → UnitsFound (u ∷ us)
unit_found u us w h =
    subst (λ (r : Option Row). Ends r (u ∷ us)) (sym (binds_append empty (units_terms us) (unit_terms u))) (unit_ends (binds empty (units_terms us)) us u w h)

-- Steps.

left_well : (x : Part) (g : Tag) → tag_of x ≡ g → IsLeft g → WellUnit (alone g x)
left_well x tag.Subject e l = e
left_well x tag.Nothing e l = e
left_well x _ e l = elim l [ ]

target_well : (q : Pattern) → IsTarget q → WellUnit (target_unit q)
target_well (Name t) h =
    let e : kind_tag t.kind ≡ tag.Subject = (named_is tag.Subject t.kind h).1 in
    left_well (Leaf t) (kind_tag t.kind) refl (subst IsLeft (sym e) tt)
target_well (Skip place) h = elim h [ ]
target_well (Literal t) h = elim h [ ]
target_well _ h = tt

step_found : (s : Step) (us : List Unit') → WellStep s → UnitsFound us → UnitsFound (step_units s us)
step_found (Apply f none) us w h = unit_found (Function f) us w.0 h
step_found (Apply f (some x)) us w h = unit_found (Function f) (alone (tag_of x) x ∷ us) w.0 (unit_found (alone (tag_of x) x) us (left_well x (tag_of x) refl w.2) h)
step_found (Assign q a) us w h = unit_found (Arrow' a) (target_unit q ∷ us) tt (unit_found (target_unit q) us (target_well q w.0) h)
step_found (Modify t f) us w h =
    unit_found (Arrow' arrow.Change) (Function f ∷ Subject (Leaf t) ∷ us) tt
    (unit_found (Function f) (Subject (Leaf t) ∷ us) w.1
    (unit_found (Subject (Leaf t)) us (named_is tag.Subject t.kind w.0).1 h))

steps_found : (ss : Steps) → WellSteps ss → UnitsFound (steps_units ss)
steps_found no_steps w = refl
steps_found (and_steps s ss) w = step_found s (steps_units ss) w.0 (steps_found ss w.1)

last_is_left : (g : Tag) (ss : Steps) → IsLast g ss → IsLeft g
last_is_left tag.Subject ss l = tt
last_is_left tag.Nothing ss l = tt
last_is_left _ ss l = elim l [ ]

-- Targets: after an arrow, no part is being read.

abbrev FreeAt : List Unit' → Type 0
FreeAt us = binds empty (units_terms us) ≡ Some (row us Free)

free_arrow : (x : Part) (a : Arrow) (us : List Unit') (g : Tag) → tag_of x ≡ g → runs (bind_part g us Free x) (Draw a ∷ []) ≡ Some (row (Arrow' a ∷ alone (tag_of x) x ∷ us) Free)
free_arrow x a us tag.Subject e = refl
free_arrow x a us tag.Function e = refl
free_arrow x a us tag.Mod1 e = ap (λ (g : Tag). Some (row (Arrow' a ∷ alone g x ∷ us) Free)) (sym e)
free_arrow x a us tag.Mod2 e = ap (λ (g : Tag). Some (row (Arrow' a ∷ alone g x ∷ us) Free)) (sym e)
free_arrow x a us tag.Nothing e = ap (λ (g : Tag). Some (row (Arrow' a ∷ alone g x ∷ us) Free)) (sym e)

some_id : (o : Option Row) → runs o [] ≡ o
some_id None = refl
some_id (Some so) = refl

free_target : (x : Part) (a : Arrow) (us : List Unit') → FreeAt us → FreeAt (Arrow' a ∷ alone (tag_of x) x ∷ us)
free_target x a us h =
    binds_append empty (units_terms us ++ unit_terms (alone (tag_of x) x)) (Draw a ∷ [])
    ∙ ap (λ (r : Option Row). runs r (Draw a ∷ [])) (binds_append empty (units_terms us) (unit_terms (alone (tag_of x) x)))
    ∙ ap (λ (r : Option Row). runs (runs r (unit_terms (alone (tag_of x) x))) (Draw a ∷ [])) h
    ∙ ap (λ (l : List Term). runs (binds (row us Free) l) (Draw a ∷ [])) (alone_terms (tag_of x) x)
    ∙ ap (λ (r : Option Row). runs r (Draw a ∷ [])) (some_id (bind_part (tag_of x) us Free x))
    ∙ free_arrow x a us (tag_of x) refl

free_targets : (ts : List (Token × Arrow)) (us : List Unit') → FreeAt us → FreeAt (targets_units ts us)
free_targets [] us h = h
free_targets (t ∷ ts) us h = free_targets ts (Arrow' t.1 ∷ alone (tag_of (Leaf t.0)) (Leaf t.0) ∷ us) (free_target (Leaf t.0) t.1 us h)

free_found : (us : List Unit') → FreeAt us → UnitsFound us
free_found us h = ap (λ (r : Option Row). option_and_then bound r) h

-- Trains.

train_well : (x : Part) (g : Tag) → tag_of x ≡ g → (IsModifier g → ⊥) → WellUnit (alone g x)
train_well x tag.Subject e n = e
train_well x tag.Function e n = e
train_well x tag.Nothing e n = e
train_well x tag.Mod1 e n = absurd (n tt)
train_well x tag.Mod2 e n = absurd (n tt)

no_modifier : (g : Tag) → g ≡ tag.Function → IsModifier g → ⊥
no_modifier g e m = subst IsModifier e m

place_well : (b : Bool) (d : Derived) → PlaceFits b d → WellUnit (derived_unit d)
place_well true (derived x no_uses) p = train_well x (tag_of x) refl p
place_well false (derived x no_uses) p = train_well x (tag_of x) refl (no_modifier (tag_of x) p)
place_well true (derived x (and_uses u us)) p = p
place_well false (derived x (and_uses u us)) p = p

deriveds_found : (ds : Deriveds) → TrainFits ds → (us : List Unit') → UnitsFound us → UnitsFound (deriveds_units ds us)
deriveds_found no_deriveds w us h = h
deriveds_found (and_deriveds d ds) w us h = deriveds_found ds w.1 (derived_unit d ∷ us) (unit_found (derived_unit d) us (place_well (any_left_of ds) d w.0) h)

-- Modifiers.

lone_modifier : (x : Part) (us : List Unit') (g : Tag) → IsModifier g → bind_part g us Free x ≡ Some (row (Alone x ∷ us) Free)
lone_modifier x us tag.Mod1 m = refl
lone_modifier x us tag.Mod2 m = refl
lone_modifier x us _ m = elim m [ ]

free_modifier : (x : Part) (us : List Unit') → IsModifier (tag_of x) → FreeAt us → FreeAt (Alone x ∷ us)
free_modifier x us m h =
    binds_append empty (units_terms us) (Operand x ∷ [])
    ∙ ap (λ (r : Option Row). runs r (Operand x ∷ [])) h
    ∙ ap (λ (r : Option Row). runs r []) (lone_modifier x us (tag_of x) m)

pub expr_units_of : (e : Expr) → WellExpr e → UnitsFound (expr_units e)
expr_units_of (Value none ss) w = steps_found ss w.1
expr_units_of (Value (some x) ss) w =
    unit_found (alone (tag_of x) x) (steps_units ss) (left_well x (tag_of x) refl (last_is_left (tag_of x) ss w.0)) (steps_found ss w.2)
expr_units_of (Train ts ds) w = deriveds_found ds w.2 (targets_units ts []) (free_found (targets_units ts []) (free_targets ts [] refl))
expr_units_of (Modifier ts x) w = free_found (Alone x ∷ targets_units ts []) (free_modifier x (targets_units ts []) w.0 (free_targets ts [] refl))

-- a pattern that is exported
pub target_units_of : (q : Pattern) (a : Arrow) → UnitsFound (Arrow' a ∷ target_unit q ∷ [])
target_units_of (Name t) a = free_found (Arrow' a ∷ target_unit (Name t) ∷ []) (free_target (Leaf t) a [] refl)
target_units_of _ a = refl
