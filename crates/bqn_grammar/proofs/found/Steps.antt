-- The units of a tree, and that its items are read as their terms.
use Rattle.std.proofs.Common.{◌≡◌, false, List, [], ◌∷◌, ◌++◌, Option, Some, None, refl, sym, ap, ◌∙◌, subst, append_assoc}
use Rattle.std.proofs.lemmas.List.{append-nil}
use Rattle.std.specs.Option.{option_and_then}
use Rattle.bqn_syntax.specs.declared.token.Token.{Token}
use Rattle.bqn_syntax.specs.declared.tree.Arrow.{Arrow}
use Rattle.bqn_syntax.specs.declared.tree.Arrow.TheVariants as arrow
use Rattle.bqn_syntax.specs.declared.sort.Tag.{Tag}
use Rattle.bqn_syntax.specs.declared.sort.Tag.TheVariants as tag
use Rattle.bqn_syntax.specs.grammar.Sorts.{tag as tag_of}
use Rattle.bqn_syntax.specs.grammar.Items.{OfPart, Drawn, Term, Operand, Target, Draw, Between, Terms, reads, finished, terms_of}
use Rattle.bqn_syntax.specs.grammar.Units.{Unit', Subject, Function, Absent, Alone, Arrow', Aim, alone}
use Rattle.bqn_syntax.specs.grammar.Trees.{Pattern, Name, Skip, Expr, Value, Train, Modifier, Use, One, Two, Part, Leaf, Elements, Strand, Nothing, Step, Apply, Assign, Modify, Derived, derived, none, some, Uses, no_uses, and_uses, Steps, no_steps, and_steps, Deriveds, no_deriveds, and_deriveds}
use Rattle.bqn_syntax.specs.grammar.Well.{WellExpr, WellPart, WellSteps, WellStep, WellDerived, WellDeriveds, WellUses, WellUse, WellPattern, UsesFit, IsFunction, MayStandBeforeArrow, LastOperand, EndsInNoList}
use Rattle.bqn_grammar.proofs.TreeItems.{part_item, pattern_items, target_items, part_items, use_items, uses_items, derived_items, deriveds_items, step_items, steps_items, expr_items}
use Rattle.bqn_grammar.proofs.found.Terms.{run, Gives, Aims, gives_append, aims_append, stands_given, part_given, part_aims, arrow_gives}
use Rattle.bqn_grammar.proofs.found.Patterns.{pattern_term, pattern_aims}

-- The terms of units.

abbrev pub use_terms : Use → List Term
use_terms (One m) = Operand m ∷ []
use_terms (Two m x) = Operand m ∷ Operand x ∷ []

abbrev pub uses_terms : Uses → List Term
uses_terms no_uses = []
uses_terms (and_uses u us) = use_terms u ++ uses_terms us

abbrev pub derived_terms : Derived → List Term
derived_terms (derived x us) = Operand x ∷ uses_terms us

abbrev pub unit_terms : Unit' → List Term
unit_terms (Subject x) = Operand x ∷ []
unit_terms (Function d) = derived_terms d
unit_terms (Absent x) = Operand x ∷ []
unit_terms (Alone x) = Operand x ∷ []
unit_terms (Arrow' a) = Draw a ∷ []
unit_terms (Aim q) = Target q ∷ []

-- of units, the last one first
abbrev pub units_terms : List Unit' → List Term
units_terms [] = []
units_terms (u ∷ us) = units_terms us ++ unit_terms u

-- The units of a tree, the last one first.

-- a pattern before an arrow
abbrev pub target_unit : Pattern → Unit'
target_unit (Name t) = alone (tag_of (Leaf t)) (Leaf t)
target_unit (Skip place) = Absent (Nothing place)
target_unit q = Aim q

abbrev pub step_units : Step → List Unit' → List Unit'
step_units (Apply f none) us = Function f ∷ us
step_units (Apply f (some x)) us = Function f ∷ alone (tag_of x) x ∷ us
step_units (Assign q a) us = Arrow' a ∷ target_unit q ∷ us
step_units (Modify t f) us = Arrow' arrow.Change ∷ Function f ∷ Subject (Leaf t) ∷ us

abbrev pub steps_units : Steps → List Unit'
steps_units no_steps = []
steps_units (and_steps s ss) = step_units s (steps_units ss)

abbrev pub derived_unit : Derived → Unit'
derived_unit (derived x no_uses) = alone (tag_of x) x
derived_unit (derived x (and_uses u us)) = Function (derived x (and_uses u us))

abbrev pub deriveds_units : Deriveds → List Unit' → List Unit'
deriveds_units no_deriveds us = us
deriveds_units (and_deriveds d ds) us = deriveds_units ds (derived_unit d ∷ us)

abbrev pub targets_units : List (Token × Arrow) → List Unit' → List Unit'
targets_units [] us = us
targets_units (t ∷ ts) us = targets_units ts (Arrow' t.1 ∷ alone (tag_of (Leaf t.0)) (Leaf t.0) ∷ us)

abbrev pub expr_units : Expr → List Unit'
expr_units (Value none ss) = steps_units ss
expr_units (Value (some x) ss) = alone (tag_of x) x ∷ steps_units ss
expr_units (Train ts ds) = deriveds_units ds (targets_units ts [])
expr_units (Modifier ts x) = Alone x ∷ targets_units ts []

-- Reading.

pub alone_terms : (t : Tag) (x : Part) → unit_terms (alone t x) ≡ Operand x ∷ []
alone_terms tag.Subject x = refl
alone_terms tag.Function x = refl
alone_terms tag.Mod1 x = refl
alone_terms tag.Mod2 x = refl
alone_terms tag.Nothing x = refl

alone_given : (x : Part) → WellPart x → (o : Option Terms) (us : List Unit') → Gives o (units_terms us) → Gives (run o (part_items x)) (units_terms (alone (tag_of x) x ∷ us))
alone_given x w o us h =
    part_given x w o (units_terms us) h ∙ ap (λ (l : List Term). Some (units_terms us ++ l)) (sym (alone_terms (tag_of x) x))

use_given : (u : Use) → WellUse u → (o : Option Terms) (ts : List Term) → Gives o ts → Gives (run o (use_items u)) (ts ++ use_terms u)
use_given (One m) w o ts h = part_given m w o ts h
use_given (Two m x) w o ts h =
    gives_append o (part_items m) (part_items x) (ts ++ use_terms (Two m x))
    (part_given x w.1 (run o (part_items m)) (ts ++ Operand m ∷ []) (part_given m w.0 o ts h)
    ∙ ap (λ (l : List Term). Some l) (append_assoc ts (Operand m ∷ []) (Operand x ∷ [])))

uses_given : (us : Uses) → WellUses us → (o : Option Terms) (ts : List Term) → Gives o ts → Gives (run o (uses_items us)) (ts ++ uses_terms us)
uses_given no_uses w None ts h = absurd (cc)
uses_given no_uses w (Some so) ts h = h ∙ ap (λ (l : List Term). Some l) (sym (append-nil ts))
uses_given (and_uses u us) w o ts h =
    gives_append o (use_items u) (uses_items us) (ts ++ uses_terms (and_uses u us))
    (uses_given us w.1 (run o (use_items u)) (ts ++ use_terms u) (use_given u w.0 o ts h)
    ∙ ap (λ (l : List Term). Some l) (append_assoc ts (use_terms u) (uses_terms us)))

derived_given : (d : Derived) → WellDerived d → (o : Option Terms) (ts : List Term) → Gives o ts → Gives (run o (derived_items d)) (ts ++ derived_terms d)
derived_given (derived x us) w o ts h =
    gives_append o (part_items x) (uses_items us) (ts ++ derived_terms (derived x us))
    (uses_given us w.1 (run o (part_items x)) (ts ++ Operand x ∷ []) (part_given x w.0 o ts h)
    ∙ ap (λ (l : List Term). Some l) (append_assoc ts (Operand x ∷ []) (uses_terms us)))

-- A function before an arrow.

no_list : (x : Part) (t : Tag) → tag_of x ≡ t → (t ≡ tag.Subject → ⊥) → EndsInNoList x
no_list (Elements es) t e n = n (sym e)
no_list (Strand ps) t e n = n (sym e)
no_list _ t e n = tt

mod1_no_list : (m : Part) → tag_of m ≡ tag.Mod1 → EndsInNoList m
mod1_no_list m e = no_list m tag.Mod1 e (λ (f : tag.Mod1 ≡ tag.Subject). absurd (cc))

function_no_list : (m : Part) → tag_of m ≡ tag.Function → EndsInNoList m
function_no_list m e = no_list m tag.Function e (λ (f : tag.Function ≡ tag.Subject). absurd (cc))

two_aims : (m x : Part) → EndsInNoList x → WellPart m → WellPart x → (o : Option Terms) (ts : List Term) → Gives o ts → Aims (run o (use_items (Two m x))) (ts ++ use_terms (Two m x))
two_aims m x n wm wx o ts h =
    aims_append o (part_items m) (part_items x) (ts ++ use_terms (Two m x))
    (part_aims x n wx (run o (part_items m)) (ts ++ Operand m ∷ []) (part_given m wm o ts h)
    ∙ ap (λ (l : List Term). Some l) (append_assoc ts (Operand m ∷ []) (Operand x ∷ [])))

uses_aims : (us : Uses) → UsesFit us → LastOperand us → WellUses us → (o : Option Terms) (ts : List Term) → Gives o ts → (us ≡ no_uses → Aims o ts) → Aims (run o (uses_items us)) (ts ++ uses_terms us)
uses_aims no_uses f n w None ts h a = absurd (cc)
uses_aims no_uses f n w (Some so) ts h a = a refl ∙ ap (λ (l : List Term). Some l) (sym (append-nil ts))
uses_aims (and_uses (One m) us) f n w o ts h a =
    aims_append o (use_items (One m)) (uses_items us) (ts ++ uses_terms (and_uses (One m) us))
    (uses_aims us f.1 n w.1 (run o (use_items (One m))) (ts ++ use_terms (One m)) (use_given (One m) w.0 o ts h) (λ (e : us ≡ no_uses). part_aims m (mod1_no_list m f.0) w.0 o ts h)
    ∙ ap (λ (l : List Term). Some l) (append_assoc ts (use_terms (One m)) (uses_terms us)))
uses_aims (and_uses (Two m x) no_uses) f n w o ts h a =
    aims_append o (use_items (Two m x)) [] (ts ++ uses_terms (and_uses (Two m x) no_uses))
    (uses_aims no_uses tt tt tt (run o (use_items (Two m x))) (ts ++ use_terms (Two m x)) (use_given (Two m x) w.0 o ts h) (λ (e : no_uses ≡ no_uses). two_aims m x n w.0.0 w.0.1 o ts h)
    ∙ ap (λ (l : List Term). Some l) (append_assoc ts (use_terms (Two m x)) []))
uses_aims (and_uses (Two m x) (and_uses u us)) f n w o ts h a =
    aims_append o (use_items (Two m x)) (uses_items (and_uses u us)) (ts ++ uses_terms (and_uses (Two m x) (and_uses u us)))
    (uses_aims (and_uses u us) f.1 n w.1 (run o (use_items (Two m x))) (ts ++ use_terms (Two m x)) (use_given (Two m x) w.0 o ts h) (λ (e : and_uses u us ≡ no_uses). absurd (cc))
    ∙ ap (λ (l : List Term). Some l) (append_assoc ts (use_terms (Two m x)) (uses_terms (and_uses u us))))

fit_uses : (x : Part) (us : Uses) → IsFunction (derived x us) → UsesFit us
fit_uses x no_uses f = tt
fit_uses x (and_uses u us) f = (f.1, f.2)

alone_aims : (x : Part) (us : Uses) → IsFunction (derived x us) → WellPart x → (o : Option Terms) (ts : List Term) → Gives o ts → us ≡ no_uses → Aims (run o (part_items x)) (ts ++ Operand x ∷ [])
alone_aims x no_uses f w o ts h e = part_aims x (function_no_list x f) w o ts h
alone_aims x (and_uses u us) f w o ts h e = absurd (cc)

derived_aims : (d : Derived) → IsFunction d → MayStandBeforeArrow d → WellDerived d → (o : Option Terms) (ts : List Term) → Gives o ts → Aims (run o (derived_items d)) (ts ++ derived_terms d)
derived_aims (derived x us) f n w o ts h =
    aims_append o (part_items x) (uses_items us) (ts ++ derived_terms (derived x us))
    (uses_aims us (fit_uses x us f) n w.1 (run o (part_items x)) (ts ++ Operand x ∷ []) (part_given x w.0 o ts h) (alone_aims x us f w.0 o ts h)
    ∙ ap (λ (l : List Term). Some l) (append_assoc ts (Operand x ∷ []) (uses_terms us)))

-- Steps.

target_terms : (q : Pattern) → unit_terms (target_unit q) ≡ pattern_term q ∷ []
target_terms (Name t) = alone_terms (tag_of (Leaf t)) (Leaf t)
target_terms _ = refl

-- a pattern and its arrow
pub target_given : (q : Pattern) (a : Arrow) → WellPattern false q → (o : Option Terms) (us : List Unit') → Gives o (units_terms us) → Gives (run o (pattern_items q ++ Drawn a ∷ [])) (units_terms (Arrow' a ∷ target_unit q ∷ us))
target_given q a w o us h =
    gives_append o (pattern_items q) (Drawn a ∷ []) (units_terms (Arrow' a ∷ target_unit q ∷ us))
    (arrow_gives (run o (pattern_items q)) (units_terms us ++ unit_terms (target_unit q)) a
    (pattern_aims q w o (units_terms us) h ∙ ap (λ (l : List Term). Some (units_terms us ++ l)) (sym (target_terms q))))

step_given : (s : Step) → WellStep s → (o : Option Terms) (us : List Unit') → Gives o (units_terms us) → Gives (run o (step_items s)) (units_terms (step_units s us))
step_given (Apply f none) w o us h = derived_given f w.1 o (units_terms us) h
step_given (Apply f (some x)) w o us h =
    gives_append o (part_items x) (derived_items f) (units_terms (step_units (Apply f (some x)) us))
    (derived_given f w.1 (run o (part_items x)) (units_terms (alone (tag_of x) x ∷ us)) (alone_given x w.3 o us h))
step_given (Assign q a) w o us h = target_given q a w.1 o us h
step_given (Modify t f) w o us h =
    let g = units_terms us ++ Operand (Leaf t) ∷ [] in
    let s : Gives (run o (part_item (Leaf t) ∷ [])) g = ap (λ (r : Option Terms). option_and_then finished r) (stands_given (OfPart (Leaf t)) o (units_terms us) h) in
    gives_append o (part_item (Leaf t) ∷ []) (derived_items f ++ Drawn arrow.Change ∷ []) (units_terms (step_units (Modify t f) us))
    (gives_append (run o (part_item (Leaf t) ∷ [])) (derived_items f) (Drawn arrow.Change ∷ []) (units_terms (step_units (Modify t f) us))
    (arrow_gives (run (run o (part_item (Leaf t) ∷ [])) (derived_items f)) (g ++ derived_terms f) arrow.Change
    (derived_aims f w.1 w.2 w.3 (run o (part_item (Leaf t) ∷ [])) g s)))

abbrev pub start : Option Terms
start = Some (reads [] Between)

steps_given : (ss : Steps) → WellSteps ss → Gives (run start (steps_items ss)) (units_terms (steps_units ss))
steps_given no_steps w = refl
steps_given (and_steps s ss) w =
    gives_append start (steps_items ss) (step_items s) (units_terms (steps_units (and_steps s ss)))
    (step_given s w.0 (run start (steps_items ss)) (steps_units ss) (steps_given ss w.1))

-- Trains and modifiers.

unit_given : (d : Derived) → WellDerived d → (o : Option Terms) (us : List Unit') → Gives o (units_terms us) → Gives (run o (derived_items d)) (units_terms (derived_unit d ∷ us))
unit_given (derived x no_uses) w o us h =
    derived_given (derived x no_uses) w o (units_terms us) h ∙ ap (λ (l : List Term). Some (units_terms us ++ l)) (sym (alone_terms (tag_of x) x))
unit_given (derived x (and_uses u vs)) w o us h = derived_given (derived x (and_uses u vs)) w o (units_terms us) h

deriveds_given : (ds : Deriveds) → WellDeriveds ds → (o : Option Terms) (us : List Unit') → Gives o (units_terms us) → Gives (run o (deriveds_items ds)) (units_terms (deriveds_units ds us))
deriveds_given no_deriveds w None us h = absurd (cc)
deriveds_given no_deriveds w (Some so) us h = h
deriveds_given (and_deriveds d ds) w o us h =
    gives_append o (derived_items d) (deriveds_items ds) (units_terms (deriveds_units (and_deriveds d ds) us))
    (deriveds_given ds w.1 (run o (derived_items d)) (derived_unit d ∷ us) (unit_given d w.0 o us h))

one_target : (t : Token) (a : Arrow) (o : Option Terms) (us : List Unit') → Gives o (units_terms us) → Gives (run o (part_item (Leaf t) ∷ Drawn a ∷ [])) (units_terms (Arrow' a ∷ alone (tag_of (Leaf t)) (Leaf t) ∷ us))
one_target t a o us h =
    gives_append o (part_item (Leaf t) ∷ []) (Drawn a ∷ []) (units_terms (Arrow' a ∷ alone (tag_of (Leaf t)) (Leaf t) ∷ us))
    (subst (λ (r : Option Terms). Gives (run r (Drawn a ∷ [])) (units_terms (Arrow' a ∷ alone (tag_of (Leaf t)) (Leaf t) ∷ us)))
    (sym (stands_given (OfPart (Leaf t)) o (units_terms us) h))
    (ap (λ (l : List Term). Some ((units_terms us ++ l) ++ Draw a ∷ [])) (sym (alone_terms (tag_of (Leaf t)) (Leaf t)))))

targets_given : (ts : List (Token × Arrow)) (o : Option Terms) (us : List Unit') → Gives o (units_terms us) → Gives (run o (target_items ts)) (units_terms (targets_units ts us))
targets_given [] None us h = absurd (cc)
targets_given [] (Some so) us h = h
targets_given (t ∷ ts) o us h =
    let v = Arrow' t.1 ∷ alone (tag_of (Leaf t.0)) (Leaf t.0) ∷ us in
    gives_append o (part_item (Leaf t.0) ∷ Drawn t.1 ∷ []) (target_items ts) (units_terms (targets_units (t ∷ ts) us))
    (targets_given ts (run o (part_item (Leaf t.0) ∷ Drawn t.1 ∷ [])) v (one_target t.0 t.1 o us h))

none_given : (o : Option Terms) (ts : List Term) → Gives o ts → Gives (run o []) ts
none_given None ts h = absurd (cc)
none_given (Some so) ts h = h

-- the items of an expression are read as the terms of its units
pub expr_terms_of : (e : Expr) → WellExpr e → terms_of (expr_items e) ≡ Some (units_terms (expr_units e))
expr_terms_of (Value none ss) w =
    gives_append start (steps_items ss) [] (units_terms (steps_units ss)) (none_given (run start (steps_items ss)) (units_terms (steps_units ss)) (steps_given ss w.1))
expr_terms_of (Value (some x) ss) w =
    gives_append start (steps_items ss) (part_items x) (units_terms (alone (tag_of x) x ∷ steps_units ss))
    (alone_given x w.1 (run start (steps_items ss)) (steps_units ss) (steps_given ss w.2))
expr_terms_of (Train ts ds) w =
    gives_append start (target_items ts) (deriveds_items ds) (units_terms (deriveds_units ds (targets_units ts [])))
    (deriveds_given ds w.3 (run start (target_items ts)) (targets_units ts []) (targets_given ts start [] refl))
expr_terms_of (Modifier ts x) w =
    gives_append start (target_items ts) (part_items x) (units_terms (Alone x ∷ targets_units ts []))
    (part_given x w.2 (run start (target_items ts)) (units_terms (targets_units ts [])) (targets_given ts start [] refl))
