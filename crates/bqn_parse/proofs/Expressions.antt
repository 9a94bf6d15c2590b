-- The forms of an expression and of a statement, by their last unit.
use Rattle.std.proofs.Common.{◌≡◌, true, false, List, [], ◌∷◌, None, refl}
use Rattle.std.specs.Option.{option_map}
use Rattle.bqn_syntax.specs.declared.tree.Arrow.TheVariants.{Define, Export as Exports, Change}
use Rattle.bqn_syntax.specs.grammar.Expressions.{exported, expression, statement, value, steps_of}
use Rattle.bqn_syntax.specs.grammar.Trees.{Derived, Eval, Export, none}
use Rattle.bqn_syntax.specs.grammar.Units.{Unit', Subject, Function, Absent, Alone, Arrow', Aim}
use Rattle.bqn_parse.specs.Leftward.{is_end, is_export}

pub expression-changed : (f : Derived) (us : List Unit') → expression (Arrow' Change ∷ Function f ∷ us) ≡ value none (steps_of (Arrow' Change ∷ Function f ∷ us))
expression-changed f [] = refl
expression-changed f (Subject x ∷ us) = refl
expression-changed f (Function g ∷ us) = refl
expression-changed f (Absent x ∷ us) = refl
expression-changed f (Alone x ∷ us) = refl
expression-changed f (Arrow' a ∷ us) = refl
expression-changed f (Aim q ∷ us) = refl

pub statement-export : (u : Unit') (us : List Unit') → true ≡ is_export u → statement (u ∷ us) ≡ statement (Arrow' Exports ∷ us)
statement-export (Arrow' Exports) us e = refl
statement-export (Arrow' Define) us e = absurd (cc)
statement-export (Arrow' Change) us e = absurd (cc)
statement-export (Subject x) us e = absurd (cc)
statement-export (Function f) us e = absurd (cc)
statement-export (Absent x) us e = absurd (cc)
statement-export (Alone x) us e = absurd (cc)
statement-export (Aim q) us e = absurd (cc)

pub statement-other : (u : Unit') (us : List Unit') → false ≡ is_export u → statement (u ∷ us) ≡ option_map (λ e. Eval e) (expression (u ∷ us))
statement-other (Arrow' Exports) us e = absurd (cc)
statement-other (Arrow' Define) us e = refl
statement-other (Arrow' Change) us e = refl
statement-other (Subject x) us e = refl
statement-other (Function f) us e = refl
statement-other (Absent x) us e = refl
statement-other (Alone x) us e = refl
statement-other (Aim q) us e = refl

pub ruleset expression_laws = (expression-changed)

pub ruleset statement_laws = (statement-export, statement-other)

pub export-alone : (u : Unit') (us : List Unit') → true ≡ is_end us → statement (Arrow' Exports ∷ u ∷ us) ≡ option_map (λ q. Export q) (exported u)
export-alone u [] e = refl
export-alone u (v ∷ us) e = absurd (cc)

pub export-many : (u : Unit') (us : List Unit') → false ≡ is_end us → statement (Arrow' Exports ∷ u ∷ us) ≡ None
export-many u [] e = absurd (cc)
export-many u (v ∷ us) e = refl

pub ruleset export_laws = (export-alone, export-many)
