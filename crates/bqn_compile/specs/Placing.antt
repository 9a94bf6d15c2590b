-- The places of the instructions of a body: they do not depend on what comes before it, nor on pools.
use Rattle.std.specs.Prelude.{Bool, true, false, List, [], ◌∷◌, ◌++◌, Option, Some, None}
use Rattle.bqn_base.specs.declared.place.Place.{Place}
use Rattle.bqn_syntax.specs.declared.token.Kind.{Kind}
use Rattle.bqn_syntax.specs.declared.token.Kind.TheVariants as kind
use Rattle.bqn_syntax.specs.declared.token.Token.{Token}
use Rattle.bqn_syntax.specs.declared.tree.Arrow.{Arrow}
use Rattle.bqn_syntax.specs.blocks.Leads.{or_else, stmt_lead, header_lead, at_start, block_lead, pattern_lead, derived_lead, deriveds_lead, exprs_lead, parts_lead, modifier_lead}
use Rattle.bqn_syntax.specs.grammar.Trees.{Pattern, Name, Header, Stmt, Eval, Predicate, Export, Stmts, no_stmts, and_stmts, Expr, Value, Train, Modifier, Use, One, Two, Part, Leaf, Elements, Merge, Paren, Block as Braces, Field, Strand, Nothing, Step, Apply, Assign, Modify, Derived, derived, none, some, Exprs, no_exprs, and_exprs, Uses, no_uses, and_uses, Parts, no_parts, and_parts, Steps, no_steps, and_steps, Deriveds, no_deriveds, and_deriveds}
use Rattle.bqn_syntax.specs.blocks.Exporting.{stmts_export}
use Rattle.bqn_compile.specs.declared.read.Read.{Read}
use Rattle.bqn_compile.specs.declared.read.Read.TheVariants as read
use Rattle.bqn_compile.specs.Expressions.{parts_read}

abbrev pub if_two : Place → Read → List Place
if_two p read.Two = p ∷ []
if_two p r = []

abbrev pub fields_places : List Token → List Place
fields_places [] = []
fields_places (t ∷ ts) = t.place ∷ fields_places ts

abbrev pub targets_places : List (Token × Arrow) → List Place
targets_places [] = []
targets_places (t ∷ ts) = targets_places ts ++ t.0.place ∷ []

module _ (l : Place) where
  abbrev pub derives_places : Uses → List Place
  derives_places no_uses = []
  derives_places (and_uses u us) = or_else l (modifier_lead u) ∷ derives_places us

  abbrev mutual
    pub expr_places : Expr → List Place
    expr_places (Value none (and_steps (Modify t d) ss)) = t.place ∷ derived_places d ++ or_else l (derived_lead d) ∷ t.place ∷ steps_places ss
    expr_places (Value none ss) = l ∷ steps_places ss
    expr_places (Value (some x) ss) = part_places x ++ steps_places ss
    expr_places (Train ts ds) = deriveds_places ds ++ if_two (or_else l (deriveds_lead ds)) (parts_read ds) ++ targets_places ts
    expr_places (Modifier ts x) = part_places x ++ targets_places ts

    pub part_places : Part → List Place
    part_places (Leaf t) = t.place ∷ []
    part_places (Elements es) = exprs_places es ++ or_else l (exprs_lead es) ∷ []
    part_places (Merge es) = exprs_places es ++ or_else l (exprs_lead es) ∷ or_else l (exprs_lead es) ∷ or_else l (exprs_lead es) ∷ []
    part_places (Paren e) = expr_places e
    part_places (Braces b) = block_lead b ∷ []
    part_places (Field base ts) = part_places base ++ fields_places ts
    part_places (Strand ps) = parts_places ps ++ or_else l (parts_lead ps) ∷ []
    part_places (Nothing place) = place ∷ []

    pub steps_places : Steps → List Place
    steps_places no_steps = []
    steps_places (and_steps s ss) = step_places s ++ steps_places ss

    pub step_places : Step → List Place
    step_places (Apply d none) = derived_places d ++ or_else l (derived_lead d) ∷ []
    step_places (Apply d (some w)) = derived_places d ++ part_places w ++ or_else l (derived_lead d) ∷ []
    step_places (Assign q a) = or_else l (pattern_lead q) ∷ []
    step_places (Modify t d) = derived_places d ++ t.place ∷ or_else l (derived_lead d) ∷ t.place ∷ []

    pub derived_places : Derived → List Place
    derived_places (derived x us) = uses_places us ++ part_places x ++ derives_places us

    pub uses_places : Uses → List Place
    uses_places no_uses = []
    uses_places (and_uses u us) = uses_places us ++ use_places u

    pub use_places : Use → List Place
    use_places (One m) = part_places m
    use_places (Two m x) = part_places x ++ part_places m

    pub deriveds_places : Deriveds → List Place
    deriveds_places no_deriveds = []
    deriveds_places (and_deriveds d ds) = deriveds_places ds ++ derived_places d ++ if_two (or_else l (derived_lead d)) (parts_read ds)

    pub exprs_places : Exprs → List Place
    exprs_places no_exprs = []
    exprs_places (and_exprs e es) = expr_places e ++ exprs_places es

    pub parts_places : Parts → List Place
    parts_places no_parts = []
    parts_places (and_parts x xs) = part_places x ++ parts_places xs

-- ---- headers

abbrev pub named_argument_places : Place → Kind → List Place
named_argument_places p (kind.Special s r) = []
named_argument_places p k = p ∷ p ∷ []

abbrev pub argument_places : (lead : Place) → Option Pattern → List Place
argument_places l None = []
argument_places l (Some (Name t)) = named_argument_places t.place t.kind
argument_places l (Some q) = or_else l (pattern_lead q) ∷ or_else l (pattern_lead q) ∷ []

abbrev pub name_places : Place → Kind → List Place
name_places p (kind.Word name r) = p ∷ p ∷ p ∷ []
name_places p k = []

abbrev pub operand_places : Option Token → List Place
operand_places None = []
operand_places (Some t) = name_places t.place t.kind

abbrev pub header_places : Option Header → List Place
header_places None = []
header_places (Some h) =
    argument_places (header_lead h) h.left
    ++ operand_places h.left_operand
    ++ name_places h.own.place h.own.kind
    ++ operand_places h.right_operand
    ++ argument_places (header_lead h) h.right

-- ---- statements

abbrev pub end_places : (exports : Bool) → Place → List Place
end_places true p = p ∷ []
end_places false p = p ∷ p ∷ []

abbrev pub last_places : (exports : Bool) → Place → List Place
last_places true p = p ∷ p ∷ []
last_places false p = p ∷ []

-- behind a statement with this lead
abbrev pub stmts_places : (exports : Bool) → Place → Stmts → List Place
stmts_places exports l no_stmts = end_places exports l
stmts_places exports l (and_stmts (Eval e) no_stmts) = expr_places (stmt_lead (Eval e)) e ++ last_places exports (stmt_lead (Eval e))
stmts_places exports l (and_stmts (Eval e) (and_stmts s ss)) =
    expr_places (stmt_lead (Eval e)) e ++ stmt_lead (Eval e) ∷ stmts_places exports (stmt_lead (Eval e)) (and_stmts s ss)
stmts_places exports l (and_stmts (Predicate e) ss) =
    expr_places (stmt_lead (Predicate e)) e ++ stmt_lead (Predicate e) ∷ stmts_places exports (stmt_lead (Predicate e)) ss
stmts_places exports l (and_stmts (Export q) ss) = stmts_places exports (stmt_lead (Export q)) ss

abbrev pub body_places : Option Header → Stmts → List Place
body_places h ss = header_places h ++ stmts_places (stmts_export ss) at_start ss

-- the same as the code goes through them: what a statement has by itself, whether it leaves a value, and the rest behind a statement
-- with this lead that has left one, or has not
abbrev pub own_places : (lead : Place) → Stmt → List Place
own_places l (Eval e) = expr_places l e
own_places l (Predicate e) = expr_places l e ++ l ∷ []
own_places l (Export q) = []

abbrev pub leaves_one : Stmt → Bool
leaves_one (Eval e) = true
leaves_one s = false

abbrev pub drop_places : (left : Bool) → Place → List Place
drop_places true p = p ∷ []
drop_places false p = []

abbrev pub ending_places : (exports left : Bool) → Place → List Place
ending_places exports true p = last_places exports p
ending_places exports false p = end_places exports p

abbrev pub rest_places : (exports left : Bool) → Place → Stmts → List Place
rest_places exports left l no_stmts = ending_places exports left l
rest_places exports left l (and_stmts s ss) = drop_places left l ++ own_places (stmt_lead s) s ++ rest_places exports (leaves_one s) (stmt_lead s) ss
