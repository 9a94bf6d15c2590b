-- The class of a block, from its own text alone: BQN's page on blocks. Which calls a plain body is for is this project's own.
use Rattle.std.specs.Prelude.{ℕ, ◌+◌, nat_le, Bool, true, false, not, ◌&&◌, ◌||◌, if◌then◌else◌, List, [], ◌∷◌, length, Option, Some, None}
use Rattle.std.specs.List.{list_all, list_any}
use Rattle.bqn_base.specs.declared.role.Role.TheVariants as role
use Rattle.bqn_syntax.specs.declared.token.Special.TheVariants as special
use Rattle.bqn_syntax.specs.declared.token.Kind.{Kind}
use Rattle.bqn_syntax.specs.declared.token.Kind.TheVariants as kind
use Rattle.bqn_syntax.specs.declared.tree.Class.{Class}
use Rattle.bqn_syntax.specs.declared.tree.Class.TheVariants as class
use Rattle.bqn_syntax.specs.declared.sort.Tag.{Tag}
use Rattle.bqn_syntax.specs.declared.sort.Tag.TheVariants as tag
use Rattle.bqn_syntax.specs.grammar.Sorts.{same_tag}
use Rattle.bqn_syntax.specs.grammar.Headers.{own_tag}
use Rattle.bqn_syntax.specs.grammar.Trees.{Pattern, Header, Expr, Value, Train, Modifier, Use, One, Two, Part, Leaf, Elements, Merge, Paren, Block, Field, Strand, Nothing, Step, Apply, Assign, Modify, Stmt, Eval, Predicate, Export, BodyTree, body, Derived, derived, MaybePart, none, some, Exprs, no_exprs, and_exprs, Uses, no_uses, and_uses, Parts, no_parts, and_parts, Steps, no_steps, and_steps, Stmts, no_stmts, and_stmts, Bodies, no_bodies, and_bodies, Deriveds, no_deriveds, and_deriveds}

-- which special names occur: those of arguments and of the function itself; those of one operand; `_𝕣`; those of two operands
pub record Seen : Type 0 where
  pub args : Bool
  pub one : Bool
  pub one_self : Bool
  pub two : Bool

abbrev pub seen : Bool → Bool → Bool → Bool → Seen
seen args one one_self two = record { args = args; one = one; one_self = one_self; two = two }

abbrev pub nothing : Seen
nothing = seen false false false false

abbrev pub and : Seen → Seen → Seen
and s r = seen (s.args || r.args) (s.one || r.one) (s.one_self || r.one_self) (s.two || r.two)

abbrev pub seen_in_kind : Kind → Seen
seen_in_kind (kind.Special special.Left r) = seen true false false false
seen_in_kind (kind.Special special.Right r) = seen true false false false
seen_in_kind (kind.Special special.Own r) = seen true false false false
seen_in_kind (kind.Special special.LeftOperand r) = seen false true false false
seen_in_kind (kind.Special special.RightOperand r) = seen false false false true
seen_in_kind (kind.Special special.Modifier role.Mod1) = seen false false true false
seen_in_kind (kind.Special special.Modifier role.Mod2) = seen false false false true
seen_in_kind (kind.Special special.Modifier r) = seen false true false false
seen_in_kind _ = nothing

-- what occurs in a tree, blocks inside it aside
abbrev mutual
  pub seen_in_expr : Expr → Seen
  seen_in_expr (Value last steps) = and (seen_in_maybe last) (seen_in_steps steps)
  seen_in_expr (Train targets parts) = seen_in_deriveds parts
  seen_in_expr (Modifier targets x) = seen_in_part x

  pub seen_in_part : Part → Seen
  seen_in_part (Leaf t) = seen_in_kind t.kind
  seen_in_part (Elements es) = seen_in_exprs es
  seen_in_part (Merge es) = seen_in_exprs es
  seen_in_part (Paren e) = seen_in_expr e
  seen_in_part (Block b) = nothing
  seen_in_part (Field base names) = seen_in_part base
  seen_in_part (Strand ps) = seen_in_parts ps
  seen_in_part (Nothing place) = nothing

  pub seen_in_maybe : MaybePart → Seen
  seen_in_maybe none = nothing
  seen_in_maybe (some x) = seen_in_part x

  pub seen_in_step : Step → Seen
  seen_in_step (Apply f left) = and (seen_in_derived f) (seen_in_maybe left)
  seen_in_step (Assign q a) = nothing
  seen_in_step (Modify t f) = seen_in_derived f

  pub seen_in_derived : Derived → Seen
  seen_in_derived (derived x us) = and (seen_in_part x) (seen_in_uses us)

  pub seen_in_use : Use → Seen
  seen_in_use (One m) = seen_in_part m
  seen_in_use (Two m x) = and (seen_in_part m) (seen_in_part x)

  pub seen_in_stmt : Stmt → Seen
  seen_in_stmt (Eval e) = seen_in_expr e
  seen_in_stmt (Predicate e) = seen_in_expr e
  seen_in_stmt (Export q) = nothing

  pub seen_in_exprs : Exprs → Seen
  seen_in_exprs no_exprs = nothing
  seen_in_exprs (and_exprs e es) = and (seen_in_expr e) (seen_in_exprs es)

  pub seen_in_uses : Uses → Seen
  seen_in_uses no_uses = nothing
  seen_in_uses (and_uses u us) = and (seen_in_use u) (seen_in_uses us)

  pub seen_in_parts : Parts → Seen
  seen_in_parts no_parts = nothing
  seen_in_parts (and_parts x xs) = and (seen_in_part x) (seen_in_parts xs)

  pub seen_in_steps : Steps → Seen
  seen_in_steps no_steps = nothing
  seen_in_steps (and_steps s ss) = and (seen_in_step s) (seen_in_steps ss)

  pub seen_in_stmts : Stmts → Seen
  seen_in_stmts no_stmts = nothing
  seen_in_stmts (and_stmts s ss) = and (seen_in_stmt s) (seen_in_stmts ss)

  pub seen_in_deriveds : Deriveds → Seen
  seen_in_deriveds no_deriveds = nothing
  seen_in_deriveds (and_deriveds d ds) = and (seen_in_derived d) (seen_in_deriveds ds)

-- what the class of a block asks of a body: its header, whether it has a predicate, how many statements stand after the
-- last one, and which special names occur in its statements
pub record Marks : Type 0 where
  pub header : Option Header
  pub predicate : Bool
  pub statements : ℕ
  pub seen : Seen

abbrev pub is_predicate : Stmt → Bool
is_predicate (Predicate e) = true
is_predicate _ = false

abbrev pub has_predicate : Stmts → Bool
has_predicate no_stmts = false
has_predicate (and_stmts s ss) = is_predicate s || has_predicate ss

-- so many statements stand after the last predicate, where so many stood before these
abbrev pub since_predicate : ℕ → Stmts → ℕ
since_predicate so no_stmts = so
since_predicate so (and_stmts (Predicate e) ss) = since_predicate 0 ss
since_predicate so (and_stmts s ss) = since_predicate (so + 1) ss

abbrev pub marks_of : BodyTree → Marks
marks_of (body h ss) = record { header = h; predicate = has_predicate ss; statements = since_predicate 0 ss; seen = seen_in_stmts ss }

abbrev pub marks_in : Bodies → List Marks
marks_in no_bodies = []
marks_in (and_bodies b bs) = marks_of b ∷ marks_in bs

-- whether a body's header is one of this role
abbrev pub heads : Tag → Option Header → Bool
heads t None = false
heads t (Some h) = same_tag t (own_tag h.own.kind)

abbrev pub is_some : Option Pattern → Bool
is_some None = false
is_some (Some q) = true

abbrev pub has_argument : Option Header → Bool
has_argument None = false
has_argument (Some h) = is_some h.right

abbrev pub has_two : Marks → Bool
has_two m = m.seen.two || heads tag.Mod2 m.header

-- `_𝕣` or a 1-modifier's header
abbrev pub has_one_self : Marks → Bool
has_one_self m = m.seen.one_self || heads tag.Mod1 m.header

abbrev pub has_one : Marks → Bool
has_one m = m.seen.one || has_one_self m

abbrev pub has_function : Marks → Bool
has_function m = heads tag.Function m.header

abbrev pub is_deferred : Marks → Bool
is_deferred m = m.seen.args || has_argument m.header

abbrev pub no_header : Option Header → Bool
no_header None = true
no_header (Some h) = false

abbrev pub is_plain : Marks → Bool
is_plain m = no_header m.header && not m.predicate

-- plain bodies stand last, and there are at most so many
abbrev pub plain_last : ℕ → List Marks → Bool
plain_last most [] = true
plain_last most (m ∷ ms) = elim (is_plain m) [ true ↦ list_all is_plain ms && nat_le (length (m ∷ ms)) most | false ↦ plain_last most ms ]

abbrev pub most_plain : Class → ℕ
most_plain class.Function = 2
most_plain class.Mod1Deferred = 2
most_plain class.Mod2Deferred = 2
most_plain _ = 1

abbrev pub has_statement : Marks → Bool
has_statement m = nat_le 1 m.statements

-- the class, if each body has a statement and the plain ones stand where they may
abbrev pub class_if : Class → List Marks → Option Class
class_if c ms = if list_all has_statement ms && plain_last (most_plain c) ms then Some c else None

-- the class of a block with these bodies; none where they break a rule
abbrev pub class_of : List Marks → Option Class
class_of ms =
    if list_any has_two ms then
    (if list_any has_one_self ms || list_any has_function ms then None
    else class_if (if list_any is_deferred ms then class.Mod2Deferred else class.Mod2) ms)
    else if list_any has_one ms then
    (if list_any has_function ms then None
    else class_if (if list_any is_deferred ms then class.Mod1Deferred else class.Mod1) ms)
    else if list_any (λ m. m.seen.args || has_function m) ms then class_if class.Function ms
    else class_if class.Immediate ms

-- The calls that a body is for: without a left argument, with one, or both. `before` plain bodies stand left of it in a block
-- that has so many.
pub data Calls : Type 0 where
  Monadic Dyadic Both : Calls

abbrev pub plain_calls : (plain before : ℕ) → Calls
plain_calls plain before = if nat_le plain 1 then Both else if nat_le 1 before then Dyadic else Monadic

abbrev pub argument_calls : (left right : Option Pattern) → Calls
argument_calls left None = Both
argument_calls None (Some x) = Monadic
argument_calls (Some w) (Some x) = Dyadic

abbrev pub body_calls : (plain before : ℕ) → Option Header → Bool → Calls
body_calls plain before (Some h) predicate = argument_calls h.left h.right
body_calls plain before None true = Both
body_calls plain before None false = plain_calls plain before

-- ---- what waits

-- a block of this class waits for arguments
abbrev pub waits : Class → Bool
waits class.Function = true
waits class.Mod1Deferred = true
waits class.Mod2Deferred = true
waits _ = false
