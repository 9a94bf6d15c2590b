-- What expressions, statements, bodies and blocks mean: BQN's page on evaluation, with blocks, headers, Nothing and namespaces as its
-- other pages have them. Steps are this project's own.
use Rattle.std.specs.Prelude.{ℕ, zero, suc, ◌+◌, Bool, true, false, if◌then◌else◌, List, [], ◌∷◌, slice_get, Option, Some, None, Result, Ok, Err, pos}
use Rattle.bqn_base.specs.declared.fault.Fault.{Fault}
use Rattle.bqn_base.specs.declared.fault.Fault.TheVariants.{Domain, NoBody}
use Rattle.bqn_rows.specs.Plain as plain
use Rattle.bqn_rows.specs.Plain.{Number, Namespace}
use Rattle.bqn_rows.specs.Calls.{Arguments, alone, two}
use Rattle.bqn_base.specs.declared.place.Place.{Place}
use Rattle.bqn_rows.specs.Running.{Gives, Replies}
use Rattle.bqn_syntax.specs.declared.token.Token.{Token}
use Rattle.bqn_syntax.specs.declared.tree.Class.{Class}
use Rattle.bqn_syntax.specs.declared.tree.Arrow.TheVariants as arrow
use Rattle.bqn_syntax.specs.grammar.Trees.{Expr, Value, Train, Modifier, Use, One, Two, Part, Leaf, Elements, Merge, Paren, Block as Braces, Field, Strand, Nothing, Step, Apply, Assign, Modify, Eval, Predicate, Export, block, Derived, derived, MaybePart, none, some, Exprs, no_exprs, and_exprs, Uses, no_uses, and_uses, Parts, no_parts, and_parts, Steps, no_steps, and_steps, Stmts, no_stmts, and_stmts, Deriveds, no_deriveds, and_deriveds}
use Rattle.bqn_syntax.specs.blocks.Leads.{or_else, pattern_lead, part_lead, derived_lead, deriveds_lead, exprs_lead, parts_lead, stmt_lead, at_start as at_the_start}
use Rattle.bqn_syntax.specs.grammar.Classes.{Calls, Monadic, Dyadic, Both}
use Rattle.bqn_syntax.specs.scope.Scope.{name_of}
use Rattle.bqn_syntax.specs.blocks.Counting.{in_expr, in_part, in_maybe, in_steps, in_derived, in_use}
use Rattle.bqn_meaning.specs.Actions.{Action, at, ◌>>=◌, pure, fault, known, used, where_so}
use Rattle.bqn_syntax.specs.blocks.Blocks.{Block, Body, class_of, scopes_of}
use Rattle.bqn_meaning.specs.Environments.{State, Does, Calling, stepped, wrote, within_new, look}
use Rattle.bqn_meaning.specs.Frames.{Setting, Entry, Frame, given, leaf}
use Rattle.bqn_meaning.specs.Matching.{field, stays, assigned, bind, header_fits}
use Rattle.bqn_meaning.specs.Deriving.{list_of, merged, standing, modified_one, modified_two, Reading, Unread, and_part, train, applied}

-- ---- expressions, given how calls run

abbrev pub fields : Setting → List Token → Option plain.Value → Does (Option plain.Value)
fields g [] v = pure v
fields g (t ∷ ts) v = at t.place (used v >>= (λ x. field g.blocks x (name_of t))) >>= (λ y. fields g ts (Some y))

-- the present value of a name that is changed
abbrev pub present : Frame → Token → Does plain.Value
present f t = at t.place (look f.scopes f.environment (name_of t))

-- a name is changed to what a call gave
abbrev pub changed_to : Frame → Token → Option plain.Value → Does (Option plain.Value)
changed_to f t v = at t.place (stays f arrow.Change t v)

-- in a statement with this lead, which a piece without a leaf takes
module _ (h : Calling) (g : Setting) (f : Frame) (l : Place) where
  -- each gives a value, or Nothing; the blocks in it are numbered from c on
  abbrev mutual
    pub eval_expr : Expr → (c : ℕ) → Does (Option plain.Value)
    eval_expr (Value none (and_steps (Modify t d) ss)) c =
        present f t >>= (λ x. eval_derived d (c + (in_steps ss).blocks) >>= (λ k. at (or_else l (derived_lead d)) (applied h k None (Some x))
        >>= changed_to f t >>= eval_steps ss c))
    eval_expr (Value none ss) c = eval_steps ss c None
    eval_expr (Value (some x) ss) c = eval_part x (c + (in_steps ss).blocks) >>= eval_steps ss c
    eval_expr (Train targets ds) c = eval_deriveds ds c >>= (λ r. at (or_else l (deriveds_lead ds)) (known (train r)) >>= assigned f targets)
    eval_expr (Modifier targets x) c = eval_part x c >>= assigned f targets

    pub eval_part : Part → ℕ → Does (Option plain.Value)
    eval_part (Leaf t) c = at t.place (leaf g f t.kind)
    eval_part (Elements es) c = eval_exprs es c >>= (λ vs. at (or_else l (exprs_lead es)) (list_of vs)) >>= given
    eval_part (Merge es) c = eval_exprs es c >>= merged h (or_else l (exprs_lead es)) >>= given
    eval_part (Paren e) c = eval_expr e c
    eval_part (Braces (block place kind bs)) c = at place (h (standing kind c f.environment)) >>= given
    eval_part (Field base names) c = eval_part base c >>= fields g names
    eval_part (Strand ps) c = eval_parts ps c >>= (λ vs. at (or_else l (parts_lead ps)) (list_of vs)) >>= given
    eval_part (Nothing place) c = pure None

    pub eval_maybe : MaybePart → ℕ → Does (Option plain.Value)
    eval_maybe none c = pure None
    eval_maybe (some x) c = eval_part x c

    pub eval_steps : Steps → ℕ → Option plain.Value → Does (Option plain.Value)
    eval_steps no_steps c v = pure v
    eval_steps (and_steps s ss) c v = eval_step s (c + (in_steps ss).blocks) v >>= eval_steps ss c

    -- the function before its left argument; `a F↩ x` reads `a` behind its function
    pub eval_step : Step → ℕ → Option plain.Value → Does (Option plain.Value)
    eval_step (Apply d left) c v =
        eval_derived d (c + (in_maybe left).blocks) >>= (λ k. eval_maybe left c >>= (λ w. at (or_else l (derived_lead d)) (applied h k w v)))
    eval_step (Assign q a) c v = at (or_else l (pattern_lead q)) (used v >>= (λ x. bind g f a q x >>= (λ u. pure (Some x))))
    eval_step (Modify t d) c v = eval_derived d c >>= (λ k. present f t >>= (λ w. at (or_else l (derived_lead d)) (applied h k (Some w) v) >>= changed_to f t))

    pub eval_derived : Derived → ℕ → Does (Option plain.Value)
    eval_derived (derived x us) c = eval_uses us (c + (in_part x).blocks) (eval_part x c)

    -- the last modifier is the outermost; what is inside it is evaluated behind it
    pub eval_uses : Uses → ℕ → (inside : Does (Option plain.Value)) → Does (Option plain.Value)
    eval_uses no_uses c inside = inside
    eval_uses (and_uses u us) c inside = eval_uses us (c + (in_use u).blocks) (eval_use u c inside)

    -- the right operand, the modifier, the left operand
    pub eval_use : Use → ℕ → (inside : Does (Option plain.Value)) → Does (Option plain.Value)
    eval_use (One m) c inside = eval_part m c >>= (λ n. inside >>= (λ x. at (or_else l (part_lead m)) (modified_one (class_of g.blocks) h n x)))
    eval_use (Two m x) c inside =
        eval_part x (c + (in_part m).blocks) >>= (λ r. eval_part m c >>= (λ n. inside
        >>= (λ k. at (or_else l (part_lead m)) (modified_two (class_of g.blocks) h n k r))))

    -- the parts of a train from the right
    pub eval_deriveds : Deriveds → ℕ → Does Reading
    eval_deriveds no_deriveds c = pure Unread
    eval_deriveds (and_deriveds d ds) c =
        eval_deriveds ds (c + (in_derived d).blocks) >>= (λ r. eval_derived d c >>= (λ v. at (or_else l (derived_lead d)) (known (and_part r v))))

    pub eval_exprs : Exprs → ℕ → Does (List (Option plain.Value))
    eval_exprs no_exprs c = pure []
    eval_exprs (and_exprs e es) c = eval_expr e c >>= (λ v. eval_exprs es (c + (in_expr e).blocks) >>= (λ vs. pure (v ∷ vs)))

    pub eval_parts : Parts → ℕ → Does (List (Option plain.Value))
    eval_parts no_parts c = pure []
    eval_parts (and_parts x xs) c = eval_part x c >>= (λ v. eval_parts xs (c + (in_part x).blocks) >>= (λ vs. pure (v ∷ vs)))

-- ---- statements and bodies

-- a predicate: 0 or 1
abbrev pub truth : plain.Value → Result Bool Fault
truth (Number (pos zero)) = Ok false
truth (Number (pos (suc zero))) = Ok true
truth v = Err Domain

abbrev pub tested : {X S : Type 0} → Option plain.Value → Action X S Bool
tested v = used v >>= (λ x. known (truth x))

-- how a body ends: it is given up for the next one, or has an answer, which may be Nothing, at this place
pub data Ending : Type 0 where
  NextBody : Ending
  EndsWith : Place → Option plain.Value → Ending

-- the answer of a body: its namespace, where it exports
abbrev pub body_answer : Body → Frame → Option plain.Value → Option plain.Value
body_answer b f v = if b.exports then Some (Namespace f.environment) else v

-- a body that ends in Nothing, and exports nothing, is no use to a block; where it is given up, the next one is tried
abbrev pub or_next : Does plain.Value → Body → Frame → Ending → Does plain.Value
or_next next b f NextBody = next
or_next next b f (EndsWith p v) = at p (used (body_answer b f v))

-- whether a body is for such a call
abbrev pub is_for : Calls → Arguments → Bool
is_for Both xs = true
is_for Monadic (alone x) = true
is_for Dyadic (two w x) = true
is_for _ _ = false

-- where a body of a block of this class is run, in its environment
abbrev pub frame_of : Entry → Class → Body → (environment : ℕ) → Frame
frame_of e class b n =
    record { scopes = scopes_of b; environment = n; block = e.block; class = class; outer = e.outer; operands = e.operands; arguments = e.arguments }

module _ (h : Calling) (g : Setting) where
  -- statements behind others, the last of which has this lead and gave this; an export alone gives Nothing
  abbrev pub eval_stmts : Frame → Stmts → ℕ → Place → Option plain.Value → Does Ending
  eval_stmts f no_stmts c p last = pure (EndsWith p last)
  eval_stmts f (and_stmts (Eval e) ss) c p last = eval_expr h g f (stmt_lead (Eval e)) e c >>= eval_stmts f ss (c + (in_expr e).blocks) (stmt_lead (Eval e))
  eval_stmts f (and_stmts (Predicate e) ss) c p last =
      eval_expr h g f (stmt_lead (Predicate e)) e c
      >>= (λ v. at (stmt_lead (Predicate e)) (tested v)
      >>= where_so NextBody (eval_stmts f ss (c + (in_expr e).blocks) (stmt_lead (Predicate e)) None))
  eval_stmts f (and_stmts (Export q) ss) c p last = eval_stmts f ss c (stmt_lead (Export q)) None

  -- a body, where its header fits
  abbrev pub eval_body : Body → Frame → Does Ending
  eval_body b f = header_fits g f b.header >>= where_so NextBody (eval_stmts f b.statements b.inside at_the_start None)

  -- ---- blocks

  -- one body: a step, and a new environment
  abbrev pub try_body : Entry → Class → Does plain.Value → Body → Does plain.Value
  try_body e class next b = stepped (within_new b.own.number e.outer (λ n. eval_body b (frame_of e class b n) >>= or_next next b (frame_of e class b n)))

  -- the bodies in order, those for other calls skipped
  abbrev pub try_bodies : Entry → Class → List Body → Does plain.Value
  try_bodies e class [] = fault NoBody
  try_bodies e class (b ∷ bs) = elim (is_for b.calls e.arguments) [ true ↦ try_body e class (try_bodies e class bs) b | false ↦ try_bodies e class bs ]

  abbrev pub enter_block : Option Block → Entry → Does plain.Value
  enter_block None e = fault NoBody
  enter_block (Some b) e = try_bodies e b.class b.bodies

-- what an evaluation does where a call asks: a turn takes a step
abbrev pub replies : Setting → Replies State State
replies g = record {
  enter = λ room inner block outer operands xs.
      enter_block inner g (slice_get g.blocks block) (record { block = block; outer = outer; operands = operands; arguments = xs });
  turn = stepped (λ s. Gives tt s);
  write = λ text s. Gives tt (wrote text s);
}
