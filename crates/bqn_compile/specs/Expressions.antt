-- The code of expressions, in the order of evaluation: each instruction with the lead of the piece that it is for. It is written down
-- once, for whatever is made of an instruction and a lead: the instruction alone, its place, or both.
use Rattle.std.specs.Prelude.{ℕ, suc, ◌+◌, List, [], ◌∷◌, ◌++◌, map, position, Option, Some, None}
use Rattle.bqn_base.specs.declared.place.Place.{Place}
use Rattle.bqn_syntax.specs.declared.token.Kind.{Kind}
use Rattle.bqn_syntax.specs.declared.token.Kind.TheVariants as kind
use Rattle.bqn_syntax.specs.declared.token.Special.{Special}
use Rattle.bqn_syntax.specs.declared.token.Special.TheVariants as special
use Rattle.bqn_syntax.specs.declared.token.Token.{Token}
use Rattle.bqn_syntax.specs.declared.tree.Arrow.{Arrow}
use Rattle.bqn_syntax.specs.declared.tree.Arrow.TheVariants as arrow
use Rattle.bqn_syntax.specs.declared.tree.Class.{Class}
use Rattle.bqn_syntax.specs.declared.tree.Class.TheVariants as class
use Rattle.bqn_syntax.specs.grammar.Trees.{Pattern, Name, Expr, Value, Train, Modifier, Use, One, Two, Part, Leaf, Elements, Merge, Paren, Block, Field, Strand, Nothing, Step, Apply, Assign, Modify, block, Derived, derived, none, some, Exprs, no_exprs, and_exprs, Uses, no_uses, and_uses, Parts, no_parts, and_parts, Steps, no_steps, and_steps, Deriveds, no_deriveds, and_deriveds}
use Rattle.bqn_syntax.specs.blocks.Leads.{or_else, pattern_lead, derived_lead, deriveds_lead, exprs_lead, parts_lead, modifier_lead}
use Rattle.bqn_syntax.specs.scope.Scope as scope
use Rattle.bqn_syntax.specs.scope.Scope.{Seen, name_of, same_name, system_names}
use Rattle.bqn_code.specs.declared.constant.Const.{Const}
use Rattle.bqn_code.specs.declared.instr.Instr.{Instr}
use Rattle.bqn_code.specs.declared.instr.Instr.TheVariants as i
use Rattle.bqn_compile.specs.declared.count.Count.{Count}
use Rattle.bqn_compile.specs.declared.read.Read.{Read}
use Rattle.bqn_compile.specs.declared.read.Read.TheVariants as read
use Rattle.bqn_compile.specs.Counting.{past, in_token, in_targets, in_part, in_steps, in_derived, in_use, in_expr}
use Rattle.bqn_compile.specs.Pools.{constant_of, constant_number, name_number, seen_at}

-- the uses of names in text order, and the pools
pub record Setting : Type 0 where
  pub uses : List scope.Use
  pub constants : List Const
  pub names : List (List ℕ)

-- ---- one token

abbrev pub load : Seen → Instr
load at = i.Load at.up at.slot

-- a value that is stored, and stays
abbrev pub store : Arrow → Seen → Instr
store arrow.Change at = i.Change at.up at.slot
store a at = i.Define at.slot

abbrev pub special_instr : Special → Instr
special_instr special.Left = i.Left
special_instr special.Right = i.Right
special_instr special.Own = i.Own
special_instr special.LeftOperand = i.LeftOperand
special_instr special.RightOperand = i.RightOperand
special_instr special.Modifier = i.Modifier

-- the system values have the codes behind the primitives
abbrev pub first_system : ℕ
first_system = 64

abbrev pub system_instr : Option ℕ → Instr
system_instr None = i.Nothing
system_instr (Some n) = i.Given (first_system + n)

abbrev pub literal_instr : List Const → Option Const → Instr
literal_instr constants None = i.Nothing
literal_instr constants (Some c) = i.Const (constant_number constants c)

-- a name, a literal or a primitive by itself, a name being this use
abbrev pub leaf_instr : Setting → (use' : ℕ) → Kind → Instr
leaf_instr g k (kind.Word name r) = load (seen_at g.uses k)
leaf_instr g k (kind.Special s r) = special_instr s
leaf_instr g k (kind.System name r) = system_instr (position (λ other. same_name other name) system_names)
leaf_instr g k (kind.Given code) = i.Given code
leaf_instr g k literal = literal_instr g.constants (constant_of literal)

-- a block's value, or its run where it stands
abbrev pub block_instr : Class → ℕ → Instr
block_instr class.Immediate b = i.Run b
block_instr c b = i.Block b

-- ---- targets

-- a name alone is stored into; anything else is a pattern with this number
abbrev pub target_instr : Setting → Count → Pattern → Arrow → Instr
target_instr g c (Name t) a = store a (seen_at g.uses c.uses)
target_instr g c q a = i.Bind c.patterns

-- ---- trains

abbrev pub and_one : Read → Read
and_one read.No = read.One
and_one read.One = read.Two
and_one read.Two = read.One

abbrev pub parts_read : Deriveds → Read
parts_read no_deriveds = read.No
parts_read (and_deriveds d ds) = and_one (parts_read ds)

-- ---- lists

-- the code of `>`, which merges a list
abbrev pub merge : ℕ
merge = 13

abbrev pub how_many_exprs : Exprs → ℕ
how_many_exprs no_exprs = 0
how_many_exprs (and_exprs e es) = suc (how_many_exprs es)

abbrev pub how_many_parts : Parts → ℕ
how_many_parts no_parts = 0
how_many_parts (and_parts x xs) = suc (how_many_parts xs)

-- ---- modifiers: what they make, once all parts are there

abbrev pub derive_instr : Use → Instr
derive_instr (One m) = i.Derive1
derive_instr (Two m x) = i.Derive2

-- ---- what is made of an instruction and a lead

-- behind one more part, that part and two others are made one
abbrev pub put_fork : {A : Type 0} → (Instr → A) → Read → List A
put_fork put read.Two = put i.Train3 ∷ []
put_fork put r = []

abbrev pub put_atop : {A : Type 0} → (Instr → A) → Read → List A
put_atop put read.Two = put i.Train2 ∷ []
put_atop put r = []

module _ {A : Type 0} (put : Option Place → Instr → A) where
  abbrev pub put_fields : List (List ℕ) → List Token → List A
  put_fields names ts = map (λ t. put (Some t.place) (i.Field (name_number names (name_of t)))) ts

  -- the rightmost target is stored first
  abbrev pub put_targets : Setting → Count → List (Token × Arrow) → List A
  put_targets g c [] = []
  put_targets g c (t ∷ ts) = put_targets g (past c (in_token t.0)) ts ++ put (Some t.0.place) (store t.1 (seen_at g.uses c.uses)) ∷ []

  abbrev pub put_derives : Uses → List A
  put_derives no_uses = []
  put_derives (and_uses u us) = put (modifier_lead u) (derive_instr u) ∷ put_derives us

  -- ---- expressions, where so much comes before

  module _ (g : Setting) where
    abbrev mutual
      pub put_expr : Count → Expr → List A
      put_expr c (Value none (and_steps (Modify t d) ss)) =
          let at : Count = past c (in_steps ss) in
          put (Some t.place) (load (seen_at g.uses at.uses))
          ∷ put_derived (past at (in_token t)) d
          ++ put (derived_lead d) i.Call1
          ∷ put (Some t.place) (store arrow.Change (seen_at g.uses at.uses))
          ∷ put_steps c ss
      put_expr c (Value none ss) = put None i.Nothing ∷ put_steps c ss
      put_expr c (Value (some x) ss) = put_part (past c (in_steps ss)) x ++ put_steps c ss
      put_expr c (Train targets ds) =
          put_deriveds (past c (in_targets targets)) ds ++ put_atop (put (deriveds_lead ds)) (parts_read ds) ++ put_targets g c targets
      put_expr c (Modifier targets x) = put_part (past c (in_targets targets)) x ++ put_targets g c targets

      pub put_part : Count → Part → List A
      put_part c (Leaf t) = put (Some t.place) (leaf_instr g c.uses t.kind) ∷ []
      put_part c (Elements es) = put_exprs c es ++ put (exprs_lead es) (i.List (how_many_exprs es)) ∷ []
      put_part c (Merge es) =
          put_exprs c es ++ put (exprs_lead es) (i.List (how_many_exprs es)) ∷ put (exprs_lead es) (i.Given merge) ∷ put (exprs_lead es) i.Call1 ∷ []
      put_part c (Paren e) = put_expr c e
      put_part c (Block (block place kind bs)) = put (Some place) (block_instr kind c.blocks) ∷ []
      put_part c (Field base names) = put_part c base ++ put_fields g.names names
      put_part c (Strand ps) = put_parts c ps ++ put (parts_lead ps) (i.List (how_many_parts ps)) ∷ []
      put_part c (Nothing place) = put (Some place) i.Nothing ∷ []

      pub put_steps : Count → Steps → List A
      put_steps c no_steps = []
      put_steps c (and_steps s ss) = put_step (past c (in_steps ss)) s ++ put_steps c ss

      -- `a F↩ x` reads `a` behind its function
      pub put_step : Count → Step → List A
      put_step c (Apply d none) = put_derived c d ++ put (derived_lead d) i.Call1 ∷ []
      put_step c (Apply d (some w)) = put_derived (past c (in_part w)) d ++ put_part c w ++ put (derived_lead d) i.Call2 ∷ []
      put_step c (Assign q a) = put (pattern_lead q) (target_instr g c q a) ∷ []
      put_step c (Modify t d) =
          put_derived (past c (in_token t)) d
          ++ put (Some t.place) (load (seen_at g.uses c.uses))
          ∷ put (derived_lead d) i.Call2
          ∷ put (Some t.place) (store arrow.Change (seen_at g.uses c.uses)) ∷ []

      -- all modifiers from the last, which is the outermost, then the part, and what is made of them
      pub put_derived : Count → Derived → List A
      put_derived c (derived x us) = put_uses (past c (in_part x)) us ++ put_part c x ++ put_derives us

      pub put_uses : Count → Uses → List A
      put_uses c no_uses = []
      put_uses c (and_uses u us) = put_uses (past c (in_use u)) us ++ put_use c u

      -- the right operand before the modifier
      pub put_use : Count → Use → List A
      put_use c (One m) = put_part c m
      put_use c (Two m x) = put_part (past c (in_part m)) x ++ put_part c m

      -- the parts of a train from the right
      pub put_deriveds : Count → Deriveds → List A
      put_deriveds c no_deriveds = []
      put_deriveds c (and_deriveds d ds) = put_deriveds (past c (in_derived d)) ds ++ put_derived c d ++ put_fork (put (derived_lead d)) (parts_read ds)

      pub put_exprs : Count → Exprs → List A
      put_exprs c no_exprs = []
      put_exprs c (and_exprs e es) = put_expr c e ++ put_exprs (past c (in_expr e)) es

      pub put_parts : Count → Parts → List A
      put_parts c no_parts = []
      put_parts c (and_parts x xs) = put_part c x ++ put_parts (past c (in_part x)) xs

-- ---- the instructions with their places, where a piece without a lead takes this one

abbrev pub at_lead : Place → Option Place → Instr → Instr × Place
at_lead l q i = (i, or_else l q)

-- ---- the instructions alone

abbrev pub alone : Option Place → Instr → Instr
alone l i = i

abbrev pub fields_code : List (List ℕ) → List Token → List Instr
fields_code = put_fields alone

abbrev pub targets_code : Setting → Count → List (Token × Arrow) → List Instr
targets_code = put_targets alone

abbrev pub fork_code : Read → List Instr
fork_code = put_fork (λ i. i)

abbrev pub atop_code : Read → List Instr
atop_code = put_atop (λ i. i)

abbrev pub derives : Uses → List Instr
derives = put_derives alone

abbrev pub expr_code : Setting → Count → Expr → List Instr
expr_code = put_expr alone

abbrev pub part_code : Setting → Count → Part → List Instr
part_code = put_part alone

abbrev pub steps_code : Setting → Count → Steps → List Instr
steps_code = put_steps alone

abbrev pub step_code : Setting → Count → Step → List Instr
step_code = put_step alone

abbrev pub derived_code : Setting → Count → Derived → List Instr
derived_code = put_derived alone

abbrev pub uses_code : Setting → Count → Uses → List Instr
uses_code = put_uses alone

abbrev pub use_code : Setting → Count → Use → List Instr
use_code = put_use alone

abbrev pub deriveds_code : Setting → Count → Deriveds → List Instr
deriveds_code = put_deriveds alone

abbrev pub exprs_code : Setting → Count → Exprs → List Instr
exprs_code = put_exprs alone

abbrev pub parts_code : Setting → Count → Parts → List Instr
parts_code = put_parts alone
