-- The pools of a program, gathered in text order: its constants, names and patterns, or the first token that is one too many. All of
-- it is this project's own.
use Rattle.std.specs.Prelude.{ℕ, suc, nat_lt, Bool, true, false, List, [], ◌∷◌, ◌++◌, length, Option, Some, None, Result, Ok, Err}
use Rattle.bqn_base.specs.declared.place.Place.{Place}
use Rattle.bqn_base.specs.declared.refusal.Refusal.{Refusal}
use Rattle.bqn_base.specs.declared.refusal.Refusal.TheVariants.{TooMany}
use Rattle.bqn_syntax.specs.declared.token.Kind.{Kind}
use Rattle.bqn_syntax.specs.declared.token.Kind.TheVariants as kind
use Rattle.bqn_syntax.specs.declared.token.Token.{Token}
use Rattle.bqn_syntax.specs.declared.tree.Arrow.{Arrow}
use Rattle.bqn_syntax.specs.grammar.Trees.{Name, Skip, Literal, ListPattern, StrandPattern, Patterns, no_patterns, and_patterns, Header, Expr, Value, Train, Modifier, Use, One, Two, Part, Leaf, Elements, Merge, Paren, Block, Field, Strand, Nothing, Step, Apply, Assign, Modify, Stmt, Eval, Predicate, Export, BlockTree, block, BodyTree, body, Derived, derived, MaybePart, none, some, Exprs, no_exprs, and_exprs, Uses, no_uses, and_uses, Parts, no_parts, and_parts, Steps, no_steps, and_steps, Stmts, no_stmts, and_stmts, Bodies, no_bodies, and_bodies, Deriveds, no_deriveds, and_deriveds}
use Rattle.bqn_syntax.specs.grammar.Trees as tree
use Rattle.bqn_syntax.specs.scope.Order.{How, Reads, Defines, Changes, by_arrow}
use Rattle.bqn_syntax.specs.scope.Scope as scope
use Rattle.bqn_syntax.specs.scope.Scope.{defines, has, name_of}
use Rattle.bqn_syntax.specs.scope.Bodies.{exports_it}
use Rattle.bqn_code.specs.declared.constant.Const.{Const}
use Rattle.bqn_code.specs.Plain.{Pattern}
use Rattle.bqn_compile.specs.Pools.{constant_of, place_among, seen_at}
use Rattle.bqn_compile.specs.Patterns.{pattern_code}

-- the pools so far, and how many uses and blocks come before
pub record Gathered : Type 0 where
  pub constants : List Const
  pub names : List (List ℕ)
  pub patterns : List Pattern
  pub uses : ℕ
  pub blocks : ℕ

-- how many constants there may be, how many names in a body, and how many blocks beside the program
pub record Most : Type 0 where
  pub constants : ℕ
  pub names : ℕ
  pub blocks : ℕ

abbrev pub the_most : Most
the_most = record { constants = 65535; names = 65535; blocks = 65535 }

abbrev pub Gathers : Type 0
Gathers = Gathered → Result Gathered Refusal

abbrev pub done : Gathers
done g = Ok g

abbrev pub and_on : Result Gathered Refusal → Gathers → Result Gathered Refusal
and_on (Ok g) next = next g
and_on (Err r) next = Err r

infixr 20 ◌▹◌
-- one behind the other
abbrev pub ◌▹◌ : Gathers → Gathers → Gathers
first ▹ next = λ g. and_on (first g) next

-- whether there is room for it, or else the refusal
abbrev pub if_room : Bool → Place → Gathers
if_room true place g = Ok g
if_room false place g = Err (TooMany place)

-- ---- one token

abbrev pub add_constant : Most → Const → Place → Option ℕ → Gathers
add_constant m c place (Some n) g = Ok g
add_constant m c place None g = and_on (if_room (nat_lt (length g.constants) m.constants) place g) (λ g. Ok (record g { constants = g.constants ++ c ∷ [] }))

-- a constant that is equal to one before is pooled once
abbrev pub constant : Most → Option Const → Place → Gathers
constant m None place g = Ok g
constant m (Some c) place g = add_constant m c place (place_among g.constants c) g

abbrev pub add_name : Bool → List ℕ → Gathers
add_name true name g = Ok g
add_name false name g = Ok (record g { names = g.names ++ name ∷ [] })

abbrev pub pooled : List ℕ → Gathers
pooled name g = add_name (has g.names name) name g

abbrev pub pooled_if : Bool → List ℕ → Gathers
pooled_if true name = pooled name
pooled_if false name = done

-- a name that refers to a variable; where it defines it, it may be one too many
abbrev pub room_for : Most → Bool → (slot : ℕ) → Bool
room_for m true slot = nat_lt slot m.names
room_for m false slot = true

abbrev pub next_use : Gathers
next_use g = Ok (record g { uses = suc g.uses })

abbrev pub refers : Most → List scope.Use → (defining : Bool) → Place → Gathers
refers m uses defining place g = and_on (if_room (room_for m defining (seen_at uses g.uses).slot) place g) next_use

-- a name, a literal, or what has no part in the pools
abbrev pub leaf : Most → List scope.Use → How → Kind → Place → Gathers
leaf m uses how (kind.Word name r) place = refers m uses (defines how) place ▹ pooled_if (exports_it how) name
leaf m uses how k place = constant m (constant_of k) place

abbrev pub block_opened : Gathers
block_opened g = Ok (record g { blocks = suc g.blocks })

-- the brace of a block, where so many stand before it
abbrev pub opens : Most → Place → Gathers
opens m place g = and_on (if_room (nat_lt g.blocks (suc m.blocks)) place g) block_opened

abbrev pub fields : List Token → Gathers
fields [] = done
fields (t ∷ ts) = pooled (name_of t) ▹ fields ts

-- ---- patterns and headers

-- a leaf of a pattern that a value is taken apart by, where each name is pooled
abbrev pub pattern_leaf : Most → List scope.Use → How → Kind → Place → Gathers
pattern_leaf m uses how (kind.Word name r) place = refers m uses (defines how) place ▹ pooled name
pattern_leaf m uses how k place = constant m (constant_of k) place

-- behind its leaves, a pattern whose uses begin with this one
abbrev pub with_pattern : List scope.Use → How → tree.Pattern → ℕ → Gathers
with_pattern uses how q k g = Ok (record g { patterns = g.patterns ++ pattern_code uses g.constants g.names how k q ∷ [] })

-- exported names without a value
abbrev mutual
  pub exported : tree.Pattern → Gathers
  exported (Name t) = pooled (name_of t)
  exported (Skip place) = done
  exported (Literal t) = done
  exported (ListPattern qs) = all_exported qs
  exported (StrandPattern qs) = all_exported qs

  pub all_exported : Patterns → Gathers
  all_exported no_patterns = done
  all_exported (and_patterns q qs) = exported q ▹ all_exported qs

module _ (m : Most) (uses : List scope.Use) where
  abbrev pub token : How → Token → Gathers
  token how t = leaf m uses how t.kind t.place

  abbrev mutual
    pub leaves : How → tree.Pattern → Gathers
    leaves how (Name t) = pattern_leaf m uses how t.kind t.place
    leaves how (Skip place) = done
    leaves how (Literal t) = pattern_leaf m uses how t.kind t.place
    leaves how (ListPattern qs) = all_leaves how qs
    leaves how (StrandPattern qs) = all_leaves how qs

    pub all_leaves : How → Patterns → Gathers
    all_leaves how no_patterns = done
    all_leaves how (and_patterns q qs) = leaves how q ▹ all_leaves how qs

  abbrev pub pattern : How → tree.Pattern → Gathers
  pattern how q g = and_on (leaves how q g) (with_pattern uses how q g.uses)

  -- the target of an arrow; a name alone is no pattern
  abbrev pub target : How → tree.Pattern → Gathers
  target how (Name t) = token how t
  target how q = pattern how q

  -- an argument of a header; `𝕨` and `𝕩` themselves ask for nothing
  abbrev pub named_argument : Kind → Token → Gathers
  named_argument (kind.Special s r) t = done
  named_argument k t = pattern Defines (Name t)

  abbrev pub argument : Option tree.Pattern → Gathers
  argument None = done
  argument (Some (Name t)) = named_argument t.kind t
  argument (Some q) = pattern Defines q

  abbrev pub operand : Option Token → Gathers
  operand None = done
  operand (Some t) = token Defines t

  abbrev pub header : Option Header → Gathers
  header None = done
  header (Some h) = argument h.left ▹ operand h.left_operand ▹ token Defines h.own ▹ operand h.right_operand ▹ argument h.right

  abbrev pub targets : List (Token × Arrow) → Gathers
  targets [] = done
  targets (t ∷ ts) = token (by_arrow t.1) t.0 ▹ targets ts

  -- ---- expressions and blocks

  abbrev mutual
    pub expr : Expr → Gathers
    expr (Value last ss) = steps ss ▹ maybe last
    expr (Train ts ds) = targets ts ▹ deriveds ds
    expr (Modifier ts x) = targets ts ▹ part x

    pub part : Part → Gathers
    part (Leaf t) = token Reads t
    part (Elements es) = exprs es
    part (Merge es) = exprs es
    part (Paren e) = expr e
    part (Block b) = block_tree b
    part (Field base names) = part base ▹ fields names
    part (Strand ps) = parts ps
    part (Nothing place) = done

    pub block_tree : BlockTree → Gathers
    block_tree (block place c bs) = opens m place ▹ bodies bs

    pub maybe : MaybePart → Gathers
    maybe none = done
    maybe (some x) = part x

    -- the steps stand in the text from the last to the first
    pub steps : Steps → Gathers
    steps no_steps = done
    steps (and_steps s ss) = steps ss ▹ step s

    pub step : Step → Gathers
    step (Apply d left) = maybe left ▹ derived_part d
    step (Assign q a) = target (by_arrow a) q
    step (Modify t d) = token Changes t ▹ derived_part d

    pub derived_part : Derived → Gathers
    derived_part (derived x us) = part x ▹ mod_uses us

    pub mod_uses : Uses → Gathers
    mod_uses no_uses = done
    mod_uses (and_uses u us) = mod_use u ▹ mod_uses us

    pub mod_use : Use → Gathers
    mod_use (One m) = part m
    mod_use (Two m x) = part m ▹ part x

    pub deriveds : Deriveds → Gathers
    deriveds no_deriveds = done
    deriveds (and_deriveds d ds) = derived_part d ▹ deriveds ds

    pub exprs : Exprs → Gathers
    exprs no_exprs = done
    exprs (and_exprs e es) = expr e ▹ exprs es

    pub parts : Parts → Gathers
    parts no_parts = done
    parts (and_parts x xs) = part x ▹ parts xs

    pub stmts : Stmts → Gathers
    stmts no_stmts = done
    stmts (and_stmts s ss) = stmt s ▹ stmts ss

    pub stmt : Stmt → Gathers
    stmt (Eval e) = expr e
    stmt (Predicate e) = expr e
    stmt (Export q) = exported q

    pub bodies : Bodies → Gathers
    bodies no_bodies = done
    bodies (and_bodies b bs) = body_tree b ▹ bodies bs

    pub body_tree : BodyTree → Gathers
    body_tree (body h ss) = header h ▹ stmts ss

-- nothing yet; the program itself is a block
abbrev pub at_start : Gathered
at_start = record { constants = []; names = []; patterns = []; uses = 0; blocks = 1 }

abbrev pub gathered : Most → List scope.Use → Stmts → Result Gathered Refusal
gathered m uses ss = stmts m uses ss at_start
