-- The token lists that spell a tree: BQN's page on grammar. The signs of a tree are its tokens in order, with separators left open.
use Rattle.std.specs.Prelude.{◌≡◌, ℕ, Bool, true, false, List, [], ◌∷◌, Option, Some, None}
use Rattle.bqn_base.specs.declared.place.Place.{Place}
use Rattle.bqn_syntax.specs.declared.token.Token.{Token}
use Rattle.bqn_syntax.specs.declared.token.Kind.TheVariants as kind
use Rattle.bqn_syntax.specs.declared.tree.Arrow.{Arrow}
use Rattle.bqn_syntax.specs.declared.tree.Arrow.TheVariants as arrow
use Rattle.bqn_syntax.specs.declared.sort.Sort.TheVariants.{Separates}
use Rattle.bqn_syntax.specs.grammar.Punctuation as punctuation
use Rattle.bqn_syntax.specs.grammar.Sorts.{sort_of}
use Rattle.bqn_syntax.specs.grammar.Classes.{is_predicate}
use Rattle.bqn_syntax.specs.grammar.Trees.{Pattern, Name, Skip, Literal, ListPattern, StrandPattern, Patterns, no_patterns, and_patterns, Header, Expr, Value, Train, Modifier, Use, One, Two, Part, Leaf, Elements, Merge, Paren, Block, Field, Strand, Nothing, Step, Apply, Assign, Modify, Stmt, Eval, Predicate, Export, BlockTree, block, BodyTree, body, Derived, derived, MaybePart, none, some, Exprs, no_exprs, and_exprs, Uses, no_uses, and_uses, Parts, no_parts, and_parts, Steps, no_steps, and_steps, Stmts, no_stmts, and_stmts, Bodies, no_bodies, and_bodies, Deriveds, no_deriveds, and_deriveds}

-- this token; a mark of punctuation at any place; one separator; any number of separators
pub data Sign : Type 0 where
  Exact : Token → Sign
  Mark : ℕ → Sign
  Apart : Sign
  Gap : Sign

-- tokens fit signs
pub data Fits : List Sign → List Token → Type 0 where
  done : Fits [] []
  exact : {t : Token} {k : List Sign} {ts : List Token} → Fits k ts → Fits (Exact t ∷ k) (t ∷ ts)
  mark : {c : ℕ} {t : Token} {k : List Sign} {ts : List Token} → t.kind ≡ kind.Punct c → Fits k ts → Fits (Mark c ∷ k) (t ∷ ts)
  apart : {t : Token} {k : List Sign} {ts : List Token} → sort_of t.kind ≡ Separates → Fits k ts → Fits (Apart ∷ k) (t ∷ ts)
  one_more : {t : Token} {k : List Sign} {ts : List Token} → sort_of t.kind ≡ Separates → Fits (Gap ∷ k) ts → Fits (Gap ∷ k) (t ∷ ts)
  no_more : {k : List Sign} {ts : List Token} → Fits k ts → Fits (Gap ∷ k) ts

abbrev pub arrow_code : Arrow → ℕ
arrow_code arrow.Define = punctuation.define_arrow
arrow_code arrow.Export = punctuation.export_arrow
arrow_code arrow.Change = punctuation.change_arrow

-- a mark whose place the tree keeps
abbrev pub mark_at : ℕ → Place → Token
mark_at c place = record { kind = kind.Punct c; place = place }

-- The signs of a tree, before others.

abbrev mutual
  pub pattern_signs : Pattern → List Sign → List Sign
  pattern_signs (Name t) k = Exact t ∷ k
  pattern_signs (Skip place) k = Exact (mark_at punctuation.middle_dot place) ∷ k
  pattern_signs (Literal t) k = Exact t ∷ k
  pattern_signs (ListPattern qs) k = Mark punctuation.open_angle ∷ Gap ∷ listed_signs qs (Gap ∷ Mark punctuation.close_angle ∷ k)
  pattern_signs (StrandPattern qs) k = joined_signs qs k

  pub listed_signs : Patterns → List Sign → List Sign
  listed_signs no_patterns k = k
  listed_signs (and_patterns q qs) k = pattern_signs q (listed_more qs k)

  pub listed_more : Patterns → List Sign → List Sign
  listed_more no_patterns k = k
  listed_more (and_patterns q qs) k = Apart ∷ Gap ∷ pattern_signs q (listed_more qs k)

  pub joined_signs : Patterns → List Sign → List Sign
  joined_signs no_patterns k = k
  joined_signs (and_patterns q qs) k = pattern_signs q (joined_more qs k)

  pub joined_more : Patterns → List Sign → List Sign
  joined_more no_patterns k = k
  joined_more (and_patterns q qs) k = Mark punctuation.joiner ∷ pattern_signs q (joined_more qs k)

abbrev pub token_signs : Option Token → List Sign → List Sign
token_signs None k = k
token_signs (Some t) k = Exact t ∷ k

abbrev pub argument_signs : Option Pattern → List Sign → List Sign
argument_signs None k = k
argument_signs (Some q) k = pattern_signs q k

abbrev pub header_signs : Header → List Sign → List Sign
header_signs h k = argument_signs h.left (token_signs h.left_operand (Exact h.own ∷ token_signs h.right_operand (argument_signs h.right k)))

abbrev pub target_signs : List (Token × Arrow) → List Sign → List Sign
target_signs [] k = k
target_signs (t ∷ ts) k = Exact t.0 ∷ Mark (arrow_code t.1) ∷ target_signs ts k

abbrev pub name_signs : List Token → List Sign → List Sign
name_signs [] k = k
name_signs (t ∷ ts) k = Mark punctuation.dot ∷ Exact t ∷ name_signs ts k

abbrev mutual
  pub expr_signs : Expr → List Sign → List Sign
  expr_signs (Value last steps) k = steps_signs steps (maybe_signs last k)
  expr_signs (Train targets parts) k = target_signs targets (deriveds_signs parts k)
  expr_signs (Modifier targets x) k = target_signs targets (part_signs x k)

  pub part_signs : Part → List Sign → List Sign
  part_signs (Leaf t) k = Exact t ∷ k
  part_signs (Elements es) k = Mark punctuation.open_angle ∷ Gap ∷ exprs_signs es (Gap ∷ Mark punctuation.close_angle ∷ k)
  part_signs (Merge es) k = Mark punctuation.open_square ∷ Gap ∷ exprs_signs es (Gap ∷ Mark punctuation.close_square ∷ k)
  part_signs (Paren e) k = Mark punctuation.open_round ∷ expr_signs e (Mark punctuation.close_round ∷ k)
  part_signs (Block b) k = block_signs b k
  part_signs (Field base names) k = part_signs base (name_signs names k)
  part_signs (Strand ps) k = parts_signs ps k
  part_signs (Nothing place) k = Exact (mark_at punctuation.middle_dot place) ∷ k

  pub maybe_signs : MaybePart → List Sign → List Sign
  maybe_signs none k = k
  maybe_signs (some x) k = part_signs x k

  -- the first step stands rightmost
  pub steps_signs : Steps → List Sign → List Sign
  steps_signs no_steps k = k
  steps_signs (and_steps s ss) k = steps_signs ss (step_signs s k)

  pub step_signs : Step → List Sign → List Sign
  step_signs (Apply f left) k = maybe_signs left (derived_signs f k)
  step_signs (Assign q a) k = pattern_signs q (Mark (arrow_code a) ∷ k)
  step_signs (Modify t f) k = Exact t ∷ derived_signs f (Mark punctuation.change_arrow ∷ k)

  pub derived_signs : Derived → List Sign → List Sign
  derived_signs (derived x us) k = part_signs x (uses_signs us k)

  pub uses_signs : Uses → List Sign → List Sign
  uses_signs no_uses k = k
  uses_signs (and_uses u us) k = use_signs u (uses_signs us k)

  pub use_signs : Use → List Sign → List Sign
  use_signs (One m) k = part_signs m k
  use_signs (Two m x) k = part_signs m (part_signs x k)

  pub deriveds_signs : Deriveds → List Sign → List Sign
  deriveds_signs no_deriveds k = k
  deriveds_signs (and_deriveds d ds) k = derived_signs d (deriveds_signs ds k)

  pub exprs_signs : Exprs → List Sign → List Sign
  exprs_signs no_exprs k = k
  exprs_signs (and_exprs e es) k = expr_signs e (exprs_more es k)

  pub exprs_more : Exprs → List Sign → List Sign
  exprs_more no_exprs k = k
  exprs_more (and_exprs e es) k = Apart ∷ Gap ∷ expr_signs e (exprs_more es k)

  pub parts_signs : Parts → List Sign → List Sign
  parts_signs no_parts k = k
  parts_signs (and_parts x xs) k = part_signs x (parts_more xs k)

  pub parts_more : Parts → List Sign → List Sign
  parts_more no_parts k = k
  parts_more (and_parts x xs) k = Mark punctuation.joiner ∷ part_signs x (parts_more xs k)

  pub stmt_signs : Stmt → List Sign → List Sign
  stmt_signs (Eval e) k = expr_signs e k
  stmt_signs (Predicate e) k = expr_signs e (Mark punctuation.question_mark ∷ k)
  stmt_signs (Export q) k = pattern_signs q (Mark punctuation.export_arrow ∷ k)

  -- statements after the start of a body, a header or a predicate, or after another statement
  pub stmts_signs : Bool → Stmts → List Sign → List Sign
  stmts_signs begins no_stmts k = k
  stmts_signs true (and_stmts s ss) k = Gap ∷ stmt_signs s (stmts_signs (is_predicate s) ss k)
  stmts_signs false (and_stmts s ss) k = Apart ∷ Gap ∷ stmt_signs s (stmts_signs (is_predicate s) ss k)

  pub body_signs : BodyTree → List Sign → List Sign
  body_signs (body None ss) k = stmts_signs true ss (Gap ∷ k)
  body_signs (body (Some h) ss) k = Gap ∷ header_signs h (Mark punctuation.colon ∷ stmts_signs true ss (Gap ∷ k))

  pub bodies_signs : Bodies → List Sign → List Sign
  bodies_signs no_bodies k = k
  bodies_signs (and_bodies b bs) k = body_signs b (bodies_more bs k)

  pub bodies_more : Bodies → List Sign → List Sign
  bodies_more no_bodies k = k
  bodies_more (and_bodies b bs) k = Mark punctuation.semicolon ∷ body_signs b (bodies_more bs k)

  pub block_signs : BlockTree → List Sign → List Sign
  block_signs (block place c bs) k = Exact (mark_at punctuation.open_curly place) ∷ bodies_signs bs (Mark punctuation.close_curly ∷ k)

-- these tokens spell a program of these statements
abbrev pub Spells : Stmts → List Token → Type 0
Spells ss tokens = Fits (stmts_signs true ss (Gap ∷ [])) tokens
