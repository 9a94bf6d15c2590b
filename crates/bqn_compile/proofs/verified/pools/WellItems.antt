-- What a well tree has is well, piece by piece.
use Rattle.std.proofs.Common.{◌≡◌, ◌≤◌, ℕ, max, Bool, true, false, List, [], ◌∷◌, ◌++◌, Option, Some, None, arith, refl}
use Rattle.std.proofs.Math.Nat.{le-max_left, le-max_right}
use Rattle.bqn_syntax.specs.declared.token.Kind.{Kind}
use Rattle.bqn_syntax.specs.declared.token.Kind.TheVariants as kind
use Rattle.bqn_syntax.specs.declared.token.Token.{Token}
use Rattle.bqn_syntax.specs.declared.tree.Arrow.{Arrow}
use Rattle.bqn_syntax.specs.declared.sort.Tag.TheVariants as tag
use Rattle.bqn_syntax.specs.grammar.Sorts.{is_word, is_name}
use Rattle.bqn_syntax.specs.grammar.Headers.{is_left, is_right}
use Rattle.bqn_syntax.specs.grammar.Trees.{Pattern, Name, Skip, Literal, ListPattern, StrandPattern, Header, Expr, Value, Train, Modifier, Use, One, Two, Part, Leaf, Elements, Merge, Paren, Block, Field, Strand, Nothing, Step, Apply, Assign, Modify, Stmt, Eval, Predicate, Export, BlockTree, block, BodyTree, body, Derived, derived, none, some, Exprs, no_exprs, and_exprs, Uses, no_uses, and_uses, Parts, no_parts, and_parts, Steps, no_steps, and_steps, Stmts, no_stmts, and_stmts, Bodies, no_bodies, and_bodies, Deriveds, no_deriveds, and_deriveds}
use Rattle.bqn_syntax.specs.scope.Order.{How, by_arrow}
use Rattle.bqn_syntax.specs.grammar.Well.{WellPattern, special, pattern, ArgumentFits, HeaderFits, NamesFit, WellExpr, WellPart, WellSteps, WellStep, WellDerived, WellUses, WellUse, WellDeriveds, WellExprs, WellParts, WellStmt, WellStmts, WellBody, WellBodies, WellBlock, Well, pattern_depth, argument_depth, header_depth, expr_depth, part_depth, steps_depth, step_depth, derived_depth, uses_depth, use_depth, deriveds_depth, exprs_depth, parts_depth, stmt_depth, stmts_depth, body_depth, bodies_depth, block_depth}
use Rattle.bqn_compile.proofs.verified.pools.Items.{Item, Fields, WellTaken, AreWords, WellItem, EveryItem, operand_items, named_items, argument_items, header_items, targets_items, target_item, expr_items, part_items, block_items, steps_items, step_items, derived_items, uses_items, use_items, deriveds_items, exprs_items, parts_items, stmts_items, stmt_items, bodies_items, body_items}

pub every-append : (P : Item → Type 0) (xs ys : List Item) → EveryItem P xs → EveryItem P ys → EveryItem P (xs ++ ys)
every-append P [] ys a b = b
every-append P (x ∷ xs) ys a b = (a.0, every-append P xs ys a.1 b)

left_within : (a b n : ℕ) → max a b ≤ n → a ≤ n
left_within a b n h = omega (arith, le-max_left a b)

right_within : (a b n : ℕ) → max a b ≤ n → b ≤ n
right_within a b n h = omega (arith, le-max_right a b)

both_well : (xs ys : List Item) → EveryItem WellItem xs → EveryItem WellItem ys → EveryItem WellItem (xs ++ ys)
both_well xs ys a b = every-append WellItem xs ys a b

-- ---- headers, targets and fields

operand_well : (o : Option Token) → EveryItem WellItem (operand_items o)
operand_well None = tt
operand_well (Some t) = (tt, tt)

-- a special name has no pattern
left_special : (k : Kind) (t : Token) → is_left k ≡ true → EveryItem WellItem (named_items k t)
left_special (kind.Special s r) t e = tt
left_special k t e = absurd (cc)

right_special : (k : Kind) (t : Token) → is_right k ≡ true → EveryItem WellItem (named_items k t)
right_special (kind.Special s r) t e = tt
right_special k t e = absurd (cc)

named_well : (k : Kind) (t : Token) → WellTaken true (Name t) → EveryItem WellItem (named_items k t)
named_well (kind.Special s r) t w = tt
named_well k t w = (w, tt)

taken_well : (q : Pattern) → WellTaken true q → EveryItem WellItem (argument_items (Some q))
taken_well (Name t) w = named_well t.kind t w
taken_well (Skip place) w = (w, tt)
taken_well (Literal t) w = (w, tt)
taken_well (ListPattern qs) w = (w, tt)
taken_well (StrandPattern qs) w = (w, tt)

argument_well : (f : Kind → Bool) → ((k : Kind) (t : Token) → f k ≡ true → EveryItem WellItem (named_items k t)) → (o : Option Pattern) → ArgumentFits f o → argument_depth o ≤ 128 → EveryItem WellItem (argument_items o)
argument_well f s None w d = tt
argument_well f s (Some q) (special {t = t} e) d = s t.kind t e
argument_well f s (Some q) (pattern o w) d = taken_well q (record { pattern = w; depth = d })

header_well : (h : Option Header) → HeaderFits h → header_depth h ≤ 128 → EveryItem WellItem (header_items h)
header_well None w d = tt
header_well (Some h) w d =
    both_well (argument_items h.left) _ (argument_well is_left left_special h.left w.left (left_within (argument_depth h.left) (argument_depth h.right) 128 d))
    (both_well (operand_items h.left_operand) _ (operand_well h.left_operand)
    (tt, both_well (operand_items h.right_operand) _ (operand_well h.right_operand) (argument_well is_right right_special h.right w.right (right_within (argument_depth h.left) (argument_depth h.right) 128 d))))

targets_well : (ts : List (Token × Arrow)) → EveryItem WellItem (targets_items ts)
targets_well [] = tt
targets_well (t ∷ ts) = (tt, targets_well ts)

target_well : (how : How) (q : Pattern) → WellPattern false q → pattern_depth q ≤ 128 → WellItem (target_item how q)
target_well how (Name t) w d = tt
target_well how (Skip place) w d = record { pattern = w; depth = d }
target_well how (Literal t) w d = record { pattern = w; depth = d }
target_well how (ListPattern qs) w d = record { pattern = w; depth = d }
target_well how (StrandPattern qs) w d = record { pattern = w; depth = d }

name_is_word : (k : Kind) → is_name tag.Subject k ≡ true → is_word k ≡ true
name_is_word (kind.Word name r) e = refl
name_is_word k e = absurd (cc)

names_well : (ts : List Token) → NamesFit ts → AreWords ts
names_well [] w = tt
names_well (t ∷ []) w = (w, tt)
names_well (t ∷ u ∷ ts) w = (name_is_word t.kind w.0, names_well (u ∷ ts) w.1)

-- ---- expressions and blocks

mutual
  expr_well : (e : Expr) → WellExpr e → expr_depth e ≤ 128 → EveryItem WellItem (expr_items e)
  expr_well (Value none ss) w d = both_well (steps_items ss) [] (steps_well ss w.1 (right_within 0 (steps_depth ss) 128 d)) tt
  expr_well (Value (some x) ss) w d = both_well (steps_items ss) (part_items x) (steps_well ss w.2 (right_within (part_depth x) (steps_depth ss) 128 d)) (part_well x w.1 (left_within (part_depth x) (steps_depth ss) 128 d))
  expr_well (Train ts ds) w d = both_well (targets_items ts) (deriveds_items ds) (targets_well ts) (deriveds_well ds w.3 d)
  expr_well (Modifier ts x) w d = both_well (targets_items ts) (part_items x) (targets_well ts) (part_well x w.2 d)

  part_well : (x : Part) → WellPart x → part_depth x ≤ 128 → EveryItem WellItem (part_items x)
  part_well (Leaf t) w d = (tt, tt)
  part_well (Elements es) w d = exprs_well es w (omega arith)
  part_well (Merge es) w d = exprs_well es w.1 (omega arith)
  part_well (Paren e) w d = expr_well e w (omega arith)
  part_well (Block b) w d = block_well b w (omega arith)
  part_well (Field base names) w d = both_well (part_items base) (Fields names ∷ []) (part_well base w.2 d) (names_well names w.1, tt)
  part_well (Strand ps) w d = parts_well ps w.1 d
  part_well (Nothing place) w d = tt

  block_well : (b : BlockTree) → WellBlock b → block_depth b ≤ 128 → EveryItem WellItem (block_items b)
  block_well (block place c bs) w d = (tt, bodies_well bs w.2 d)

  steps_well : (ss : Steps) → WellSteps ss → steps_depth ss ≤ 128 → EveryItem WellItem (steps_items ss)
  steps_well no_steps w d = tt
  steps_well (and_steps s ss) w d = both_well (steps_items ss) (step_items s) (steps_well ss w.1 (right_within (step_depth s) (steps_depth ss) 128 d)) (step_well s w.0 (left_within (step_depth s) (steps_depth ss) 128 d))

  step_well : (s : Step) → WellStep s → step_depth s ≤ 128 → EveryItem WellItem (step_items s)
  step_well (Apply f none) w d = derived_well f w.1 (left_within (derived_depth f) 0 128 d)
  step_well (Apply f (some x)) w d = both_well (part_items x) (derived_items f) (part_well x w.3 (right_within (derived_depth f) (part_depth x) 128 d)) (derived_well f w.1 (left_within (derived_depth f) (part_depth x) 128 d))
  step_well (Assign q a) w d = (target_well (by_arrow a) q w.1 d, tt)
  step_well (Modify t f) w d = (tt, derived_well f w.3 d)

  derived_well : (f : Derived) → WellDerived f → derived_depth f ≤ 128 → EveryItem WellItem (derived_items f)
  derived_well (derived x us) w d = both_well (part_items x) (uses_items us) (part_well x w.0 (left_within (part_depth x) (uses_depth us) 128 d)) (uses_well us w.1 (right_within (part_depth x) (uses_depth us) 128 d))

  uses_well : (us : Uses) → WellUses us → uses_depth us ≤ 128 → EveryItem WellItem (uses_items us)
  uses_well no_uses w d = tt
  uses_well (and_uses u us) w d = both_well (use_items u) (uses_items us) (use_well u w.0 (left_within (use_depth u) (uses_depth us) 128 d)) (uses_well us w.1 (right_within (use_depth u) (uses_depth us) 128 d))

  use_well : (u : Use) → WellUse u → use_depth u ≤ 128 → EveryItem WellItem (use_items u)
  use_well (One m) w d = part_well m w d
  use_well (Two m x) w d = both_well (part_items m) (part_items x) (part_well m w.0 (left_within (part_depth m) (part_depth x) 128 d)) (part_well x w.1 (right_within (part_depth m) (part_depth x) 128 d))

  deriveds_well : (ds : Deriveds) → WellDeriveds ds → deriveds_depth ds ≤ 128 → EveryItem WellItem (deriveds_items ds)
  deriveds_well no_deriveds w d = tt
  deriveds_well (and_deriveds f ds) w d = both_well (derived_items f) (deriveds_items ds) (derived_well f w.0 (left_within (derived_depth f) (deriveds_depth ds) 128 d)) (deriveds_well ds w.1 (right_within (derived_depth f) (deriveds_depth ds) 128 d))

  exprs_well : (es : Exprs) → WellExprs es → exprs_depth es ≤ 128 → EveryItem WellItem (exprs_items es)
  exprs_well no_exprs w d = tt
  exprs_well (and_exprs e es) w d = both_well (expr_items e) (exprs_items es) (expr_well e w.0 (left_within (expr_depth e) (exprs_depth es) 128 d)) (exprs_well es w.1 (right_within (expr_depth e) (exprs_depth es) 128 d))

  parts_well : (ps : Parts) → WellParts ps → parts_depth ps ≤ 128 → EveryItem WellItem (parts_items ps)
  parts_well no_parts w d = tt
  parts_well (and_parts x xs) w d = both_well (part_items x) (parts_items xs) (part_well x w.1 (left_within (part_depth x) (parts_depth xs) 128 d)) (parts_well xs w.2 (right_within (part_depth x) (parts_depth xs) 128 d))

  stmts_well : (b : Bool) (ss : Stmts) → WellStmts b ss → stmts_depth ss ≤ 128 → EveryItem WellItem (stmts_items ss)
  stmts_well b no_stmts w d = tt
  stmts_well b (and_stmts s ss) w d = both_well (stmt_items s) (stmts_items ss) (stmt_well b s w.0 (left_within (stmt_depth s) (stmts_depth ss) 128 d)) (stmts_well b ss w.1 (right_within (stmt_depth s) (stmts_depth ss) 128 d))

  stmt_well : (b : Bool) (s : Stmt) → WellStmt b s → stmt_depth s ≤ 128 → EveryItem WellItem (stmt_items s)
  stmt_well b (Eval e) w d = expr_well e w d
  stmt_well b (Predicate e) w d = expr_well e w.2 d
  stmt_well b (Export q) w d = (w, tt)

  bodies_well : (bs : Bodies) → WellBodies bs → bodies_depth bs ≤ 128 → EveryItem WellItem (bodies_items bs)
  bodies_well no_bodies w d = tt
  bodies_well (and_bodies b bs) w d = both_well (body_items b) (bodies_items bs) (body_well b w.0 (left_within (body_depth b) (bodies_depth bs) 128 d)) (bodies_well bs w.1 (right_within (body_depth b) (bodies_depth bs) 128 d))

  body_well : (b : BodyTree) → WellBody b → body_depth b ≤ 128 → EveryItem WellItem (body_items b)
  body_well (body h ss) w d = both_well (header_items h) (stmts_items ss) (header_well h w.0 (left_within (header_depth h) (stmts_depth ss) 128 d)) (stmts_well true ss w.1 (right_within (header_depth h) (stmts_depth ss) 128 d))

pub program_well : (ss : Stmts) → Well ss → EveryItem WellItem (stmts_items ss)
program_well ss w = stmts_well false ss w.statements w.depth
