-- Each body of a well program fits its block.
use Rattle.std.proofs.Common.{◌≡◌, ◌≤◌, ℕ, suc, Bool, true, false, List}
use Rattle.std.specs.List.{list_any}
use Rattle.std.proofs.lemmas.Bool.{false≢true}
use Rattle.bqn_syntax.specs.declared.tree.Class.{Class}
use Rattle.bqn_syntax.specs.grammar.Trees.{Expr, Value, Train, Modifier, Use, One, Two, Part, Leaf, Elements, Merge, Paren, Block as Braces, Field, Strand, Nothing, Step, Apply, Assign, Modify, Stmt, Eval, Predicate, Export, BlockTree, block, BodyTree, body, Derived, derived, none, some, Exprs, no_exprs, and_exprs, Uses, no_uses, and_uses, Parts, no_parts, and_parts, Steps, no_steps, and_steps, Stmts, no_stmts, and_stmts, Bodies, no_bodies, and_bodies, Deriveds, no_deriveds, and_deriveds}
use Rattle.bqn_syntax.specs.blocks.Counting.{how_many}
use Rattle.bqn_syntax.specs.blocks.Blocks.{and_plain, plain_in}
use Rattle.bqn_syntax.specs.grammar.Classes.{Marks, marks_of, marks_in, seen_in_stmts, nothing}
use Rattle.bqn_syntax.specs.grammar.Classes.{waits}
use Rattle.bqn_syntax.specs.grammar.Well.{WellExpr, WellPart, WellSteps, WellStep, WellDerived, WellUses, WellUse, WellDeriveds, WellExprs, WellParts, WellStmt, WellStmts, WellBody, WellBodies, WellBlock}
use Rattle.bqn_compile.specs.declared.count.Count.{Count}
use Rattle.bqn_compile.specs.Counting.{past, one_block, in_token, in_targets, in_part, in_maybe, in_steps, in_derived, in_use, in_expr, in_stmt, in_header, in_body}
use Rattle.bqn_compile.specs.Translation.{at_start}
use Rattle.bqn_compile.proofs.verified.Tests.{or_left, or_right}
use Rattle.bqn_compile.proofs.verified.bodies.EveryBody.{EveryBodyOf, EveryInExpr, EveryInPart, EveryInBlock, EveryInSteps, EveryInStep, EveryInDerived, EveryInUses, EveryInUse, EveryInDeriveds, EveryInExprs, EveryInParts, EveryInStmts, EveryInStmt, EveryInBodies, EveryInBody, EveryInProgram}
use Rattle.bqn_compile.proofs.verified.bodies.ClassFacts.{ClassFacts, class_facts, few_plain}
use Rattle.bqn_compile.proofs.verified.bodies.BodyFits.{BodyFits, body_fits, program_fits}

-- a body fits its block wherever it stands
abbrev pub Fitting : Class → (block inside number plain before : ℕ) → Count → BodyTree → Type 0
Fitting kind b n k plain before c x = BodyFits kind plain x

bodies_fit : (ms : List Marks) (kind : Class) (plain : ℕ) → ClassFacts ms kind → (waits kind ≡ false → plain ≤ 1) → (bs : Bodies) →
    ((test : Marks → Bool) → list_any test (marks_in bs) ≡ true → list_any test ms ≡ true) → WellBodies bs → (b n before k : ℕ) (c : Count) → EveryBodyOf Fitting kind b n plain before k c bs
bodies_fit ms kind plain facts few no_bodies among well b n before k c = tt
bodies_fit ms kind plain facts few (and_bodies x bs) among well b n before k c = (
  body_fits ms kind plain facts few x (λ test h. among test (or_left (test (marks_of x)) (list_any test (marks_in bs)) h)) well.0,
  bodies_fit ms kind plain facts few bs (λ test h. among test (or_right (test (marks_of x)) (list_any test (marks_in bs)) h)) well.1 b n (and_plain x before) (suc k) (past c (in_body x)),
)

block_fits : (kind : Class) (bs : Bodies) → WellBodies bs → ClassFacts (marks_in bs) kind → (b n k : ℕ) (c : Count) → EveryBodyOf Fitting kind b n (plain_in bs) 0 k c bs
block_fits kind bs well facts b n k c = bodies_fit (marks_in bs) kind (plain_in bs) facts (λ h. few_plain 1 bs (facts.plain h)) bs (λ test h. h) well b n 0 k c

mutual
  expr_fit : (n : ℕ) (e : Expr) (c : Count) → WellExpr e → EveryInExpr Fitting n e c
  expr_fit n (Value none ss) c h = (steps_fit n ss c h.1, tt)
  expr_fit n (Value (some x) ss) c h = (steps_fit n ss c h.2, part_fit n x (past c (in_steps ss)) h.1)
  expr_fit n (Train targets ds) c h = deriveds_fit n ds (past c (in_targets targets)) h.3
  expr_fit n (Modifier targets x) c h = part_fit n x (past c (in_targets targets)) h.2

  part_fit : (n : ℕ) (x : Part) (c : Count) → WellPart x → EveryInPart Fitting n x c
  part_fit n (Leaf t) c h = tt
  part_fit n (Elements es) c h = exprs_fit n es c h
  part_fit n (Merge es) c h = exprs_fit n es c h.1
  part_fit n (Paren e) c h = expr_fit n e c h
  part_fit n (Braces b) c h = block_tree_fits n b c h
  part_fit n (Field base names) c h = part_fit n base c h.2
  part_fit n (Strand ps) c h = parts_fit n ps c h.1
  part_fit n (Nothing place) c h = tt

  block_tree_fits : (n : ℕ) (b : BlockTree) (c : Count) → WellBlock b → EveryInBlock Fitting n b c
  block_tree_fits n (block place kind bs) c h =
      (block_fits kind bs h.2 (class_facts (marks_in bs) kind h.1) c.blocks n c.bodies (past c (one_block (how_many bs))), in_bodies_fit c.bodies bs (past c (one_block (how_many bs))) h.2)

  steps_fit : (n : ℕ) (ss : Steps) (c : Count) → WellSteps ss → EveryInSteps Fitting n ss c
  steps_fit n no_steps c h = tt
  steps_fit n (and_steps s ss) c h = (steps_fit n ss c h.1, step_fits n s (past c (in_steps ss)) h.0)

  step_fits : (n : ℕ) (s : Step) (c : Count) → WellStep s → EveryInStep Fitting n s c
  step_fits n (Apply d none) c h = (tt, derived_fits n d (past c (in_maybe none)) h.1)
  step_fits n (Apply d (some x)) c h = (part_fit n x c h.3, derived_fits n d (past c (in_part x)) h.1)
  step_fits n (Assign q a) c h = tt
  step_fits n (Modify t d) c h = derived_fits n d (past c (in_token t)) h.3

  derived_fits : (n : ℕ) (d : Derived) (c : Count) → WellDerived d → EveryInDerived Fitting n d c
  derived_fits n (derived x us) c h = (part_fit n x c h.0, uses_fit n us (past c (in_part x)) h.1)

  uses_fit : (n : ℕ) (us : Uses) (c : Count) → WellUses us → EveryInUses Fitting n us c
  uses_fit n no_uses c h = tt
  uses_fit n (and_uses u us) c h = (use_fits n u c h.0, uses_fit n us (past c (in_use u)) h.1)

  use_fits : (n : ℕ) (u : Use) (c : Count) → WellUse u → EveryInUse Fitting n u c
  use_fits n (One m) c h = part_fit n m c h
  use_fits n (Two m x) c h = (part_fit n m c h.0, part_fit n x (past c (in_part m)) h.1)

  deriveds_fit : (n : ℕ) (ds : Deriveds) (c : Count) → WellDeriveds ds → EveryInDeriveds Fitting n ds c
  deriveds_fit n no_deriveds c h = tt
  deriveds_fit n (and_deriveds d ds) c h = (derived_fits n d c h.0, deriveds_fit n ds (past c (in_derived d)) h.1)

  exprs_fit : (n : ℕ) (es : Exprs) (c : Count) → WellExprs es → EveryInExprs Fitting n es c
  exprs_fit n no_exprs c h = tt
  exprs_fit n (and_exprs e es) c h = (expr_fit n e c h.0, exprs_fit n es (past c (in_expr e)) h.1)

  parts_fit : (n : ℕ) (xs : Parts) (c : Count) → WellParts xs → EveryInParts Fitting n xs c
  parts_fit n no_parts c h = tt
  parts_fit n (and_parts x xs) c h = (part_fit n x c h.1, parts_fit n xs (past c (in_part x)) h.2)

  stmts_fit : (n : ℕ) (ss : Stmts) (c : Count) (in_block : Bool) → WellStmts in_block ss → EveryInStmts Fitting n ss c
  stmts_fit n no_stmts c in_block h = tt
  stmts_fit n (and_stmts s ss) c in_block h = (stmt_fits n s c in_block h.0, stmts_fit n ss (past c (in_stmt s)) in_block h.1)

  stmt_fits : (n : ℕ) (s : Stmt) (c : Count) (in_block : Bool) → WellStmt in_block s → EveryInStmt Fitting n s c
  stmt_fits n (Eval e) c in_block h = expr_fit n e c h
  stmt_fits n (Predicate e) c in_block h = expr_fit n e c h.2
  stmt_fits n (Export q) c in_block h = tt

  in_bodies_fit : (k : ℕ) (bs : Bodies) (c : Count) → WellBodies bs → EveryInBodies Fitting k bs c
  in_bodies_fit k no_bodies c h = tt
  in_bodies_fit k (and_bodies x bs) c h = (in_body_fits k x c h.0, in_bodies_fit (suc k) bs (past c (in_body x)) h.1)

  in_body_fits : (n : ℕ) (x : BodyTree) (c : Count) → WellBody x → EveryInBody Fitting n x c
  in_body_fits n (body hd ss) c h = stmts_fit n ss (past c (in_header hd)) true h.1

-- what may stand outside a block may stand in one
stmt_in_block : (s : Stmt) → WellStmt false s → WellStmt true s
stmt_in_block (Eval e) h = h
stmt_in_block (Predicate e) h = absurd (false≢true h.0)
stmt_in_block (Export q) h = h

stmts_in_block : (ss : Stmts) → WellStmts false ss → WellStmts true ss
stmts_in_block no_stmts h = tt
stmts_in_block (and_stmts s ss) h = (stmt_in_block s h.0, stmts_in_block ss h.1)

pub well_bodies_fit : (ss : Stmts) → seen_in_stmts ss ≡ nothing → WellStmts false ss → EveryInProgram Fitting ss
well_bodies_fit ss free well = (program_fits ss free (stmts_in_block ss well), stmts_fit 0 ss at_start false well)
