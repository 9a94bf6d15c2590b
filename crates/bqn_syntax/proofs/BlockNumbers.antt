-- The blocks of each part of a program are as many as are counted, and their bodies have the numbers that follow.
use Rattle.std.proofs.Common.{◌≡◌, ℕ, suc, ◌+◌, List, [], ◌∷◌, ◌++◌, length, refl, sym, ap, ◌∙◌, subst, append_assoc, arith}
use Rattle.std.proofs.lemmas.List.{length-append}
use Rattle.bqn_syntax.specs.declared.tree.Class.{Class}
use Rattle.bqn_syntax.specs.grammar.Trees.{Expr, Value, Train, Modifier, Use, One, Two, Part, Leaf, Elements, Merge, Paren, Block as Braces, Field, Strand, Nothing, Step, Apply, Assign, Modify, Stmt, Eval, Predicate, Export, BlockTree, block, BodyTree, body, Derived, derived, MaybePart, none, some, Exprs, no_exprs, and_exprs, Uses, no_uses, and_uses, Parts, no_parts, and_parts, Steps, no_steps, and_steps, Stmts, no_stmts, and_stmts, Bodies, no_bodies, and_bodies, Deriveds, no_deriveds, and_deriveds}
use Rattle.bqn_syntax.specs.blocks.Counting.{Count, no_blocks, past, one_block, how_many, in_expr, in_part, in_block, in_maybe, in_steps, in_step, in_derived, in_uses, in_use, in_deriveds, in_exprs, in_parts, in_stmts, in_stmt, in_bodies, in_body}
use Rattle.bqn_syntax.specs.blocks.Blocks.{Numbered, numbered, Body, Block, and_plain, plain_in, bodies_of, block_of, opened, expr_blocks, part_blocks, blocks_from, maybe_blocks, steps_blocks, step_blocks, derived_blocks, uses_blocks, use_blocks, deriveds_blocks, exprs_blocks, parts_blocks, stmts_blocks, stmt_blocks, bodies_blocks, body_blocks, all_bodies, scopes_of, Earlier, behind, line_body, further, table_of}

-- bodies with the numbers from this one on
abbrev pub Rising : ℕ → List Body → Type 0
Rising k [] = Unit {0}
Rising k (b ∷ bs) = (b.own.number ≡ k) × Rising (suc k) bs

-- behind so many blocks and bodies these blocks are so many
pub record Numbers (so : Count) (bs : List Block) (c : Count) : Type 0 where
  pub blocks : length bs ≡ c.blocks
  pub bodies : length (all_bodies bs) ≡ c.bodies
  pub rising : Rising so.bodies (all_bodies bs)

pub all_bodies-append : (xs ys : List Block) → all_bodies (xs ++ ys) ≡ all_bodies xs ++ all_bodies ys
all_bodies-append [] ys = refl
all_bodies-append (x ∷ xs) ys = ap (λ r. x.bodies ++ r) (all_bodies-append xs ys) ∙ sym (append_assoc x.bodies (all_bodies xs) (all_bodies ys))

rising-from : (j k : ℕ) (bs : List Body) → j ≡ k → Rising j bs → Rising k bs
rising-from j k bs e r = subst (λ n. Rising n bs) e r

rising-append : (k : ℕ) (xs ys : List Body) → Rising k xs → Rising (k + length xs) ys → Rising k (xs ++ ys)
rising-append k [] ys r s = rising-from (k + 0) k ys (omega arith) s
rising-append k (x ∷ xs) ys r s = (r.0, rising-append (suc k) xs ys r.1 (rising-from (k + suc (length xs)) (suc k + length xs) ys (omega arith) s))

pub joined : (so c d : Count) (xs ys : List Block) → Numbers so xs c → Numbers (past so c) ys d → Numbers so (xs ++ ys) (past c d)
joined so c d xs ys m n = record {
  blocks = length-append xs ys ∙ omega (arith, m.blocks, n.blocks);
  bodies = ap length (all_bodies-append xs ys) ∙ length-append (all_bodies xs) (all_bodies ys) ∙ omega (arith, m.bodies, n.bodies);
  rising = subst (Rising so.bodies) (sym (all_bodies-append xs ys)) (rising-append so.bodies (all_bodies xs) (all_bodies ys) m.rising (rising-from (so.bodies + c.bodies) (so.bodies + length (all_bodies xs)) (all_bodies ys) (omega (arith, m.bodies)) n.rising));
}

nowhere : (so : Count) → Numbers so [] no_blocks
nowhere so = record { blocks = refl; bodies = refl; rising = tt }

-- ---- the bodies of one block

pub bodies-many : (plain before : ℕ) (around : List Numbered) (number inside : ℕ) (bs : Bodies) → length (bodies_of plain before around number inside bs) ≡ how_many bs
bodies-many plain before around number inside no_bodies = refl
bodies-many plain before around number inside (and_bodies (body h ss) bs) = ap suc (bodies-many plain (and_plain (body h ss) before) around (suc number) (inside + (in_stmts ss).blocks) bs)

bodies-rise : (plain before : ℕ) (around : List Numbered) (number inside : ℕ) (bs : Bodies) → Rising number (bodies_of plain before around number inside bs)
bodies-rise plain before around number inside no_bodies = tt
bodies-rise plain before around number inside (and_bodies (body h ss) bs) = (refl, bodies-rise plain (and_plain (body h ss) before) around (suc number) (inside + (in_stmts ss).blocks) bs)

-- a block in front of those in it
fronted : (around : List Numbered) (k : Class) (bs : Bodies) (so c : Count) (xs : List Block) → Numbers (opened bs so) xs c → Numbers so (block_of around k bs so ∷ xs) (past (one_block (how_many bs)) c)
fronted around k bs so c xs n = record {
  blocks = omega (arith, n.blocks);
  bodies = length-append (block_of around k bs so).bodies (all_bodies xs) ∙ omega (arith, bodies-many (plain_in bs) 0 around so.bodies (suc so.blocks) bs, n.bodies);
  rising = rising-append so.bodies (block_of around k bs so).bodies (all_bodies xs) (bodies-rise (plain_in bs) 0 around so.bodies (suc so.blocks) bs) (rising-from (so.bodies + how_many bs) (so.bodies + length (block_of around k bs so).bodies) (all_bodies xs) (omega (arith, bodies-many (plain_in bs) 0 around so.bodies (suc so.blocks) bs)) n.rising);
}

-- ---- all parts of a program

mutual
  pub expr-numbers : (around : List Numbered) (e : Expr) (so : Count) → Numbers so (expr_blocks around e so) (in_expr e)
  expr-numbers around (Value last ss) so = joined so (in_steps ss) (in_maybe last) (steps_blocks around ss so) (maybe_blocks around last (past so (in_steps ss))) (steps-numbers around ss so) (maybe-numbers around last (past so (in_steps ss)))
  expr-numbers around (Train targets ds) so = deriveds-numbers around ds so
  expr-numbers around (Modifier targets x) so = part-numbers around x so

  pub part-numbers : (around : List Numbered) (x : Part) (so : Count) → Numbers so (part_blocks around x so) (in_part x)
  part-numbers around (Leaf t) so = nowhere so
  part-numbers around (Elements es) so = exprs-numbers around es so
  part-numbers around (Merge es) so = exprs-numbers around es so
  part-numbers around (Paren e) so = expr-numbers around e so
  part-numbers around (Braces b) so = block-numbers around b so
  part-numbers around (Field base names) so = part-numbers around base so
  part-numbers around (Strand ps) so = parts-numbers around ps so
  part-numbers around (Nothing place) so = nowhere so

  pub block-numbers : (around : List Numbered) (b : BlockTree) (so : Count) → Numbers so (blocks_from around b so) (in_block b)
  block-numbers around (block place k bs) so = fronted around k bs so (in_bodies bs) (bodies_blocks around so.bodies bs (opened bs so)) (bodies-numbers around so.bodies bs (opened bs so))

  pub maybe-numbers : (around : List Numbered) (x : MaybePart) (so : Count) → Numbers so (maybe_blocks around x so) (in_maybe x)
  maybe-numbers around none so = nowhere so
  maybe-numbers around (some x) so = part-numbers around x so

  pub steps-numbers : (around : List Numbered) (ss : Steps) (so : Count) → Numbers so (steps_blocks around ss so) (in_steps ss)
  steps-numbers around no_steps so = nowhere so
  steps-numbers around (and_steps s ss) so = joined so (in_steps ss) (in_step s) (steps_blocks around ss so) (step_blocks around s (past so (in_steps ss))) (steps-numbers around ss so) (step-numbers around s (past so (in_steps ss)))

  pub step-numbers : (around : List Numbered) (s : Step) (so : Count) → Numbers so (step_blocks around s so) (in_step s)
  step-numbers around (Apply d left) so = joined so (in_maybe left) (in_derived d) (maybe_blocks around left so) (derived_blocks around d (past so (in_maybe left))) (maybe-numbers around left so) (derived-numbers around d (past so (in_maybe left)))
  step-numbers around (Assign q a) so = nowhere so
  step-numbers around (Modify t d) so = derived-numbers around d so

  pub derived-numbers : (around : List Numbered) (d : Derived) (so : Count) → Numbers so (derived_blocks around d so) (in_derived d)
  derived-numbers around (derived x us) so = joined so (in_part x) (in_uses us) (part_blocks around x so) (uses_blocks around us (past so (in_part x))) (part-numbers around x so) (uses-numbers around us (past so (in_part x)))

  pub uses-numbers : (around : List Numbered) (us : Uses) (so : Count) → Numbers so (uses_blocks around us so) (in_uses us)
  uses-numbers around no_uses so = nowhere so
  uses-numbers around (and_uses u us) so = joined so (in_use u) (in_uses us) (use_blocks around u so) (uses_blocks around us (past so (in_use u))) (use-numbers around u so) (uses-numbers around us (past so (in_use u)))

  pub use-numbers : (around : List Numbered) (u : Use) (so : Count) → Numbers so (use_blocks around u so) (in_use u)
  use-numbers around (One m) so = part-numbers around m so
  use-numbers around (Two m x) so = joined so (in_part m) (in_part x) (part_blocks around m so) (part_blocks around x (past so (in_part m))) (part-numbers around m so) (part-numbers around x (past so (in_part m)))

  pub deriveds-numbers : (around : List Numbered) (ds : Deriveds) (so : Count) → Numbers so (deriveds_blocks around ds so) (in_deriveds ds)
  deriveds-numbers around no_deriveds so = nowhere so
  deriveds-numbers around (and_deriveds d ds) so = joined so (in_derived d) (in_deriveds ds) (derived_blocks around d so) (deriveds_blocks around ds (past so (in_derived d))) (derived-numbers around d so) (deriveds-numbers around ds (past so (in_derived d)))

  pub exprs-numbers : (around : List Numbered) (es : Exprs) (so : Count) → Numbers so (exprs_blocks around es so) (in_exprs es)
  exprs-numbers around no_exprs so = nowhere so
  exprs-numbers around (and_exprs e es) so = joined so (in_expr e) (in_exprs es) (expr_blocks around e so) (exprs_blocks around es (past so (in_expr e))) (expr-numbers around e so) (exprs-numbers around es (past so (in_expr e)))

  pub parts-numbers : (around : List Numbered) (xs : Parts) (so : Count) → Numbers so (parts_blocks around xs so) (in_parts xs)
  parts-numbers around no_parts so = nowhere so
  parts-numbers around (and_parts x xs) so = joined so (in_part x) (in_parts xs) (part_blocks around x so) (parts_blocks around xs (past so (in_part x))) (part-numbers around x so) (parts-numbers around xs (past so (in_part x)))

  pub stmts-numbers : (around : List Numbered) (ss : Stmts) (so : Count) → Numbers so (stmts_blocks around ss so) (in_stmts ss)
  stmts-numbers around no_stmts so = nowhere so
  stmts-numbers around (and_stmts s ss) so = joined so (in_stmt s) (in_stmts ss) (stmt_blocks around s so) (stmts_blocks around ss (past so (in_stmt s))) (stmt-numbers around s so) (stmts-numbers around ss (past so (in_stmt s)))

  pub stmt-numbers : (around : List Numbered) (s : Stmt) (so : Count) → Numbers so (stmt_blocks around s so) (in_stmt s)
  stmt-numbers around (Eval e) so = expr-numbers around e so
  stmt-numbers around (Predicate e) so = expr-numbers around e so
  stmt-numbers around (Export q) so = nowhere so

  pub bodies-numbers : (around : List Numbered) (number : ℕ) (bs : Bodies) (so : Count) → Numbers so (bodies_blocks around number bs so) (in_bodies bs)
  bodies-numbers around number no_bodies so = nowhere so
  bodies-numbers around number (and_bodies b bs) so = joined so (in_body b) (in_bodies bs) (body_blocks around number b so) (bodies_blocks around (suc number) bs (past so (in_body b))) (body-numbers around number b so) (bodies-numbers around (suc number) bs (past so (in_body b)))

  pub body-numbers : (around : List Numbered) (number : ℕ) (b : BodyTree) (so : Count) → Numbers so (body_blocks around number b so) (in_body b)
  body-numbers around number (body h ss) so = stmts-numbers (numbered number h ss ∷ around) ss so

-- ---- lines

-- what the lines so far leave: their bodies are numbered from 1 on
abbrev pub InOrder : Earlier → Type 0
InOrder earlier = Rising 1 (all_bodies earlier.blocks)

abbrev so_far : Earlier → Count
so_far earlier = record { blocks = length earlier.blocks; bodies = length (all_bodies earlier.blocks) }

further-numbers : (earlier : Earlier) (ss : Stmts) → InOrder earlier → Numbers (one_block 1) (further earlier ss).blocks (past (so_far earlier) (in_stmts ss))
further-numbers earlier ss r =
    joined (one_block 1) (so_far earlier) (in_stmts ss) earlier.blocks (stmts_blocks (scopes_of (line_body earlier ss)) ss (behind earlier))
    (record { blocks = refl; bodies = refl; rising = r })
    (stmts-numbers (scopes_of (line_body earlier ss)) ss (behind earlier))

-- a further line keeps the order
pub further-in_order : (earlier : Earlier) (ss : Stmts) → InOrder earlier → InOrder (further earlier ss)
further-in_order earlier ss r = (further-numbers earlier ss r).rising

-- each body of a table stands there at its number
pub table-in_order : (earlier : Earlier) (ss : Stmts) → InOrder earlier → Rising 0 (all_bodies (table_of earlier ss))
table-in_order earlier ss r = (refl, further-in_order earlier ss r)
