-- Each block stands in the table at the number by which evaluations ask for it.
use Rattle.std.proofs.Common.{◌≡◌, ℕ, suc, ◌+◌, List, [], ◌∷◌, ◌++◌, length, slice_get, Some, refl, sym, subst, arith}
use Rattle.bqn_syntax.specs.grammar.Trees.{Expr, Value, Train, Modifier, Use, One, Two, Part, Leaf, Elements, Merge, Paren, Block as Braces, Field, Strand, Nothing, Step, Apply, Assign, Modify, Eval, Predicate, Export, BlockTree, block, body, Derived, derived, MaybePart, none, some, Bodies, no_bodies, and_bodies, Exprs, no_exprs, and_exprs, Uses, no_uses, and_uses, Parts, no_parts, and_parts, Steps, no_steps, and_steps, Stmts, no_stmts, and_stmts, Deriveds, no_deriveds, and_deriveds}
use Rattle.bqn_syntax.specs.blocks.Counting.{Count, past, in_expr, in_part, in_maybe, in_steps, in_derived, in_use, in_stmt, in_body}
use Rattle.bqn_syntax.specs.blocks.Blocks.{Numbered, numbered, Block, and_plain, plain_in, bodies_of, block_of, opened, expr_blocks, part_blocks, blocks_from, maybe_blocks, steps_blocks, step_blocks, derived_blocks, uses_blocks, use_blocks, deriveds_blocks, exprs_blocks, parts_blocks, stmts_blocks, bodies_blocks, scopes_of, Earlier, behind, line_body, further, table_of}
use Rattle.bqn_syntax.proofs.BlockNumbers.{Numbers, expr-numbers, part-numbers, maybe-numbers, steps-numbers, derived-numbers, use-numbers, body-numbers}
use Rattle.bqn_base.proofs.Lists.{at_front, at_same, at_back}
use Rattle.bqn_meaning.specs.BlockNumbers.{ExprNumbered, PartNumbered, MaybeNumbered, StepsNumbered, StepNumbered, DerivedNumbered, UsesNumbered, UseNumbered, DerivedsNumbered, ExprsNumbered, PartsNumbered, StmtsNumbered, BlockIs, BodiesAre, EvaluationsMeetTheirBlocks}

none_more : (n : ℕ) → n + 0 ≡ n
none_more n = omega arith

-- among all blocks
module _ (blocks : List Block) where
  -- these stand in a row, the first at this place
  record Stand (k : ℕ) (xs : List Block) : Type 0 where
    there : (j : ℕ) (b : Block) → slice_get xs j ≡ Some b → slice_get blocks (k + j) ≡ Some b

  all_stand : Stand 0 blocks
  all_stand = record { there = λ (j : ℕ) (b : Block) h. at_same blocks j (0 + j) b (omega arith) h }

  stand_front : (k : ℕ) (xs ys : List Block) → Stand k (xs ++ ys) → Stand k xs
  stand_front k xs ys s = record { there = λ (j : ℕ) (b : Block) h. s.there j b (at_front xs ys j b h) }

  stand_back : (k i : ℕ) (xs ys : List Block) → k + length xs ≡ i → Stand k (xs ++ ys) → Stand i ys
  stand_back k i xs ys q s = record { there = λ (j : ℕ) (b : Block) h. at_same blocks (k + (length xs + j)) (i + j) b (omega (arith, q)) (s.there (length xs + j) b (at_back xs ys j b h)) }

  stand_past : (so c : Count) (xs ys : List Block) → Numbers so xs c → Stand so.blocks (xs ++ ys) → Stand (past so c).blocks ys
  stand_past so c xs ys n s = stand_back so.blocks (so.blocks + c.blocks) xs ys (omega (arith, n.blocks)) s

  mutual
    expr_numbered : (a : List Numbered) (e : Expr) (so : Count) → Stand so.blocks (expr_blocks a e so) → ExprNumbered blocks a e so.blocks
    expr_numbered a (Value last ss) so s = (maybe_numbered a last (past so (in_steps ss)) (stand_past so (in_steps ss) _ _ (steps-numbers a ss so) s), steps_numbered a ss so (stand_front so.blocks _ _ s))
    expr_numbered a (Train targets ds) so s = deriveds_numbered a ds so s
    expr_numbered a (Modifier targets x) so s = part_numbered a x so s

    part_numbered : (a : List Numbered) (x : Part) (so : Count) → Stand so.blocks (part_blocks a x so) → PartNumbered blocks a x so.blocks
    part_numbered a (Leaf t) so s = tt
    part_numbered a (Elements es) so s = exprs_numbered a es so s
    part_numbered a (Merge es) so s = exprs_numbered a es so s
    part_numbered a (Paren e) so s = expr_numbered a e so s
    part_numbered a (Braces b) so s = block_numbered a b so s
    part_numbered a (Field base names) so s = part_numbered a base so s
    part_numbered a (Strand ps) so s = parts_numbered a ps so s
    part_numbered a (Nothing place) so s = tt

    block_numbered : (a : List Numbered) (b : BlockTree) (so : Count) → Stand so.blocks (blocks_from a b so) → BlockIs blocks a b (slice_get blocks so.blocks)
    block_numbered a (block place class bs) so s =
        let inner : Stand (suc so.blocks) (bodies_blocks a so.bodies bs (opened bs so)) = stand_back so.blocks (suc so.blocks) (block_of a class bs so ∷ []) (bodies_blocks a so.bodies bs (opened bs so)) (omega arith) s in
        subst (BlockIs blocks a (block place class bs)) (sym (at_same blocks (so.blocks + 0) so.blocks (block_of a class bs so) (omega arith) (s.there 0 (block_of a class bs so) refl)))
        (refl, bodies_numbered a (plain_in bs) 0 so.bodies bs (opened bs so) inner)

    bodies_numbered : (a : List Numbered) (plain before number : ℕ) (bs : Bodies) (so : Count) → Stand so.blocks (bodies_blocks a number bs so) → BodiesAre blocks a bs (bodies_of plain before a number so.blocks bs)
    bodies_numbered a plain before number no_bodies so s = tt
    bodies_numbered a plain before number (and_bodies (body h ss) bs) so s =
        (refl, refl, refl, stmts_numbered (numbered number h ss ∷ a) ss so (stand_front so.blocks _ _ s), bodies_numbered a plain (and_plain (body h ss) before) (suc number) bs (past so (in_body (body h ss))) (stand_past so (in_body (body h ss)) _ _ (body-numbers a number (body h ss) so) s))

    maybe_numbered : (a : List Numbered) (x : MaybePart) (so : Count) → Stand so.blocks (maybe_blocks a x so) → MaybeNumbered blocks a x so.blocks
    maybe_numbered a none so s = tt
    maybe_numbered a (some x) so s = part_numbered a x so s

    steps_numbered : (a : List Numbered) (ss : Steps) (so : Count) → Stand so.blocks (steps_blocks a ss so) → StepsNumbered blocks a ss so.blocks
    steps_numbered a no_steps so s = tt
    steps_numbered a (and_steps x ss) so s = (step_numbered a x (past so (in_steps ss)) (stand_past so (in_steps ss) _ _ (steps-numbers a ss so) s), steps_numbered a ss so (stand_front so.blocks _ _ s))

    step_numbered : (a : List Numbered) (x : Step) (so : Count) → Stand so.blocks (step_blocks a x so) → StepNumbered blocks a x so.blocks
    step_numbered a (Apply d left) so s = (derived_numbered a d (past so (in_maybe left)) (stand_past so (in_maybe left) _ _ (maybe-numbers a left so) s), maybe_numbered a left so (stand_front so.blocks _ _ s))
    step_numbered a (Assign q arrow) so s = tt
    step_numbered a (Modify t d) so s = derived_numbered a d so s

    derived_numbered : (a : List Numbered) (d : Derived) (so : Count) → Stand so.blocks (derived_blocks a d so) → DerivedNumbered blocks a d so.blocks
    derived_numbered a (derived x us) so s = (uses_numbered a us (past so (in_part x)) (stand_past so (in_part x) _ _ (part-numbers a x so) s), part_numbered a x so (stand_front so.blocks _ _ s))

    uses_numbered : (a : List Numbered) (us : Uses) (so : Count) → Stand so.blocks (uses_blocks a us so) → UsesNumbered blocks a us so.blocks
    uses_numbered a no_uses so s = tt
    uses_numbered a (and_uses u us) so s = (uses_numbered a us (past so (in_use u)) (stand_past so (in_use u) _ _ (use-numbers a u so) s), use_numbered a u so (stand_front so.blocks _ _ s))

    use_numbered : (a : List Numbered) (u : Use) (so : Count) → Stand so.blocks (use_blocks a u so) → UseNumbered blocks a u so.blocks
    use_numbered a (One m) so s = part_numbered a m so s
    use_numbered a (Two m x) so s = (part_numbered a x (past so (in_part m)) (stand_past so (in_part m) _ _ (part-numbers a m so) s), part_numbered a m so (stand_front so.blocks _ _ s))

    deriveds_numbered : (a : List Numbered) (ds : Deriveds) (so : Count) → Stand so.blocks (deriveds_blocks a ds so) → DerivedsNumbered blocks a ds so.blocks
    deriveds_numbered a no_deriveds so s = tt
    deriveds_numbered a (and_deriveds d ds) so s = (deriveds_numbered a ds (past so (in_derived d)) (stand_past so (in_derived d) _ _ (derived-numbers a d so) s), derived_numbered a d so (stand_front so.blocks _ _ s))

    exprs_numbered : (a : List Numbered) (es : Exprs) (so : Count) → Stand so.blocks (exprs_blocks a es so) → ExprsNumbered blocks a es so.blocks
    exprs_numbered a no_exprs so s = tt
    exprs_numbered a (and_exprs e es) so s = (expr_numbered a e so (stand_front so.blocks _ _ s), exprs_numbered a es (past so (in_expr e)) (stand_past so (in_expr e) _ _ (expr-numbers a e so) s))

    parts_numbered : (a : List Numbered) (xs : Parts) (so : Count) → Stand so.blocks (parts_blocks a xs so) → PartsNumbered blocks a xs so.blocks
    parts_numbered a no_parts so s = tt
    parts_numbered a (and_parts x xs) so s = (part_numbered a x so (stand_front so.blocks _ _ s), parts_numbered a xs (past so (in_part x)) (stand_past so (in_part x) _ _ (part-numbers a x so) s))

    stmts_numbered : (a : List Numbered) (ss : Stmts) (so : Count) → Stand so.blocks (stmts_blocks a ss so) → StmtsNumbered blocks a ss so.blocks
    stmts_numbered a no_stmts so s = tt
    stmts_numbered a (and_stmts (Eval e) ss) so s = (expr_numbered a e so (stand_front so.blocks _ _ s), stmts_numbered a ss (past so (in_expr e)) (stand_past so (in_expr e) _ _ (expr-numbers a e so) s))
    stmts_numbered a (and_stmts (Predicate e) ss) so s = (expr_numbered a e so (stand_front so.blocks _ _ s), stmts_numbered a ss (past so (in_expr e)) (stand_past so (in_expr e) _ _ (expr-numbers a e so) s))
    stmts_numbered a (and_stmts (Export q) ss) so s =
        subst (λ c. StmtsNumbered blocks a ss c) (none_more so.blocks) (stmts_numbered a ss (past so (in_stmt (Export q))) (stand_back so.blocks (so.blocks + 0) [] (stmts_blocks a ss (past so (in_stmt (Export q)))) (omega arith) s))

  line_numbered : (earlier : Earlier) (ss : Stmts) (program : Block) → Stand 0 (program ∷ (further earlier ss).blocks) → StmtsNumbered blocks (scopes_of (line_body earlier ss)) ss (line_body earlier ss).inside
  line_numbered earlier ss program s =
      stmts_numbered (scopes_of (line_body earlier ss)) ss (behind earlier) (stand_back 0 (1 + length earlier.blocks) (program ∷ earlier.blocks) (stmts_blocks (scopes_of (line_body earlier ss)) ss (behind earlier)) (omega arith) s)

pub evaluations_meet : EvaluationsMeetTheirBlocks
evaluations_meet earlier ss = record {
  now = line_numbered (table_of earlier ss) earlier ss _ (all_stand (table_of earlier ss));
  later = λ program more. line_numbered (program ∷ ((further earlier ss).blocks ++ more)) earlier ss program (stand_front _ 0 (program ∷ (further earlier ss).blocks) more (all_stand (program ∷ ((further earlier ss).blocks ++ more))));
}
