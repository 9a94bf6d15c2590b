-- The walk over a whole tree: each instruction finds its slots.
use Rattle.std.proofs.Common.{◌≡◌, ℕ, Bool, true, false, List, [], ◌∷◌, ◌++◌, refl, subst}
use Rattle.bqn_syntax.specs.declared.token.Token.{Token}
use Rattle.bqn_syntax.specs.declared.tree.Arrow.TheVariants as arrow
use Rattle.bqn_syntax.specs.declared.tree.Class.{Class}
use Rattle.bqn_syntax.specs.declared.tree.Class.TheVariants as class
use Rattle.bqn_syntax.specs.declared.sort.Tag.TheVariants as tag
use Rattle.bqn_syntax.specs.grammar.Trees.{Expr, Value, Train, Modifier, Use, One, Two, Part, Leaf, Elements, Merge, Paren, Block as Braces, Field, Strand, Nothing, Step, Apply, Assign, Modify, Stmt, Eval, Predicate, Export, BlockTree, block, BodyTree, body, Derived, derived, none, some, Exprs, no_exprs, and_exprs, Uses, no_uses, and_uses, Parts, no_parts, and_parts, Steps, no_steps, and_steps, Stmts, no_stmts, and_stmts, Bodies, no_bodies, and_bodies, Deriveds, no_deriveds, and_deriveds}
use Rattle.bqn_syntax.specs.grammar.Sorts.{tag as tag_of, is_word}
use Rattle.bqn_syntax.specs.grammar.Well.{WellExpr, WellPart, WellSteps, WellStep, WellDerived, WellUses, WellUse, WellDeriveds, WellExprs, WellParts, WellStmt, WellStmts, WellBody, WellBodies, WellBlock}
use Rattle.bqn_syntax.specs.scope.Order.{Reads, Changes}
use Rattle.bqn_syntax.specs.scope.Mentions.{expr_mentions, part_mentions, block_mention, steps_mentions, step_mentions, derived_mentions, uses_mentions, use_mentions, deriveds_mentions, exprs_mentions, parts_mentions, stmt_mentions, stmts_mentions}
use Rattle.bqn_code.specs.declared.instr.Instr.{Instr}
use Rattle.bqn_code.specs.declared.instr.Instr.TheVariants as i
use Rattle.bqn_compile.specs.declared.count.Count.{Count}
use Rattle.bqn_compile.specs.Counting.{past, in_token, in_expr, in_part, in_block, in_steps, in_step, in_derived, in_uses, in_use, in_deriveds, in_exprs, in_parts, in_stmts, in_stmt}
use Rattle.bqn_compile.specs.Pools.{seen_at}
use Rattle.bqn_compile.specs.Expressions.{load, store, block_instr, parts_read, expr_code, part_code, steps_code, step_code, derived_code, uses_code, use_code, deriveds_code, exprs_code, parts_code}
use Rattle.bqn_compile.specs.Bodies.{stmts_code, end_code, last_code}
use Rattle.bqn_compile.specs.Gathering.{the_most, expr, part, block_tree, steps, step, derived_part, mod_uses, mod_use, deriveds, exprs, parts, stmts, stmt}
use Rattle.bqn_compile.proofs.Counts.{past-nothing}
use Rattle.bqn_compile.proofs.verified.bodies.EveryBody.{EveryInExpr, EveryInPart, EveryInSteps, EveryInStep, EveryInDerived, EveryInUses, EveryInUse, EveryInDeriveds, EveryInExprs, EveryInParts, EveryInStmts, EveryInStmt}
use Rattle.bqn_compile.proofs.verified.slots.Walking.{Made, Passes, Fits, append_passes, cons_passes, no_passes, Here, Walk, both, because, skip}
use Rattle.bqn_compile.proofs.verified.slots.NameWalks.{uses, TokenFits, word_fits, name_word, token_walk}
use Rattle.bqn_compile.proofs.verified.slots.PatternWalks.{target_walk, exported_walk, store_passes, load_passes}
use Rattle.bqn_compile.proofs.verified.slots.HeaderWalks.{made, header_walk, targets_walk, fields_walk, fields_pass, derives_pass, fork_passes, atop_passes, leaf_passes}
use Rattle.bqn_compile.proofs.verified.slots.BlockWalks.{Holds, BodyWalk, BodiesWalk, no_more_bodies, more_bodies, block_case}

module _ (o : Made) where
  abbrev ExprFacts : Here o → Expr → Count → Type 0
  ExprFacts h x c = Passes o h.number (expr_code (made o) c x) × EveryInExpr (Holds o) h.number x c

  abbrev PartFacts : Here o → Part → Count → Type 0
  PartFacts h x c = Passes o h.number (part_code (made o) c x) × EveryInPart (Holds o) h.number x c

  abbrev StepsFacts : Here o → Steps → Count → Type 0
  StepsFacts h x c = Passes o h.number (steps_code (made o) c x) × EveryInSteps (Holds o) h.number x c

  abbrev StepFacts : Here o → Step → Count → Type 0
  StepFacts h x c = Passes o h.number (step_code (made o) c x) × EveryInStep (Holds o) h.number x c

  abbrev DerivedFacts : Here o → Derived → Count → Type 0
  DerivedFacts h x c = Passes o h.number (derived_code (made o) c x) × EveryInDerived (Holds o) h.number x c

  abbrev UsesFacts : Here o → Uses → Count → Type 0
  UsesFacts h x c = Passes o h.number (uses_code (made o) c x) × EveryInUses (Holds o) h.number x c

  abbrev UseFacts : Here o → Use → Count → Type 0
  UseFacts h x c = Passes o h.number (use_code (made o) c x) × EveryInUse (Holds o) h.number x c

  abbrev DerivedsFacts : Here o → Deriveds → Count → Type 0
  DerivedsFacts h x c = Passes o h.number (deriveds_code (made o) c x) × EveryInDeriveds (Holds o) h.number x c

  abbrev ExprsFacts : Here o → Exprs → Count → Type 0
  ExprsFacts h x c = Passes o h.number (exprs_code (made o) c x) × EveryInExprs (Holds o) h.number x c

  abbrev PartsFacts : Here o → Parts → Count → Type 0
  PartsFacts h x c = Passes o h.number (parts_code (made o) c x) × EveryInParts (Holds o) h.number x c

  abbrev stmt_code : Count → Stmt → List Instr
  stmt_code c (Eval e) = expr_code (made o) c e
  stmt_code c (Predicate e) = expr_code (made o) c e
  stmt_code c (Export q) = []

  abbrev StmtFacts : Here o → Stmt → Count → Type 0
  StmtFacts h x c = Passes o h.number (stmt_code c x) × EveryInStmt (Holds o) h.number x c

  abbrev pub StmtsFacts : Here o → Stmts → Count → Type 0
  StmtsFacts h x c = ((exports : Bool) → Passes o h.number (stmts_code (made o) exports c x)) × EveryInStmts (Holds o) h.number x c

  -- ---- the code of one level

  block_passes : (n : ℕ) (kind : Class) (b : ℕ) → Passes o n (block_instr kind b ∷ [])
  block_passes n class.Immediate b = record { all = λ a b e. refl }
  block_passes n _ b = record { all = λ a b e. refl }

  -- a function that changes a name, in front of what is done with the answer
  change_passes : (h : Here o) (t : Token) (d : Derived) (c : Count) (is : List Instr) → is_word t.kind ≡ true → TokenFits o h Changes t.kind c → Passes o h.number (derived_code (made o) (past c (in_token t)) d) → Passes o h.number is →
      Passes o h.number (load (seen_at (uses o) c.uses) ∷ derived_code (made o) (past c (in_token t)) d ++ i.Call1 ∷ store arrow.Change (seen_at (uses o) c.uses) ∷ is)
  change_passes h t d c is w f p q =
      let at : Fits o Changes h.number (seen_at (uses o) c.uses) = word_fits o h Changes t.kind c w f in
      cons_passes o (load_passes o Changes h.number (seen_at (uses o) c.uses) at)
      (append_passes o p (cons_passes o {x = i.Call1} (record { all = λ a b e. refl }) (cons_passes o (store_passes o arrow.Change h.number (seen_at (uses o) c.uses) at) q)))

  modify_passes : (h : Here o) (t : Token) (d : Derived) (c : Count) → is_word t.kind ≡ true → TokenFits o h Changes t.kind c → Passes o h.number (derived_code (made o) (past c (in_token t)) d) →
      Passes o h.number (step_code (made o) c (Modify t d))
  modify_passes h t d c w f p =
      let at : Fits o Changes h.number (seen_at (uses o) c.uses) = word_fits o h Changes t.kind c w f in
      append_passes o p (cons_passes o (load_passes o Changes h.number (seen_at (uses o) c.uses) at) (cons_passes o {x = i.Call2} (record { all = λ a b e. refl }) (store_passes o arrow.Change h.number (seen_at (uses o) c.uses) at)))

  end_passes : (n : ℕ) (exports : Bool) → Passes o n (end_code exports)
  end_passes n true = record { all = λ a b e. refl }
  end_passes n false = record { all = λ a b e. refl }

  last_passes : (n : ℕ) (exports : Bool) → Passes o n (last_code exports)
  last_passes n true = record { all = λ a b e. refl }
  last_passes n false = record { all = λ a b e. refl }

  stmts_pass : (n : ℕ) (exports : Bool) (c : Count) (s : Stmt) (ss : Stmts) → Passes o n (stmt_code c s) → Passes o n (stmts_code (made o) exports (past c (in_stmt s)) ss) → Passes o n (stmts_code (made o) exports c (and_stmts s ss))
  stmts_pass n exports c (Eval e) no_stmts h k = append_passes o h (last_passes n exports)
  stmts_pass n exports c (Eval e) (and_stmts s ss) h k = append_passes o h (cons_passes o {x = i.Pop} (record { all = λ a b e. refl }) k)
  stmts_pass n exports c (Predicate e) ss h k = append_passes o h (cons_passes o {x = i.Check} (record { all = λ a b e. refl }) k)
  stmts_pass n exports c (Export q) ss h k = subst (λ z. Passes o n (stmts_code (made o) exports z ss)) (past-nothing c) k

  -- ---- the tree

  mutual
    expr_walk : (h : Here o) (x : Expr) → WellExpr x → Walk o h (expr the_most (uses o) x) (λ ms. expr_mentions x ms) (in_expr x) (ExprFacts h x)
    expr_walk h (Value none no_steps) w = elim (w.0) [ ]
    expr_walk h (Value none (and_steps (Apply d left) ss)) w = elim (w.0) [ ]
    expr_walk h (Value none (and_steps (Assign q a) ss)) w = elim (w.0) [ ]
    expr_walk h (Value none (and_steps (Modify t d) ss)) w =
        because o (λ c f. (change_passes h t d (past c (in_steps ss)) _ (name_word o tag.Subject t.kind w.1.0.0) f.0.1.0 f.0.1.1.0 f.0.0.0, ((f.0.0.1, f.0.1.1.1), tt)))
        (both o (both o (steps_walk h ss w.1.1) (both o (token_walk o h Changes tt t) (derived_walk h d w.1.0.3))) (skip o {h = h}))
    expr_walk h (Value (some x) ss) w = because o (λ c f. (append_passes o f.1.0 f.0.0, (f.0.1, f.1.1))) (both o (steps_walk h ss w.2) (part_walk h x w.1))
    expr_walk h (Train ts ds) w = because o (λ c f. (append_passes o (append_passes o f.1.0 (atop_passes o h.number (parts_read ds))) f.0, f.1.1)) (both o (targets_walk o h tag.Function ts w.0) (deriveds_walk h ds w.3))
    expr_walk h (Modifier ts x) w = because o (λ c f. (append_passes o f.1.0 f.0, f.1.1)) (both o (targets_walk o h (tag_of x) ts w.1) (part_walk h x w.2))

    part_walk : (h : Here o) (x : Part) → WellPart x → Walk o h (part the_most (uses o) x) (λ ms. part_mentions x ms) (in_part x) (PartFacts h x)
    part_walk h (Leaf t) w = because o (λ c f. (leaf_passes o h Reads t.kind c f, tt)) (token_walk o h Reads tt t)
    part_walk h (Elements es) w = because o (λ c f. (append_passes o f.0 (record { all = λ a b e. refl }), f.1)) (exprs_walk h es w)
    part_walk h (Merge es) w = because o (λ c f. (append_passes o f.0 (record { all = λ a b e. refl }), f.1)) (exprs_walk h es w.1)
    part_walk h (Paren e) w = expr_walk h e w
    part_walk h (Braces b) w = block_walk h b w
    part_walk h (Field base names) w =
        subst (λ d. Walk o h (part the_most (uses o) (Field base names)) (λ ms. part_mentions base ms) d (PartFacts h (Field base names))) (past-nothing (in_part base))
        (because o (λ c f. (append_passes o f.0.0 (fields_pass o h.number o.pools.names names), f.0.1)) (both o (part_walk h base w.2) (fields_walk o h names)))
    part_walk h (Strand ps) w = because o (λ c f. (append_passes o f.0 (record { all = λ a b e. refl }), f.1)) (parts_walk h ps w.1)
    part_walk h (Nothing place) w = because o (λ c f. (record { all = λ a b e. refl }, tt)) (skip o {h = h})

    block_walk : (h : Here o) (b : BlockTree) → WellBlock b → Walk o h (block_tree the_most (uses o) b) (λ ms. block_mention b ms) (in_block b) (PartFacts h (Braces b))
    block_walk h (block place kind bs) w = because o (λ c f. (block_passes h.number kind c.blocks, f)) (block_case o h place kind bs (bodies_walk bs w.2))

    steps_walk : (h : Here o) (x : Steps) → WellSteps x → Walk o h (steps the_most (uses o) x) (λ ms. steps_mentions x ms) (in_steps x) (StepsFacts h x)
    steps_walk h no_steps w = because o (λ c f. (no_passes o, tt)) (skip o {h = h})
    steps_walk h (and_steps s ss) w = because o (λ c f. (append_passes o f.1.0 f.0.0, (f.0.1, f.1.1))) (both o (steps_walk h ss w.1) (step_walk h s w.0))

    step_walk : (h : Here o) (x : Step) → WellStep x → Walk o h (step the_most (uses o) x) (λ ms. step_mentions x ms) (in_step x) (StepFacts h x)
    step_walk h (Apply d none) w = because o (λ c f. (append_passes o (subst (λ z. Passes o h.number (derived_code (made o) z d)) (past-nothing c) f.1.0) (record { all = λ a b e. refl }), (tt, f.1.1))) (both o (skip o {h = h}) (derived_walk h d w.1))
    step_walk h (Apply d (some x)) w = because o (λ c f. (append_passes o (append_passes o f.1.0 f.0.0) (record { all = λ a b e. refl }), (f.0.1, f.1.1))) (both o (part_walk h x w.3) (derived_walk h d w.1))
    step_walk h (Assign q a) w = because o (λ c f. (f, tt)) (target_walk o h q a w.0 w.1)
    step_walk h (Modify t d) w = because o (λ c f. (modify_passes h t d c (name_word o tag.Subject t.kind w.0) f.0 f.1.0, f.1.1)) (both o (token_walk o h Changes tt t) (derived_walk h d w.3))

    derived_walk : (h : Here o) (x : Derived) → WellDerived x → Walk o h (derived_part the_most (uses o) x) (λ ms. derived_mentions x ms) (in_derived x) (DerivedFacts h x)
    derived_walk h (derived x us) w = because o (λ c f. (append_passes o (append_passes o f.1.0 f.0.0) (derives_pass o h.number us), (f.0.1, f.1.1))) (both o (part_walk h x w.0) (uses_walk h us w.1))

    uses_walk : (h : Here o) (x : Uses) → WellUses x → Walk o h (mod_uses the_most (uses o) x) (λ ms. uses_mentions x ms) (in_uses x) (UsesFacts h x)
    uses_walk h no_uses w = because o (λ c f. (no_passes o, tt)) (skip o {h = h})
    uses_walk h (and_uses u us) w = because o (λ c f. (append_passes o f.1.0 f.0.0, (f.0.1, f.1.1))) (both o (use_walk h u w.0) (uses_walk h us w.1))

    use_walk : (h : Here o) (x : Use) → WellUse x → Walk o h (mod_use the_most (uses o) x) (λ ms. use_mentions x ms) (in_use x) (UseFacts h x)
    use_walk h (One m) w = part_walk h m w
    use_walk h (Two m x) w = because o (λ c f. (append_passes o f.1.0 f.0.0, (f.0.1, f.1.1))) (both o (part_walk h m w.0) (part_walk h x w.1))

    deriveds_walk : (h : Here o) (x : Deriveds) → WellDeriveds x → Walk o h (deriveds the_most (uses o) x) (λ ms. deriveds_mentions x ms) (in_deriveds x) (DerivedsFacts h x)
    deriveds_walk h no_deriveds w = because o (λ c f. (no_passes o, tt)) (skip o {h = h})
    deriveds_walk h (and_deriveds d ds) w = because o (λ c f. (append_passes o (append_passes o f.1.0 f.0.0) (fork_passes o h.number (parts_read ds)), (f.0.1, f.1.1))) (both o (derived_walk h d w.0) (deriveds_walk h ds w.1))

    exprs_walk : (h : Here o) (x : Exprs) → WellExprs x → Walk o h (exprs the_most (uses o) x) (λ ms. exprs_mentions x ms) (in_exprs x) (ExprsFacts h x)
    exprs_walk h no_exprs w = because o (λ c f. (no_passes o, tt)) (skip o {h = h})
    exprs_walk h (and_exprs e es) w = because o (λ c f. (append_passes o f.0.0 f.1.0, (f.0.1, f.1.1))) (both o (expr_walk h e w.0) (exprs_walk h es w.1))

    parts_walk : (h : Here o) (x : Parts) → WellParts x → Walk o h (parts the_most (uses o) x) (λ ms. parts_mentions x ms) (in_parts x) (PartsFacts h x)
    parts_walk h no_parts w = because o (λ c f. (no_passes o, tt)) (skip o {h = h})
    parts_walk h (and_parts x xs) w = because o (λ c f. (append_passes o f.0.0 f.1.0, (f.0.1, f.1.1))) (both o (part_walk h x w.1) (parts_walk h xs w.2))

    pub stmts_walk : (h : Here o) (in_block : Bool) (x : Stmts) → WellStmts in_block x → Walk o h (stmts the_most (uses o) x) (λ ms. stmts_mentions x ms) (in_stmts x) (StmtsFacts h x)
    stmts_walk h b no_stmts w = because o (λ c f. ((λ exports. end_passes h.number exports), tt)) (skip o {h = h})
    stmts_walk h b (and_stmts s ss) w = because o (λ c f. ((λ exports. stmts_pass h.number exports c s ss f.0.0 (f.1.0 exports)), (f.0.1, f.1.1))) (both o (stmt_walk h b s w.0) (stmts_walk h b ss w.1))

    stmt_walk : (h : Here o) (in_block : Bool) (x : Stmt) → WellStmt in_block x → Walk o h (stmt the_most (uses o) x) (λ ms. stmt_mentions x ms) (in_stmt x) (StmtFacts h x)
    stmt_walk h b (Eval e) w = expr_walk h e w
    stmt_walk h b (Predicate e) w = expr_walk h e w.2
    stmt_walk h b (Export q) w = because o (λ c f. (no_passes o, tt)) (exported_walk o h q w)

    bodies_walk : (x : Bodies) → WellBodies x → BodiesWalk o x
    bodies_walk no_bodies w = no_more_bodies o
    bodies_walk (and_bodies x bs) w = more_bodies o x bs (λ h. body_walk h x w.0) (bodies_walk bs w.1)

    body_walk : (h : Here o) (x : BodyTree) → WellBody x → BodyWalk o h x
    body_walk h (body hd ss) w = because o (λ c f. (append_passes o f.0 (f.1.0 _), f.1.1)) (both o (header_walk o h hd w.0) (stmts_walk h true ss w.1))
