-- What a walk through an expression makes: its code before what was there, and its blocks behind those.
use Rattle.std.proofs.Common.{◌≡◌, ℕ, ◌++◌, List, [], ◌∷◌, refl, sym, ap, ◌∙◌, append_assoc}
use Rattle.std.proofs.lemmas.List.{append-nil}
use Rattle.bqn_syntax.specs.declared.token.Token.{Token}
use Rattle.bqn_syntax.specs.declared.tree.Arrow.{Arrow}
use Rattle.bqn_syntax.specs.declared.tree.Arrow.TheVariants as arrow
use Rattle.bqn_syntax.specs.grammar.Trees.{Expr, Value, Train, Modifier, Use, One, Two, Part, Leaf, Elements, Merge, Paren, Block as Braces, Field, Strand, Nothing, Step, Apply, Assign, Modify, Derived, derived, none, some, Uses, no_uses, and_uses, Steps, no_steps, and_steps, Deriveds, no_deriveds, and_deriveds}
use Rattle.bqn_syntax.specs.scope.Bodies.{BodyNames}
use Rattle.bqn_code.specs.declared.instr.Instr.{Instr}
use Rattle.bqn_code.specs.declared.instr.Instr.TheVariants as i
use Rattle.bqn_code.specs.declared.code.Block.{Block}
use Rattle.bqn_compile.specs.declared.count.Count.{Count}
use Rattle.bqn_compile.specs.Counting.{past, nothing, in_token, in_targets, in_target, in_expr, in_part, in_steps, in_step, in_derived, in_uses, in_use, in_deriveds, in_exprs, in_parts}
use Rattle.bqn_compile.specs.Pools.{seen_at}
use Rattle.bqn_compile.specs.Expressions.{Setting, load, store, leaf_instr, target_instr, targets_code, fields_code, parts_read, fork_code, atop_code, derives, how_many_exprs, how_many_parts, expr_code, part_code, steps_code, step_code, derived_code, uses_code, use_code, deriveds_code, exprs_code, parts_code}
use Rattle.bqn_compile.specs.Blocks.{expr_blocks, part_blocks, steps_blocks, step_blocks, derived_blocks, uses_blocks, use_blocks, deriveds_blocks, exprs_blocks, parts_blocks}
use Rattle.bqn_compile.specs.Walking.{Walked, skip, push, pushes, ahead, load_at, store_at, token_walk, target_walk, targets_walk, list_walk, strand_walk, block_walk, expr_walk, part_walk, steps_walk, step_walk, derived_walk, uses_walk, use_walk, deriveds_walk}
use Rattle.bqn_compile.proofs.Counts.{past-assoc, past-nothing, nothing-past}

pub ahead-ahead : (so to : Count) (is js : List Instr) (bs cs : List Block) (w : Walked) → ahead to js cs (ahead so is bs w) ≡ ahead (past so to) (js ++ is) (bs ++ cs) w
unfolding ahead
ahead-ahead so to is js bs cs w = λ i. record { at = past-assoc w.at so to i; code = sym (append_assoc js is w.code) i; blocks = append_assoc w.blocks bs cs i }

ahead-pushes : (to : Count) (is js : List Instr) (cs : List Block) (w : Walked) → ahead to js cs (pushes is w) ≡ ahead to (js ++ is) cs w
unfolding ahead pushes
ahead-pushes to is js cs w = λ i. record { at = past w.at to; code = sym (append_assoc js is w.code) i; blocks = w.blocks ++ cs }

pushes-ahead : (so : Count) (is js : List Instr) (bs : List Block) (w : Walked) → pushes js (ahead so is bs w) ≡ ahead so (js ++ is) bs w
unfolding ahead pushes
pushes-ahead so is js bs w = λ i. record { at = past w.at so; code = sym (append_assoc js is w.code) i; blocks = w.blocks ++ bs }

nothing-ahead : (w : Walked) → w ≡ ahead nothing [] [] w
unfolding ahead
nothing-ahead w = λ i. record { at = sym (past-nothing w.at) i; code = w.code; blocks = sym (append-nil w.blocks) i }

-- what is made of parts that come one after another, once both are there
both-then : (so to : Count) (is js ks : List Instr) (bs cs : List Block) (w : Walked) → ahead to js cs (ahead so is bs (pushes ks w)) ≡ ahead (past so to) (js ++ is ++ ks) (bs ++ cs) w
unfolding ahead pushes
both-then so to is js ks bs cs w = ap (ahead to js cs) (ahead-pushes so ks is bs w) ∙ ahead-ahead so to (is ++ ks) js bs cs w ∙ ap (λ (xs : List Instr). ahead (past so to) xs (bs ++ cs) w) (sym (append_assoc js is ks))

push-ahead : (x : Instr) (w : Walked) → push x w ≡ ahead nothing (x ∷ []) [] w
unfolding ahead push
push-ahead x w = λ i. record { at = sym (past-nothing w.at) i; code = x ∷ w.code; blocks = sym (append-nil w.blocks) i }

token-ahead : (so : Count) (x : Instr) (w : Walked) → skip so (push x w) ≡ ahead so (x ∷ []) [] w
unfolding ahead push skip
token-ahead so x w = λ i. record { at = past w.at so; code = x ∷ w.code; blocks = sym (append-nil w.blocks) i }

-- no part stands at the end
none-ahead : (so : Count) (is : List Instr) (bs : List Block) (x : Instr) (w : Walked) → push x (ahead so is bs w) ≡ ahead (past so nothing) (x ∷ is) (bs ++ []) w
unfolding ahead push
none-ahead so is bs x w = λ i. record { at = past w.at (sym (past-nothing so) i); code = x ∷ (is ++ w.code); blocks = w.blocks ++ sym (append-nil bs) i }

module _ (g : Setting) where
  pub targets-walks : (ts : List (Token × Arrow)) (w : Walked) → targets_walk g ts w ≡ ahead (in_targets ts) (targets_code g w.at ts) [] w
  unfolding ahead push skip store_at
  targets-walks [] w = nothing-ahead w
  targets-walks (t ∷ ts) w =
      targets-walks ts (skip (in_token t.0) (push (store_at g t.1 w) w))
      ∙ (λ i. record { at = past-assoc w.at (in_token t.0) (in_targets ts) i; code = sym (append_assoc (targets_code g (past w.at (in_token t.0)) ts) (store t.1 (seen_at g.uses w.at.uses) ∷ []) w.code) i; blocks = w.blocks ++ [] })

  -- a change without a value, at its steps
  change-ahead : (so tt' dd : Count) (is ds : List Instr) (bs cs : List Block) (w : Walked) →
      push (load_at g (ahead so is bs w)) (ahead dd ds cs (skip tt' (push i.Call1 (push (store_at g arrow.Change (ahead so is bs w)) (ahead so is bs w)))))
      ≡ ahead (past (past so (past tt' dd)) nothing) (load (seen_at g.uses (past w.at so).uses) ∷ (ds ++ (i.Call1 ∷ store arrow.Change (seen_at g.uses (past w.at so).uses) ∷ is))) ((bs ++ cs) ++ []) w
  unfolding ahead push skip load_at store_at
  change-ahead so tt' dd is ds bs cs w = λ j. record {
    at = (past-assoc (past w.at so) tt' dd ∙ past-assoc w.at so (past tt' dd) ∙ ap (past w.at) (sym (past-nothing (past so (past tt' dd))))) j;
    code = load (seen_at g.uses (past w.at so).uses) ∷ sym (append_assoc ds (i.Call1 ∷ store arrow.Change (seen_at g.uses (past w.at so).uses) ∷ is) w.code) j;
    blocks = (append_assoc w.blocks bs cs ∙ ap (λ (xs : List Block). w.blocks ++ xs) (sym (append-nil (bs ++ cs)))) j;
  }

module _ (g : Setting) (names : List BodyNames) (inside : ℕ) where
  mutual
    unfolding ahead skip push pushes load_at store_at token_walk target_walk list_walk strand_walk block_walk

    pub expr-walks : (e : Expr) (w : Walked) → expr_walk g names inside e w ≡ ahead (in_expr e) (expr_code g w.at e) (expr_blocks g names inside e w.at) w
    expr-walks (Value none no_steps) w = ap (push i.Nothing) (nothing-ahead w) ∙ none-ahead nothing [] [] i.Nothing w
    expr-walks (Value none (and_steps (Modify t d) ss)) w =
        ap (λ (v : Walked). push (load_at g v) (derived_walk g names inside d (skip (in_token t) (push i.Call1 (push (store_at g arrow.Change v) v))))) (steps-walks ss w)
        ∙ ap (push (load (seen_at g.uses (past w.at (in_steps ss)).uses))) (derived-walks d (skip (in_token t) (push i.Call1 (push (store arrow.Change (seen_at g.uses (past w.at (in_steps ss)).uses)) (ahead (in_steps ss) (steps_code g w.at ss) (steps_blocks g names inside ss w.at) w)))))
        ∙ change-ahead g (in_steps ss) (in_token t) (in_derived d) (steps_code g w.at ss) (derived_code g (past (past w.at (in_steps ss)) (in_token t)) d) (steps_blocks g names inside ss w.at) (derived_blocks g names inside d (past (past w.at (in_steps ss)) (in_token t))) w
    expr-walks (Value none (and_steps (Apply d left) ss)) w = ap (push i.Nothing) (steps-walks (and_steps (Apply d left) ss) w) ∙ none-ahead (in_steps (and_steps (Apply d left) ss)) (steps_code g w.at (and_steps (Apply d left) ss)) (steps_blocks g names inside (and_steps (Apply d left) ss) w.at) i.Nothing w
    expr-walks (Value none (and_steps (Assign q a) ss)) w = ap (push i.Nothing) (steps-walks (and_steps (Assign q a) ss) w) ∙ none-ahead (in_steps (and_steps (Assign q a) ss)) (steps_code g w.at (and_steps (Assign q a) ss)) (steps_blocks g names inside (and_steps (Assign q a) ss) w.at) i.Nothing w
    expr-walks (Value (some x) ss) w =
        ap (part_walk g names inside x) (steps-walks ss w)
        ∙ part-walks x (ahead (in_steps ss) (steps_code g w.at ss) (steps_blocks g names inside ss w.at) w)
        ∙ ahead-ahead (in_steps ss) (in_part x) (steps_code g w.at ss) (part_code g (past w.at (in_steps ss)) x) (steps_blocks g names inside ss w.at) (part_blocks g names inside x (past w.at (in_steps ss))) w
    expr-walks (Train ts ds) w =
        ap (λ (v : Walked). deriveds_walk g names inside ds (pushes (atop_code (parts_read ds)) v)) (targets-walks g ts w)
        ∙ ap (deriveds_walk g names inside ds) (pushes-ahead (in_targets ts) (targets_code g w.at ts) (atop_code (parts_read ds)) [] w)
        ∙ deriveds-walks ds (ahead (in_targets ts) (atop_code (parts_read ds) ++ targets_code g w.at ts) [] w)
        ∙ ahead-ahead (in_targets ts) (in_deriveds ds) (atop_code (parts_read ds) ++ targets_code g w.at ts) (deriveds_code g (past w.at (in_targets ts)) ds) [] (deriveds_blocks g names inside ds (past w.at (in_targets ts))) w
        ∙ ap (λ (is : List Instr). ahead (past (in_targets ts) (in_deriveds ds)) is (deriveds_blocks g names inside ds (past w.at (in_targets ts))) w) (sym (append_assoc (deriveds_code g (past w.at (in_targets ts)) ds) (atop_code (parts_read ds)) (targets_code g w.at ts)))
    expr-walks (Modifier ts x) w =
        ap (part_walk g names inside x) (targets-walks g ts w)
        ∙ part-walks x (ahead (in_targets ts) (targets_code g w.at ts) [] w)
        ∙ ahead-ahead (in_targets ts) (in_part x) (targets_code g w.at ts) (part_code g (past w.at (in_targets ts)) x) [] (part_blocks g names inside x (past w.at (in_targets ts))) w

    pub part-walks : (x : Part) (w : Walked) → part_walk g names inside x w ≡ ahead (in_part x) (part_code g w.at x) (part_blocks g names inside x w.at) w
    part-walks (Leaf t) w = token-ahead (in_token t) (leaf_instr g w.at.uses t.kind) w
    part-walks (Elements es) w = λ j. record { at = past w.at (in_exprs es); code = sym (append_assoc (exprs_code g w.at es) (i.List (how_many_exprs es) ∷ []) w.code) j; blocks = w.blocks ++ exprs_blocks g names inside es w.at }
    part-walks (Merge es) w = λ j. record { at = past w.at (in_exprs es); code = sym (append_assoc (exprs_code g w.at es) (i.List (how_many_exprs es) ∷ i.Given 13 ∷ i.Call1 ∷ []) w.code) j; blocks = w.blocks ++ exprs_blocks g names inside es w.at }
    part-walks (Paren e) w = expr-walks e w
    part-walks (Braces b) w = refl
    part-walks (Field base ts) w = part-walks base (pushes (fields_code g.names ts) w) ∙ ahead-pushes (in_part base) (fields_code g.names ts) (part_code g w.at base) (part_blocks g names inside base w.at) w
    part-walks (Strand xs) w = λ j. record { at = past w.at (in_parts xs); code = sym (append_assoc (parts_code g w.at xs) (i.List (how_many_parts xs) ∷ []) w.code) j; blocks = w.blocks ++ parts_blocks g names inside xs w.at }
    part-walks (Nothing place) w = push-ahead i.Nothing w

    pub steps-walks : (ss : Steps) (w : Walked) → steps_walk g names inside ss w ≡ ahead (in_steps ss) (steps_code g w.at ss) (steps_blocks g names inside ss w.at) w
    steps-walks no_steps w = nothing-ahead w
    steps-walks (and_steps s ss) w =
        ap (step_walk g names inside s) (steps-walks ss w)
        ∙ step-walks s (ahead (in_steps ss) (steps_code g w.at ss) (steps_blocks g names inside ss w.at) w)
        ∙ ahead-ahead (in_steps ss) (in_step s) (steps_code g w.at ss) (step_code g (past w.at (in_steps ss)) s) (steps_blocks g names inside ss w.at) (step_blocks g names inside s (past w.at (in_steps ss))) w

    pub step-walks : (s : Step) (w : Walked) → step_walk g names inside s w ≡ ahead (in_step s) (step_code g w.at s) (step_blocks g names inside s w.at) w
    step-walks (Apply d none) w =
        derived-walks d (push i.Call1 w)
        ∙ (λ j. record { at = past w.at (sym (nothing-past (in_derived d)) j); code = sym (append_assoc (derived_code g w.at d) (i.Call1 ∷ []) w.code) j; blocks = w.blocks ++ derived_blocks g names inside d (sym (past-nothing w.at) j) })
    step-walks (Apply d (some x)) w =
        ap (derived_walk g names inside d) (part-walks x (push i.Call2 w))
        ∙ derived-walks d (ahead (in_part x) (part_code g w.at x) (part_blocks g names inside x w.at) (push i.Call2 w))
        ∙ both-then (in_part x) (in_derived d) (part_code g w.at x) (derived_code g (past w.at (in_part x)) d) (i.Call2 ∷ []) (part_blocks g names inside x w.at) (derived_blocks g names inside d (past w.at (in_part x))) w
    step-walks (Assign q a) w = token-ahead (in_target q) (target_instr g w.at q a) w
    step-walks (Modify t d) w =
        derived-walks d (skip (in_token t) (push (load_at g w) (push i.Call2 (push (store_at g arrow.Change w) w))))
        ∙ (λ j. record { at = past-assoc w.at (in_token t) (in_derived d) j; code = sym (append_assoc (derived_code g (past w.at (in_token t)) d) (load (seen_at g.uses w.at.uses) ∷ i.Call2 ∷ store arrow.Change (seen_at g.uses w.at.uses) ∷ []) w.code) j; blocks = w.blocks ++ derived_blocks g names inside d (past w.at (in_token t)) })

    pub derived-walks : (d : Derived) (w : Walked) → derived_walk g names inside d w ≡ ahead (in_derived d) (derived_code g w.at d) (derived_blocks g names inside d w.at) w
    derived-walks (derived x us) w =
        ap (uses_walk g names inside us) (part-walks x (pushes (derives us) w))
        ∙ uses-walks us (ahead (in_part x) (part_code g w.at x) (part_blocks g names inside x w.at) (pushes (derives us) w))
        ∙ both-then (in_part x) (in_uses us) (part_code g w.at x) (uses_code g (past w.at (in_part x)) us) (derives us) (part_blocks g names inside x w.at) (uses_blocks g names inside us (past w.at (in_part x))) w

    pub uses-walks : (us : Uses) (w : Walked) → uses_walk g names inside us w ≡ ahead (in_uses us) (uses_code g w.at us) (uses_blocks g names inside us w.at) w
    uses-walks no_uses w = nothing-ahead w
    uses-walks (and_uses u us) w =
        ap (uses_walk g names inside us) (use-walks u w)
        ∙ uses-walks us (ahead (in_use u) (use_code g w.at u) (use_blocks g names inside u w.at) w)
        ∙ ahead-ahead (in_use u) (in_uses us) (use_code g w.at u) (uses_code g (past w.at (in_use u)) us) (use_blocks g names inside u w.at) (uses_blocks g names inside us (past w.at (in_use u))) w

    pub use-walks : (u : Use) (w : Walked) → use_walk g names inside u w ≡ ahead (in_use u) (use_code g w.at u) (use_blocks g names inside u w.at) w
    use-walks (One m) w = part-walks m w
    use-walks (Two m x) w =
        ap (part_walk g names inside x) (part-walks m w)
        ∙ part-walks x (ahead (in_part m) (part_code g w.at m) (part_blocks g names inside m w.at) w)
        ∙ ahead-ahead (in_part m) (in_part x) (part_code g w.at m) (part_code g (past w.at (in_part m)) x) (part_blocks g names inside m w.at) (part_blocks g names inside x (past w.at (in_part m))) w

    pub deriveds-walks : (ds : Deriveds) (w : Walked) → deriveds_walk g names inside ds w ≡ ahead (in_deriveds ds) (deriveds_code g w.at ds) (deriveds_blocks g names inside ds w.at) w
    deriveds-walks no_deriveds w = nothing-ahead w
    deriveds-walks (and_deriveds d ds) w =
        ap (deriveds_walk g names inside ds) (derived-walks d (pushes (fork_code (parts_read ds)) w))
        ∙ deriveds-walks ds (ahead (in_derived d) (derived_code g w.at d) (derived_blocks g names inside d w.at) (pushes (fork_code (parts_read ds)) w))
        ∙ both-then (in_derived d) (in_deriveds ds) (derived_code g w.at d) (deriveds_code g (past w.at (in_derived d)) ds) (fork_code (parts_read ds)) (derived_blocks g names inside d w.at) (deriveds_blocks g names inside ds (past w.at (in_derived d))) w
