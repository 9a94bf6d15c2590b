-- A test passes on all instructions of a body where it passes on those of the blocks in it, and on what names no block.
use Rattle.std.proofs.Common.{◌≡◌, ◌≤◌, ℕ, ◌+◌, Bool, true, false, List, [], ◌∷◌, ◌++◌, slice_get, position, Option, Some, None, arith, refl, subst}
use Rattle.std.specs.List.{list_all}
use Rattle.bqn_base.specs.declared.role.Role.TheVariants as role
use Rattle.bqn_syntax.specs.declared.token.Kind.{Kind}
use Rattle.bqn_syntax.specs.declared.token.Kind.TheVariants as kind
use Rattle.bqn_syntax.specs.declared.token.Special.{Special}
use Rattle.bqn_syntax.specs.declared.token.Special.TheVariants as special
use Rattle.bqn_syntax.specs.declared.token.Token.{Token}
use Rattle.bqn_syntax.specs.declared.tree.Arrow.{Arrow}
use Rattle.bqn_syntax.specs.declared.tree.Arrow.TheVariants as arrow
use Rattle.bqn_syntax.specs.declared.tree.Class.{Class}
use Rattle.bqn_syntax.specs.grammar.Trees.{Pattern, Name, Header, Expr, Value, Train, Modifier, Use, One, Two, Part, Leaf, Elements, Merge, Paren, Block as Braces, Field, Strand, Nothing, Step, Apply, Assign, Modify, Eval, Predicate, Export, block, BodyTree, body, Derived, derived, none, some, Exprs, no_exprs, and_exprs, Uses, no_uses, and_uses, Parts, no_parts, and_parts, Steps, no_steps, and_steps, Stmts, no_stmts, and_stmts, Deriveds, no_deriveds, and_deriveds}
use Rattle.bqn_syntax.specs.grammar.Classes.{Calls}
use Rattle.bqn_syntax.specs.blocks.Counting.{how_many}
use Rattle.bqn_syntax.specs.blocks.Blocks.{plain_in}
use Rattle.bqn_syntax.specs.scope.Bodies.{BodyNames}
use Rattle.bqn_syntax.specs.blocks.Exporting.{stmts_export}
use Rattle.bqn_syntax.specs.scope.Scope.{Seen, same_name, system_names, name_of}
use Rattle.bqn_syntax.specs.scope.Scope as scope
use Rattle.bqn_code.specs.declared.constant.Const.{Const}
use Rattle.bqn_code.specs.declared.instr.Instr.{Instr}
use Rattle.bqn_code.specs.declared.instr.Instr.TheVariants as i
use Rattle.bqn_code.specs.declared.code.Body.{Body}
use Rattle.bqn_code.specs.declared.code.Block.{Block}
use Rattle.bqn_compile.specs.declared.count.Count.{Count}
use Rattle.bqn_compile.specs.declared.read.Read.{Read}
use Rattle.bqn_compile.specs.declared.read.Read.TheVariants as read
use Rattle.bqn_compile.specs.Counting.{nothing, past, one_block, in_token, in_targets, in_part, in_steps, in_derived, in_use, in_expr, in_header, in_argument, in_operand}
use Rattle.bqn_compile.specs.Pools.{constant_of, name_number, seen_at}
use Rattle.bqn_compile.specs.Expressions.{Setting, load, store, special_instr, system_instr, literal_instr, leaf_instr, block_instr, fields_code, target_instr, targets_code, parts_read, fork_code, atop_code, how_many_exprs, how_many_parts, derive_instr, derives, expr_code, part_code, steps_code, step_code, derived_code, uses_code, use_code, deriveds_code, exprs_code, parts_code}
use Rattle.bqn_compile.specs.Bodies.{named_argument_code, argument_code, name_code, operand_code, own_instr, header_code, end_code, last_code, stmts_code, body_code}
use Rattle.bqn_compile.specs.Blocks.{bodies_code, expr_blocks, part_blocks, steps_blocks, step_blocks, derived_blocks, uses_blocks, use_blocks, deriveds_blocks, exprs_blocks, parts_blocks, stmts_blocks, body_blocks}
use Rattle.bqn_compile.proofs.Counts.{past-nothing}
use Rattle.bqn_compile.proofs.verified.Tests.{both_true, all_append}
use Rattle.bqn_compile.proofs.verified.blocks.BlockCounts.{token_none, targets_none, header_none, expr_counts, part_counts, maybe_counts, steps_counts, derived_counts, use_counts, stmt_counts}
use Rattle.bqn_compile.proofs.verified.blocks.BlockPlaces.{Stand, stand_front, stand_past, stand_behind}

-- whether it names a block
abbrev pub names_block : Instr → Bool
names_block (i.Block b) = true
names_block (i.Run b) = true
names_block _ = false

-- ---- what names no block

store_other : (a : Arrow) (at : Seen) → names_block (store a at) ≡ false
store_other arrow.Define at = refl
store_other arrow.Export at = refl
store_other arrow.Change at = refl

special_other : (s : Special) → names_block (special_instr s) ≡ false
special_other special.Left = refl
special_other special.Right = refl
special_other special.Own = refl
special_other special.LeftOperand = refl
special_other special.RightOperand = refl
special_other special.Modifier = refl

system_other : (o : Option ℕ) → names_block (system_instr o) ≡ false
system_other None = refl
system_other (Some n) = refl

literal_other : (constants : List Const) (o : Option Const) → names_block (literal_instr constants o) ≡ false
literal_other constants None = refl
literal_other constants (Some c) = refl

leaf_other : (g : Setting) (k : ℕ) (c : Kind) → names_block (leaf_instr g k c) ≡ false
leaf_other g k (kind.Word name r) = refl
leaf_other g k (kind.Special s r) = special_other s
leaf_other g k (kind.System name r) = system_other (position (λ other. same_name other name) system_names)
leaf_other g k (kind.Given code) = refl
leaf_other g k literal = literal_other g.constants (constant_of literal)

target_other : (g : Setting) (c : Count) (q : Pattern) (a : Arrow) → names_block (target_instr g c q a) ≡ false
target_other g c (Name t) a = store_other a (seen_at g.uses c.uses)
target_other g c _ a = refl

derive_other : (u : Use) → names_block (derive_instr u) ≡ false
derive_other (One m) = refl
derive_other (Two m x) = refl

own_other : (k : Kind) → names_block (own_instr k) ≡ false
own_other (kind.Word name role.Mod1) = refl
own_other (kind.Word name role.Mod2) = refl
own_other _ = refl

module _ (test : Instr → Bool) (others : (x : Instr) → names_block x ≡ false → test x ≡ true) where
  abbrev Passes : List Instr → Type 0
  Passes is = list_all test is ≡ true

  other : (x : Instr) (is : List Instr) → names_block x ≡ false → Passes is → Passes (x ∷ is)
  other x is e h = both_true (test x) (list_all test is) (others x e) h

  fields_pass : (names : List (List ℕ)) (ts : List Token) → Passes (fields_code names ts)
  fields_pass names [] = refl
  fields_pass names (t ∷ ts) = other (i.Field (name_number names (name_of t))) (fields_code names ts) refl (fields_pass names ts)

  targets_pass : (g : Setting) (c : Count) (ts : List (Token × Arrow)) → Passes (targets_code g c ts)
  targets_pass g c [] = refl
  targets_pass g c (t ∷ ts) = all_append test (targets_code g (past c (in_token t.0)) ts) (store t.1 (seen_at g.uses c.uses) ∷ []) (targets_pass g (past c (in_token t.0)) ts) (other (store t.1 (seen_at g.uses c.uses)) [] (store_other t.1 (seen_at g.uses c.uses)) refl)

  fork_pass : (r : Read) → Passes (fork_code r)
  fork_pass read.No = refl
  fork_pass read.One = refl
  fork_pass read.Two = other i.Train3 [] refl refl

  atop_pass : (r : Read) → Passes (atop_code r)
  atop_pass read.No = refl
  atop_pass read.One = refl
  atop_pass read.Two = other i.Train2 [] refl refl

  derives_pass : (us : Uses) → Passes (derives us)
  derives_pass no_uses = refl
  derives_pass (and_uses u us) = other (derive_instr u) (derives us) (derive_other u) (derives_pass us)

  end_pass : (exports : Bool) → Passes (end_code exports)
  end_pass true = other i.Space [] refl refl
  end_pass false = other i.Nothing (i.Return ∷ []) refl (other i.Return [] refl refl)

  last_pass : (exports : Bool) → Passes (last_code exports)
  last_pass true = other i.Pop (i.Space ∷ []) refl (other i.Space [] refl refl)
  last_pass false = other i.Return [] refl refl

  match_pass : (push : Instr) (p : ℕ) → names_block push ≡ false → Passes (push ∷ i.Match p ∷ [])
  match_pass push p e = other push (i.Match p ∷ []) e (other (i.Match p) [] refl refl)

  named_argument_pass : (k : Kind) (push : Instr) (p : ℕ) → names_block push ≡ false → Passes (named_argument_code k push p)
  named_argument_pass (kind.Special s r) push p e = refl
  named_argument_pass _ push p e = match_pass push p e

  argument_pass : (push : Instr) (p : ℕ) (q : Option Pattern) → names_block push ≡ false → Passes (argument_code push p q)
  argument_pass push p None e = refl
  argument_pass push p (Some (Name t)) e = named_argument_pass t.kind push p e
  argument_pass push p (Some _) e = match_pass push p e

  name_pass : (push : Instr) (at : Seen) (k : Kind) → names_block push ≡ false → Passes (name_code push at k)
  name_pass push at (kind.Word name r) e = other push (i.Define at.slot ∷ i.Pop ∷ []) e (other (i.Define at.slot) (i.Pop ∷ []) refl (other i.Pop [] refl refl))
  name_pass push at _ e = refl

  operand_pass : (push : Instr) (at : Seen) (t : Option Token) → names_block push ≡ false → Passes (operand_code push at t)
  operand_pass push at None e = refl
  operand_pass push at (Some t) e = name_pass push at t.kind e

  header_pass : (uses : List scope.Use) (c : Count) (h : Option Header) → Passes (header_code uses c h)
  header_pass uses c None = refl
  header_pass uses c (Some h) =
      let at_operand : Count = past c (in_argument h.left) in
      let at_own : Count = past at_operand (in_operand h.left_operand) in
      let at_right_operand : Count = past at_own (in_token h.own) in
      let at_right : Count = past at_right_operand (in_operand h.right_operand) in
      all_append test _ (argument_code i.Right at_right.patterns h.right)
      (all_append test _ (operand_code i.RightOperand (seen_at uses at_right_operand.uses) h.right_operand)
      (all_append test _ (name_code (own_instr h.own.kind) (seen_at uses at_own.uses) h.own.kind)
      (all_append test (argument_code i.Left c.patterns h.left) (operand_code i.LeftOperand (seen_at uses at_operand.uses) h.left_operand)
      (argument_pass i.Left c.patterns h.left refl)
      (operand_pass i.LeftOperand (seen_at uses at_operand.uses) h.left_operand refl))
      (name_pass (own_instr h.own.kind) (seen_at uses at_own.uses) h.own.kind (own_other h.own.kind)))
      (operand_pass i.RightOperand (seen_at uses at_right_operand.uses) h.right_operand refl))
      (argument_pass i.Right at_right.patterns h.right refl)

  -- ---- with the blocks that stand in the body with this number

  module _ (g : Setting) (names : List BodyNames) (all : List Block) (n : ℕ)
      (inner : (c : Class) (b : ℕ) (bodies : List Body) → 1 ≤ b → slice_get all b ≡ Some (record { class = c; parent = n; bodies = bodies }) → test (block_instr c b) ≡ true) where
    mutual
      expr_pass : (c : Count) (e : Expr) → Stand all c.blocks (expr_blocks g names n e c) → Passes (expr_code g c e)
      expr_pass c (Value none no_steps) s = other i.Nothing [] refl refl
      expr_pass c (Value none (and_steps (Modify t d) ss)) s =
          let at : Count = past c (in_steps ss) in
          let steps : Stand all c.blocks (steps_blocks g names n (and_steps (Modify t d) ss) c) = stand_front all c.blocks _ _ s in
          let stored : List Instr = store arrow.Change (seen_at g.uses at.uses) ∷ steps_code g c ss in
          other (load (seen_at g.uses at.uses)) (derived_code g (past at (in_token t)) d ++ i.Call1 ∷ stored) refl
          (all_append test (derived_code g (past at (in_token t)) d) (i.Call1 ∷ stored)
          (derived_pass (past at (in_token t)) d (stand_behind all at (in_token t) _ (token_none t) (stand_past all c (in_steps ss) _ _ (steps_counts g names n ss c) steps)))
          (other i.Call1 stored refl (other (store arrow.Change (seen_at g.uses at.uses)) (steps_code g c ss) refl (steps_pass c ss (stand_front all c.blocks _ _ steps)))))
      expr_pass c (Value none (and_steps (Apply d left) ss)) s = other i.Nothing (steps_code g c (and_steps (Apply d left) ss)) refl (steps_pass c (and_steps (Apply d left) ss) (stand_front all c.blocks _ _ s))
      expr_pass c (Value none (and_steps (Assign q a) ss)) s = other i.Nothing (steps_code g c (and_steps (Assign q a) ss)) refl (steps_pass c (and_steps (Assign q a) ss) (stand_front all c.blocks _ _ s))
      expr_pass c (Value (some x) ss) s = all_append test (part_code g (past c (in_steps ss)) x) (steps_code g c ss)
          (part_pass (past c (in_steps ss)) x (stand_past all c (in_steps ss) _ _ (steps_counts g names n ss c) s)) (steps_pass c ss (stand_front all c.blocks _ _ s))
      expr_pass c (Train targets ds) s = all_append test (deriveds_code g (past c (in_targets targets)) ds ++ atop_code (parts_read ds)) (targets_code g c targets)
          (all_append test (deriveds_code g (past c (in_targets targets)) ds) (atop_code (parts_read ds))
          (deriveds_pass (past c (in_targets targets)) ds (stand_behind all c (in_targets targets) _ (targets_none targets) s)) (atop_pass (parts_read ds)))
          (targets_pass g c targets)
      expr_pass c (Modifier targets x) s = all_append test (part_code g (past c (in_targets targets)) x) (targets_code g c targets)
          (part_pass (past c (in_targets targets)) x (stand_behind all c (in_targets targets) _ (targets_none targets) s)) (targets_pass g c targets)

      part_pass : (c : Count) (x : Part) → Stand all c.blocks (part_blocks g names n x c) → Passes (part_code g c x)
      part_pass c (Leaf t) s = other (leaf_instr g c.uses t.kind) [] (leaf_other g c.uses t.kind) refl
      part_pass c (Elements es) s = all_append test (exprs_code g c es) _ (exprs_pass c es s) (other (i.List (how_many_exprs es)) [] refl refl)
      part_pass c (Merge es) s = all_append test (exprs_code g c es) _ (exprs_pass c es s) (other (i.List (how_many_exprs es)) (i.Given 13 ∷ i.Call1 ∷ []) refl (other (i.Given 13) (i.Call1 ∷ []) refl (other i.Call1 [] refl refl)))
      part_pass c (Paren e) s = expr_pass c e s
      part_pass c (Braces (block place kind bs)) s =
          let bodies : List Body = bodies_code g names (plain_in bs) 0 c.bodies (past c (one_block (how_many bs))) bs in
          let here : slice_get all (c.blocks + 0) ≡ Some (record { class = kind; parent = n; bodies = bodies }) = s.there 0 (record { class = kind; parent = n; bodies = bodies }) refl in
          both_true (test (block_instr kind c.blocks)) true (inner kind c.blocks bodies s.behind (subst (λ (k : ℕ). slice_get all k ≡ Some (record { class = kind; parent = n; bodies = bodies })) (omega arith) here)) refl
      part_pass c (Field base fields) s = all_append test (part_code g c base) (fields_code g.names fields) (part_pass c base s) (fields_pass g.names fields)
      part_pass c (Strand ps) s = all_append test (parts_code g c ps) _ (parts_pass c ps s) (other (i.List (how_many_parts ps)) [] refl refl)
      part_pass c (Nothing place) s = other i.Nothing [] refl refl

      steps_pass : (c : Count) (ss : Steps) → Stand all c.blocks (steps_blocks g names n ss c) → Passes (steps_code g c ss)
      steps_pass c no_steps s = refl
      steps_pass c (and_steps x ss) s = all_append test (step_code g (past c (in_steps ss)) x) (steps_code g c ss)
          (step_pass (past c (in_steps ss)) x (stand_past all c (in_steps ss) _ _ (steps_counts g names n ss c) s)) (steps_pass c ss (stand_front all c.blocks _ _ s))

      step_pass : (c : Count) (x : Step) → Stand all c.blocks (step_blocks g names n x c) → Passes (step_code g c x)
      step_pass c (Apply d none) s =
          all_append test (derived_code g c d) _
          (derived_pass c d (subst (λ (a : Count). Stand all a.blocks (derived_blocks g names n d a)) (past-nothing c) (stand_past all c nothing [] _ (maybe_counts g names n none c) s)))
          (other i.Call1 [] refl refl)
      step_pass c (Apply d (some w)) s = all_append test (derived_code g (past c (in_part w)) d ++ part_code g c w) _
          (all_append test (derived_code g (past c (in_part w)) d) (part_code g c w)
          (derived_pass (past c (in_part w)) d (stand_past all c (in_part w) _ _ (part_counts g names n w c) s)) (part_pass c w (stand_front all c.blocks _ _ s)))
          (other i.Call2 [] refl refl)
      step_pass c (Assign q a) s = other (target_instr g c q a) [] (target_other g c q a) refl
      step_pass c (Modify t d) s = all_append test (derived_code g (past c (in_token t)) d) _
          (derived_pass (past c (in_token t)) d (stand_behind all c (in_token t) _ (token_none t) s))
          (other (load (seen_at g.uses c.uses)) (i.Call2 ∷ store arrow.Change (seen_at g.uses c.uses) ∷ []) refl (other i.Call2 (store arrow.Change (seen_at g.uses c.uses) ∷ []) refl (other (store arrow.Change (seen_at g.uses c.uses)) [] refl refl)))

      derived_pass : (c : Count) (d : Derived) → Stand all c.blocks (derived_blocks g names n d c) → Passes (derived_code g c d)
      derived_pass c (derived x us) s = all_append test (uses_code g (past c (in_part x)) us ++ part_code g c x) (derives us)
          (all_append test (uses_code g (past c (in_part x)) us) (part_code g c x)
          (uses_pass (past c (in_part x)) us (stand_past all c (in_part x) _ _ (part_counts g names n x c) s)) (part_pass c x (stand_front all c.blocks _ _ s)))
          (derives_pass us)

      uses_pass : (c : Count) (us : Uses) → Stand all c.blocks (uses_blocks g names n us c) → Passes (uses_code g c us)
      uses_pass c no_uses s = refl
      uses_pass c (and_uses u us) s = all_append test (uses_code g (past c (in_use u)) us) (use_code g c u)
          (uses_pass (past c (in_use u)) us (stand_past all c (in_use u) _ _ (use_counts g names n u c) s)) (use_pass c u (stand_front all c.blocks _ _ s))

      use_pass : (c : Count) (u : Use) → Stand all c.blocks (use_blocks g names n u c) → Passes (use_code g c u)
      use_pass c (One m) s = part_pass c m s
      use_pass c (Two m x) s = all_append test (part_code g (past c (in_part m)) x) (part_code g c m)
          (part_pass (past c (in_part m)) x (stand_past all c (in_part m) _ _ (part_counts g names n m c) s)) (part_pass c m (stand_front all c.blocks _ _ s))

      deriveds_pass : (c : Count) (ds : Deriveds) → Stand all c.blocks (deriveds_blocks g names n ds c) → Passes (deriveds_code g c ds)
      deriveds_pass c no_deriveds s = refl
      deriveds_pass c (and_deriveds d ds) s = all_append test (deriveds_code g (past c (in_derived d)) ds ++ derived_code g c d) (fork_code (parts_read ds))
          (all_append test (deriveds_code g (past c (in_derived d)) ds) (derived_code g c d)
          (deriveds_pass (past c (in_derived d)) ds (stand_past all c (in_derived d) _ _ (derived_counts g names n d c) s)) (derived_pass c d (stand_front all c.blocks _ _ s)))
          (fork_pass (parts_read ds))

      exprs_pass : (c : Count) (es : Exprs) → Stand all c.blocks (exprs_blocks g names n es c) → Passes (exprs_code g c es)
      exprs_pass c no_exprs s = refl
      exprs_pass c (and_exprs e es) s = all_append test (expr_code g c e) (exprs_code g (past c (in_expr e)) es)
          (expr_pass c e (stand_front all c.blocks _ _ s)) (exprs_pass (past c (in_expr e)) es (stand_past all c (in_expr e) _ _ (expr_counts g names n e c) s))

      parts_pass : (c : Count) (xs : Parts) → Stand all c.blocks (parts_blocks g names n xs c) → Passes (parts_code g c xs)
      parts_pass c no_parts s = refl
      parts_pass c (and_parts x xs) s = all_append test (part_code g c x) (parts_code g (past c (in_part x)) xs)
          (part_pass c x (stand_front all c.blocks _ _ s)) (parts_pass (past c (in_part x)) xs (stand_past all c (in_part x) _ _ (part_counts g names n x c) s))

    stmts_pass : (exports : Bool) (c : Count) (ss : Stmts) → Stand all c.blocks (stmts_blocks g names n ss c) → Passes (stmts_code g exports c ss)
    stmts_pass exports c no_stmts s = end_pass exports
    stmts_pass exports c (and_stmts (Eval e) no_stmts) s = all_append test (expr_code g c e) (last_code exports) (expr_pass c e (stand_front all c.blocks _ _ s)) (last_pass exports)
    stmts_pass exports c (and_stmts (Eval e) (and_stmts x ss)) s = all_append test (expr_code g c e) _
        (expr_pass c e (stand_front all c.blocks _ _ s))
        (other i.Pop (stmts_code g exports (past c (in_expr e)) (and_stmts x ss)) refl (stmts_pass exports (past c (in_expr e)) (and_stmts x ss) (stand_past all c (in_expr e) _ _ (expr_counts g names n e c) s)))
    stmts_pass exports c (and_stmts (Predicate e) ss) s = all_append test (expr_code g c e) _
        (expr_pass c e (stand_front all c.blocks _ _ s))
        (other i.Check (stmts_code g exports (past c (in_expr e)) ss) refl (stmts_pass exports (past c (in_expr e)) ss (stand_past all c (in_expr e) _ _ (expr_counts g names n e c) s)))
    stmts_pass exports c (and_stmts (Export q) ss) s =
        stmts_pass exports c ss (subst (λ (a : Count). Stand all a.blocks (stmts_blocks g names n ss a)) (past-nothing c) (stand_past all c nothing [] _ (stmt_counts g names n (Export q) c) s))

    pub body_pass : (own : BodyNames) (calls : Calls) (c : Count) (x : BodyTree) → Stand all c.blocks (body_blocks g names n x c) → Passes (body_code g own calls c x).code
    body_pass own calls c (body h ss) s = all_append test (header_code g.uses c h) (stmts_code g (stmts_export ss) (past c (in_header h)) ss) (header_pass g.uses c h)
        (stmts_pass (stmts_export ss) (past c (in_header h)) ss (stand_behind all c (in_header h) _ (header_none h) s))
