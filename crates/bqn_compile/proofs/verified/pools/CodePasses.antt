-- Each instruction of a body passes a test that the instructions of what is in the body pass.
use Rattle.std.proofs.Common.{◌≡◌, ℕ, Bool, true, false, List, [], ◌∷◌, ◌++◌, Option, Some, None, refl, sym, ap, subst}
use Rattle.std.specs.List.{list_all}
use Rattle.bqn_base.specs.declared.role.Role.TheVariants as role
use Rattle.bqn_syntax.specs.declared.token.Kind.{Kind}
use Rattle.bqn_syntax.specs.declared.token.Kind.TheVariants as kind
use Rattle.bqn_syntax.specs.declared.token.Token.{Token}
use Rattle.bqn_syntax.specs.declared.tree.Arrow.{Arrow}
use Rattle.bqn_syntax.specs.declared.tree.Arrow.TheVariants as arrow
use Rattle.bqn_syntax.specs.declared.tree.Class.{Class}
use Rattle.bqn_syntax.specs.declared.tree.Class.TheVariants as class
use Rattle.bqn_syntax.specs.grammar.Trees.{Pattern, Name, Skip, Literal, ListPattern, StrandPattern, Header, Expr, Value, Train, Modifier, Use, One, Two, Part, Leaf, Elements, Merge, Paren, Block, Field, Strand, Nothing, Step, Apply, Assign, Modify, Stmt, Eval, Predicate, Export, block, BodyTree, body, Derived, derived, MaybePart, none, some, Exprs, no_exprs, and_exprs, Uses, no_uses, and_uses, Parts, no_parts, and_parts, Steps, no_steps, and_steps, Stmts, no_stmts, and_stmts, Deriveds, no_deriveds, and_deriveds}
use Rattle.bqn_syntax.specs.scope.Order.{How, Reads, Defines, by_arrow}
use Rattle.bqn_syntax.specs.blocks.Exporting.{stmts_export}
use Rattle.bqn_syntax.specs.grammar.Classes.{Calls}
use Rattle.bqn_syntax.specs.scope.Scope.{Seen}
use Rattle.bqn_syntax.specs.scope.Bodies.{BodyNames}
use Rattle.bqn_code.specs.declared.instr.Instr.{Instr}
use Rattle.bqn_code.specs.declared.instr.Instr.TheVariants as i
use Rattle.bqn_compile.specs.declared.count.Count.{Count}
use Rattle.bqn_compile.specs.declared.read.Read.{Read}
use Rattle.bqn_compile.specs.declared.read.Read.TheVariants as read
use Rattle.bqn_compile.specs.Counting.{nothing, past, in_token, in_operand, in_argument, in_header, in_targets, in_part, in_maybe, in_steps, in_derived, in_use, in_expr, in_stmt, in_body}
use Rattle.bqn_compile.specs.Pools.{seen_at}
use Rattle.bqn_compile.specs.Gathering.{the_most}
use Rattle.bqn_compile.specs.Expressions.{Setting, load, store, leaf_instr, block_instr, fields_code, target_instr, targets_code, parts_read, fork_code, atop_code, how_many_exprs, how_many_parts, derives, expr_code, part_code, steps_code, step_code, derived_code, uses_code, use_code, deriveds_code, exprs_code, parts_code}
use Rattle.bqn_compile.specs.Bodies.{named_argument_code, argument_code, name_code, operand_code, own_instr, header_code, end_code, last_code, stmts_code, body_code}
use Rattle.bqn_compile.proofs.Counts.{past-assoc, past-nothing}
use Rattle.bqn_compile.proofs.verified.Tests.{both_true, all_append, all_front, all_back}
use Rattle.bqn_compile.proofs.verified.pools.Items.{Item, Alone, Fields, Taken, EachItem, item_count, items_count, operand_items, named_items, argument_items, header_items, targets_items, target_item, expr_items, part_items, maybe_items, steps_items, step_items, derived_items, uses_items, use_items, deriveds_items, exprs_items, parts_items, stmts_items, stmt_items, body_items}
use Rattle.bqn_compile.proofs.verified.pools.GatheredItems as has

-- instructions without a constant, a name, a pattern or a given value
abbrev pub is_free : Instr → Bool
is_free (i.Const k) = false
is_free (i.Field k) = false
is_free (i.Bind k) = false
is_free (i.Match k) = false
is_free (i.Given code) = false
is_free _ = true

-- ---- the counts of lists

module _ (P : Count → Item → Type 0) where
  each_at : (c d : Count) (xs : List Item) → c ≡ d → EachItem P c xs → EachItem P d xs
  each_at c d xs e h = subst (λ (c : Count). EachItem P c xs) e h

  pub each_front : (c : Count) (xs ys : List Item) → EachItem P c (xs ++ ys) → EachItem P c xs
  each_front c [] ys h = tt
  each_front c (x ∷ xs) ys h = (h.0, each_front (past c (item_count x)) xs ys h.1)

  each_rest : (c : Count) (xs ys : List Item) → EachItem P c (xs ++ ys) → EachItem P (past c (items_count xs)) ys
  each_rest c [] ys h = each_at c (past c nothing) ys (sym (past-nothing c)) h
  each_rest c (x ∷ xs) ys h = each_at (past (past c (item_count x)) (items_count xs)) (past c (past (item_count x) (items_count xs))) ys (past-assoc c (item_count x) (items_count xs)) (each_rest (past c (item_count x)) xs ys h.1)

  pub each_back : (c d : Count) (xs ys : List Item) → d ≡ items_count xs → EachItem P c (xs ++ ys) → EachItem P (past c d) ys
  each_back c d xs ys e h = each_at (past c (items_count xs)) (past c d) ys (ap (λ (d : Count). past c d) (sym e)) (each_rest c xs ys h)

pub steps_counted : (ss : Steps) → in_steps ss ≡ items_count (steps_items ss)
steps_counted ss = (has.steps_has the_most [] ss).counting

pub part_counted : (x : Part) → in_part x ≡ items_count (part_items x)
part_counted x = (has.part_has the_most [] x).counting

pub maybe_counted : (x : MaybePart) → in_maybe x ≡ items_count (maybe_items x)
maybe_counted x = (has.maybe_has the_most [] x).counting

pub derived_counted : (d : Derived) → in_derived d ≡ items_count (derived_items d)
derived_counted d = (has.derived_has the_most [] d).counting

pub use_counted : (u : Use) → in_use u ≡ items_count (use_items u)
use_counted u = (has.use_has the_most [] u).counting

pub expr_counted : (e : Expr) → in_expr e ≡ items_count (expr_items e)
expr_counted e = (has.expr_has the_most [] e).counting

pub targets_counted : (ts : List (Token × Arrow)) → in_targets ts ≡ items_count (targets_items ts)
targets_counted ts = (has.targets_has the_most [] ts).counting

pub stmt_counted : (s : Stmt) → in_stmt s ≡ items_count (stmt_items s)
stmt_counted s = (has.stmt_has the_most [] s).counting

pub header_counted : (h : Option Header) → in_header h ≡ items_count (header_items h)
header_counted h = (has.header_has the_most [] h).counting

pub body_counted : (b : BodyTree) → in_body b ≡ items_count (body_items b)
body_counted b = (has.body_has the_most [] b).counting

argument_counted : (o : Option Pattern) → in_argument o ≡ items_count (argument_items o)
argument_counted o = (has.argument_has the_most [] o).counting

operand_counted : (o : Option Token) → in_operand o ≡ items_count (operand_items o)
operand_counted o = (has.operand_has the_most [] o).counting

-- ---- what passes

-- a test of instructions passes what is in a body
pub record Tested (P : Count → Item → Type 0) (g : Setting) (test : Instr → Bool) : Type 0 where
  pub free : (j : Instr) → is_free j ≡ true → test j ≡ true
  pub merge : test (i.Given 13) ≡ true
  pub leaf : (c : Count) (t : Token) → P c (Alone Reads t) → test (leaf_instr g c.uses t.kind) ≡ true
  pub fields : (c : Count) (ts : List Token) → P c (Fields ts) → list_all test (fields_code g.names ts) ≡ true
  pub bind : (c : Count) (how : How) (q : Pattern) → P c (Taken false how q) → test (i.Bind c.patterns) ≡ true
  pub match : (c : Count) (q : Pattern) → P c (Taken true Defines q) → test (i.Match c.patterns) ≡ true

module _ (P : Count → Item → Type 0) (g : Setting) (test : Instr → Bool) (tested : Tested P g test) where
  abbrev Passes : List Instr → Type 0
  Passes is = list_all test is ≡ true

  and_free : (j : Instr) (is : List Instr) → is_free j ≡ true → Passes is → Passes (j ∷ is)
  and_free j is f h = both_true (test j) (list_all test is) (tested.free j f) h

  three : (is js ks : List Instr) → Passes is → Passes js → Passes ks → Passes (is ++ js ++ ks)
  three is js ks h k l = all_append test (is ++ js) ks (all_append test is js h k) l

  store_free : (a : Arrow) (at : Seen) → is_free (store a at) ≡ true
  store_free arrow.Define at = refl
  store_free arrow.Export at = refl
  store_free arrow.Change at = refl

  block_free : (c : Class) (b : ℕ) → is_free (block_instr c b) ≡ true
  block_free class.Immediate b = refl
  block_free c b = refl

  targets_pass : (c : Count) (ts : List (Token × Arrow)) → Passes (targets_code g c ts)
  targets_pass c [] = refl
  targets_pass c (t ∷ ts) = all_append test (targets_code g (past c (in_token t.0)) ts) _ (targets_pass (past c (in_token t.0)) ts) (and_free (store t.1 (seen_at g.uses c.uses)) [] (store_free t.1 (seen_at g.uses c.uses)) refl)

  derives_pass : (us : Uses) → Passes (derives us)
  derives_pass no_uses = refl
  derives_pass (and_uses (One m) us) = and_free i.Derive1 (derives us) refl (derives_pass us)
  derives_pass (and_uses (Two m x) us) = and_free i.Derive2 (derives us) refl (derives_pass us)

  fork_passes : (r : Read) → Passes (fork_code r)
  fork_passes read.Two = and_free i.Train3 [] refl refl
  fork_passes r = refl

  atop_passes : (r : Read) → Passes (atop_code r)
  atop_passes read.Two = and_free i.Train2 [] refl refl
  atop_passes r = refl

  target_passes : (c : Count) (q : Pattern) (a : Arrow) → P c (target_item (by_arrow a) q) → Passes (target_instr g c q a ∷ [])
  target_passes c (Name t) a h = and_free (store a (seen_at g.uses c.uses)) [] (store_free a (seen_at g.uses c.uses)) refl
  target_passes c (Skip place) a h = both_true _ true (tested.bind c (by_arrow a) (Skip place) h) refl
  target_passes c (Literal t) a h = both_true _ true (tested.bind c (by_arrow a) (Literal t) h) refl
  target_passes c (ListPattern qs) a h = both_true _ true (tested.bind c (by_arrow a) (ListPattern qs) h) refl
  target_passes c (StrandPattern qs) a h = both_true _ true (tested.bind c (by_arrow a) (StrandPattern qs) h) refl

  -- without a value on the right
  none_passes : (c : Count) (ss : Steps) → Passes (steps_code g c ss) → Passes (expr_code g c (Value none ss))
  none_passes c no_steps h = and_free i.Nothing [] refl h
  none_passes c (and_steps (Apply d left) ss) h = and_free i.Nothing (steps_code g c (and_steps (Apply d left) ss)) refl h
  none_passes c (and_steps (Assign q a) ss) h = and_free i.Nothing (steps_code g c (and_steps (Assign q a) ss)) refl h
  none_passes c (and_steps (Modify t d) ss) h =
      let at : Count = past c (in_steps ss) in
      let d_code : List Instr = derived_code g (past at (in_token t)) d in
      let s_code : List Instr = d_code ++ load (seen_at g.uses at.uses) ∷ i.Call2 ∷ store arrow.Change (seen_at g.uses at.uses) ∷ [] in
      and_free (load (seen_at g.uses at.uses)) (d_code ++ i.Call1 ∷ store arrow.Change (seen_at g.uses at.uses) ∷ steps_code g c ss) refl
      (all_append test d_code _ (all_front test d_code _ (all_front test s_code (steps_code g c ss) h))
      (and_free i.Call1 (store arrow.Change (seen_at g.uses at.uses) ∷ steps_code g c ss) refl (and_free (store arrow.Change (seen_at g.uses at.uses)) (steps_code g c ss) refl (all_back test s_code (steps_code g c ss) h))))

  mutual
    pub expr_passes : (c : Count) (e : Expr) → EachItem P c (expr_items e) → Passes (expr_code g c e)
    expr_passes c (Value none ss) h = none_passes c ss (steps_pass c ss (each_front P c (steps_items ss) [] h))
    expr_passes c (Value (some x) ss) h = all_append test (part_code g (past c (in_steps ss)) x) (steps_code g c ss) (part_passes (past c (in_steps ss)) x (each_back P c (in_steps ss) (steps_items ss) (part_items x) (steps_counted ss) h)) (steps_pass c ss (each_front P c (steps_items ss) (part_items x) h))
    expr_passes c (Train ts ds) h =
        three (deriveds_code g (past c (in_targets ts)) ds) (atop_code (parts_read ds)) (targets_code g c ts)
        (deriveds_pass (past c (in_targets ts)) ds (each_back P c (in_targets ts) (targets_items ts) (deriveds_items ds) (targets_counted ts) h)) (atop_passes (parts_read ds)) (targets_pass c ts)
    expr_passes c (Modifier ts x) h = all_append test (part_code g (past c (in_targets ts)) x) (targets_code g c ts) (part_passes (past c (in_targets ts)) x (each_back P c (in_targets ts) (targets_items ts) (part_items x) (targets_counted ts) h)) (targets_pass c ts)

    part_passes : (c : Count) (x : Part) → EachItem P c (part_items x) → Passes (part_code g c x)
    part_passes c (Leaf t) h = both_true _ true (tested.leaf c t h.0) refl
    part_passes c (Elements es) h = all_append test (exprs_code g c es) _ (exprs_pass c es h) (and_free (i.List (how_many_exprs es)) [] refl refl)
    part_passes c (Merge es) h = all_append test (exprs_code g c es) _ (exprs_pass c es h) (and_free (i.List (how_many_exprs es)) (i.Given 13 ∷ i.Call1 ∷ []) refl (both_true (test (i.Given 13)) (list_all test (i.Call1 ∷ [])) tested.merge (and_free i.Call1 [] refl refl)))
    part_passes c (Paren e) h = expr_passes c e h
    part_passes c (Block (block place kind bs)) h = and_free (block_instr kind c.blocks) [] (block_free kind c.blocks) refl
    part_passes c (Field base names) h = all_append test (part_code g c base) (fields_code g.names names) (part_passes c base (each_front P c (part_items base) (Fields names ∷ []) h)) (tested.fields (past c (in_part base)) names (each_back P c (in_part base) (part_items base) (Fields names ∷ []) (part_counted base) h).0)
    part_passes c (Strand ps) h = all_append test (parts_code g c ps) _ (parts_pass c ps h) (and_free (i.List (how_many_parts ps)) [] refl refl)
    part_passes c (Nothing place) h = and_free i.Nothing [] refl refl

    steps_pass : (c : Count) (ss : Steps) → EachItem P c (steps_items ss) → Passes (steps_code g c ss)
    steps_pass c no_steps h = refl
    steps_pass c (and_steps s ss) h = all_append test (step_code g (past c (in_steps ss)) s) (steps_code g c ss) (step_passes (past c (in_steps ss)) s (each_back P c (in_steps ss) (steps_items ss) (step_items s) (steps_counted ss) h)) (steps_pass c ss (each_front P c (steps_items ss) (step_items s) h))

    step_passes : (c : Count) (s : Step) → EachItem P c (step_items s) → Passes (step_code g c s)
    step_passes c (Apply d none) h = all_append test (derived_code g c d) _ (derived_passes c d h) (and_free i.Call1 [] refl refl)
    step_passes c (Apply d (some w)) h =
        three (derived_code g (past c (in_part w)) d) (part_code g c w) (i.Call2 ∷ [])
        (derived_passes (past c (in_part w)) d (each_back P c (in_part w) (part_items w) (derived_items d) (part_counted w) h)) (part_passes c w (each_front P c (part_items w) (derived_items d) h)) (and_free i.Call2 [] refl refl)
    step_passes c (Assign q a) h = target_passes c q a h.0
    step_passes c (Modify t d) h =
        all_append test (derived_code g (past c (in_token t)) d) _ (derived_passes (past c (in_token t)) d h.1)
        (and_free (load (seen_at g.uses c.uses)) (i.Call2 ∷ store arrow.Change (seen_at g.uses c.uses) ∷ []) refl (and_free i.Call2 (store arrow.Change (seen_at g.uses c.uses) ∷ []) refl (and_free (store arrow.Change (seen_at g.uses c.uses)) [] refl refl)))

    derived_passes : (c : Count) (d : Derived) → EachItem P c (derived_items d) → Passes (derived_code g c d)
    derived_passes c (derived x us) h =
        three (uses_code g (past c (in_part x)) us) (part_code g c x) (derives us)
        (uses_pass (past c (in_part x)) us (each_back P c (in_part x) (part_items x) (uses_items us) (part_counted x) h)) (part_passes c x (each_front P c (part_items x) (uses_items us) h)) (derives_pass us)

    uses_pass : (c : Count) (us : Uses) → EachItem P c (uses_items us) → Passes (uses_code g c us)
    uses_pass c no_uses h = refl
    uses_pass c (and_uses u us) h = all_append test (uses_code g (past c (in_use u)) us) (use_code g c u) (uses_pass (past c (in_use u)) us (each_back P c (in_use u) (use_items u) (uses_items us) (use_counted u) h)) (use_passes c u (each_front P c (use_items u) (uses_items us) h))

    use_passes : (c : Count) (u : Use) → EachItem P c (use_items u) → Passes (use_code g c u)
    use_passes c (One m) h = part_passes c m h
    use_passes c (Two m x) h = all_append test (part_code g (past c (in_part m)) x) (part_code g c m) (part_passes (past c (in_part m)) x (each_back P c (in_part m) (part_items m) (part_items x) (part_counted m) h)) (part_passes c m (each_front P c (part_items m) (part_items x) h))

    deriveds_pass : (c : Count) (ds : Deriveds) → EachItem P c (deriveds_items ds) → Passes (deriveds_code g c ds)
    deriveds_pass c no_deriveds h = refl
    deriveds_pass c (and_deriveds d ds) h =
        three (deriveds_code g (past c (in_derived d)) ds) (derived_code g c d) (fork_code (parts_read ds))
        (deriveds_pass (past c (in_derived d)) ds (each_back P c (in_derived d) (derived_items d) (deriveds_items ds) (derived_counted d) h)) (derived_passes c d (each_front P c (derived_items d) (deriveds_items ds) h)) (fork_passes (parts_read ds))

    exprs_pass : (c : Count) (es : Exprs) → EachItem P c (exprs_items es) → Passes (exprs_code g c es)
    exprs_pass c no_exprs h = refl
    exprs_pass c (and_exprs e es) h = all_append test (expr_code g c e) (exprs_code g (past c (in_expr e)) es) (expr_passes c e (each_front P c (expr_items e) (exprs_items es) h)) (exprs_pass (past c (in_expr e)) es (each_back P c (in_expr e) (expr_items e) (exprs_items es) (expr_counted e) h))

    parts_pass : (c : Count) (ps : Parts) → EachItem P c (parts_items ps) → Passes (parts_code g c ps)
    parts_pass c no_parts h = refl
    parts_pass c (and_parts x xs) h = all_append test (part_code g c x) (parts_code g (past c (in_part x)) xs) (part_passes c x (each_front P c (part_items x) (parts_items xs) h)) (parts_pass (past c (in_part x)) xs (each_back P c (in_part x) (part_items x) (parts_items xs) (part_counted x) h))

  -- ---- headers

  matched : (push : Instr) (c : Count) (q : Pattern) → is_free push ≡ true → P c (Taken true Defines q) → Passes (push ∷ i.Match c.patterns ∷ [])
  matched push c q f h = and_free push (i.Match c.patterns ∷ []) f (both_true _ true (tested.match c q h) refl)

  named_passes : (push : Instr) (c : Count) (u : Kind) (t : Token) → is_free push ≡ true → EachItem P c (named_items u t) → Passes (named_argument_code u push c.patterns)
  named_passes push c (kind.Special s r) t f h = refl
  named_passes push c u t f h = matched push c (Name t) f h.0

  argument_passes : (push : Instr) (c : Count) (o : Option Pattern) → is_free push ≡ true → EachItem P c (argument_items o) → Passes (argument_code push c.patterns o)
  argument_passes push c None f h = refl
  argument_passes push c (Some (Name t)) f h = named_passes push c t.kind t f h
  argument_passes push c (Some (Skip place)) f h = matched push c (Skip place) f h.0
  argument_passes push c (Some (Literal t)) f h = matched push c (Literal t) f h.0
  argument_passes push c (Some (ListPattern qs)) f h = matched push c (ListPattern qs) f h.0
  argument_passes push c (Some (StrandPattern qs)) f h = matched push c (StrandPattern qs) f h.0

  name_passes : (push : Instr) (at : Seen) (u : Kind) → is_free push ≡ true → Passes (name_code push at u)
  name_passes push at (kind.Word name r) f = and_free push (i.Define at.slot ∷ i.Pop ∷ []) f (and_free (i.Define at.slot) (i.Pop ∷ []) refl (and_free i.Pop [] refl refl))
  name_passes push at u f = refl

  operand_passes : (push : Instr) (at : Seen) (o : Option Token) → is_free push ≡ true → Passes (operand_code push at o)
  operand_passes push at None f = refl
  operand_passes push at (Some t) f = name_passes push at t.kind f

  own_free : (u : Kind) → is_free (own_instr u) ≡ true
  own_free (kind.Word name role.Mod1) = refl
  own_free (kind.Word name role.Mod2) = refl
  own_free u = refl

  header_passes : (c : Count) (o : Option Header) → EachItem P c (header_items o) → Passes (header_code g.uses c o)
  header_passes c None h = refl
  header_passes c (Some x) h =
      let at_operand : Count = past c (in_argument x.left) in
      let at_own : Count = past at_operand (in_operand x.left_operand) in
      let at_right_operand : Count = past at_own (in_token x.own) in
      let at_right : Count = past at_right_operand (in_operand x.right_operand) in
      let behind_own : List Item = operand_items x.right_operand ++ argument_items x.right in
      let behind_left : List Item = operand_items x.left_operand ++ Alone Defines x.own ∷ behind_own in
      let h1 : EachItem P at_operand behind_left = each_back P c (in_argument x.left) (argument_items x.left) behind_left (argument_counted x.left) h in
      let h2 : EachItem P at_own (Alone Defines x.own ∷ behind_own) = each_back P at_operand (in_operand x.left_operand) (operand_items x.left_operand) (Alone Defines x.own ∷ behind_own) (operand_counted x.left_operand) h1 in
      let h3 : EachItem P at_right (argument_items x.right) = each_back P at_right_operand (in_operand x.right_operand) (operand_items x.right_operand) (argument_items x.right) (operand_counted x.right_operand) h2.1 in
      let left : List Instr = argument_code i.Left c.patterns x.left in
      let left_operand : List Instr = operand_code i.LeftOperand (seen_at g.uses at_operand.uses) x.left_operand in
      let own : List Instr = name_code (own_instr x.own.kind) (seen_at g.uses at_own.uses) x.own.kind in
      let right_operand : List Instr = operand_code i.RightOperand (seen_at g.uses at_right_operand.uses) x.right_operand in
      let right : List Instr = argument_code i.Right at_right.patterns x.right in
      three (left ++ left_operand ++ own) right_operand right
      (three left left_operand own
      (argument_passes i.Left c x.left refl (each_front P c (argument_items x.left) behind_left h))
      (operand_passes i.LeftOperand (seen_at g.uses at_operand.uses) x.left_operand refl)
      (name_passes (own_instr x.own.kind) (seen_at g.uses at_own.uses) x.own.kind (own_free x.own.kind)))
      (operand_passes i.RightOperand (seen_at g.uses at_right_operand.uses) x.right_operand refl)
      (argument_passes i.Right at_right x.right refl h3)

  -- ---- statements and bodies

  end_passes : (b : Bool) → Passes (end_code b)
  end_passes true = and_free i.Space [] refl refl
  end_passes false = and_free i.Nothing (i.Return ∷ []) refl (and_free i.Return [] refl refl)

  last_passes : (b : Bool) → Passes (last_code b)
  last_passes true = and_free i.Pop (i.Space ∷ []) refl (and_free i.Space [] refl refl)
  last_passes false = and_free i.Return [] refl refl

  eval_passes : (b : Bool) (c : Count) (e : Expr) (ss : Stmts) → Passes (expr_code g c e) → Passes (stmts_code g b (past c (in_stmt (Eval e))) ss) → Passes (stmts_code g b c (and_stmts (Eval e) ss))
  eval_passes b c e no_stmts h k = all_append test (expr_code g c e) (last_code b) h (last_passes b)
  eval_passes b c e (and_stmts s ss) h k = all_append test (expr_code g c e) _ h (and_free i.Pop (stmts_code g b (past c (in_stmt (Eval e))) (and_stmts s ss)) refl k)

  stmts_pass : (b : Bool) (c : Count) (ss : Stmts) → EachItem P c (stmts_items ss) → Passes (stmts_code g b c ss)
  stmts_pass b c no_stmts h = end_passes b
  stmts_pass b c (and_stmts (Eval e) ss) h = eval_passes b c e ss (expr_passes c e (each_front P c (expr_items e) (stmts_items ss) h)) (stmts_pass b (past c (in_expr e)) ss (each_back P c (in_expr e) (expr_items e) (stmts_items ss) (expr_counted e) h))
  stmts_pass b c (and_stmts (Predicate e) ss) h = all_append test (expr_code g c e) _ (expr_passes c e (each_front P c (expr_items e) (stmts_items ss) h)) (and_free i.Check (stmts_code g b (past c (in_stmt (Predicate e))) ss) refl (stmts_pass b (past c (in_expr e)) ss (each_back P c (in_expr e) (expr_items e) (stmts_items ss) (expr_counted e) h)))
  stmts_pass b c (and_stmts (Export q) ss) h = stmts_pass b c ss (each_at P (past c nothing) c (stmts_items ss) (past-nothing c) h.1)

  pub body_passes : (own : BodyNames) (calls : Calls) (c : Count) (x : BodyTree) → EachItem P c (body_items x) → Passes (body_code g own calls c x).code
  body_passes own calls c (body h ss) e =
      all_append test (header_code g.uses c h) _ (header_passes c h (each_front P c (header_items h) (stmts_items ss) e))
      (stmts_pass (stmts_export ss) (past c (in_header h)) ss (each_back P c (in_header h) (header_items h) (stmts_items ss) (header_counted h) e))
