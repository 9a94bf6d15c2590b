-- The instructions of expressions and statements pass a test that the special names in them pass.
use Rattle.std.proofs.Common.{◌≡◌, ℕ, Bool, true, false, List, [], ◌∷◌, ◌++◌, position, Option, Some, None, refl}
use Rattle.std.specs.List.{list_all}
use Rattle.bqn_base.specs.declared.role.Role.{Role}
use Rattle.bqn_base.specs.declared.role.Role.TheVariants as role
use Rattle.bqn_syntax.specs.declared.token.Kind.{Kind}
use Rattle.bqn_syntax.specs.declared.token.Kind.TheVariants as kind
use Rattle.bqn_syntax.specs.declared.token.Special.{Special}
use Rattle.bqn_syntax.specs.declared.token.Special.TheVariants as special
use Rattle.bqn_syntax.specs.declared.token.Token.{Token}
use Rattle.bqn_syntax.specs.declared.tree.Arrow.{Arrow}
use Rattle.bqn_syntax.specs.declared.tree.Arrow.TheVariants as arrow
use Rattle.bqn_syntax.specs.declared.tree.Class.{Class}
use Rattle.bqn_syntax.specs.declared.tree.Class.TheVariants as class
use Rattle.bqn_syntax.specs.grammar.Trees.{Pattern, Name, Skip, Literal, ListPattern, StrandPattern, Expr, Value, Train, Modifier, Use, One, Two, Part, Leaf, Elements, Merge, Paren, Block as Braces, Field, Strand, Nothing, Step, Apply, Assign, Modify, Eval, Predicate, Export, block, Derived, derived, none, some, Exprs, no_exprs, and_exprs, Uses, no_uses, and_uses, Parts, no_parts, and_parts, Steps, no_steps, and_steps, Stmts, no_stmts, and_stmts, Deriveds, no_deriveds, and_deriveds}
use Rattle.bqn_syntax.specs.grammar.Classes as seen
use Rattle.bqn_syntax.specs.grammar.Classes.{Seen, and, has_predicate}
use Rattle.bqn_syntax.specs.scope.Scope as scope
use Rattle.bqn_syntax.specs.scope.Scope.{same_name, system_names}
use Rattle.bqn_code.specs.declared.instr.Instr.{Instr}
use Rattle.bqn_code.specs.declared.instr.Instr.TheVariants as i
use Rattle.bqn_compile.specs.declared.count.Count.{Count}
use Rattle.bqn_compile.specs.declared.read.Read.{Read}
use Rattle.bqn_compile.specs.declared.read.Read.TheVariants as read
use Rattle.bqn_compile.specs.Counting.{past, in_token, in_targets, in_stmt}
use Rattle.bqn_compile.specs.Expressions.{Setting, load, store, special_instr, system_instr, leaf_instr, block_instr, fields_code, target_instr, targets_code, parts_read, fork_code, atop_code, how_many_exprs, how_many_parts, derive_instr, derives, expr_code, part_code, steps_code, step_code, derived_code, uses_code, use_code, deriveds_code, exprs_code, parts_code}
use Rattle.bqn_compile.specs.Bodies.{end_code, last_code, stmts_code}
use Rattle.bqn_compile.proofs.verified.Tests.{both_true, all_append, or_left, or_right}

-- what needs nothing of the block, and never goes to a next body
abbrev pub is_common : Instr → Bool
is_common i.Left = false
is_common i.Right = false
is_common i.Own = false
is_common i.LeftOperand = false
is_common i.RightOperand = false
is_common i.Modifier = false
is_common (i.Match p) = false
is_common i.Check = false
is_common _ = true

-- what the special names that occur push passes
pub record SeenPass (test : Instr → Bool) (s : Seen) : Type 0 where
  pub args : s.args ≡ true → (test i.Left ≡ true) × (test i.Right ≡ true) × (test i.Own ≡ true)
  pub one : s.one ≡ true → (test i.LeftOperand ≡ true) × (test i.Modifier ≡ true)
  pub one_self : s.one_self ≡ true → test i.Modifier ≡ true
  pub two : s.two ≡ true → (test i.RightOperand ≡ true) × (test i.Modifier ≡ true)

pass_left : (test : Instr → Bool) (s r : Seen) → SeenPass test (and s r) → SeenPass test s
pass_left test s r h = record { args = λ e. h.args (or_left s.args r.args e); one = λ e. h.one (or_left s.one r.one e); one_self = λ e. h.one_self (or_left s.one_self r.one_self e); two = λ e. h.two (or_left s.two r.two e) }

pass_right : (test : Instr → Bool) (s r : Seen) → SeenPass test (and s r) → SeenPass test r
pass_right test s r h = record { args = λ e. h.args (or_right s.args r.args e); one = λ e. h.one (or_right s.one r.one e); one_self = λ e. h.one_self (or_right s.one_self r.one_self e); two = λ e. h.two (or_right s.two r.two e) }

-- each of these instructions passes
pub record Passes (test : Instr → Bool) (is : List Instr) : Type 0 where
  pub all : list_all test is ≡ true

pub none_all : {test : Instr → Bool} → Passes test []
none_all = record { all = refl }

pub then_all : {test : Instr → Bool} {xs ys : List Instr} → Passes test xs → Passes test ys → Passes test (xs ++ ys)
then_all {test} {xs} {ys} h k = record { all = all_append test xs ys h.all k.all }

pub lone : {test : Instr → Bool} {xs : List Instr} (x : Instr) → test x ≡ true → Passes test xs → Passes test (x ∷ xs)
lone {test} {xs} x e h = record { all = both_true (test x) (list_all test xs) e h.all }

module _ (test : Instr → Bool) (common : (x : Instr) → is_common x ≡ true → test x ≡ true) where
  and_then : {xs : List Instr} (x : Instr) → is_common x ≡ true → Passes test xs → Passes test (x ∷ xs)
  and_then x e h = lone x (common x e) h

  one : (x : Instr) → is_common x ≡ true → Passes test (x ∷ [])
  one x e = and_then x e none_all

  -- ---- single instructions

  store_common : (a : Arrow) (at : scope.Seen) → is_common (store a at) ≡ true
  store_common arrow.Define at = refl
  store_common arrow.Export at = refl
  store_common arrow.Change at = refl

  modifier_passes : (r : Role) → SeenPass test (seen.seen_in_kind (kind.Special special.Modifier r)) → test i.Modifier ≡ true
  modifier_passes role.Subject h = (h.one refl).1
  modifier_passes role.Function h = (h.one refl).1
  modifier_passes role.Mod1 h = h.one_self refl
  modifier_passes role.Mod2 h = (h.two refl).1

  special_passes : (s : Special) (r : Role) → SeenPass test (seen.seen_in_kind (kind.Special s r)) → test (special_instr s) ≡ true
  special_passes special.Left r h = (h.args refl).0
  special_passes special.Right r h = (h.args refl).1
  special_passes special.Own r h = (h.args refl).2
  special_passes special.LeftOperand r h = (h.one refl).0
  special_passes special.RightOperand r h = (h.two refl).0
  special_passes special.Modifier r h = modifier_passes r h

  system_common : (k : Option ℕ) → is_common (system_instr k) ≡ true
  system_common None = refl
  system_common (Some n) = refl

  leaf_passes : (g : Setting) (k : ℕ) (x : Kind) → SeenPass test (seen.seen_in_kind x) → test (leaf_instr g k x) ≡ true
  leaf_passes g k (kind.Word name r) h = common (leaf_instr g k (kind.Word name r)) refl
  leaf_passes g k (kind.Special s r) h = special_passes s r h
  leaf_passes g k (kind.System name r) h = common (leaf_instr g k (kind.System name r)) (system_common (position (λ other. same_name other name) system_names))
  leaf_passes g k (kind.Given code) h = common (i.Given code) refl
  leaf_passes g k (kind.Number z) h = common (leaf_instr g k (kind.Number z)) refl
  leaf_passes g k (kind.Char c) h = common (leaf_instr g k (kind.Char c)) refl
  leaf_passes g k (kind.Text cs) h = common (leaf_instr g k (kind.Text cs)) refl
  leaf_passes g k (kind.Punct c) h = common i.Nothing refl

  block_common : (c : Class) (b : ℕ) → is_common (block_instr c b) ≡ true
  block_common class.Immediate b = refl
  block_common class.Function b = refl
  block_common class.Mod1 b = refl
  block_common class.Mod1Deferred b = refl
  block_common class.Mod2 b = refl
  block_common class.Mod2Deferred b = refl

  fields_pass : (names : List (List ℕ)) (ts : List Token) → Passes test (fields_code names ts)
  fields_pass names [] = none_all
  fields_pass names (t ∷ ts) = and_then _ refl (fields_pass names ts)

  target_common : (g : Setting) (c : Count) (q : Pattern) (a : Arrow) → is_common (target_instr g c q a) ≡ true
  target_common g c (Name t) a = store_common a _
  target_common g c (Skip place) a = refl
  target_common g c (Literal t) a = refl
  target_common g c (ListPattern qs) a = refl
  target_common g c (StrandPattern qs) a = refl

  targets_pass : (g : Setting) (c : Count) (ts : List (Token × Arrow)) → Passes test (targets_code g c ts)
  targets_pass g c [] = none_all
  targets_pass g c (t ∷ ts) = then_all (targets_pass g (past c (in_token t.0)) ts) (one _ (store_common t.1 _))

  fork_passes : (r : Read) → Passes test (fork_code r)
  fork_passes read.No = none_all
  fork_passes read.One = none_all
  fork_passes read.Two = one i.Train3 refl

  atop_passes : (r : Read) → Passes test (atop_code r)
  atop_passes read.No = none_all
  atop_passes read.One = none_all
  atop_passes read.Two = one i.Train2 refl

  derive_common : (u : Use) → is_common (derive_instr u) ≡ true
  derive_common (One m) = refl
  derive_common (Two m x) = refl

  derives_pass : (us : Uses) → Passes test (derives us)
  derives_pass no_uses = none_all
  derives_pass (and_uses u us) = and_then (derive_instr u) (derive_common u) (derives_pass us)

  -- ---- expressions

  module _ (g : Setting) where
    mutual
      pub expr_passes : (c : Count) (e : Expr) → SeenPass test (seen.seen_in_expr e) → Passes test (expr_code g c e)
      expr_passes c (Value none (and_steps (Modify t d) ss)) h =
          let k : SeenPass test (seen.seen_in_steps (and_steps (Modify t d) ss)) = pass_right test (seen.seen_in_maybe none) (seen.seen_in_steps (and_steps (Modify t d) ss)) h in
          and_then (load _) refl
          (then_all (derived_passes _ d (pass_left test (seen.seen_in_derived d) (seen.seen_in_steps ss) k))
          (and_then i.Call1 refl (and_then (store arrow.Change _) refl (steps_pass c ss (pass_right test (seen.seen_in_derived d) (seen.seen_in_steps ss) k)))))
      expr_passes c (Value none (and_steps (Apply d left) ss)) h = and_then i.Nothing refl (steps_pass c (and_steps (Apply d left) ss) (pass_right test (seen.seen_in_maybe none) (seen.seen_in_steps (and_steps (Apply d left) ss)) h))
      expr_passes c (Value none (and_steps (Assign q a) ss)) h = and_then i.Nothing refl (steps_pass c (and_steps (Assign q a) ss) (pass_right test (seen.seen_in_maybe none) (seen.seen_in_steps (and_steps (Assign q a) ss)) h))
      expr_passes c (Value none no_steps) h = one i.Nothing refl
      expr_passes c (Value (some x) ss) h = then_all (part_passes _ x (pass_left test (seen.seen_in_part x) (seen.seen_in_steps ss) h)) (steps_pass c ss (pass_right test (seen.seen_in_part x) (seen.seen_in_steps ss) h))
      expr_passes c (Train targets ds) h =
          then_all
          (then_all (deriveds_pass (past c (in_targets targets)) ds h) (atop_passes (parts_read ds)))
          (targets_pass g c targets)
      expr_passes c (Modifier targets x) h = then_all (part_passes (past c (in_targets targets)) x h) (targets_pass g c targets)

      part_passes : (c : Count) (x : Part) → SeenPass test (seen.seen_in_part x) → Passes test (part_code g c x)
      part_passes c (Leaf t) h = lone (leaf_instr g c.uses t.kind) (leaf_passes g c.uses t.kind h) none_all
      part_passes c (Elements es) h = then_all (exprs_pass c es h) (one (i.List (how_many_exprs es)) refl)
      part_passes c (Merge es) h = then_all (exprs_pass c es h) (and_then (i.List (how_many_exprs es)) refl (and_then (i.Given 13) refl (one i.Call1 refl)))
      part_passes c (Paren e) h = expr_passes c e h
      part_passes c (Braces (block place kind bs)) h = one (block_instr kind c.blocks) (block_common kind c.blocks)
      part_passes c (Field base names) h = then_all (part_passes c base h) (fields_pass g.names names)
      part_passes c (Strand ps) h = then_all (parts_pass c ps h) (one (i.List (how_many_parts ps)) refl)
      part_passes c (Nothing place) h = one i.Nothing refl

      steps_pass : (c : Count) (ss : Steps) → SeenPass test (seen.seen_in_steps ss) → Passes test (steps_code g c ss)
      steps_pass c no_steps h = none_all
      steps_pass c (and_steps s ss) h = then_all (step_passes _ s (pass_left test (seen.seen_in_step s) (seen.seen_in_steps ss) h)) (steps_pass c ss (pass_right test (seen.seen_in_step s) (seen.seen_in_steps ss) h))

      step_passes : (c : Count) (s : Step) → SeenPass test (seen.seen_in_step s) → Passes test (step_code g c s)
      step_passes c (Apply d none) h = then_all (derived_passes c d (pass_left test (seen.seen_in_derived d) (seen.seen_in_maybe none) h)) (one i.Call1 refl)
      step_passes c (Apply d (some w)) h =
          then_all
          (then_all (derived_passes _ d (pass_left test (seen.seen_in_derived d) (seen.seen_in_part w) h)) (part_passes c w (pass_right test (seen.seen_in_derived d) (seen.seen_in_part w) h)))
          (one i.Call2 refl)
      step_passes c (Assign q a) h = one (target_instr g c q a) (target_common g c q a)
      step_passes c (Modify t d) h = then_all (derived_passes _ d h) (and_then (load _) refl (and_then i.Call2 refl (one (store arrow.Change _) refl)))

      derived_passes : (c : Count) (d : Derived) → SeenPass test (seen.seen_in_derived d) → Passes test (derived_code g c d)
      derived_passes c (derived x us) h =
          then_all
          (then_all (uses_pass _ us (pass_right test (seen.seen_in_part x) (seen.seen_in_uses us) h)) (part_passes c x (pass_left test (seen.seen_in_part x) (seen.seen_in_uses us) h)))
          (derives_pass us)

      uses_pass : (c : Count) (us : Uses) → SeenPass test (seen.seen_in_uses us) → Passes test (uses_code g c us)
      uses_pass c no_uses h = none_all
      uses_pass c (and_uses u us) h = then_all (uses_pass _ us (pass_right test (seen.seen_in_use u) (seen.seen_in_uses us) h)) (use_passes c u (pass_left test (seen.seen_in_use u) (seen.seen_in_uses us) h))

      use_passes : (c : Count) (u : Use) → SeenPass test (seen.seen_in_use u) → Passes test (use_code g c u)
      use_passes c (One m) h = part_passes c m h
      use_passes c (Two m x) h = then_all (part_passes _ x (pass_right test (seen.seen_in_part m) (seen.seen_in_part x) h)) (part_passes c m (pass_left test (seen.seen_in_part m) (seen.seen_in_part x) h))

      deriveds_pass : (c : Count) (ds : Deriveds) → SeenPass test (seen.seen_in_deriveds ds) → Passes test (deriveds_code g c ds)
      deriveds_pass c no_deriveds h = none_all
      deriveds_pass c (and_deriveds d ds) h =
          then_all
          (then_all (deriveds_pass _ ds (pass_right test (seen.seen_in_derived d) (seen.seen_in_deriveds ds) h)) (derived_passes c d (pass_left test (seen.seen_in_derived d) (seen.seen_in_deriveds ds) h)))
          (fork_passes (parts_read ds))

      exprs_pass : (c : Count) (es : Exprs) → SeenPass test (seen.seen_in_exprs es) → Passes test (exprs_code g c es)
      exprs_pass c no_exprs h = none_all
      exprs_pass c (and_exprs e es) h = then_all (expr_passes c e (pass_left test (seen.seen_in_expr e) (seen.seen_in_exprs es) h)) (exprs_pass _ es (pass_right test (seen.seen_in_expr e) (seen.seen_in_exprs es) h))

      parts_pass : (c : Count) (xs : Parts) → SeenPass test (seen.seen_in_parts xs) → Passes test (parts_code g c xs)
      parts_pass c no_parts h = none_all
      parts_pass c (and_parts x xs) h = then_all (part_passes c x (pass_left test (seen.seen_in_part x) (seen.seen_in_parts xs) h)) (parts_pass _ xs (pass_right test (seen.seen_in_part x) (seen.seen_in_parts xs) h))

    -- ---- statements

    end_passes : (exports : Bool) → Passes test (end_code exports)
    end_passes true = one i.Space refl
    end_passes false = and_then i.Nothing refl (one i.Return refl)

    last_passes : (exports : Bool) → Passes test (last_code exports)
    last_passes true = and_then i.Pop refl (one i.Space refl)
    last_passes false = one i.Return refl

    pub stmts_pass : (exports : Bool) (c : Count) (ss : Stmts) → SeenPass test (seen.seen_in_stmts ss) → (has_predicate ss ≡ true → test i.Check ≡ true) → Passes test (stmts_code g exports c ss)
    stmts_pass exports c no_stmts h check = end_passes exports
    stmts_pass exports c (and_stmts (Eval e) no_stmts) h check = then_all (expr_passes c e (pass_left test (seen.seen_in_expr e) seen.nothing h)) (last_passes exports)
    stmts_pass exports c (and_stmts (Eval e) (and_stmts s ss)) h check =
        then_all (expr_passes c e (pass_left test (seen.seen_in_expr e) (seen.seen_in_stmts (and_stmts s ss)) h))
        (and_then i.Pop refl (stmts_pass exports (past c (in_stmt (Eval e))) (and_stmts s ss) (pass_right test (seen.seen_in_expr e) (seen.seen_in_stmts (and_stmts s ss)) h) check))
    stmts_pass exports c (and_stmts (Predicate e) ss) h check =
        then_all (expr_passes c e (pass_left test (seen.seen_in_expr e) (seen.seen_in_stmts ss) h))
        (lone i.Check (check refl) (stmts_pass exports (past c (in_stmt (Predicate e))) ss (pass_right test (seen.seen_in_expr e) (seen.seen_in_stmts ss) h) (λ p. check refl)))
    stmts_pass exports c (and_stmts (Export q) ss) h check = stmts_pass exports c ss (pass_right test seen.nothing (seen.seen_in_stmts ss) h) check
