-- The code of an expression puts one value on the stack.
use Rattle.std.proofs.Common.{◌≡◌, ◌≤◌, ℕ, suc, ◌+◌, ◌-◌, ◌&&◌, Bool, true, false, nat_le, List, [], ◌∷◌, ◌++◌, position, Option, Some, None, arith, refl, sym, ap, ◌∙◌, append_assoc}
use Rattle.std.proofs.lemmas.Bool.{true≢false, false≢true, le-leb}
use Rattle.bqn_syntax.specs.declared.token.Kind.{Kind}
use Rattle.bqn_syntax.specs.declared.token.Kind.TheVariants as kind
use Rattle.bqn_syntax.specs.declared.token.Special.{Special}
use Rattle.bqn_syntax.specs.declared.token.Special.TheVariants as special
use Rattle.bqn_syntax.specs.declared.token.Token.{Token}
use Rattle.bqn_syntax.specs.declared.tree.Arrow.{Arrow}
use Rattle.bqn_syntax.specs.declared.tree.Arrow.TheVariants as arrow
use Rattle.bqn_syntax.specs.declared.tree.Class.{Class}
use Rattle.bqn_syntax.specs.declared.tree.Class.TheVariants as class
use Rattle.bqn_syntax.specs.grammar.Trees.{Pattern, Name, Skip, Literal, ListPattern, StrandPattern, Expr, Value, Train, Modifier, Use, One, Two, Part, Leaf, Elements, Merge, Paren, Block as Braces, Field, Strand, Nothing, Step, Apply, Assign, Modify, block, Derived, derived, none, some, Exprs, no_exprs, and_exprs, Uses, no_uses, and_uses, Parts, no_parts, and_parts, Steps, no_steps, and_steps, Deriveds, no_deriveds, and_deriveds}
use Rattle.bqn_syntax.specs.grammar.Well.{WellExpr, WellPart, WellSteps, WellStep, WellDerived, WellUses, WellUse, WellDeriveds, WellExprs, WellParts}
use Rattle.bqn_syntax.specs.scope.Scope.{Seen, same_name, system_names}
use Rattle.bqn_code.specs.declared.constant.Const.{Const}
use Rattle.bqn_code.specs.declared.instr.Instr.{Instr}
use Rattle.bqn_code.specs.declared.instr.Instr.TheVariants as i
use Rattle.bqn_code.specs.Heights.{takes, gives, is_last, is_balanced}
use Rattle.bqn_compile.specs.declared.count.Count.{Count}
use Rattle.bqn_compile.specs.declared.read.Read.{Read}
use Rattle.bqn_compile.specs.declared.read.Read.TheVariants as read
use Rattle.bqn_compile.specs.Counting.{past, in_token, in_targets}
use Rattle.bqn_compile.specs.Expressions.{Setting, load, store, special_instr, system_instr, literal_instr, leaf_instr, block_instr, fields_code, target_instr, targets_code, and_one, parts_read, fork_code, atop_code, how_many_exprs, how_many_parts, derive_instr, derives, expr_code, part_code, steps_code, step_code, derived_code, uses_code, use_code, deriveds_code, exprs_code, parts_code}

-- This code takes so many values from the stack and leaves so many there, whatever stands below them and behind it.
pub record Turns (from to : ℕ) (is : List Instr) : Type 0 where
  pub at : (h : ℕ) (rest : List Instr) → is_balanced (from + h) (is ++ rest) ≡ is_balanced (to + h) rest

-- ---- how code is put together

pub turns_none : (n : ℕ) → Turns n n []
turns_none n = record { at = λ h rest. refl }

pub turns_append : {n m l : ℕ} {xs ys : List Instr} → Turns n m xs → Turns m l ys → Turns n l (xs ++ ys)
turns_append {n} {m} {l} {xs} {ys} first next = record { at = λ h rest. ap (λ (is : List Instr). is_balanced (n + h) is) (append_assoc xs ys rest) ∙ (first.at h (ys ++ rest) ∙ next.at h rest) }

-- above others
pub turns_above : {n m : ℕ} {xs : List Instr} (k a b : ℕ) → a ≡ n + k → b ≡ m + k → Turns n m xs → Turns a b xs
turns_above {n} {m} {xs} k a b p q t =
    record { at = λ h rest. ap (λ (j : ℕ). is_balanced j (xs ++ rest)) (above a n h p) ∙ (t.at (k + h) rest ∙ ap (λ (j : ℕ). is_balanced j rest) (sym (above b m h q))) }
  where
    above : (a n h : ℕ) → a ≡ n + k → a + h ≡ n + (k + h)
    above a n h p = omega (arith, p)

pick : (l m t s : Bool) → l ≡ false → m ≡ true → (elim l [ true ↦ t | false ↦ m && s ]) ≡ s
pick true m t s p q = absurd (true≢false p)
pick false true t s p q = refl
pick false false t s p q = absurd (false≢true q)

-- one instruction that is not the last
pub turns_one : (x : Instr) (n m : ℕ) → is_last x ≡ false → takes x ≤ n → m + takes x ≡ n + gives x → Turns n m (x ∷ [])
turns_one x n m p q e = record { at = λ h rest. pick (is_last x) (nat_le (takes x) (n + h)) _ (is_balanced (n + h - takes x + gives x) rest) p (le-leb (takes x) (n + h) (below h)) ∙ ap (λ (j : ℕ). is_balanced j rest) (left h) }
  where
    below : (h : ℕ) → takes x ≤ n + h
    below h = omega (arith, q)

    left : (h : ℕ) → n + h - takes x + gives x ≡ m + h
    left h = omega (arith, q, e)

-- an instruction that takes nothing and leaves one value
pub pushes : (x : Instr) → is_last x ≡ false → takes x ≡ 0 → gives x ≡ 1 → Turns 0 1 (x ∷ [])
pushes x p q e = turns_one x 0 1 p (omega (arith, q)) (omega (arith, q, e))

-- an instruction that takes one value and leaves one
pub keeps : (x : Instr) → is_last x ≡ false → takes x ≡ 1 → gives x ≡ 1 → Turns 1 1 (x ∷ [])
keeps x p q e = turns_one x 1 1 p (omega (arith, q)) (omega (arith, q, e))

-- ---- single instructions

load_turns : (at : Seen) → Turns 0 1 (load at ∷ [])
load_turns at = pushes (load at) refl refl refl

store_turns : (a : Arrow) (at : Seen) → Turns 1 1 (store a at ∷ [])
store_turns arrow.Define at = keeps (store arrow.Define at) refl refl refl
store_turns arrow.Export at = keeps (store arrow.Export at) refl refl refl
store_turns arrow.Change at = keeps (store arrow.Change at) refl refl refl

pub special_turns : (s : Special) → Turns 0 1 (special_instr s ∷ [])
special_turns special.Left = pushes i.Left refl refl refl
special_turns special.Right = pushes i.Right refl refl refl
special_turns special.Own = pushes i.Own refl refl refl
special_turns special.LeftOperand = pushes i.LeftOperand refl refl refl
special_turns special.RightOperand = pushes i.RightOperand refl refl refl
special_turns special.Modifier = pushes i.Modifier refl refl refl

system_turns : (k : Option ℕ) → Turns 0 1 (system_instr k ∷ [])
system_turns None = pushes i.Nothing refl refl refl
system_turns (Some n) = pushes (i.Given (64 + n)) refl refl refl

literal_turns : (constants : List Const) (c : Option Const) → Turns 0 1 (literal_instr constants c ∷ [])
literal_turns constants None = pushes i.Nothing refl refl refl
literal_turns constants (Some c) = pushes (literal_instr constants (Some c)) refl refl refl

leaf_turns : (g : Setting) (k : ℕ) (x : Kind) → Turns 0 1 (leaf_instr g k x ∷ [])
leaf_turns g k (kind.Word name r) = pushes (leaf_instr g k (kind.Word name r)) refl refl refl
leaf_turns g k (kind.Special s r) = special_turns s
leaf_turns g k (kind.System name r) = system_turns (position (λ other. same_name other name) system_names)
leaf_turns g k (kind.Given code) = pushes (i.Given code) refl refl refl
leaf_turns g k (kind.Number z) = pushes (leaf_instr g k (kind.Number z)) refl refl refl
leaf_turns g k (kind.Char c) = pushes (leaf_instr g k (kind.Char c)) refl refl refl
leaf_turns g k (kind.Text cs) = pushes (leaf_instr g k (kind.Text cs)) refl refl refl
leaf_turns g k (kind.Punct c) = pushes i.Nothing refl refl refl

block_turns : (c : Class) (b : ℕ) → Turns 0 1 (block_instr c b ∷ [])
block_turns class.Immediate b = pushes (i.Run b) refl refl refl
block_turns class.Function b = pushes (i.Block b) refl refl refl
block_turns class.Mod1 b = pushes (i.Block b) refl refl refl
block_turns class.Mod1Deferred b = pushes (i.Block b) refl refl refl
block_turns class.Mod2 b = pushes (i.Block b) refl refl refl
block_turns class.Mod2Deferred b = pushes (i.Block b) refl refl refl

call1_turns : Turns 2 1 (i.Call1 ∷ [])
call1_turns = turns_one i.Call1 2 1 refl (omega arith) refl

call2_turns : Turns 3 1 (i.Call2 ∷ [])
call2_turns = turns_one i.Call2 3 1 refl (omega arith) refl

list_turns : (n : ℕ) → Turns n 1 (i.List n ∷ [])
list_turns n = turns_one (i.List n) n 1 refl (omega arith) (omega arith)

fields_turns : (names : List (List ℕ)) (ts : List Token) → Turns 1 1 (fields_code names ts)
fields_turns names [] = turns_none 1
fields_turns names (t ∷ ts) = turns_append (keeps (i.Field _) refl refl refl) (fields_turns names ts)

target_turns : (g : Setting) (c : Count) (q : Pattern) (a : Arrow) → Turns 1 1 (target_instr g c q a ∷ [])
target_turns g c (Name t) a = store_turns a _
target_turns g c (Skip place) a = keeps (i.Bind c.patterns) refl refl refl
target_turns g c (Literal t) a = keeps (i.Bind c.patterns) refl refl refl
target_turns g c (ListPattern qs) a = keeps (i.Bind c.patterns) refl refl refl
target_turns g c (StrandPattern qs) a = keeps (i.Bind c.patterns) refl refl refl

targets_turns : (g : Setting) (c : Count) (ts : List (Token × Arrow)) → Turns 1 1 (targets_code g c ts)
targets_turns g c [] = turns_none 1
targets_turns g c (t ∷ ts) = turns_append (targets_turns g (past c (in_token t.0)) ts) (store_turns t.1 _)

-- ---- trains

-- how many values are on the stack where so many parts are read
abbrev held : Read → ℕ
held read.No = 0
held read.One = 1
held read.Two = 2

fork_turns : (r : Read) {xs ys : List Instr} → Turns 0 (held r) xs → Turns 0 1 ys → Turns 0 (held (and_one r)) ((xs ++ ys) ++ fork_code r)
fork_turns read.No t u = turns_append (turns_append t u) (turns_none 1)
fork_turns read.One t u = turns_append (turns_append t (turns_above 1 1 2 refl refl u)) (turns_none 2)
fork_turns read.Two t u = turns_append (turns_append t (turns_above 2 2 3 refl refl u)) (turns_one i.Train3 3 1 refl (omega arith) refl)

atop_turns : (r : Read) → Turns (held (and_one r)) 1 (atop_code (and_one r))
atop_turns read.No = turns_none 1
atop_turns read.One = turns_one i.Train2 2 1 refl (omega arith) refl
atop_turns read.Two = turns_none 1

-- ---- modifiers

abbrev in_use_held : Use → ℕ
in_use_held (One m) = 1
in_use_held (Two m x) = 2

-- how many values the modifiers and their operands are
abbrev uses_held : Uses → ℕ
uses_held no_uses = 0
uses_held (and_uses u us) = uses_held us + in_use_held u

derive_turns : (k : ℕ) (u : Use) → Turns ((k + in_use_held u) + 1) (k + 1) (derive_instr u ∷ [])
derive_turns k (One m) = turns_one i.Derive1 ((k + 1) + 1) (k + 1) refl (omega arith) (omega arith)
derive_turns k (Two m x) = turns_one i.Derive2 ((k + 2) + 1) (k + 1) refl (omega arith) (omega arith)

derives_turns : (us : Uses) → Turns (uses_held us + 1) 1 (derives us)
derives_turns no_uses = turns_none 1
derives_turns (and_uses u us) = turns_append (derive_turns (uses_held us) u) (derives_turns us)

-- ---- expressions

module _ (g : Setting) where
  mutual
    pub expr_turns : (c : Count) (e : Expr) → WellExpr e → Turns 0 1 (expr_code g c e)
    expr_turns c (Value none (and_steps (Modify t d) ss)) h =
        turns_append (load_turns _)
        (turns_append (turns_above 1 1 2 refl refl (derived_turns _ d h.1.0.3))
        (turns_append call1_turns (turns_append (store_turns arrow.Change _) (steps_turns c ss h.1.1))))
    expr_turns c (Value none (and_steps (Apply d left) ss)) h = turns_append (pushes i.Nothing refl refl refl) (steps_turns c (and_steps (Apply d left) ss) h.1)
    expr_turns c (Value none (and_steps (Assign q a) ss)) h = turns_append (pushes i.Nothing refl refl refl) (steps_turns c (and_steps (Assign q a) ss) h.1)
    expr_turns c (Value none no_steps) h = turns_append (pushes i.Nothing refl refl refl) (turns_none 1)
    expr_turns c (Value (some x) ss) h = turns_append (part_turns _ x h.1) (steps_turns c ss h.2)
    expr_turns c (Train targets no_deriveds) h = absurd h.1
    expr_turns c (Train targets (and_deriveds d ds)) h =
        turns_append (turns_append (deriveds_turns (past c (in_targets targets)) (and_deriveds d ds) h.3) (atop_turns (parts_read ds))) (targets_turns g c targets)
    expr_turns c (Modifier targets x) h = turns_append (part_turns _ x h.2) (targets_turns g c targets)

    pub part_turns : (c : Count) (x : Part) → WellPart x → Turns 0 1 (part_code g c x)
    part_turns c (Leaf t) h = leaf_turns g c.uses t.kind
    part_turns c (Elements es) h = turns_append (exprs_turns c es h) (list_turns (how_many_exprs es))
    part_turns c (Merge es) h = turns_append (exprs_turns c es h.1) (turns_append (list_turns (how_many_exprs es)) (turns_append (turns_above 1 1 2 refl refl (pushes (i.Given 13) refl refl refl)) call1_turns))
    part_turns c (Paren e) h = expr_turns c e h
    part_turns c (Braces (block place kind bs)) h = block_turns kind c.blocks
    part_turns c (Field base names) h = turns_append (part_turns c base h.2) (fields_turns g.names names)
    part_turns c (Strand ps) h = turns_append (parts_turns c ps h.1) (list_turns (how_many_parts ps))
    part_turns c (Nothing place) h = pushes i.Nothing refl refl refl

    steps_turns : (c : Count) (ss : Steps) → WellSteps ss → Turns 1 1 (steps_code g c ss)
    steps_turns c no_steps h = turns_none 1
    steps_turns c (and_steps s ss) h = turns_append (step_turns _ s h.0) (steps_turns c ss h.1)

    step_turns : (c : Count) (s : Step) → WellStep s → Turns 1 1 (step_code g c s)
    step_turns c (Apply d none) h = turns_append (turns_above 1 1 2 refl refl (derived_turns c d h.1)) call1_turns
    step_turns c (Apply d (some w)) h = turns_append (turns_append (turns_above 1 1 2 refl refl (derived_turns _ d h.1)) (turns_above 2 2 3 refl refl (part_turns c w h.3))) call2_turns
    step_turns c (Assign q a) h = target_turns g c q a
    step_turns c (Modify t d) h = turns_append (turns_above 1 1 2 refl refl (derived_turns _ d h.3)) (turns_append (turns_above 2 2 3 refl refl (load_turns _)) (turns_append call2_turns (store_turns arrow.Change _)))

    derived_turns : (c : Count) (d : Derived) → WellDerived d → Turns 0 1 (derived_code g c d)
    derived_turns c (derived x us) h =
        turns_append (turns_append (uses_turns _ us h.1) (turns_above (uses_held us) (uses_held us) (uses_held us + 1) (omega arith) (omega arith) (part_turns c x h.0))) (derives_turns us)

    uses_turns : (c : Count) (us : Uses) → WellUses us → Turns 0 (uses_held us) (uses_code g c us)
    uses_turns c no_uses h = turns_none 0
    uses_turns c (and_uses u us) h = turns_append (uses_turns _ us h.1) (turns_above (uses_held us) (uses_held us) (uses_held us + in_use_held u) (omega arith) (omega arith) (use_turns c u h.0))

    use_turns : (c : Count) (u : Use) → WellUse u → Turns 0 (in_use_held u) (use_code g c u)
    use_turns c (One m) h = part_turns c m h
    use_turns c (Two m x) h = turns_append (part_turns _ x h.1) (turns_above 1 1 2 refl refl (part_turns c m h.0))

    deriveds_turns : (c : Count) (ds : Deriveds) → WellDeriveds ds → Turns 0 (held (parts_read ds)) (deriveds_code g c ds)
    deriveds_turns c no_deriveds h = turns_none 0
    deriveds_turns c (and_deriveds d ds) h = fork_turns (parts_read ds) (deriveds_turns _ ds h.1) (derived_turns c d h.0)

    exprs_turns : (c : Count) (es : Exprs) → WellExprs es → Turns 0 (how_many_exprs es) (exprs_code g c es)
    exprs_turns c no_exprs h = turns_none 0
    exprs_turns c (and_exprs e es) h = turns_append (expr_turns c e h.0) (turns_above 1 1 (suc (how_many_exprs es)) (omega arith) (omega arith) (exprs_turns _ es h.1))

    parts_turns : (c : Count) (xs : Parts) → WellParts xs → Turns 0 (how_many_parts xs) (parts_code g c xs)
    parts_turns c no_parts h = turns_none 0
    parts_turns c (and_parts x xs) h = turns_append (part_turns c x h.1) (turns_above 1 1 (suc (how_many_parts xs)) (omega arith) (omega arith) (parts_turns _ xs h.2))
