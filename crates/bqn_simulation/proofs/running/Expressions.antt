-- The code of an expression does what the expression does, where calls run alike.
use Rattle.std.proofs.Common.{◌≡◌, ℕ, zero, suc, ◌+◌, ◌<◌, Bool, true, false, nat_eq, List, [], ◌∷◌, ◌++◌, length, position, Option, Some, None, Result, Ok, Err, refl, sym, ap, ◌∙◌, subst, append_assoc, append-nil, arith}
use Rattle.bqn_base.specs.declared.fault.Fault.{Fault}
use Rattle.bqn_base.specs.declared.place.Place.{Place}
use Rattle.bqn_rows.specs.Raised.{Raised, placed}
use Rattle.bqn_syntax.specs.blocks.Leads.{or_else, pattern_lead, part_lead, derived_lead, deriveds_lead, exprs_lead, parts_lead, modifier_lead}
use Rattle.bqn_base.specs.declared.fault.Fault.TheVariants.{Undefined}
use Rattle.bqn_rows.specs.Plain as plain
use Rattle.bqn_rows.specs.Plain.{Given}
use Rattle.bqn_rows.specs.Calls.{Call, call}
use Rattle.bqn_rows.specs.Running.{Res, Gives, Ends, then_do}
use Rattle.bqn_syntax.specs.declared.token.Kind.{Kind}
use Rattle.bqn_syntax.specs.declared.token.Kind.TheVariants as kind
use Rattle.bqn_syntax.specs.declared.token.Special.{Special}
use Rattle.bqn_syntax.specs.declared.token.Special.TheVariants as special
use Rattle.bqn_syntax.specs.declared.token.Token.{Token}
use Rattle.bqn_syntax.specs.declared.tree.Arrow.{Arrow}
use Rattle.bqn_syntax.specs.declared.tree.Arrow.TheVariants as arrow
use Rattle.bqn_syntax.specs.declared.tree.Class.{Class}
use Rattle.bqn_syntax.specs.declared.tree.Class.TheVariants as class
use Rattle.bqn_syntax.specs.grammar.Trees.{Pattern, Name, Skip, Literal, ListPattern, StrandPattern, Expr, Value, Train, Modifier, Use, One, Two, Part, Leaf, Elements, Merge, Paren, Block as Braces, Field, Strand, Nothing, Step, Apply, Assign, Modify, block, Derived, derived, none, some, Exprs, no_exprs, and_exprs, Uses, no_uses, and_uses, Parts, no_parts, and_parts, Steps, no_steps, and_steps, Deriveds, no_deriveds, and_deriveds}
use Rattle.bqn_syntax.specs.scope.Scope as scope
use Rattle.bqn_syntax.specs.scope.Scope.{name_of, same_name, system_names}
use Rattle.bqn_syntax.specs.blocks.Counting.{in_expr, in_part, in_steps, in_derived, in_use}
use Rattle.bqn_meaning.specs.Actions.{at as at_place, go_on, ◌>>=◌, pure, known, found, used}
use Rattle.bqn_syntax.specs.blocks.Blocks.{class_of}
use Rattle.bqn_meaning.specs.Environments as s
use Rattle.bqn_meaning.specs.Frames.{Setting, Frame, given, literal, special_value, system_at, leaf, left_operand, right_operand, modifier_of, there}
use Rattle.bqn_meaning.specs.Matching.{Fits, must_fit, field, store, store_named, assigned, bind}
use Rattle.bqn_meaning.specs.Deriving.{listed, elements, list_of, merged, standing, with_one, with_two, modified_one, modified_two, Reading, Unread, Read, Behind, atop, fork, and_part, train, applied}
use Rattle.bqn_meaning.specs.Meaning.{fields, present, changed_to, eval_expr, eval_part, eval_steps, eval_step, eval_derived, eval_uses, eval_use, eval_deriveds, eval_exprs, eval_parts}
use Rattle.bqn_code.specs.declared.constant.Const.{Const}
use Rattle.bqn_code.specs.declared.constant.Const.TheVariants as const
use Rattle.bqn_code.specs.declared.code.Block.{Block}
use Rattle.bqn_code.specs.declared.instr.Instr.{Instr}
use Rattle.bqn_code.specs.declared.instr.Instr.TheVariants as i
use Rattle.bqn_execution.specs.States as c
use Rattle.bqn_code.specs.Numbering as numbering
use Rattle.bqn_code.specs.Numbering.{Placed, Table, block_number}
use Rattle.bqn_execution.specs.Variables as v
use Rattle.bqn_execution.specs.Operands.{Go, Stack, one, pushed, value, constant, block_value, block_answer}
use Rattle.bqn_execution.specs.Execution.{stays, with_pattern}
use Rattle.bqn_execution.specs.Patterns.{bind as bind_code}
use Rattle.bqn_compile.specs.declared.count.Count.{Count}
use Rattle.bqn_compile.specs.declared.read.Read.{Read as Shape}
use Rattle.bqn_compile.specs.declared.read.Read.TheVariants as shape
use Rattle.bqn_compile.specs.Counting as counting
use Rattle.bqn_compile.specs.Counting.{past, in_token, in_targets}
use Rattle.bqn_compile.specs.Pools.{constant_number, name_number, seen_at}
use Rattle.bqn_compile.specs.Expressions as code
use Rattle.bqn_compile.specs.Expressions.{at_lead, leaf_instr, special_instr, system_instr, block_instr, target_instr, parts_read, and_one, put_fork, put_atop, how_many_exprs, how_many_parts, derive_instr}
use Rattle.bqn_simulation.specs.Views.{view, Same}
use Rattle.bqn_simulation.proofs.running.Agree.{binds, pures, faults, knows, uses, gives, Only, only_pure, only_known, only_at, only_bind, only_any}
use Rattle.bqn_simulation.proofs.running.Acts.{push, as_is, Side, Acts, seq, framed, still, recoded, treed, grouped, nested, single, single_value, seq3, mapped, seq_where}
use Rattle.bqn_compile.proofs.verified.slots.Fronts.{some_same}
use Rattle.bqn_simulation.proofs.running.Variables.{over, looks, changes, defines}
use Rattle.bqn_simulation.proofs.running.Stacks.{read_same, part_is, regroup, pile, taken_all, Shaped, laid, shaped_more}
use Rattle.bqn_simulation.proofs.running.BlockCounts.{token_blocks, targets_blocks, expr_same, part_same, steps_same, derived_same, use_same}
use Rattle.bqn_simulation.proofs.running.Fields.{field_same}
use Rattle.bqn_simulation.proofs.running.Patterns.{bind_same}
use Rattle.bqn_simulation.proofs.running.Told as told
use Rattle.bqn_simulation.proofs.running.Shared.{Shared}

module _ (names : ℕ → List (List ℕ)) (tb : Table) (here : Placed) (name_uses : List scope.Use) (g : Setting) (f : Frame) (h : s.Calling) (h2 : c.Calling) (given' : Shared names tb here g f h h2) (lead : Place) where
  abbrev pub V : s.State → c.State
  V = view names

  abbrev pub w : code.Setting
  w = record { uses = name_uses; constants = here.code.constants; names = here.code.names }

  abbrev pub o : Side
  o = record { view = V; table = tb; args = g.args; calling = h2; frame = over here f }

  -- ---- the code of a statement with this lead

  abbrev pub with_lead : Option Place → Instr → Instr × Place
  with_lead = at_lead lead

  abbrev pub on : Option Place → Place
  on = or_else lead

  abbrev targets_code : code.Setting → Count → List (Token × Arrow) → List (Instr × Place)
  targets_code = code.put_targets with_lead

  abbrev fields_code : List (List ℕ) → List Token → List (Instr × Place)
  fields_code = code.put_fields with_lead

  abbrev derives : Uses → List (Instr × Place)
  derives = code.put_derives with_lead

  abbrev expr_code : code.Setting → Count → Expr → List (Instr × Place)
  expr_code = code.put_expr with_lead

  abbrev part_code : code.Setting → Count → Part → List (Instr × Place)
  part_code = code.put_part with_lead

  abbrev steps_code : code.Setting → Count → Steps → List (Instr × Place)
  steps_code = code.put_steps with_lead

  abbrev step_code : code.Setting → Count → Step → List (Instr × Place)
  step_code = code.put_step with_lead

  abbrev derived_code : code.Setting → Count → Derived → List (Instr × Place)
  derived_code = code.put_derived with_lead

  abbrev uses_code : code.Setting → Count → Uses → List (Instr × Place)
  uses_code = code.put_uses with_lead

  abbrev use_code : code.Setting → Count → Use → List (Instr × Place)
  use_code = code.put_use with_lead

  abbrev deriveds_code : code.Setting → Count → Deriveds → List (Instr × Place)
  deriveds_code = code.put_deriveds with_lead

  abbrev exprs_code : code.Setting → Count → Exprs → List (Instr × Place)
  exprs_code = code.put_exprs with_lead

  abbrev parts_code : code.Setting → Count → Parts → List (Instr × Place)
  parts_code = code.put_parts with_lead

  -- ---- calls

  pub calls : (t : Call) → Same V (h t) (h2 t)
  calls t = record { is = given'.agree.run t }

  called : (t : Call) → Same V (h t >>= given) (h2 t >>= given)
  called t = gives V (calls t)

  applies : (k l x : Option plain.Value) → Same V (applied h k l x) (applied h2 k l x)
  applies None l x = faults V _
  applies (Some k) l None = pures V None
  applies (Some k) l (Some x) = called (call k l x)

  -- modifiers ask for the classes of blocks
  modifies_one : (m x : Option plain.Value) → Same V (modified_one (class_of g.blocks) h m x) (modified_one (numbering.class_of tb) h2 m x)
  modifies_one m x = subst (λ (k : ℕ → Option Class). Same V (modified_one (class_of g.blocks) h m x) (modified_one k h2 m x)) (λ j b. given'.classes b j) (uses V m (λ m. uses V x (λ x. called (with_one (class_of g.blocks) m x))))

  modifies_two : (m x y : Option plain.Value) → Same V (modified_two (class_of g.blocks) h m x y) (modified_two (numbering.class_of tb) h2 m x y)
  modifies_two m x y = subst (λ (k : ℕ → Option Class). Same V (modified_two (class_of g.blocks) h m x y) (modified_two k h2 m x y)) (λ j b. given'.classes b j) (uses V m (λ m. uses V x (λ x. uses V y (λ y. called (with_two (class_of g.blocks) m x y)))))

  -- ---- one token

  abbrev LeafTold : ℕ → Kind → Type 0
  LeafTold = told.LeafTold f.scopes name_uses here.code

  abbrev StoreTold : Arrow → ℕ → Kind → Type 0
  StoreTold = told.StoreTold f.scopes name_uses here.code

  constant_acts : (p : Place) (x : Const) (r : Result plain.Value Fault) → told.IsConstant f.scopes name_uses here.code x → constant (Some x) ≡ known r → Acts o ((i.Const (constant_number here.code.constants x), p) ∷ []) (at_place p (known r >>= given)) as_is push
  constant_acts p x r d e = single o (i.Const (constant_number here.code.constants x)) p as_is (λ next st t. ap (λ z. pushed p (value (constant z)) next st t) d ∙ ap (λ z. pushed p (value z) next st t) e) (gives V (knows V r))

  pub special_acts : (p : Place) (x : Special) → Acts o ((special_instr x, p) ∷ []) (at_place p (known (special_value f x))) as_is push
  special_acts p special.Left = record { runs = λ is st t. refl }
  special_acts p special.Right = record { runs = λ is st t. refl }
  special_acts p special.Own = record { runs = λ is st t. refl }
  special_acts p special.LeftOperand = single o i.LeftOperand p as_is (λ next st t. refl) (by (left_operand f.operands))
    where
      by : (x : Option plain.Value) → Same V (known (there x)) (found Undefined x >>= given)
      by None = record { is = λ t. refl }
      by (Some x) = record { is = λ t. refl }
  special_acts p special.RightOperand = single o i.RightOperand p as_is (λ next st t. refl) (by (right_operand f.operands))
    where
      by : (x : Option plain.Value) → Same V (known (there x)) (found Undefined x >>= given)
      by None = record { is = λ t. refl }
      by (Some x) = record { is = λ t. refl }
  special_acts p special.Modifier = single o i.Modifier p as_is (λ next st t. refl) (by (modifier_of f.class f.block f.outer))
    where
      by : (x : Option plain.Value) → Same V (known (there x)) (found Undefined x >>= given)
      by None = record { is = λ t. refl }
      by (Some x) = record { is = λ t. refl }

  system_acts : (q : Place) (p : Option ℕ) (n : ℕ) → p ≡ Some n → n < 6 → Acts o ((system_instr p, q) ∷ []) (at_place q (known (system_at g.args p))) as_is push
  system_acts q None n e b = cc
  system_acts q (Some zero) n e b = record { runs = λ is st t. refl }
  system_acts q (Some (suc zero)) n e b = record { runs = λ is st t. refl }
  system_acts q (Some (suc (suc zero))) n e b = record { runs = λ is st t. refl }
  system_acts q (Some (suc (suc (suc zero)))) n e b = record { runs = λ is st t. refl }
  system_acts q (Some (suc (suc (suc (suc zero))))) n e b = record { runs = λ is st t. refl }
  system_acts q (Some (suc (suc (suc (suc (suc zero)))))) n e b = record { runs = λ is st t. refl }
  system_acts q (Some (suc (suc (suc (suc (suc (suc m))))))) n e b = absurd (omega (arith, some_same e, b))

  leaf_acts : (p : Place) (k : ℕ) (x : Kind) → LeafTold k x → Acts o ((leaf_instr w k x, p) ∷ []) (at_place p (leaf g f x)) as_is push
  leaf_acts p k (kind.Word name r) d = single o (i.Load (seen_at name_uses k).up (seen_at name_uses k).slot) p as_is (λ next st t. refl) (gives V (looks names tb here f given'.linked name (seen_at name_uses k) d))
  leaf_acts p k (kind.Special x r) d = special_acts p x
  leaf_acts p k (kind.System name r) d = system_acts p (position (λ other. same_name other name) system_names) d.0 d.1 d.2
  leaf_acts p k (kind.Given n) d = single o (i.Given n) p as_is (λ next st t. ap (λ b. pushed p (value (given_from b n)) next st t) d) (pures V (Some (Given n)))
    where
      given_from : Bool → ℕ → c.Does plain.Value
      given_from b n = elim b [ true ↦ pure (Given n) | false ↦ elim (nat_eq n 69) [ true ↦ pure g.args | false ↦ c.stuck ] ]
  leaf_acts p k (kind.Number z) d = constant_acts p (const.Number z) (Ok (plain.Number z)) d refl
  leaf_acts p k (kind.Char z) d = constant_acts p (const.Char z) (Ok (plain.Character z)) d refl
  leaf_acts p k (kind.Text z) d = constant_acts p (const.Text z) (literal (kind.Text z)) d refl
  leaf_acts p k (kind.Punct z) d = elim d [ ]

  -- ---- stores

  abbrev put_instr : Arrow → ℕ → Instr
  put_instr a k = code.store a (seen_at name_uses k)

  pub store_acts : (p : Place) (a : Arrow) (k : ℕ) (x : Kind) → StoreTold a k x → (y : Option plain.Value) → Acts o ((put_instr a k, p) ∷ []) (at_place p (used y >>= (λ z. store_named f a x z >>= (λ u. pure (Some z))))) (push y) push
  store_acts p arrow.Change k (kind.Word name r) d y = single o (put_instr arrow.Change k) p (push y) (λ next st t. refl) (uses V y (λ z. binds V (changes names tb here f given'.linked name (seen_at name_uses k) d z) (λ u. pures V (Some z))))
  store_acts p arrow.Define k (kind.Word name r) d y = single o (put_instr arrow.Define k) p (push y) (λ next st t. refl) (uses V y (λ z. binds V (defines names tb here f given'.linked name (seen_at name_uses k) d.0 d.1 z) (λ u. pures V (Some z))))
  store_acts p arrow.Export k (kind.Word name r) d y = single o (put_instr arrow.Export k) p (push y) (λ next st t. refl) (uses V y (λ z. binds V (defines names tb here f given'.linked name (seen_at name_uses k) d.0 d.1 z) (λ u. pures V (Some z))))
  store_acts p arrow.Change k _ d y = elim d [ ]
  store_acts p arrow.Define k _ d y = elim d [ ]
  store_acts p arrow.Export k _ d y = elim d [ ]

  abbrev TargetsTold : Count → List (Token × Arrow) → Type 0
  TargetsTold = told.TargetsTold f.scopes name_uses here.code

  targets_acts : (c : Count) (ts : List (Token × Arrow)) → TargetsTold c ts → (y : Option plain.Value) → Acts o (targets_code w c ts) (assigned f ts y) (push y) push
  targets_acts c [] d y = still o push y
  targets_acts c (t ∷ ts) d y = seq o (targets_acts (past c (in_token t.0)) ts d.1 y) (λ x. store_acts t.0.place t.1 c.uses t.0.kind d.0 x)

  bound_acts : (p : Place) (c : Count) (q : Pattern) (a : Arrow) → told.IsPooled f.scopes name_uses here.code a c q → (y : Option plain.Value) → Acts o ((i.Bind c.patterns, p) ∷ []) (at_place p (used y >>= (λ x. bind g f a q x >>= (λ u. pure (Some x))))) (push y) push
  bound_acts p c q a d y = single o (i.Bind c.patterns) p (push y)
      (λ next st s. ap (λ z. with_pattern z (λ q. one (λ x. pushed p (stays (bind_code tb (over here f) q) x) next) (y ∷ st)) s) d.there)
      (uses V y (λ x. binds V (bind_same names tb here name_uses g f given'.linked given'.exporting a d.constants d.names c.uses q d.told x) (λ u. pures V (Some x))))

  -- the target of an arrow
  target_acts : (p : Place) (c : Count) (q : Pattern) (a : Arrow) → told.TargetTold f.scopes name_uses here.code c q a → (y : Option plain.Value) → Acts o ((target_instr w c q a, p) ∷ []) (at_place p (used y >>= (λ x. bind g f a q x >>= (λ u. pure (Some x))))) (push y) push
  target_acts p c (Name t) a d y = treed o (at_place p (used y >>= (λ x. bind g f a (Name t) x >>= (λ u. pure (Some x))))) (λ s. ap (λ r. then_do r (λ x. Gives (placed p x))) (by y s)) (store_acts p a c.uses t.kind d y)
    where
      at : (x : plain.Value) (r : Res s.State s.State (Result (Unit {0}) Raised)) → then_do r (go_on (λ u. pure (Some x))) ≡ then_do (then_do (then_do r (go_on (λ u. pure Fits))) (go_on must_fit)) (go_on (λ u. pure (Some x)))
      at x (Gives (Ok u) s) = refl
      at x (Gives (Err e) s) = refl
      at x (Ends s) = refl

      by : (y : Option plain.Value) (s : s.State) → (used y >>= (λ z. store f a t z >>= (λ u. pure (Some z)))) s ≡ (used y >>= (λ x. bind g f a (Name t) x >>= (λ u. pure (Some x)))) s
      by None s = refl
      by (Some x) s = at x (store f a t x s)
  target_acts p c (Skip place) a d y = bound_acts p c (Skip place) a d y
  target_acts p c (Literal t) a d y = bound_acts p c (Literal t) a d y
  target_acts p c (ListPattern qs) a d y = bound_acts p c (ListPattern qs) a d y
  target_acts p c (StrandPattern qs) a d y = bound_acts p c (StrandPattern qs) a d y

  -- ---- fields and blocks

  fields_acts : (ts : List Token) → told.FieldsTold f.scopes name_uses here.code ts → (y : Option plain.Value) → Acts o (fields_code here.code.names ts) (fields g ts y) (push y) push
  fields_acts [] d y = still o push y
  fields_acts (t ∷ ts) d y =
      seq o (single_value o (i.Field (name_number here.code.names (name_of t))) t.place (push y)
      (λ next st s. ap (λ k. pushed t.place (value (used y >>= v.field tb k)) next st s) d.0)
      (uses V y (λ x. field_same names tb g.blocks given'.exporting (name_of t) x)))
      (λ z. fields_acts ts d.1 (Some z))

  block_acts : (p : Place) (k : Class) (n b : ℕ) → n ≡ here.blocks + b → told.BlockTold f.scopes name_uses here.code k b → Acts o ((block_instr k b, p) ∷ []) (at_place p (h (standing k n f.environment)) >>= given) as_is push
  block_acts p k n b e d = by k (given'.placed b d.block d.there d.inner ∙ ap (λ (x : Class). Some x) d.class_is)
    where
      number_is : (j : ℕ) → 0 < j → block_number here j ≡ here.blocks + j
      number_is zero q = absurd (omega arith)
      number_is (suc j) q = refl

      at : block_number here b ≡ n
      at = number_is b d.inner ∙ sym e

      class_at : (l : Class) → numbering.class_of tb (here.blocks + b) ≡ Some l → numbering.class_of tb (block_number here b) ≡ Some l
      class_at l q = ap (λ m. numbering.class_of tb m) (number_is b d.inner) ∙ q

      made : (l : Class) → numbering.class_of tb (here.blocks + b) ≡ Some l → (read : Option Class → ℕ → c.Does plain.Value) → (next : Go) (st : Stack) (s : c.State) →
          pushed p (value (read (numbering.class_of tb (block_number here b)) (block_number here b))) next st s ≡ pushed p (value (read (Some l) n)) next st s
      made l q read next st s = ap (λ z. pushed p (value (read z (block_number here b))) next st s) (class_at l q) ∙ ap (λ m. pushed p (value (read (Some l) m)) next st s) at

      by : (l : Class) → numbering.class_of tb (here.blocks + b) ≡ Some l → Acts o ((block_instr l b, p) ∷ []) (at_place p (h (standing l n f.environment)) >>= given) as_is push
      by class.Immediate q = mapped o (λ x. Some x) push (single_value o (i.Run b) p as_is (λ next st s. made class.Immediate q (λ k m. block_answer h2 k m f.environment) next st s) (calls (standing class.Immediate n f.environment)))
      by class.Function q = mapped o (λ x. Some x) push (single_value o (i.Block b) p as_is (λ next st s. made class.Function q (λ k m. block_value h2 k m f.environment) next st s) (calls (standing class.Function n f.environment)))
      by class.Mod1 q = mapped o (λ x. Some x) push (single_value o (i.Block b) p as_is (λ next st s. made class.Mod1 q (λ k m. block_value h2 k m f.environment) next st s) (calls (standing class.Mod1 n f.environment)))
      by class.Mod1Deferred q = mapped o (λ x. Some x) push (single_value o (i.Block b) p as_is (λ next st s. made class.Mod1Deferred q (λ k m. block_value h2 k m f.environment) next st s) (calls (standing class.Mod1Deferred n f.environment)))
      by class.Mod2 q = mapped o (λ x. Some x) push (single_value o (i.Block b) p as_is (λ next st s. made class.Mod2 q (λ k m. block_value h2 k m f.environment) next st s) (calls (standing class.Mod2 n f.environment)))
      by class.Mod2Deferred q = mapped o (λ x. Some x) push (single_value o (i.Block b) p as_is (λ next st s. made class.Mod2Deferred q (λ k m. block_value h2 k m f.environment) next st s) (calls (standing class.Mod2Deferred n f.environment)))

  -- ---- lists

  list_acts : (p : Place) (n : ℕ) (vs : List (Option plain.Value)) → length vs ≡ n → Acts o ((i.List n, p) ∷ []) (at_place p (list_of vs)) (pile vs) (λ x. push (Some x))
  list_acts p n vs e = single_value o (i.List n) p (pile vs) (λ next st s. ap (λ m. m s) (taken_all vs n (λ xs. pushed p (value (known (listed xs))) next) st e)) (knows V (listed (elements vs)))

  merge_acts : (p : Place) (n : ℕ) (vs : List (Option plain.Value)) → length vs ≡ n → Acts o ((i.List n, p) ∷ (i.Given 13, p) ∷ (i.Call1, p) ∷ []) (merged h p vs >>= given) (pile vs) push
  merge_acts p n vs e =
      nested o (at_place p (list_of vs)) (λ x. at_place p (h (call (Given 13) None x))) given
      (seq o (list_acts p n vs e)
      (λ x. record { runs = λ is st t. (called_acts x).runs is st t }))
    where
      called_acts : (x : plain.Value) → Acts o ((i.Call1, p) ∷ []) (at_place p (h (call (Given 13) None x)) >>= given) (λ st. Some (Given 13) ∷ Some x ∷ st) push
      called_acts x = mapped o (λ y. Some y) push (single_value o i.Call1 p (λ st. Some (Given 13) ∷ Some x ∷ st) (λ next st t. refl) (calls (call (Given 13) None x)))

  -- ---- trains

  fork_acts : (q : Place) (p : Shape) (r : Reading) → Shaped p r → (z : Option plain.Value) → Acts o (put_fork (λ i. (i, q)) p) (at_place q (known (and_part r z))) (λ st. z ∷ laid r st) laid
  fork_acts q shape.No Unread d z = record { runs = λ is st t. refl }
  fork_acts q shape.One (Read k) d z = record { runs = λ is st t. refl }
  fork_acts q shape.Two (Behind k l) d z =
      treed o (at_place q (known (and_part (Behind k l) z))) (λ s. read_same q (fork z k l) s)
      (mapped o (λ x. Read (Some x)) laid (single_value o i.Train3 q (λ st. z ∷ k ∷ l ∷ st) (λ next st s. refl) (knows V (fork z k l))))
  fork_acts q shape.No (Read k) d z = elim d [ ]
  fork_acts q shape.No (Behind k l) d z = elim d [ ]
  fork_acts q shape.One Unread d z = elim d [ ]
  fork_acts q shape.One (Behind k l) d z = elim d [ ]
  fork_acts q shape.Two Unread d z = elim d [ ]
  fork_acts q shape.Two (Read k) d z = elim d [ ]

  train_acts : (q : Place) (p : Shape) (r : Reading) → told.IsTrain p → Shaped p r → Acts o (put_atop (λ i. (i, q)) p) (at_place q (known (train r))) (laid r) push
  train_acts q shape.No r it d = elim it [ ]
  train_acts q shape.One (Read k) it d = record { runs = λ is st t. refl }
  train_acts q shape.Two (Behind k l) it d =
      treed o (at_place q (known (train (Behind k l)))) (λ s. part_is q (atop k l) s)
      (mapped o (λ x. Some x) push (single_value o i.Train2 q (λ st. k ∷ l ∷ st) (λ next st s. refl) (knows V (atop k l))))
  train_acts q shape.One Unread it d = elim d [ ]
  train_acts q shape.One (Behind k l) it d = elim d [ ]
  train_acts q shape.Two Unread it d = elim d [ ]
  train_acts q shape.Two (Read k) it d = elim d [ ]

  deriveds_shaped : (ds : Deriveds) (n : ℕ) → Only (Shaped (parts_read ds)) (eval_deriveds h g f lead ds n)
  deriveds_shaped no_deriveds n = only_pure (Shaped shape.No) Unread tt
  deriveds_shaped (and_deriveds d ds) n =
      only_bind (Shaped (parts_read ds)) (Shaped (and_one (parts_read ds))) (deriveds_shaped ds (n + (in_derived d).blocks))
      (λ r q. only_bind (λ z. Unit {0}) (Shaped (and_one (parts_read ds))) (only_any (eval_derived h g f lead d n))
      (λ z u. only_at (Shaped (and_one (parts_read ds))) (on (derived_lead d)) (only_known (Shaped (and_one (parts_read ds))) (and_part r z) (λ x e. shaped_more (parts_read ds) r z x q e))))

  -- ---- where blocks are

  behind : (n k d d2 : ℕ) → n ≡ here.blocks + k → d ≡ d2 → n + d2 ≡ here.blocks + (k + d)
  behind n k d d2 e q = omega (arith, e, q)

  behind_none : (n k d : ℕ) → n ≡ here.blocks + k → d ≡ 0 → n ≡ here.blocks + (k + d)
  behind_none n k d e q = omega (arith, e, q)

  no_more : (n k : ℕ) → n ≡ here.blocks + k → n + 0 ≡ here.blocks + k
  no_more n k e = omega (arith, e)

  -- ---- the tree

  abbrev ExprTold : Count → Expr → Type 0
  ExprTold = told.ExprTold f.scopes name_uses here.code

  abbrev PartTold : Count → Part → Type 0
  PartTold = told.PartTold f.scopes name_uses here.code

  abbrev StepsTold : Count → Steps → Type 0
  StepsTold = told.StepsTold f.scopes name_uses here.code

  abbrev StepTold : Count → Step → Type 0
  StepTold = told.StepTold f.scopes name_uses here.code

  abbrev DerivedTold : Count → Derived → Type 0
  DerivedTold = told.DerivedTold f.scopes name_uses here.code

  abbrev UsesTold : Count → Uses → Type 0
  UsesTold = told.UsesTold f.scopes name_uses here.code

  abbrev UseTold : Count → Use → Type 0
  UseTold = told.UseTold f.scopes name_uses here.code

  abbrev DerivedsTold : Count → Deriveds → Type 0
  DerivedsTold = told.DerivedsTold f.scopes name_uses here.code

  abbrev ExprsTold : Count → Exprs → Type 0
  ExprsTold = told.ExprsTold f.scopes name_uses here.code

  abbrev PartsTold : Count → Parts → Type 0
  PartsTold = told.PartsTold f.scopes name_uses here.code

  abbrev At : ℕ → Count → Type 0
  At n c = n ≡ here.blocks + c.blocks

  exprs_many : (es : Exprs) (n : ℕ) → Only (λ vs. length vs ≡ how_many_exprs es) (eval_exprs h g f lead es n)
  exprs_many no_exprs n = only_pure (λ vs. length vs ≡ 0) [] refl
  exprs_many (and_exprs e es) n =
      only_bind (λ z. Unit {0}) (λ vs. length vs ≡ suc (how_many_exprs es)) (only_any (eval_expr h g f lead e n))
      (λ z u. only_bind (λ vs. length vs ≡ how_many_exprs es) (λ vs. length vs ≡ suc (how_many_exprs es)) (exprs_many es (n + (in_expr e).blocks))
      (λ vs q. only_pure (λ vs. length vs ≡ suc (how_many_exprs es)) (z ∷ vs) (ap (λ k. suc k) q)))

  parts_many : (ps : Parts) (n : ℕ) → Only (λ vs. length vs ≡ how_many_parts ps) (eval_parts h g f lead ps n)
  parts_many no_parts n = only_pure (λ vs. length vs ≡ 0) [] refl
  parts_many (and_parts x xs) n =
      only_bind (λ z. Unit {0}) (λ vs. length vs ≡ suc (how_many_parts xs)) (only_any (eval_part h g f lead x n))
      (λ z u. only_bind (λ vs. length vs ≡ how_many_parts xs) (λ vs. length vs ≡ suc (how_many_parts xs)) (parts_many xs (n + (in_part x).blocks))
      (λ vs q. only_pure (λ vs. length vs ≡ suc (how_many_parts xs)) (z ∷ vs) (ap (λ k. suc k) q)))

  -- a name that is changed to what a call gave
  change_acts : (t : Token) (k : ℕ) → StoreTold arrow.Change k t.kind → (y : Option plain.Value) → Acts o ((put_instr arrow.Change k, t.place) ∷ []) (changed_to f t y) (push y) push
  change_acts t k d y = store_acts t.place arrow.Change k t.kind d y

  present_acts : (t : Token) (k : ℕ) → StoreTold arrow.Change k t.kind → Acts o ((code.load (seen_at name_uses k), t.place) ∷ []) (present f t) as_is (λ x. push (Some x))
  present_acts t k d = by t.kind d
    where
      by : (x : Kind) → StoreTold arrow.Change k x → Acts o ((code.load (seen_at name_uses k), t.place) ∷ []) (at_place t.place (s.look f.scopes f.environment (scope.spelling x))) as_is (λ x. push (Some x))
      by (kind.Word name r) d = single_value o (code.load (seen_at name_uses k)) t.place as_is (λ next st s. refl) (looks names tb here f given'.linked name (seen_at name_uses k) d)
      by _ d = elim d [ ]

  nothing_acts : (p : Place) → Acts o ((i.Nothing, p) ∷ []) (pure None) as_is push
  nothing_acts p = record { runs = λ is st t. refl }

  made_list : (q : Place) (vs : List (Option plain.Value)) (n : ℕ) → length vs ≡ n → Acts o ((i.List n, q) ∷ []) (at_place q (list_of vs) >>= given) (pile vs) push
  made_list q vs n p = mapped o (λ x. Some x) push (list_acts q n vs p)

  mutual
    pub expr_acts : (x : Expr) (n : ℕ) (c : Count) → At n c → ExprTold c x → Acts o (expr_code w c x) (eval_expr h g f lead x n) as_is push
    expr_acts (Value none (and_steps (Modify t d) ss)) n c e q =
        seq o (present_acts t (c.uses + (counting.in_steps ss).uses) q.0.0.0)
        (λ x. seq o (framed o (push (Some x)) (derived_acts d (n + (in_steps ss).blocks) (past (past c (counting.in_steps ss)) (in_token t)) (behind_none _ _ _ (behind n c.blocks _ _ e (steps_same ss)) (token_blocks t)) q.0.0.1))
        (λ k. nested o (at_place (on (derived_lead d)) (applied h k None (Some x))) (changed_to f t) (eval_steps h g f lead ss n)
        (seq o (single o i.Call1 (on (derived_lead d)) (λ st. k ∷ Some x ∷ st) (λ next st s. refl) (applies k None (Some x)))
        (λ y. seq o (change_acts t (c.uses + (counting.in_steps ss).uses) q.0.0.0 y) (λ z. steps_acts ss n c z e q.0.1)))))
    expr_acts (Value none no_steps) n c e q = seq o (nothing_acts lead) (λ y. steps_acts no_steps n c y e q.0)
    expr_acts (Value none (and_steps (Apply d l) ss)) n c e q = seq o (nothing_acts lead) (λ y. steps_acts (and_steps (Apply d l) ss) n c y e q.0)
    expr_acts (Value none (and_steps (Assign p a) ss)) n c e q = seq o (nothing_acts lead) (λ y. steps_acts (and_steps (Assign p a) ss) n c y e q.0)
    expr_acts (Value (some x) ss) n c e q = seq o (part_acts x (n + (in_steps ss).blocks) (past c (counting.in_steps ss)) (behind n c.blocks _ _ e (steps_same ss)) q.1) (λ y. steps_acts ss n c y e q.0)
    expr_acts (Train ts ds) n c e q =
        grouped o (deriveds_code w (past c (in_targets ts)) ds) (put_atop (with_lead (deriveds_lead ds)) (parts_read ds)) (targets_code w c ts)
        (seq_where o (Shaped (parts_read ds)) (deriveds_shaped ds n) (deriveds_acts ds n (past c (in_targets ts)) (behind_none n c.blocks _ e (targets_blocks ts)) q.1)
        (λ r p. seq o (train_acts (on (deriveds_lead ds)) (parts_read ds) r q.2 p) (λ y. targets_acts c ts q.0 y)))
    expr_acts (Modifier ts x) n c e q = seq o (part_acts x n (past c (in_targets ts)) (behind_none n c.blocks _ e (targets_blocks ts)) q.1) (λ y. targets_acts c ts q.0 y)

    pub part_acts : (x : Part) (n : ℕ) (c : Count) → At n c → PartTold c x → Acts o (part_code w c x) (eval_part h g f lead x n) as_is push
    part_acts (Leaf t) n c e q = leaf_acts t.place c.uses t.kind q
    part_acts (Elements es) n c e q =
        nested o (eval_exprs h g f lead es n) (λ vs. at_place (on (exprs_lead es)) (list_of vs)) given
        (seq_where o (λ vs. length vs ≡ how_many_exprs es) (exprs_many es n) (exprs_acts es n c e q)
        (λ vs p. made_list (on (exprs_lead es)) vs (how_many_exprs es) p))
    part_acts (Merge es) n c e q =
        nested o (eval_exprs h g f lead es n) (merged h (on (exprs_lead es))) given
        (seq_where o (λ vs. length vs ≡ how_many_exprs es) (exprs_many es n) (exprs_acts es n c e q)
        (λ vs p. merge_acts (on (exprs_lead es)) (how_many_exprs es) vs p))
    part_acts (Paren x) n c e q = expr_acts x n c e q
    part_acts (Braces (block place k bs)) n c e q = block_acts place k n c.blocks e q
    part_acts (Field base ts) n c e q = seq o (part_acts base n c e q.0) (λ y. fields_acts ts q.1 y)
    part_acts (Strand ps) n c e q =
        nested o (eval_parts h g f lead ps n) (λ vs. at_place (on (parts_lead ps)) (list_of vs)) given
        (seq_where o (λ vs. length vs ≡ how_many_parts ps) (parts_many ps n) (parts_acts ps n c e q)
        (λ vs p. made_list (on (parts_lead ps)) vs (how_many_parts ps) p))
    part_acts (Nothing place) n c e q = nothing_acts place

    steps_acts : (ss : Steps) (n : ℕ) (c : Count) (y : Option plain.Value) → At n c → StepsTold c ss → Acts o (steps_code w c ss) (eval_steps h g f lead ss n y) (push y) push
    steps_acts no_steps n c y e q = still o push y
    steps_acts (and_steps s ss) n c y e q = seq o (step_acts s (n + (in_steps ss).blocks) (past c (counting.in_steps ss)) y (behind n c.blocks _ _ e (steps_same ss)) q.0) (λ z. steps_acts ss n c z e q.1)

    step_acts : (x : Step) (n : ℕ) (c : Count) (y : Option plain.Value) → At n c → StepTold c x → Acts o (step_code w c x) (eval_step h g f lead x n y) (push y) push
    step_acts (Apply d none) n c y e q =
        seq o (framed o (push y) (derived_acts d (n + 0) c (no_more n c.blocks e) q))
        (λ k. single o i.Call1 (on (derived_lead d)) (λ st. k ∷ y ∷ st) (λ next st s. refl) (applies k None y))
    step_acts (Apply d (some x)) n c y e q =
        seq3 o (derived_code w (past c (counting.in_part x)) d) (part_code w c x) (with_lead (derived_lead d) i.Call2 ∷ [])
        (framed o (push y) (derived_acts d (n + (in_part x).blocks) (past c (counting.in_part x)) (behind n c.blocks _ _ e (part_same x)) q.1))
        (λ k. framed o (λ st. k ∷ y ∷ st) (part_acts x n c e q.0))
        (λ k l. single o i.Call2 (on (derived_lead d)) (λ st. l ∷ k ∷ y ∷ st) (λ next st s. refl) (applies k l y))
    step_acts (Assign p a) n c y e q = target_acts (on (pattern_lead p)) c p a q y
    step_acts (Modify t d) n c y e q =
        seq o (framed o (push y) (derived_acts d n (past c (in_token t)) (behind_none n c.blocks _ e (token_blocks t)) q.1))
        (λ k. seq o (framed o (λ st. k ∷ y ∷ st) (present_acts t c.uses q.0))
        (λ x. seq o (single o i.Call2 (on (derived_lead d)) (λ st. Some x ∷ k ∷ y ∷ st) (λ next st s. refl) (applies k (Some x) y))
        (λ z. change_acts t c.uses q.0 z)))

    derived_acts : (x : Derived) (n : ℕ) (c : Count) → At n c → DerivedTold c x → Acts o (derived_code w c x) (eval_derived h g f lead x n) as_is push
    derived_acts (derived x us) n c e q = uses_acts us (n + (in_part x).blocks) (past c (counting.in_part x)) (part_code w c x) (eval_part h g f lead x n) (behind n c.blocks _ _ e (part_same x)) q.1 (part_acts x n c e q.0)

    uses_acts : (us : Uses) (n : ℕ) (c : Count) (xs : List (Instr × Place)) (inside : s.Does (Option plain.Value)) → At n c → UsesTold c us → Acts o xs inside as_is push → Acts o ((uses_code w c us ++ xs) ++ derives us) (eval_uses h g f lead us n inside) as_is push
    uses_acts no_uses n c xs inside e q a = recoded o (sym (append-nil xs)) a
    uses_acts (and_uses u us) n c xs inside e q a =
        recoded o (regroup (uses_code w (past c (counting.in_use u)) us) (use_code w c u) xs (with_lead (modifier_lead u) (derive_instr u) ∷ []) (derives us))
        (uses_acts us (n + (in_use u).blocks) (past c (counting.in_use u)) ((use_code w c u ++ xs) ++ with_lead (modifier_lead u) (derive_instr u) ∷ []) (eval_use h g f lead u n inside) (behind n c.blocks _ _ e (use_same u)) q.1 (use_acts u n c xs inside e q.0 a))

    use_acts : (u : Use) (n : ℕ) (c : Count) (xs : List (Instr × Place)) (inside : s.Does (Option plain.Value)) → At n c → UseTold c u → Acts o xs inside as_is push → Acts o ((use_code w c u ++ xs) ++ with_lead (modifier_lead u) (derive_instr u) ∷ []) (eval_use h g f lead u n inside) as_is push
    use_acts (One m) n c xs inside e q a =
        seq3 o (part_code w c m) xs (with_lead (part_lead m) i.Derive1 ∷ [])
        (part_acts m n c e q)
        (λ k. framed o (push k) a)
        (λ k l. single o i.Derive1 (on (part_lead m)) (λ st. l ∷ k ∷ st) (λ next st s. refl) (modifies_one k l))
    use_acts (Two m x) n c xs inside e q a =
        recoded o (ap (λ z. z ++ with_lead (part_lead m) i.Derive2 ∷ []) (sym (append_assoc (part_code w (past c (counting.in_part m)) x) (part_code w c m) xs)))
        (grouped o (part_code w (past c (counting.in_part m)) x) (part_code w c m ++ xs) (with_lead (part_lead m) i.Derive2 ∷ [])
        (seq o (part_acts x (n + (in_part m).blocks) (past c (counting.in_part m)) (behind n c.blocks _ _ e (part_same m)) q.1)
        (λ r. seq3 o (part_code w c m) xs (with_lead (part_lead m) i.Derive2 ∷ [])
        (framed o (push r) (part_acts m n c e q.0))
        (λ k. framed o (λ st. k ∷ r ∷ st) a)
        (λ k l. single o i.Derive2 (on (part_lead m)) (λ st. l ∷ k ∷ r ∷ st) (λ next st s. refl) (modifies_two k l r)))))

    deriveds_acts : (ds : Deriveds) (n : ℕ) (c : Count) → At n c → DerivedsTold c ds → Acts o (deriveds_code w c ds) (eval_deriveds h g f lead ds n) as_is laid
    deriveds_acts no_deriveds n c e q = still o laid Unread
    deriveds_acts (and_deriveds d ds) n c e q =
        grouped o (deriveds_code w (past c (counting.in_derived d)) ds) (derived_code w c d) (put_fork (with_lead (derived_lead d)) (parts_read ds))
        (seq_where o (Shaped (parts_read ds)) (deriveds_shaped ds (n + (in_derived d).blocks)) (deriveds_acts ds (n + (in_derived d).blocks) (past c (counting.in_derived d)) (behind n c.blocks _ _ e (derived_same d)) q.1)
        (λ r p. seq o (framed o (laid r) (derived_acts d n c e q.0)) (λ z. fork_acts (on (derived_lead d)) (parts_read ds) r p z)))

    exprs_acts : (es : Exprs) (n : ℕ) (c : Count) → At n c → ExprsTold c es → Acts o (exprs_code w c es) (eval_exprs h g f lead es n) as_is pile
    exprs_acts no_exprs n c e q = still o pile []
    exprs_acts (and_exprs x es) n c e q =
        seq o (expr_acts x n c e q.0)
        (λ z. mapped o (λ vs. z ∷ vs) pile (framed o (push z) (exprs_acts es (n + (in_expr x).blocks) (past c (counting.in_expr x)) (behind n c.blocks _ _ e (expr_same x)) q.1)))

    parts_acts : (ps : Parts) (n : ℕ) (c : Count) → At n c → PartsTold c ps → Acts o (parts_code w c ps) (eval_parts h g f lead ps n) as_is pile
    parts_acts no_parts n c e q = still o pile []
    parts_acts (and_parts x xs) n c e q =
        seq o (part_acts x n c e q.0)
        (λ z. mapped o (λ vs. z ∷ vs) pile (framed o (push z) (parts_acts xs (n + (in_part x).blocks) (past c (counting.in_part x)) (behind n c.blocks _ _ e (part_same x)) q.1)))
