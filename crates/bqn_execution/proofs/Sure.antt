-- An instruction that finds its operands and its objects is not stuck, whatever the values are.
use Rattle.std.proofs.Common.{◌≡◌, ℕ, zero, suc, ◌+◌, ◌-◌, ◌≤◌, ◌&&◌, List, [], ◌∷◌, length, Bool, true, false, Option, Some, None, Result, Ok, Err, IsTrue, nat_le, nat_lt, nat_eq, is_some, slice_get, refl, subst, sym, ap, arith}
use Rattle.std.specs.List.{list_all}
use Rattle.std.proofs.lemmas.Bool.{leb-true, eqb-true}
pub use Rattle.bqn_base.proofs.Lists.{some_same}
use Rattle.bqn_base.specs.declared.fault.Fault.{Fault}
use Rattle.bqn_rows.specs.Plain.{Value, Number, Character, Array, Given, Derived, Function, Modifier1, Modifier2, Namespace, Values, none, more, count, is_given}
use Rattle.bqn_base.specs.declared.place.Place.{Place}
use Rattle.bqn_base.specs.Places.{nowhere}
use Rattle.bqn_rows.specs.Raised.{Answer, unplaced, placed}
use Rattle.bqn_rows.specs.Relations.{both}
use Rattle.bqn_rows.specs.Calls.{Arguments, Call, End, Enter, Turn, Write, Inside, call}
use Rattle.bqn_rows.specs.Running.{Res, Gives, Ends, then_do, run}
use Rattle.bqn_base.specs.declared.fault.Fault.TheVariants.{Undefined, TooDeep}
use Rattle.bqn_syntax.specs.declared.tree.Class.{Class}
use Rattle.bqn_syntax.specs.declared.tree.Class.TheVariants as class
use Rattle.bqn_meaning.specs.Actions.{at, go_on, ◌>>=◌, pure, known, found, used, where_so}
use Rattle.bqn_meaning.specs.Frames.{Entry, left_of, right_of, left_operand, right_operand, modifier_of}
use Rattle.bqn_meaning.specs.Matching.{Fit, Fits, Mismatch, Missing, and_fit, must_fit, does_fit}
use Rattle.bqn_meaning.specs.Deriving.{listed, with_one, with_two, modified_one, modified_two, atop, fork, applied}
use Rattle.bqn_meaning.specs.Meaning.{Ending, NextBody, EndsWith, truth, tested}
use Rattle.bqn_code.specs.declared.code.Body.{Body}
use Rattle.bqn_code.specs.declared.instr.Instr.{Instr}
use Rattle.bqn_code.specs.declared.instr.Instr.TheVariants as instr
use Rattle.bqn_code.specs.Plain.{Pattern, Skip, Define, Change, ListPattern, Literal, Patterns, no_patterns, and_patterns, parts}
use Rattle.bqn_execution.specs.States.{State, Halted, Spends, Sticks, Does, Ran, Calling, stuck, stepped, wrote}
use Rattle.bqn_code.specs.Numbering.{Table, BlockAt, BodyAt, body_number, class_of}
use Rattle.bqn_execution.specs.Variables as v
use Rattle.bqn_execution.specs.Variables.{Frame}
use Rattle.bqn_execution.specs.Patterns as p
use Rattle.bqn_execution.specs.Operands as o
use Rattle.bqn_execution.specs.Operands.{Stack, Go, one, pair, triple, taken, pushed, value}
use Rattle.bqn_execution.specs.Execution as e
use Rattle.bqn_code.specs.Heights.{takes, gives, is_last, is_balanced, is_empty}
use Rattle.bqn_code.specs.declared.constant.Const.{Const}
use Rattle.bqn_execution.specs.Programs.{top_answer, top_frame, run_top, run_all, begun}
use Rattle.bqn_execution.specs.Sureness.{Sure}
use Rattle.bqn_execution.proofs.Sound.{AllSure, is_value_class, is_run_class, has_object, is_sound, SoundTable}

pub no : IsTrue false → ⊥
no p = subst (λ b. elim b as (λ z. Type 0) [ true ↦ ⊥ | false ↦ Unit {0} ]) p tt

pub none_some : {A : Type 0} {x : A} → None ≡ Some x → ⊥
none_some q = no (ap is_some q)

pub and_left : (a b : Bool) → IsTrue (a && b) → IsTrue a
and_left true b h = refl
and_left false b h = h

pub and_right : (a b : Bool) → IsTrue (a && b) → IsTrue b
and_right true b h = h
and_right false b h = absurd (no h)

pub all_at : {A : Type 0} (test : A → Bool) (xs : List A) (k : ℕ) (x : A) → IsTrue (list_all test xs) → slice_get xs k ≡ Some x → IsTrue (test x)
all_at test [] k x h q = absurd (none_some q)
all_at test (y ∷ ys) zero x h q = subst (λ z. IsTrue (test z)) (some_same q) (and_left (test y) _ h)
all_at test (y ∷ ys) (suc k) x h q = all_at test ys k x (and_right (test y) _ h) q

bind_sure : {A B : Type 0} (m : Does A) (go : A → Does B) → AllSure m → ((x : A) → AllSure (go x)) → AllSure (m >>= go)
bind_sure {A = A} {B = B} m go a b s = by (m s) (a s)
  where
    by : (r : Ran A) → Sure r → Sure (then_do r (go_on go))
    by (Gives (Ok x) u) q = b x u
    by (Gives (Err f) u) q = tt
    by (Ends (Spends u)) q = tt
    by (Ends (Sticks u)) q = absurd q

at_sure : {A : Type 0} (p : Place) (m : Does A) → AllSure m → AllSure (at p m)
at_sure {A = A} p m a s = by (m s) (a s)
  where
    by : (r : Ran A) → Sure r → Sure (then_do r (λ q. Gives (placed p q)))
    by (Gives x u) q = tt
    by (Ends (Spends u)) q = tt
    by (Ends (Sticks u)) q = absurd q

value_sure : (m : Does Value) → AllSure m → AllSure (value m)
value_sure m a = bind_sure m _ a (λ x s. tt)

found_sure : {A : Type 0} (f : Fault) (x : Option A) → AllSure {A = A} (found f x)
found_sure f None s = tt
found_sure f (Some x) s = tt

where_sure : {A : Type 0} (x : A) (m : Does A) → AllSure m → (b : Bool) → AllSure (where_so x m b)
where_sure x m a true = a
where_sure x m a false = λ s. tt

one_sure : (go : Option Value → Go) (st : Stack) → 1 ≤ length st → ((x : Option Value) (rest : Stack) → length rest ≡ length st - 1 → AllSure (go x rest)) → AllSure (one go st)
one_sure go [] h a = absurd (omega arith)
one_sure go (x ∷ st) h a = a x st (omega arith)

pair_sure : (go : Option Value → Option Value → Go) (st : Stack) → 2 ≤ length st → ((x y : Option Value) (rest : Stack) → length rest ≡ length st - 2 → AllSure (go x y rest)) → AllSure (pair go st)
pair_sure go [] h a = absurd (omega arith)
pair_sure go (x ∷ []) h a = absurd (omega arith)
pair_sure go (x ∷ (y ∷ st)) h a = a x y st (omega arith)

triple_sure : (go : Option Value → Option Value → Option Value → Go) (st : Stack) → 3 ≤ length st → ((x y z : Option Value) (rest : Stack) → length rest ≡ length st - 3 → AllSure (go x y z rest)) → AllSure (triple go st)
triple_sure go [] h a = absurd (omega arith)
triple_sure go (x ∷ []) h a = absurd (omega arith)
triple_sure go (x ∷ (y ∷ [])) h a = absurd (omega arith)
triple_sure go (x ∷ (y ∷ (z ∷ st))) h a = a x y z st (omega arith)

taken_sure : (n : ℕ) (xs : Option Values) (go : Option Values → Go) (st : Stack) → n ≤ length st → ((ys : Option Values) (rest : Stack) → length rest ≡ length st - n → AllSure (go ys rest)) → AllSure (taken n xs go st)
taken_sure zero xs go st h a = a xs st (omega arith)
taken_sure (suc n) xs go [] h a = absurd (omega arith)
taken_sure (suc n) xs go (x ∷ st) h a = taken_sure n (both x xs) go st (omega arith) (λ ys rest q. a ys rest (omega arith))

known_sure : {A : Type 0} (r : Result A Fault) → AllSure {A = A} (known r)
known_sure r s = tt

used_sure : {A B : Type 0} (x : Option A) (go : A → Does B) → ((y : A) → AllSure (go y)) → AllSure (used x >>= go)
used_sure x go a = bind_sure (used x) go (found_sure _ x) a

module _ (t : Table) (f : Frame) where
  load_sure : (up slot : ℕ) → AllSure (v.load t f up slot)
  load_sure up slot s = found_sure _ (v.value_at t f up slot s) s

  change_sure : (up slot : ℕ) (x : Value) → AllSure (v.change t f up slot x)
  change_sure up slot x = bind_sure (v.load t f up slot) _ (load_sure up slot) (λ old s. tt)

  read_sure : (n : ℕ) (slot : Option ℕ) → AllSure (v.read_field n slot)
  read_sure n None s = tt
  read_sure n (Some slot) s = found_sure _ (v.variable s slot n) s

  field_sure : (name : Option (List ℕ)) (x : Value) → AllSure (v.field t name x)
  field_sure name (Namespace n) = λ s. read_sure n (v.field_place t s n name) s
  field_sure name (Number m) = λ s. tt
  field_sure name (Character c) = λ s. tt
  field_sure name (Array shape xs fill) = λ s. tt
  field_sure name (Given code) = λ s. tt
  field_sure name (Derived maker parts) = λ s. tt
  field_sure name (Function b e xs) = λ s. tt
  field_sure name (Modifier1 b e) = λ s. tt
  field_sure name (Modifier2 b e) = λ s. tt

  and_sure : (m : Does Fit) → AllSure m → (r : Fit) → AllSure (and_fit m r)
  and_sure m a Fits = a
  and_sure m a Mismatch = λ s. tt
  and_sure m a Missing = λ s. tt

  mutual
    fit_sure : (q : Pattern) (x : Value) → AllSure (p.fit t f q x)
    fit_sure Skip x = λ s. tt
    fit_sure (Define slot name) x = λ s. tt
    fit_sure (Change up slot name) x = bind_sure (v.change t f up slot x) _ (change_sure up slot x) (λ u s. tt)
    fit_sure (Literal k) x = λ s. tt
    fit_sure (ListPattern qs) (Array (n ∷ []) xs fill) = where_sure Mismatch (p.all_fit t f qs xs) (all_sure qs xs) (nat_eq (parts qs) (count xs))
    fit_sure (ListPattern qs) (Array [] xs fill) = λ s. tt
    fit_sure (ListPattern qs) (Array (n ∷ (m ∷ shape)) xs fill) = λ s. tt
    fit_sure (ListPattern qs) (Namespace n) = where_sure Mismatch _ (λ s. where_sure Missing (p.fields_fit t f qs n) (fields_sure qs n) (p.has_fields t f s n qs) s) (p.are_names qs)
    fit_sure (ListPattern qs) (Number m) = λ s. tt
    fit_sure (ListPattern qs) (Character c) = λ s. tt
    fit_sure (ListPattern qs) (Given code) = λ s. tt
    fit_sure (ListPattern qs) (Derived maker parts) = λ s. tt
    fit_sure (ListPattern qs) (Function b e xs) = λ s. tt
    fit_sure (ListPattern qs) (Modifier1 b e) = λ s. tt
    fit_sure (ListPattern qs) (Modifier2 b e) = λ s. tt

    all_sure : (qs : Patterns) (xs : Values) → AllSure (p.all_fit t f qs xs)
    all_sure no_patterns xs = λ s. tt
    all_sure (and_patterns q qs) none = λ s. tt
    all_sure (and_patterns q qs) (more x xs) = bind_sure (p.fit t f q x) _ (fit_sure q x) (and_sure (p.all_fit t f qs xs) (all_sure qs xs))

    fields_sure : (qs : Patterns) (n : ℕ) → AllSure (p.fields_fit t f qs n)
    fields_sure no_patterns n = λ s. tt
    fields_sure (and_patterns q qs) n = bind_sure (v.field t (p.name_of f q) (Namespace n)) _ (field_sure (p.name_of f q) (Namespace n)) (λ x. bind_sure (p.fit t f q x) _ (fit_sure q x) (and_sure (p.fields_fit t f qs n) (fields_sure qs n)))

  must_sure : (r : Fit) → AllSure (must_fit r)
  must_sure Fits s = tt
  must_sure Mismatch s = tt
  must_sure Missing s = tt

  bind_pattern_sure : (q : Pattern) (x : Value) → AllSure (p.bind t f q x)
  bind_pattern_sure q x = bind_sure (p.fit t f q x) _ (fit_sure q x) must_sure

stays_sure : (store : Value → Does (Unit {0})) → ((x : Value) → AllSure (store x)) → (x : Option Value) → AllSure (e.stays store x)
stays_sure store a x = used_sure x _ (λ y. bind_sure (store y) _ (a y) (λ u s. tt))

module _ (t : Table) (args : Value) (h : Calling) (hs : (c : Call) → AllSure (h c)) (f : Frame) where
  constant_sure : (c : Option Const) → IsTrue (is_some c) → AllSure (o.constant c)
  constant_sure None there = absurd (no there)
  constant_sure (Some c) there = λ s. tt

  block_value_sure : (c : Option Class) (b n : ℕ) → IsTrue (is_value_class c) → AllSure (o.block_value h c b n)
  block_value_sure None b n there = absurd (no there)
  block_value_sure (Some class.Immediate) b n there = absurd (no there)
  block_value_sure (Some class.Function) b n there = hs _
  block_value_sure (Some class.Mod1) b n there = hs _
  block_value_sure (Some class.Mod1Deferred) b n there = hs _
  block_value_sure (Some class.Mod2) b n there = hs _
  block_value_sure (Some class.Mod2Deferred) b n there = hs _

  block_answer_sure : (c : Option Class) (b n : ℕ) → IsTrue (is_run_class c) → AllSure (o.block_answer h c b n)
  block_answer_sure None b n there = absurd (no there)
  block_answer_sure (Some class.Immediate) b n there = hs _
  block_answer_sure (Some class.Function) b n there = absurd (no there)
  block_answer_sure (Some class.Mod1) b n there = absurd (no there)
  block_answer_sure (Some class.Mod1Deferred) b n there = absurd (no there)
  block_answer_sure (Some class.Mod2) b n there = absurd (no there)
  block_answer_sure (Some class.Mod2Deferred) b n there = absurd (no there)

  pattern_sure : (q : Option Pattern) (go : Pattern → Does Ending) → IsTrue (is_some q) → ((r : Pattern) → AllSure (go r)) → AllSure (e.with_pattern q go)
  pattern_sure None go there a = absurd (no there)
  pattern_sure (Some r) go there a = a r

  applied_sure : (g w x : Option Value) → AllSure (applied h g w x)
  applied_sure None w x = λ s. tt
  applied_sure (Some g) w None = λ s. tt
  applied_sure (Some g) w (Some x) = value_sure (h (call g w x)) (hs (call g w x))

  one_modified : (m g : Option Value) → AllSure (modified_one (class_of t) h m g)
  one_modified m g = used_sure m _ (λ m. used_sure g _ (λ g. value_sure _ (hs (with_one (class_of t) m g))))

  two_modified : (m g k : Option Value) → AllSure (modified_two (class_of t) h m g k)
  two_modified m g k = used_sure m _ (λ m. used_sure g _ (λ g. used_sure k _ (λ k. value_sure _ (hs (with_two (class_of t) m g k)))))

  -- each stack of this height
  abbrev After : ℕ → Go → Type 0
  After height next = (st : Stack) → length st ≡ height → AllSure (next st)

  pushed_sure : (p : Place) (m : Does (Option Value)) (next : Go) (st : Stack) (height : ℕ) → AllSure m → suc (length st) ≡ height → After height next → AllSure (o.pushed p m next st)
  pushed_sure p m next st height a q k = bind_sure (at p m) _ (at_sure p m a) (λ x. k (x ∷ st) q)

  given_sure : (code : ℕ) → IsTrue (nat_lt code 70) → AllSure (o.given_value args code)
  given_sure code there = by (is_given code) refl (nat_eq code 69) refl
    where
      by : (b : Bool) → is_given code ≡ b → (c : Bool) → nat_eq code 69 ≡ c → AllSure {A = Value} (elim b [ true ↦ pure (Given code) | false ↦ elim c [ true ↦ pure args | false ↦ stuck ] ])
      by true q c r = λ s. tt
      by false q true r = λ s. tt
      by false q false r = absurd (grind arith)

  act_sure : (i : Instr) (pl : Place) (next : Go) (st : Stack) → IsTrue (has_object t f.here i) → takes i ≤ length st → is_last i ≡ false → After (length st - takes i + gives i) next → AllSure (e.act t args h f i pl next st)
  act_sure (instr.Const k) pl next st there q l a = pushed_sure pl (value (o.constant (slice_get f.here.code.constants k))) next st _ (value_sure _ (constant_sure (slice_get f.here.code.constants k) there)) (omega arith) a
  act_sure (instr.Given code) pl next st there q l a = pushed_sure pl (value (o.given_value args code)) next st _ (value_sure _ (given_sure code there)) (omega arith) a
  act_sure instr.Nothing pl next st there q l a = a (None ∷ st) (omega arith)
  act_sure (instr.Block zero) pl next st there q l a = absurd (no there)
  act_sure (instr.Block (suc b)) pl next st there q l a = pushed_sure pl (value (o.block_value h (class_of t (f.here.blocks + suc b)) (f.here.blocks + suc b) f.environment)) next st _ (value_sure _ (block_value_sure (class_of t (f.here.blocks + suc b)) _ _ there)) (omega arith) a
  act_sure (instr.Run zero) pl next st there q l a = absurd (no there)
  act_sure (instr.Run (suc b)) pl next st there q l a = pushed_sure pl (value (o.block_answer h (class_of t (f.here.blocks + suc b)) (f.here.blocks + suc b) f.environment)) next st _ (value_sure _ (block_answer_sure (class_of t (f.here.blocks + suc b)) _ _ there)) (omega arith) a
  act_sure (instr.Load up slot) pl next st there q l a = pushed_sure pl (value (v.load t f up slot)) next st _ (value_sure _ (load_sure t f up slot)) (omega arith) a
  act_sure (instr.Define slot) pl next st there q l a = one_sure _ st q (λ x rest m. pushed_sure pl (e.stays (v.define t f slot) x) next rest _ (stays_sure (v.define t f slot) (λ y s. tt) x) (omega arith) a)
  act_sure (instr.Change up slot) pl next st there q l a = one_sure _ st q (λ x rest m. pushed_sure pl (e.stays (v.change t f up slot) x) next rest _ (stays_sure (v.change t f up slot) (change_sure t f up slot) x) (omega arith) a)
  act_sure instr.Pop pl next st there q l a = one_sure (λ x. next) st q (λ x rest m. a rest (omega arith))
  act_sure (instr.List n) pl next st there q l a = taken_sure n (Some none) _ st q (λ xs rest m. pushed_sure pl (value (known (listed xs))) next rest _ (value_sure (known (listed xs)) (known_sure (listed xs))) (omega arith) a)
  act_sure instr.Call1 pl next st there q l a = pair_sure _ st q (λ g x rest m. pushed_sure pl (applied h g None x) next rest _ (applied_sure g None x) (omega arith) a)
  act_sure instr.Call2 pl next st there q l a = triple_sure _ st q (λ w g x rest m. pushed_sure pl (applied h g w x) next rest _ (applied_sure g w x) (omega arith) a)
  act_sure instr.Derive1 pl next st there q l a = pair_sure _ st q (λ g k rest m. pushed_sure pl (modified_one (class_of t) h k g) next rest _ (one_modified k g) (omega arith) a)
  act_sure instr.Derive2 pl next st there q l a = triple_sure _ st q (λ g k j rest m. pushed_sure pl (modified_two (class_of t) h k g j) next rest _ (two_modified k g j) (omega arith) a)
  act_sure instr.Train2 pl next st there q l a = pair_sure _ st q (λ g k rest m. pushed_sure pl (value (known (atop g k))) next rest _ (value_sure (known (atop g k)) (known_sure (atop g k))) (omega arith) a)
  act_sure instr.Train3 pl next st there q l a = triple_sure _ st q (λ g k j rest m. pushed_sure pl (value (known (fork g k j))) next rest _ (value_sure (known (fork g k j)) (known_sure (fork g k j))) (omega arith) a)
  act_sure (instr.Field k) pl next st there q l a = one_sure _ st q (λ x rest m. pushed_sure pl (value (used x >>= v.field t (slice_get f.here.code.names k))) next rest _ (value_sure _ (used_sure x _ (field_sure t f (slice_get f.here.code.names k)))) (omega arith) a)
  act_sure (instr.Bind k) pl next st there q l a = pattern_sure (slice_get f.here.code.patterns k) _ there (λ r. one_sure _ st q (λ x rest m. pushed_sure pl (e.stays (p.bind t f r) x) next rest _ (stays_sure (p.bind t f r) (bind_pattern_sure t f r) x) (omega arith) a))
  act_sure (instr.Match k) pl next st there q l a = pattern_sure (slice_get f.here.code.patterns k) _ there (λ r. one_sure _ st q (λ x rest m. bind_sure (at pl (used x >>= (λ v. p.fit t f r v >>= (λ u. pure (does_fit u))))) _ (at_sure pl _ (used_sure x _ (λ y. bind_sure (p.fit t f r y) _ (fit_sure t f r y) (λ u s. tt)))) (where_sure NextBody (next rest) (a rest (omega arith)))))
  act_sure instr.Check pl next st there q l a = one_sure _ st q (λ x rest m. bind_sure (at pl (tested x)) _ (at_sure pl _ (used_sure x _ (λ y. known_sure (truth y)))) (where_sure NextBody (next rest) (a rest (omega arith))))
  act_sure instr.Left pl next st there q l a = a (left_of f.arguments ∷ st) (omega arith)
  act_sure instr.Right pl next st there q l a = a (right_of f.arguments ∷ st) (omega arith)
  act_sure instr.Own pl next st there q l a = a (_ ∷ st) (omega arith)
  act_sure instr.LeftOperand pl next st there q l a = pushed_sure pl (value (found Undefined (left_operand f.operands))) next st _ (value_sure _ (found_sure Undefined (left_operand f.operands))) (omega arith) a
  act_sure instr.RightOperand pl next st there q l a = pushed_sure pl (value (found Undefined (right_operand f.operands))) next st _ (value_sure _ (found_sure Undefined (right_operand f.operands))) (omega arith) a
  act_sure instr.Modifier pl next st there q l a = pushed_sure pl (value (found Undefined (modifier_of f.class f.block f.outer))) next st _ (value_sure _ (found_sure Undefined (modifier_of f.class f.block f.outer))) (omega arith) a
  act_sure instr.Return pl next st there q l a = absurd (no (sym l))
  act_sure instr.Space pl next st there q l a = absurd (no (sym l))

  last_sure : (i : Instr) (pl : Place) (next : Go) (st : Stack) → is_last i ≡ true → length st ≡ takes i → AllSure (e.act t args h f i pl next st)
  last_sure instr.Return pl next [] l q = absurd (omega arith)
  last_sure instr.Return pl next (x ∷ []) l q = λ s. tt
  last_sure instr.Return pl next (x ∷ (y ∷ st)) l q = absurd (omega arith)
  last_sure instr.Space pl next [] l q = λ s. tt
  last_sure instr.Space pl next (x ∷ st) l q = absurd (omega arith)
  last_sure _ pl next st l q = absurd (no l)

  one_sure_more : (i : Instr) (pl : Place) (next : Go) (is : List Instr) (st : Stack) → IsTrue (list_all (has_object t f.here) (i ∷ is)) → IsTrue (is_balanced (length st) (i ∷ is)) →
      ((rest : Stack) → IsTrue (list_all (has_object t f.here) is) → IsTrue (is_balanced (length rest) is) → AllSure (next rest)) → AllSure (e.act t args h f i pl next st)
  one_sure_more i pl next is st there b on = by (is_last i) refl b (λ q rest m. on rest (and_right (has_object t f.here i) _ there) (subst (λ k. IsTrue (is_balanced k is)) (sym m) q))
    where
      by : (l : Bool) → is_last i ≡ l → IsTrue (elim l [ true ↦ nat_eq (length st) (takes i) && is_empty is | false ↦ nat_le (takes i) (length st) && is_balanced (length st - takes i + gives i) is ]) →
          (IsTrue (is_balanced (length st - takes i + gives i) is) → After (length st - takes i + gives i) next) → AllSure (e.act t args h f i pl next st)
      by true l b again = last_sure i pl next st l (eqb-true _ _ (and_left (nat_eq (length st) (takes i)) _ b))
      by false l b again = act_sure i pl next st (and_left (has_object t f.here i) _ there) (leb-true _ _ (and_left (nat_le (takes i) (length st)) _ b)) l (again (and_right (nat_le (takes i) (length st)) _ b))

  exec_sure : (is : List Instr) (ps : List Place) (st : Stack) → IsTrue (list_all (has_object t f.here) is) → IsTrue (is_balanced (length st) is) → AllSure (e.exec t args h f (e.with_places is ps) st)
  exec_sure [] ps st there b = absurd (no b)
  exec_sure (i ∷ is) [] st there b = one_sure_more i nowhere (e.exec t args h f (e.with_places is [])) is st there b (exec_sure is [])
  exec_sure (i ∷ is) (p ∷ ps) st there b = one_sure_more i p (e.exec t args h f (e.with_places is ps)) is st there b (exec_sure is ps)

-- ---- blocks

stepped_sure : {A : Type 0} (go : State → Res Halted State A) → ((s : State) → Sure (go s)) → (s : State) → Sure (stepped go s)
stepped_sure {A = A} go a s = by s.left
  where
    by : (left : ℕ) → Sure {A = A} (elim left [ zero ↦ Ends (Spends s) | suc n ↦ go (record s { left = n }) ])
    by zero = tt
    by (suc n) = a _

within_sure : {A : Type 0} (body slots parent : ℕ) (next : ℕ → Does A) → ((n : ℕ) → AllSure (next n)) → AllSure (e.within_new body slots parent next)
within_sure body slots parent next a s = a (length s.environments) _

or_else_sure : (others : Does Value) → AllSure others → (r : Ending) → AllSure (e.or_else others r)
or_else_sure others a NextBody = a
or_else_sure others a (EndsWith p x) = at_sure p _ (found_sure _ x)

module _ (t : Table) (args : Value) (h : Calling) (hs : (c : Call) → AllSure (h c)) (b : BlockAt) (x : Entry) where
  tries_sure : (k : ℕ) (bodies : List Body) → IsTrue (list_all (is_sound t b.here) bodies) → AllSure (e.tries t args h b x k bodies)
  tries_sure k [] sound = λ s. tt
  tries_sure k (body ∷ bodies) sound = by (tries_sure (suc k) bodies (and_right (is_sound t b.here body) _ sound)) (and_left (is_sound t b.here body) _ sound) (e.is_meant body.kind x.arguments)
    where
      others : Does Value
      others = e.tries t args h b x (suc k) bodies

      number : ℕ
      number = body_number b.here k

      ran : ℕ → Does Ending
      ran n = e.exec t args h (e.frame_of b x number n) (e.placed_code body) []

      by : AllSure others → IsTrue (is_sound t b.here body) → (meant : Bool) → AllSure (elim meant [ true ↦ e.tried t args h b x others number body | false ↦ others ])
      by sure own true =
          stepped_sure (e.within_new number body.slots x.outer (λ n. ran n >>= e.or_else others)) (within_sure number body.slots x.outer (λ n. ran n >>= e.or_else others) (λ n. bind_sure (ran n) _
          (exec_sure t args h hs (e.frame_of b x number n) body.code body.places [] (and_left (list_all (has_object t b.here) body.code) _ own) (and_right (list_all (has_object t b.here) body.code) _ own))
          (or_else_sure others sure)))
      by sure own false = sure

then_sure : {A B : Type 0} (r : Res Halted State A) (go : A → State → Res Halted State B) → Sure r → ((x : A) (s : State) → Sure (go x s)) → Sure (then_do r go)
then_sure (Gives x u) go q a = a x u
then_sure (Ends (Spends u)) go q a = tt
then_sure (Ends (Sticks u)) go q a = absurd q

run_sure : (t : Table) (args : Value) (enter : (block environment : ℕ) → Values → Arguments → State → Res Halted State Answer) (inner : Calling) →
    ((b n : ℕ) (fs : Values) (xs : Arguments) → AllSure (enter b n fs xs)) → ((c : Call) → AllSure (inner c)) → (c : Call) → AllSure (run (e.replies t args) enter inner c)
run_sure t args enter inner a i (End r) = λ s. tt
run_sure t args enter inner a i (Enter b n fs xs go) = λ s. then_sure (enter b n fs xs s) _ (a b n fs xs s) (λ r u. run_sure t args enter inner a i (go r) u)
run_sure t args enter inner a i (Turn go) = λ s. then_sure (stepped (λ u. Gives tt u) s) _ (stepped_sure (λ u. Gives tt u) (λ u. tt) s) (λ r u. run_sure t args enter inner a i (go r) u)
run_sure t args enter inner a i (Write text go) = λ s. run_sure t args enter inner a i (go tt) (wrote text s)
run_sure t args enter inner a i (Inside c go) = λ s. then_sure (inner c s) _ (i c s) (λ r u. run_sure t args enter inner a i (go r) u)

entered_sure : (t : Table) (args : Value) → SoundTable t → (h : Calling) → ((c : Call) → AllSure (h c)) → (x : Entry) → AllSure (e.entered t args h (slice_get t.blocks x.block) x)
entered_sure t args sound h hs x = by (slice_get t.blocks x.block) refl
  where
    by : (o : Option BlockAt) → slice_get t.blocks x.block ≡ o → AllSure (e.entered t args h o x)
    by None q = λ s. tt
    by (Some b) q = tries_sure t args h hs b x b.first b.block.bodies (all_at (λ y. list_all (is_sound t y.here) y.block.bodies) t.blocks x.block b sound.blocks q)

-- where each instruction finds its operands and its objects, no call is stuck
pub runs_sure : (t : Table) (args : Value) → SoundTable t → (room : ℕ) (c : Call) → AllSure (e.runs t args room c)
runs_sure t args sound zero c = run_sure t args (λ b n fs xs s. Gives (Err (unplaced TooDeep)) s) (λ c s. Gives (Err (unplaced TooDeep)) s) (λ b n fs xs s. tt) (λ c s. tt) c
runs_sure t args sound (suc room) c = run_sure t args ((e.replies t args).enter room (e.runs t args room)) (e.runs t args room) (λ b n fs xs. entered_sure t args sound (e.runs t args room) (runs_sure t args sound room) (record { block = b; outer = n; operands = fs; arguments = xs })) (runs_sure t args sound room) c

top_sure : (r : Ending) → AllSure (top_answer r)
top_sure NextBody = λ s. tt
top_sure (EndsWith p x) = λ s. tt

-- and no program is stuck
pub programs_sure : (t : Table) (args : Value) (room : ℕ) → SoundTable t → AllSure (run_all t args room)
programs_sure t args room sound = by (slice_get t.bodies 0) refl
  where
    by : (o : Option BodyAt) → slice_get t.bodies 0 ≡ o → AllSure (run_top t args room o)
    by None q = absurd (no (subst (λ o. IsTrue (is_some o)) q sound.top))
    by (Some b) q = λ s. stepped_sure _ (bind_sure (e.exec t args (e.runs t args room) (top_frame b) (e.placed_code b.body) []) _ (exec_sure t args (e.runs t args room) (runs_sure t args sound room) (top_frame b) b.body.code b.body.places [] (and_left (list_all (has_object t b.here) b.body.code) _ (all_at (λ x. is_sound t x.here x.body) t.bodies 0 b sound.bodies q)) (and_right (list_all (has_object t b.here) b.body.code) _ (all_at (λ x. is_sound t x.here x.body) t.bodies 0 b sound.bodies q))) top_sure) (begun t s)
