-- What was written before makes no difference to what code does.
use Rattle.std.proofs.Common.{◌≡◌, ◌∙◌, ◌++◌, ℕ, zero, suc, ◌&&◌, List, [], ◌∷◌, length, Bool, true, false, Option, Some, None, Result, Ok, Err, nat_eq, is_some, slice_get, refl, ap, append_assoc}
use Rattle.std.specs.Prelude.{encode_utf8_all}
use Rattle.bqn_base.specs.declared.fault.Fault.{Fault}
use Rattle.bqn_base.specs.declared.fault.Fault.TheVariants.{Undefined, TooDeep}
use Rattle.bqn_base.specs.declared.place.Place.{Place}
use Rattle.bqn_rows.specs.Plain.{Value, Number, Character, Array, Given, Derived, Function, Modifier1, Modifier2, Namespace, Values, none, more, count, is_given}
use Rattle.bqn_rows.specs.Raised.{Raised, Answer, unplaced, placed}
use Rattle.bqn_rows.specs.Relations.{both}
use Rattle.bqn_rows.specs.Calls.{Arguments, Call, End, Enter, Turn, Write, Inside, call}
use Rattle.bqn_rows.specs.Running.{Res, Gives, Ends, then_do, run}
use Rattle.bqn_syntax.specs.declared.tree.Class.{Class}
use Rattle.bqn_syntax.specs.declared.tree.Class.TheVariants as class
use Rattle.bqn_meaning.specs.Actions.{at, go_on, ◌>>=◌, pure, known, found, used, where_so}
use Rattle.bqn_meaning.specs.Frames.{Entry, left_of, right_of, left_operand, right_operand, modifier_of}
use Rattle.bqn_meaning.specs.Matching.{Fit, Fits, Mismatch, Missing, and_fit, must_fit, does_fit}
use Rattle.bqn_meaning.specs.Deriving.{listed, with_one, with_two, modified_one, modified_two, atop, fork, applied}
use Rattle.bqn_meaning.specs.Meaning.{Ending, NextBody, EndsWith, truth, tested}
use Rattle.bqn_code.specs.declared.code.Body.{Body}
use Rattle.bqn_code.specs.declared.constant.Const.{Const}
use Rattle.bqn_code.specs.declared.instr.Instr.{Instr}
use Rattle.bqn_code.specs.declared.instr.Instr.TheVariants as instr
use Rattle.bqn_code.specs.Plain.{Pattern, Skip, Define, Change, ListPattern, Literal, Patterns, no_patterns, and_patterns, parts}
use Rattle.bqn_code.specs.Numbering.{Table, BlockAt, BodyAt, block_number, body_number, class_of}
use Rattle.bqn_execution.specs.States.{State, Halted, Spends, Sticks, Does, Ran, Calling, stuck, stepped, wrote}
use Rattle.bqn_execution.specs.Variables as v
use Rattle.bqn_execution.specs.Variables.{Frame}
use Rattle.bqn_execution.specs.Patterns as p
use Rattle.bqn_execution.specs.Operands as o
use Rattle.bqn_execution.specs.Operands.{Stack, Go, one, pair, triple, taken, pushed, value}
use Rattle.bqn_execution.specs.Execution as e
use Rattle.bqn_execution.specs.Programs.{top_answer, top_frame, run_top, begun}
use Rattle.bqn_execution.specs.Uniform.{Uniform, behind, onto, OutputMakesNoDifference}

bind_uniform : {A B : Type 0} (m : Does A) (go : A → Does B) → Uniform m → ((x : A) → Uniform (go x)) → Uniform (m >>= go)
bind_uniform {A = A} {B = B} m go a b w s = ap (λ (r : Ran A). then_do r (go_on go)) (a w s) ∙ by (m s)
  where
    by : (r : Ran A) → then_do (onto w r) (go_on go) ≡ onto w (then_do r (go_on go))
    by (Gives (Ok x) u) = b x w u
    by (Gives (Err f) u) = refl
    by (Ends (Spends u)) = refl
    by (Ends (Sticks u)) = refl

at_uniform : {A : Type 0} (l : Place) (m : Does A) → Uniform m → Uniform (at l m)
at_uniform {A = A} l m a w s = ap (λ (r : Ran A). then_do r (λ q. Gives (placed l q))) (a w s) ∙ by (m s)
  where
    by : (r : Ran A) → then_do (onto w r) (λ q. Gives (placed l q)) ≡ onto w (then_do r (λ q. Gives (placed l q)))
    by (Gives x u) = refl
    by (Ends (Spends u)) = refl
    by (Ends (Sticks u)) = refl

value_uniform : (m : Does Value) → Uniform m → Uniform (value m)
value_uniform m a = bind_uniform m _ a (λ x w s. refl)

found_uniform : {A : Type 0} (f : Fault) (x : Option A) → Uniform {A = Result A Raised} (found f x)
found_uniform f None w s = refl
found_uniform f (Some x) w s = refl

where_uniform : {A : Type 0} (x : A) (m : Does A) → Uniform m → (b : Bool) → Uniform (where_so x m b)
where_uniform x m a true = a
where_uniform x m a false = λ w s. refl

one_uniform : (go : Option Value → Go) (st : Stack) → ((x : Option Value) (rest : Stack) → Uniform (go x rest)) → Uniform (one go st)
one_uniform go [] a = λ w s. refl
one_uniform go (x ∷ st) a = a x st

pair_uniform : (go : Option Value → Option Value → Go) (st : Stack) → ((x y : Option Value) (rest : Stack) → Uniform (go x y rest)) → Uniform (pair go st)
pair_uniform go [] a = λ w s. refl
pair_uniform go (x ∷ []) a = λ w s. refl
pair_uniform go (x ∷ (y ∷ st)) a = a x y st

triple_uniform : (go : Option Value → Option Value → Option Value → Go) (st : Stack) → ((x y z : Option Value) (rest : Stack) → Uniform (go x y z rest)) → Uniform (triple go st)
triple_uniform go [] a = λ w s. refl
triple_uniform go (x ∷ []) a = λ w s. refl
triple_uniform go (x ∷ (y ∷ [])) a = λ w s. refl
triple_uniform go (x ∷ (y ∷ (z ∷ st))) a = a x y z st

taken_uniform : (n : ℕ) (xs : Option Values) (go : Option Values → Go) (st : Stack) → ((ys : Option Values) (rest : Stack) → Uniform (go ys rest)) → Uniform (taken n xs go st)
taken_uniform zero xs go st a = a xs st
taken_uniform (suc n) xs go [] a = λ w s. refl
taken_uniform (suc n) xs go (x ∷ st) a = taken_uniform n (both x xs) go st a

known_uniform : {A : Type 0} (r : Result A Fault) → Uniform {A = Result A Raised} (known r)
known_uniform r w s = refl

used_uniform : {A B : Type 0} (x : Option A) (go : A → Does B) → ((y : A) → Uniform (go y)) → Uniform (used x >>= go)
used_uniform x go a = bind_uniform (used x) go (found_uniform _ x) a

module _ (t : Table) (f : Frame) where
  load_uniform : (up slot : ℕ) → Uniform (v.load t f up slot)
  load_uniform up slot w s = found_uniform _ (v.value_at t f up slot s) w s

  change_uniform : (up slot : ℕ) (x : Value) → Uniform (v.change t f up slot x)
  change_uniform up slot x = bind_uniform (v.load t f up slot) _ (load_uniform up slot) (λ old w s. refl)

  read_uniform : (n : ℕ) (slot : Option ℕ) → Uniform (v.read_field n slot)
  read_uniform n None w s = refl
  read_uniform n (Some slot) w s = found_uniform _ (v.variable s slot n) w s

  field_uniform : (name : Option (List ℕ)) (x : Value) → Uniform (v.field t name x)
  field_uniform name (Namespace n) = λ w s. read_uniform n (v.field_place t s n name) w s
  field_uniform name (Number m) = λ w s. refl
  field_uniform name (Character c) = λ w s. refl
  field_uniform name (Array shape xs fill) = λ w s. refl
  field_uniform name (Given code) = λ w s. refl
  field_uniform name (Derived maker parts) = λ w s. refl
  field_uniform name (Function b e xs) = λ w s. refl
  field_uniform name (Modifier1 b e) = λ w s. refl
  field_uniform name (Modifier2 b e) = λ w s. refl

  and_uniform : (m : Does Fit) → Uniform m → (r : Fit) → Uniform (and_fit m r)
  and_uniform m a Fits = a
  and_uniform m a Mismatch = λ w s. refl
  and_uniform m a Missing = λ w s. refl

  has_same : (qs : Patterns) (n : ℕ) (w : List ℕ) (s : State) → p.has_fields t f (behind w s) n qs ≡ p.has_fields t f s n qs
  has_same no_patterns n w s = refl
  has_same (and_patterns q qs) n w s = ap (λ (b : Bool). is_some (v.field_place t s n (p.name_of f q)) && b) (has_same qs n w s)

  mutual
    fit_uniform : (q : Pattern) (x : Value) → Uniform (p.fit t f q x)
    fit_uniform Skip x = λ w s. refl
    fit_uniform (Define slot name) x = λ w s. refl
    fit_uniform (Change up slot name) x = bind_uniform (v.change t f up slot x) _ (change_uniform up slot x) (λ u w s. refl)
    fit_uniform (Literal k) x = λ w s. refl
    fit_uniform (ListPattern qs) (Array (n ∷ []) xs fill) = where_uniform Mismatch (p.all_fit t f qs xs) (all_uniform qs xs) (nat_eq (parts qs) (count xs))
    fit_uniform (ListPattern qs) (Array [] xs fill) = λ w s. refl
    fit_uniform (ListPattern qs) (Array (n ∷ (m ∷ shape)) xs fill) = λ w s. refl
    fit_uniform (ListPattern qs) (Namespace n) = where_uniform Mismatch _ (λ w s. ap (λ (b : Bool). where_so Missing (p.fields_fit t f qs n) b (behind w s)) (has_same qs n w s) ∙ where_uniform Missing (p.fields_fit t f qs n) (fields_uniform qs n) (p.has_fields t f s n qs) w s) (p.are_names qs)
    fit_uniform (ListPattern qs) (Number m) = λ w s. refl
    fit_uniform (ListPattern qs) (Character c) = λ w s. refl
    fit_uniform (ListPattern qs) (Given code) = λ w s. refl
    fit_uniform (ListPattern qs) (Derived maker parts) = λ w s. refl
    fit_uniform (ListPattern qs) (Function b e xs) = λ w s. refl
    fit_uniform (ListPattern qs) (Modifier1 b e) = λ w s. refl
    fit_uniform (ListPattern qs) (Modifier2 b e) = λ w s. refl

    all_uniform : (qs : Patterns) (xs : Values) → Uniform (p.all_fit t f qs xs)
    all_uniform no_patterns xs = λ w s. refl
    all_uniform (and_patterns q qs) none = λ w s. refl
    all_uniform (and_patterns q qs) (more x xs) = bind_uniform (p.fit t f q x) _ (fit_uniform q x) (and_uniform (p.all_fit t f qs xs) (all_uniform qs xs))

    fields_uniform : (qs : Patterns) (n : ℕ) → Uniform (p.fields_fit t f qs n)
    fields_uniform no_patterns n = λ w s. refl
    fields_uniform (and_patterns q qs) n = bind_uniform (v.field t (p.name_of f q) (Namespace n)) _ (field_uniform (p.name_of f q) (Namespace n)) (λ x. bind_uniform (p.fit t f q x) _ (fit_uniform q x) (and_uniform (p.fields_fit t f qs n) (fields_uniform qs n)))

  must_uniform : (r : Fit) → Uniform (must_fit r)
  must_uniform Fits w s = refl
  must_uniform Mismatch w s = refl
  must_uniform Missing w s = refl

  bind_pattern_uniform : (q : Pattern) (x : Value) → Uniform (p.bind t f q x)
  bind_pattern_uniform q x = bind_uniform (p.fit t f q x) _ (fit_uniform q x) must_uniform

stays_uniform : (store : Value → Does (Unit {0})) → ((x : Value) → Uniform (store x)) → (x : Option Value) → Uniform (e.stays store x)
stays_uniform store a x = used_uniform x _ (λ y. bind_uniform (store y) _ (a y) (λ u w s. refl))

module _ (t : Table) (args : Value) (h : Calling) (hs : (c : Call) → Uniform (h c)) (f : Frame) where
  constant_uniform : (c : Option Const) → Uniform (o.constant c)
  constant_uniform None = λ w s. refl
  constant_uniform (Some c) = λ w s. refl

  block_value_uniform : (c : Option Class) (b n : ℕ) → Uniform (o.block_value h c b n)
  block_value_uniform None b n = λ w s. refl
  block_value_uniform (Some class.Immediate) b n = λ w s. refl
  block_value_uniform (Some class.Function) b n = hs _
  block_value_uniform (Some class.Mod1) b n = hs _
  block_value_uniform (Some class.Mod1Deferred) b n = hs _
  block_value_uniform (Some class.Mod2) b n = hs _
  block_value_uniform (Some class.Mod2Deferred) b n = hs _

  block_answer_uniform : (c : Option Class) (b n : ℕ) → Uniform (o.block_answer h c b n)
  block_answer_uniform None b n = λ w s. refl
  block_answer_uniform (Some class.Immediate) b n = hs _
  block_answer_uniform (Some class.Function) b n = λ w s. refl
  block_answer_uniform (Some class.Mod1) b n = λ w s. refl
  block_answer_uniform (Some class.Mod1Deferred) b n = λ w s. refl
  block_answer_uniform (Some class.Mod2) b n = λ w s. refl
  block_answer_uniform (Some class.Mod2Deferred) b n = λ w s. refl

  pattern_uniform : (q : Option Pattern) (go : Pattern → Does Ending) → ((r : Pattern) → Uniform (go r)) → Uniform (e.with_pattern q go)
  pattern_uniform None go a = λ w s. refl
  pattern_uniform (Some r) go a = a r

  pub applied_uniform : (g w x : Option Value) → Uniform (applied h g w x)
  applied_uniform None w x = λ w s. refl
  applied_uniform (Some g) w None = λ w s. refl
  applied_uniform (Some g) w (Some x) = value_uniform (h (call g w x)) (hs (call g w x))

  one_modified : (m g : Option Value) → Uniform (modified_one (class_of t) h m g)
  one_modified m g = used_uniform m _ (λ m. used_uniform g _ (λ g. value_uniform _ (hs (with_one (class_of t) m g))))

  two_modified : (m g k : Option Value) → Uniform (modified_two (class_of t) h m g k)
  two_modified m g k = used_uniform m _ (λ m. used_uniform g _ (λ g. used_uniform k _ (λ k. value_uniform _ (hs (with_two (class_of t) m g k)))))

  pushed_uniform : (l : Place) (m : Does (Option Value)) (next : Go) (st : Stack) → Uniform m → ((st : Stack) → Uniform (next st)) → Uniform (o.pushed l m next st)
  pushed_uniform l m next st a k = bind_uniform (at l m) _ (at_uniform l m a) (λ x. k (x ∷ st))

  given_uniform : (code : ℕ) → Uniform (o.given_value args code)
  given_uniform code = by (is_given code) (nat_eq code 69)
    where
      by : (b c : Bool) → Uniform {A = Answer} (elim b [ true ↦ pure (Given code) | false ↦ elim c [ true ↦ pure args | false ↦ stuck ] ])
      by true c = λ w s. refl
      by false true = λ w s. refl
      by false false = λ w s. refl

  returned_uniform : (l : Place) (st : Stack) → Uniform (o.returned l st)
  returned_uniform l [] = λ w s. refl
  returned_uniform l (x ∷ []) = λ w s. refl
  returned_uniform l (x ∷ (y ∷ st)) = λ w s. refl

  space_uniform : (l : Place) (st : Stack) → Uniform (o.left_space l f.environment st)
  space_uniform l [] = λ w s. refl
  space_uniform l (x ∷ st) = λ w s. refl

  found_pushed : (l : Place) (x : Option Value) (next : Go) (st : Stack) → ((st : Stack) → Uniform (next st)) → Uniform (o.pushed l (value (found Undefined x)) next st)
  found_pushed l x next st a = pushed_uniform l (value (found Undefined x)) next st (value_uniform _ (found_uniform Undefined x)) a

  pub act_uniform : (i : Instr) (l : Place) (next : Go) (st : Stack) → ((st : Stack) → Uniform (next st)) → Uniform (e.act t args h f i l next st)
  act_uniform (instr.Const k) l next st a = pushed_uniform l (value (o.constant (slice_get f.here.code.constants k))) next st (value_uniform _ (constant_uniform (slice_get f.here.code.constants k))) a
  act_uniform (instr.Given code) l next st a = pushed_uniform l (value (o.given_value args code)) next st (value_uniform _ (given_uniform code)) a
  act_uniform instr.Nothing l next st a = a (None ∷ st)
  act_uniform (instr.Block b) l next st a = pushed_uniform l (value (o.block_value h (class_of t (block_number f.here b)) (block_number f.here b) f.environment)) next st (value_uniform _ (block_value_uniform (class_of t (block_number f.here b)) _ _)) a
  act_uniform (instr.Run b) l next st a = pushed_uniform l (value (o.block_answer h (class_of t (block_number f.here b)) (block_number f.here b) f.environment)) next st (value_uniform _ (block_answer_uniform (class_of t (block_number f.here b)) _ _)) a
  act_uniform (instr.Load up slot) l next st a = pushed_uniform l (value (v.load t f up slot)) next st (value_uniform _ (load_uniform t f up slot)) a
  act_uniform (instr.Define slot) l next st a = one_uniform _ st (λ x rest. pushed_uniform l (e.stays (v.define t f slot) x) next rest (stays_uniform (v.define t f slot) (λ y w s. refl) x) a)
  act_uniform (instr.Change up slot) l next st a = one_uniform _ st (λ x rest. pushed_uniform l (e.stays (v.change t f up slot) x) next rest (stays_uniform (v.change t f up slot) (change_uniform t f up slot) x) a)
  act_uniform instr.Pop l next st a = one_uniform (λ x. next) st (λ x rest. a rest)
  act_uniform (instr.List n) l next st a = taken_uniform n (Some none) _ st (λ xs rest. pushed_uniform l (value (known (listed xs))) next rest (value_uniform (known (listed xs)) (known_uniform (listed xs))) a)
  act_uniform instr.Call1 l next st a = pair_uniform _ st (λ g x rest. pushed_uniform l (applied h g None x) next rest (applied_uniform g None x) a)
  act_uniform instr.Call2 l next st a = triple_uniform _ st (λ w g x rest. pushed_uniform l (applied h g w x) next rest (applied_uniform g w x) a)
  act_uniform instr.Derive1 l next st a = pair_uniform _ st (λ g k rest. pushed_uniform l (modified_one (class_of t) h k g) next rest (one_modified k g) a)
  act_uniform instr.Derive2 l next st a = triple_uniform _ st (λ g k j rest. pushed_uniform l (modified_two (class_of t) h k g j) next rest (two_modified k g j) a)
  act_uniform instr.Train2 l next st a = pair_uniform _ st (λ g k rest. pushed_uniform l (value (known (atop g k))) next rest (value_uniform (known (atop g k)) (known_uniform (atop g k))) a)
  act_uniform instr.Train3 l next st a = triple_uniform _ st (λ g k j rest. pushed_uniform l (value (known (fork g k j))) next rest (value_uniform (known (fork g k j)) (known_uniform (fork g k j))) a)
  act_uniform (instr.Field k) l next st a = one_uniform _ st (λ x rest. pushed_uniform l (value (used x >>= v.field t (slice_get f.here.code.names k))) next rest (value_uniform _ (used_uniform x _ (field_uniform t f (slice_get f.here.code.names k)))) a)
  act_uniform (instr.Bind k) l next st a = pattern_uniform (slice_get f.here.code.patterns k) _ (λ r. one_uniform _ st (λ x rest. pushed_uniform l (e.stays (p.bind t f r) x) next rest (stays_uniform (p.bind t f r) (bind_pattern_uniform t f r) x) a))
  act_uniform (instr.Match k) l next st a = pattern_uniform (slice_get f.here.code.patterns k) _ (λ r. one_uniform _ st (λ x rest.
      bind_uniform (at l (used x >>= (λ v. p.fit t f r v >>= (λ u. pure (does_fit u))))) _
      (at_uniform l _ (used_uniform x _ (λ y. bind_uniform (p.fit t f r y) _ (fit_uniform t f r y) (λ u w s. refl)))) (where_uniform NextBody (next rest) (a rest))))
  act_uniform instr.Check l next st a = one_uniform _ st (λ x rest.
      bind_uniform (at l (tested x)) _ (at_uniform l _ (used_uniform x _ (λ y. known_uniform (truth y)))) (where_uniform NextBody (next rest) (a rest)))
  act_uniform instr.Left l next st a = a (left_of f.arguments ∷ st)
  act_uniform instr.Right l next st a = a (right_of f.arguments ∷ st)
  act_uniform instr.Own l next st a = a (_ ∷ st)
  act_uniform instr.LeftOperand l next st a = found_pushed l (left_operand f.operands) next st a
  act_uniform instr.RightOperand l next st a = found_pushed l (right_operand f.operands) next st a
  act_uniform instr.Modifier l next st a = found_pushed l (modifier_of f.class f.block f.outer) next st a
  act_uniform instr.Return l next st a = returned_uniform l st
  act_uniform instr.Space l next st a = space_uniform l st

  pub exec_uniform : (is : List (Instr × Place)) (st : Stack) → Uniform (e.exec t args h f is st)
  exec_uniform [] st = λ w s. refl
  exec_uniform (i ∷ is) st = act_uniform i.0 i.1 (e.exec t args h f is) st (exec_uniform is)

-- ---- blocks

stepped_uniform : {A : Type 0} (go : State → Res Halted State A) → Uniform go → Uniform (stepped go)
stepped_uniform {A = A} go a w s = by s.left
  where
    by : (left : ℕ) → elim left [ zero ↦ Ends (Spends (behind w s)) | suc n ↦ go (record { environments = s.environments; written = w ++ s.written; left = n }) ] ≡ onto w (elim left [ zero ↦ Ends (Spends s) | suc n ↦ go (record s { left = n }) ])
    by zero = refl
    by (suc n) = a w (record s { left = n })

within_uniform : {A : Type 0} (body slots parent : ℕ) (next : ℕ → Does A) → ((n : ℕ) → Uniform (next n)) → Uniform (e.within_new body slots parent next)
within_uniform body slots parent next a w s = a (length s.environments) w _

pub or_else_uniform : (others : Does Value) → Uniform others → (r : Ending) → Uniform (e.or_else others r)
or_else_uniform others a NextBody = a
or_else_uniform others a (EndsWith p x) = at_uniform p (used x) (found_uniform _ x)

module _ (t : Table) (args : Value) (h : Calling) (hs : (c : Call) → Uniform (h c)) (b : BlockAt) (x : Entry) where
  ran_uniform : (others : Does Value) → Uniform others → (number : ℕ) (body : Body) (n : ℕ) → Uniform (e.exec t args h (e.frame_of b x number n) (e.placed_code body) [] >>= e.or_else others)
  ran_uniform others a number body n =
      bind_uniform (e.exec t args h (e.frame_of b x number n) (e.placed_code body) []) _ (exec_uniform t args h hs (e.frame_of b x number n) (e.placed_code body) []) (or_else_uniform others a)

  tried_uniform : (others : Does Value) → Uniform others → (number : ℕ) (body : Body) → Uniform (e.tried t args h b x others number body)
  tried_uniform others a number body = stepped_uniform _ (within_uniform number body.slots x.outer _ (ran_uniform others a number body))

  pub tries_uniform : (k : ℕ) (bodies : List Body) → Uniform (e.tries t args h b x k bodies)
  tries_uniform k [] = λ w s. refl
  tries_uniform k (body ∷ bodies) = by (tries_uniform (suc k) bodies) (e.is_meant body.kind x.arguments)
    where
      by : Uniform (e.tries t args h b x (suc k) bodies) → (meant : Bool) →
          Uniform (elim meant [ true ↦ e.tried t args h b x (e.tries t args h b x (suc k) bodies) (body_number b.here k) body | false ↦ e.tries t args h b x (suc k) bodies ])
      by others true = tried_uniform (e.tries t args h b x (suc k) bodies) others (body_number b.here k) body
      by others false = others

then_uniform : {A B : Type 0} (w : List ℕ) (r : Res Halted State A) (go : A → State → Res Halted State B) → ((x : A) → Uniform (go x)) → then_do (onto w r) go ≡ onto w (then_do r go)
then_uniform w (Gives x u) go a = a x w u
then_uniform w (Ends (Spends u)) go a = refl
then_uniform w (Ends (Sticks u)) go a = refl

run_uniform : (t : Table) (args : Value) (enter : (block environment : ℕ) → Values → Arguments → State → Res Halted State Answer) (inner : Calling) →
    ((b n : ℕ) (fs : Values) (xs : Arguments) → Uniform (enter b n fs xs)) → ((c : Call) → Uniform (inner c)) → (c : Call) → Uniform (run (e.replies t args) enter inner c)
run_uniform t args enter inner a i (End r) = λ w s. refl
run_uniform t args enter inner a i (Enter b n fs xs go) = λ w s.
    ap (λ r. then_do r (λ q. run (e.replies t args) enter inner (go q))) (a b n fs xs w s) ∙ then_uniform w (enter b n fs xs s) _ (λ r. run_uniform t args enter inner a i (go r))
run_uniform t args enter inner a i (Turn go) = λ w s.
    ap (λ r. then_do r (λ q. run (e.replies t args) enter inner (go q))) (stepped_uniform (λ u. Gives tt u) (λ x u. refl) w s)
    ∙ then_uniform w (stepped (λ u. Gives tt u) s) _ (λ r. run_uniform t args enter inner a i (go r))
run_uniform t args enter inner a i (Write text go) = λ w s.
    ap (λ (z : List ℕ). run (e.replies t args) enter inner (go tt) (record { environments = s.environments; written = z; left = s.left })) (append_assoc w s.written (encode_utf8_all text))
    ∙ run_uniform t args enter inner a i (go tt) w (wrote text s)
run_uniform t args enter inner a i (Inside c go) = λ w s.
    ap (λ r. then_do r (λ q. run (e.replies t args) enter inner (go q))) (i c w s) ∙ then_uniform w (inner c s) _ (λ r. run_uniform t args enter inner a i (go r))

pub entered_uniform : (t : Table) (args : Value) (h : Calling) → ((c : Call) → Uniform (h c)) → (o : Option BlockAt) (x : Entry) → Uniform (e.entered t args h o x)
entered_uniform t args h hs None x = λ w s. refl
entered_uniform t args h hs (Some b) x = tries_uniform t args h hs b x b.first b.block.bodies

pub runs_uniform : (t : Table) (args : Value) (room : ℕ) (c : Call) → Uniform (e.runs t args room c)
runs_uniform t args zero c = run_uniform t args (λ b n fs xs s. Gives (Err (unplaced TooDeep)) s) (λ c s. Gives (Err (unplaced TooDeep)) s) (λ b n fs xs w s. refl) (λ c w s. refl) c
runs_uniform t args (suc room) c =
    run_uniform t args ((e.replies t args).enter room (e.runs t args room)) (e.runs t args room)
    (λ b n fs xs. entered_uniform t args (e.runs t args room) (runs_uniform t args room) (slice_get t.blocks b) (record { block = b; outer = n; operands = fs; arguments = xs }))
    (runs_uniform t args room) c

-- ---- programs

pub top_answer_uniform : (r : Ending) → Uniform (top_answer r)
top_answer_uniform NextBody = λ w s. refl
top_answer_uniform (EndsWith p x) = λ w s. refl

top_uniform : (t : Table) (args : Value) (room : ℕ) (o : Option BodyAt) → Uniform (run_top t args room o)
top_uniform t args room None = λ w s. refl
top_uniform t args room (Some b) = λ w s. stepped_uniform _ (bind_uniform (e.exec t args (e.runs t args room) (top_frame b) (e.placed_code b.body) []) _
    (exec_uniform t args (e.runs t args room) (runs_uniform t args room) (top_frame b) (e.placed_code b.body) []) top_answer_uniform) w (begun t s)

pub output_is_free : OutputMakesNoDifference
output_is_free = record {
  of_calls = runs_uniform;
  of_code = λ t args room f code st. exec_uniform t args (e.runs t args room) (runs_uniform t args room) f code st;
  of_programs = λ t args room. top_uniform t args room (slice_get t.bodies 0);
}

pub ruleset uniform_laws = (output_is_free)
