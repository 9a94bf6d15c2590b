-- Instructions, bodies and calls keep states sound.
use Rattle.std.proofs.Common.{◌≡◌, ◌∙◌, ℕ, not, List, [], ◌∷◌, Bool, true, false, Option, Some, None, Result, IsTrue, is_some, nat_eq, slice_get, refl, subst, sym, ap}
use Rattle.bqn_base.specs.declared.fault.Fault.{Fault}
use Rattle.bqn_base.specs.declared.fault.Fault.TheVariants.{Undefined}
use Rattle.bqn_base.specs.declared.place.Place.{Place}
use Rattle.bqn_rows.specs.Plain.{Value, Given, Function, Namespace, none, count, is_given}
use Rattle.bqn_rows.specs.Calls.{Arguments, no_arguments, alone, two, Call, call}
use Rattle.bqn_syntax.specs.declared.tree.Class.{Class}
use Rattle.bqn_syntax.specs.declared.tree.Class.TheVariants as class
use Rattle.bqn_syntax.specs.grammar.Classes.{waits}
use Rattle.bqn_meaning.specs.Actions.{at, ◌>>=◌, pure, known, found, used, where_so}
use Rattle.bqn_meaning.specs.Frames.{left_of, right_of, left_operand, right_operand, modifier_of}
use Rattle.bqn_meaning.specs.Matching.{does_fit}
use Rattle.bqn_meaning.specs.Deriving.{listed, with_one, with_two, modified_one, modified_two, atop, fork, applied}
use Rattle.bqn_meaning.specs.Meaning.{Ending, NextBody, EndsWith, truth, tested}
use Rattle.bqn_code.specs.declared.constant.Const.{Const}
use Rattle.bqn_code.specs.declared.instr.Instr.{Instr}
use Rattle.bqn_code.specs.declared.instr.Instr.TheVariants as instr
use Rattle.bqn_code.specs.Plain.{Pattern}
use Rattle.bqn_code.specs.Conditions.{is_immediate, is_modifier2}
use Rattle.bqn_code.specs.Numbering.{Table, block_number, class_of, class_in}
use Rattle.bqn_execution.specs.States.{Does, Calling, stuck}
use Rattle.bqn_execution.specs.Variables as v
use Rattle.bqn_execution.specs.Variables.{Frame}
use Rattle.bqn_execution.specs.Patterns as p
use Rattle.bqn_execution.specs.Operands as o
use Rattle.bqn_execution.specs.Operands.{Stack, Go, value}
use Rattle.bqn_execution.specs.Execution as e
use Rattle.bqn_execution.specs.Soundness.{Each, Later, is_modifier1, is_function, is_run_on, Good, GoodIfAny, GoodStack, GoodEnding, Fine, GivenCallsKeep, Standing}
use Rattle.bqn_execution.specs.Formed.{BlockInside, Names}
use Rattle.bqn_execution.proofs.Sure.{no, none_some, and_left}
use Rattle.bqn_execution.proofs.GoodValues as good
use Rattle.bqn_execution.proofs.GoodValues.{same, on, body_later, behind_later, good_later, all_later, any_later, arguments_later, stack_later, GoodResult}
use Rattle.bqn_execution.proofs.FineCalls.{OfClass, fine_call, standing_fine, with_one_fine, with_two_fine, behind_fits}
use Rattle.bqn_execution.proofs.Keeping as keeping
use Rattle.bqn_execution.proofs.Keeping.{Envs, Free, Safe, GoesOn, keeps_from, bind_safe, at_safe, pure_safe, found_here, known_safe, known_free, used_here, used_safe, value_safe, where_safe, stuck_safe, pushed_safe}

-- ---- frames

pub standing_later : (t : Table) (u w : Envs) → Later u w → (f : Frame) → Standing t u f → Standing t w f
standing_later t u w l f s = record {
  made = body_later u w l f.environment f.body s.made;
  block = λ h. behind_later t u w l _ f.block f.outer (s.block h);
  is_run_on = s.is_run_on;
  operands = all_later t u w l f.operands s.operands;
  arguments = arguments_later t u w l f.arguments s.arguments;
}

not_immediate : (c : Class) → IsTrue (waits c) → IsTrue (not (is_immediate c))
not_immediate class.Immediate h = absurd (no h)
not_immediate class.Function h = refl
not_immediate class.Mod1 h = refl
not_immediate class.Mod1Deferred h = refl
not_immediate class.Mod2 h = refl
not_immediate class.Mod2Deferred h = refl

not_both : (b : Bool) → IsTrue (not b) → IsTrue b → ⊥
not_both true h k = no h
not_both false h k = no k

function_of : (n : ℕ) (xs : Arguments) (c : Class) → IsTrue (waits c) → IsTrue (is_run_on n xs c) → IsTrue (is_function n c)
function_of n no_arguments c w h = absurd (not_both (waits c) (and_left (not (waits c)) _ h) w)
function_of n (alone x) c w h = h
function_of n (two a x) c w h = h

-- in a frame that stands, the block's own function is good
pub own_good : (t : Table) (es : Envs) (f : Frame) → Standing t es f → IsTrue (waits f.class) → Good t es (Function f.block f.outer f.operands)
own_good t es f s w = (
  behind_fits t es (λ c. c ≡ f.class) (λ c. IsTrue (is_function (count f.operands) c)) f.block f.outer
      (λ c q. subst (λ d. IsTrue (is_function (count f.operands) d)) (sym q) (function_of (count f.operands) f.arguments f.class w s.is_run_on)) (s.block (not_immediate f.class w)),
  s.operands,
)

modifier_good : (t : Table) (es : Envs) (c : Class) (b n : ℕ) → (IsTrue (not (is_immediate c)) → OfClass t es c b n) → GoodIfAny t es (modifier_of c b n)
modifier_good t es class.Immediate b n h = tt
modifier_good t es class.Function b n h = tt
modifier_good t es class.Mod1 b n h = behind_fits t es (λ c. c ≡ class.Mod1) _ b n (λ c q. subst (λ d. IsTrue (is_modifier1 d)) (sym q) refl) (h refl)
modifier_good t es class.Mod1Deferred b n h = behind_fits t es (λ c. c ≡ class.Mod1Deferred) _ b n (λ c q. subst (λ d. IsTrue (is_modifier1 d)) (sym q) refl) (h refl)
modifier_good t es class.Mod2 b n h = behind_fits t es (λ c. c ≡ class.Mod2) _ b n (λ c q. subst (λ d. IsTrue (is_modifier2 d)) (sym q) refl) (h refl)
modifier_good t es class.Mod2Deferred b n h = behind_fits t es (λ c. c ≡ class.Mod2Deferred) _ b n (λ c q. subst (λ d. IsTrue (is_modifier2 d)) (sym q) refl) (h refl)

-- ---- instructions

module _ (t : Table) (top : ℕ) (args : Value) (h : Calling) (hs : (es : Envs) (c : Call) → Fine t es c → Safe t top es (Good t) (h c))
    (given : GivenCallsKeep t) (args_good : Good t [] args) where
  constant_safe : (es : Envs) (c : Option Const) → Safe t top es (Good t) (o.constant c)
  constant_safe es None = stuck_safe t top es (Good t)
  constant_safe es (Some c) = known_safe t top es _ (good.constant_good t es c)

  given_safe : (es : Envs) (code : ℕ) → Safe t top es (Good t) (o.given_value args code)
  given_safe es code = by (is_given code) (nat_eq code 69)
    where
      by : (b c : Bool) → Safe t top {A = Value} es (Good t) (elim b [ true ↦ pure (Given code) | false ↦ elim c [ true ↦ pure args | false ↦ stuck ] ])
      by true c = pure_safe t top es (Good t) (Given code) (λ u l. tt)
      by false true = pure_safe t top es (Good t) args (λ u l. good.good_moves t t [] u (λ k x q. q) (λ n b q. absurd (none_some q)) args args_good)
      by false false = stuck_safe t top es (Good t)

  value_of_class : (es : Envs) (c : Class) (b n : ℕ) → IsTrue (not (is_immediate c)) → OfClass t es c b n → Safe t top es (Good t) (o.block_value h (Some c) b n)
  value_of_class es class.Immediate b n w k = absurd (no w)
  value_of_class es class.Function b n w k = hs es _ (standing_fine t es class.Function b n k)
  value_of_class es class.Mod1 b n w k = hs es _ (standing_fine t es class.Mod1 b n k)
  value_of_class es class.Mod1Deferred b n w k = hs es _ (standing_fine t es class.Mod1Deferred b n k)
  value_of_class es class.Mod2 b n w k = hs es _ (standing_fine t es class.Mod2 b n k)
  value_of_class es class.Mod2Deferred b n w k = hs es _ (standing_fine t es class.Mod2Deferred b n k)

  answer_of_class : (es : Envs) (c : Class) (b n : ℕ) → IsTrue (is_immediate c) → OfClass t es c b n → Safe t top es (Good t) (o.block_answer h (Some c) b n)
  answer_of_class es class.Immediate b n w k = hs es _ (standing_fine t es class.Immediate b n k)
  answer_of_class es class.Function b n w k = absurd (no w)
  answer_of_class es class.Mod1 b n w k = absurd (no w)
  answer_of_class es class.Mod1Deferred b n w k = absurd (no w)
  answer_of_class es class.Mod2 b n w k = absurd (no w)
  answer_of_class es class.Mod2Deferred b n w k = absurd (no w)

  applied_safe : (es : Envs) (g w x : Option Value) → GoodIfAny t es g → GoodIfAny t es w → GoodIfAny t es x → Safe t top es (GoodIfAny t) (applied h g w x)
  applied_safe es None w x a b c = λ s l k. (same s.environments, k)
  applied_safe es (Some g) w None a b c = pure_safe t top es (GoodIfAny t) None (λ u l. tt)
  applied_safe es (Some g) w (Some x) a b c = value_safe t top es (h (call g w x)) (hs es (call g w x) (fine_call t given es g w x a b c))

  one_modified : (es : Envs) (m g : Option Value) → GoodIfAny t es m → GoodIfAny t es g → Safe t top es (GoodIfAny t) (modified_one (class_of t) h m g)
  one_modified es m g a b = used_safe t top es (GoodIfAny t) m _ a (λ u l m a. used_safe t top u (GoodIfAny t) g _ (any_later t es u l g b) (λ w n g b.
      value_safe t top w _ (hs w (with_one (class_of t) m g) (with_one_fine t w m g (good_later t u w n m a) b))))

  two_modified : (es : Envs) (m g k : Option Value) → GoodIfAny t es m → GoodIfAny t es g → GoodIfAny t es k → Safe t top es (GoodIfAny t) (modified_two (class_of t) h m g k)
  two_modified es m g k a b c = used_safe t top es (GoodIfAny t) m _ a (λ u l m a. used_safe t top u (GoodIfAny t) g _ (any_later t es u l g b) (λ w n g b.
      used_safe t top w (GoodIfAny t) k _ (any_later t es w (on es u w l n) k c) (λ q r k c.
      value_safe t top q _ (hs q (with_two (class_of t) m g k) (with_two_fine t q m g k (good_later t u q (on u w q n r) m a) (good_later t w q r g b) c)))))

  module _ (f : Frame) where
    block_of_class : (es : Envs) (P : Class → Type 0) (b : ℕ) → Standing t es f → (k : BlockInside t top f.body f.here P b) → OfClass t es k.block.block.class (block_number f.here b) f.environment
    block_of_class es P b s k = record { before = k.before; is_number = k.is_number; block = k.block; is_block = k.is_block; class_fits = refl; made = s.made ∙ ap Some (sym k.stands) }

    block_safe : (es : Envs) (b : ℕ) → Standing t es f → BlockInside t top f.body f.here (λ c. IsTrue (not (is_immediate c))) b →
        Safe t top es (Good t) (o.block_value h (class_of t (block_number f.here b)) (block_number f.here b) f.environment)
    block_safe es b s k = subst (λ c. Safe t top es (Good t) (o.block_value h c (block_number f.here b) f.environment)) (sym (ap class_in k.is_block))
        (value_of_class es k.block.block.class (block_number f.here b) f.environment k.class_fits (block_of_class es _ b s k))

    run_safe : (es : Envs) (b : ℕ) → Standing t es f → BlockInside t top f.body f.here (λ c. IsTrue (is_immediate c)) b →
        Safe t top es (Good t) (o.block_answer h (class_of t (block_number f.here b)) (block_number f.here b) f.environment)
    run_safe es b s k = subst (λ c. Safe t top es (Good t) (o.block_answer h c (block_number f.here b) f.environment)) (sym (ap class_in k.is_block))
        (answer_of_class es k.block.block.class (block_number f.here b) f.environment k.class_fits (block_of_class es _ b s k))

    pattern_safe : (es : Envs) (q : Option Pattern) (go : Pattern → Does Ending) → ((r : Pattern) → Safe t top es (GoodEnding t) (go r)) → Safe t top es (GoodEnding t) (e.with_pattern q go)
    pattern_safe es None go a = stuck_safe t top es (GoodEnding t)
    pattern_safe es (Some r) go a = a r

    returned_safe : (es : Envs) (pl : Place) (st : Stack) → GoodStack t es st → Safe t top es (GoodEnding t) (o.returned pl st)
    returned_safe es pl [] g = stuck_safe t top es (GoodEnding t)
    returned_safe es pl (x ∷ []) g = pure_safe t top es (GoodEnding t) (EndsWith pl x) (λ u l. any_later t es u l x g.0)
    returned_safe es pl (x ∷ (y ∷ st)) g = stuck_safe t top es (GoodEnding t)

    space_safe : (es : Envs) (pl : Place) (st : Stack) → Standing t es f → Safe t top es (GoodEnding t) (o.left_space pl f.environment st)
    space_safe es pl [] s = pure_safe t top es (GoodEnding t) (EndsWith pl (Some (Namespace f.environment))) (λ u l. ap is_some (body_later es u l f.environment f.body s.made))
    space_safe es pl (x ∷ st) s = stuck_safe t top es (GoodEnding t)

    found_pushed : (es : Envs) (pl : Place) (x : Option Value) (next : Go) (st : Stack) → GoodIfAny t es x → GoodStack t es st → GoesOn t top es next → Safe t top es (GoodEnding t) (o.pushed pl (value (found Undefined x)) next st)
    found_pushed es pl x next st g k a = pushed_safe t top es pl (value (found Undefined x)) next st (value_safe t top es _ (λ s l i. found_here t top (Good t) Undefined x s i (any_later t es s.environments l x g))) k a

    stays_pushed : (es : Envs) (pl : Place) (store : Value → Does (Unit {0})) (x : Option Value) (next : Go) (st : Stack) → ((u : Envs) (y : Value) → Good t u y → Safe t top u Free (store y)) →
        GoodIfAny t es x → GoodStack t es st → GoesOn t top es next → Safe t top es (GoodEnding t) (o.pushed pl (e.stays store x) next st)
    stays_pushed es pl store x next st b g k a = pushed_safe t top es pl (e.stays store x) next st (keeping.stays_safe t top es store x b g) k a

    known_pushed : (es : Envs) (pl : Place) (r : Result Value Fault) (next : Go) (st : Stack) → GoodResult t es r → GoodStack t es st → GoesOn t top es next → Safe t top es (GoodEnding t) (o.pushed pl (value (known r)) next st)
    known_pushed es pl r next st g k a = pushed_safe t top es pl (value (known r)) next st (value_safe t top es (known r) (known_safe t top es r g)) k a

    -- what goes on where something holds, and else to the next body
    tested_goes : (es : Envs) (pl : Place) (m : Does Bool) (next : Go) (st : Stack) → Safe t top es Free m → GoodStack t es st → GoesOn t top es next → Safe t top es (GoodEnding t) (at pl m >>= where_so NextBody (next st))
    tested_goes es pl m next st b g a = bind_safe t top {A = Bool} {B = Ending} es Free (GoodEnding t) (at pl m) (where_so NextBody (next st)) (at_safe t top es Free pl m b) (λ u l r k. where_safe t top u (GoodEnding t) NextBody (next st) (λ w n. tt) (a u l st (stack_later t es u l st g)) r)

    pub act_safe : (i : Instr) (pl : Place) (next : Go) (st : Stack) (es : Envs) → Standing t es f → Names t top f.body f.here f.class i → GoodStack t es st → GoesOn t top es next → Safe t top es (GoodEnding t) (e.act t args h f i pl next st)
    act_safe (instr.Const k) pl next st es s n g a = pushed_safe t top es pl (value (o.constant (slice_get f.here.code.constants k))) next st (value_safe t top es _ (constant_safe es (slice_get f.here.code.constants k))) g a
    act_safe (instr.Given code) pl next st es s n g a = pushed_safe t top es pl (value (o.given_value args code)) next st (value_safe t top es _ (given_safe es code)) g a
    act_safe instr.Nothing pl next st es s n g a = a es (same es) (None ∷ st) (tt, g)
    act_safe (instr.Block b) pl next st es s n g a = pushed_safe t top es pl _ next st (value_safe t top es _ (block_safe es b s n)) g a
    act_safe (instr.Run b) pl next st es s n g a = pushed_safe t top es pl _ next st (value_safe t top es _ (run_safe es b s n)) g a
    act_safe (instr.Load up slot) pl next st es s n g a = pushed_safe t top es pl (value (v.load t f up slot)) next st (value_safe t top es _ (keeping.load_safe t top f es up slot)) g a
    act_safe (instr.Define slot) pl next st es s n g a = keeping.one_safe t top es _ st g (λ x rest b c. stays_pushed es pl (v.define t f slot) x next rest (λ u y d. keeping.stored_safe t top f u 0 slot y d) b c a)
    act_safe (instr.Change up slot) pl next st es s n g a = keeping.one_safe t top es _ st g (λ x rest b c. stays_pushed es pl (v.change t f up slot) x next rest (λ u y d. keeping.change_safe t top f u up slot y d) b c a)
    act_safe instr.Pop pl next st es s n g a = keeping.one_safe t top es (λ x. next) st g (λ x rest b c. a es (same es) rest c)
    act_safe (instr.List k) pl next st es s n g a = keeping.taken_safe t top es k (Some none) _ st tt g (λ xs rest b c. known_pushed es pl (listed xs) next rest (good.listed_good t es xs b) c a)
    act_safe instr.Call1 pl next st es s n g a = keeping.pair_safe t top es _ st g (λ k x rest b c d. pushed_safe t top es pl (applied h k None x) next rest (applied_safe es k None x b tt c) d a)
    act_safe instr.Call2 pl next st es s n g a = keeping.triple_safe t top es _ st g (λ w k x rest b c d i. pushed_safe t top es pl (applied h k w x) next rest (applied_safe es k w x c b d) i a)
    act_safe instr.Derive1 pl next st es s n g a = keeping.pair_safe t top es _ st g (λ k m rest b c d. pushed_safe t top es pl (modified_one (class_of t) h m k) next rest (one_modified es m k c b) d a)
    act_safe instr.Derive2 pl next st es s n g a = keeping.triple_safe t top es _ st g (λ k m j rest b c d i. pushed_safe t top es pl (modified_two (class_of t) h m k j) next rest (two_modified es m k j c b d) i a)
    act_safe instr.Train2 pl next st es s n g a = keeping.pair_safe t top es _ st g (λ k m rest b c d. known_pushed es pl (atop k m) next rest (good.atop_good t es k m b c) d a)
    act_safe instr.Train3 pl next st es s n g a = keeping.triple_safe t top es _ st g (λ k m j rest b c d i. known_pushed es pl (fork k m j) next rest (good.fork_good t es k m j b c d) i a)
    act_safe (instr.Field k) pl next st es s n g a = keeping.one_safe t top es _ st g (λ x rest b c. pushed_safe t top es pl (value (used x >>= v.field t (slice_get f.here.code.names k))) next rest
        (value_safe t top es _ (used_safe t top es (Good t) x _ b (λ u l y d. keeping.field_safe t top f u (slice_get f.here.code.names k) y))) c a)
    act_safe (instr.Bind k) pl next st es s n g a = pattern_safe es (slice_get f.here.code.patterns k) _ (λ q. keeping.one_safe t top es _ st g (λ x rest b c.
        stays_pushed es pl (p.bind t f q) x next rest (λ u y d. keeping.bind_pattern_safe t top f u q y d) b c a))
    act_safe (instr.Match k) pl next st es s n g a = pattern_safe es (slice_get f.here.code.patterns k) _ (λ q. keeping.one_safe t top es _ st g (λ x rest b c.
        tested_goes es pl (used x >>= (λ y. p.fit t f q y >>= (λ r. pure (does_fit r)))) next rest (keeping.fits_safe t top f es q x b) c a))
    act_safe instr.Check pl next st es s n g a = keeping.one_safe t top es _ st g (λ x rest b c. tested_goes es pl (tested x) next rest (used_safe t top {B = Bool} es Free x _ b (λ u l y d. known_free t top u (truth y))) c a)
    act_safe instr.Left pl next st es s n g a = a es (same es) (left_of f.arguments ∷ st) (good.left_good t es f.arguments s.arguments, g)
    act_safe instr.Right pl next st es s n g a = a es (same es) (right_of f.arguments ∷ st) (good.right_good t es f.arguments s.arguments, g)
    act_safe instr.Own pl next st es s n g a = a es (same es) (Some (Function f.block f.outer f.operands) ∷ st) (own_good t es f s n, g)
    act_safe instr.LeftOperand pl next st es s n g a = found_pushed es pl (left_operand f.operands) next st (good.left_operand_good t es f.operands s.operands) g a
    act_safe instr.RightOperand pl next st es s n g a = found_pushed es pl (right_operand f.operands) next st (good.right_operand_good t es f.operands s.operands) g a
    act_safe instr.Modifier pl next st es s n g a = found_pushed es pl (modifier_of f.class f.block f.outer) next st (modifier_good t es f.class f.block f.outer s.block) g a
    act_safe instr.Return pl next st es s n g a = returned_safe es pl st g
    act_safe instr.Space pl next st es s n g a = space_safe es pl st s

    pub exec_safe : (is : List (Instr × Place)) (st : Stack) (es : Envs) → Standing t es f → Each (λ i. Names t top f.body f.here f.class i.0) is → GoodStack t es st → Safe t top es (GoodEnding t) (e.exec t args h f is st)
    exec_safe [] st es s n g = stuck_safe t top es (GoodEnding t)
    exec_safe (i ∷ is) st es s n g = act_safe i.0 i.1 (e.exec t args h f is) st es s n.0 g (λ u l rest k. exec_safe is rest u (standing_later t es u l f s) n.1 k)
