-- Values that are good stay so, and what is made of good values is good.
use Rattle.std.proofs.Common.{◌≡◌, ◌∙◌, ℕ, suc, List, [], ◌∷◌, length, map, Bool, true, false, Option, Some, None, Result, Ok, Err, IsTrue, nat_le, is_some, slice_get, refl, subst, sym, ap}
use Rattle.std.specs.Option.{option_map}
use Rattle.bqn_base.specs.declared.fault.Fault.{Fault}
use Rattle.bqn_rows.specs.Plain.{Maker, Atop, Fork, Value, Number, Character, Array, Given, Derived, Function, Modifier1, Modifier2, Namespace, Values, none, more, Fill, unfilled, filled, values, count}
use Rattle.bqn_rows.specs.Relations.{both, extent}
use Rattle.bqn_rows.specs.Limits.{made, array, carrying, kept, derived, if_within, is_small, is_low}
use Rattle.bqn_rows.specs.Arrays.{text_value}
use Rattle.bqn_rows.specs.Raised.{raised}
use Rattle.bqn_rows.specs.Calls.{Arguments, no_arguments, alone, two}
use Rattle.bqn_syntax.specs.declared.tree.Class.{Class}
use Rattle.bqn_meaning.specs.Deriving.{listed, atop, fork}
use Rattle.bqn_meaning.specs.Frames.{left_of, right_of, left_operand, right_operand}
use Rattle.bqn_code.specs.declared.constant.Const.{Const}
use Rattle.bqn_code.specs.declared.constant.Const.TheVariants as const
use Rattle.bqn_code.specs.Numbering.{Table, BlockAt}
use Rattle.bqn_execution.specs.States.{Environment}
use Rattle.bqn_execution.specs.Operands.{Stack}
use Rattle.bqn_execution.specs.Patterns.{constant_value}
use Rattle.bqn_execution.specs.Soundness.{Each, OfSome, Shape, shape_at, Later, body_at, Behind, Good, AllGood, GoodFill, GoodIfAny, GoodStack, GoodArguments, GoodAnswer}
use Rattle.bqn_execution.proofs.Sure.{no, none_some}

-- ---- later environments

pub same : (u : List Environment) → Later u u
same u = λ n x q. q

pub on : (u v w : List Environment) → Later u v → Later v w → Later u w
on u v w l m = λ n x q. m n x (l n x q)

pub body_later : (u w : List Environment) → Later u w → (n b : ℕ) → body_at u n ≡ Some b → body_at w n ≡ Some b
body_later u w l n b q = by (shape_at u n) refl
  where
    by : (o : Option Shape) → shape_at u n ≡ o → body_at w n ≡ Some b
    by None r = absurd (none_some (sym (ap (option_map (λ (x : Shape). x.body)) r) ∙ q))
    by (Some x) r = ap (option_map (λ (x : Shape). x.body)) (l n x r) ∙ (sym (ap (option_map (λ (x : Shape). x.body)) r) ∙ q)

-- ---- from a table and environments to others that have what these had

module _ (t v : Table) (u w : List Environment) (blocks : (k : ℕ) (x : BlockAt) → slice_get t.blocks (suc k) ≡ Some x → slice_get v.blocks (suc k) ≡ Some x)
    (bodies : (n b : ℕ) → body_at u n ≡ Some b → body_at w n ≡ Some b) where
  pub behind_moves : (fits : Class → Type 0) (b e : ℕ) → Behind t u fits b e → Behind v w fits b e
  behind_moves fits b e h = record {
    before = h.before;
    is_number = h.is_number;
    block = h.block;
    is_block = subst (λ n. slice_get v.blocks n ≡ Some h.block) (sym h.is_number) (blocks h.before h.block (subst (λ n. slice_get t.blocks n ≡ Some h.block) h.is_number h.is_block));
    class_fits = h.class_fits;
    made = bodies e _ h.made;
  }

  there_moves : (n : ℕ) → IsTrue (is_some (body_at u n)) → IsTrue (is_some (body_at w n))
  there_moves n h = by (body_at u n) refl h
    where
      by : (o : Option ℕ) → body_at u n ≡ o → IsTrue (is_some o) → IsTrue (is_some (body_at w n))
      by None q h = absurd (no h)
      by (Some b) q h = ap is_some (bodies n b q)

  mutual
    pub good_moves : (x : Value) → Good t u x → Good v w x
    good_moves (Number n) g = tt
    good_moves (Character c) g = tt
    good_moves (Array shape xs f) g = (all_moves xs g.0, fill_moves f g.1)
    good_moves (Given code) g = tt
    good_moves (Derived maker parts) g = all_moves parts g
    good_moves (Function b e operands) g = (behind_moves _ b e g.0, all_moves operands g.1)
    good_moves (Modifier1 b e) g = behind_moves _ b e g
    good_moves (Modifier2 b e) g = behind_moves _ b e g
    good_moves (Namespace e) g = there_moves e g

    pub all_moves : (xs : Values) → AllGood t u xs → AllGood v w xs
    all_moves none g = tt
    all_moves (more x xs) g = (good_moves x g.0, all_moves xs g.1)

    fill_moves : (f : Fill) → GoodFill t u f → GoodFill v w f
    fill_moves unfilled g = tt
    fill_moves (filled x) g = good_moves x g

  pub any_moves : (x : Option Value) → GoodIfAny t u x → GoodIfAny v w x
  any_moves None g = tt
  any_moves (Some x) g = good_moves x g

  pub each_moves : (xs : List (Option Value)) → Each (GoodIfAny t u) xs → Each (GoodIfAny v w) xs
  each_moves [] g = tt
  each_moves (x ∷ xs) g = (any_moves x g.0, each_moves xs g.1)

-- ---- in one table

module _ (t : Table) where
  module _ (u w : List Environment) (l : Later u w) where
    pub behind_later : (fits : Class → Type 0) (b e : ℕ) → Behind t u fits b e → Behind t w fits b e
    behind_later = behind_moves t t u w (λ k x q. q) (body_later u w l)

    pub good_later : (x : Value) → Good t u x → Good t w x
    good_later = good_moves t t u w (λ k x q. q) (body_later u w l)

    pub all_later : (xs : Values) → AllGood t u xs → AllGood t w xs
    all_later = all_moves t t u w (λ k x q. q) (body_later u w l)

    pub any_later : (x : Option Value) → GoodIfAny t u x → GoodIfAny t w x
    any_later = any_moves t t u w (λ k x q. q) (body_later u w l)

    pub stack_later : (st : Stack) → GoodStack t u st → GoodStack t w st
    stack_later = each_moves t t u w (λ k x q. q) (body_later u w l)

    pub arguments_later : (xs : Arguments) → GoodArguments t u xs → GoodArguments t w xs
    arguments_later no_arguments g = tt
    arguments_later (alone x) g = good_later x g
    arguments_later (two w x) g = (good_later w g.0, good_later x g.1)

  module _ (es : List Environment) where
    abbrev pub GoodResult : Result Value Fault → Type 0
    GoodResult (Ok v) = Good t es v
    GoodResult (Err f) = Unit {0}

    pub raised_good : (r : Result Value Fault) → GoodResult r → GoodAnswer t es (raised r)
    raised_good (Ok v) g = g
    raised_good (Err f) g = tt

    pub made_good : (x : Value) → Good t es x → GoodResult (made x)
    made_good x g = by (is_small x) (is_low x)
      where
        by : (a b : Bool) → GoodResult (if_within a b x)
        by true true = g
        by true false = tt
        by false b = tt

    carrying_good : (f : Option Value) → GoodIfAny t es f → GoodFill t es (carrying f)
    carrying_good None g = tt
    carrying_good (Some v) g = by (nat_le (extent v) 128)
      where
        by : (b : Bool) → GoodFill t es (kept b v)
        by true = g
        by false = tt

    pub array_good : (shape : List ℕ) (xs : Values) (f : Option Value) → AllGood t es xs → GoodIfAny t es f → GoodResult (array shape xs f)
    array_good shape none f a g = made_good (Array shape none (carrying f)) (tt, carrying_good f g)
    array_good shape (more x xs) f a g = made_good (Array shape (more x xs) unfilled) (a, tt)

    characters_good : (cs : List ℕ) → AllGood t es (values (map Character cs))
    characters_good [] = tt
    characters_good (c ∷ cs) = (tt, characters_good cs)

    pub text_good : (cs : List ℕ) → GoodResult (text_value cs)
    text_good cs = array_good (length cs ∷ []) (values (map Character cs)) (Some (Character 32)) (characters_good cs) tt

    pub constant_good : (c : Const) → GoodResult (constant_value c)
    constant_good (const.Number n) = tt
    constant_good (const.Char c) = tt
    constant_good (const.Text cs) = text_good cs

    pub derived_good : (maker : Maker) (parts : Values) → AllGood t es parts → GoodResult (derived maker parts)
    derived_good maker parts g = made_good (Derived maker parts) g

    pub listed_good : (xs : Option Values) → OfSome (AllGood t es) xs → GoodResult (listed xs)
    listed_good None g = tt
    listed_good (Some xs) g = array_good (count xs ∷ []) xs None g tt

    pub both_good : (x : Option Value) (xs : Option Values) → GoodIfAny t es x → OfSome (AllGood t es) xs → OfSome (AllGood t es) (both x xs)
    both_good None xs g h = tt
    both_good (Some x) None g h = tt
    both_good (Some x) (Some xs) g h = (g, h)

    pub atop_good : (f g : Option Value) → GoodIfAny t es f → GoodIfAny t es g → GoodResult (atop f g)
    atop_good None g a b = tt
    atop_good (Some f) None a b = tt
    atop_good (Some f) (Some g) a b = derived_good Atop (more f (more g none)) (a, (b, tt))

    pub fork_good : (f g h : Option Value) → GoodIfAny t es f → GoodIfAny t es g → GoodIfAny t es h → GoodResult (fork f g h)
    fork_good None g h a b c = atop_good g h b c
    fork_good (Some f) None h a b c = tt
    fork_good (Some f) (Some g) None a b c = tt
    fork_good (Some f) (Some g) (Some h) a b c = derived_good Fork (more f (more g (more h none))) (a, (b, (c, tt)))

    pub left_good : (xs : Arguments) → GoodArguments t es xs → GoodIfAny t es (left_of xs)
    left_good no_arguments g = tt
    left_good (alone x) g = tt
    left_good (two w x) g = g.0

    pub right_good : (xs : Arguments) → GoodArguments t es xs → GoodIfAny t es (right_of xs)
    right_good no_arguments g = tt
    right_good (alone x) g = g
    right_good (two w x) g = g.1

    pub left_operand_good : (xs : Values) → AllGood t es xs → GoodIfAny t es (left_operand xs)
    left_operand_good none g = tt
    left_operand_good (more x xs) g = g.0

    pub right_operand_good : (xs : Values) → AllGood t es xs → GoodIfAny t es (right_operand xs)
    right_operand_good none g = tt
    right_operand_good (more x none) g = tt
    right_operand_good (more x (more y ys)) g = g.1.0
