-- What a call of good values asks and gives is good, where that is so of given values.
use Rattle.std.proofs.Common.{◌≡◌, ℕ, List, Bool, true, false, Option, Some, None, Ok, Err, IsTrue, refl, subst, sym, ap}
use Rattle.bqn_rows.specs.Plain.{Maker, One, Two, Atop, Fork, Value, Number, Character, Array, Given, Derived, Function, Modifier1, Modifier2, Namespace, Values, none, more, is_given_modifier1, is_given_modifier2}
use Rattle.bqn_rows.specs.Limits.{block_function}
use Rattle.bqn_rows.specs.Calls.{arguments, Call, End, Enter, Turn, Write, Inside, ◌>>=◌, call, known}
use Rattle.bqn_syntax.specs.declared.tree.Class.{Class}
use Rattle.bqn_syntax.specs.declared.tree.Class.TheVariants as class
use Rattle.bqn_meaning.specs.Deriving.{standing, block_with, given_with, with_one, with_two}
use Rattle.bqn_code.specs.Conditions.{is_modifier2}
use Rattle.bqn_code.specs.Numbering.{Table, class_of, class_in}
use Rattle.bqn_execution.specs.States.{Environment}
use Rattle.bqn_execution.specs.Soundness.{Later, Behind, is_modifier1, Good, AllGood, GoodIfAny, Fine, GivenCallsKeep}
use Rattle.bqn_execution.proofs.Sure.{no}
use Rattle.bqn_execution.proofs.GoodValues.{same, on, good_later, any_later, raised_good, made_good, derived_good}

pub behind_fits : (t : Table) (es : List Environment) (P Q : Class → Type 0) (b e : ℕ) → ((c : Class) → P c → Q c) → Behind t es P b e → Behind t es Q b e
behind_fits t es P Q b e h k = record { before = k.before; is_number = k.is_number; block = k.block; is_block = k.is_block; class_fits = h k.block.block.class k.class_fits; made = k.made }

module _ (t : Table) where
  fine_then : (es : List Environment) (c : Call) (next : Value → Call) → Fine t es c → ((u : List Environment) → Later es u → (v : Value) → Good t u v → Fine t u (next v)) → Fine t es (c >>= next)
  fine_then es (End (Ok v)) next f h = h es (same es) v f
  fine_then es (End (Err e)) next f h = tt
  fine_then es (Enter b e operands xs go) next f h = (f.0, f.1, f.2, λ u l r a. fine_then u (go r) next (f.3 u l r a) (λ v m. h v (on es u v l m)))
  fine_then es (Turn go) next f h = λ u l. fine_then u (go tt) next (f u l) (λ v m. h v (on es u v l m))
  fine_then es (Write text go) next f h = λ u l. fine_then u (go tt) next (f u l) (λ v m. h v (on es u v l m))
  fine_then es (Inside c go) next f h = (f.0, λ u l r a. fine_then u (go r) next (f.1 u l r a) (λ v m. h v (on es u v l m)))

  -- ---- calls

  entered_fine : (es : List Environment) (b e : ℕ) (operands : Values) (w : Option Value) (x : Value) → Good t es (Function b e operands) → GoodIfAny t es w → Good t es x → Fine t es (Enter b e operands (arguments w x) End)
  entered_fine es b e operands None x f g h = (f.0, f.1, h, λ u l r a. a)
  entered_fine es b e operands (Some w) x f g h = (f.0, f.1, (g, h), λ u l r a. a)

  module _ (keep : GivenCallsKeep t) where
    pub fine_call : (es : List Environment) (f : Value) (w : Option Value) (x : Value) → Good t es f → GoodIfAny t es w → Good t es x → Fine t es (call f w x)
    fine_call es (Number n) w x f g h = tt
    fine_call es (Character c) w x f g h = tt
    fine_call es (Array shape xs fill) w x f g h = f
    fine_call es (Namespace e) w x f g h = f
    fine_call es (Given code) w x f g h = keep.functions es code w x g h
    fine_call es (Derived (One code) (more k none)) w x f g h = (keep.modifiers es (One code) (more k none) w x f g h, λ u l r a. a)
    fine_call es (Derived (Two code) (more k (more m none))) w x f g h = (keep.modifiers es (Two code) (more k (more m none)) w x f g h, λ u l r a. a)
    fine_call es (Derived Atop (more k (more m none))) w x f g h =
        (fine_then es (call m w x) (λ y. call k None y) (fine_call es m w x f.1.0 g h) (λ u l y a. fine_call u k None y (good_later t es u l k f.0) tt a), λ u l r a. a)
    fine_call es (Derived Fork (more k (more m (more j none)))) w x f g h = (
      fine_then es (call j w x) (λ z. call k w x >>= (λ y. call m (Some y) z)) (fine_call es j w x f.1.1.0 g h) (λ u l z a.
          fine_then u (call k w x) (λ y. call m (Some y) z) (fine_call u k w x (good_later t es u l k f.0) (any_later t es u l w g) (good_later t es u l x h)) (λ v n y b.
          fine_call v m (Some y) z (good_later t es v (on es u v l n) m f.1.0) b (good_later t u v n z a))),
      λ u l r a. a,
    )
    fine_call es (Derived (One code) none) w x f g h = (tt, λ u l r a. a)
    fine_call es (Derived (One code) (more k (more m ms))) w x f g h = (tt, λ u l r a. a)
    fine_call es (Derived (Two code) none) w x f g h = (tt, λ u l r a. a)
    fine_call es (Derived (Two code) (more k none)) w x f g h = (tt, λ u l r a. a)
    fine_call es (Derived (Two code) (more k (more m (more j js)))) w x f g h = (tt, λ u l r a. a)
    fine_call es (Derived Atop none) w x f g h = (tt, λ u l r a. a)
    fine_call es (Derived Atop (more k none)) w x f g h = (tt, λ u l r a. a)
    fine_call es (Derived Atop (more k (more m (more j js)))) w x f g h = (tt, λ u l r a. a)
    fine_call es (Derived Fork none) w x f g h = (tt, λ u l r a. a)
    fine_call es (Derived Fork (more k none)) w x f g h = (tt, λ u l r a. a)
    fine_call es (Derived Fork (more k (more m none))) w x f g h = (tt, λ u l r a. a)
    fine_call es (Derived Fork (more k (more m (more j (more i is))))) w x f g h = (tt, λ u l r a. a)
    fine_call es (Function b e operands) w x f g h = entered_fine es b e operands w x f g h
    fine_call es (Modifier1 b e) w x f g h = tt
    fine_call es (Modifier2 b e) w x f g h = tt

  -- ---- blocks where they stand, and modifiers with their operands

  abbrev pub OfClass : List Environment → Class → (b e : ℕ) → Type 0
  OfClass es c b e = Behind t es (λ d. d ≡ c) b e

  of_class : (es : List Environment) (c : Class) (Q : Class → Type 0) (b e : ℕ) → Q c → OfClass es c b e → Behind t es Q b e
  of_class es c Q b e h k = behind_fits t es (λ d. d ≡ c) Q b e (λ d q. subst Q (sym q) h) k

  pub standing_fine : (es : List Environment) (c : Class) (b e : ℕ) → OfClass es c b e → Fine t es (standing c b e)
  standing_fine es class.Immediate b e h = (of_class es class.Immediate _ b e refl h, tt, tt, λ u l r a. a)
  standing_fine es class.Function b e h = (of_class es class.Function _ b e refl h, tt)
  standing_fine es class.Mod1 b e h = of_class es class.Mod1 _ b e refl h
  standing_fine es class.Mod1Deferred b e h = of_class es class.Mod1Deferred _ b e refl h
  standing_fine es class.Mod2 b e h = of_class es class.Mod2 _ b e refl h
  standing_fine es class.Mod2Deferred b e h = of_class es class.Mod2Deferred _ b e refl h

  module _ (es : List Environment) where
    function_fine : (b e : ℕ) (fs : Values) → Good t es (Function b e fs) → Fine t es (known (block_function b e fs))
    function_fine b e fs g = raised_good t es (block_function b e fs) (made_good t es (Function b e fs) g)

    one_fine : (c : Class) (b e : ℕ) (f : Value) → IsTrue (is_modifier1 c) → OfClass es c b e → Good t es f → Fine t es (block_with (Some c) b e (more f none))
    one_fine class.Immediate b e f m h g = absurd (no m)
    one_fine class.Function b e f m h g = absurd (no m)
    one_fine class.Mod1 b e f m h g = (of_class es class.Mod1 _ b e refl h, (g, tt), tt, λ u l r a. a)
    one_fine class.Mod1Deferred b e f m h g = function_fine b e (more f none) (of_class es class.Mod1Deferred _ b e refl h, (g, tt))
    one_fine class.Mod2 b e f m h g = absurd (no m)
    one_fine class.Mod2Deferred b e f m h g = absurd (no m)

    two_fine : (c : Class) (b e : ℕ) (f k : Value) → IsTrue (is_modifier2 c) → OfClass es c b e → Good t es f → Good t es k → Fine t es (block_with (Some c) b e (more f (more k none)))
    two_fine class.Immediate b e f k m h g i = absurd (no m)
    two_fine class.Function b e f k m h g i = absurd (no m)
    two_fine class.Mod1 b e f k m h g i = absurd (no m)
    two_fine class.Mod1Deferred b e f k m h g i = absurd (no m)
    two_fine class.Mod2 b e f k m h g i = (of_class es class.Mod2 _ b e refl h, (g, (i, tt)), tt, λ u l r a. a)
    two_fine class.Mod2Deferred b e f k m h g i = function_fine b e (more f (more k none)) (of_class es class.Mod2Deferred _ b e refl h, (g, (i, tt)))

    pub itself : (P : Class → Type 0) (b e : ℕ) (h : Behind t es P b e) → OfClass es h.block.block.class b e
    itself P b e h = record { before = h.before; is_number = h.is_number; block = h.block; is_block = h.is_block; class_fits = refl; made = h.made }

    given_fine : (is : Bool) (maker : Maker) (fs : Values) → AllGood t es fs → Fine t es (given_with is maker fs)
    given_fine true maker fs g = raised_good t es _ (derived_good t es maker fs g)
    given_fine false maker fs g = tt

    pub with_one_fine : (m f : Value) → Good t es m → Good t es f → Fine t es (with_one (class_of t) m f)
    with_one_fine (Given code) f g h = given_fine (is_given_modifier1 code) (One code) (more f none) (h, tt)
    with_one_fine (Modifier1 b e) f g h = subst (λ o. Fine t es (block_with o b e (more f none))) (sym (ap class_in g.is_block)) (one_fine g.block.block.class b e f g.class_fits (itself _ b e g) h)
    with_one_fine (Number n) f g h = tt
    with_one_fine (Character c) f g h = tt
    with_one_fine (Array shape xs fill) f g h = tt
    with_one_fine (Derived maker parts) f g h = tt
    with_one_fine (Function b e operands) f g h = tt
    with_one_fine (Modifier2 b e) f g h = tt
    with_one_fine (Namespace e) f g h = tt

    pub with_two_fine : (m f k : Value) → Good t es m → Good t es f → Good t es k → Fine t es (with_two (class_of t) m f k)
    with_two_fine (Given code) f k g h i = given_fine (is_given_modifier2 code) (Two code) (more f (more k none)) (h, (i, tt))
    with_two_fine (Modifier2 b e) f k g h i = subst (λ o. Fine t es (block_with o b e (more f (more k none)))) (sym (ap class_in g.is_block)) (two_fine g.block.block.class b e f k g.class_fits (itself _ b e g) h i)
    with_two_fine (Number n) f k g h i = tt
    with_two_fine (Character c) f k g h i = tt
    with_two_fine (Array shape xs fill) f k g h i = tt
    with_two_fine (Derived maker parts) f k g h i = tt
    with_two_fine (Function b e operands) f k g h i = tt
    with_two_fine (Modifier1 b e) f k g h i = tt
    with_two_fine (Namespace e) f k g h i = tt
