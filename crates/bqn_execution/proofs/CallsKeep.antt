-- Bodies, calls and programs keep states sound.
use Rattle.std.proofs.Common.{◌≡◌, ◌∙◌, ℕ, zero, suc, List, [], ◌∷◌, ◌++◌, length, replicate, Bool, true, false, Some, None, Result, Ok, Err, IsTrue, slice_get, refl, subst, sym}
use Rattle.bqn_base.specs.declared.fault.Fault.TheVariants.{TooDeep}
use Rattle.bqn_base.specs.declared.place.Place.{Place}
use Rattle.bqn_rows.specs.Plain.{Value, Values, count}
use Rattle.bqn_rows.specs.Raised.{Raised, Answer, unplaced}
use Rattle.bqn_rows.specs.Calls.{Arguments, Call, End, Enter, Turn, Write, Inside}
use Rattle.bqn_rows.specs.Running.{Res, Gives, Ends, then_do, run}
use Rattle.bqn_meaning.specs.Actions.{◌>>=◌, used}
use Rattle.bqn_meaning.specs.Frames.{Entry}
use Rattle.bqn_meaning.specs.Meaning.{Ending, NextBody, EndsWith}
use Rattle.bqn_code.specs.declared.code.Body.{Body}
use Rattle.bqn_code.specs.declared.instr.Instr.{Instr}
use Rattle.bqn_code.specs.Numbering.{Table, BlockAt, body_number}
use Rattle.bqn_execution.specs.States.{State, Halted, Spends, Sticks, Does, Calling, stepped, wrote}
use Rattle.bqn_execution.specs.Execution as e
use Rattle.bqn_execution.specs.Soundness.{Each, Later, body_at, Behind, is_run_on, Good, AllGood, GoodArguments, GoodAnswer, GoodEnding, Fine, GivenCallsKeep, Sound, Keeps, Standing}
use Rattle.bqn_execution.specs.Formed.{Names, FormedBody, FormedBodies, FormedTable}
use Rattle.bqn_execution.proofs.Sure.{some_same}
use Rattle.bqn_execution.proofs.GoodValues.{same, on, behind_later, good_later, all_later, arguments_later}
use Rattle.bqn_execution.proofs.SoundStates.{Further, new_body, new_further}
use Rattle.bqn_execution.proofs.Keeping.{Envs, Safe, keeps_from, bind_safe, at_safe, used_here}
use Rattle.bqn_execution.proofs.RunsKeep.{exec_safe}

-- code with its places names what it names without
pub each_placed : (P : Instr → Type 0) (is : List Instr) (ps : List Place) → Each P is → Each (λ (i : Instr × Place). P i.0) (e.with_places is ps)
each_placed P [] ps h = tt
each_placed P (i ∷ is) [] h = (h.0, each_placed P is [] h.1)
each_placed P (i ∷ is) (p ∷ ps) h = (h.0, each_placed P is ps h.1)

-- what a block is run on is good, and as its class asks
pub record Enters (t : Table) (es : Envs) (x : Entry) : Type 0 where
  pub block : Behind t es (λ c. IsTrue (is_run_on (count x.operands) x.arguments c)) x.block x.outer
  pub operands : AllGood t es x.operands
  pub arguments : GoodArguments t es x.arguments

enters_later : (t : Table) (u w : Envs) → Later u w → (x : Entry) → Enters t u x → Enters t w x
enters_later t u w l x h = record { block = behind_later t u w l _ x.block x.outer h.block; operands = all_later t u w l x.operands h.operands; arguments = arguments_later t u w l x.arguments h.arguments }

module _ (t : Table) (top : ℕ) where
  spends : {A : Type 0} (Q : Envs → A → Type 0) (go : State → Res Halted State (Result A Raised)) (s : State) → Sound t top s.environments →
      ((left : ℕ) → Keeps t top s.environments Q (go (record s { left = left }))) → (left : ℕ) → Keeps t top s.environments Q (elim left [ zero ↦ Ends (Spends s) | suc n ↦ go (record s { left = n }) ])
  spends Q go s h a zero = (same s.environments, h)
  spends Q go s h a (suc n) = a n

  pub stepped_safe : {A : Type 0} (es : Envs) (Q : Envs → A → Type 0) (go : Does A) → Safe t top es Q go → Safe t top es Q (stepped go)
  stepped_safe es Q go a s l h = spends Q go s h (λ n. a (record s { left = n }) l h) s.left

  or_else_safe : (es : Envs) (others : Does Value) → Safe t top es (Good t) others → (r : Ending) → GoodEnding t es r → Safe t top es (Good t) (e.or_else others r)
  or_else_safe es others a NextBody g = a
  or_else_safe es others a (EndsWith p x) g = at_safe t top es (Good t) p (used x) (used_here t top es x g)

  module _ (args : Value) (formed : FormedTable t top) (given : GivenCallsKeep t) (args_good : Good t [] args) (h : Calling)
      (hs : (es : Envs) (c : Call) → Fine t es c → Safe t top es (Good t) (h c)) where
    module _ (b : BlockAt) (x : Entry) (is_block : slice_get t.blocks x.block ≡ Some b) where
      standing : (es : Envs) (k n : ℕ) → Enters t es x → body_at es n ≡ Some (body_number b.here k) → Standing t es (e.frame_of b x (body_number b.here k) n)
      standing es k n a q = let known : a.block.block ≡ b = some_same (sym a.block.is_block ∙ is_block) in record {
        made = q;
        block = λ i. record {
          before = a.block.before;
          is_number = a.block.is_number;
          block = b;
          is_block = is_block;
          class_fits = refl;
          made = subst (λ (y : BlockAt). body_at es x.outer ≡ Some (body_number y.here y.block.parent)) known a.block.made;
        };
        is_run_on = subst (λ (y : BlockAt). IsTrue (is_run_on (count x.operands) x.arguments y.block.class)) known a.block.class_fits;
        operands = a.operands;
        arguments = a.arguments;
      }

      tried_safe : (es : Envs) (others : Does Value) (k : ℕ) (body : Body) → Enters t es x → FormedBody t top b k body → ((u : Envs) → Later es u → Safe t top u (Good t) others) →
          Safe t top es (Good t) (e.tried t args h b x others (body_number b.here k) body)
      tried_safe es others k body a m rest = stepped_safe es (Good t) _ run
        where
          number : ℕ
          number = body_number b.here k

          ran : ℕ → Does Value
          ran n = e.exec t args h (e.frame_of b x number n) (e.placed_code body) [] >>= e.or_else others

          outer_is : (u : Envs) → Enters t u x → body_at u x.outer ≡ Some (body_number b.here b.block.parent)
          outer_is u d = subst (λ (y : BlockAt). body_at u x.outer ≡ Some (body_number y.here y.block.parent)) (some_same (sym d.block.is_block ∙ is_block)) d.block.made

          inside : (w : Envs) (n : ℕ) → Later es w → body_at w n ≡ Some number → Safe t top w (Good t) (ran n)
          inside w n l q = bind_safe t top {A = Ending} {B = Value} w (GoodEnding t) (Good t) (e.exec t args h (e.frame_of b x number n) (e.placed_code body) []) (e.or_else others)
              (exec_safe t top args h hs given args_good (e.frame_of b x number n) (e.placed_code body) [] w (standing w k n (enters_later t es w l x a) q)
              (each_placed (Names t top number b.here b.block.class) body.code body.places m.code) tt)
              (λ u i r g. or_else_safe u others (rest u (on es w u l i)) r g)

          run : Safe t top es (Good t) (e.within_new number body.slots x.outer ran)
          run s l i = from (new_further t top s.environments number m.before x.outer (record { here = b.here; parent = body_number b.here b.block.parent; body = body }) m.is_number m.is_body
              (outer_is s.environments (enters_later t es s.environments l x a)) i)
            where
              w : Envs
              w = s.environments ++ record { body = number; parent = x.outer; variables = replicate body.slots None } ∷ []

              from : Further t top s.environments w → Keeps t top s.environments (Good t) (e.within_new number body.slots x.outer ran s)
              from f = keeps_from t top s.environments w (Good t) f.later _ (inside w (length s.environments) (on es s.environments w l f.later) (new_body t top s.environments number body.slots x.outer)
                  (record s { environments = w }) (same w) f.sound)

      tries_safe : (es : Envs) (k : ℕ) (bodies : List Body) → Enters t es x → FormedBodies t top b k bodies → Safe t top es (Good t) (e.tries t args h b x k bodies)
      tries_safe es k [] a m = λ s l i. (same s.environments, i)
      tries_safe es k (body ∷ bodies) a m = by (λ u l. tries_safe u (suc k) bodies (enters_later t es u l x a) m.1) (e.is_meant body.kind x.arguments)
        where
          by : ((u : Envs) → Later es u → Safe t top u (Good t) (e.tries t args h b x (suc k) bodies)) → (meant : Bool) →
              Safe t top es (Good t) (elim meant [ true ↦ e.tried t args h b x (e.tries t args h b x (suc k) bodies) (body_number b.here k) body | false ↦ e.tries t args h b x (suc k) bodies ])
          by others true = tried_safe es (e.tries t args h b x (suc k) bodies) k body a m.0 others
          by others false = others es (same es)

    entered_safe : (es : Envs) (x : Entry) → Enters t es x → Safe t top es (Good t) (e.entered t args h (slice_get t.blocks x.block) x)
    entered_safe es x a = subst (λ o. Safe t top es (Good t) (e.entered t args h o x)) (sym a.block.is_block)
        (tries_safe a.block.block x a.block.is_block es a.block.block.first a.block.block.block.bodies a
        (formed.blocks a.block.before a.block.block (subst (λ n. slice_get t.blocks n ≡ Some a.block.block) a.block.is_number a.block.is_block)))

  -- ---- calls

  then_safe : (es : Envs) (s : State) → (go : Answer → State → Res Halted State Answer) → ((u : Envs) → Later s.environments u → (q : Answer) → GoodAnswer t u q → Safe t top u (Good t) (go q)) →
      (r : Res Halted State Answer) → Keeps t top s.environments (Good t) r → Keeps t top s.environments (Good t) (then_do r go)
  then_safe es s go a (Gives (Ok x) u) k = keeps_from t top s.environments u.environments (Good t) k.0 (go (Ok x) u) (a u.environments k.0 (Ok x) k.2 u (same u.environments) k.1)
  then_safe es s go a (Gives (Err f) u) k = keeps_from t top s.environments u.environments (Good t) k.0 (go (Err f) u) (a u.environments k.0 (Err f) tt u (same u.environments) k.1)
  then_safe es s go a (Ends (Spends u)) k = k
  then_safe es s go a (Ends (Sticks u)) k = tt

  module _ (args : Value) (enter : (block environment : ℕ) → Values → Arguments → State → Res Halted State Answer) (inner : Calling)
      (enters : (es : Envs) (x : Entry) → Enters t es x → Safe t top es (Good t) (enter x.block x.outer x.operands x.arguments))
      (inners : (es : Envs) (c : Call) → Fine t es c → Safe t top es (Good t) (inner c)) where
    run_safe : (es : Envs) (c : Call) → Fine t es c → Safe t top es (Good t) (run (e.replies t args) enter inner c)
    run_safe es (End (Ok x)) f = λ s l i. (same s.environments, i, good_later t es s.environments l x f)
    run_safe es (End (Err r)) f = λ s l i. (same s.environments, i)
    run_safe es (Enter b n fs xs go) f = λ s l i. then_safe es s _ (λ u k q g. run_safe u (go q) (f.3 u (on es s.environments u l k) q g)) (enter b n fs xs s)
        (enters es (record { block = b; outer = n; operands = fs; arguments = xs }) (record { block = f.0; operands = f.1; arguments = f.2 }) s l i)
    run_safe es (Turn go) f = λ s l i. turned s i (λ left. run_safe es (go tt) (f es (same es)) (record s { left = left }) l i) s.left
      where
        turned : (s : State) → Sound t top s.environments → ((left : ℕ) → Keeps t top s.environments (Good t) (run (e.replies t args) enter inner (go tt) (record s { left = left }))) →
            (left : ℕ) → Keeps t top s.environments (Good t) (then_do (elim left [ zero ↦ Ends (Spends s) | suc n ↦ Gives tt (record s { left = n }) ]) (λ (u : Unit {0}). run (e.replies t args) enter inner (go u)))
        turned s i a zero = (same s.environments, i)
        turned s i a (suc n) = a n
    run_safe es (Write text go) f = λ s l i. run_safe es (go tt) (f es (same es)) (wrote text s) l i
    run_safe es (Inside c go) f = λ s l i. then_safe es s _ (λ u k q g. run_safe u (go q) (f.1 u (on es s.environments u l k) q g)) (inner c s) (inners es c f.0 s l i)

  pub runs_safe : (args : Value) → FormedTable t top → GivenCallsKeep t → Good t [] args → (room : ℕ) (es : Envs) (c : Call) → Fine t es c → Safe t top es (Good t) (e.runs t args room c)
  runs_safe args formed given g zero es c f = run_safe args (λ b n fs xs s. Gives (Err (unplaced TooDeep)) s) (λ c s. Gives (Err (unplaced TooDeep)) s)
      (λ es x a s l i. (same s.environments, i)) (λ es c a s l i. (same s.environments, i)) es c f
  runs_safe args formed given g (suc room) es c f = run_safe args ((e.replies t args).enter room (e.runs t args room)) (e.runs t args room)
      (λ es x a. entered_safe args formed given g (e.runs t args room) (runs_safe args formed given g room) es x a) (runs_safe args formed given g room) es c f
