-- Storing a good value, and a new environment, keep states sound.
use Rattle.std.proofs.Common.{◌≡◌, ◌∙◌, ℕ, zero, suc, ◌≤◌, List, [], ◌∷◌, ◌++◌, length, replicate, Option, Some, None, slice_get, slice_set, refl, subst, sym, ap, arith}
use Rattle.std.specs.Option.{option_and_then}
use Rattle.std.proofs.lemmas.List.{length-set, length-replicate}
use Rattle.bqn_rows.specs.Plain.{Value}
use Rattle.bqn_code.specs.Numbering.{Table, BodyAt}
use Rattle.bqn_execution.specs.States.{Environment, State}
use Rattle.bqn_execution.specs.Variables.{with_variable, put_at, put_in, variable, variable_in}
use Rattle.bqn_execution.specs.Soundness.{Each, Shape, shape, shape_at, Later, body_at, Good, GoodIfAny, Made, SoundEnvironment, Sound}
use Rattle.bqn_execution.proofs.Sure.{none_some, some_same}
use Rattle.bqn_execution.proofs.GoodValues.{same, body_later, good_later, stack_later}

-- ---- lists

pub each_at : {A : Type 0} (P : A → Type 0) (xs : List A) (k : ℕ) (x : A) → Each P xs → slice_get xs k ≡ Some x → P x
each_at P [] k x h q = absurd (none_some q)
each_at P (y ∷ ys) zero x h q = subst P (some_same q) h.0
each_at P (y ∷ ys) (suc k) x h q = each_at P ys k x h.1 q

pub each_map : {A : Type 0} (P Q : A → Type 0) (xs : List A) → ((x : A) → P x → Q x) → Each P xs → Each Q xs
each_map P Q [] h e = tt
each_map P Q (x ∷ xs) h e = (h x e.0, each_map P Q xs h e.1)

each_set : {A : Type 0} (P : A → Type 0) (xs : List A) (k : ℕ) (y : A) → Each P xs → P y → Each P (slice_set xs k y)
each_set P [] k y e h = tt
each_set P (x ∷ xs) zero y e h = (h, e.1)
each_set P (x ∷ xs) (suc k) y e h = (e.0, each_set P xs k y e.1 h)

pub each_append : {A : Type 0} (P : A → Type 0) (xs ys : List A) → Each P xs → Each P ys → Each P (xs ++ ys)
each_append P [] ys e h = h
each_append P (x ∷ xs) ys e h = (e.0, each_append P xs ys e.1 h)

pub each_same : {A : Type 0} (P : A → Type 0) (n : ℕ) (x : A) → P x → Each P (replicate n x)
each_same P zero x h = tt
each_same P (suc n) x h = (h, each_same P n x h)

-- ---- shapes

set_shape : (es : List Environment) (n : ℕ) (e d : Environment) → slice_get es n ≡ Some e → shape d ≡ shape e → (k : ℕ) → shape_at (slice_set es n d) k ≡ shape_at es k
set_shape [] n e d h q k = absurd (none_some h)
set_shape (y ∷ ys) zero e d h q zero = ap Some (q ∙ ap shape (sym (some_same h)))
set_shape (y ∷ ys) zero e d h q (suc k) = refl
set_shape (y ∷ ys) (suc n) e d h q zero = refl
set_shape (y ∷ ys) (suc n) e d h q (suc k) = set_shape ys n e d h q k

variable_shape : (slot : ℕ) (v : Value) (e : Environment) → shape (with_variable slot v e) ≡ shape e
variable_shape slot v e = ap (λ (n : ℕ). by n) (length-set e.variables slot (Some v))
  where
    by : ℕ → Shape
    by n = record { body = e.body; parent = e.parent; width = n }

append_later : (es ds : List Environment) → Later es (es ++ ds)
append_later [] ds n x q = absurd (none_some q)
append_later (e ∷ es) ds zero x q = q
append_later (e ∷ es) ds (suc n) x q = append_later es ds n x q

last_body : (es : List Environment) (e : Environment) → body_at (es ++ e ∷ []) (length es) ≡ Some e.body
last_body [] e = refl
last_body (d ∷ es) e = last_body es e

-- ---- sound environments

pub record Further (t : Table) (top : ℕ) (u w : List Environment) : Type 0 where
  pub later : Later u w
  pub sound : Sound t top w

module _ (t : Table) (top : ℕ) where
  made_later : (u w : List Environment) → Later u w → (e : Environment) (b : ℕ) → Made t top u e b → Made t top w e b
  made_later u w l e zero m = m
  made_later u w l e (suc b) m = record { body = m.body; is_body = m.is_body; width = m.width; parent = body_later u w l e.parent m.body.parent m.parent }

  environment_later : (u w : List Environment) → Later u w → (e : Environment) → SoundEnvironment t top u e → SoundEnvironment t top w e
  environment_later u w l e s = record { made = made_later u w l e e.body s.made; values = stack_later t u w l e.variables s.values }

  made_with : (es : List Environment) (slot : ℕ) (v : Value) (e : Environment) (b : ℕ) → Made t top es e b → Made t top es (with_variable slot v e) b
  made_with es slot v e zero m = subst (λ n. top ≤ n) (sym (length-set e.variables slot (Some v))) m
  made_with es slot v e (suc b) m = record { body = m.body; is_body = m.is_body; width = subst (λ n. m.body.body.slots ≤ n) (sym (length-set e.variables slot (Some v))) m.width; parent = m.parent }

  put_one : (es : List Environment) (n slot : ℕ) (v : Value) (e : Environment) → slice_get es n ≡ Some e → Sound t top es → Good t es v → Further t top es (slice_set es n (with_variable slot v e))
  put_one es n slot v e q s g = record {
    later = l;
    sound = record {
      program = body_later es w l 0 0 s.program;
      environments = each_set (SoundEnvironment t top w) es n (with_variable slot v e) (each_map (SoundEnvironment t top es) (SoundEnvironment t top w) es (environment_later es w l) s.environments) (record {
        made = made_with w slot v e e.body (made_later es w l e e.body here.made);
        values = each_set (GoodIfAny t w) e.variables slot (Some v) (stack_later t es w l e.variables here.values) (good_later t es w l v g);
      });
    };
  }
    where
      w : List Environment
      w = slice_set es n (with_variable slot v e)

      l : Later es w
      l k x r = set_shape es n e (with_variable slot v e) q (variable_shape slot v e) k ∙ r

      here : SoundEnvironment t top es e
      here = each_at (SoundEnvironment t top es) es n e s.environments q

  pub put_further : (es : List Environment) (place : Option ℕ) (slot : ℕ) (v : Value) → Sound t top es → Good t es v → Further t top es (put_at place slot v es)
  put_further es None slot v s g = record { later = same es; sound = s }
  put_further es (Some n) slot v s g = by (slice_get es n) refl
    where
      by : (o : Option Environment) → slice_get es n ≡ o → Further t top es (put_in n slot v o es)
      by None q = record { later = same es; sound = s }
      by (Some e) q = put_one es n slot v e q s g

  -- ---- a new environment

  abbrev new : (number slots parent : ℕ) → Environment
  new number slots parent = record { body = number; parent = parent; variables = replicate slots None }

  pub new_body : (es : List Environment) (number slots parent : ℕ) → body_at (es ++ new number slots parent ∷ []) (length es) ≡ Some number
  new_body es number slots parent = last_body es (new number slots parent)

  pub new_further : (es : List Environment) (number before parent : ℕ) (y : BodyAt) → number ≡ suc before → slice_get t.bodies number ≡ Some y → body_at es parent ≡ Some y.parent →
      Sound t top es → Further t top es (es ++ new number y.body.slots parent ∷ [])
  new_further es number before parent y q h p s = record {
    later = l;
    sound = record {
      program = body_later es w l 0 0 s.program;
      environments = each_append (SoundEnvironment t top w) es (e ∷ []) (each_map (SoundEnvironment t top es) (SoundEnvironment t top w) es (environment_later es w l) s.environments) (
        record {
          made = subst (Made t top w e) (sym q) (record { body = y; is_body = h; width = fits y.body.slots; parent = body_later es w l parent y.parent p });
          values = each_same (GoodIfAny t w) y.body.slots None tt;
        },
        tt,
      );
    };
  }
    where
      e : Environment
      e = new number y.body.slots parent

      w : List Environment
      w = es ++ e ∷ []

      l : Later es w
      l = append_later es (e ∷ [])

      fits : (n : ℕ) → n ≤ length (replicate {A = Option Value} n None)
      fits n = let q : length (replicate {A = Option Value} n None) ≡ n = length-replicate n None in omega arith

  -- ---- reading

  pub variable_good : (s : State) (slot n : ℕ) → Sound t top s.environments → GoodIfAny t s.environments (variable s slot n)
  variable_good s slot n h = by (slice_get s.environments n) refl
    where
      in_environment : (e : Environment) → Each (GoodIfAny t s.environments) e.variables → (o : Option (Option Value)) → slice_get e.variables slot ≡ o → GoodIfAny t s.environments (option_and_then (λ v. v) o)
      in_environment e a None q = tt
      in_environment e a (Some x) q = each_at (GoodIfAny t s.environments) e.variables slot x a q

      by : (o : Option Environment) → slice_get s.environments n ≡ o → GoodIfAny t s.environments (option_and_then (variable_in slot) o)
      by None q = tt
      by (Some e) q = in_environment e (each_at (SoundEnvironment t top s.environments) s.environments n e h.environments q).values (slice_get e.variables slot) refl
