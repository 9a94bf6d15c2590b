-- In a frame that stands, in a sound state, an instruction finds what it looks up.
use Rattle.std.proofs.Common.{◌≡◌, ◌∙◌, ℕ, zero, suc, ◌<◌, ◌≤◌, not, List, length, Bool, true, false, Option, Some, None, IsTrue, is_some, slice_get, refl, subst, sym, ap, arith}
use Rattle.std.specs.Option.{option_map}
use Rattle.std.proofs.lemmas.Bool.{ltb-true, eqb-true, eq-eqb}
use Rattle.bqn_rows.specs.Plain.{Values, none, more, count}
use Rattle.bqn_rows.specs.Calls.{Arguments, no_arguments, alone, two}
use Rattle.bqn_syntax.specs.declared.tree.Class.{Class}
use Rattle.bqn_syntax.specs.declared.tree.Class.TheVariants as class
use Rattle.bqn_syntax.specs.grammar.Classes.{waits}
use Rattle.bqn_meaning.specs.Frames.{right_of, left_operand, right_operand, modifier_of}
use Rattle.bqn_code.specs.declared.instr.Instr.{Instr}
use Rattle.bqn_code.specs.declared.instr.Instr.TheVariants as instr
use Rattle.bqn_code.specs.Plain.{Pattern, Skip, Define, Change, ListPattern, Literal, Patterns, no_patterns, and_patterns}
use Rattle.bqn_code.specs.Conditions as is
use Rattle.bqn_code.specs.Conditions.{is_below, leaves, all_leaves, pattern_passes}
use Rattle.bqn_code.specs.Numbering.{Table, BodyAt, block_number, parent_of, parent_in}
use Rattle.bqn_execution.specs.States.{Environment, State}
use Rattle.bqn_execution.specs.Variables.{Frame, place_at, made_for, itself, at_parent, fitting}
use Rattle.bqn_execution.specs.Soundness.{OfSome, Shape, shape, body_at, Behind, operands_of, is_run_on, Made, SoundEnvironment, Sound, Standing, SlotThere, LeavesThere, AllLeavesThere, LooksUp}
use Rattle.bqn_execution.specs.Formed.{width_up, leaf_names_slot, BlockInside, Names}
use Rattle.bqn_execution.proofs.Sure.{no, none_some, some_same, and_left, and_right}
use Rattle.bqn_execution.proofs.SoundStates.{each_at}
use Rattle.bqn_execution.proofs.RunsKeep.{own_good}

-- an environment so many bodies up, with this slot
record Found (t : Table) (es : List Environment) (body up n slot : ℕ) : Type 0 where
  number : ℕ
  is_place : place_at t body up n es ≡ Some number
  environment : Environment
  is_there : slice_get es number ≡ Some environment
  has_slot : slot < length environment.variables

-- an environment that was made for a body
record MadeFor (es : List Environment) (n body : ℕ) : Type 0 where
  environment : Environment
  is_there : slice_get es n ≡ Some environment
  body_is : environment.body ≡ body

made_for_body : (es : List Environment) (n body : ℕ) → body_at es n ≡ Some body → MadeFor es n body
made_for_body es n body q = by (slice_get es n) refl q
  where
    by : (o : Option Environment) → slice_get es n ≡ o → option_map (λ (x : Shape). x.body) (option_map shape o) ≡ Some body → MadeFor es n body
    by None r q = absurd (none_some q)
    by (Some e) r q = record { environment = e; is_there = r; body_is = some_same q }

made_is : (es : List Environment) (n body : ℕ) (m : MadeFor es n body) → made_for body (slice_get es n) ≡ Some m.environment
made_is es n body m = ap (made_for body) m.is_there ∙ ap (λ b. fitting b m.environment) (eq-eqb m.environment.body body m.body_is)

module _ (t : Table) (top : ℕ) (es : List Environment) (sound : Sound t top es) where
  sound_at : (n : ℕ) (e : Environment) → slice_get es n ≡ Some e → SoundEnvironment t top es e
  sound_at n e q = each_at (SoundEnvironment t top es) es n e sound.environments q

  -- an environment has the slots of its body
  wide_at : (e : Environment) (slot body : ℕ) → Made t top es e body → e.body ≡ body → IsTrue (is_below slot (width_up t top 0 body)) → slot < length e.variables
  wide_at e slot zero m q h = let l : slot < top = ltb-true slot top h in omega arith
  wide_at e slot (suc k) m q h =
      fits m.body.body.slots (ltb-true slot m.body.body.slots (subst (λ o. IsTrue (is_below slot (option_map (λ (y : BodyAt). y.body.slots) o))) (subst (λ n. slice_get t.bodies n ≡ Some m.body) q m.is_body) h)) m.width
    where
      fits : (n : ℕ) → slot < n → n ≤ length e.variables → slot < length e.variables
      fits n l k = omega arith

  -- and an environment of the body around it
  parent_at : (e : Environment) (k : ℕ) → Made t top es e (suc k) → e.body ≡ suc k → body_at es e.parent ≡ Some (parent_of t (suc k))
  parent_at e k m q = m.parent ∙ ap (λ o. Some (parent_in o)) (sym (subst (λ n. slice_get t.bodies n ≡ Some m.body) q m.is_body))

  found_up : (up body n slot : ℕ) → body_at es n ≡ Some body → IsTrue (is_below slot (width_up t top up body)) → Found t es body up n slot
  found_up zero body n slot q h = let m : MadeFor es n body = made_for_body es n body q in record {
    number = n;
    is_place = ap (itself n) (made_is es n body m);
    environment = m.environment;
    is_there = m.is_there;
    has_slot = wide_at m.environment slot body (subst (Made t top es m.environment) m.body_is (sound_at n m.environment m.is_there).made) m.body_is h;
  }
  found_up (suc up) zero n slot q h = absurd (no h)
  found_up (suc up) (suc k) n slot q h = by (λ n q. found_up up (parent_of t (suc k)) n slot q h) (made_for_body es n (suc k) q)
    where
      by : ((n : ℕ) → body_at es n ≡ Some (parent_of t (suc k)) → Found t es (parent_of t (suc k)) up n slot) → MadeFor es n (suc k) → Found t es (suc k) (suc up) n slot
      by again m = from (again m.environment.parent (parent_at m.environment k (subst (Made t top es m.environment) m.body_is (sound_at n m.environment m.is_there).made) m.body_is))
        where
          from : Found t es (parent_of t (suc k)) up m.environment.parent slot → Found t es (suc k) (suc up) n slot
          from f = record {
            number = f.number;
            is_place = ap (λ o. at_parent o (λ p. place_at t (parent_of t (suc k)) up p es)) (made_is es n (suc k) m) ∙ f.is_place;
            environment = f.environment;
            is_there = f.is_there;
            has_slot = f.has_slot;
          }

-- ---- arguments and operands

right_there : (n : ℕ) (xs : Arguments) (c : Class) → IsTrue (is_run_on n xs c) → IsTrue (waits c) → IsTrue (is_some (right_of xs))
right_there n no_arguments c h w = by (waits c) (and_left (not (waits c)) _ h) w
  where
    by : (b : Bool) → IsTrue (not b) → IsTrue b → IsTrue false
    by true h k = h
    by false h k = k
right_there n (alone x) c h w = refl
right_there n (two a x) c h w = refl

many : (n : ℕ) (xs : Arguments) (c : Class) → IsTrue (is_run_on n xs c) → n ≡ operands_of c
many n no_arguments c h = eqb-true n (operands_of c) (and_right (not (waits c)) _ h)
many n (alone x) c h = eqb-true n (operands_of c) (and_right (waits c) _ h)
many n (two a x) c h = eqb-true n (operands_of c) (and_right (waits c) _ h)

modifier_operands : (c : Class) → IsTrue (is.is_modifier c) → 1 ≤ operands_of c
modifier_operands class.Immediate h = absurd (no h)
modifier_operands class.Function h = absurd (no h)
modifier_operands class.Mod1 h = omega arith
modifier_operands class.Mod1Deferred h = omega arith
modifier_operands class.Mod2 h = omega arith
modifier_operands class.Mod2Deferred h = omega arith

modifier2_operands : (c : Class) → IsTrue (is.is_modifier2 c) → operands_of c ≡ 2
modifier2_operands class.Immediate h = absurd (no h)
modifier2_operands class.Function h = absurd (no h)
modifier2_operands class.Mod1 h = absurd (no h)
modifier2_operands class.Mod1Deferred h = absurd (no h)
modifier2_operands class.Mod2 h = refl
modifier2_operands class.Mod2Deferred h = refl

left_operand_there : (fs : Values) → 1 ≤ count fs → IsTrue (is_some (left_operand fs))
left_operand_there none h = absurd (omega arith)
left_operand_there (more f fs) h = refl

right_operand_there : (fs : Values) → 2 ≤ count fs → IsTrue (is_some (right_operand fs))
right_operand_there none h = absurd (omega arith)
right_operand_there (more f none) h = absurd (omega arith)
right_operand_there (more f (more g gs)) h = refl

modifier_there : (c : Class) (b n : ℕ) → IsTrue (is.is_modifier c) → IsTrue (is_some (modifier_of c b n))
modifier_there class.Immediate b n h = absurd (no h)
modifier_there class.Function b n h = absurd (no h)
modifier_there class.Mod1 b n h = refl
modifier_there class.Mod1Deferred b n h = refl
modifier_there class.Mod2 b n h = refl
modifier_there class.Mod2Deferred b n h = refl

-- ---- instructions

module _ (t : Table) (top : ℕ) (f : Frame) (s : State) (sound : Sound t top s.environments) (stands : Standing t s.environments f) where
  slot_there : (up slot : ℕ) → IsTrue (is_below slot (width_up t top up f.body)) → SlotThere t f up slot s
  slot_there up slot h = let k : Found t s.environments f.body up f.environment slot = found_up t top s.environments sound up f.body f.environment slot stands.made h in
      record { number = k.number; is_place = k.is_place; environment = k.environment; is_there = k.is_there; has_slot = k.has_slot }

  mutual
    leaves_there : (q : Pattern) → IsTrue (leaves (leaf_names_slot t top f.body) q) → LeavesThere t f s q
    leaves_there Skip h = tt
    leaves_there (Define slot name) h = slot_there 0 slot h
    leaves_there (Change up slot name) h = slot_there up slot h
    leaves_there (ListPattern qs) h = all_leaves_there qs h
    leaves_there (Literal k) h = tt

    all_leaves_there : (qs : Patterns) → IsTrue (all_leaves (leaf_names_slot t top f.body) qs) → AllLeavesThere t f s qs
    all_leaves_there no_patterns h = tt
    all_leaves_there (and_patterns q qs) h = (leaves_there q (and_left (leaves (leaf_names_slot t top f.body) q) _ h), all_leaves_there qs (and_right (leaves (leaf_names_slot t top f.body) q) _ h))

  passes_there : (o : Option Pattern) → IsTrue (pattern_passes (leaves (leaf_names_slot t top f.body)) o) → OfSome (LeavesThere t f s) o
  passes_there None h = tt
  passes_there (Some q) h = leaves_there q h

  block_there : (P : Class → Type 0) (b : ℕ) → BlockInside t top f.body f.here P b → Behind t s.environments P (block_number f.here b) f.environment
  block_there P b k = record { before = k.before; is_number = k.is_number; block = k.block; is_block = k.is_block; class_fits = k.class_fits; made = stands.made ∙ ap Some (sym k.stands) }

  operands_are : count f.operands ≡ operands_of f.class
  operands_are = many (count f.operands) f.arguments f.class stands.is_run_on

  pub looks_up : (i : Instr) → Names t top f.body f.here f.class i → LooksUp t f s i
  looks_up (instr.Load up slot) h = slot_there up slot h
  looks_up (instr.Define slot) h = slot_there 0 slot h
  looks_up (instr.Change up slot) h = slot_there up slot h
  looks_up (instr.Bind k) h = passes_there (slice_get f.here.code.patterns k) h
  looks_up (instr.Match k) h = passes_there (slice_get f.here.code.patterns k) h
  looks_up (instr.Block b) h = block_there _ b h
  looks_up (instr.Run b) h = block_there _ b h
  looks_up instr.Right h = right_there (count f.operands) f.arguments f.class stands.is_run_on h
  looks_up instr.Own h = own_good t s.environments f stands h
  looks_up instr.LeftOperand h = left_operand_there f.operands (subst (λ n. 1 ≤ n) (sym operands_are) (modifier_operands f.class h))
  looks_up instr.RightOperand h = right_operand_there f.operands (subst (λ n. 2 ≤ n) (sym (operands_are ∙ modifier2_operands f.class h)) (omega arith))
  looks_up instr.Modifier h = modifier_there f.class f.block f.outer h
  looks_up (instr.Const n) h = tt
  looks_up (instr.Given n) h = tt
  looks_up instr.Nothing h = tt
  looks_up instr.Pop h = tt
  looks_up (instr.List n) h = tt
  looks_up instr.Call1 h = tt
  looks_up instr.Call2 h = tt
  looks_up instr.Derive1 h = tt
  looks_up instr.Derive2 h = tt
  looks_up instr.Train2 h = tt
  looks_up instr.Train3 h = tt
  looks_up (instr.Field n) h = tt
  looks_up instr.Check h = tt
  looks_up instr.Left h = tt
  looks_up instr.Return h = tt
  looks_up instr.Space h = tt
