-- What code means: the 28 instructions over a stack, and how the bodies of a block are tried. Code has no jumps: each instruction is
-- told what comes after it. All of it is this project's own.
use Rattle.std.specs.Prelude.{ℕ, zero, suc, Bool, true, false, List, [], ◌∷◌, ◌++◌, length, replicate, slice_get, Option, Some, None}
use Rattle.bqn_base.specs.declared.fault.Fault.TheVariants.{Undefined, NoBody}
use Rattle.bqn_base.specs.declared.place.Place.{Place}
use Rattle.bqn_base.specs.Places.{nowhere}
use Rattle.bqn_rows.specs.Plain.{Value, Function, none}
use Rattle.bqn_rows.specs.Calls.{Arguments, alone, two}
use Rattle.bqn_rows.specs.Running.{Gives, Replies, calls}
use Rattle.bqn_meaning.specs.Actions.{at, ◌>>=◌, pure, fault, known, found, used, where_so}
use Rattle.bqn_meaning.specs.Frames.{Entry, left_of, right_of, left_operand, right_operand, modifier_of}
use Rattle.bqn_meaning.specs.Matching.{does_fit}
use Rattle.bqn_meaning.specs.Deriving.{listed, modified_one, modified_two, atop, fork, applied}
use Rattle.bqn_meaning.specs.Meaning.{Ending, NextBody, EndsWith, tested}
use Rattle.bqn_code.specs.declared.instr.Instr.{Instr}
use Rattle.bqn_code.specs.declared.instr.Instr.TheVariants as instr
use Rattle.bqn_code.specs.declared.code.Body.{Body}
use Rattle.bqn_code.specs.Plain.{Pattern}
use Rattle.bqn_execution.specs.States.{State, Halted, Does, Calling, stuck, stepped, wrote}
use Rattle.bqn_code.specs.Numbering.{Table, BlockAt, block_number, body_number, class_of}
use Rattle.bqn_execution.specs.Variables.{Frame, load, define, change, field}
use Rattle.bqn_execution.specs.Patterns.{fit, bind}
use Rattle.bqn_execution.specs.Operands.{Go, one, pair, triple, taken, pushed, value, constant, given_value, block_value, block_answer, returned, left_space}

-- a pattern, where there is one with this number
abbrev pub with_pattern : Option Pattern → (Pattern → Does Ending) → Does Ending
with_pattern None go = stuck
with_pattern (Some p) go = go p

-- a value that an action stores stays
abbrev pub stays : (Value → Does (Unit {0})) → Option Value → Does (Option Value)
stays store x = used x >>= (λ v. store v >>= (λ u. pure (Some v)))

-- instructions with their places; where there are none, each is nowhere
abbrev pub with_places : List Instr → List Place → List (Instr × Place)
with_places [] ps = []
with_places (i ∷ is) [] = (i, nowhere) ∷ with_places is []
with_places (i ∷ is) (p ∷ ps) = (i, p) ∷ with_places is ps

abbrev pub placed_code : Body → List (Instr × Place)
placed_code body = with_places body.code body.places

-- code in a body, with all codes so far, the value of `•args`, and how calls run
module _ (t : Table) (args : Value) (h : Calling) (f : Frame) where
  -- An instruction at its place, and what comes after it. A fault of the instruction itself gets the place, one that comes after it doesn't.
  abbrev pub act : Instr → Place → Go → Go
  act (instr.Const k) p next st = pushed p (value (constant (slice_get f.here.code.constants k))) next st
  act (instr.Given code) p next st = pushed p (value (given_value args code)) next st
  act instr.Nothing p next st = next (None ∷ st)
  act (instr.Block b) p next st = pushed p (value (block_value h (class_of t (block_number f.here b)) (block_number f.here b) f.environment)) next st
  act (instr.Run b) p next st = pushed p (value (block_answer h (class_of t (block_number f.here b)) (block_number f.here b) f.environment)) next st
  act (instr.Load up slot) p next st = pushed p (value (load t f up slot)) next st
  act (instr.Define slot) p next st = one (λ x. pushed p (stays (define t f slot) x) next) st
  act (instr.Change up slot) p next st = one (λ x. pushed p (stays (change t f up slot) x) next) st
  act instr.Pop p next st = one (λ x. next) st
  act (instr.List n) p next st = taken n (Some none) (λ xs. pushed p (value (known (listed xs))) next) st
  act instr.Call1 p next st = pair (λ g x. pushed p (applied h g None x) next) st
  act instr.Call2 p next st = triple (λ w g x. pushed p (applied h g w x) next) st
  act instr.Derive1 p next st = pair (λ g m. pushed p (modified_one (class_of t) h m g) next) st
  act instr.Derive2 p next st = triple (λ g m k. pushed p (modified_two (class_of t) h m g k) next) st
  act instr.Train2 p next st = pair (λ g k. pushed p (value (known (atop g k))) next) st
  act instr.Train3 p next st = triple (λ e g k. pushed p (value (known (fork e g k))) next) st
  act (instr.Field k) p next st = one (λ x. pushed p (value (used x >>= field t (slice_get f.here.code.names k))) next) st
  act (instr.Bind k) p next st = with_pattern (slice_get f.here.code.patterns k) (λ q. one (λ x. pushed p (stays (bind t f q) x) next) st)
  act (instr.Match k) p next st =
      with_pattern (slice_get f.here.code.patterns k)
      (λ q. one (λ x rest. at p (used x >>= (λ v. fit t f q v >>= (λ r. pure (does_fit r)))) >>= where_so NextBody (next rest)) st)
  act instr.Check p next st = one (λ x rest. at p (tested x) >>= where_so NextBody (next rest)) st
  act instr.Left p next st = next (left_of f.arguments ∷ st)
  act instr.Right p next st = next (right_of f.arguments ∷ st)
  act instr.Own p next st = next (Some (Function f.block f.outer f.operands) ∷ st)
  act instr.LeftOperand p next st = pushed p (value (found Undefined (left_operand f.operands))) next st
  act instr.RightOperand p next st = pushed p (value (found Undefined (right_operand f.operands))) next st
  act instr.Modifier p next st = pushed p (value (found Undefined (modifier_of f.class f.block f.outer))) next st
  act instr.Return p next st = returned p st
  act instr.Space p next st = left_space p f.environment st

  abbrev pub exec : List (Instr × Place) → Go
  exec [] = λ st. stuck
  exec (i ∷ is) = act i.0 i.1 (exec is)

-- ---- bodies

-- for which calls a body is meant: 0 for all, 1 for those without a left argument, 2 for those with one
abbrev pub is_meant : (kind : ℕ) → Arguments → Bool
is_meant zero _ = true
is_meant (suc zero) (alone x) = true
is_meant (suc (suc zero)) (two w x) = true
is_meant _ _ = false

-- what a body that is tried gives, or what comes behind it
abbrev pub or_else : Does Value → Ending → Does Value
or_else others NextBody = others
or_else others (EndsWith p x) = at p (used x)

-- an environment for this body within that one, with variables that have no value yet; it gets the next number
abbrev pub within_new : {A : Type 0} → (body slots parent : ℕ) → (ℕ → Does A) → Does A
within_new body slots parent next =
    λ s. next (length s.environments)
    (record s { environments = s.environments ++ record { body = body; parent = parent; variables = replicate slots None } ∷ [] })

-- where the body with this number among all bodies is run, in its environment
abbrev pub frame_of : BlockAt → Entry → (body environment : ℕ) → Frame
frame_of b e body n =
    record {
      here = b.here;
      block = e.block;
      class = b.block.class;
      body = body;
      environment = n;
      outer = e.outer;
      operands = e.operands;
      arguments = e.arguments;
    }

-- a block that is run
module _ (t : Table) (args : Value) (h : Calling) (b : BlockAt) (e : Entry) where
  -- a body is tried, which takes a step, and perhaps others behind it
  abbrev pub tried : (others : Does Value) → (number : ℕ) → Body → Does Value
  tried others number body =
      stepped (within_new number body.slots e.outer (λ n. exec t args h (frame_of b e number n) (placed_code body) [] >>= or_else others))

  -- the bodies in order, the first with this number in its own code
  abbrev pub tries : ℕ → List Body → Does Value
  tries k [] = fault NoBody
  tries k (body ∷ bodies) =
      elim (is_meant body.kind e.arguments) [ true ↦ tried (tries (suc k) bodies) (body_number b.here k) body | false ↦ tries (suc k) bodies ]

abbrev pub entered : Table → (args : Value) → Calling → Option BlockAt → Entry → Does Value
entered t args h None e = fault NoBody
entered t args h (Some b) e = tries t args h b e b.first b.block.bodies

abbrev pub replies : Table → (args : Value) → Replies Halted State
replies t args = record {
  enter = λ room h block outer operands xs.
      entered t args h (slice_get t.blocks block) (record { block = block; outer = outer; operands = operands; arguments = xs });
  turn = stepped (λ s. Gives tt s);
  write = λ text s. Gives tt (wrote text s);
}

-- how calls run where at most so many may be open
abbrev pub runs : Table → (args : Value) → (room : ℕ) → Calling
runs t args room = calls (replies t args) room
