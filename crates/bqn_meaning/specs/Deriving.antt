-- What is made of values that are evaluated: lists, derived functions, trains and blocks' values; and calls with Nothing: BQN's
-- pages on expressions, on trains and on blocks. The order in which faults are found is this project's own.
use Rattle.std.specs.Prelude.{ℕ, Bool, true, false, if◌then◌else◌, List, [], ◌∷◌, Option, Some, None, Result, Ok, Err}
use Rattle.bqn_base.specs.declared.fault.Fault.{Fault}
use Rattle.bqn_base.specs.declared.fault.Fault.TheVariants.{NotCallable, NothingUsed}
use Rattle.bqn_rows.specs.Plain.{Maker, One, Two, Atop, Fork, Value, Given, Function, Modifier1, Modifier2, Values, none, more, count, is_given_modifier1, is_given_modifier2}
use Rattle.bqn_rows.specs.Relations.{both}
use Rattle.bqn_rows.specs.Limits.{array, derived, block_function}
use Rattle.bqn_base.specs.declared.place.Place.{Place}
use Rattle.bqn_rows.specs.Calls.{no_arguments, Call, End, Enter, answer, fault as call_fault, known as call_known, call}
use Rattle.bqn_rows.specs.Running.{Runs}
use Rattle.bqn_syntax.specs.declared.tree.Class.{Class}
use Rattle.bqn_syntax.specs.declared.tree.Class.TheVariants as class
use Rattle.bqn_syntax.specs.grammar.Classes.{waits}
use Rattle.bqn_meaning.specs.Actions.{Action, at, ◌>>=◌, pure, fault, known, used}
use Rattle.bqn_meaning.specs.Frames.{given}

-- ---- lists

-- the elements, where none is Nothing
abbrev pub elements : List (Option Value) → Option Values
elements [] = Some none
elements (x ∷ xs) = both x (elements xs)

-- their list; an empty one carries no fill
abbrev pub listed : Option Values → Result Value Fault
listed None = Err NothingUsed
listed (Some xs) = array (count xs ∷ []) xs None

abbrev pub list_of : {X S : Type 0} → List (Option Value) → Action X S Value
list_of xs = known (listed (elements xs))

-- `[..]`: the list, called with `>`, both at this place
abbrev pub merged : {X S : Type 0} → Runs X S → Place → List (Option Value) → Action X S Value
merged h p xs = at p (list_of xs) >>= (λ x. at p (h (call (Given 13) None x)))

-- ---- blocks

-- what a block gives where it stands
abbrev pub standing : Class → (block environment : ℕ) → Call
standing class.Immediate b e = Enter b e none no_arguments End
standing class.Function b e = answer (Function b e none)
standing class.Mod1 b e = answer (Modifier1 b e)
standing class.Mod1Deferred b e = answer (Modifier1 b e)
standing class.Mod2 b e = answer (Modifier2 b e)
standing class.Mod2Deferred b e = answer (Modifier2 b e)

-- ---- modifiers with their operands

-- a block's modifier makes a function, where it waits for arguments, and else it is run
abbrev pub block_with : Option Class → (block environment : ℕ) → Values → Call
block_with None b e fs = call_fault NotCallable
block_with (Some c) b e fs = if waits c then call_known (block_function b e fs) else Enter b e fs no_arguments End

abbrev pub given_with : Bool → Maker → Values → Call
given_with true maker fs = call_known (derived maker fs)
given_with false maker fs = call_fault NotCallable

-- where blocks are of these classes
module _ (class_of : ℕ → Option Class) where
  abbrev pub with_one : (m f : Value) → Call
  with_one (Given code) f = given_with (is_given_modifier1 code) (One code) (more f none)
  with_one (Modifier1 b e) f = block_with (class_of b) b e (more f none)
  with_one m f = call_fault NotCallable

  abbrev pub with_two : (m f g : Value) → Call
  with_two (Given code) f g = given_with (is_given_modifier2 code) (Two code) (more f (more g none))
  with_two (Modifier2 b e) f g = block_with (class_of b) b e (more f (more g none))
  with_two m f g = call_fault NotCallable

  -- a part and a modifier, or two parts; Nothing as any of them is found before a wrong modifier
  abbrev pub modified_one : {X S : Type 0} → Runs X S → (m f : Option Value) → Action X S (Option Value)
  modified_one h m f = used m >>= (λ m. used f >>= (λ f. h (with_one m f) >>= given))

  abbrev pub modified_two : {X S : Type 0} → Runs X S → (m f g : Option Value) → Action X S (Option Value)
  modified_two h m f g = used m >>= (λ m. used f >>= (λ f. used g >>= (λ g. h (with_two m f g) >>= given)))

-- ---- trains

abbrev pub atop : (f g : Option Value) → Result Value Fault
atop (Some f) (Some g) = derived Atop (more f (more g none))
atop _ _ = Err NothingUsed

-- Nothing on the left leaves the other two
abbrev pub fork : (f g h : Option Value) → Result Value Fault
fork None g h = atop g h
fork (Some f) (Some g) (Some h) = derived Fork (more f (more g (more h none)))
fork (Some f) _ _ = Err NothingUsed

-- what the parts read so far, from the right, make: none, a function, or a function with one more part in front
pub data Reading : Type 0 where
  Unread : Reading
  Read : Option Value → Reading
  Behind : (g h : Option Value) → Reading

abbrev pub as_read : Result Value Fault → Result Reading Fault
as_read (Ok v) = Ok (Read (Some v))
as_read (Err f) = Err f

-- one more part in front
abbrev pub and_part : Reading → Option Value → Result Reading Fault
and_part Unread v = Ok (Read v)
and_part (Read h) v = Ok (Behind v h)
and_part (Behind g h) v = as_read (fork v g h)

abbrev pub as_part : Result Value Fault → Result (Option Value) Fault
as_part (Ok v) = Ok (Some v)
as_part (Err f) = Err f

-- the train, once all parts are read
abbrev pub train : Reading → Result (Option Value) Fault
train Unread = Ok None
train (Read v) = Ok v
train (Behind f g) = as_part (atop f g)

-- ---- calls

-- Nothing in function position is found first; as a right argument it is the answer, and no call is made
abbrev pub applied : {X S : Type 0} → Runs X S → (f w x : Option Value) → Action X S (Option Value)
applied h None w x = fault NothingUsed
applied h (Some f) w None = pure None
applied h (Some f) w (Some x) = h (call f w x) >>= given
