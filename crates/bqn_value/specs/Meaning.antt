-- What the program's values stand for.
use Rattle.std.specs.Prelude.{◌≡◌, ◌≤◌, ◌<◌, ◌^◌, ℕ, ◌+◌, true, false, List, [], ◌∷◌, map, Option, Some, None, Result, Ok, Err}
use Rattle.std.specs.declared.alloc.Global.{Global}
use Rattle.std.specs.declared.rc.Rc.{Rc}
use Rattle.std.specs.declared.vec.Vec.{Vec}
use Rattle.bqn_rows.specs.Plain as p
use Rattle.bqn_rows.specs.Plain.{values, fill}
use Rattle.bqn_rows.specs.Relations.{weight, weights, height, heights}
use Rattle.bqn_rows.specs.Limits.{proper, all_proper, is_small, is_low, carrying}
use Rattle.bqn_base.specs.declared.fault.Fault.{Fault}
use Rattle.bqn_base.specs.declared.fault.Fault.TheVariants as q
use Rattle.bqn_value.specs.declared.value.HeldParts.{HeldParts}
use Rattle.bqn_value.specs.declared.value.Load.{Load}
use Rattle.bqn_value.specs.declared.value.RunError.{RunError}
use Rattle.bqn_value.specs.declared.value.RunError.TheVariants as r
use Rattle.bqn_value.specs.declared.value.ValueError.{ValueError}
use Rattle.bqn_value.specs.declared.value.ValueError.TheVariants as e
use Rattle.bqn_value.specs.Seen.{Seen}
use Rattle.bqn_value.specs.declared.value.Maker.{Maker}
use Rattle.bqn_value.specs.declared.value.Maker.TheVariants as m
use Rattle.bqn_value.specs.declared.value.Value.{Value}
use Rattle.bqn_value.specs.declared.value.Value.TheVariants as v
use Rattle.bqn_value.specs.declared.value.Fun.{Fun}
use Rattle.bqn_value.specs.declared.value.Fun.TheVariants as f
use Rattle.bqn_value.specs.declared.value.Modifier.{Modifier}
use Rattle.bqn_value.specs.declared.value.Modifier.TheVariants as d

abbrev pub maker : Maker → p.Maker
maker (m.One n) = p.One n
maker (m.Two n) = p.Two n
maker m.Atop = p.Atop
maker m.Fork = p.Fork

abbrev pub array : Seen → p.Value
array a = p.Array a.shape (values a.elements) (fill a.fill)

abbrev pub plain_fun : Fun → p.Value
plain_fun (f.Given c) = p.Given c
plain_fun (f.Derived m ps) = p.Derived (maker m) (values ps)
plain_fun (f.Block b e ps) = p.Function b e (values ps)

abbrev pub plain_mod1 : Modifier → p.Value
plain_mod1 (d.Given c) = p.Given c
plain_mod1 (d.Block b e) = p.Modifier1 b e

abbrev pub plain_mod2 : Modifier → p.Value
plain_mod2 (d.Given c) = p.Given c
plain_mod2 (d.Block b e) = p.Modifier2 b e

-- the plain value
abbrev pub plain : Value → p.Value
plain (v.Number n) = p.Number n
plain (v.Char c) = p.Character c
plain (v.Array a) = array a
plain (v.Fun f) = plain_fun f
plain (v.Mod1 m) = plain_mod1 m
plain (v.Mod2 m) = plain_mod2 m
plain (v.Space e) = p.Namespace e

abbrev pub plains : List Value → List p.Value
plains = map plain

abbrev pub plain_fill : Option Value → Option p.Value
plain_fill None = None
plain_fill (Some v) = Some (plain v)

-- ---- how much a value holds, fills included: what a recursion over it falls by

abbrev mutual
  pub bulk : p.Value → ℕ
  bulk (p.Array s xs f) = 1 + (bulks xs + fill_bulk f)
  bulk (p.Derived m xs) = 1 + bulks xs
  bulk (p.Function b e xs) = 1 + bulks xs
  bulk _ = 1

  pub bulks : p.Values → ℕ
  bulks p.none = 0
  bulks (p.more x xs) = bulk x + bulks xs

  pub fill_bulk : p.Fill → ℕ
  fill_bulk p.unfilled = 0
  fill_bulk (p.filled v) = bulk v

abbrev pub all_bulk : List p.Value → ℕ
all_bulk xs = bulks (values xs)

abbrev pub array_bulk : Seen → ℕ
array_bulk a = all_bulk a.elements + fill_bulk (fill a.fill)

-- ---- what the types keep

-- what a value weighs, and how high it stands
pub record LoadOf (l : Load) (v : p.Value) : Type 0 where
  pub weighs : l.weight ≡ weight v
  pub stands : l.height ≡ height v

pub record LoadOfParts (l : Load) (xs : List p.Value) : Type 0 where
  pub weighs : l.weight ≡ weights (values xs)
  pub stands : l.height ≡ heights (values xs)

-- an array is proper, and what is written beside it is its load
pub record Kept (a : Seen) (l : Load) : Type 0 where
  pub whole : proper (array a) ≡ true
  pub loaded : LoadOf l (array a)

-- the parts of a function are proper
pub record KeptParts (xs : List p.Value) (l : Load) : Type 0 where
  pub whole : all_proper (values xs) ≡ true
  pub loaded : LoadOfParts l xs

-- the parts that are held; none where nothing is
abbrev pub held_parts : Option (Rc HeldParts Global) → List p.Value
held_parts None = []
held_parts (Some h) = plains h.value.items.items

abbrev pub KeptHeld : Option (Rc HeldParts Global) → Type 0
KeptHeld None = Unit {0}
KeptHeld (Some h) = KeptParts (plains h.value.items.items) h.value.load

-- the loads of all, where they are together within the limit of weight
pub record LoadsOf (l : Load) (xs : List p.Value) : Type 0 where
  pub within : weights (values xs) ≤ 2 ^ 22
  pub loaded : LoadOfParts l xs

abbrev pub Weighed : Option Load → List p.Value → Type 0
Weighed None xs = 2 ^ 22 < weights (values xs)
Weighed (Some l) xs = LoadsOf l xs

-- ---- what a call that makes an array answers

-- the array, or the fault of the limit that is passed; want of memory is free
abbrev pub Makes : Result Seen ValueError → Result p.Value Fault → Type 0
Makes (Ok a) r = r ≡ Ok (array a)
Makes (Err e.TooLarge) r = r ≡ Err q.TooLarge
Makes (Err e.TooDeep) r = r ≡ Err q.TooDeep
Makes (Err e.Memory) r = Unit {0}

-- the function, which is proper, or the fault of the limit that is passed
abbrev pub MakesFun : Result Fun ValueError → Result p.Value Fault → Type 0
MakesFun (Ok f) r = (r ≡ Ok (plain_fun f)) × (proper (plain_fun f) ≡ true)
MakesFun (Err e.TooLarge) r = r ≡ Err q.TooLarge
MakesFun (Err e.TooDeep) r = r ≡ Err q.TooDeep
MakesFun (Err e.Memory) r = Unit {0}

-- what the limits say of the parts of a function
abbrev pub Loaded : Result Load ValueError → List p.Value → Type 0
Loaded (Ok l) xs = (LoadOfParts l xs × (1 + weights (values xs) ≤ 2 ^ 22)) × (1 + heights (values xs) ≤ 128)
Loaded (Err e.TooLarge) xs = 2 ^ 22 < 1 + weights (values xs)
Loaded (Err e.TooDeep) xs = (1 + weights (values xs) ≤ 2 ^ 22) × (128 < 1 + heights (values xs))
Loaded (Err e.Memory) xs = ⊥

-- what the limits say of an array of this shape and these elements, whatever it carries
pub record Passes (l : Load) (shape : List ℕ) (xs : List p.Value) : Type 0 where
  pub small : is_small (p.Array shape (values xs) p.unfilled) ≡ true
  pub low : is_low (p.Array shape (values xs) p.unfilled) ≡ true
  pub loaded : LoadOfParts l xs

pub record IsDeep (shape : List ℕ) (xs : List p.Value) : Type 0 where
  pub small : is_small (p.Array shape (values xs) p.unfilled) ≡ true
  pub high : is_low (p.Array shape (values xs) p.unfilled) ≡ false

abbrev pub Checked : Result Load ValueError → List ℕ → List p.Value → Type 0
Checked (Ok l) shape xs = Passes l shape xs
Checked (Err e.TooLarge) shape xs = is_small (p.Array shape (values xs) p.unfilled) ≡ false
Checked (Err e.TooDeep) shape xs = IsDeep shape xs
Checked (Err e.Memory) shape xs = ⊥

-- the fill that an array of these elements carries
abbrev pub carries : List p.Value → Option p.Value → p.Fill
carries [] f = carrying f
carries (x ∷ xs) f = p.unfilled

-- what a row answers: the value, which is proper, or the fault; want of memory is free
abbrev pub Gives : Result Value RunError → Result p.Value Fault → Type 0
Gives (Ok x) answer = (answer ≡ Ok (plain x)) × (proper (plain x) ≡ true)
Gives (Err (r.Fault f)) answer = answer ≡ Err f
Gives (Err r.Memory) answer = Unit {0}

-- a row of values, or none
abbrev pub all_plains : Option (Vec Value Global) → Option p.Values
all_plains None = None
all_plains (Some vs) = Some (values (plains vs.items))
