-- Each part of a value holds less than the value.
use Rattle.std.specs.Prelude.{◌+◌, ◌≤◌, List, [], ◌∷◌, Option, Some, None}
use Rattle.std.proofs.Common.{arith}
use denote.Param.Weighed.{most}
use Rattle.bqn_rows.specs.Plain.{fill}
use Rattle.bqn_value.specs.declared.value.Value.{Value}
use Rattle.bqn_value.specs.declared.value.Value.TheVariants as v
use Rattle.bqn_value.specs.declared.value.Fun.{Fun}
use Rattle.bqn_value.specs.declared.value.Fun.TheVariants as f
use Rattle.bqn_value.specs.declared.value.Held.{Held}
use Rattle.bqn_value.specs.declared.value.Arr.TheDeep.{deep-Value, deep-Fun, deep-Arr, deep-Parts, deep-Held}
use Rattle.bqn_value.specs.declared.value.Arr.TheInside.{Inside}
use Rattle.bqn_value.specs.declared.value.Parts.TheInside.{Inside as PartsInside}
use Rattle.bqn_value.specs.declared.value.HeldParts.{HeldParts}
use Rattle.std.specs.declared.alloc.Global.{Global}
use Rattle.std.specs.declared.rc.Rc.{Rc}
use Rattle.bqn_value.specs.Meaning.{held_parts, plain, plains, plain_fun, plain_fill, bulk, fill_bulk, all_bulk}

pub deep-fun : (f : Fun) → deep-Fun f ≤ bulk (plain_fun f)
deep-fun (f.Given c) = omega arith
deep-fun (f.Derived m ps) = omega arith
deep-fun (f.Block b e ps) = omega arith

pub deep-value : (v : Value) → deep-Value v ≤ bulk (plain v)
deep-value (v.Number n) = omega arith
deep-value (v.Char n) = omega arith
deep-value (v.Array a) = omega arith
deep-value (v.Fun f) = omega (arith, deep-fun f)
deep-value (v.Mod1 m) = omega arith
deep-value (v.Mod2 m) = omega arith
deep-value (v.Space n) = omega arith

pub most-values : (vs : List Value) → most deep-Value vs ≤ all_bulk (plains vs)
most-values [] = omega arith
most-values (v ∷ vs) = omega (arith, deep-value v, most-values vs)

pub parts-fall : (a : PartsInside) → deep-Parts a ≤ all_bulk (held_parts a.held)
parts-fall a = go a.held
  where
    go : (h : Option (Rc HeldParts Global)) → deep-Parts (record { held = h }) ≤ all_bulk (held_parts h)
    go None = omega arith
    go (Some h) = omega (arith, most-values h.value.items.items)

pub held-falls : (h : Held) → deep-Held h ≤ all_bulk (plains h.elements.items) + fill_bulk (fill (plain_fill h.fill))
held-falls h = go h.fill
  where
    go : (g : Option Value) → deep-Held (record h { fill = g }) ≤ all_bulk (plains h.elements.items) + fill_bulk (fill (plain_fill g))
    go None = omega (arith, most-values h.elements.items)
    go (Some b) = omega (arith, most-values h.elements.items, deep-value b)

pub array-falls : (a : Inside) → deep-Arr a ≤ all_bulk (plains a.held.value.elements.items) + fill_bulk (fill (plain_fill a.held.value.fill))
array-falls a = omega (arith, held-falls a.held.value)
