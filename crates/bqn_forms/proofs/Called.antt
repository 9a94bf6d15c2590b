-- What is called by a part and its modifiers.
use Rattle.std.proofs.Common.{◌≡◌, ◌≤◌, List, [], ◌∷◌, None, length, map, ap, ◌∙◌, refl, arith}
use Rattle.bqn_syntax.specs.declared.tree.Derived.{Derived as CodeDerived, out-Derived}
use Rattle.bqn_syntax.specs.declared.tree.ModUse.{ModUse as CodeUse}
use Rattle.bqn_syntax.specs.grammar.Trees.{Part, Derived, derived, uses, part_of, use_of, derived_of}
use Rattle.bqn_forms.specs.Form.{function_of, part_function}
use Rattle.bqn_syntax.specs.grammar.TreeEquations.{derived-out}

with_uses : (part : Part) (all : List CodeUse) → 1 ≤ length all → function_of (derived part (uses (map use_of all))) ≡ None
with_uses part [] some = absurd (omega arith)
with_uses part (u ∷ all) some = refl

without_uses : (part : Part) (all : List CodeUse) → length all ≡ 0 → function_of (derived part (uses (map use_of all))) ≡ part_function part
without_uses part [] e = refl
without_uses part (u ∷ all) e = absurd (omega arith)

pub function-modified : (d : CodeDerived) → 1 ≤ length (out-Derived d).uses → function_of (derived_of d) ≡ None
function-modified d some = ap (λ (x : Derived). function_of x) (derived-out d) ∙ with_uses (part_of (out-Derived d).first) (out-Derived d).uses some

pub function-plain : (d : CodeDerived) → length (out-Derived d).uses ≡ 0 → function_of (derived_of d) ≡ part_function (part_of (out-Derived d).first)
function-plain d e = ap (λ (x : Derived). function_of x) (derived-out d) ∙ without_uses (part_of (out-Derived d).first) (out-Derived d).uses e

pub ruleset function_laws = (function-modified, function-plain)
