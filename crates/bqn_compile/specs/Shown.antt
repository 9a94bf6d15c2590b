-- What the pools and uses of the program are as plain lists.
use Rattle.std.specs.Prelude.{◌≡◌, List, map, Result, Ok, Err}
use Rattle.bqn_base.specs.declared.refusal.Refusal.{Refusal}
use Rattle.bqn_scope.specs.declared.used.Use.{Use}
use Rattle.bqn_scope.specs.Scopes.{use_shown}
use Rattle.bqn_scope.specs.Resolving.{resolution_of}
use Rattle.bqn_scope.specs.declared.resolving.Resolved.{Resolved}
use Rattle.bqn_syntax.specs.scope.Bodies.{Resolution}
use Rattle.bqn_code.specs.declared.constant.Const.{Const}
use Rattle.bqn_code.specs.declared.constant.Const.TheVariants as const
use Rattle.bqn_code.specs.declared.code.Code.{Code as CodeCode}
use Rattle.bqn_code.specs.Plain.{Code, pattern_of, code_of}
use Rattle.bqn_syntax.specs.scope.Scope.{Seen}
use Rattle.bqn_compile.specs.declared.leaf.Slot.{Slot}
use Rattle.bqn_compile.specs.declared.key.Key.{Key}
use Rattle.bqn_compile.specs.declared.key.Key.TheVariants as key
use Rattle.bqn_compile.specs.declared.pools.Pools.{Pools}
use Rattle.bqn_compile.specs.declared.error.CompileError.{CompileError}
use Rattle.bqn_compile.specs.declared.error.CompileError.TheVariants.{Refused, Memory}
use Rattle.bqn_compile.specs.Gathering.{Gathered}
use Rattle.bqn_compile.specs.Expressions.{Setting}

abbrev pub resolution_shown : Resolved → Resolution
resolution_shown so = resolution_of so.bodies so.uses

abbrev pub slot_shown : Slot → Seen
slot_shown at = record { up = at.up; slot = at.slot }

abbrev pub key_shown : Key → Const
key_shown (key.Number z) = const.Number z
key_shown (key.Char c) = const.Char c
key_shown (key.Text cs) = const.Text cs.items

abbrev pub constants_shown : List Key → List Const
constants_shown keys = map key_shown keys

abbrev pub gathered_shown : Pools → Gathered
gathered_shown p = record {
  constants = constants_shown p.constants.keys;
  names = p.names;
  patterns = map pattern_of p.patterns.items;
  uses = p.uses;
  blocks = p.blocks;
}

abbrev pub setting_shown : List Use → Pools → Setting
setting_shown uses p = record { uses = map use_shown uses; constants = constants_shown p.constants.keys; names = p.names }

-- what gathering has left of this answer: the pools, or the refusal; want of memory is free
abbrev pub GathersTo : {A : Type 0} → Result A CompileError → Gathered → Result Gathered Refusal → Type 0
GathersTo (Ok done) new answer = answer ≡ Ok new
GathersTo (Err (Refused r)) new answer = answer ≡ Err r
GathersTo (Err Memory) new answer = Unit {0}

-- a code, or a refusal, as this answer says; want of memory is free
abbrev pub CompilesTo : Result Code Refusal → Result CodeCode CompileError → Type 0
CompilesTo answer (Ok code) = answer ≡ Ok (code_of code)
CompilesTo answer (Err (Refused r)) = answer ≡ Err r
CompilesTo answer (Err Memory) = Unit {0}
