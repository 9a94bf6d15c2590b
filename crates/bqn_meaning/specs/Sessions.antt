-- What a line of a session means, in one environment and over one budget with the lines before it: this project's own. Behind a
-- faulted line its changes and the names that it declared stay.
use Rattle.std.specs.Prelude.{ℕ, zero, suc, true, false, List, [], ◌∷◌, map, slice_get, Option, Some, None}
use Rattle.bqn_base.specs.declared.fault.Fault.TheVariants.{NoBody}
use Rattle.bqn_rows.specs.Plain.{Value, none}
use Rattle.bqn_rows.specs.Calls.{no_arguments}
use Rattle.bqn_rows.specs.Running.{calls}
use Rattle.bqn_syntax.specs.declared.tree.Class.TheVariants as class
use Rattle.bqn_syntax.specs.grammar.Trees.{Stmts}
use Rattle.bqn_syntax.specs.scope.Scope.{names_of, has}
use Rattle.bqn_syntax.specs.blocks.Blocks.{Body, all_bodies, Earlier, line_body, table_of}
use Rattle.bqn_meaning.specs.Actions.{◌>>=◌, pure, fault}
use Rattle.bqn_meaning.specs.Environments.{Environment, State, Does, stepped}
use Rattle.bqn_meaning.specs.Frames.{Setting, Entry, Frame}
use Rattle.bqn_meaning.specs.Meaning.{Ending, NextBody, EndsWith, eval_body, body_answer, frame_of, replies}

-- ---- names

-- the names that a body had before a line
abbrev pub names_before : Earlier → (body : ℕ) → List (List ℕ)
names_before earlier zero = earlier.names
names_before earlier (suc k) = elim (slice_get (all_bodies earlier.blocks) k) [ None ↦ [] | Some b ↦ names_of b.own.scope ]

abbrev pub with_names : List (List ℕ) → List (List ℕ × Value) → List (List ℕ × Value)
with_names names [] = []
with_names names (p ∷ ps) = elim (has names p.0) [ true ↦ p ∷ with_names names ps | false ↦ with_names names ps ]

abbrev pub with_old_names : Earlier → Environment → Environment
with_old_names earlier e = record e { variables = with_names (names_before earlier e.body) e.variables }

-- what a line declares has no value yet
abbrev pub begun : Earlier → State → State
begun earlier s = record s { environments = map (with_old_names earlier) s.environments }

-- ---- a line

abbrev pub line_setting : Earlier → (args : Value) → Stmts → Setting
line_setting earlier args ss = record { blocks = table_of earlier ss; args = args }

-- the program's block, run on nothing
abbrev pub program : Entry
program = record { block = 0; outer = 0; operands = none; arguments = no_arguments }

abbrev pub line_frame : Body → Frame
line_frame b = frame_of program class.Immediate b 0

-- a line's answer may be Nothing
abbrev pub line_answer : Body → Ending → Does (Option Value)
line_answer b NextBody = fault NoBody
line_answer b (EndsWith p v) = pure (body_answer b (line_frame b) v)

-- A line in the top environment, which is the environment 0; so many calls may be open. It takes a step: a session passes over lines
-- without statements.
abbrev pub line : (room : ℕ) → Earlier → (args : Value) → Stmts → Does (Option Value)
line room earlier args ss =
    let g : Setting = line_setting earlier args ss in
    let b : Body = line_body earlier ss in
    λ s. stepped (eval_body (calls (replies g) room) g b (line_frame b) >>= line_answer b) (begun earlier s)
