use Rattle.std.proofs.Common.{◌≡◌, map, drop}
use Rattle.bqn_syntax.specs.grammar.Trees.{step_of, steps}
use Rattle.bqn_forms.specs.Emission.{steps_emitted}
use Rattle.bqn_forms.specs.Reading.{spelled}
use Rattle.bqn_forms.proofs.emitter.+emit.Given as goal

abbrev pub invariant-emit_steps-loop-step : goal.invariant-emit_steps-loop-step
invariant-emit_steps-loop-step l = steps_emitted (spelled l.names.keys) l.code.items (steps (map step_of (drop l.step-index l.steps))) ≡ steps_emitted (spelled l.names.keys) l.initial.code.items (steps (map step_of l.steps))
