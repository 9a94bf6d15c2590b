use Rattle.std.proofs.Common.{◌≡◌, None, false, position, sym, ap, ◌∙◌, List, Some, Option}
use Rattle.std.specs.List.{list_any}
use Rattle.bqn_forms.specs.declared.code.Instr.{Instr}
use Rattle.bqn_forms.specs.Emission.{progress, Progress}
use Rattle.bqn_forms.specs.Reading.{spelled}
use Rattle.bqn_forms.proofs.Spelling.{same, name-known, name-new}
use Rattle.bqn_forms.proofs.emitter.emit_definition.Goals as goal

pub returns-in-Some : goal.returns-in-Some
returns-in-Some c = name-known c.args.name.now c.args.names.now.keys c.args.code.now.items c.in-Some.field-0 (sym c.in-Some.ensures.index)

pub returns : goal.returns
returns c =
    let place : position (same c.args.name.now) c.args.names.now.keys ≡ None = sym c.in_default.ensures.index in
    let absent : list_any (same c.args.name.now) c.args.names.now.keys ≡ false = sym c.in_default.ensures.found in
    name-new c.args.name.now c.args.names.now.keys c.insert_full.new.self.keys c.args.code.now.items c.in_ok-from_slice.field-0 place absent c.in_ok-from_slice.ensures.items c.in_ok-insert_full.ensures.keys
    ∙ ap (λ (code : List Instr). Some (progress (spelled c.insert_full.new.self.keys) code)) (sym c.in_ok-push.ensures.items)
