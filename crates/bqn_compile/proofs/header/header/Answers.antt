use Rattle.std.proofs.Common.{Option, ap, sym, ◌∙◌}
use Rattle.std.specs.Option.{option_map}
use Rattle.bqn_syntax.specs.declared.pattern.Header.{Header as CodeHeader}
use Rattle.bqn_syntax.specs.grammar.Trees.{header_of, pattern_of}
use Rattle.bqn_code.specs.declared.instr.Instr.{Instr}
use Rattle.bqn_code.specs.declared.instr.Instr.TheVariants as i
use Rattle.bqn_compile.specs.Bodies.{own_instr}
use Rattle.bqn_compile.specs.Walking.{setting_of, onward, argument_behind, name_behind, operand_behind, header_behind}
use Rattle.bqn_compile.proofs.Loops.{on_ok}
use Rattle.bqn_compile.proofs.Headers.{header-some}
use Rattle.bqn_compile.proofs.header.header.Goals as goal

pub returns : goal.returns
returns c =
    on_ok c.argument-2.result _ _ _ c.argument-2.ensures
    (ap (argument_behind i.Right (option_map pattern_of c.in-Some.h.right))
    (c.in_ok-operand-2.ensures
    ∙ ap (operand_behind (setting_of c.args.known.now) i.RightOperand c.in-Some.h.right_operand)
    (c.in_ok-name.ensures
    ∙ ap (λ (x : Instr). name_behind (setting_of c.args.known.now) x c.in-Some.h.own (onward c.operand.new.out)) c.own_instr.ensures
    ∙ ap (name_behind (setting_of c.args.known.now) (own_instr c.in-Some.h.own.kind) c.in-Some.h.own)
    (c.in_ok-operand.ensures ∙ ap (operand_behind (setting_of c.args.known.now) i.LeftOperand c.in-Some.h.left_operand) c.in_ok-argument.ensures)))
    ∙ header-some (setting_of c.args.known.now) (header_of c.in-Some.h) (onward c.args.out.now)
    ∙ ap (λ (h : Option CodeHeader). header_behind (setting_of c.args.known.now) (option_map header_of h) (onward c.args.out.now)) (sym c.in-Some.is))
