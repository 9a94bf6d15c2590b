use Rattle.std.proofs.Common.{Option, Result, sym, subst, ◌∙◌}
use Rattle.bqn_syntax.specs.declared.token.Kind.{Kind}
use Rattle.bqn_syntax.specs.text.Tokens.{Trouble}
use Rattle.bqn_token.specs.Tokenizing.{Gives, placed}
use Rattle.bqn_token.proofs.Alones.{placed-single, kind-number}
use Rattle.bqn_token.proofs.kinds.any_kind_at.Goals as goal

pub returns-in-Some-single : goal.returns-in-Some-single
returns-in-Some-single c =
    placed-single c.args.place c.args.piece.now c.in-Some.behind.now c.in-Some.first.now c.in-Some-single.alone c.kind_of_alone.result c.in-Some.ensures.cases.0 (sym c.single.ensures ∙ c.in-Some-single.is) c.kind_of_alone.ensures

pub returns : goal.returns
returns c =
    subst (λ (kind : Result (Option Kind) Trouble). Gives (placed c.args.place kind) c.numeric.result)
    (sym (kind-number c.args.piece.now c.in-Some.behind.now c.in-Some.first.now c.in-Some.ensures.cases.0 c.requires (sym c.single.ensures ∙ c.in_default-single.is) c.if-first-eq35.false c.if-first-eq39.false c.if-first-eq34.false c.if-first-eq8226.false (sym c.may_start_name.ensures ∙ c.if-may_start_name.false)))
    c.numeric.ensures
