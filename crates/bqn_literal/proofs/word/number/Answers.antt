use Rattle.std.proofs.Common.{ℕ, Option, sym, ap, ◌∙◌}
use Rattle.bqn_base.specs.Literal.{with_sign}
use Rattle.bqn_literal.specs.Results.{number_of}
use Rattle.bqn_literal.specs.Spellings.{spelled_by}
use Rattle.bqn_literal.proofs.Words.{number-found}
use Rattle.bqn_literal.proofs.word.number.Goals as goal

pub returns-in-None : goal.returns-in-None
returns-in-None c =
    let s = spelled_by c.in-Some.spelling in
    sym (number-found c.args.word.now s (sym c.in-Some.ensures) ∙ ap (λ (size : Option ℕ). number_of (with_sign s.negative size)) (sym c.in-None.ensures))

pub returns-in-Some-size_of : goal.returns-in-Some-size_of
returns-in-Some-size_of c =
    let s = spelled_by c.in-Some.spelling in
    c.signed.ensures
    ∙ sym (number-found c.args.word.now s (sym c.in-Some.ensures) ∙ ap (λ (size : Option ℕ). number_of (with_sign s.negative size)) (sym c.in-Some-size_of.ensures))
