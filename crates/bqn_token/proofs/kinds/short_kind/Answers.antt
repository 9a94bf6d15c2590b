use Rattle.std.proofs.Common.{◌≡◌, ℤ, Some, Ok, w64, to_z, of_z, rules, sym, ap, ◌∙◌}
use Rattle.bqn_syntax.specs.declared.token.Kind.TheVariants as kind
use Rattle.bqn_token.proofs.Plain.{short-digit}
use Rattle.bqn_token.proofs.kinds.short_kind.Goals as goal

pub returns-then-is_a_digit : goal.returns-then-is_a_digit
returns-then-is_a_digit c =
    let same : to_z w64 (of_z w64 c.from.result) ≡ c.from.result = search rules in
    short-digit c.args.c (sym c.is_a_digit.ensures ∙ c.if-is_a_digit.true)
    ∙ ap (λ (z : ℤ). Ok (Some (kind.Number z))) (sym c.from.ensures ∙ sym same)
