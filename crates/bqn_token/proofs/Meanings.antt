-- What a piece stands for, case by case.
use Rattle.std.proofs.Common.{◌≡◌, ℕ, ℤ, [], ◌∷◌, Bool, Option, Some, None, Ok, Err, refl, ap}
use Rattle.std.specs.Prelude.{if◌then◌else◌}
use Rattle.std.specs.Option.{option_map}
use Rattle.bqn_base.specs.declared.place.Place.{Place}
use Rattle.bqn_base.specs.declared.refusal.Refusal.TheVariants as refusal
use Rattle.bqn_base.specs.Literal.{Literal, Number, Bad, Range}
use Rattle.bqn_syntax.specs.declared.token.Special.{Special}
use Rattle.bqn_syntax.specs.declared.token.Kind.{Kind}
use Rattle.bqn_syntax.specs.declared.token.Kind.TheVariants as kind
use Rattle.bqn_syntax.specs.text.Tokens.{number_kind}
use Rattle.bqn_syntax.specs.text.Words.{role_of}
use Rattle.bqn_token.specs.Tokenizing.{placed}
use Rattle.bqn_literal.specs.Results.{number_of}
use Rattle.bqn_literal.specs.declared.error.NumberError.TheVariants as e

pub number-ok : (l : Literal) (z : ℤ) (place : Place) → Ok z ≡ number_of l → placed place (number_kind l) ≡ Ok (Some (kind.Number z))
number-ok (Number y) z place is = let same : y ≡ z = cc in ap (λ (x : ℤ). Ok (Some (kind.Number x))) same
number-ok Bad z place is = cc
number-ok Range z place is = cc

pub number-bad : (l : Literal) (place : Place) → Err e.Bad ≡ number_of l → placed place (number_kind l) ≡ Err (refusal.BadNumber place)
number-bad (Number y) place is = cc
number-bad Bad place is = refl
number-bad Range place is = cc

pub number-range : (l : Literal) (place : Place) → Err e.Range ≡ number_of l → placed place (number_kind l) ≡ Err (refusal.NumberRange place)
number-range (Number y) place is = cc
number-range Bad place is = cc
number-range Range place is = refl

pub ruleset number_laws = (number-ok, number-bad, number-range)

abbrev pub single_if : Bool → Option Special → Option ℕ → ℕ → Kind
single_if at_sign name code c =
    if at_sign then kind.Char 0
    else elim name [
      | Some n ↦ kind.Special n (role_of (c ∷ []))
      | None ↦ elim (option_map (λ n. kind.Given n) code) [ Some k ↦ k | None ↦ kind.Punct c ]
    ]
