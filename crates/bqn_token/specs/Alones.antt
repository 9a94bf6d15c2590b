-- What characters stand for that are pieces by themselves.
use Rattle.std.specs.Prelude.{ℕ, ◌==◌, cond, [], ◌∷◌, Option, Some, None, position}
use Rattle.std.specs.Option.{option_map}
use Rattle.bqn_syntax.specs.declared.token.Kind.{Kind}
use Rattle.bqn_syntax.specs.declared.token.Kind.TheVariants as kind
use Rattle.bqn_syntax.specs.text.Table.{is_one_of, blanks, punctuation}
use Rattle.bqn_syntax.specs.text.Tokens.{at_sign}
use Rattle.bqn_syntax.specs.text.Words.{special_of, role_of}
use Rattle.bqn_token.specs.declared.single.Alone.{Alone}
use Rattle.bqn_token.specs.declared.single.Alone.TheVariants as alone
use Rattle.bqn_token.specs.Singles.{primitives}

-- what a blank, punctuation, `@` or a special name of one character stands for
abbrev pub mark_of : ℕ → Option Alone
mark_of c =
    cond (is_one_of blanks c) (Some alone.Blank)
    (cond (c == at_sign) (Some alone.Zero)
    (elim (special_of c) [
      | Some name ↦ Some (alone.Special name (role_of (c ∷ [])))
      | None ↦ cond (is_one_of punctuation c) (Some alone.Punct) None
    ]))

-- what a character stands for, or none where it is no piece by itself
abbrev pub single_of : ℕ → Option Alone
single_of c = elim (mark_of c) [
  | Some mark ↦ Some mark
  | None ↦ option_map (λ code. alone.Given code) (position (λ d. d == c) primitives)
]

-- the token of such a character: none for a blank
abbrev pub shown_alone : Alone → ℕ → Option Kind
shown_alone alone.Blank c = None
shown_alone alone.Zero c = Some (kind.Char 0)
shown_alone (alone.Special name role) c = Some (kind.Special name role)
shown_alone (alone.Given code) c = Some (kind.Given code)
shown_alone alone.Punct c = Some (kind.Punct c)
