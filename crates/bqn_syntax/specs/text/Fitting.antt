-- What the tokens of a source have.
use Rattle.std.specs.Prelude.{◌≡◌, ◌≤◌, ◌<◌, ◌^◌, ℕ, Bool, false, IsTrue, List, [], ◌∷◌, length, Ok}
use Rattle.std.specs.List.{All, list_all}
use Rattle.bqn_base.specs.Characters.{is_lower}
use Rattle.bqn_base.specs.Names.{is_name_character}
use Rattle.bqn_syntax.specs.declared.token.Kind.{Kind}
use Rattle.bqn_syntax.specs.declared.token.Kind.TheVariants as kind
use Rattle.bqn_syntax.specs.declared.token.Token.{Token}
use Rattle.bqn_syntax.specs.text.Tokens.{tokens_of_source}

-- lower-case letters and digits, and not too many of them
pub record NameFits (name : List ℕ) : Type 0 where
  pub characters : IsTrue (list_all is_name_character name)
  pub short : length name ≤ 2 ^ 28

-- names and texts are not long, and primitives have codes
abbrev pub KindFits : Kind → Type 0
KindFits (kind.Word name r) = NameFits name
KindFits (kind.System name r) = NameFits name
KindFits (kind.Text cs) = length cs ≤ 2 ^ 28
KindFits (kind.Given code) = code < 64
KindFits _ = Unit {0}

abbrev pub TokenFits : Token → Type 0
TokenFits t = KindFits t.kind

-- whether a letter stands first in a name
abbrev pub begins_with_letter : List ℕ → Bool
begins_with_letter [] = false
begins_with_letter (c ∷ cs) = is_lower c

-- a name begins with a letter
abbrev pub KindBegins : Kind → Type 0
KindBegins (kind.Word name r) = IsTrue (begins_with_letter name)
KindBegins (kind.System name r) = IsTrue (begins_with_letter name)
KindBegins _ = Unit {0}

abbrev pub TokenBegins : Token → Type 0
TokenBegins t = KindBegins t.kind

-- what the tokens of a source have
pub record TokensFit (tokens : List Token) : Type 0 where
  pub few : length tokens ≤ 2 ^ 20
  pub fit : All TokenFits tokens
  pub letters : All TokenBegins tokens

abbrev pub TokensOfSourcesFit : Type 0
TokensOfSourcesFit = (bytes : List ℕ) (tokens : List Token) → tokens_of_source bytes ≡ Ok tokens → TokensFit tokens
