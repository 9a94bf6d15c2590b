-- Brackets and their partners: each closing one closes the innermost open one of its own kind.
use Rattle.std.specs.Prelude.{ℕ, ◌+◌, ◌==◌, if◌then◌else◌, Bool, List, [], ◌∷◌, ◌++◌, length, set, Result, Ok, Err}
use lib.Chars.{codes}
use Rattle.bqn_base.specs.declared.place.Place.{Place}
use Rattle.bqn_base.specs.declared.refusal.Refusal.{Refusal}
use Rattle.bqn_base.specs.declared.refusal.Refusal.TheVariants as refusal
use Rattle.bqn_syntax.specs.declared.open.Open.{Open}
use Rattle.bqn_syntax.specs.declared.token.Kind.{Kind}
use Rattle.bqn_syntax.specs.declared.token.Kind.TheVariants as kind
use Rattle.bqn_syntax.specs.declared.token.Token.{Token}
use Rattle.bqn_syntax.specs.grammar.Punctuation as punctuation
use Rattle.bqn_syntax.specs.text.Table.{is_one_of}

abbrev pub is_opening : ℕ → Bool
is_opening c = is_one_of (codes "({⟨[") c

abbrev pub is_closing : ℕ → Bool
is_closing c = is_one_of (codes ")}⟩]") c

-- the bracket that closes an opening one
abbrev pub closing_of : ℕ → ℕ
closing_of c =
    if c == punctuation.open_round then punctuation.close_round
    else if c == punctuation.open_curly then punctuation.close_curly
    else if c == punctuation.open_angle then punctuation.close_angle
    else if c == punctuation.open_square then punctuation.close_square
    else c

-- so many brackets may be open at once
abbrev pub deepest : ℕ
deepest = 128

-- the brackets that are open, the innermost first, and the partners of the tokens so far
pub record Nesting : Type 0 where
  pub around : List Open
  pub partners : List ℕ

-- after a token that is its own partner, at least until it is closed
abbrev pub alone : ℕ → Nesting → Nesting
alone index now = record { around = now.around; partners = now.partners ++ index ∷ [] }

abbrev pub opened : Open → Nesting → Result Nesting Refusal
opened bracket now =
    if length now.around == deepest then Err (refusal.TooNested bracket.place)
    else Ok (record { around = bracket ∷ now.around; partners = now.partners ++ bracket.index ∷ [] })

-- after a bracket that closes
abbrev pub closed : Open → List Open → List ℕ → Result Nesting Refusal
closed bracket [] partners = Err (refusal.Bracket bracket.place)
closed bracket (innermost ∷ around) partners =
    if closing_of innermost.code == bracket.code
    then Ok (record { around = around; partners = set partners innermost.index bracket.index ++ innermost.index ∷ [] })
    else Err (refusal.Bracket bracket.place)

-- after a mark of punctuation
abbrev pub marked : Open → Nesting → Result Nesting Refusal
marked mark now =
    if is_opening mark.code then opened mark now
    else if is_closing mark.code then closed mark now.around now.partners
    else Ok (alone mark.index now)

-- after a token: its index and what it is
abbrev pub behind_token : ℕ → Kind → Place → Nesting → Result Nesting Refusal
behind_token index (kind.Punct c) place now = marked (record { index = index; code = c; place = place }) now
behind_token index other place now = Ok (alone index now)

-- the partners, where nothing is open at the end
abbrev pub at_end : List Open → List ℕ → Result (List ℕ) Refusal
at_end [] partners = Ok partners
at_end (innermost ∷ around) partners = Err (refusal.Bracket innermost.place)

-- the partners of all tokens, from the one with this index on
abbrev pub nested : ℕ → Nesting → List Token → Result (List ℕ) Refusal
nested index now [] = at_end now.around now.partners
nested index now (token ∷ tokens) = elim (behind_token index token.kind token.place now) [
  | Ok next ↦ nested (index + 1) next tokens
  | Err r ↦ Err r
]

-- for each bracket the index of its partner, and for each other token its own; or the refusal of the leftmost bad bracket
abbrev pub partners_of : List Token → Result (List ℕ) Refusal
partners_of tokens = nested 0 (record { around = []; partners = [] }) tokens
