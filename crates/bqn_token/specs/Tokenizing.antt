-- What tokenizing gives, beside the definition of the tokens.
use Rattle.std.specs.Prelude.{◌≡◌, ℕ, ◌==◌, if◌then◌else◌, List, [], ◌∷◌, ◌++◌, Option, Some, None, Vec, Result, Ok, Err}
use Rattle.std.specs.declared.alloc.Global.{Global}
use Rattle.bqn_base.specs.Characters.{newline, carriage_return}
use Rattle.bqn_base.specs.declared.place.Place.{Place}
use Rattle.bqn_base.specs.declared.refusal.Refusal.{Refusal}
use Rattle.bqn_syntax.specs.declared.token.Kind.{Kind}
use Rattle.bqn_syntax.specs.declared.token.Token.{Token}
use Rattle.bqn_syntax.specs.text.Tokens.{Trouble, refused_at}
use Rattle.bqn_token.specs.declared.error.TokenError.{TokenError}
use Rattle.bqn_token.specs.declared.error.TokenError.TheVariants.{Refused, Memory}

-- what is given shows this answer, or is its refusal; want of memory says nothing
abbrev pub GivesAs : {A V : Type 0} → (V → A) → Result A Refusal → Result V TokenError → Type 0
GivesAs view answer (Ok value) = answer ≡ Ok (view value)
GivesAs view answer (Err (Refused r)) = answer ≡ Err r
GivesAs view answer (Err Memory) = Unit {0}

-- what is given is this answer, or its refusal; want of memory says nothing
abbrev pub Gives : {A : Type 0} → Result A Refusal → Result A TokenError → Type 0
Gives answer (Ok value) = answer ≡ Ok value
Gives answer (Err (Refused r)) = answer ≡ Err r
Gives answer (Err Memory) = Unit {0}

-- the tokens that are given are these, or the refusal is; want of memory says nothing
abbrev pub Tokenizes : Result (List Token) Refusal → Result (Vec Token Global) TokenError → Type 0
Tokenizes answer (Ok given) = answer ≡ Ok given.items
Tokenizes answer (Err (Refused r)) = answer ≡ Err r
Tokenizes answer (Err Memory) = Unit {0}

-- an answer whose trouble is refused at a place
abbrev pub placed : {A : Type 0} → Place → Result A Trouble → Result A Refusal
placed place (Ok value) = Ok value
placed place (Err trouble) = Err (refused_at trouble place)

-- a list without a carriage return that ends it
abbrev pub without_last_return : List ℕ → List ℕ
without_last_return [] = []
without_last_return (c ∷ []) = if c == carriage_return then [] else c ∷ []
without_last_return (c ∷ d ∷ cs) = c ∷ without_last_return (d ∷ cs)

-- what is kept of a text after one more character
abbrev pub with_character : List ℕ → ℕ → List ℕ
with_character kept c = (if c == newline then without_last_return kept else kept) ++ c ∷ []

-- the token of a piece at a place, if it has one
abbrev pub token_at : Option Kind → Place → List Token
token_at None place = []
token_at (Some kind) place = record { kind = kind; place = place } ∷ []
