-- What a scan of brackets shows and gives, beside the definition of partners.
use Rattle.std.specs.Prelude.{◌≡◌, ◌<◌, ℕ, List, [], ◌∷◌, reverse, length, Result, Ok, Err}
use Rattle.bqn_base.specs.declared.refusal.Refusal.{Refusal}
use Rattle.bqn_syntax.specs.declared.open.Open.{Open}
use Rattle.bqn_syntax.specs.grammar.Brackets.{Nesting}
use Rattle.bqn_roles.specs.declared.brackets.Groups.{Groups}
use Rattle.bqn_roles.specs.declared.brackets.Scan.{Scan}
use Rattle.bqn_roles.specs.declared.error.NestError.{NestError}
use Rattle.bqn_roles.specs.declared.error.NestError.TheVariants.{Refused, Memory}

abbrev pub nesting_of : Scan → Nesting
nesting_of scan = record { around = reverse scan.around.items; partners = scan.partner.items }

-- brackets that stand before a token
abbrev pub AllBefore : ℕ → List Open → Type 0
AllBefore index [] = Unit {0}
AllBefore index (bracket ∷ brackets) = (bracket.index < index) × AllBefore index brackets

-- so many tokens have partners, and what is open stands among them
pub record Sound (index : ℕ) (now : Nesting) : Type 0 where
  pub counted : length now.partners ≡ index
  pub before : AllBefore index now.around

-- what is shown now is this answer, or its refusal is given; out of memory says nothing
abbrev pub Moves : {X : Type 0} → Result Nesting Refusal → Nesting → Result X NestError → Type 0
Moves answer new (Ok done) = answer ≡ Ok new
Moves answer new (Err (Refused r)) = answer ≡ Err r
Moves answer new (Err Memory) = Unit {0}

-- the partners that are given are these, or the refusal is; out of memory says nothing
abbrev pub Gives : Result (List ℕ) Refusal → Result Groups NestError → Type 0
Gives answer (Ok groups) = answer ≡ Ok groups.partner.items
Gives answer (Err (Refused r)) = answer ≡ Err r
Gives answer (Err Memory) = Unit {0}
