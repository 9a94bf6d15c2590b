-- The definitions of a body that are still to come, one event after another.
use Rattle.std.specs.Prelude.{Bool, if◌then◌else◌, List, [], ◌∷◌, ◌++◌}
use Rattle.bqn_syntax.specs.declared.token.Token.{Token}
use Rattle.bqn_syntax.specs.scope.Order.{How}
use Rattle.bqn_syntax.specs.scope.Scope.{name_of, has, defines, without}
use Rattle.bqn_scope.specs.Tokens.{names_of_tokens}

-- the tokens that are marked
abbrev pub kept : List Bool → List Token → List Token
kept [] tokens = []
kept (mark ∷ marks) [] = []
kept (mark ∷ marks) (t ∷ ts) = if mark then t ∷ kept marks ts else kept marks ts

-- the definitions still to come, after an event
abbrev pub to_come : List Token → How × Token → List Token
to_come waiting e = if defines e.0 then without e.1 waiting else waiting

-- the uses that come too early, with an event
abbrev pub early_with : List Token → List Token → How × Token → List Token
early_with waiting early e = if defines e.0 then early else (if has (names_of_tokens waiting) (name_of e.1) then early ++ e.1 ∷ [] else early)
