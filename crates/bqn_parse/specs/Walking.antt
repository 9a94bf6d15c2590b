-- What the open brackets of a walk show, and what a step of it gives.
use Rattle.std.specs.Prelude.{◌≡◌, ℕ, List, [], drop, map, reverse, Option, Some, None, Result, Ok, Err, Box}
use Rattle.std.specs.Global.{Global}
use Rattle.std.specs.Option.{option_map}
use Rattle.bqn_base.specs.declared.refusal.Refusal.{Refusal}
use Rattle.bqn_syntax.specs.declared.token.Token.{Token}
use Rattle.bqn_syntax.specs.declared.sort.Inside.TheVariants as inside
use Rattle.bqn_syntax.specs.grammar.Parsing as parsing
use Rattle.bqn_syntax.specs.grammar.Trees.{expr_of, stmt_of, pattern_of, header_of, body_of}
use Rattle.bqn_parse.specs.declared.error.ParseError.{ParseError}
use Rattle.bqn_parse.specs.declared.error.ParseError.TheVariants.{Refused, Memory}
use Rattle.bqn_parse.specs.declared.open_bracket.OpenBracket.{OpenBracket}
use Rattle.bqn_parse.specs.declared.open_bracket.Walk.{Walk}
use Rattle.bqn_parse.specs.Views.{items_of}

-- the tokens from one of them on
abbrev pub from_first : List Token → Option ℕ → Option (List Token)
from_first tokens None = None
from_first tokens (Some i) = Some (drop i tokens)

abbrev pub bracket_shown : List Token → OpenBracket → parsing.OpenBracket
bracket_shown tokens l = record {
  inside = l.inside;
  opened = l.opened;
  first = from_first tokens l.first;
  items = items_of l.items.items;
  expressions = map expr_of l.expressions.items;
  targets = map pattern_of l.targets.items;
  header = option_map header_of l.header;
  statements = map stmt_of l.statements.items;
  done = map body_of l.done.items;
}

-- the brackets around, the innermost first
abbrev pub around_shown : List Token → List (Box OpenBracket Global) → List parsing.OpenBracket
around_shown tokens outer = map (λ l. bracket_shown tokens l.value) (reverse outer)

abbrev pub walk_shown : List Token → Walk → parsing.OpenBrackets
walk_shown tokens w = parsing.open_brackets (bracket_shown tokens w.inner.value) (around_shown tokens w.outer.items)

-- a walk that has read nothing
abbrev pub start : parsing.OpenBrackets
start = parsing.open_brackets (parsing.fresh inside.Program parsing.nowhere) []

-- what is shown now is this answer, or its refusal is given; out of memory says nothing
abbrev pub Moves : {A X : Type 0} → Result A Refusal → A → Result X ParseError → Type 0
Moves answer new (Ok done) = answer ≡ Ok new
Moves answer new (Err (Refused r)) = answer ≡ Err r
Moves answer new (Err Memory) = Unit {0}

-- what is given shows this answer, or is its refusal; out of memory says nothing
abbrev pub Made : {A B : Type 0} → Result A Refusal → (B → A) → Result B ParseError → Type 0
Made answer shown (Ok x) = answer ≡ Ok (shown x)
Made answer shown (Err (Refused r)) = answer ≡ Err r
Made answer shown (Err Memory) = Unit {0}
