-- The reads and stores of a value without a last part.
use Rattle.std.specs.Prelude.{List}
use Rattle.bqn_syntax.specs.declared.token.Token.{Token}
use Rattle.bqn_syntax.specs.grammar.Trees.{Steps, Value, none}
use Rattle.bqn_syntax.specs.scope.Order.{How, expr_order}

-- those of its steps, before others
unfoldable pub unstarted_order : Steps → List (How × Token) → List (How × Token)
unstarted_order all k = expr_order (Value none all) k
