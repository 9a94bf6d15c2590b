-- The laws of the grammar: each well tree is found from every token list that spells it, nothing else is, and no list has two.
use Rattle.std.specs.Prelude.{◌≡◌, List, Ok}
use Rattle.bqn_syntax.specs.declared.token.Token.{Token}
use Rattle.bqn_syntax.specs.grammar.Trees.{Stmts}
use Rattle.bqn_syntax.specs.grammar.Parsing.{parsed}
use Rattle.bqn_syntax.specs.grammar.Spells.{Spells}
use Rattle.bqn_syntax.specs.grammar.Well.{Well}

abbrev pub WellTreesAreFound : Type 0
WellTreesAreFound = (ss : Stmts) (tokens : List Token) → Well ss → Spells ss tokens → parsed tokens ≡ Ok ss

pub record WellSpelled (ss : Stmts) (tokens : List Token) : Type 0 where
  pub well : Well ss
  pub spells : Spells ss tokens

abbrev pub OnlyWellTreesAreFound : Type 0
OnlyWellTreesAreFound = (ss : Stmts) (tokens : List Token) → parsed tokens ≡ Ok ss → WellSpelled ss tokens

abbrev pub TreesAreUnique : Type 0
TreesAreUnique = (ss others : Stmts) (tokens : List Token) → WellSpelled ss tokens → WellSpelled others tokens → ss ≡ others
