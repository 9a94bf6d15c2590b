-- What a tree that comes from a source has.
use Rattle.std.specs.Prelude.{◌≡◌, ◌≤◌, ◌^◌, ℕ, true, List, length, Ok}
use Rattle.std.specs.List.{All}
use Rattle.bqn_syntax.specs.declared.token.Token.{Token}
use Rattle.bqn_syntax.specs.grammar.Trees.{Stmts}
use Rattle.bqn_syntax.specs.grammar.Spells.{Spells}
use Rattle.bqn_syntax.specs.grammar.Well.{Well}
use Rattle.bqn_syntax.specs.scope.Bodies.{Resolution, resolution, exports_it}
use Rattle.bqn_syntax.specs.text.Fitting.{TokenFits, TokenBegins}
use Rattle.bqn_compile.specs.Items.{Item, Alone, Fields, Taken, Opened, Shown, EveryItem, AllTokens, PatternTokens, stmts_items}

-- names that the code takes begin with a letter: those of fields and of exports, and the leaves of patterns
abbrev pub ItemBegins : Item → Type 0
ItemBegins (Alone how t) = exports_it how ≡ true → TokenBegins t
ItemBegins (Fields ts) = AllTokens TokenBegins ts
ItemBegins (Taken literals how q) = PatternTokens TokenBegins q
ItemBegins (Opened place n) = Unit {0}
ItemBegins (Shown q) = PatternTokens TokenBegins q

-- What a tree that comes from a source has: it is well, these tokens spell it, and it is resolved behind the names of a session.
pub record FromSource (outer : List (List ℕ)) (ss : Stmts) (tokens : List Token) (r : Resolution) : Type 0 where
  pub well : Well ss
  pub spells : Spells ss tokens
  pub few : length tokens ≤ 2 ^ 28
  pub tokens_fit : All TokenFits tokens
  pub letters : EveryItem ItemBegins (stmts_items ss)
  pub resolves : resolution outer ss ≡ Ok r
