-- A source that is accepted, with its code: the code is verified, and does what the source means.
use Rattle.std.specs.Prelude.{◌≡◌, ℕ, List, [], Ok}
use Rattle.bqn_syntax.specs.declared.token.Token.{Token}
use Rattle.bqn_syntax.specs.grammar.Trees.{Stmts}
use Rattle.bqn_syntax.specs.grammar.Parsing.{parsed}
use Rattle.bqn_syntax.specs.scope.Bodies.{Resolution, resolution}
use Rattle.bqn_syntax.specs.text.Tokens.{tokens_of_source}
use Rattle.bqn_meaning.specs.Programs.{evaluated}
use Rattle.bqn_code.specs.Plain.{Code}
use Rattle.bqn_code.specs.Verified.{Verified}
use Rattle.bqn_execution.specs.Programs.{exec_program}
use Rattle.bqn_compile.specs.Translation.{translated}
use Rattle.bqn_simulation.specs.Simulation.{RunsAs}

-- these bytes are a source that has this tree and this code
pub record Accepted (bytes : List ℕ) (tree : Stmts) (code : Code) : Type 0 where
  pub tokens : List Token
  pub names : Resolution
  pub reads : tokens_of_source bytes ≡ Ok tokens
  pub finds : parsed tokens ≡ Ok tree
  pub resolves : resolution [] tree ≡ Ok names
  pub translates : translated names tree ≡ Ok code

-- the code is verified, and for all words and every number of steps it ends as the program does and writes the same bytes
pub record IsRight (tree : Stmts) (code : Code) : Type 0 where
  pub verified : Verified code
  pub runs : (words : List (List ℕ)) (steps : ℕ) → RunsAs (exec_program code words steps) (evaluated tree words steps)

abbrev pub AcceptedSourcesHaveRightCode : Type 0
AcceptedSourcesHaveRightCode = (bytes : List ℕ) (tree : Stmts) (code : Code) → Accepted bytes tree code → IsRight tree code
