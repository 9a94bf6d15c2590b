-- What holds of the code of a tree: this project's own.
use Rattle.std.specs.Prelude.{◌≡◌, ◌≤◌, ℕ, ◌+◌, suc, List, length, Ok}
use Rattle.bqn_syntax.specs.declared.token.Token.{Token}
use Rattle.bqn_syntax.specs.grammar.Trees.{Stmts}
use Rattle.bqn_syntax.specs.grammar.Spells.{Spells}
use Rattle.bqn_syntax.specs.grammar.Parsing.{parsed}
use Rattle.bqn_syntax.specs.scope.Bodies.{Resolution, resolution}
use Rattle.bqn_syntax.specs.text.Tokens.{tokens_of_source}
use Rattle.bqn_code.specs.Plain.{Code}
use Rattle.bqn_code.specs.Verified.{Verified}
use Rattle.bqn_compile.specs.Sources.{FromSource}
use Rattle.bqn_compile.specs.Translation.{translated}

-- where the tree comes from a source, the code is verified
abbrev pub IsVerified : Stmts → Resolution → Code → Type 0
IsVerified ss r code = (outer : List (List ℕ)) (tokens : List Token) → FromSource outer ss tokens r → Verified code

-- its blocks and names are at most one more than the tokens of any list that spells the tree
abbrev pub HasFew : Stmts → Code → Type 0
HasFew ss code = (tokens : List Token) → Spells ss tokens → length code.blocks + length code.names ≤ suc (length tokens)

-- the code of a tree that comes from a source is verified
abbrev pub TranslatedCodeIsVerified : Type 0
TranslatedCodeIsVerified = (outer : List (List ℕ)) (ss : Stmts) (tokens : List Token) (r : Resolution) (code : Code) →
    FromSource outer ss tokens r → translated r ss ≡ Ok code → Verified code

-- the blocks and names of the code of a tree are at most one more than the tokens that spell it
abbrev pub BlocksAndNamesAreFew : Type 0
BlocksAndNamesAreFew = (ss : Stmts) (tokens : List Token) (r : Resolution) (code : Code) →
    Spells ss tokens → translated r ss ≡ Ok code → length code.blocks + length code.names ≤ suc (length tokens)

-- a source whose tokens, tree and names are accepted has what a tree of a source has
abbrev pub AcceptedTreesAreFromSources : Type 0
AcceptedTreesAreFromSources = (outer : List (List ℕ)) (bytes : List ℕ) (tokens : List Token) (ss : Stmts) (r : Resolution) →
    tokens_of_source bytes ≡ Ok tokens → parsed tokens ≡ Ok ss → resolution outer ss ≡ Ok r → FromSource outer ss tokens r
