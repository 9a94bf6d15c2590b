-- The patterns of a code.
use Rattle.std.specs.Prelude.{ℕ, ◌+◌, List, [], ◌∷◌, Option, Some, None}
use Rattle.bqn_syntax.specs.grammar.Trees as tree
use Rattle.bqn_syntax.specs.scope.Order.{How, Changes}
use Rattle.bqn_syntax.specs.scope.Scope.{Seen, Use, name_of}
use Rattle.bqn_code.specs.declared.constant.Const.{Const}
use Rattle.bqn_code.specs.Plain.{Pattern, Skip, Define, Change, ListPattern, Literal, patterns}
use Rattle.bqn_compile.specs.Counting.{in_leaves}
use Rattle.bqn_compile.specs.Pools.{constant_of, constant_number, name_number, seen_at}

-- a leaf that is stored into, with the number of its name
abbrev pub stored_leaf : How → Seen → (name : ℕ) → Pattern
stored_leaf Changes at name = Change at.up at.slot name
stored_leaf how at name = Define at.slot name

abbrev pub literal_leaf : List Const → Option Const → Pattern
literal_leaf constants None = Skip
literal_leaf constants (Some c) = Literal (constant_number constants c)

-- with the uses of the names, of which so many come before, and the pools
module _ (uses : List Use) (constants : List Const) (names : List (List ℕ)) (how : How) where
  abbrev mutual
    pub pattern_code : ℕ → tree.Pattern → Pattern
    pattern_code k (tree.Name t) = stored_leaf how (seen_at uses k) (name_number names (name_of t))
    pattern_code k (tree.Skip place) = Skip
    pattern_code k (tree.Literal t) = literal_leaf constants (constant_of t.kind)
    pattern_code k (tree.ListPattern qs) = ListPattern (patterns (patterns_code k qs))
    pattern_code k (tree.StrandPattern qs) = ListPattern (patterns (patterns_code k qs))

    pub patterns_code : ℕ → tree.Patterns → List Pattern
    patterns_code k tree.no_patterns = []
    patterns_code k (tree.and_patterns q qs) = pattern_code k q ∷ patterns_code (k + (in_leaves q).uses) qs
