-- What a tree has for the pools and the counts, and what is known of it.
use Rattle.std.specs.Prelude.{◌≡◌, ◌≤◌, Bool, true, false, List, [], ◌∷◌}
use Rattle.bqn_syntax.specs.declared.token.Token.{Token}
use Rattle.bqn_syntax.specs.grammar.Trees.{Pattern}
use Rattle.bqn_syntax.specs.grammar.Sorts.{is_word}
use Rattle.bqn_syntax.specs.grammar.Well.{WellPattern, pattern_depth}
use Rattle.bqn_syntax.specs.scope.Scope as scope
use Rattle.bqn_compile.specs.declared.count.Count.{Count}
use Rattle.bqn_compile.specs.Counting.{nothing, past, in_token, in_pattern, one_block}
use Rattle.bqn_compile.specs.Gathering.{Gathers, Most, done, ◌▹◌, opens, fields, exported, token, pattern}
pub use Rattle.bqn_compile.specs.Items.{Item, Alone, Fields, Taken, Opened, Shown, EveryItem, operand_items, named_items, argument_items, header_items, targets_items, target_item, expr_items, part_items, block_items, maybe_items, steps_items, step_items, derived_items, uses_items, use_items, deriveds_items, exprs_items, parts_items, stmts_items, stmt_items, bodies_items, body_items}

-- ---- what they are for the pools and the counts

abbrev pub item_count : Item → Count
item_count (Alone how t) = in_token t
item_count (Fields ts) = nothing
item_count (Taken l how q) = in_pattern q
item_count (Opened place n) = one_block n
item_count (Shown q) = nothing

abbrev pub items_count : List Item → Count
items_count [] = nothing
items_count (x ∷ xs) = past (item_count x) (items_count xs)

module _ (m : Most) (uses : List scope.Use) where
  abbrev pub item_gathering : Item → Gathers
  item_gathering (Alone how t) = token m uses how t
  item_gathering (Fields ts) = fields ts
  item_gathering (Taken l how q) = pattern m uses how q
  item_gathering (Opened place n) = opens m place
  item_gathering (Shown q) = exported q

  abbrev pub items_gathering : List Item → Gathers
  items_gathering [] = done
  items_gathering (x ∷ xs) = item_gathering x ▹ items_gathering xs

-- a pattern is well and not too deep; the names behind a part are names
pub record WellTaken (l : Bool) (q : Pattern) : Type 0 where
  pub pattern : WellPattern l q
  pub depth : pattern_depth q ≤ 128

abbrev pub AreWords : List Token → Type 0
AreWords [] = Unit {0}
AreWords (t ∷ ts) = (is_word t.kind ≡ true) × AreWords ts

abbrev pub WellItem : Item → Type 0
WellItem (Alone how t) = Unit {0}
WellItem (Fields ts) = AreWords ts
WellItem (Taken l how q) = WellTaken l q
WellItem (Opened place n) = Unit {0}
WellItem (Shown q) = WellPattern false q

-- something holds of each, where so much comes before it
abbrev pub EachItem : (Count → Item → Type 0) → Count → List Item → Type 0
EachItem P c [] = Unit {0}
EachItem P c (x ∷ xs) = P c x × EachItem P (past c (item_count x)) xs
