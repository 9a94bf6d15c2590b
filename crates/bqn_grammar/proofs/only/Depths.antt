-- How deep a tree is, from its items.
use Rattle.std.proofs.Common.{◌≤◌, ℕ, max, List, [], ◌∷◌, ◌++◌, arith}
use Rattle.bqn_syntax.specs.declared.tree.Arrow.TheVariants as arrow
use Rattle.bqn_syntax.specs.grammar.Items.{Item, Drawn}
use Rattle.bqn_syntax.specs.grammar.Well.{pattern_depth, patterns_depth, expr_depth, part_depth, maybe_depth, steps_depth, step_depth, derived_depth, uses_depth, use_depth, deriveds_depth, parts_depth}
use Rattle.bqn_syntax.specs.grammar.Trees.{Pattern, Name, Skip, Literal, ListPattern, StrandPattern, Patterns, no_patterns, and_patterns, Expr, Value, Train, Modifier, Use, One, Two, Part, Leaf, Elements, Merge, Paren, Block, Field, Strand, Nothing, Step, Apply, Assign, Modify, Derived, derived, MaybePart, none, some, Uses, no_uses, and_uses, Parts, no_parts, and_parts, Steps, no_steps, and_steps, Deriveds, no_deriveds, and_deriveds}
use Rattle.bqn_grammar.proofs.TreeItems.{part_items, parts_items, parts_more_items, pattern_items, joined_items, joined_more_items, name_items, target_items, maybe_items, use_items, uses_items, derived_items, deriveds_items, step_items, steps_items, expr_items, ItemDepths}

none_open : (n : ℕ) → 0 ≤ n
none_open n = omega arith

both_open : (n a b : ℕ) → a ≤ n → b ≤ n → max a b ≤ n
both_open n a b p q = omega arith

pub depths_split : (n : ℕ) (a b : List Item) → ItemDepths n (a ++ b) → ItemDepths n a × ItemDepths n b
depths_split n [] b d = (tt, d)
depths_split n (i ∷ a) b d = let h = depths_split n a b d.1 in ((d.0, h.0), h.1)

mutual
  pub pattern_depths : (n : ℕ) (q : Pattern) → ItemDepths n (pattern_items q) → pattern_depth q ≤ n
  pattern_depths n (Name t) d = none_open n
  pattern_depths n (Skip p) d = none_open n
  pattern_depths n (Literal t) d = none_open n
  pattern_depths n (ListPattern qs) d = d.0
  pattern_depths n (StrandPattern qs) d = joined_depths n qs d

  joined_depths : (n : ℕ) (qs : Patterns) → ItemDepths n (joined_items qs) → patterns_depth qs ≤ n
  joined_depths n no_patterns d = none_open n
  joined_depths n (and_patterns q qs) d = let h = depths_split n (pattern_items q) (joined_more_items qs) d in both_open n (pattern_depth q) (patterns_depth qs) (pattern_depths n q h.0) (joined_more_depths n qs h.1)

  joined_more_depths : (n : ℕ) (qs : Patterns) → ItemDepths n (joined_more_items qs) → patterns_depth qs ≤ n
  joined_more_depths n no_patterns d = none_open n
  joined_more_depths n (and_patterns q qs) d = let h = depths_split n (pattern_items q) (joined_more_items qs) d.1 in both_open n (pattern_depth q) (patterns_depth qs) (pattern_depths n q h.0) (joined_more_depths n qs h.1)

mutual
  pub part_depths : (n : ℕ) (x : Part) → ItemDepths n (part_items x) → part_depth x ≤ n
  part_depths n (Leaf t) d = none_open n
  part_depths n (Elements es) d = d.0
  part_depths n (Merge es) d = d.0
  part_depths n (Paren e) d = d.0
  part_depths n (Block b) d = d.0
  part_depths n (Field x names) d = let h = depths_split n (part_items x) (name_items names) d in part_depths n x h.0
  part_depths n (Strand ps) d = parts_depths n ps d
  part_depths n (Nothing p) d = none_open n

  parts_depths : (n : ℕ) (ps : Parts) → ItemDepths n (parts_items ps) → parts_depth ps ≤ n
  parts_depths n no_parts d = none_open n
  parts_depths n (and_parts x xs) d = let h = depths_split n (part_items x) (parts_more_items xs) d in both_open n (part_depth x) (parts_depth xs) (part_depths n x h.0) (parts_more_depths n xs h.1)

  parts_more_depths : (n : ℕ) (ps : Parts) → ItemDepths n (parts_more_items ps) → parts_depth ps ≤ n
  parts_more_depths n no_parts d = none_open n
  parts_more_depths n (and_parts x xs) d = let h = depths_split n (part_items x) (parts_more_items xs) d.1 in both_open n (part_depth x) (parts_depth xs) (part_depths n x h.0) (parts_more_depths n xs h.1)

maybe_depths : (n : ℕ) (x : MaybePart) → ItemDepths n (maybe_items x) → maybe_depth x ≤ n
maybe_depths n none d = none_open n
maybe_depths n (some x) d = part_depths n x d

use_depths : (n : ℕ) (u : Use) → ItemDepths n (use_items u) → use_depth u ≤ n
use_depths n (One m) d = part_depths n m d
use_depths n (Two m x) d = let h = depths_split n (part_items m) (part_items x) d in both_open n (part_depth m) (part_depth x) (part_depths n m h.0) (part_depths n x h.1)

uses_depths : (n : ℕ) (us : Uses) → ItemDepths n (uses_items us) → uses_depth us ≤ n
uses_depths n no_uses d = none_open n
uses_depths n (and_uses u us) d = let h = depths_split n (use_items u) (uses_items us) d in both_open n (use_depth u) (uses_depth us) (use_depths n u h.0) (uses_depths n us h.1)

derived_depths : (n : ℕ) (f : Derived) → ItemDepths n (derived_items f) → derived_depth f ≤ n
derived_depths n (derived x us) d = let h = depths_split n (part_items x) (uses_items us) d in both_open n (part_depth x) (uses_depth us) (part_depths n x h.0) (uses_depths n us h.1)

deriveds_depths : (n : ℕ) (ds : Deriveds) → ItemDepths n (deriveds_items ds) → deriveds_depth ds ≤ n
deriveds_depths n no_deriveds d = none_open n
deriveds_depths n (and_deriveds f fs) d = let h = depths_split n (derived_items f) (deriveds_items fs) d in both_open n (derived_depth f) (deriveds_depth fs) (derived_depths n f h.0) (deriveds_depths n fs h.1)

step_depths : (n : ℕ) (s : Step) → ItemDepths n (step_items s) → step_depth s ≤ n
step_depths n (Apply f left) d = let h = depths_split n (maybe_items left) (derived_items f) d in both_open n (derived_depth f) (maybe_depth left) (derived_depths n f h.1) (maybe_depths n left h.0)
step_depths n (Assign q a) d = let h = depths_split n (pattern_items q) (Drawn a ∷ []) d in pattern_depths n q h.0
step_depths n (Modify t f) d = let h = depths_split n (derived_items f) (Drawn arrow.Change ∷ []) d.1 in derived_depths n f h.0

steps_depths : (n : ℕ) (ss : Steps) → ItemDepths n (steps_items ss) → steps_depth ss ≤ n
steps_depths n no_steps d = none_open n
steps_depths n (and_steps s ss) d = let h = depths_split n (steps_items ss) (step_items s) d in both_open n (step_depth s) (steps_depth ss) (step_depths n s h.1) (steps_depths n ss h.0)

pub expr_depths : (n : ℕ) (e : Expr) → ItemDepths n (expr_items e) → expr_depth e ≤ n
expr_depths n (Value last ss) d = let h = depths_split n (steps_items ss) (maybe_items last) d in both_open n (maybe_depth last) (steps_depth ss) (maybe_depths n last h.1) (steps_depths n ss h.0)
expr_depths n (Train ts ds) d = let h = depths_split n (target_items ts) (deriveds_items ds) d in deriveds_depths n ds h.1
expr_depths n (Modifier ts x) d = let h = depths_split n (target_items ts) (part_items x) d in part_depths n x h.1
