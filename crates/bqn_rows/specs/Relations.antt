-- Relations on values: prototypes and fills, Match, and the order, from BQN's pages on fill elements, match and ordered functions.
-- That only prototypes are fills, and weight, height and extent, are this project's own.
use Rattle.std.specs.Prelude.{ℕ, suc, ◌+◌, max, nat_eq, nat_le, Bool, true, false, ◌&&◌, pos, List, [], ◌∷◌, Option, Some, None, Result, Ok, Err}
use Rattle.std.specs.declared.cmp.Ordering.{Ordering}
use Rattle.std.specs.declared.cmp.Ordering.TheVariants.{Less, Equal, Greater}
use Rattle.std.specs.Ordering.{nat_cmp, int_cmp, int_eq, ordering_then, is_lt}
use Rattle.bqn_base.specs.declared.fault.Fault.{Fault}
use Rattle.bqn_base.specs.declared.fault.Fault.TheVariants.{NoCompare}
use Rattle.bqn_rows.specs.Plain.{Maker, One, Two, Atop, Fork, Value, Number, Character, Array, Given, Derived, Function, Modifier1, Modifier2, Namespace, Values, none, more, Fill, unfilled, filled, kind, kind_number}

-- ---- how large a value is

abbrev mutual
  -- an atom weighs 1; fills weigh nothing
  pub weight : Value → ℕ
  weight (Number n) = 1
  weight (Character c) = 1
  weight (Array shape xs f) = 1 + weights xs
  weight (Given code) = 1
  weight (Derived maker parts) = 1 + weights parts
  weight (Function block environment operands) = 1 + weights operands
  weight (Modifier1 block environment) = 1
  weight (Modifier2 block environment) = 1
  weight (Namespace environment) = 1

  pub weights : Values → ℕ
  weights none = 0
  weights (more x xs) = weight x + weights xs

-- one more than the parts, for a block function where it has operands
abbrev pub above_operands : Values → ℕ → ℕ
above_operands none parts = 0
above_operands (more x xs) parts = suc parts

abbrev mutual
  -- 0 for an atom without parts, and else 1 more than the greatest height in it; 1 for an empty array
  pub height : Value → ℕ
  height (Number n) = 0
  height (Character c) = 0
  height (Array shape xs f) = suc (heights xs)
  height (Given code) = 0
  height (Derived maker parts) = suc (heights parts)
  height (Function block environment operands) = above_operands operands (heights operands)
  height (Modifier1 block environment) = 0
  height (Modifier2 block environment) = 0
  height (Namespace environment) = 0

  pub heights : Values → ℕ
  heights none = 0
  heights (more x xs) = max (height x) (heights xs)

-- the depth of arrays alone: `≡x`
abbrev mutual
  pub depth : Value → ℕ
  depth (Array shape xs f) = suc (depths xs)
  depth _ = 0

  pub depths : Values → ℕ
  depths none = 0
  depths (more x xs) = max (depth x) (depths xs)

-- the depth where fills count like elements
abbrev mutual
  pub extent : Value → ℕ
  extent (Array shape xs f) = suc (max (extents xs) (fill_extent f))
  extent _ = 0

  pub extents : Values → ℕ
  extents none = 0
  extents (more x xs) = max (extent x) (extents xs)

  pub fill_extent : Fill → ℕ
  fill_extent unfilled = 0
  fill_extent (filled v) = extent v

-- ---- identical and same values

abbrev pub same_maker : Maker → Maker → Bool
same_maker (One c) (One d) = nat_eq c d
same_maker (Two c) (Two d) = nat_eq c d
same_maker Atop Atop = true
same_maker Fork Fork = true
same_maker _ _ = false

abbrev pub same_shape : List ℕ → List ℕ → Bool
same_shape [] [] = true
same_shape (n ∷ s) (m ∷ t) = nat_eq n m && same_shape s t
same_shape _ _ = false

-- equal in all parts, fills included
abbrev mutual
  pub identical : Value → Value → Bool
  identical (Number w) (Number x) = int_eq w x
  identical (Character w) (Character x) = nat_eq w x
  identical (Array s ws f) (Array t xs g) = same_shape s t && (all_identical ws xs && identical_fill f g)
  identical (Given c) (Given d) = nat_eq c d
  identical (Derived m ps) (Derived n qs) = same_maker m n && all_identical ps qs
  identical (Function b e ps) (Function c f qs) = nat_eq b c && (nat_eq e f && all_identical ps qs)
  identical (Modifier1 b e) (Modifier1 c f) = nat_eq b c && nat_eq e f
  identical (Modifier2 b e) (Modifier2 c f) = nat_eq b c && nat_eq e f
  identical (Namespace e) (Namespace f) = nat_eq e f
  identical _ _ = false

  pub all_identical : Values → Values → Bool
  all_identical none none = true
  all_identical (more w ws) (more x xs) = identical w x && all_identical ws xs
  all_identical _ _ = false

  pub identical_fill : Fill → Fill → Bool
  identical_fill unfilled unfilled = true
  identical_fill (filled w) (filled x) = identical w x
  identical_fill _ _ = false

abbrev mutual
  -- of equal type, shape and elements, whatever the fills of arrays; operations and namespaces only where they are identical
  pub same : Value → Value → Bool
  same (Array s ws f) (Array t xs g) = same_shape s t && all_same ws xs
  same w x = identical w x

  pub all_same : Values → Values → Bool
  all_same none none = true
  all_same (more w ws) (more x xs) = same w x && all_same ws xs
  all_same _ _ = false

-- ---- prototypes and fills

-- a value in front of others, where both are there
abbrev pub both : Option Value → Option Values → Option Values
both (Some x) (Some xs) = Some (more x xs)
both _ _ = None

abbrev pub array_of : List ℕ → Option Values → Option Value
array_of shape None = None
array_of shape (Some xs) = Some (Array shape xs unfilled)

abbrev mutual
  -- 0 for a number, the space for a character, the array of the elements' prototypes; an empty array is its own prototype
  pub prototype : Value → Option Value
  prototype (Number n) = Some (Number (pos 0))
  prototype (Character c) = Some (Character 32)
  prototype (Array shape none f) = Some (Array shape none f)
  prototype (Array shape (more x xs) f) = array_of shape (both (prototype x) (prototypes xs))
  prototype _ = None

  pub prototypes : Values → Option Values
  prototypes none = Some none
  prototypes (more x xs) = both (prototype x) (prototypes xs)

-- the first, where it is there and the other is identical
abbrev pub shared : Option Value → Option Value → Option Value
shared (Some v) (Some w) = elim (identical v w) [ true ↦ Some v | false ↦ None ]
shared _ _ = None

-- the prototype of the elements, where all of them have an identical one
abbrev pub common_prototype : Value → Values → Option Value
common_prototype x none = prototype x
common_prototype x (more y ys) = shared (prototype x) (common_prototype y ys)

-- the fill that is carried, if there is one
abbrev pub carried : Fill → Option Value
carried unfilled = None
carried (filled v) = Some v

-- the fill of an array; of an atom its prototype
abbrev pub fill_of : Value → Option Value
fill_of (Array shape none f) = carried f
fill_of (Array shape (more x xs) f) = common_prototype x xs
fill_of x = prototype x

-- ---- Match

-- the first pair that is not equal decides
abbrev pub first_unequal : Result Bool Fault → Result Bool Fault → Result Bool Fault
first_unequal (Ok true) next = next
first_unequal decided next = decided

-- the comparison of what is alike so far; what is not is unequal
abbrev pub where_alike : Bool → Result Bool Fault → Result Bool Fault
where_alike true matched = matched
where_alike false matched = Ok false

abbrev mutual
  -- `w≡x`: types, shapes and elements, whatever the fills; two operations of one type, or two namespaces, can't be compared
  pub matching : Value → Value → Result Bool Fault
  matching (Number w) (Number x) = Ok (int_eq w x)
  matching (Character w) (Character x) = Ok (nat_eq w x)
  matching (Array s ws f) (Array t xs g) = where_alike (same_shape s t) (all_matching ws xs)
  matching w x = where_alike (nat_eq (kind_number (kind w)) (kind_number (kind x))) (Err NoCompare)

  pub all_matching : Values → Values → Result Bool Fault
  all_matching none none = Ok true
  all_matching (more w ws) (more x xs) = first_unequal (matching w x) (all_matching ws xs)
  all_matching _ _ = Ok false

-- ---- the order

-- the levels that a value has: one of them, or all from one on
pub data Levels : Type 0 where
  no_level : Levels
  only from : ℕ → Levels

-- numbers and characters have level 0, and a list whose elements are of level k has level k + 1; so an empty list has all above 0
abbrev pub raised : Levels → Levels
raised no_level = no_level
raised (only k) = only (suc k)
raised (from k) = from (suc k)

abbrev pub if_level : Bool → Levels → Levels
if_level true l = l
if_level false l = no_level

-- the levels that both have
abbrev pub common : Levels → Levels → Levels
common (only j) (only k) = if_level (nat_eq j k) (only j)
common (only j) (from k) = if_level (nat_le k j) (only j)
common (from j) (only k) = if_level (nat_le j k) (only k)
common (from j) (from k) = from (max j k)
common _ _ = no_level

abbrev mutual
  -- the levels of a value: none for an operation, a namespace, a table, or a list of elements without a common one
  pub levels : Value → Levels
  levels (Number n) = only 0
  levels (Character c) = only 0
  levels (Array (n ∷ []) xs f) = raised (all_levels xs)
  levels _ = no_level

  pub all_levels : Values → Levels
  all_levels none = from 0
  all_levels (more x xs) = common (levels x) (all_levels xs)

-- whether a level is among these
abbrev pub is_level : ℕ → Levels → Bool
is_level k no_level = false
is_level k (only j) = nat_eq j k
is_level k (from j) = nat_le j k

-- where a type stands; values of different types have no common level but for numbers and characters, so only these are compared
abbrev pub rank_of : Value → ℕ
rank_of (Number n) = 0
rank_of (Character c) = 1
rank_of (Array shape xs f) = 2
rank_of _ = 3

abbrev mutual
  -- numbers by value, characters by code, a number before a character, lists by their first unequal elements and a prefix first
  pub ordered : Value → Value → Ordering
  ordered (Number w) (Number x) = int_cmp w x
  ordered (Character w) (Character x) = nat_cmp w x
  ordered (Array s ws f) (Array t xs g) = all_ordered ws xs
  ordered w x = nat_cmp (rank_of w) (rank_of x)

  pub all_ordered : Values → Values → Ordering
  all_ordered none none = Equal
  all_ordered none (more x xs) = Less
  all_ordered (more w ws) none = Greater
  all_ordered (more w ws) (more x xs) = ordering_then (ordered w x) (all_ordered ws xs)

-- the first stands before the second
abbrev pub before : Value → Value → Bool
before w x = is_lt (ordered w x)
