-- What a token does in a piece, and the role of a part: BQN's pages on grammar and on expression roles.
use Rattle.std.specs.Prelude.{ℕ, nat_lt, ◌==◌, Bool, true, false, List, [], ◌∷◌, if◌then◌else◌, Option, Some, None}
use Rattle.bqn_base.specs.declared.role.Role.{Role}
use Rattle.bqn_base.specs.declared.role.Role.TheVariants as role
use Rattle.bqn_syntax.specs.declared.token.Kind.{Kind}
use Rattle.bqn_syntax.specs.declared.token.Kind.TheVariants as kind
use Rattle.bqn_syntax.specs.declared.token.Token.{Token}
use Rattle.bqn_syntax.specs.declared.tree.Arrow.TheVariants.{Define, Export, Change}
use Rattle.bqn_syntax.specs.declared.tree.Class.{Class}
use Rattle.bqn_syntax.specs.declared.tree.Class.TheVariants as class
use Rattle.bqn_syntax.specs.declared.sort.Bracket.TheVariants.{Round, Angle, Square, Curly}
use Rattle.bqn_syntax.specs.declared.sort.Sort.{Sort}
use Rattle.bqn_syntax.specs.declared.sort.Sort.TheVariants.{Opens, Closes, Separates, Draws, Joins, Selects, Ends, Heads, Asks, Skips, Stands}
use Rattle.bqn_syntax.specs.declared.sort.Tag.{Tag}
use Rattle.bqn_syntax.specs.declared.sort.Tag.TheVariants.{Subject, Function, Mod1, Mod2, Nothing}
use Rattle.bqn_syntax.specs.grammar.Punctuation as punctuation
use Rattle.bqn_syntax.specs.grammar.Trees.{Expr, Value, Train, Modifier, Part, Leaf, Elements, Merge, Paren, Block, Field, Strand, Nothing as Absent, BlockTree, block}

abbrev pub punct_sort : ℕ → Sort
punct_sort c =
    if c == punctuation.open_round then Opens Round
    else if c == punctuation.open_angle then Opens Angle
    else if c == punctuation.open_square then Opens Square
    else if c == punctuation.open_curly then Opens Curly
    else if c == punctuation.close_round then Closes Round
    else if c == punctuation.close_angle then Closes Angle
    else if c == punctuation.close_square then Closes Square
    else if c == punctuation.close_curly then Closes Curly
    else if c == punctuation.define_arrow then Draws Define
    else if c == punctuation.export_arrow then Draws Export
    else if c == punctuation.change_arrow then Draws Change
    else if c == punctuation.joiner then Joins
    else if c == punctuation.dot then Selects
    else if c == punctuation.semicolon then Ends
    else if c == punctuation.colon then Heads
    else if c == punctuation.question_mark then Asks
    else if c == punctuation.middle_dot then Skips
    else Separates

abbrev pub sort_of : Kind → Sort
sort_of (kind.Punct c) = punct_sort c
sort_of _ = Stands

abbrev pub role_tag : Role → Tag
role_tag role.Subject = Subject
role_tag role.Function = Function
role_tag role.Mod1 = Mod1
role_tag role.Mod2 = Mod2

-- 44 functions, then 9 1-modifiers, then the 2-modifiers
abbrev pub given_tag : ℕ → Tag
given_tag code = if nat_lt code 44 then Function else if nat_lt code 53 then Mod1 else Mod2

abbrev pub kind_tag : Kind → Tag
kind_tag (kind.Number z) = Subject
kind_tag (kind.Char c) = Subject
kind_tag (kind.Text t) = Subject
kind_tag (kind.Word name r) = role_tag r
kind_tag (kind.System name r) = role_tag r
kind_tag (kind.Special s r) = role_tag r
kind_tag (kind.Given code) = given_tag code
kind_tag (kind.Punct c) = Nothing

abbrev pub class_tag : Class → Tag
class_tag class.Immediate = Subject
class_tag class.Function = Function
class_tag class.Mod1 = Mod1
class_tag class.Mod1Deferred = Mod1
class_tag class.Mod2 = Mod2
class_tag class.Mod2Deferred = Mod2

-- the role of a part that ends in these names
abbrev pub last_tag : List Token → Tag
last_tag [] = Subject
last_tag (t ∷ []) = kind_tag t.kind
last_tag (t ∷ u ∷ names) = last_tag (u ∷ names)

abbrev pub block_tag : BlockTree → Tag
block_tag (block place c bs) = class_tag c

abbrev mutual
  -- parentheses pass on the role of what they hold, and a field has that of its name
  pub tag : Part → Tag
  tag (Leaf t) = kind_tag t.kind
  tag (Elements es) = Subject
  tag (Merge es) = Subject
  tag (Paren e) = expr_tag e
  tag (Block b) = block_tag b
  tag (Field base names) = last_tag names
  tag (Strand ps) = Subject
  tag (Absent place) = Nothing

  pub expr_tag : Expr → Tag
  expr_tag (Value last steps) = Subject
  expr_tag (Train targets parts) = Function
  expr_tag (Modifier targets part) = tag part

abbrev pub same_tag : Tag → Tag → Bool
same_tag Subject Subject = true
same_tag Function Function = true
same_tag Mod1 Mod1 = true
same_tag Mod2 Mod2 = true
same_tag Nothing Nothing = true
same_tag _ _ = false

-- a name of this role, and not one of the special and system names
abbrev pub is_name : Tag → Kind → Bool
is_name t (kind.Word name r) = same_tag t (role_tag r)
is_name t _ = false

-- a name of any role
abbrev pub is_word : Kind → Bool
is_word (kind.Word name r) = true
is_word _ = false

abbrev pub token_named : Bool → Token → Option Token
token_named true t = Some t
token_named false t = None

-- the name that a part is by itself
abbrev pub named : Tag → Part → Option Token
named r (Leaf t) = token_named (is_name r t.kind) t
named r _ = None
