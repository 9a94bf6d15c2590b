-- The header of a body: BQN's page on block headers, without labels, inverses and headers that are a list alone.
use Rattle.std.specs.Prelude.{Bool, true, false, List, [], ◌∷◌, ◌++◌, Option, Some, None}
use Rattle.std.specs.Option.{option_map, option_and_then}
use Rattle.bqn_base.specs.declared.role.Role.TheVariants as role
use Rattle.bqn_syntax.specs.declared.token.Special.TheVariants as special
use Rattle.bqn_syntax.specs.declared.token.Kind.{Kind}
use Rattle.bqn_syntax.specs.declared.token.Kind.TheVariants as kind
use Rattle.bqn_syntax.specs.declared.token.Token.{Token}
use Rattle.bqn_syntax.specs.declared.sort.Bracket.TheVariants.{Angle}
use Rattle.bqn_syntax.specs.declared.sort.Sort.{Sort}
use Rattle.bqn_syntax.specs.declared.sort.Sort.TheVariants.{Opens, Closes, Separates, Joins, Skips, Stands}
use Rattle.bqn_syntax.specs.declared.sort.Tag.{Tag}
use Rattle.bqn_syntax.specs.declared.sort.Tag.TheVariants.{Function, Mod1, Mod2, Nothing}
use Rattle.bqn_syntax.specs.grammar.Sorts.{sort_of, role_tag, token_named}
use Rattle.bqn_syntax.specs.grammar.Items.{Element, OfPart, OfList, Item, Standing, Joining, group_pattern, groups, piece_pattern}
use Rattle.bqn_syntax.specs.grammar.Trees.{Pattern, Name, ListPattern, patterns, Header, Leaf, Nothing as Absent}

-- a list of patterns that is open: its pieces so far, and the items of the piece that is being read
pub record OpenList : Type 0 where
  pub pieces : List Pattern
  pub items : List Item

abbrev pub open_list : OpenList
open_list = record { pieces = []; items = [] }

abbrev pub and_item : OpenList → Item → OpenList
and_item l item = record { pieces = l.pieces; items = l.items ++ item ∷ [] }

-- the piece that is being read ends; an empty one is none
abbrev pub end_of_piece : List Pattern → List Item → Option OpenList
end_of_piece pieces [] = Some (record { pieces = pieces; items = [] })
end_of_piece pieces (item ∷ items) = option_map (λ q. record { pieces = pieces ++ q ∷ []; items = [] }) (piece_pattern true (item ∷ items))

-- the innermost open list, and those around it; the outermost is the header itself
pub record Lists : Type 0 where
  pub inner : OpenList
  pub outer : List OpenList

abbrev pub lists : OpenList → List OpenList → Lists
lists inner outer = record { inner = inner; outer = outer }

abbrev pub list_closes : List OpenList → Option OpenList → Option Lists
list_closes (around ∷ outer) (Some l) = Some (lists (and_item around (Standing (OfList (ListPattern (patterns l.pieces))))) outer)
list_closes _ _ = None

abbrev pub list_goes_on : List OpenList → Option OpenList → Option Lists
list_goes_on (around ∷ outer) (Some l) = Some (lists l (around ∷ outer))
list_goes_on _ _ = None

-- one more token
abbrev pub header_step : Sort → Lists → Token → Option Lists
header_step Stands so t = Some (lists (and_item so.inner (Standing (OfPart (Leaf t)))) so.outer)
header_step Skips so t = Some (lists (and_item so.inner (Standing (OfPart (Absent t.place)))) so.outer)
header_step Joins so t = Some (lists (and_item so.inner Joining) so.outer)
header_step (Opens Angle) so t = Some (lists open_list (so.inner ∷ so.outer))
header_step (Closes Angle) so t = list_closes so.outer (end_of_piece so.inner.pieces so.inner.items)
header_step Separates so t = list_goes_on so.outer (end_of_piece so.inner.pieces so.inner.items)
header_step _ so t = None

abbrev pub outermost : OpenList → List OpenList → Option (List Item)
outermost l [] = Some l.items
outermost l (around ∷ outer) = None

abbrev pub header_items : Lists → List Token → Option (List Item)
header_items so [] = outermost so.inner so.outer
header_items so (t ∷ tokens) = option_and_then (λ next. header_items next tokens) (header_step (sort_of t.kind) so t)

-- The self part.

-- what an element is as the name of the block's own function or modifier
abbrev pub own_tag : Kind → Tag
own_tag (kind.Word name r) = role_tag r
own_tag (kind.Special special.Own role.Function) = Function
own_tag (kind.Special special.Modifier role.Mod1) = Mod1
own_tag (kind.Special special.Modifier role.Mod2) = Mod2
own_tag _ = Nothing

abbrev pub lone_token : List Element → Option Token
lone_token (OfPart (Leaf t) ∷ []) = Some t
lone_token _ = None

abbrev pub token_tag : Option Token → Tag
token_tag None = Nothing
token_tag (Some t) = own_tag t.kind

abbrev pub group_tag : List Element → Tag
group_tag group = token_tag (lone_token group)

abbrev pub is_left_operand : Kind → Bool
is_left_operand (kind.Special special.LeftOperand r) = true
is_left_operand (kind.Word name role.Subject) = true
is_left_operand (kind.Word name role.Function) = true
is_left_operand _ = false

abbrev pub is_right_operand : Kind → Bool
is_right_operand (kind.Special special.RightOperand r) = true
is_right_operand (kind.Word name role.Subject) = true
is_right_operand (kind.Word name role.Function) = true
is_right_operand _ = false

abbrev pub left_operand : List Element → Option Token
left_operand group = option_and_then (λ t. token_named (is_left_operand t.kind) t) (lone_token group)

abbrev pub right_operand : List Element → Option Token
right_operand group = option_and_then (λ t. token_named (is_right_operand t.kind) t) (lone_token group)

-- Arguments.

-- the outermost part is no name but a subject's
abbrev pub outermost_name : Kind → Pattern → Option Pattern
outermost_name (kind.Word name role.Subject) q = Some q
outermost_name _ q = None

abbrev pub outermost_pattern : Pattern → Option Pattern
outermost_pattern (Name t) = outermost_name t.kind (Name t)
outermost_pattern q = Some q

abbrev pub header_pattern : List Element → Option Pattern
header_pattern group = option_and_then outermost_pattern (group_pattern true group)

abbrev pub is_left : Kind → Bool
is_left (kind.Special special.Left role.Subject) = true
is_left _ = false

abbrev pub is_right : Kind → Bool
is_right (kind.Special special.Right role.Subject) = true
is_right _ = false

abbrev pub special_or : Bool → Token → List Element → Option Pattern
special_or true t group = Some (Name t)
special_or false t group = header_pattern group

-- `𝕨` or a header pattern
abbrev pub left_argument : List Element → Option Pattern
left_argument (OfPart (Leaf t) ∷ []) = special_or (is_left t.kind) t (OfPart (Leaf t) ∷ [])
left_argument group = header_pattern group

-- `𝕩` or a header pattern
abbrev pub right_argument : List Element → Option Pattern
right_argument (OfPart (Leaf t) ∷ []) = special_or (is_right t.kind) t (OfPart (Leaf t) ∷ [])
right_argument group = header_pattern group

-- The whole header.

abbrev pub with_right : Option Token → Option Token → Option Token → List (List Element) → Option Header
with_right l (Some own) r [] = Some (record { left = None; left_operand = l; own = own; right_operand = r; right = None })
with_right l (Some own) r (group ∷ []) =
    option_map (λ q. record { left = None; left_operand = l; own = own; right_operand = r; right = Some q }) (right_argument group)
with_right _ _ _ _ = None

-- a function's name
abbrev pub function_form : Tag → List Element → List (List Element) → Option Header
function_form Function own rest = with_right None (lone_token own) None rest
function_form _ own rest = None

-- an operand and a 1-modifier's name; an operand, a 2-modifier's name and an operand
abbrev pub operand_form : Tag → Option Token → List Element → List (List Element) → Option Header → Option Header
operand_form Mod1 (Some l) own rest other = with_right (Some l) (lone_token own) None rest
operand_form Mod2 (Some l) own (group ∷ rest) other = option_and_then (λ r. with_right (Some l) (lone_token own) (Some r) rest) (right_operand group)
operand_form Mod1 _ own rest other = None
operand_form Mod2 _ own rest other = None
operand_form _ l own rest other = other

-- a self part, and perhaps a right argument
abbrev pub without_left : List (List Element) → Option Header
without_left (x ∷ y ∷ rest) = operand_form (group_tag y) (left_operand x) y rest (function_form (group_tag x) x (y ∷ rest))
without_left (x ∷ []) = function_form (group_tag x) x []
without_left [] = None

-- a left argument stands only beside a right one
abbrev pub left_of : Pattern → Header → Option Header
left_of q h = option_map (λ x. record { left = Some q; left_operand = h.left_operand; own = h.own; right_operand = h.right_operand; right = Some x }) h.right

abbrev pub with_left : List (List Element) → Option Header
with_left (x ∷ rest) = option_and_then (λ q. option_and_then (left_of q) (without_left rest)) (left_argument x)
with_left [] = None

abbrev pub or_left : Option Header → List (List Element) → Option Header
or_left (Some h) gs = Some h
or_left None gs = with_left gs

abbrev pub header_form : List (List Element) → Option Header
header_form gs = or_left (without_left gs) gs

-- the header that a piece is, or none
abbrev pub header_in : List Token → Option Header
header_in tokens = option_and_then header_form (option_and_then groups (header_items (lists open_list []) tokens))
