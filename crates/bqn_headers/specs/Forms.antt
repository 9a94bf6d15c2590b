-- The forms of a header, group by group.
use Rattle.std.specs.Prelude.{Bool, true, false, not, List, [], ◌∷◌, Option, Some, None}
use Rattle.bqn_syntax.specs.declared.token.Kind.{Kind}
use Rattle.bqn_syntax.specs.declared.token.Token.{Token}
use Rattle.bqn_syntax.specs.declared.sort.Tag.{Tag}
use Rattle.bqn_syntax.specs.declared.sort.Tag.TheVariants as tag
use Rattle.bqn_syntax.specs.grammar.Sorts.{is_name}
use Rattle.bqn_syntax.specs.grammar.Trees.{Pattern, Name, Header}
use Rattle.bqn_syntax.specs.grammar.Items.{Element}
use Rattle.bqn_syntax.specs.grammar.Headers.{group_tag, lone_token, left_operand, operand_form}

abbrev pub token_is : (Kind → Bool) → Option Token → Bool
token_is test None = false
token_is test (Some t) = test t.kind

-- whether a group is one token, and passes the test
abbrev pub lone_is : (Kind → Bool) → List Element → Bool
lone_is test group = token_is test (lone_token group)

-- whether a pattern may be an argument: of names only a subject's is one
abbrev pub stands_outermost : Pattern → Bool
stands_outermost (Name t) = is_name tag.Subject t.kind
stands_outermost _ = true

abbrev pub mod1_form : List Element → List (List Element) → Option Header
mod1_form x (own ∷ rest) = operand_form tag.Mod1 (left_operand x) own rest None
mod1_form x [] = None

abbrev pub mod2_form : List Element → List (List Element) → Option Header
mod2_form x (own ∷ rest) = operand_form tag.Mod2 (left_operand x) own rest None
mod2_form x [] = None

abbrev pub first_tag : List (List Element) → Tag
first_tag [] = tag.Nothing
first_tag (group ∷ groups) = group_tag group

abbrev pub is_modifier : Tag → Bool
is_modifier tag.Mod1 = true
is_modifier tag.Mod2 = true
is_modifier _ = false

-- whether what stands before these groups is a left argument, if it is anything
abbrev pub follow_left : List (List Element) → Bool
follow_left (x ∷ y ∷ groups) = not (is_modifier (group_tag x))
follow_left _ = false
