-- What stands after an item.
use Rattle.std.specs.Prelude.{Bool, true, false, List, [], ◌∷◌}
use Rattle.bqn_syntax.specs.declared.sort.Tag.{Tag}
use Rattle.bqn_syntax.specs.declared.sort.Tag.TheVariants as tags
use Rattle.bqn_syntax.specs.grammar.Items.{OfPart, OfList, Item, Standing, Drawn, Joining, Selecting, Wrong}
use Rattle.bqn_syntax.specs.grammar.Sorts.{tag}
use Rattle.bqn_parse.specs.declared.reading.following.Behind.{Behind}
use Rattle.bqn_parse.specs.declared.reading.following.Behind.TheVariants.{Asks, Draws, Else}

abbrev pub behind_by : Item → Behind
behind_by Joining = Asks
behind_by Selecting = Asks
behind_by (Drawn a) = Draws
behind_by (Standing x) = Else
behind_by Wrong = Else

-- by the first of the items that follow
abbrev pub behind_of : List Item → Behind
behind_of [] = Else
behind_of (item ∷ items) = behind_by item

abbrev pub is_no_modifier : Tag → Bool
is_no_modifier tags.Subject = true
is_no_modifier tags.Function = true
is_no_modifier tags.Mod1 = false
is_no_modifier tags.Mod2 = false
is_no_modifier tags.Nothing = true

-- whether an item, before which an operand stands and after which this does, is surely no modifier
abbrev pub ends_by : Item → Behind → Bool
ends_by (Standing (OfPart x)) Asks = false
ends_by (Standing (OfPart x)) Draws = is_no_modifier (tag x)
ends_by (Standing (OfPart x)) Else = is_no_modifier (tag x)
ends_by (Standing (OfList q)) behind = false
ends_by (Drawn a) behind = true
ends_by Joining behind = false
ends_by Selecting behind = false
ends_by Wrong behind = false

-- whether these items surely end the operand before them
abbrev pub ends_before : List Item → Bool
ends_before [] = true
ends_before (item ∷ items) = ends_by item (behind_of items)
