-- Units in one pass: each term is bound as soon as it is complete.
use Rattle.std.specs.Prelude.{Bool, true, false, List, [], ◌∷◌, ◌++◌, Option, Some, None}
use Rattle.std.specs.Option.{option_map, option_and_then}
use Rattle.bqn_syntax.specs.declared.token.Token.{Token}
use Rattle.bqn_syntax.specs.declared.tree.Arrow.{Arrow}
use Rattle.bqn_syntax.specs.declared.sort.Tag.TheVariants as tags
use Rattle.bqn_syntax.specs.grammar.Items.{Element, OfPart, Item, Standing, Drawn, Joining, Selecting, Wrong, Term, Reading, Between, At, Joined, Selected, plain_term, aimed_term, with_name}
use Rattle.bqn_syntax.specs.grammar.Trees.{Part, Leaf}
use Rattle.bqn_syntax.specs.grammar.Sorts.{tag, same_tag, is_word}
use Rattle.bqn_syntax.specs.grammar.Units.{Unit', Arrow', Row, bind, beside, bound}

-- the units so far, and what is being read
pub record Piece : Type 0 where
  pub row : Row
  pub reading : Reading

abbrev pub piece : Row → Reading → Piece
piece row reading = record { row = row; reading = reading }

abbrev pub with_term : Row → Option Term → Option Row
with_term row term = option_and_then (λ t. bind row t) term

abbrev pub next_at : Reading → Option Row → Option Piece
next_at reading row = option_map (λ next. piece next reading) row

abbrev pub selected : Bool → Row → List Element → Part → Token → Option Piece
selected true row joined x t = Some (piece row (At joined (OfPart (with_name x t))))
selected false row joined x t = None

abbrev pub stand : Row → Reading → Element → Option Piece
stand row Between y = Some (piece row (At [] y))
stand row (At joined x) y = next_at (At [] y) (with_term row (plain_term joined x))
stand row (Joined joined) y = Some (piece row (At joined y))
stand row (Selected joined x) (OfPart (Leaf t)) = selected (is_word t.kind) row joined x t
stand row (Selected joined x) _ = None

abbrev pub join : Row → Reading → Option Piece
join row (At joined x) = Some (piece row (Joined (joined ++ x ∷ [])))
join row _ = None

abbrev pub select_of : Bool → Row → List Element → Part → Option Piece
select_of true row joined x = Some (piece row (Selected joined x))
select_of false row joined x = None

abbrev pub select : Row → Reading → Option Piece
select row (At joined (OfPart x)) = select_of (same_tag tags.Subject (tag x)) row joined x
select row _ = None

-- the units before an arrow
abbrev pub aimed : Row → Reading → Option Row
aimed row Between = Some row
aimed row (At joined x) = with_term row (aimed_term joined x)
aimed row _ = None

abbrev pub drawn : Arrow → Row → Option Row
drawn a row = beside (Arrow' a) row.units row.binding

abbrev pub draw : Row → Reading → Arrow → Option Piece
draw row reading a = next_at Between (option_and_then (λ next. drawn a next) (aimed row reading))

-- one more item
abbrev pub put : Piece → Item → Option Piece
put so (Standing x) = stand so.row so.reading x
put so (Drawn a) = draw so.row so.reading a
put so Joining = join so.row so.reading
put so Selecting = select so.row so.reading
put so Wrong = None

-- the units of a piece that ends here
abbrev pub ended : Row → Reading → Option (List Unit')
ended row Between = bound row
ended row (At joined x) = option_and_then (λ next. bound next) (with_term row (plain_term joined x))
ended row _ = None

-- the units of a piece, where these items follow
abbrev pub units_with : Piece → List Item → Option (List Unit')
units_with so [] = ended so.row so.reading
units_with so (item ∷ items) = option_and_then (λ next. units_with next items) (put so item)

-- the same, if there is such a piece
abbrev pub units_if : Bool → Piece → List Item → Option (List Unit')
units_if true so items = units_with so items
units_if false so items = None
