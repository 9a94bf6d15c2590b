-- What the pass from the right shows.
use Rattle.std.specs.Prelude.{false, List, [], ◌∷◌, map, reverse}
use Rattle.bqn_syntax.specs.declared.token.Token.{Token}
use Rattle.bqn_syntax.specs.declared.sort.Sort.{Sort}
use Rattle.bqn_syntax.specs.declared.sort.Sort.TheVariants.{Opens, Closes, Separates, Draws, Joins, Selects, Ends, Heads, Asks, Skips, Stands}
use Rattle.bqn_syntax.specs.grammar.Sorts.{sort_of}
use Rattle.bqn_syntax.specs.grammar.Looks as plain
use Rattle.bqn_parse.specs.declared.looks.Ahead.{Ahead}
use Rattle.bqn_parse.specs.declared.looks.Looks.{Looks}

abbrev pub ahead_shown : Ahead → plain.Ahead
ahead_shown a = record { arrow = a.arrow; element = a.element; colon = a.colon }

-- those of a list from its end on
abbrev pub stacked : List Ahead → List plain.Ahead
stacked all = map ahead_shown (reverse all)

abbrev pub looks_shown : Looks → plain.Looks
looks_shown l = record { here = ahead_shown l.here; outer = stacked l.outer.items }

-- these, and before them this one where such a token opens a bracket
abbrev pub with_opening : Sort → plain.Ahead → List plain.Ahead → List plain.Ahead
with_opening (Opens b) first all = first ∷ all
with_opening (Closes b) first all = all
with_opening Separates first all = all
with_opening (Draws a) first all = all
with_opening Joins first all = all
with_opening Selects first all = all
with_opening Ends first all = all
with_opening Heads first all = all
with_opening Asks first all = all
with_opening Skips first all = all
with_opening Stands first all = all

-- for each opening bracket what stands after the one that closes it
abbrev pub openings : List Token → List plain.Ahead
openings [] = []
openings (t ∷ tokens) = with_opening (sort_of t.kind) (plain.behind_group tokens) (openings tokens)

-- what stands after the bracket that such a token opens, if it opens one: it comes first
abbrev pub ahead_by : Sort → List plain.Ahead → plain.Ahead
ahead_by (Opens b) all = plain.first_of all
ahead_by (Closes b) all = plain.ahead false false false
ahead_by Separates all = plain.ahead false false false
ahead_by (Draws a) all = plain.ahead false false false
ahead_by Joins all = plain.ahead false false false
ahead_by Selects all = plain.ahead false false false
ahead_by Ends all = plain.ahead false false false
ahead_by Heads all = plain.ahead false false false
ahead_by Asks all = plain.ahead false false false
ahead_by Skips all = plain.ahead false false false
ahead_by Stands all = plain.ahead false false false

-- what is left for the tokens after such a one
abbrev pub left_behind : Sort → List plain.Ahead → List plain.Ahead
left_behind (Opens b) all = plain.rest_of all
left_behind (Closes b) all = all
left_behind Separates all = all
left_behind (Draws a) all = all
left_behind Joins all = all
left_behind Selects all = all
left_behind Ends all = all
left_behind Heads all = all
left_behind Asks all = all
left_behind Skips all = all
left_behind Stands all = all
