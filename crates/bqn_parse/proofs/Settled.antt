-- An operand that no modifier follows ends before the next item is read.
use Rattle.std.proofs.Common.{◌≡◌, Bool, true, List, [], ◌∷◌, Option, Some, None, refl, sym, ap, ◌∙◌}
use Rattle.std.specs.Option.{option_map, option_and_then}
use Rattle.bqn_syntax.specs.declared.sort.Tag.{Tag}
use Rattle.bqn_syntax.specs.declared.sort.Tag.TheVariants as tags
use Rattle.bqn_syntax.specs.grammar.Items.{Element, OfPart, OfList, Item, Standing, Drawn, Joining, Selecting, Wrong, Operand, Between, At, plain_term, aimed_term}
use Rattle.bqn_syntax.specs.grammar.Trees.{Part, Use, Leaf, Elements, Merge, Paren, Block, Field, Strand, Nothing}
use Rattle.bqn_syntax.specs.grammar.Sorts.{tag}
use Rattle.bqn_syntax.specs.grammar.Units.{Unit', Binding, Free, Bound, Wanting, Row, row, alone, unit_of, bind, bind_part, beside, bound}
use Rattle.bqn_parse.specs.Fused.{Piece, piece, with_term, next_at, drawn, units_if, units_with}
use Rattle.bqn_parse.specs.Following.{behind_of, ends_before, ends_by, is_no_modifier}
use Rattle.bqn_parse.specs.Grouping.{settled, settled_by}
use Rattle.bqn_parse.specs.Views.{when}
use Rattle.bqn_parse.specs.declared.reading.following.Behind.{Behind}
use Rattle.bqn_parse.specs.declared.reading.following.Behind.TheVariants.{Asks, Draws, Else}
use Rattle.bqn_parse.proofs.Fused.{units_if-row, plain-now, aimed-now}

-- One more part.

free-by : (g : Tag) (x : Part) (us : List Unit') → g ≡ tag x → option_map settled (bind_part g us Free x) ≡ Some (row (alone g x ∷ us) Free)
free-by tags.Subject x us e = ap (λ (g : Tag). Some (row (alone g x ∷ us) Free)) (sym e)
free-by tags.Function x us e = ap (λ (g : Tag). Some (row (alone g x ∷ us) Free)) (sym e)
free-by tags.Mod1 x us e = refl
free-by tags.Mod2 x us e = refl
free-by tags.Nothing x us e = refl

-- where no operand is being read, a part is a unit by itself
pub part-free : (x : Part) (us next : List Unit') (old new : Binding) → old ≡ Free → new ≡ Free → next ≡ alone (tag x) x ∷ us → Some (row next new) ≡ option_map settled (bind_part (tag x) us old x)
part-free x us next old new o n e =
    ap (λ (b : Binding). Some (row next b)) n
    ∙ ap (λ (us : List Unit'). Some (row us Free)) e
    ∙ sym (free-by (tag x) x us refl)
    ∙ ap (λ (b : Binding). option_map settled (bind_part (tag x) us b x)) (sym o)

-- what is bound ends
pub part-bound : (so next : Row) (given : Option Row) → Some so ≡ given → next ≡ settled so → Some next ≡ option_map settled given
part-bound so next given e n = ap (λ (r : Row). Some r) n ∙ ap (option_map settled) e

pub part-stuck : (given : Option Row) → None ≡ given → ◌≡◌ {A = Option Row} None (option_map settled given)
part-stuck given e = ap (option_map settled) e

pub ruleset part_laws = (part-free, part-bound, part-stuck)

pub beside-settled : (u : Unit') (us : List Unit') (b : Binding) → option_map settled (beside u us b) ≡ beside u us b
beside-settled u us Free = refl
beside-settled u us (Bound x uses) = refl
beside-settled u us (Wanting x uses m) = refl

pub ruleset beside_laws = (beside-settled)

-- The items that follow.

aimed-same : (r s : Row) (y : Part) → bind r (Operand y) ≡ bind s (Operand y) → with_term r (aimed_term [] (OfPart y)) ≡ with_term s (aimed_term [] (OfPart y))
aimed-same r s (Leaf t) e = e
aimed-same r s (Elements es) e = refl
aimed-same r s (Merge es) e = e
aimed-same r s (Paren i) e = e
aimed-same r s (Block b) e = e
aimed-same r s (Field b ns) e = e
aimed-same r s (Strand ps) e = e
aimed-same r s (Nothing p) e = e

-- rows to which a part binds alike give the same where it is being read
at-same : (r s : Row) (y : Part) (items : List Item) → bind r (Operand y) ≡ bind s (Operand y) → ends_by (Standing (OfPart y)) (behind_of items) ≡ true
    → units_with (piece r (At [] (OfPart y))) items ≡ units_with (piece s (At [] (OfPart y))) items
at-same r s y [] e o = ap (λ (next : Option Row). option_and_then bound next) e
at-same r s y (Standing z ∷ items) e o = ap (λ (next : Option Row). option_and_then (λ (p : Piece). units_with p items) (next_at (At [] z) next)) e
at-same r s y (Drawn a ∷ items) e o = ap (λ (next : Option Row). option_and_then (λ (p : Piece). units_with p items) (next_at Between (option_and_then (λ (n : Row). drawn a n) next))) (aimed-same r s y e)
at-same r s y (Wrong ∷ items) e o = refl
at-same r s y (Joining ∷ items) e o = absurd (cc)
at-same r s y (Selecting ∷ items) e o = absurd (cc)

-- a part that is no modifier ends the operand before it
bind-same : (g : Tag) (us : List Unit') (x y : Part) (uses : List Use) → is_no_modifier g ≡ true → bind_part g (unit_of x uses ∷ us) Free y ≡ bind_part g us (Bound x uses) y
bind-same tags.Subject us x y uses e = refl
bind-same tags.Function us x y uses e = refl
bind-same tags.Nothing us x y uses e = refl
bind-same tags.Mod1 us x y uses e = absurd (cc)
bind-same tags.Mod2 us x y uses e = absurd (cc)

tag-of : (y : Part) (behind : Behind) → ends_by (Standing (OfPart y)) behind ≡ true → is_no_modifier (tag y) ≡ true
tag-of y Asks e = absurd (cc)
tag-of y Draws e = e
tag-of y Else e = e

bound-same : (us : List Unit') (x : Part) (uses : List Use) (items : List Item) → ends_before items ≡ true
    → units_with (piece (row (unit_of x uses ∷ us) Free) Between) items ≡ units_with (piece (row us (Bound x uses)) Between) items
bound-same us x uses [] e = refl
bound-same us x uses (Drawn a ∷ items) e = refl
bound-same us x uses (Standing (OfPart y) ∷ items) e =
    at-same (row (unit_of x uses ∷ us) Free) (row us (Bound x uses)) y items (bind-same (tag y) us x y uses (tag-of y (behind_of items) e)) e
bound-same us x uses (Standing (OfList q) ∷ items) e = absurd (cc)
bound-same us x uses (Joining ∷ items) e = absurd (cc)
bound-same us x uses (Selecting ∷ items) e = absurd (cc)
bound-same us x uses (Wrong ∷ items) e = absurd (cc)

settled-same : (us : List Unit') (b : Binding) (items : List Item) → ends_before items ≡ true → units_with (piece (settled_by us b) Between) items ≡ units_with (piece (row us b) Between) items
settled-same us Free items e = refl
settled-same us (Bound x uses) items e = bound-same us x uses items e
settled-same us (Wanting x uses m) items e = refl

settled-then : (so : Option Row) (items : List Item) → ends_before items ≡ true
    → option_and_then (λ (n : Row). units_with (piece n Between) items) (option_map settled so) ≡ option_and_then (λ (n : Row). units_with (piece n Between) items) so
settled-then None items e = refl
settled-then (Some so) items e = settled-same so.units so.binding items e

pub units_if-plain-settled : (fine : Bool) (row next : Row) (y : Element) (items : List Item) → behind_of items ≡ Else → ends_before items ≡ true → when fine next ≡ option_map settled (with_term row (plain_term [] y))
    → units_if fine (piece next Between) items ≡ units_with (piece row Between) (Standing y ∷ items)
units_if-plain-settled fine row next y items e o f =
    units_if-row fine next (option_map settled (with_term row (plain_term [] y))) items f
    ∙ settled-then (with_term row (plain_term [] y)) items o
    ∙ plain-now row y items e

draws-end : (items : List Item) → behind_of items ≡ Draws → ends_before items ≡ true
draws-end (Drawn a ∷ items) e = refl
draws-end [] e = absurd (cc)
draws-end (Standing z ∷ items) e = absurd (cc)
draws-end (Wrong ∷ items) e = absurd (cc)
draws-end (Joining ∷ items) e = absurd (cc)
draws-end (Selecting ∷ items) e = absurd (cc)

pub units_if-aimed-settled : (fine : Bool) (row next : Row) (y : Element) (items : List Item) → behind_of items ≡ Draws → when fine next ≡ option_map settled (with_term row (aimed_term [] y))
    → units_if fine (piece next Between) items ≡ units_with (piece row Between) (Standing y ∷ items)
units_if-aimed-settled fine row next y items e f =
    units_if-row fine next (option_map settled (with_term row (aimed_term [] y))) items f
    ∙ settled-then (with_term row (aimed_term [] y)) items (draws-end items e)
    ∙ aimed-now row y items e

pub ruleset settled_laws = (units_if-plain-settled, units_if-aimed-settled)
