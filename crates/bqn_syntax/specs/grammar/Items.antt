-- The items of a piece, each bracket group standing as one, and the strands and fields that they join to:
-- BQN's page on grammar.
use Rattle.std.specs.Prelude.{Bool, true, false, List, [], ◌∷◌, ◌++◌, Option, Some, None}
use Rattle.std.specs.Option.{option_map, option_and_then}
use Rattle.bqn_syntax.specs.declared.token.Kind.{Kind}
use Rattle.bqn_syntax.specs.declared.token.Kind.TheVariants as kind
use Rattle.bqn_syntax.specs.declared.token.Token.{Token}
use Rattle.bqn_syntax.specs.declared.tree.Arrow.{Arrow}
use Rattle.bqn_syntax.specs.declared.sort.Tag.TheVariants.{Subject}
use Rattle.bqn_syntax.specs.grammar.Sorts.{tag, same_tag, is_word}
use Rattle.bqn_syntax.specs.grammar.Trees.{Pattern, Name, Skip, Literal, StrandPattern, patterns, Part, Leaf, Elements, Field, Strand, Nothing, parts}

-- a part, or a list that is a pattern
pub data Element : Type 0 where
  OfPart : Part → Element
  OfList : Pattern → Element

-- `Wrong` is a separator, `;`, `:` or `?` where it fits nowhere
pub data Item : Type 0 where
  Standing : Element → Item
  Drawn : Arrow → Item
  Joining Selecting Wrong : Item

-- every element has a result, and these are they
abbrev pub both : {A : Type 0} → Option A → Option (List A) → Option (List A)
both (Some x) (Some xs) = Some (x ∷ xs)
both _ _ = None

abbrev pub each : {A B : Type 0} → (A → Option B) → List A → Option (List B)
each f [] = Some []
each f (x ∷ xs) = both (f x) (each f xs)

-- Patterns.

-- a name, or a literal where there may be some
abbrev pub leaf_pattern : Bool → Kind → Token → Option Pattern
leaf_pattern literals (kind.Word name r) t = Some (Name t)
leaf_pattern true (kind.Number z) t = Some (Literal t)
leaf_pattern true (kind.Char c) t = Some (Literal t)
leaf_pattern true (kind.Text s) t = Some (Literal t)
leaf_pattern _ _ t = None

abbrev pub element_pattern : Bool → Element → Option Pattern
element_pattern literals (OfPart (Leaf t)) = leaf_pattern literals t.kind t
element_pattern literals (OfPart (Nothing place)) = Some (Skip place)
element_pattern literals (OfList q) = Some q
element_pattern literals _ = None

-- one element, or several that are a strand
abbrev pub group_pattern : Bool → List Element → Option Pattern
group_pattern literals [] = None
group_pattern literals (x ∷ []) = element_pattern literals x
group_pattern literals (x ∷ y ∷ xs) = option_map (λ qs. StrandPattern (patterns qs)) (each (element_pattern literals) (x ∷ y ∷ xs))

abbrev pub onto_first : Element → Option (List (List Element)) → Option (List (List Element))
onto_first x (Some (group ∷ groups)) = Some ((x ∷ group) ∷ groups)
onto_first x _ = None

-- elements and joiners alone, as groups of joined elements
abbrev pub groups : List Item → Option (List (List Element))
groups [] = Some []
groups (Standing x ∷ Joining ∷ items) = onto_first x (groups items)
groups (Standing x ∷ items) = option_map (λ gs. (x ∷ []) ∷ gs) (groups items)
groups _ = None

abbrev pub only_group : Bool → List (List Element) → Option Pattern
only_group literals (group ∷ []) = group_pattern literals group
only_group literals _ = None

-- the pattern that a piece is
abbrev pub piece_pattern : Bool → List Item → Option Pattern
piece_pattern literals items = option_and_then (only_group literals) (groups items)

-- Strands and fields of an expression.

-- a part, a target that is no name, or an arrow
pub data Term : Type 0 where
  Operand : Part → Term
  Target : Pattern → Term
  Draw : Arrow → Term

-- `·` is no element of a strand
abbrev pub element_part : Element → Option Part
element_part (OfPart (Nothing place)) = None
element_part (OfPart x) = Some x
element_part (OfList q) = None

-- an element where no arrow follows, after those that are joined to it
abbrev pub plain_term : List Element → Element → Option Term
plain_term [] (OfPart x) = Some (Operand x)
plain_term [] (OfList q) = None
plain_term (y ∷ ys) x = option_map (λ ps. Operand (Strand (parts ps))) (each element_part (y ∷ (ys ++ x ∷ [])))

-- an element directly before an arrow: a list or a strand there is a pattern
abbrev pub aimed_term : List Element → Element → Option Term
aimed_term [] (OfPart (Elements es)) = None
aimed_term [] (OfPart x) = Some (Operand x)
aimed_term [] (OfList q) = Some (Target q)
aimed_term (y ∷ ys) x = option_map (λ qs. Target (StrandPattern (patterns qs))) (each (element_pattern false) (y ∷ (ys ++ x ∷ [])))

-- what is being read: nothing; an element, after those that are joined to it; what a joiner or a dot asks for
pub data Reading : Type 0 where
  Between : Reading
  At : List Element → Element → Reading
  Joined : List Element → Reading
  Selected : List Element → Part → Reading

pub record Terms : Type 0 where
  pub terms : List Term
  pub reading : Reading

abbrev pub reads : List Term → Reading → Terms
reads terms reading = record { terms = terms; reading = reading }

abbrev pub plain_terms : List Term → Reading → Option (List Term)
plain_terms terms Between = Some terms
plain_terms terms (At joined x) = option_map (λ term. terms ++ term ∷ []) (plain_term joined x)
plain_terms terms _ = None

abbrev pub aimed_terms : List Term → Reading → Option (List Term)
aimed_terms terms Between = Some terms
aimed_terms terms (At joined x) = option_map (λ term. terms ++ term ∷ []) (aimed_term joined x)
aimed_terms terms _ = None

-- one more name after a part
abbrev pub with_name : Part → Token → Part
with_name (Field base names) t = Field base (names ++ t ∷ [])
with_name x t = Field x (t ∷ [])

abbrev pub selected : Bool → List Term → List Element → Part → Token → Option Terms
selected true terms joined x t = Some (reads terms (At joined (OfPart (with_name x t))))
selected false terms joined x t = None

abbrev pub stand : List Term → Reading → Element → Option Terms
stand terms Between y = Some (reads terms (At [] y))
stand terms (At joined x) y = option_map (λ term. reads (terms ++ term ∷ []) (At [] y)) (plain_term joined x)
stand terms (Joined joined) y = Some (reads terms (At joined y))
stand terms (Selected joined x) (OfPart (Leaf t)) = selected (is_word t.kind) terms joined x t
stand terms (Selected joined x) _ = None

abbrev pub join : List Term → Reading → Option Terms
join terms (At joined x) = Some (reads terms (Joined (joined ++ x ∷ [])))
join terms _ = None

-- a field is one of a subject
abbrev pub select_of : Bool → List Term → List Element → Part → Option Terms
select_of true terms joined x = Some (reads terms (Selected joined x))
select_of false terms joined x = None

abbrev pub select : List Term → Reading → Option Terms
select terms (At joined (OfPart x)) = select_of (same_tag Subject (tag x)) terms joined x
select terms _ = None

-- one more item
abbrev pub put : Terms → Item → Option Terms
put so (Standing x) = stand so.terms so.reading x
put so (Drawn arrow) = option_map (λ terms. reads (terms ++ Draw arrow ∷ []) Between) (aimed_terms so.terms so.reading)
put so Joining = join so.terms so.reading
put so Selecting = select so.terms so.reading
put so Wrong = None

abbrev pub puts : Terms → List Item → Option Terms
puts so [] = Some so
puts so (item ∷ items) = option_and_then (λ next. puts next items) (put so item)

abbrev pub finished : Terms → Option (List Term)
finished so = plain_terms so.terms so.reading

-- the terms of a piece, each strand and each field being one
abbrev pub terms_of : List Item → Option (List Term)
terms_of items = option_and_then finished (puts (reads [] Between) items)
