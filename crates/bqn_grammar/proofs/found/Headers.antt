-- The tokens that fit the signs of a well header are this header.
use Rattle.std.proofs.Common.{◌≡◌, Bool, true, false, List, [], ◌∷◌, ◌++◌, Option, Some, None, refl, sym, ap, ◌∙◌, subst}
use Rattle.std.specs.Option.{option_map, option_and_then}
use Rattle.bqn_base.specs.declared.role.Role.TheVariants as role
use Rattle.bqn_syntax.specs.declared.token.Special.TheVariants as special'
use Rattle.bqn_syntax.specs.declared.token.Token.{Token}
use Rattle.bqn_syntax.specs.declared.token.Kind.{Kind}
use Rattle.bqn_syntax.specs.declared.token.Kind.TheVariants as kind
use Rattle.bqn_syntax.specs.declared.sort.Sort.TheVariants.{Stands}
use Rattle.bqn_syntax.specs.declared.sort.Tag.{Tag}
use Rattle.bqn_syntax.specs.declared.sort.Tag.TheVariants as tag
use Rattle.bqn_syntax.specs.grammar.Sorts.{sort_of, is_name, token_named}
use Rattle.bqn_syntax.specs.grammar.Items.{Element, OfPart, OfList, Item, Standing, Joining, onto_first, group_pattern, groups, only_group}
use Rattle.bqn_syntax.specs.grammar.Headers.{open_list, lists, header_items, own_tag, lone_token, token_tag, group_tag, is_left_operand, is_right_operand, left_operand, outermost_name, outermost_pattern, header_pattern, is_left, is_right, special_or, left_argument, right_argument, with_right, function_form, operand_form, without_left, left_of, or_left, header_form, header_in}
use Rattle.bqn_syntax.specs.grammar.Spells.{Sign, Exact, Fits, done, token_signs, argument_signs, header_signs}
use Rattle.bqn_syntax.specs.grammar.Well.{IsLiteral, WellPattern, WellJoined, IsOutermost, IsArgument, special, pattern, ArgumentFits, OperandFits, SelfFits, SidesFit, WellHeader}
use Rattle.bqn_syntax.specs.grammar.Trees.{Pattern, Name, Skip, Literal, ListPattern, StrandPattern, Patterns, no_patterns, and_patterns, Header, Leaf, Nothing}
use Rattle.bqn_grammar.proofs.TreeItems.{part_item, pattern_items, joined_more_items}
use Rattle.bqn_grammar.proofs.found.Patterns.{pattern_element, pattern_elements, one_item, pattern_read}
use Rattle.bqn_grammar.proofs.found.HeaderItems.{having, Goes, goes_nowhere, goes_on, goes_token, pattern_goes}

-- The items of a header.

abbrev pub argument_items : Option Pattern → List Item
argument_items None = []
argument_items (Some q) = pattern_items q

abbrev token_items : Option Token → List Item
token_items None = []
token_items (Some t) = part_item (Leaf t) ∷ []

abbrev header_all : Header → List Item
header_all h = argument_items h.left ++ (token_items h.left_operand ++ ((part_item (Leaf h.own) ∷ []) ++ (token_items h.right_operand ++ argument_items h.right)))

-- a special name of arguments is a token that stands
abbrev Standing' : (Kind → Bool) → Type 0
Standing' f = (j : Kind) → f j ≡ true → sort_of j ≡ Stands

left_stands : Standing' is_left
left_stands (kind.Special s r) e = refl
left_stands _ e = absurd (cc)

right_stands : Standing' is_right
right_stands (kind.Special s r) e = refl
right_stands _ e = absurd (cc)

left_operand_stands : Standing' is_left_operand
left_operand_stands (kind.Special s r) e = refl
left_operand_stands (kind.Word n r) e = refl
left_operand_stands _ e = absurd (cc)

right_operand_stands : Standing' is_right_operand
right_operand_stands (kind.Special s r) e = refl
right_operand_stands (kind.Word n r) e = refl
right_operand_stands _ e = absurd (cc)

-- a tag of a block's own name
abbrev IsOwn : Tag → Type 0
IsOwn tag.Function = Unit {0}
IsOwn tag.Mod1 = Unit {0}
IsOwn tag.Mod2 = Unit {0}
IsOwn _ = ⊥

own_stands : (j : Kind) → IsOwn (own_tag j) → sort_of j ≡ Stands
own_stands (kind.Punct c) w = elim w [ ]
own_stands _ w = refl

fits_own : (g : Tag) (l r : Option Token) → SelfFits g l r → IsOwn g
fits_own tag.Function l r w = tt
fits_own tag.Mod1 l r w = tt
fits_own tag.Mod2 l r w = tt
fits_own tag.Subject l r w = elim w [ ]
fits_own tag.Nothing l r w = elim w [ ]

-- operands that there are fit
abbrev MayFit : (Kind → Bool) → Option Token → Type 0
MayFit f None = Unit {0}
MayFit f (Some t) = f t.kind ≡ true

may_fit : (f : Kind → Bool) (o : Option Token) → OperandFits f o → MayFit f o
may_fit f None w = elim w [ ]
may_fit f (Some t) w = w

fits_left : (g : Tag) (l r : Option Token) → SelfFits g l r → MayFit is_left_operand l
fits_left tag.Function None None w = tt
fits_left tag.Function None (Some r) w = elim w [ ]
fits_left tag.Function (Some l) r w = elim w [ ]
fits_left tag.Mod1 l None w = may_fit is_left_operand l w
fits_left tag.Mod1 l (Some r) w = elim w [ ]
fits_left tag.Mod2 l r w = may_fit is_left_operand l w.0
fits_left tag.Subject l r w = elim w [ ]
fits_left tag.Nothing l r w = elim w [ ]

fits_right : (g : Tag) (l r : Option Token) → SelfFits g l r → MayFit is_right_operand r
fits_right tag.Function None None w = tt
fits_right tag.Function None (Some r) w = elim w [ ]
fits_right tag.Function (Some l) r w = elim w [ ]
fits_right tag.Mod1 l None w = tt
fits_right tag.Mod1 l (Some r) w = elim w [ ]
fits_right tag.Mod2 l r w = may_fit is_right_operand r w.1
fits_right tag.Subject l r w = elim w [ ]
fits_right tag.Nothing l r w = elim w [ ]

argument_goes : (f : Kind → Bool) (o : Option Pattern) (so : _) (k : List Sign) (ts : List Token) → Standing' f → ArgumentFits f o → Fits (argument_signs o k) ts → Goes so (argument_items o) k ts
argument_goes f None so k ts s w g = goes_nowhere so k ts g
argument_goes f (Some q) so k ts s (pattern o w) g = pattern_goes q so k ts w g
argument_goes f (Some q) so k ts s (special {t = t} e) g = goes_token so t k ts (s t.kind e) g

operand_goes : (f : Kind → Bool) (o : Option Token) (so : _) (k : List Sign) (ts : List Token) → Standing' f → MayFit f o → Fits (token_signs o k) ts → Goes so (token_items o) k ts
operand_goes f None so k ts s w g = goes_nowhere so k ts g
operand_goes f (Some t) so k ts s w g = goes_token so t k ts (s t.kind w) g

none_left : (rest : List Token) → Fits [] rest → rest ≡ []
none_left rest done = refl

header_goes : (h : Header) → WellHeader h → (ts : List Token) → Fits (header_signs h []) ts → header_items (lists open_list []) ts ≡ Some (header_all h)
header_goes h w ts f =
    let so = lists open_list [] in
    let g = own_tag h.own.kind in
    let a : Goes so (header_all h) [] ts =
    goes_on (argument_goes is_left h.left so (token_signs h.left_operand (Exact h.own ∷ token_signs h.right_operand (argument_signs h.right []))) ts left_stands w.left f) (λ r1 f1.
    goes_on (operand_goes is_left_operand h.left_operand (having so (argument_items h.left)) (Exact h.own ∷ token_signs h.right_operand (argument_signs h.right [])) r1 left_operand_stands (fits_left g h.left_operand h.right_operand w.self) f1) (λ r2 f2.
    goes_on (goes_token (having (having so (argument_items h.left)) (token_items h.left_operand)) h.own (token_signs h.right_operand (argument_signs h.right [])) r2 (own_stands h.own.kind (fits_own g h.left_operand h.right_operand w.self)) f2) (λ r3 f3.
    goes_on (operand_goes is_right_operand h.right_operand (having (having (having so (argument_items h.left)) (token_items h.left_operand)) (part_item (Leaf h.own) ∷ [])) (argument_signs h.right []) r3 right_operand_stands (fits_right g h.left_operand h.right_operand w.self) f3) (λ r4 f4.
    argument_goes is_right h.right (having (having (having (having so (argument_items h.left)) (token_items h.left_operand)) (part_item (Leaf h.own) ∷ [])) (token_items h.right_operand)) [] r4 right_stands w.right f4)))) in
    a.goes ∙ ap (λ (l : List Token). header_items (having so (header_all h)) l) (none_left a.rest a.fits)

-- The groups of a header.

abbrev pattern_group : Pattern → List Element
pattern_group (StrandPattern qs) = pattern_elements qs
pattern_group q = pattern_element q ∷ []

abbrev argument_groups : Option Pattern → List (List Element) → List (List Element)
argument_groups None gs = gs
argument_groups (Some q) gs = pattern_group q ∷ gs

abbrev leaf_group : Token → List Element
leaf_group t = OfPart (Leaf t) ∷ []

abbrev token_groups : Option Token → List (List Element) → List (List Element)
token_groups None gs = gs
token_groups (Some t) gs = leaf_group t ∷ gs

abbrev self_groups : Header → List (List Element)
self_groups h = token_groups h.left_operand (leaf_group h.own ∷ token_groups h.right_operand (argument_groups h.right []))

-- items that no joiner begins
abbrev NoJoiner : List Item → Type 0
NoJoiner (Joining ∷ is) = ⊥
NoJoiner _ = Unit {0}

abbrev with_group : List Element → Option (List (List Element)) → Option (List (List Element))
with_group g o = option_map (λ (gs : List (List Element)). g ∷ gs) o

alone : (x : Element) (rest : List Item) → NoJoiner rest → groups (Standing x ∷ rest) ≡ with_group (x ∷ []) (groups rest)
alone x [] n = refl
alone x (Joining ∷ is) n = elim n [ ]
alone x _ n = refl

onto : (x : Element) (g : List Element) (o : Option (List (List Element))) → onto_first x (with_group g o) ≡ with_group (x ∷ g) o
onto x g None = refl
onto x g (Some gs) = refl

more_groups : (x : Element) (qs : Patterns) (rest : List Item) → WellJoined true qs → NoJoiner rest → groups (Standing x ∷ (joined_more_items qs ++ rest)) ≡ with_group (x ∷ pattern_elements qs) (groups rest)
more_groups x no_patterns rest w n = alone x rest n
more_groups x (and_patterns q qs) rest w n =
    ap (λ (l : List Item). onto_first x (groups (l ++ rest))) (ap (λ (l : List Item). l ++ joined_more_items qs) (one_item q w.0))
    ∙ ap (λ (o : Option (List (List Element))). onto_first x o) (more_groups (pattern_element q) qs rest w.2 n)
    ∙ onto x (pattern_element q ∷ pattern_elements qs) (groups rest)

pattern_grouped : (q : Pattern) (rest : List Item) → WellPattern true q → NoJoiner rest → groups (pattern_items q ++ rest) ≡ with_group (pattern_group q) (groups rest)
pattern_grouped (Name t) rest w n = alone (OfPart (Leaf t)) rest n
pattern_grouped (Skip place) rest w n = alone (OfPart (Nothing place)) rest n
pattern_grouped (Literal t) rest w n = alone (OfPart (Leaf t)) rest n
pattern_grouped (ListPattern qs) rest w n = alone (OfList (ListPattern qs)) rest n
pattern_grouped (StrandPattern no_patterns) rest w n = elim w.0 [ ]
pattern_grouped (StrandPattern (and_patterns q qs)) rest w n =
    ap (λ (l : List Item). groups ((l ++ joined_more_items qs) ++ rest)) (one_item q w.1.0)
    ∙ more_groups (pattern_element q) qs rest w.1.2 n

argument_grouped : (f : Kind → Bool) (o : Option Pattern) (rest : List Item) (gs : List (List Element)) → ArgumentFits f o → NoJoiner rest → groups rest ≡ Some gs → groups (argument_items o ++ rest) ≡ Some (argument_groups o gs)
argument_grouped f None rest gs w n e = e
argument_grouped f (Some q) rest gs (pattern o w) n e = pattern_grouped q rest w n ∙ ap (λ (o : Option (List (List Element))). with_group (pattern_group q) o) e
argument_grouped f (Some q) rest gs (special {t = t} s) n e = alone (OfPart (Leaf t)) rest n ∙ ap (λ (o : Option (List (List Element))). with_group (leaf_group t) o) e

operand_grouped : (o : Option Token) (rest : List Item) (gs : List (List Element)) → NoJoiner rest → groups rest ≡ Some gs → groups (token_items o ++ rest) ≡ Some (token_groups o gs)
operand_grouped None rest gs n e = e
operand_grouped (Some t) rest gs n e = alone (OfPart (Leaf t)) rest n ∙ ap (λ (o : Option (List (List Element))). with_group (leaf_group t) o) e

-- no part begins with a joiner
pattern_no_joiner : (q : Pattern) → WellPattern true q → NoJoiner (pattern_items q)
pattern_no_joiner (Name t) w = tt
pattern_no_joiner (Skip place) w = tt
pattern_no_joiner (Literal t) w = tt
pattern_no_joiner (ListPattern qs) w = tt
pattern_no_joiner (StrandPattern no_patterns) w = elim w.0 [ ]
pattern_no_joiner (StrandPattern (and_patterns q qs)) w = subst (λ (l : List Item). NoJoiner (l ++ joined_more_items qs)) (sym (one_item q w.1.0)) tt

argument_no_joiner : (f : Kind → Bool) (o : Option Pattern) → ArgumentFits f o → NoJoiner (argument_items o)
argument_no_joiner f None w = tt
argument_no_joiner f (Some q) (pattern o w) = pattern_no_joiner q w
argument_no_joiner f (Some q) (special e) = tt

operand_no_joiner : (o : Option Token) (rest : List Item) → NoJoiner rest → NoJoiner (token_items o ++ rest)
operand_no_joiner None rest n = n
operand_no_joiner (Some t) rest n = tt

nil_more : (all : List Item) → all ++ [] ≡ all
nil_more [] = refl
nil_more (x ∷ xs) = ap (λ (y : List Item). x ∷ y) (nil_more xs)

header_grouped : (h : Header) → WellHeader h → groups (header_all h) ≡ Some (argument_groups h.left (self_groups h))
header_grouped h w =
    let right = argument_items h.right in
    let a : groups right ≡ Some (argument_groups h.right []) = ap groups (sym (nil_more right)) ∙ argument_grouped is_right h.right [] [] w.right tt refl in
    let n : NoJoiner right = argument_no_joiner is_right h.right w.right in
    let b : groups (token_items h.right_operand ++ right) ≡ Some (token_groups h.right_operand (argument_groups h.right [])) = operand_grouped h.right_operand right (argument_groups h.right []) n a in
    let m : NoJoiner (token_items h.right_operand ++ right) = operand_no_joiner h.right_operand right n in
    let own = part_item (Leaf h.own) ∷ (token_items h.right_operand ++ right) in
    let c : groups own ≡ Some (leaf_group h.own ∷ token_groups h.right_operand (argument_groups h.right [])) = operand_grouped (Some h.own) (token_items h.right_operand ++ right) (token_groups h.right_operand (argument_groups h.right [])) m b in
    let d : groups (token_items h.left_operand ++ own) ≡ Some (self_groups h) = operand_grouped h.left_operand own (leaf_group h.own ∷ token_groups h.right_operand (argument_groups h.right [])) tt c in
    argument_grouped is_left h.left (token_items h.left_operand ++ own) (self_groups h) w.left (operand_no_joiner h.left_operand own tt) d

-- Arguments.

group_read : (q : Pattern) → WellPattern true q → group_pattern true (pattern_group q) ≡ Some q
group_read q w =
    let e : groups (pattern_items q) ≡ Some (pattern_group q ∷ []) = ap groups (sym (nil_more (pattern_items q))) ∙ pattern_grouped q [] w tt in
    sym (ap (λ (o : Option (List (List Element))). option_and_then (only_group true) o) e) ∙ pattern_read true q w

name_outermost : (j : Kind) (q : Pattern) → is_name tag.Subject j ≡ true → outermost_name j q ≡ Some q
name_outermost (kind.Word n role.Subject) q e = refl
name_outermost _ q e = absurd (cc)

outermost_read : (q : Pattern) → IsOutermost q → outermost_pattern q ≡ Some q
outermost_read (Name t) w = name_outermost t.kind (Name t) w
outermost_read _ w = refl

header_pattern_read : (q : Pattern) → IsOutermost q → WellPattern true q → header_pattern (pattern_group q) ≡ Some q
header_pattern_read q o w = ap (λ (p : Option Pattern). option_and_then outermost_pattern p) (group_read q w) ∙ outermost_read q o

-- `left_argument` and `right_argument` alike
abbrev argument : (Kind → Bool) → List Element → Option Pattern
argument f (OfPart (Leaf t) ∷ []) = special_or (f t.kind) t (OfPart (Leaf t) ∷ [])
argument f group = header_pattern group

left_is : (group : List Element) → left_argument group ≡ argument is_left group
left_is (OfPart (Leaf t) ∷ []) = refl
left_is _ = refl

right_is : (group : List Element) → right_argument group ≡ argument is_right group
right_is (OfPart (Leaf t) ∷ []) = refl
right_is _ = refl

argument_many : (f : Kind → Bool) (a b : Element) (rest : List Element) → argument f (a ∷ b ∷ rest) ≡ header_pattern (a ∷ b ∷ rest)
argument_many f (OfPart (Leaf t)) b rest = refl
argument_many f _ b rest = refl

abbrev NoLiteral : (Kind → Bool) → Type 0
NoLiteral f = (j : Kind) → IsLiteral j → f j ≡ false

left_literal : NoLiteral is_left
left_literal (kind.Special s r) w = elim w [ ]
left_literal _ w = refl

right_literal : NoLiteral is_right
right_literal (kind.Special s r) w = elim w [ ]
right_literal _ w = refl

name_or : (b : Bool) (t : Token) → header_pattern (leaf_group t) ≡ Some (Name t) → special_or b t (leaf_group t) ≡ Some (Name t)
name_or true t e = refl
name_or false t e = e

argument_read : (f : Kind → Bool) → NoLiteral f → (q : Pattern) → IsArgument f q → argument f (pattern_group q) ≡ Some q
argument_read f n q (special {t = t} e) = ap (λ (b : Bool). special_or b t (leaf_group t)) e
argument_read f n (Name t) (pattern o w) = name_or (f t.kind) t (header_pattern_read (Name t) o w)
argument_read f n (Literal t) (pattern o w) = ap (λ (b : Bool). special_or b t (leaf_group t)) (n t.kind w.1) ∙ header_pattern_read (Literal t) o w
argument_read f n (Skip place) (pattern o w) = header_pattern_read (Skip place) o w
argument_read f n (ListPattern qs) (pattern o w) = header_pattern_read (ListPattern qs) o w
argument_read f n (StrandPattern no_patterns) (pattern o w) = elim w.0 [ ]
argument_read f n (StrandPattern (and_patterns q no_patterns)) (pattern o w) = elim w.0 [ ]
argument_read f n (StrandPattern (and_patterns q (and_patterns r qs))) (pattern o w) = argument_many f (pattern_element q) (pattern_element r) (pattern_elements qs) ∙ header_pattern_read (StrandPattern (and_patterns q (and_patterns r qs))) o w

-- Tags.

-- no block's own name
abbrev NoSelf : Tag → Type 0
NoSelf tag.Subject = Unit {0}
NoSelf tag.Nothing = Unit {0}
NoSelf _ = ⊥

abbrev NoModifier : Tag → Type 0
NoModifier tag.Mod1 = ⊥
NoModifier tag.Mod2 = ⊥
NoModifier _ = Unit {0}

no_modifier : (g : Tag) → NoSelf g → NoModifier g
no_modifier tag.Subject w = tt
no_modifier tag.Nothing w = tt
no_modifier tag.Function w = tt
no_modifier tag.Mod1 w = w
no_modifier tag.Mod2 w = w

abbrev SelflessNames : (Kind → Bool) → Type 0
SelflessNames f = (j : Kind) → f j ≡ true → NoSelf (own_tag j)

left_selfless : SelflessNames is_left
left_selfless (kind.Special special'.Left role.Subject) e = tt
left_selfless _ e = absurd (cc)

right_selfless : SelflessNames is_right
right_selfless (kind.Special special'.Right role.Subject) e = tt
right_selfless _ e = absurd (cc)

name_selfless : SelflessNames (is_name tag.Subject)
name_selfless (kind.Word n role.Subject) e = tt
name_selfless _ e = absurd (cc)

literal_selfless : (j : Kind) → IsLiteral j → NoSelf (own_tag j)
literal_selfless (kind.Number z) w = tt
literal_selfless (kind.Char c) w = tt
literal_selfless (kind.Text s) w = tt
literal_selfless _ w = elim w [ ]

lone_many : (a b : Element) (rest : List Element) → lone_token (a ∷ b ∷ rest) ≡ None
lone_many (OfPart (Leaf t)) b rest = refl
lone_many _ b rest = refl

argument_selfless : (f : Kind → Bool) → SelflessNames f → (q : Pattern) → IsArgument f q → NoSelf (group_tag (pattern_group q))
argument_selfless f n q (special {t = t} e) = n t.kind e
argument_selfless f n (Name t) (pattern o w) = name_selfless t.kind o
argument_selfless f n (Literal t) (pattern o w) = literal_selfless t.kind w.1
argument_selfless f n (Skip place) (pattern o w) = tt
argument_selfless f n (ListPattern qs) (pattern o w) = tt
argument_selfless f n (StrandPattern no_patterns) (pattern o w) = elim w.0 [ ]
argument_selfless f n (StrandPattern (and_patterns q no_patterns)) (pattern o w) = elim w.0 [ ]
argument_selfless f n (StrandPattern (and_patterns q (and_patterns r qs))) (pattern o w) = subst (λ (l : Option Token). NoSelf (token_tag l)) (sym (lone_many (pattern_element q) (pattern_element r) (pattern_elements qs))) tt

operand_no_modifier : (j : Kind) → is_left_operand j ≡ true → NoModifier (own_tag j)
operand_no_modifier (kind.Special special'.LeftOperand r) e = tt
operand_no_modifier (kind.Word n role.Subject) e = tt
operand_no_modifier (kind.Word n role.Function) e = tt
operand_no_modifier _ e = absurd (cc)

-- The form of a header.

other_form : (g : Tag) → NoModifier g → (l : Option Token) (own : List Element) (rest : List (List Element)) (other : Option Header) → operand_form g l own rest other ≡ other
other_form tag.Mod1 w l own rest other = elim w [ ]
other_form tag.Mod2 w l own rest other = elim w [ ]
other_form _ w l own rest other = refl

no_form : (g : Tag) → NoSelf g → (own : List Element) (rest : List (List Element)) → function_form g own rest ≡ None
no_form tag.Function w own rest = elim w [ ]
no_form _ w own rest = refl

abbrev made : Option Pattern → Option Token → Token → Option Token → Option Pattern → Header
made left l own r right = record { left = left; left_operand = l; own = own; right_operand = r; right = right }

right_read : (l : Option Token) (own : Token) (r : Option Token) (right : Option Pattern) → ArgumentFits is_right right → with_right l (Some own) r (argument_groups right []) ≡ Some (made None l own r right)
right_read l own r None w = refl
right_read l own r (Some q) w = ap (λ (o : Option Pattern). option_map (λ (p : Pattern). made None l own r (Some p)) o) (right_is (pattern_group q) ∙ argument_read is_right right_literal q w)

self_read : (g : Tag) (l : Option Token) (own : Token) (r : Option Token) (right : Option Pattern) → own_tag own.kind ≡ g → SelfFits g l r → ArgumentFits is_right right → without_left (token_groups l (leaf_group own ∷ token_groups r (argument_groups right []))) ≡ Some (made None l own r right)
self_read tag.Function None own None None e w a = ap (λ (x : Tag). function_form x (leaf_group own) []) e
self_read tag.Function None own None (Some q) e w a =
    other_form (group_tag (pattern_group q)) (no_modifier (group_tag (pattern_group q)) (argument_selfless is_right right_selfless q a)) (left_operand (leaf_group own)) (pattern_group q) [] (function_form (group_tag (leaf_group own)) (leaf_group own) (pattern_group q ∷ []))
    ∙ ap (λ (x : Tag). function_form x (leaf_group own) (pattern_group q ∷ [])) e
    ∙ right_read None own None (Some q) a
self_read tag.Function None own (Some r) right e w a = elim w [ ]
self_read tag.Function (Some l) own r right e w a = elim w [ ]
self_read tag.Mod1 None own None right e w a = elim w [ ]
self_read tag.Mod1 None own (Some r) right e w a = elim w [ ]
self_read tag.Mod1 (Some l) own (Some r) right e w a = elim w [ ]
self_read tag.Mod1 (Some l) own None right e w a =
    let rest = argument_groups right [] in
    let other = function_form (group_tag (leaf_group l)) (leaf_group l) (leaf_group own ∷ rest) in
    ap (λ (x : Tag). operand_form x (left_operand (leaf_group l)) (leaf_group own) rest other) e
    ∙ ap (λ (b : Bool). operand_form tag.Mod1 (token_named b l) (leaf_group own) rest other) w
    ∙ right_read (Some l) own None right a
self_read tag.Mod2 None own r right e w a = elim w.0 [ ]
self_read tag.Mod2 (Some l) own None right e w a = elim w.1 [ ]
self_read tag.Mod2 (Some l) own (Some r) right e w a =
    let rest = argument_groups right [] in
    let other = function_form (group_tag (leaf_group l)) (leaf_group l) (leaf_group own ∷ leaf_group r ∷ rest) in
    ap (λ (x : Tag). operand_form x (left_operand (leaf_group l)) (leaf_group own) (leaf_group r ∷ rest) other) e
    ∙ ap (λ (b : Bool). operand_form tag.Mod2 (token_named b l) (leaf_group own) (leaf_group r ∷ rest) other) w.0
    ∙ ap (λ (b : Bool). option_and_then (λ (x : Token). with_right (Some l) (Some own) (Some x) rest) (token_named b r)) w.1
    ∙ right_read (Some l) own (Some r) right a
self_read tag.Subject l own r right e w a = elim w [ ]
self_read tag.Nothing l own r right e w a = elim w [ ]

-- a left argument begins no header without one
none_from : (p : List Element) (y : Token) (rest : List (List Element)) → NoSelf (group_tag p) → NoModifier (own_tag y.kind) → without_left (p ∷ leaf_group y ∷ rest) ≡ None
none_from p y rest n m =
    other_form (own_tag y.kind) m (left_operand p) (leaf_group y) rest (function_form (group_tag p) p (leaf_group y ∷ rest))
    ∙ no_form (group_tag p) n p (leaf_group y ∷ rest)

none_without : (p : List Element) (g : Tag) (l : Option Token) (own : Token) (r : Option Token) (rest : List (List Element)) → NoSelf (group_tag p) → own_tag own.kind ≡ g → SelfFits g l r → without_left (p ∷ token_groups l (leaf_group own ∷ token_groups r rest)) ≡ None
none_without p tag.Function None own None rest n e w = none_from p own rest n (subst NoModifier (sym e) tt)
none_without p tag.Function None own (Some r) rest n e w = elim w [ ]
none_without p tag.Function (Some l) own r rest n e w = elim w [ ]
none_without p tag.Mod1 None own None rest n e w = elim w [ ]
none_without p tag.Mod1 None own (Some r) rest n e w = elim w [ ]
none_without p tag.Mod1 (Some l) own (Some r) rest n e w = elim w [ ]
none_without p tag.Mod1 (Some l) own None rest n e w = none_from p l (leaf_group own ∷ rest) n (operand_no_modifier l.kind w)
none_without p tag.Mod2 None own r rest n e w = elim w.0 [ ]
none_without p tag.Mod2 (Some l) own r rest n e w = none_from p l (leaf_group own ∷ token_groups r rest) n (operand_no_modifier l.kind w.0)
none_without p tag.Subject l own r rest n e w = elim w [ ]
none_without p tag.Nothing l own r rest n e w = elim w [ ]

form_read : (left : Option Pattern) (l : Option Token) (own : Token) (r : Option Token) (right : Option Pattern) → SelfFits (own_tag own.kind) l r → SidesFit left right → ArgumentFits is_left left → ArgumentFits is_right right → header_form (argument_groups left (token_groups l (leaf_group own ∷ token_groups r (argument_groups right [])))) ≡ Some (made left l own r right)
form_read None l own r right w s a b =
    let gs = token_groups l (leaf_group own ∷ token_groups r (argument_groups right [])) in
    ap (λ (o : Option Header). or_left o gs) (self_read (own_tag own.kind) l own r right refl w b)
form_read (Some p) l own r None w s a b = elim s [ ]
form_read (Some p) l own r (Some q) w s a b =
    let gs = token_groups l (leaf_group own ∷ token_groups r (pattern_group q ∷ [])) in
    ap (λ (o : Option Header). or_left o (pattern_group p ∷ gs)) (none_without (pattern_group p) (own_tag own.kind) l own r (pattern_group q ∷ []) (argument_selfless is_left left_selfless p a) refl w)
    ∙ ap (λ (o : Option Pattern). option_and_then (λ (x : Pattern). option_and_then (left_of x) (without_left gs)) o) (left_is (pattern_group p) ∙ argument_read is_left left_literal p a)
    ∙ ap (λ (o : Option Header). option_and_then (left_of p) o) (self_read (own_tag own.kind) l own r (Some q) refl w b)

pub header_found : (h : Header) → WellHeader h → (piece : List Token) → Fits (header_signs h []) piece → header_in piece ≡ Some h
header_found h w piece f =
    ap (λ (o : Option (List Item)). option_and_then header_form (option_and_then groups o)) (header_goes h w piece f)
    ∙ ap (λ (o : Option (List (List Element))). option_and_then header_form o) (header_grouped h w)
    ∙ form_read h.left h.left_operand h.own h.right_operand h.right w.self w.sides w.left w.right
