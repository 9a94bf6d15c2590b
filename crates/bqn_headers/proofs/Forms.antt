-- The forms of a header.
use Rattle.std.proofs.Common.{◌≡◌, ◌≤◌, ◌<◌, ℕ, suc, List, [], ◌∷◌, Bool, true, false, Option, Some, None, length, map, slice_get, refl, sym, ap, ◌∙◌, arith, subst, ◌⊎◌, inl, inr}
use Rattle.std.specs.Prelude.{not}
use Rattle.std.specs.Option.{option_map, option_and_then}
use Rattle.bqn_base.specs.declared.role.Role.{Role}
use Rattle.bqn_base.specs.declared.role.Role.TheVariants as role
use Rattle.bqn_syntax.specs.declared.token.Special.TheVariants as special
use Rattle.bqn_syntax.specs.declared.token.Kind.{Kind}
use Rattle.bqn_syntax.specs.declared.token.Kind.TheVariants as kind
use Rattle.bqn_syntax.specs.declared.token.Token.{Token}
use Rattle.bqn_syntax.specs.declared.sort.Tag.{Tag}
use Rattle.bqn_syntax.specs.declared.sort.Tag.TheVariants as tag
use Rattle.bqn_syntax.specs.grammar.Sorts.{is_name, token_named}
use Rattle.bqn_syntax.specs.grammar.Trees.{Pattern, Name, Skip, Literal, ListPattern, StrandPattern, Header, Part, Leaf, Nothing, Elements, Merge, Paren, Block, Field, Strand}
use Rattle.bqn_syntax.specs.grammar.Items as items
use Rattle.bqn_syntax.specs.grammar.Items.{OfPart, OfList}
use Rattle.bqn_syntax.specs.grammar.Headers.{own_tag, lone_token, token_tag, group_tag, is_left, is_right, is_left_operand, left_operand, outermost_name, outermost_pattern, header_pattern, left_argument, right_argument, special_or, with_right, function_form, operand_form, without_left, left_of, with_left, or_left, header_form}
use Rattle.bqn_headers.specs.declared.element.Element.{Element}
use Rattle.bqn_headers.specs.Elements.{element_shown, group_shown, groups_shown}
use Rattle.bqn_headers.specs.Queues.{only}
use Rattle.bqn_headers.specs.Forms.{token_is, lone_is, stands_outermost, mod1_form, mod2_form, first_tag, is_modifier, follow_left}

-- One token.

pub lone-some : (g : List Element) (x : Element) → Some x ≡ only g → lone_token (group_shown g) ≡ lone_token (element_shown x ∷ [])
lone-some [] x e = absurd (let p : Some x ≡ None = e in cc)
lone-some (y ∷ []) x e = let p : Some x ≡ Some y = e in ap (λ (z : Element). lone_token (element_shown z ∷ [])) (let q : y ≡ x = cc in q)
lone-some (y ∷ z ∷ g) x e = absurd (let p : Some x ≡ None = e in cc)

lone-two : (x y : items.Element) (g : List items.Element) → lone_token (x ∷ y ∷ g) ≡ None
lone-two (OfPart (Leaf t)) y g = refl
lone-two (OfPart (Elements es)) y g = refl
lone-two (OfPart (Merge es)) y g = refl
lone-two (OfPart (Paren e)) y g = refl
lone-two (OfPart (Block b)) y g = refl
lone-two (OfPart (Field base names)) y g = refl
lone-two (OfPart (Strand ps)) y g = refl
lone-two (OfPart (Nothing place)) y g = refl
lone-two (OfList q) y g = refl

pub lone-none : (g : List Element) → None ≡ only g → lone_token (group_shown g) ≡ None
lone-none [] e = refl
lone-none (y ∷ []) e = absurd (let p : None ≡ Some y = e in cc)
lone-none (y ∷ z ∷ g) e = lone-two (element_shown y) (element_shown z) (group_shown g)

pub ruleset lone_laws = (lone-some, lone-none)

-- Arguments.

-- a group that is no single token
record Other (g : List items.Element) : Type 0 where
  lone : lone_token g ≡ None
  left : left_argument g ≡ header_pattern g
  right : right_argument g ≡ header_pattern g

shape : (g : List items.Element) → ((t : Token) × (g ≡ OfPart (Leaf t) ∷ [])) ⊎ Other g
shape [] = inr (record { lone = refl; left = refl; right = refl })
shape (OfPart (Leaf t) ∷ []) = inl (t, refl)
shape (OfPart (Leaf t) ∷ y ∷ g) = inr (record { lone = refl; left = refl; right = refl })
shape (OfPart (Elements es) ∷ g) = inr (record { lone = refl; left = refl; right = refl })
shape (OfPart (Merge es) ∷ g) = inr (record { lone = refl; left = refl; right = refl })
shape (OfPart (Paren e) ∷ g) = inr (record { lone = refl; left = refl; right = refl })
shape (OfPart (Block b) ∷ g) = inr (record { lone = refl; left = refl; right = refl })
shape (OfPart (Field base names) ∷ g) = inr (record { lone = refl; left = refl; right = refl })
shape (OfPart (Strand ps) ∷ g) = inr (record { lone = refl; left = refl; right = refl })
shape (OfPart (Nothing place) ∷ g) = inr (record { lone = refl; left = refl; right = refl })
shape (OfList q ∷ g) = inr (record { lone = refl; left = refl; right = refl })

-- an argument by its special name, or by a pattern
abbrev NamedOr : (Kind → Bool) → (List items.Element → Option Pattern) → List items.Element → Bool → Type 0
NamedOr test argument g true = argument g ≡ option_map Name (lone_token g)
NamedOr test argument g false = argument g ≡ header_pattern g

left-or : (g : List items.Element) → NamedOr is_left left_argument g (lone_is is_left g)
left-or g = at (shape g)
  where
    at : ((t : Token) × (g ≡ OfPart (Leaf t) ∷ [])) ⊎ Other g → NamedOr is_left left_argument g (lone_is is_left g)
    at (inl (t, e)) = subst (λ (h : List items.Element). NamedOr is_left left_argument h (lone_is is_left h)) (sym e) (leaf (is_left t.kind) t refl)
      where
        leaf : (b : Bool) (t : Token) → is_left t.kind ≡ b → NamedOr is_left left_argument (OfPart (Leaf t) ∷ []) b
        leaf true t e = ap (λ (b : Bool). special_or b t (OfPart (Leaf t) ∷ [])) e
        leaf false t e = ap (λ (b : Bool). special_or b t (OfPart (Leaf t) ∷ [])) e
    at (inr o) = subst (λ (b : Bool). NamedOr is_left left_argument g b) (sym (ap (token_is is_left) o.lone)) o.left

right-or : (g : List items.Element) → NamedOr is_right right_argument g (lone_is is_right g)
right-or g = at (shape g)
  where
    at : ((t : Token) × (g ≡ OfPart (Leaf t) ∷ [])) ⊎ Other g → NamedOr is_right right_argument g (lone_is is_right g)
    at (inl (t, e)) = subst (λ (h : List items.Element). NamedOr is_right right_argument h (lone_is is_right h)) (sym e) (leaf (is_right t.kind) t refl)
      where
        leaf : (b : Bool) (t : Token) → is_right t.kind ≡ b → NamedOr is_right right_argument (OfPart (Leaf t) ∷ []) b
        leaf true t e = ap (λ (b : Bool). special_or b t (OfPart (Leaf t) ∷ [])) e
        leaf false t e = ap (λ (b : Bool). special_or b t (OfPart (Leaf t) ∷ [])) e
    at (inr o) = subst (λ (b : Bool). NamedOr is_right right_argument g b) (sym (ap (token_is is_right) o.lone)) o.right

pub left-name : (g : List items.Element) → lone_is is_left g ≡ true → left_argument g ≡ option_map Name (lone_token g)
left-name g e = subst (λ (b : Bool). NamedOr is_left left_argument g b) e (left-or g)

pub left-pattern : (g : List items.Element) → lone_is is_left g ≡ false → left_argument g ≡ header_pattern g
left-pattern g e = subst (λ (b : Bool). NamedOr is_left left_argument g b) e (left-or g)

pub right-name : (g : List items.Element) → lone_is is_right g ≡ true → right_argument g ≡ option_map Name (lone_token g)
right-name g e = subst (λ (b : Bool). NamedOr is_right right_argument g b) e (right-or g)

pub right-pattern : (g : List items.Element) → lone_is is_right g ≡ false → right_argument g ≡ header_pattern g
right-pattern g e = subst (λ (b : Bool). NamedOr is_right right_argument g b) e (right-or g)

-- which patterns may be arguments
abbrev IfOutermost : Pattern → Bool → Type 0
IfOutermost q true = outermost_pattern q ≡ Some q
IfOutermost q false = outermost_pattern q ≡ None

outermost-name : (k : Kind) (q : Pattern) → outermost_name k q ≡ (elim (is_name tag.Subject k) as (λ _. Option Pattern) [ true ↦ Some q | false ↦ None ])
outermost-name (kind.Word name role.Subject) q = refl
outermost-name (kind.Word name role.Function) q = refl
outermost-name (kind.Word name role.Mod1) q = refl
outermost-name (kind.Word name role.Mod2) q = refl
outermost-name (kind.Number z) q = refl
outermost-name (kind.Char c) q = refl
outermost-name (kind.Text s) q = refl
outermost-name (kind.System name r) q = refl
outermost-name (kind.Special s r) q = refl
outermost-name (kind.Given code) q = refl
outermost-name (kind.Punct c) q = refl

pub outermost-may : (q : Pattern) → stands_outermost q ≡ true → outermost_pattern q ≡ Some q
outermost-may (Name t) e = outermost-name t.kind (Name t) ∙ ap (λ (b : Bool). elim b as (λ _. Option Pattern) [ true ↦ Some (Name t) | false ↦ None ]) e
outermost-may (Skip place) e = refl
outermost-may (Literal t) e = refl
outermost-may (ListPattern qs) e = refl
outermost-may (StrandPattern qs) e = refl

pub outermost-not : (q : Pattern) → stands_outermost q ≡ false → outermost_pattern q ≡ None
outermost-not (Name t) e = outermost-name t.kind (Name t) ∙ ap (λ (b : Bool). elim b as (λ _. Option Pattern) [ true ↦ Some (Name t) | false ↦ None ]) e
outermost-not (Skip place) e = absurd (let p : true ≡ false = e in cc)
outermost-not (Literal t) e = absurd (let p : true ≡ false = e in cc)
outermost-not (ListPattern qs) e = absurd (let p : true ≡ false = e in cc)
outermost-not (StrandPattern qs) e = absurd (let p : true ≡ false = e in cc)

pub ruleset argument_laws = (left-name, left-pattern, right-name, right-pattern, outermost-may, outermost-not)

-- After the self part.

abbrev plain_header : Option Token → Token → Option Token → Option Pattern → Header
plain_header l own r right = record { left = None; left_operand = l; own = own; right_operand = r; right = right }

pub right-absent : (l : Option Token) (own : Token) (r : Option Token) (gs : List (List Element)) → length gs ≡ 0 → with_right l (Some own) r (groups_shown gs) ≡ Some (plain_header l own r None)
right-absent l own r [] e = refl
right-absent l own r (g ∷ gs) e = absurd (omega arith)

pub right-one : (l : Option Token) (own : Token) (r : Option Token) (gs : List (List Element)) (g : List Element) → Some g ≡ only gs → with_right l (Some own) r (groups_shown gs) ≡ option_map (λ q. plain_header l own r (Some q)) (right_argument (group_shown g))
right-one l own r [] g e = absurd (let p : Some g ≡ None = e in cc)
right-one l own r (h ∷ []) g e = let p : Some g ≡ Some h = e in ap (λ (k : List Element). option_map (λ q. plain_header l own r (Some q)) (right_argument (group_shown k))) (let q : h ≡ g = cc in q)
right-one l own r (h ∷ i ∷ gs) g e = absurd (let p : Some g ≡ None = e in cc)

pub right-many : (l : Option Token) (own : Token) (r : Option Token) (gs : List (List Element)) → 1 ≤ length gs → None ≡ only gs → with_right l (Some own) r (groups_shown gs) ≡ None
right-many l own r [] le e = absurd (omega arith)
right-many l own r (h ∷ []) le e = absurd (let p : None ≡ Some h = e in cc)
right-many l own r (h ∷ i ∷ gs) le e = refl

pub ruleset right_laws = (right-absent, right-one, right-many)

-- The first groups.

pub first-some : (gs : List (List Element)) (g : List Element) → Some g ≡ slice_get gs 0 → first_tag (groups_shown gs) ≡ group_tag (group_shown g)
first-some [] g e = absurd (let p : Some g ≡ None = e in cc)
first-some (h ∷ gs) g e = let p : Some g ≡ Some h = e in ap (λ (k : List Element). group_tag (group_shown k)) (let q : h ≡ g = cc in q)

pub first-none : (gs : List (List Element)) → None ≡ slice_get gs 0 → first_tag (groups_shown gs) ≡ tag.Nothing
first-none [] e = refl
first-none (h ∷ gs) e = absurd (let p : None ≡ Some h = e in cc)

pub follow-few : (gs : List (List Element)) → length gs < 2 → follow_left (groups_shown gs) ≡ false
follow-few [] lt = refl
follow-few (x ∷ []) lt = refl
follow-few (x ∷ y ∷ gs) lt = absurd (omega arith)

pub follow-many : (gs : List (List Element)) → 2 ≤ length gs → follow_left (groups_shown gs) ≡ not (is_modifier (first_tag (groups_shown gs)))
follow-many [] le = absurd (omega arith)
follow-many (x ∷ []) le = absurd (omega arith)
follow-many (x ∷ y ∷ gs) le = refl

pub ruleset first_laws = (first-some, first-none, follow-few, follow-many)

-- The self part by the tag of the second group.

mod1-at : (x : List items.Element) (y : List items.Element) (rest : List (List items.Element)) (l : Option Token) (other : Option Header) → operand_form tag.Mod1 l y rest other ≡ operand_form tag.Mod1 l y rest None
mod1-at x y rest None other = refl
mod1-at x y rest (Some l) other = refl

mod2-at : (x : List items.Element) (y : List items.Element) (rest : List (List items.Element)) (l : Option Token) (other : Option Header) → operand_form tag.Mod2 l y rest other ≡ operand_form tag.Mod2 l y rest None
mod2-at x y [] None other = refl
mod2-at x y [] (Some l) other = refl
mod2-at x y (r ∷ rest) None other = refl
mod2-at x y (r ∷ rest) (Some l) other = refl

abbrev tagged : List items.Element → List items.Element → List (List items.Element) → Tag → Option Header
tagged x y rest t = operand_form t (left_operand x) y rest (function_form (group_tag x) x (y ∷ rest))

pub self-mod1 : (x : List items.Element) (gs : List (List items.Element)) → first_tag gs ≡ tag.Mod1 → without_left (x ∷ gs) ≡ mod1_form x gs
self-mod1 x [] e = absurd (let p : tag.Nothing ≡ tag.Mod1 = e in cc)
self-mod1 x (y ∷ rest) e = ap (tagged x y rest) e ∙ mod1-at x y rest (left_operand x) (function_form (group_tag x) x (y ∷ rest))

pub self-mod2 : (x : List items.Element) (gs : List (List items.Element)) → first_tag gs ≡ tag.Mod2 → without_left (x ∷ gs) ≡ mod2_form x gs
self-mod2 x [] e = absurd (let p : tag.Nothing ≡ tag.Mod2 = e in cc)
self-mod2 x (y ∷ rest) e = ap (tagged x y rest) e ∙ mod2-at x y rest (left_operand x) (function_form (group_tag x) x (y ∷ rest))

self-other : (t : Tag) (x y : List items.Element) (rest : List (List items.Element)) → is_modifier t ≡ false → tagged x y rest t ≡ function_form (group_tag x) x (y ∷ rest)
self-other tag.Subject x y rest e = refl
self-other tag.Function x y rest e = refl
self-other tag.Nothing x y rest e = refl
self-other tag.Mod1 x y rest e = absurd (let p : true ≡ false = e in cc)
self-other tag.Mod2 x y rest e = absurd (let p : true ≡ false = e in cc)

pub self-function : (x : List items.Element) (gs : List (List items.Element)) → is_modifier (first_tag gs) ≡ false → without_left (x ∷ gs) ≡ function_form (group_tag x) x gs
self-function x [] e = refl
self-function x (y ∷ rest) e = self-other (group_tag y) x y rest e

pub ruleset self_laws = (self-mod1, self-mod2, self-function)

-- Whether a left argument stands first.

too-many : (l own r : Option Token) (x y : List items.Element) (rest : List (List items.Element)) → with_right l own r (x ∷ y ∷ rest) ≡ None
too-many l None r x y rest = refl
too-many l (Some own) r x y rest = refl

function-two : (t : Tag) (own x y : List items.Element) (rest : List (List items.Element)) → function_form t own (x ∷ y ∷ rest) ≡ None
function-two tag.Function own x y rest = too-many None (lone_token own) None x y rest
function-two tag.Subject own x y rest = refl
function-two tag.Mod1 own x y rest = refl
function-two tag.Mod2 own x y rest = refl
function-two tag.Nothing own x y rest = refl

abbrev absent : Option Header
absent = None

then-none : (o : Option Pattern) → option_and_then (λ q. absent) o ≡ None
then-none None = refl
then-none (Some x) = refl

no-right : (q : Pattern) (own : Option Token) → option_and_then (left_of q) (with_right None own None []) ≡ None
no-right q None = refl
no-right q (Some own) = refl

function-alone : (q : Pattern) (t : Tag) (own : List items.Element) → option_and_then (left_of q) (function_form t own []) ≡ None
function-alone q tag.Function own = no-right q (lone_token own)
function-alone q tag.Subject own = refl
function-alone q tag.Mod1 own = refl
function-alone q tag.Mod2 own = refl
function-alone q tag.Nothing own = refl

-- the name of a modifier is no operand
modifier-kind : (k : Kind) (t : Token) → is_modifier (own_tag k) ≡ true → token_named (is_left_operand k) t ≡ None
modifier-kind (kind.Word name role.Subject) t e = absurd (let p : false ≡ true = e in cc)
modifier-kind (kind.Word name role.Function) t e = absurd (let p : false ≡ true = e in cc)
modifier-kind (kind.Word name role.Mod1) t e = refl
modifier-kind (kind.Word name role.Mod2) t e = refl
modifier-kind (kind.Special special.LeftOperand r) t e = absurd (let p : false ≡ true = e in cc)
modifier-kind (kind.Special special.Left r) t e = refl
modifier-kind (kind.Special special.Right r) t e = refl
modifier-kind (kind.Special special.Own r) t e = refl
modifier-kind (kind.Special special.RightOperand r) t e = refl
modifier-kind (kind.Special special.Modifier r) t e = refl
modifier-kind (kind.Number z) t e = refl
modifier-kind (kind.Char c) t e = refl
modifier-kind (kind.Text s) t e = refl
modifier-kind (kind.System name r) t e = refl
modifier-kind (kind.Given code) t e = refl
modifier-kind (kind.Punct c) t e = refl

modifier-token : (o : Option Token) → is_modifier (token_tag o) ≡ true → option_and_then (λ t. token_named (is_left_operand t.kind) t) o ≡ None
modifier-token None e = refl
modifier-token (Some t) e = modifier-kind t.kind t e

modifier-function : (t : Tag) (own : List items.Element) (rest : List (List items.Element)) → is_modifier t ≡ true → function_form t own rest ≡ None
modifier-function tag.Mod1 own rest e = refl
modifier-function tag.Mod2 own rest e = refl
modifier-function tag.Subject own rest e = refl
modifier-function tag.Nothing own rest e = refl
modifier-function tag.Function own rest e = absurd (let p : false ≡ true = e in cc)

no-operand : (t : Tag) (y : List items.Element) (rest : List (List items.Element)) → operand_form t None y rest None ≡ None
no-operand tag.Mod1 y rest = refl
no-operand tag.Mod2 y [] = refl
no-operand tag.Mod2 y (r ∷ rest) = refl
no-operand tag.Subject y rest = refl
no-operand tag.Function y rest = refl
no-operand tag.Nothing y rest = refl

-- no self part begins with the name of a modifier
modifier-first : (x y : List items.Element) (rest : List (List items.Element)) → is_modifier (group_tag x) ≡ true → without_left (x ∷ y ∷ rest) ≡ None
modifier-first x y rest e =
    ap (λ (other : Option Header). operand_form (group_tag y) (left_operand x) y rest other) (modifier-function (group_tag x) x (y ∷ rest) e)
    ∙ ap (λ (l : Option Token). operand_form (group_tag y) l y rest None) (modifier-token (lone_token x) e)
    ∙ no-operand (group_tag y) y rest

or_left-none : (o : Option Header) (gs : List (List items.Element)) → with_left gs ≡ None → or_left o gs ≡ o
or_left-none None gs e = e
or_left-none (Some h) gs e = refl

not-false : (b : Bool) → not b ≡ true → b ≡ false
not-false true e = absurd (let p : false ≡ true = e in cc)
not-false false e = refl

not-true : (b : Bool) → not b ≡ false → b ≡ true
not-true true e = refl
not-true false e = absurd (let p : true ≡ false = e in cc)

pub form-left : (x : List items.Element) (gs : List (List items.Element)) → follow_left gs ≡ true → header_form (x ∷ gs) ≡ with_left (x ∷ gs)
form-left x [] e = absurd (let p : false ≡ true = e in cc)
form-left x (y ∷ []) e = absurd (let p : false ≡ true = e in cc)
form-left x (y ∷ z ∷ rest) e = ap (λ (o : Option Header). or_left o (x ∷ y ∷ z ∷ rest)) (self-other (group_tag y) x y (z ∷ rest) (not-false (is_modifier (group_tag y)) e) ∙ function-two (group_tag x) x y z rest)

left-none : (x : List items.Element) (gs : List (List items.Element)) → follow_left gs ≡ false → with_left (x ∷ gs) ≡ None
left-none x [] e = then-none (left_argument x)
left-none x (y ∷ []) e = with_each (left_argument x) (λ q. option_and_then (left_of q) (function_form (group_tag y) y [])) (λ q. function-alone q (group_tag y) y)
  where
    with_each : (o : Option Pattern) (f : Pattern → Option Header) → ((q : Pattern) → f q ≡ None) → option_and_then f o ≡ None
    with_each None f none = refl
    with_each (Some q) f none = none q
left-none x (y ∷ z ∷ rest) e =
    ap (λ (o : Option Header). option_and_then (λ q. option_and_then (left_of q) o) (left_argument x)) (modifier-first y z rest (not-true (is_modifier (group_tag y)) e))
    ∙ then-none (left_argument x)

pub form-self : (x : List items.Element) (gs : List (List items.Element)) → follow_left gs ≡ false → header_form (x ∷ gs) ≡ without_left (x ∷ gs)
form-self x gs e = or_left-none (without_left (x ∷ gs)) (x ∷ gs) (left-none x gs e)

pub ruleset form_laws = (form-left, form-self)
