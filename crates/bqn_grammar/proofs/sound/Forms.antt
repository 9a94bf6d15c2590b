-- The header that joined elements form: it is well, and spelled by them.
use Rattle.std.proofs.Common.{◌≡◌, ◌≤◌, ℕ, Bool, true, false, List, [], ◌∷◌, ◌++◌, Option, Some, None, refl, sym, ap, ◌∙◌, subst, arith}
use Rattle.std.specs.Option.{option_and_then}
use Rattle.bqn_base.specs.declared.role.Role.TheVariants as role
use Rattle.bqn_syntax.specs.declared.token.Kind.{Kind}
use Rattle.bqn_syntax.specs.declared.token.Kind.TheVariants as kind
use Rattle.bqn_syntax.specs.declared.token.Token.{Token}
use Rattle.bqn_syntax.specs.declared.sort.Tag.{Tag}
use Rattle.bqn_syntax.specs.declared.sort.Tag.TheVariants as tag
use Rattle.bqn_syntax.specs.grammar.Sorts.{token_named, is_name}
use Rattle.bqn_syntax.specs.grammar.Items.{Element, OfPart, Item, Standing, Joining, group_pattern, groups, onto_first, only_group, piece_pattern}
use Rattle.bqn_syntax.specs.grammar.Headers.{own_tag, lone_token, token_tag, group_tag, is_left_operand, is_right_operand, left_operand, right_operand, outermost_name, outermost_pattern, header_pattern, is_left, is_right, special_or, left_argument, right_argument, with_right, function_form, operand_form, without_left, left_of, with_left, or_left, header_form}
use Rattle.bqn_syntax.specs.grammar.Spells.{Sign, Exact, pattern_signs, token_signs, argument_signs, header_signs}
use Rattle.bqn_syntax.specs.grammar.Well.{IsOutermost, IsArgument, special, pattern, ArgumentFits, SelfFits, WellHeader, pattern_depth, argument_depth, header_depth}
use Rattle.bqn_syntax.specs.grammar.Trees.{Pattern, Name, Skip, Literal, ListPattern, StrandPattern, Header, Leaf}
use Rattle.bqn_grammar.proofs.TreeItems.{GoodItems, ItemDepths}
use Rattle.bqn_grammar.proofs.sound.Signs.{items_signs, items_after, pattern_spelled}
use Rattle.bqn_grammar.proofs.sound.OpenBrackets.{Pieces}
use Rattle.bqn_grammar.proofs.sound.MorePieces.{max_le, max_right}
use Rattle.bqn_grammar.proofs.sound.Clean.{and_then_some, map_some}

-- The items of joined elements.

abbrev pub group_items : List Element → List Item
group_items [] = []
group_items (x ∷ []) = Standing x ∷ []
group_items (x ∷ y ∷ xs) = Standing x ∷ Joining ∷ group_items (y ∷ xs)

abbrev pub groups_items : List (List Element) → List Item
groups_items [] = []
groups_items (g ∷ gs) = group_items g ++ groups_items gs

abbrev pub IsGroup : List Element → Type 0
IsGroup [] = ⊥
IsGroup (x ∷ xs) = Unit {0}

abbrev pub AreGroups : List (List Element) → Type 0
AreGroups [] = Unit {0}
AreGroups (g ∷ gs) = IsGroup g × AreGroups gs

pub record Grouped (items : List Item) (gs : List (List Element)) : Type 0 where
  pub written : items ≡ groups_items gs
  pub some : AreGroups gs

onto_grouped : (x : Element) (items : List Item) (ys gs : List (List Element)) → Grouped items ys → onto_first x (Some ys) ≡ Some gs → Grouped (Standing x ∷ Joining ∷ items) gs
onto_grouped x items [] gs r e = absurd (cc)
onto_grouped x items ([] ∷ ys) gs r e = elim r.some.0 [ ]
onto_grouped x items ((y ∷ zs) ∷ ys) gs r e =
    let same : (x ∷ y ∷ zs) ∷ ys ≡ gs = cc in
    subst (λ (g : List (List Element)). Grouped (Standing x ∷ Joining ∷ items) g) same (record { written = ap (λ (is : List Item). Standing x ∷ Joining ∷ is) r.written; some = (tt, r.some.1) })

onto_some : (x : Element) (m : Option (List (List Element))) (gs : List (List Element)) → onto_first x m ≡ Some gs → (ys : List (List Element)) × (m ≡ Some ys) × (onto_first x (Some ys) ≡ Some gs)
onto_some x None gs e = absurd (cc)
onto_some x (Some ys) gs e = (ys, refl, e)

pub grouped : (items : List Item) (gs : List (List Element)) → groups items ≡ Some gs → Grouped items gs
grouped [] gs e = let same : [] ≡ gs = cc in subst (λ (g : List (List Element)). Grouped [] g) same (record { written = refl; some = tt })
grouped (Standing x ∷ Joining ∷ items) gs e = let m = onto_some x (groups items) gs e in onto_grouped x items m.0 gs (grouped items m.0 m.1) m.2
grouped (Standing x ∷ items) gs e =
    let m = map_some (λ (gs : List (List Element)). (x ∷ []) ∷ gs) (groups items) gs e in
    let r = grouped items m.0 m.1 in
    subst (λ (g : List (List Element)). Grouped (Standing x ∷ items) g) m.2 (record { written = ap (λ (is : List Item). Standing x ∷ is) r.written; some = (tt, r.some) })
grouped _ gs e = absurd (cc)

group_again : (x : Element) (xs : List Element) → groups (group_items (x ∷ xs)) ≡ Some ((x ∷ xs) ∷ [])
group_again x [] = refl
group_again x (y ∷ xs) = ap (onto_first x) (group_again y xs)

-- what is known of the elements
pub record GoodGroup (n : ℕ) (g : List Element) : Type 0 where
  pub some : IsGroup g
  pub good : GoodItems true (group_items g)
  pub deep : ItemDepths n (group_items g)

abbrev pub GoodGroups : ℕ → List (List Element) → Type 0
GoodGroups n [] = Unit {0}
GoodGroups n (g ∷ gs) = GoodGroup n g × GoodGroups n gs

good_front : (literals : Bool) (a b : List Item) → GoodItems literals (a ++ b) → GoodItems literals a
good_front literals [] b g = tt
good_front literals (i ∷ a) b g = (g.0, good_front literals a b g.1)

good_back : (literals : Bool) (a b : List Item) → GoodItems literals (a ++ b) → GoodItems literals b
good_back literals [] b g = g
good_back literals (i ∷ a) b g = good_back literals a b g.1

deep_front : (n : ℕ) (a b : List Item) → ItemDepths n (a ++ b) → ItemDepths n a
deep_front n [] b g = tt
deep_front n (i ∷ a) b g = (g.0, deep_front n a b g.1)

deep_back : (n : ℕ) (a b : List Item) → ItemDepths n (a ++ b) → ItemDepths n b
deep_back n [] b g = g
deep_back n (i ∷ a) b g = deep_back n a b g.1

pub good_groups : (n : ℕ) (gs : List (List Element)) → AreGroups gs → GoodItems true (groups_items gs) → ItemDepths n (groups_items gs) → GoodGroups n gs
good_groups n [] s g d = tt
good_groups n (x ∷ gs) s g d = (record { some = s.0; good = good_front true (group_items x) (groups_items gs) g; deep = deep_front n (group_items x) (groups_items gs) d }, good_groups n gs s.1 (good_back true (group_items x) (groups_items gs) g) (deep_back n (group_items x) (groups_items gs) d))

-- Arguments.

pub record ArgumentOnly (is_special : Kind → Bool) (n : ℕ) (g : List Element) (q : Pattern) : Type 0 where
  pub fits : IsArgument is_special q
  pub spelled : (k : List Sign) → items_signs (group_items g) k ≡ pattern_signs q k
  pub depth : pattern_depth q ≤ n

outermost_named : (k : Kind) (t : Token) (q : Pattern) → t.kind ≡ k → outermost_name k (Name t) ≡ Some q → (Name t ≡ q) × IsOutermost (Name t)
outermost_named (kind.Word name role.Subject) t q e h = ((cc), ap (λ (x : Kind). is_name tag.Subject x) e)
outermost_named _ t q e h = absurd (cc)

outermost_is : (r q : Pattern) → outermost_pattern r ≡ Some q → (r ≡ q) × IsOutermost r
outermost_is (Name t) q h = outermost_named t.kind t q refl h
outermost_is (Skip place) q h = ((cc), tt)
outermost_is (Literal t) q h = ((cc), tt)
outermost_is (ListPattern qs) q h = ((cc), tt)
outermost_is (StrandPattern qs) q h = ((cc), tt)

group_piece : (g : List Element) (q : Pattern) → IsGroup g → group_pattern true g ≡ Some q → piece_pattern true (group_items g) ≡ Some q
group_piece [] q s h = elim s [ ]
group_piece (x ∷ xs) q s h = ap (option_and_then (only_group true)) (group_again x xs) ∙ h

pattern_argument : (ps : Pieces) (is_special : Kind → Bool) (n : ℕ) (g : List Element) (q : Pattern) → GoodGroup n g → header_pattern g ≡ Some q → ArgumentOnly is_special n g q
pattern_argument ps is_special n g q w h =
    let m = and_then_some outermost_pattern (group_pattern true g) q h in
    let o = outermost_is m.0 q m.2 in
    let p = ps.pattern_only true (group_items g) m.0 w.good (group_piece g m.0 w.some m.1) in
    subst (λ (r : Pattern). ArgumentOnly is_special n g r) o.0 (record { fits = pattern o.1 p.1; spelled = λ (k : List Sign). ap (λ (is : List Item). items_signs is k) (sym p.0) ∙ pattern_spelled m.0 k; depth = ps.pattern_depths n m.0 (subst (λ (is : List Item). ItemDepths n is) (sym p.0) w.deep) })

special_argument : (ps : Pieces) (is_special : Kind → Bool) (n : ℕ) (b : Bool) (t : Token) (q : Pattern) → is_special t.kind ≡ b → GoodGroup n (OfPart (Leaf t) ∷ []) → special_or b t (OfPart (Leaf t) ∷ []) ≡ Some q → ArgumentOnly is_special n (OfPart (Leaf t) ∷ []) q
special_argument ps is_special n true t q e w h =
    let same : Name t ≡ q = cc in
    subst (λ (r : Pattern). ArgumentOnly is_special n (OfPart (Leaf t) ∷ []) r) same (record { fits = special e; spelled = λ (k : List Sign). refl; depth = omega arith })
special_argument ps is_special n false t q e w h = pattern_argument ps is_special n (OfPart (Leaf t) ∷ []) q w h

left_argument_only : (ps : Pieces) (n : ℕ) (g : List Element) (q : Pattern) → GoodGroup n g → left_argument g ≡ Some q → ArgumentOnly is_left n g q
left_argument_only ps n (OfPart (Leaf t) ∷ []) q w h = special_argument ps is_left n (is_left t.kind) t q refl w h
left_argument_only ps n g q w h = pattern_argument ps is_left n g q w h

right_argument_only : (ps : Pieces) (n : ℕ) (g : List Element) (q : Pattern) → GoodGroup n g → right_argument g ≡ Some q → ArgumentOnly is_right n g q
right_argument_only ps n (OfPart (Leaf t) ∷ []) q w h = special_argument ps is_right n (is_right t.kind) t q refl w h
right_argument_only ps n g q w h = pattern_argument ps is_right n g q w h

-- Names.

lone_signs : (g : List Element) (t : Token) (k : List Sign) → lone_token g ≡ Some t → items_signs (group_items g) k ≡ Exact t ∷ k
lone_signs (OfPart (Leaf u) ∷ []) t k e = let same : u ≡ t = cc in ap (λ (x : Token). Exact x ∷ k) same
lone_signs _ t k e = absurd (cc)

pub record OperandOnly (is_operand : Kind → Bool) (g : List Element) (t : Token) : Type 0 where
  pub lone : lone_token g ≡ Some t
  pub fits : is_operand t.kind ≡ true

named_ok : (is_operand : Kind → Bool) (g : List Element) (b : Bool) (u t : Token) → lone_token g ≡ Some u → is_operand u.kind ≡ b → token_named b u ≡ Some t → OperandOnly is_operand g t
named_ok is_operand g true u t l e h = let same : u ≡ t = cc in subst (λ (x : Token). OperandOnly is_operand g x) same (record { lone = l; fits = e })
named_ok is_operand g false u t l e h = absurd (cc)

operand_only : (is_operand : Kind → Bool) (g : List Element) (t : Token) → option_and_then (λ t. token_named (is_operand t.kind) t) (lone_token g) ≡ Some t → OperandOnly is_operand g t
operand_only is_operand g t h =
    let m = and_then_some (λ (t : Token). token_named (is_operand t.kind) t) (lone_token g) t h in
    named_ok is_operand g (is_operand m.0.kind) m.0 t m.1 refl m.2

-- Forms.

-- these groups form this header, which has no left argument
pub record Formed (n : ℕ) (h : Header) (signs : List Sign → List Sign) : Type 0 where
  pub well : WellHeader h
  pub no_left : h.left ≡ None
  pub spelled : (k : List Sign) → signs k ≡ header_signs h k
  pub depth : header_depth (Some h) ≤ n

abbrev header_with : Option Token → Token → Option Token → Option Pattern → Header
header_with l own r x = record { left = None; left_operand = l; own = own; right_operand = r; right = x }

-- the signs of an own name between these operands, and of what follows
abbrev self_signs : Option Token → Token → Option Token → List (List Element) → List Sign → List Sign
self_signs l own r gs k = token_signs l (Exact own ∷ token_signs r (items_signs (groups_items gs) k))

with_right_only : (ps : Pieces) (n : ℕ) (l : Option Token) (own : Token) (r : Option Token) (gs : List (List Element)) (h : Header) → GoodGroups n gs → SelfFits (own_tag own.kind) l r → with_right l (Some own) r gs ≡ Some h → Formed n h (self_signs l own r gs)
with_right_only ps n l own r [] h w s e =
    let same : header_with l own r None ≡ h = cc in
    subst (λ (y : Header). Formed n y (self_signs l own r [])) same (record { well = record { self = s; sides = tt; left = tt; right = tt }; no_left = refl; spelled = λ (k : List Sign). refl; depth = omega arith })
with_right_only ps n l own r (g ∷ []) h w s e =
    let m = map_some (λ (q : Pattern). header_with l own r (Some q)) (right_argument g) h e in
    let a = right_argument_only ps n g m.0 w.0 m.1 in
    subst (λ (y : Header). Formed n y (self_signs l own r (g ∷ []))) m.2 (record { well = record { self = s; sides = tt; left = tt; right = a.fits }; no_left = refl; spelled = λ (k : List Sign). ap (λ (x : List Sign). token_signs l (Exact own ∷ token_signs r x)) (items_after (group_items g) [] k ∙ a.spelled k); depth = max_le 0 (pattern_depth m.0) n (omega arith) a.depth })
with_right_only ps n l own r (g ∷ f ∷ gs) h w s e = absurd (cc)

with_right_some : (l m r : Option Token) (gs : List (List Element)) (h : Header) → with_right l m r gs ≡ Some h → (own : Token) × (m ≡ Some own) × (with_right l (Some own) r gs ≡ Some h)
with_right_some l None r gs h e = absurd (cc)
with_right_some l (Some own) r gs h e = (own, refl, e)

function_only : (ps : Pieces) (n : ℕ) (tg : Tag) (x : List Element) (gs : List (List Element)) (h : Header) → group_tag x ≡ tg → GoodGroups n gs → function_form tg x gs ≡ Some h → Formed n h (items_signs (groups_items (x ∷ gs)))
function_only ps n tag.Function x gs h t w e =
    let m = with_right_some None (lone_token x) None gs h e in
    let own : own_tag m.0.kind ≡ tag.Function = sym (ap token_tag m.1) ∙ t in
    let f = with_right_only ps n None m.0 None gs h w (subst (λ (y : Tag). SelfFits y None None) (sym own) tt) m.2 in
    record { well = f.well; no_left = f.no_left; spelled = λ (k : List Sign). items_after (group_items x) (groups_items gs) k ∙ lone_signs x m.0 (items_signs (groups_items gs) k) m.1 ∙ f.spelled k; depth = f.depth }
function_only ps n _ x gs h t w e = absurd (cc)

-- an operand before a name
two_signs : (x y : List Element) (l own : Token) (gs : List (List Element)) (k : List Sign) → lone_token x ≡ Some l → lone_token y ≡ Some own → items_signs (groups_items (x ∷ y ∷ gs)) k ≡ Exact l ∷ Exact own ∷ items_signs (groups_items gs) k
two_signs x y l own gs k e f = items_after (group_items x) (groups_items (y ∷ gs)) k ∙ lone_signs x l (items_signs (groups_items (y ∷ gs)) k) e ∙ ap (λ (j : List Sign). Exact l ∷ j) (items_after (group_items y) (groups_items gs) k ∙ lone_signs y own (items_signs (groups_items gs) k) f)

one_signs : (x : List Element) (t : Token) (gs : List (List Element)) (k : List Sign) → lone_token x ≡ Some t → items_signs (groups_items (x ∷ gs)) k ≡ Exact t ∷ items_signs (groups_items gs) k
one_signs x t gs k e = items_after (group_items x) (groups_items gs) k ∙ lone_signs x t (items_signs (groups_items gs) k) e

operand_form_only : (ps : Pieces) (n : ℕ) (x : List Element) (tg : Tag) (lo : Option Token) (y : List Element) (gs : List (List Element)) (other : Option Header) (h : Header) → group_tag y ≡ tg → left_operand x ≡ lo → GoodGroups n gs → (other ≡ Some h → Formed n h (items_signs (groups_items (x ∷ y ∷ gs)))) → operand_form tg lo y gs other ≡ Some h → Formed n h (items_signs (groups_items (x ∷ y ∷ gs)))
operand_form_only ps n x tag.Mod1 (Some l) y gs other h t o w f e =
    let m = with_right_some (Some l) (lone_token y) None gs h e in
    let a = operand_only is_left_operand x l o in
    let own : own_tag m.0.kind ≡ tag.Mod1 = sym (ap token_tag m.1) ∙ t in
    let r = with_right_only ps n (Some l) m.0 None gs h w (subst (λ (y : Tag). SelfFits y (Some l) None) (sym own) a.fits) m.2 in
    record { well = r.well; no_left = r.no_left; spelled = λ (k : List Sign). two_signs x y l m.0 gs k a.lone m.1 ∙ r.spelled k; depth = r.depth }
operand_form_only ps n x tag.Mod2 (Some l) y (g ∷ gs) other h t o w f e =
    let b = and_then_some (λ (r : Token). with_right (Some l) (lone_token y) (Some r) gs) (right_operand g) h e in
    let m = with_right_some (Some l) (lone_token y) (Some b.0) gs h b.2 in
    let a = operand_only is_left_operand x l o in
    let c = operand_only is_right_operand g b.0 b.1 in
    let own : own_tag m.0.kind ≡ tag.Mod2 = sym (ap token_tag m.1) ∙ t in
    let r = with_right_only ps n (Some l) m.0 (Some b.0) gs h w.1 (subst (λ (y : Tag). SelfFits y (Some l) (Some b.0)) (sym own) (a.fits, c.fits)) m.2 in
    record { well = r.well; no_left = r.no_left; spelled = λ (k : List Sign). two_signs x y l m.0 (g ∷ gs) k a.lone m.1 ∙ ap (λ (j : List Sign). Exact l ∷ Exact m.0 ∷ j) (one_signs g b.0 gs k c.lone) ∙ r.spelled k; depth = r.depth }
operand_form_only ps n x tag.Mod2 (Some l) y [] other h t o w f e = absurd (cc)
operand_form_only ps n x tag.Mod1 None y gs other h t o w f e = absurd (cc)
operand_form_only ps n x tag.Mod2 None y [] other h t o w f e = absurd (cc)
operand_form_only ps n x tag.Mod2 None y (g ∷ gs) other h t o w f e = absurd (cc)
operand_form_only ps n x tag.Subject lo y gs other h t o w f e = f e
operand_form_only ps n x tag.Function lo y gs other h t o w f e = f e
operand_form_only ps n x tag.Nothing lo y gs other h t o w f e = f e

without_left_only : (ps : Pieces) (n : ℕ) (gs : List (List Element)) (h : Header) → GoodGroups n gs → without_left gs ≡ Some h → Formed n h (items_signs (groups_items gs))
without_left_only ps n [] h w e = absurd (cc)
without_left_only ps n (x ∷ []) h w e = function_only ps n (group_tag x) x [] h refl tt e
without_left_only ps n (x ∷ y ∷ gs) h w e = operand_form_only ps n x (group_tag y) (left_operand x) y gs (function_form (group_tag x) x (y ∷ gs)) h refl refl w.1.1 (λ (f : function_form (group_tag x) x (y ∷ gs) ≡ Some h). function_only ps n (group_tag x) x (y ∷ gs) h refl w.1 f) e

-- The whole header.

pub record HeaderFormed (n : ℕ) (h : Header) (signs : List Sign → List Sign) : Type 0 where
  pub well : WellHeader h
  pub spelled : (k : List Sign) → signs k ≡ header_signs h k
  pub depth : header_depth (Some h) ≤ n

abbrev header_left : Pattern → Header → Pattern → Header
header_left q h x = record { left = Some q; left_operand = h.left_operand; own = h.own; right_operand = h.right_operand; right = Some x }

left_signs : (q : Pattern) (h : Header) (x : Pattern) (k : List Sign) → h.left ≡ None → h.right ≡ Some x → pattern_signs q (header_signs h k) ≡ header_signs (header_left q h x) k
left_signs q h x k e f = ap (λ (l : Option Pattern). pattern_signs q (argument_signs l (token_signs h.left_operand (Exact h.own ∷ token_signs h.right_operand (argument_signs h.right k))))) e ∙ ap (λ (r : Option Pattern). pattern_signs q (token_signs h.left_operand (Exact h.own ∷ token_signs h.right_operand (argument_signs r k)))) f

with_left_only : (ps : Pieces) (n : ℕ) (gs : List (List Element)) (h : Header) → GoodGroups n gs → with_left gs ≡ Some h → HeaderFormed n h (items_signs (groups_items gs))
with_left_only ps n [] h w e = absurd (cc)
with_left_only ps n (g ∷ gs) h w e =
    let m = and_then_some (λ (q : Pattern). option_and_then (left_of q) (without_left gs)) (left_argument g) h e in
    let a = left_argument_only ps n g m.0 w.0 m.1 in
    let b = and_then_some (left_of m.0) (without_left gs) h m.2 in
    let f = without_left_only ps n gs b.0 w.1 b.1 in
    let c = map_some (header_left m.0 b.0) b.0.right h b.2 in
    subst (λ (y : Header). HeaderFormed n y (items_signs (groups_items (g ∷ gs)))) c.2 (record {
      well = record { self = f.well.self; sides = tt; left = a.fits; right = subst (λ (r : Option Pattern). ArgumentFits is_right r) c.1 f.well.right };
      spelled = λ (k : List Sign). items_after (group_items g) (groups_items gs) k ∙ a.spelled (items_signs (groups_items gs) k) ∙ ap (pattern_signs m.0) (f.spelled k) ∙ left_signs m.0 b.0 c.0 k f.no_left c.1;
      depth = max_le (pattern_depth m.0) (pattern_depth c.0) n a.depth (subst (λ (r : Option Pattern). argument_depth r ≤ n) c.1 (max_right (argument_depth b.0.left) (argument_depth b.0.right) n f.depth));
    })

or_left_only : (ps : Pieces) (n : ℕ) (m : Option Header) (gs : List (List Element)) (h : Header) → GoodGroups n gs → without_left gs ≡ m → or_left m gs ≡ Some h → HeaderFormed n h (items_signs (groups_items gs))
or_left_only ps n (Some x) gs h w e f = let r = without_left_only ps n gs h w (e ∙ f) in record { well = r.well; spelled = r.spelled; depth = r.depth }
or_left_only ps n None gs h w e f = with_left_only ps n gs h w f

pub header_form_only : (ps : Pieces) (n : ℕ) (gs : List (List Element)) (h : Header) → GoodGroups n gs → header_form gs ≡ Some h → HeaderFormed n h (items_signs (groups_items gs))
header_form_only ps n gs h w e = or_left_only ps n (without_left gs) gs h w refl e
