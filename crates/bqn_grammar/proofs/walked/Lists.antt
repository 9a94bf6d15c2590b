-- The walk over lists of expressions, and what must stand after their parts.
use Rattle.std.proofs.Common.{◌≡◌, Bool, true, false, List, [], ◌∷◌, ◌++◌, Ok, ◌⊎◌, inl, inr, refl, ap, ◌∙◌, append_assoc}
use Rattle.std.specs.Prelude.{if◌then◌else◌}
use Rattle.bqn_base.specs.declared.place.Place.{Place}
use Rattle.bqn_syntax.specs.declared.token.Token.{Token}
use Rattle.bqn_syntax.specs.declared.tree.Arrow.{Arrow}
use Rattle.bqn_syntax.specs.declared.sort.Sort.TheVariants.{Draws, Selects, Stands}
use Rattle.bqn_syntax.specs.declared.sort.Tag.{Tag}
use Rattle.bqn_syntax.specs.declared.sort.Tag.TheVariants as tag
use Rattle.bqn_syntax.specs.declared.sort.Inside.{Inside}
use Rattle.bqn_syntax.specs.declared.sort.Inside.TheVariants as inside
use Rattle.bqn_syntax.specs.grammar.Punctuation as punctuation
use Rattle.bqn_syntax.specs.grammar.Sorts.{tag as tag_of}
use Rattle.bqn_syntax.specs.grammar.Looks.{Ahead}
use Rattle.bqn_syntax.specs.grammar.Items.{OfPart, Drawn, Selecting}
use Rattle.bqn_syntax.specs.grammar.Parsing.{OpenBracket, OpenBrackets, open_brackets, fresh, merge_part, and_expression, list_inside, whole}
use Rattle.bqn_syntax.specs.grammar.Spells.{Sign, Exact, Mark, Fits, arrow_code, target_signs, name_signs, part_signs, step_signs, derived_signs, uses_signs, deriveds_signs, parts_more}
use Rattle.bqn_syntax.specs.grammar.Well.{IsFunction, MayStandBeforeArrow, LastOperand, EndsInNoList, UsesFit, TargetsFit, WellPart, WellStep, WellDerived, WellUses, WellDeriveds, WellParts}
use Rattle.bqn_syntax.specs.grammar.Trees.{Expr, One, Two, Part, Leaf, Elements, Merge, Paren, Block, Field, Strand, Nothing, Step, Apply, Assign, Modify, Derived, derived, none, some, Exprs, no_exprs, and_exprs, exprs, Uses, no_uses, and_uses, Parts, Deriveds}
use Rattle.bqn_grammar.proofs.TreeItems.{part_item, name_items, target_items}
use Rattle.bqn_grammar.proofs.walked.Looks.{passes_mark, name_stands, AllStand, arrow_sort, names_passes, part_passes, parts_more_passes, uses_passes, derived_passes, deriveds_passes, step_passes}
use Rattle.bqn_grammar.proofs.walked.Arrows.{Arrows, Colons, exact_arrow_ahead, part_arrows, derived_arrows, pattern_arrows}
use Rattle.bqn_grammar.proofs.walked.Steps.{having, clean, Arrives, nothing_more, and_then, take_exact, take_mark, Many, Makes}

-- what holds expressions
abbrev pub Expressive : Inside → Type 0
Expressive inside.Pattern = ⊥
Expressive inside.HeaderPattern = ⊥
Expressive _ = Unit {0}

-- a list that no arrow and no colon stands ahead of is one of expressions
pub list_chosen : (i : Inside) (h : Bool) (a : Ahead) → Expressive i → a.arrow ≡ false → a.colon ≡ false → list_inside a i h ≡ inside.List
list_chosen i h a p e c = go i h a.arrow a.colon p e c
  where
    plain : (b : Bool) → b ≡ false → (if b then inside.Pattern else inside.List) ≡ inside.List
    plain false e = refl
    plain true e = absurd (cc)

    go : (i : Inside) (h x y : Bool) → Expressive i → x ≡ false → y ≡ false → list_inside (record { arrow = x; element = a.element; colon = y }) i h ≡ inside.List
    go inside.Program h x y p e c = plain x e
    go inside.Parens h x y p e c = plain x e
    go inside.List h x y p e c = plain x e
    go inside.Merge h x y p e c = plain x e
    go inside.Block false x y p e c = plain x e
    go inside.Block true x y p e c = ap (λ (b : Bool). if b then inside.Pattern else (if y then inside.HeaderPattern else inside.List)) e ∙ ap (λ (b : Bool). if b then inside.HeaderPattern else inside.List) c
    go inside.Pattern h x y p e c = elim p [ ]
    go inside.HeaderPattern h x y p e c = elim p [ ]

-- and one that an arrow stands ahead of is a pattern
pub pattern_chosen : (i : Inside) (h : Bool) (a : Ahead) → Expressive i → a.arrow ≡ true → list_inside a i h ≡ inside.Pattern
pattern_chosen i h a p e = go i h a.arrow a.colon p e
  where
    plain : (b : Bool) → b ≡ true → (if b then inside.Pattern else inside.List) ≡ inside.Pattern
    plain true e = refl
    plain false e = absurd (cc)

    go : (i : Inside) (h x y : Bool) → Expressive i → x ≡ true → list_inside (record { arrow = x; element = a.element; colon = y }) i h ≡ inside.Pattern
    go inside.Program h x y p e = plain x e
    go inside.Parens h x y p e = plain x e
    go inside.List h x y p e = plain x e
    go inside.Merge h x y p e = plain x e
    go inside.Block false x y p e = plain x e
    go inside.Block true x y p e = ap (λ (b : Bool). if b then inside.Pattern else (if y then inside.HeaderPattern else inside.List)) e
    go inside.Pattern h x y p e = elim p [ ]
    go inside.HeaderPattern h x y p e = elim p [ ]

-- what holds several expressions
abbrev pub Listing : Inside → Type 0
Listing inside.List = Unit {0}
Listing inside.Merge = Unit {0}
Listing _ = ⊥

pub many_listing : (i : Inside) → Listing i → Many i
many_listing inside.List p = tt
many_listing inside.Merge p = tt
many_listing inside.Program p = tt
many_listing inside.Pattern p = tt
many_listing inside.HeaderPattern p = tt
many_listing inside.Block p = tt
many_listing inside.Parens p = elim p [ ]

pub expressive_listing : (i : Inside) → Listing i → Expressive i
expressive_listing inside.List p = tt
expressive_listing inside.Merge p = tt
expressive_listing inside.Program p = tt
expressive_listing inside.Block p = tt
expressive_listing inside.Parens p = tt
expressive_listing inside.Pattern p = elim p [ ]
expressive_listing inside.HeaderPattern p = elim p [ ]

-- the open bracket with all these expressions
abbrev pub collecting : OpenBracket → Exprs → OpenBracket
collecting l no_exprs = clean l
collecting l (and_exprs e es) = collecting (and_expression e l) es

abbrev pub list_of_exprs : Exprs → List Expr
list_of_exprs no_exprs = []
list_of_exprs (and_exprs e es) = e ∷ list_of_exprs es

pub exprs_back : (es : Exprs) → exprs (list_of_exprs es) ≡ es
exprs_back no_exprs = refl
exprs_back (and_exprs e es) = ap (λ (x : Exprs). and_exprs e x) (exprs_back es)

pub collecting_inside : (l : OpenBracket) (es : Exprs) → (collecting l es).inside ≡ l.inside
collecting_inside l no_exprs = refl
collecting_inside l (and_exprs e es) = collecting_inside (and_expression e l) es

pub append_none : {A : Type 0} (all : List A) → all ≡ all ++ []
append_none [] = refl
append_none (x ∷ xs) = ap (λ (y : List _). x ∷ y) (append_none xs)

pub collecting_expressions : (l : OpenBracket) (es : Exprs) → (collecting l es).expressions ≡ l.expressions ++ list_of_exprs es
collecting_expressions l no_exprs = append_none l.expressions
collecting_expressions l (and_exprs e es) = collecting_expressions (and_expression e l) es ∙ append_assoc l.expressions (e ∷ []) (list_of_exprs es)

pub makes_elements : (place : Place) (es : Exprs) → Makes (collecting (fresh inside.List place) es) (OfPart (Elements es))
makes_elements place es at =
    let l = collecting (fresh inside.List place) es in
    ap (λ (i : Inside). whole i at l) (collecting_inside (fresh inside.List place) es)
    ∙ ap (λ (all : List Expr). Ok (OfPart (Elements (exprs all)))) (collecting_expressions (fresh inside.List place) es)
    ∙ ap (λ (all : Exprs). Ok (OfPart (Elements all))) (exprs_back es)

pub makes_merge : (place : Place) (e : Expr) (es : Exprs) → Makes (collecting (fresh inside.Merge place) (and_exprs e es)) (OfPart (Merge (and_exprs e es)))
makes_merge place e es at =
    let l = collecting (fresh inside.Merge place) (and_exprs e es) in
    ap (λ (i : Inside). whole i at l) (collecting_inside (fresh inside.Merge place) (and_exprs e es))
    ∙ ap (λ (all : List Expr). merge_part at all) (collecting_expressions (fresh inside.Merge place) (and_exprs e es))
    ∙ ap (λ (all : Exprs). Ok (OfPart (Merge (and_exprs e all)))) (exprs_back es)

-- what must stand after a part: after a list or a strand no arrow
abbrev pub Follows : Part → List Sign → Type 0
Follows (Elements es) k = Arrows false k
Follows (Strand ps) k = Arrows false k
Follows _ k = Unit {0}

pub calm_follows : (x : Part) (k : List Sign) → Arrows false k → Follows x k
calm_follows (Elements es) k a = a
calm_follows (Strand ps) k a = a
calm_follows (Leaf t) k a = tt
calm_follows (Merge es) k a = tt
calm_follows (Paren e) k a = tt
calm_follows (Block b) k a = tt
calm_follows (Field y names) k a = tt
calm_follows (Nothing place) k a = tt

-- a function may stand before an arrow
abbrev pub DerivedFollows : Derived → List Sign → Type 0
DerivedFollows d k = Arrows false k ⊎ (IsFunction d × MayStandBeforeArrow d)

pub no_list_follows : (x : Part) (k : List Sign) → EndsInNoList x → Follows x k
no_list_follows (Elements es) k n = elim n [ ]
no_list_follows (Strand ps) k n = elim n [ ]
no_list_follows (Leaf t) k n = tt
no_list_follows (Merge es) k n = tt
no_list_follows (Paren e) k n = tt
no_list_follows (Block b) k n = tt
no_list_follows (Field y names) k n = tt
no_list_follows (Nothing place) k n = tt

pub function_follows : (x : Part) (k : List Sign) → tag_of x ≡ tag.Function → Follows x k
function_follows (Elements es) k e = absurd (cc)
function_follows (Strand ps) k e = absurd (cc)
function_follows (Leaf t) k e = tt
function_follows (Merge es) k e = tt
function_follows (Paren x) k e = tt
function_follows (Block b) k e = tt
function_follows (Field y names) k e = tt
function_follows (Nothing place) k e = tt

pub modifier_follows : (x : Part) (k : List Sign) → tag_of x ≡ tag.Mod1 → Follows x k
modifier_follows (Elements es) k e = absurd (cc)
modifier_follows (Strand ps) k e = absurd (cc)
modifier_follows (Leaf t) k e = tt
modifier_follows (Merge es) k e = tt
modifier_follows (Paren x) k e = tt
modifier_follows (Block b) k e = tt
modifier_follows (Field y names) k e = tt
modifier_follows (Nothing place) k e = tt

-- what follows the first part of a function
pub first_follows : (x : Part) (us : Uses) (k : List Sign) → WellUses us → DerivedFollows (derived x us) k → Follows x (uses_signs us k)
first_follows x no_uses k w (inl a) = calm_follows x k a
first_follows x no_uses k w (inr f) = function_follows x k f.0
first_follows x (and_uses (One m) us) k w d = calm_follows x (part_signs m (uses_signs us k)) (part_arrows m (uses_signs us k) w.0)
first_follows x (and_uses (Two m y) us) k w d = calm_follows x (part_signs m (part_signs y (uses_signs us k))) (part_arrows m (part_signs y (uses_signs us k)) w.0.0)

-- what follows modifiers
abbrev pub UsesFollow : Uses → List Sign → Type 0
UsesFollow us k = Arrows false k ⊎ (UsesFit us × LastOperand us)

pub uses_of : (x : Part) (us : Uses) (k : List Sign) → DerivedFollows (derived x us) k → UsesFollow us k
uses_of x us k (inl a) = inl a
uses_of x no_uses k (inr f) = inr (tt, tt)
uses_of x (and_uses u us) k (inr f) = inr ((f.0.1, f.0.2), f.1)

pub one_follows : (m : Part) (us : Uses) (k : List Sign) → WellUses us → UsesFollow (and_uses (One m) us) k → Follows m (uses_signs us k)
one_follows m no_uses k w (inl a) = calm_follows m k a
one_follows m no_uses k w (inr f) = modifier_follows m k f.0.0
one_follows m (and_uses (One n) us) k w d = calm_follows m (part_signs n (uses_signs us k)) (part_arrows n (uses_signs us k) w.0)
one_follows m (and_uses (Two n y) us) k w d = calm_follows m (part_signs n (part_signs y (uses_signs us k))) (part_arrows n (part_signs y (uses_signs us k)) w.0.0)

pub two_follows : (m x : Part) (us : Uses) (k : List Sign) → WellUses us → UsesFollow (and_uses (Two m x) us) k → Follows x (uses_signs us k)
two_follows m x no_uses k w (inl a) = calm_follows x k a
two_follows m x no_uses k w (inr f) = no_list_follows x k f.1
two_follows m x (and_uses (One n) us) k w d = calm_follows x (part_signs n (uses_signs us k)) (part_arrows n (uses_signs us k) w.0)
two_follows m x (and_uses (Two n y) us) k w d = calm_follows x (part_signs n (part_signs y (uses_signs us k))) (part_arrows n (part_signs y (uses_signs us k)) w.0.0)

pub rest_follow_one : (m : Part) (us : Uses) (k : List Sign) → UsesFollow (and_uses (One m) us) k → UsesFollow us k
rest_follow_one m us k (inl a) = inl a
rest_follow_one m us k (inr f) = inr (f.0.1, f.1)

pub rest_follow_two : (m x : Part) (us : Uses) (k : List Sign) → UsesFollow (and_uses (Two m x) us) k → UsesFollow us k
rest_follow_two m x us k (inl a) = inl a
rest_follow_two m x no_uses k (inr f) = inr (tt, tt)
rest_follow_two m x (and_uses u us) k (inr f) = inr (f.0.1, f.1)

-- what passes colons on
pub names_colons : (c : Bool) (names : List Token) (k : List Sign) → AllStand names → Colons c k → Colons c (name_signs names k)
names_colons c names k w y ts f = let p = names_passes names k ts w f in p.colon ∙ y p.rest p.fits

pub part_colons : (c : Bool) (x : Part) (k : List Sign) → WellPart x → Colons c k → Colons c (part_signs x k)
part_colons c x k w y ts f = let p = part_passes x k ts w f in p.colon ∙ y p.rest p.fits

pub parts_more_colons : (c : Bool) (xs : Parts) (k : List Sign) → WellParts xs → Colons c k → Colons c (parts_more xs k)
parts_more_colons c xs k w y ts f = let p = parts_more_passes xs k ts w f in p.colon ∙ y p.rest p.fits

pub uses_colons : (c : Bool) (us : Uses) (k : List Sign) → WellUses us → Colons c k → Colons c (uses_signs us k)
uses_colons c us k w y ts f = let p = uses_passes us k ts w f in p.colon ∙ y p.rest p.fits

pub derived_colons : (c : Bool) (d : Derived) (k : List Sign) → WellDerived d → Colons c k → Colons c (derived_signs d k)
derived_colons c d k w y ts f = let p = derived_passes d k ts w f in p.colon ∙ y p.rest p.fits

pub deriveds_colons : (c : Bool) (ds : Deriveds) (k : List Sign) → WellDeriveds ds → Colons c k → Colons c (deriveds_signs ds k)
deriveds_colons c ds k w y ts f = let p = deriveds_passes ds k ts w f in p.colon ∙ y p.rest p.fits

pub step_colons : (c : Bool) (s : Step) (k : List Sign) → WellStep s → Colons c k → Colons c (step_signs s k)
step_colons c s k w y ts f = let p = step_passes s k ts w f in p.colon ∙ y p.rest p.fits

-- an arrow passes colons on
pub drawn_colons : (c : Bool) (a : Arrow) (k : List Sign) → Colons c k → Colons c (Mark (arrow_code a) ∷ k)
drawn_colons c a k y ts f = let p = passes_mark (Draws a) (arrow_code a) k ts (arrow_sort a) tt f in p.colon ∙ y p.rest p.fits

-- arrows ahead of steps: after them stands a part, or nothing that begins with an arrow
pub step_arrows : (s : Step) (k : List Sign) → WellStep s → Arrows false (step_signs s k)
step_arrows (Apply d none) k w = derived_arrows d k w.1
step_arrows (Apply d (some x)) k w = part_arrows x (derived_signs d k) w.3
step_arrows (Assign q a) k w = pattern_arrows false q (Mark (arrow_code a) ∷ k) w.1
step_arrows (Modify t d) k w = λ ts f. exact_arrow_ahead Stands t (derived_signs d (Mark punctuation.change_arrow ∷ k)) ts (name_stands tag.Subject t.kind w.0) tt f

-- names and targets
pub names_arrive : (names : List Token) (so : OpenBrackets) (k : List Sign) (ts : List Token) → AllStand names → Fits (name_signs names k) ts → Arrives so (name_items names) k ts
names_arrive [] so k ts w f = nothing_more so k ts f
names_arrive (t ∷ names) so k ts w f =
    and_then (take_mark so Selects Selecting punctuation.dot (Exact t ∷ name_signs names k) ts refl (λ a u rest. refl) f) (λ first rest g.
    and_then (take_exact (open_brackets (having so.inner (Selecting ∷ []) first) so.outer) Stands (part_item (Leaf t)) t (name_signs names k) rest w.0 (λ a more. refl) g) (λ second more h.
    names_arrive names (open_brackets (having (having so.inner (Selecting ∷ []) first) (part_item (Leaf t) ∷ []) second) so.outer) k more w.1 h))

pub targets_arrive : (r : Tag) (targets : List (Token × Arrow)) (so : OpenBrackets) (k : List Sign) (ts : List Token) → TargetsFit r targets → Fits (target_signs targets k) ts → Arrives so (target_items targets) k ts
targets_arrive r [] so k ts w f = nothing_more so k ts f
targets_arrive r (t ∷ targets) so k ts w f =
    and_then (take_exact so Stands (part_item (Leaf t.0)) t.0 (Mark (arrow_code t.1) ∷ target_signs targets k) ts (name_stands r t.0.kind w.0) (λ a rest. refl) f) (λ first rest g.
    and_then (take_mark (open_brackets (having so.inner (part_item (Leaf t.0) ∷ []) first) so.outer) (Draws t.1) (Drawn t.1) (arrow_code t.1) (target_signs targets k) rest (arrow_sort t.1) (λ a u more. refl) g) (λ second more h.
    targets_arrive r targets (open_brackets (having (having so.inner (part_item (Leaf t.0) ∷ []) first) (Drawn t.1 ∷ []) second) so.outer) k more w.1 h))
