-- The units of a piece are what its terms spell, and they are well.
use Rattle.std.proofs.Common.{◌≡◌, false, List, [], ◌∷◌, ◌++◌, Some, refl, sym, ap, ◌∙◌, subst, append_assoc, append-nil}
use Rattle.bqn_syntax.specs.declared.sort.Tag.{Tag}
use Rattle.bqn_syntax.specs.declared.sort.Tag.TheVariants as tag
use Rattle.bqn_syntax.specs.grammar.Sorts.{tag as tag_of}
use Rattle.bqn_syntax.specs.grammar.Items.{Item, Drawn, Term, Operand, Target, Draw}
use Rattle.bqn_syntax.specs.grammar.Units.{Unit', Subject, Function, Absent, Alone, Arrow', Aim, Binding, Free, Bound, Wanting, Row, row, alone, unit_of, closed, operand, modified, modified_twice, beside, bind_part, bind, binds, bound, units_of}
use Rattle.bqn_syntax.specs.grammar.Well.{WellPart, WellPattern, WellUses, WellUse, WellDerived, IsOperand, IsModifier, IsFunction, UseFits, UsesFit, LastOperand, MayStandBeforeArrow}
use Rattle.bqn_syntax.specs.grammar.Trees.{Part, Use, One, Two, no_uses, and_uses, uses}
use Rattle.bqn_grammar.proofs.TreeItems.{part_items, pattern_items, use_items, uses_items, derived_items}
use Rattle.bqn_grammar.proofs.only.Elements.{map_some, and_then_some}
use Rattle.bqn_grammar.proofs.only.Terms.{term_items, terms_items, IsAim, GoodTerm, GoodTerms, FollowedBy, TermsFit, TermsRead}

abbrev pub unit_items : Unit' → List Item
unit_items (Subject x) = part_items x
unit_items (Function f) = derived_items f
unit_items (Absent x) = part_items x
unit_items (Alone m) = part_items m
unit_items (Arrow' a) = Drawn a ∷ []
unit_items (Aim q) = pattern_items q

-- of units, the last one first
abbrev pub units_items : List Unit' → List Item
units_items [] = []
units_items (u ∷ us) = units_items us ++ unit_items u

-- What is kept of units.

abbrev pub WellUnit : Unit' → Type 0
WellUnit (Subject x) = (tag_of x ≡ tag.Subject) × WellPart x
WellUnit (Function f) = IsFunction f × WellDerived f
WellUnit (Absent x) = (tag_of x ≡ tag.Nothing) × WellPart x
WellUnit (Alone m) = IsModifier (tag_of m) × WellPart m
WellUnit (Arrow' a) = Unit {0}
WellUnit (Aim q) = IsAim q × WellPattern false q

abbrev pub MayPrecede : Unit' → Type 0
MayPrecede (Function f) = MayStandBeforeArrow f
MayPrecede _ = Unit {0}

abbrev pub HeadFits : List Unit' → Type 0
HeadFits [] = Unit {0}
HeadFits (u ∷ us) = MayPrecede u

-- a function directly before an arrow ends in no list and no strand
abbrev pub ArrowFits : Unit' → List Unit' → Type 0
ArrowFits (Arrow' a) us = HeadFits us
ArrowFits _ us = Unit {0}

abbrev pub WellUnits : List Unit' → Type 0
WellUnits [] = Unit {0}
WellUnits (u ∷ us) = WellUnit u × ArrowFits u us × WellUnits us

pub record UnitsRead (items : List Item) (units : List Unit') : Type 0 where
  pub written : units_items units ≡ items
  pub well : WellUnits units

-- An operand and its modifiers.

abbrev pub binding_items : Binding → List Item
binding_items Free = []
binding_items (Bound x us) = part_items x ++ uses_items (uses us)
binding_items (Wanting x us m) = part_items x ++ (uses_items (uses us) ++ part_items m)

record WellBound (x : Part) (us : List Use) : Type 0 where
  pub operand : IsOperand (tag_of x)
  pub part : WellPart x
  pub fit : UsesFit (uses us)
  pub well : WellUses (uses us)

abbrev WellBinding : Binding → Type 0
WellBinding Free = Unit {0}
WellBinding (Bound x us) = WellBound x us
WellBinding (Wanting x us m) = WellBound x us × (tag_of m ≡ tag.Mod2) × WellPart m

abbrev MayDraw : List Unit' → Binding → Type 0
MayDraw units Free = HeadFits units
MayDraw units (Bound x us) = LastOperand (uses us)
MayDraw units (Wanting x us m) = Unit {0}

abbrev ReadyFor : Term → List Unit' → Binding → Type 0
ReadyFor (Draw a) units binding = MayDraw units binding
ReadyFor _ units binding = Unit {0}

abbrev Ready : List Term → List Unit' → Binding → Type 0
Ready [] units binding = Unit {0}
Ready (t ∷ ts) units binding = ReadyFor t units binding

-- the row so far has these items, and may be followed by these terms
record Taken (units : List Unit') (binding : Binding) (items : List Item) (ts : List Term) : Type 0 where
  pub written : units_items units ++ binding_items binding ≡ items
  pub well : WellUnits units
  pub now : WellBinding binding
  pub ready : Ready ts units binding

abbrev Took : Row → List Item → List Term → Type 0
Took so items ts = Taken so.units so.binding items ts

ready_for : (t : Term) (units : List Unit') (binding : Binding) → MayDraw units binding → ReadyFor t units binding
ready_for (Draw a) units binding h = h
ready_for (Operand x) units binding h = tt
ready_for (Target q) units binding h = tt

always : (ts : List Term) (units : List Unit') (binding : Binding) → MayDraw units binding → Ready ts units binding
always [] units binding h = tt
always (t ∷ ts) units binding h = ready_for t units binding h

record UnitOf (x : Part) (us : List Use) (u : Unit') : Type 0 where
  pub written : unit_items u ≡ part_items x ++ uses_items (uses us)
  pub well : WellUnit u
  pub fits : (units : List Unit') → ArrowFits u units
  pub head : LastOperand (uses us) → MayPrecede u

alone_unit : (x : Part) (t : Tag) → tag_of x ≡ t → IsOperand t → WellPart x → UnitOf x [] (alone t x)
alone_unit x tag.Subject e o w = record { written = sym (append-nil (part_items x)); well = (e, w); fits = λ units. tt; head = λ h. tt }
alone_unit x tag.Function e o w = record { written = refl; well = (e, (w, tt)); fits = λ units. tt; head = λ h. tt }
alone_unit x tag.Mod1 e o w = elim o [ ]
alone_unit x tag.Mod2 e o w = elim o [ ]
alone_unit x tag.Nothing e o w = elim o [ ]

unit_is : (x : Part) (us : List Use) → WellBound x us → UnitOf x us (unit_of x us)
unit_is x [] b = alone_unit x (tag_of x) refl b.operand b.part
unit_is x (u ∷ us) b = record { written = refl; well = ((b.operand, b.fit.0, b.fit.1), (b.part, b.well)); fits = λ units. tt; head = λ h. h }

with_unit : (units : List Unit') (x : Part) (us : List Use) (items : List Item) (ts : List Term) → Taken units (Bound x us) items ts → UnitsRead items (unit_of x us ∷ units)
with_unit units x us items ts k =
    let u = unit_is x us k.now in
    record { written = ap (λ (l : List Item). units_items units ++ l) u.written ∙ k.written; well = (u.well, u.fits units, k.well) }

as_they_are : (units : List Unit') (items : List Item) (ts : List Term) → Taken units Free items ts → UnitsRead items units
as_they_are units items ts k = record { written = sym (append-nil (units_items units)) ∙ k.written; well = k.well }

record Closed (units : List Unit') (binding : Binding) (items : List Item) (all : List Unit') : Type 0 where
  pub read : UnitsRead items all
  pub head : MayDraw units binding → HeadFits all

closed_read : (units : List Unit') (binding : Binding) (items : List Item) (ts : List Term) (all : List Unit') → Taken units binding items ts → closed units binding ≡ Some all → Closed units binding items all
closed_read units Free items ts all k e =
    let q : units ≡ all = cc in
    subst (λ (l : List Unit'). Closed units Free items l) q (record { read = as_they_are units items ts k; head = λ h. h })
closed_read units (Bound x us) items ts all k e =
    let q : unit_of x us ∷ units ≡ all = cc in
    subst (λ (l : List Unit'). Closed units (Bound x us) items l) q (record { read = with_unit units x us items ts k; head = λ h. (unit_is x us k.now).head h })
closed_read units (Wanting x us m) items ts all k e = absurd (cc)

beside_taken : (u : Unit') (units : List Unit') (binding : Binding) (items : List Item) (before ts : List Term) (next : Row) → WellUnit u → ((all : List Unit') → (MayDraw units binding → HeadFits all) → ArrowFits u all) → MayPrecede u → Taken units binding items before → beside u units binding ≡ Some next → Took next (items ++ unit_items u) ts
beside_taken u units binding items before ts next w f p k e =
    let m = map_some (λ (all : List Unit'). row (u ∷ all) Free) (closed units binding) next e in
    let c = closed_read units binding items before m.0 k m.1 in
    subst (λ (r : Row). Took r (items ++ unit_items u) ts) m.2 (record {
      written = append-nil (units_items m.0 ++ unit_items u) ∙ ap (λ (l : List Item). l ++ unit_items u) c.read.written;
      well = (w, f m.0 c.head, c.read.well);
      now = tt;
      ready = always ts (u ∷ m.0) Free p;
    })

-- Uses.

uses_last : (us : List Use) (u : Use) → uses_items (uses (us ++ u ∷ [])) ≡ uses_items (uses us) ++ use_items u
uses_last [] u = append-nil (use_items u)
uses_last (v ∷ us) u = ap (λ (l : List Item). use_items v ++ l) (uses_last us u) ∙ sym (append_assoc (use_items v) (uses_items (uses us)) (use_items u))

fit_last : (us : List Use) (u : Use) → UsesFit (uses us) → UseFits u → UsesFit (uses (us ++ u ∷ []))
fit_last [] u f g = (g, tt)
fit_last (v ∷ us) u f g = (f.0, fit_last us u f.1 g)

well_last : (us : List Use) (u : Use) → WellUses (uses us) → WellUse u → WellUses (uses (us ++ u ∷ []))
well_last [] u f g = (g, tt)
well_last (v ∷ us) u f g = (f.0, well_last us u f.1 g)

last_is : (us : List Use) (u : Use) → LastOperand (and_uses u no_uses) → LastOperand (uses (us ++ u ∷ []))
last_is [] u h = h
last_is (One m ∷ us) u h = last_is us u h
last_is (Two m x ∷ []) u h = h
last_is (Two m x ∷ v ∷ us) u h = last_is (v ∷ us) u h

bound_last : (x : Part) (us : List Use) (u : Use) → WellBound x us → UseFits u → WellUse u → WellBound x (us ++ u ∷ [])
bound_last x us u b f w = record { operand = b.operand; part = b.part; fit = fit_last us u b.fit f; well = well_last us u b.well w }

-- One more part.

first_bound : (units : List Unit') (items : List Item) (x : Part) (ts : List Term) → UnitsRead items units → IsOperand (tag_of x) → WellPart x → Taken units (Bound x []) (items ++ part_items x) ts
first_bound units items x ts k o w = record {
  written = ap (λ (l : List Item). units_items units ++ l) (append-nil (part_items x)) ∙ ap (λ (l : List Item). l ++ part_items x) k.written;
  well = k.well;
  now = record { operand = o; part = w; fit = tt; well = tt };
  ready = always ts units (Bound x []) tt;
}

behind : (a b c d e : List Item) → a ++ (b ++ (c ++ (d ++ e))) ≡ (a ++ (b ++ (c ++ d))) ++ e
behind a b c d e = simp append_assoc

ready_two : (x : Part) (ts : List Term) → FollowedBy x ts → (units : List Unit') (y : Part) (us : List Use) (m : Part) → Ready ts units (Bound y (us ++ Two m x ∷ []))
ready_two x [] f units y us m = tt
ready_two x (Draw a ∷ ts) f units y us m = last_is us (Two m x) f
ready_two x (Operand z ∷ ts) f units y us m = tt
ready_two x (Target q ∷ ts) f units y us m = tt

operand_taken : (units : List Unit') (binding : Binding) (items : List Item) (x : Part) (before ts : List Term) → IsOperand (tag_of x) → WellPart x → FollowedBy x ts → Taken units binding items before → Took (operand units binding x) (items ++ part_items x) ts
operand_taken units Free items x before ts o w f k = first_bound units items x ts (as_they_are units items before k) o w
operand_taken units (Bound y us) items x before ts o w f k = first_bound (unit_of y us ∷ units) items x ts (with_unit units y us items before k) o w
operand_taken units (Wanting y us m) items x before ts o w f k = record {
  written = ap (λ (l : List Item). units_items units ++ (part_items y ++ l)) (uses_last us (Two m x)) ∙ behind (units_items units) (part_items y) (uses_items (uses us)) (part_items m) (part_items x) ∙ ap (λ (l : List Item). l ++ part_items x) k.written;
  well = k.well;
  now = bound_last y us (Two m x) k.now.0 (k.now.1, o) (k.now.2, w);
  ready = ready_two x ts f units y us m;
}

is_modifier : (m : Part) (t : Tag) → IsModifier t → tag_of m ≡ t → IsModifier (tag_of m)
is_modifier m t i e = subst IsModifier (sym e) i

alone_taken : (units : List Unit') (items : List Item) (m : Part) (before ts : List Term) → IsModifier (tag_of m) → WellPart m → Taken units Free items before → Taken (Alone m ∷ units) Free (items ++ part_items m) ts
alone_taken units items m before ts i w k =
    let r = as_they_are units items before k in
    record {
      written = append-nil (units_items units ++ part_items m) ∙ ap (λ (l : List Item). l ++ part_items m) r.written;
      well = ((i, w), tt, r.well);
      now = tt;
      ready = always ts (Alone m ∷ units) Free tt;
    }

with_one : (a b c d : List Item) → a ++ (b ++ (c ++ d)) ≡ (a ++ (b ++ c)) ++ d
with_one a b c d = simp append_assoc

modified_taken : (units : List Unit') (binding : Binding) (items : List Item) (m : Part) (before ts : List Term) (next : Row) → tag_of m ≡ tag.Mod1 → WellPart m → Taken units binding items before → modified units binding m ≡ Some next → Took next (items ++ part_items m) ts
modified_taken units Free items m before ts next t w k e =
    let q : row (Alone m ∷ units) Free ≡ next = cc in
    subst (λ (r : Row). Took r (items ++ part_items m) ts) q (alone_taken units items m before ts (is_modifier m tag.Mod1 tt t) w k)
modified_taken units (Bound y us) items m before ts next t w k e =
    let q : row units (Bound y (us ++ One m ∷ [])) ≡ next = cc in
    subst (λ (r : Row). Took r (items ++ part_items m) ts) q (record {
      written = ap (λ (l : List Item). units_items units ++ (part_items y ++ l)) (uses_last us (One m)) ∙ with_one (units_items units) (part_items y) (uses_items (uses us)) (part_items m) ∙ ap (λ (l : List Item). l ++ part_items m) k.written;
      well = k.well;
      now = bound_last y us (One m) k.now t w;
      ready = always ts units (Bound y (us ++ One m ∷ [])) (last_is us (One m) tt);
    })
modified_taken units (Wanting y us n) items m before ts next t w k e = absurd (cc)

modified_twice_taken : (units : List Unit') (binding : Binding) (items : List Item) (m : Part) (before ts : List Term) (next : Row) → tag_of m ≡ tag.Mod2 → WellPart m → Taken units binding items before → modified_twice units binding m ≡ Some next → Took next (items ++ part_items m) ts
modified_twice_taken units Free items m before ts next t w k e =
    let q : row (Alone m ∷ units) Free ≡ next = cc in
    subst (λ (r : Row). Took r (items ++ part_items m) ts) q (alone_taken units items m before ts (is_modifier m tag.Mod2 tt t) w k)
modified_twice_taken units (Bound y us) items m before ts next t w k e =
    let q : row units (Wanting y us m) ≡ next = cc in
    subst (λ (r : Row). Took r (items ++ part_items m) ts) q (record {
      written = with_one (units_items units) (part_items y) (uses_items (uses us)) (part_items m) ∙ ap (λ (l : List Item). l ++ part_items m) k.written;
      well = k.well;
      now = (k.now, t, w);
      ready = always ts units (Wanting y us m) tt;
    })
modified_twice_taken units (Wanting y us n) items m before ts next t w k e = absurd (cc)

is_operand : (x : Part) (t : Tag) → IsOperand t → tag_of x ≡ t → IsOperand (tag_of x)
is_operand x t i e = subst IsOperand (sym e) i

operand_so : (units : List Unit') (binding : Binding) (items : List Item) (x : Part) (before ts : List Term) (next : Row) → IsOperand (tag_of x) → WellPart x → FollowedBy x ts → Taken units binding items before → Some (operand units binding x) ≡ Some next → Took next (items ++ part_items x) ts
operand_so units binding items x before ts next o w f k e =
    let q : operand units binding x ≡ next = cc in
    subst (λ (r : Row). Took r (items ++ part_items x) ts) q (operand_taken units binding items x before ts o w f k)

part_taken : (units : List Unit') (binding : Binding) (items : List Item) (x : Part) (before ts : List Term) (next : Row) (t : Tag) → tag_of x ≡ t → WellPart x → FollowedBy x ts → Taken units binding items before → bind_part t units binding x ≡ Some next → Took next (items ++ part_items x) ts
part_taken units binding items x before ts next tag.Subject h w f k e = operand_so units binding items x before ts next (is_operand x tag.Subject tt h) w f k e
part_taken units binding items x before ts next tag.Function h w f k e = operand_so units binding items x before ts next (is_operand x tag.Function tt h) w f k e
part_taken units binding items x before ts next tag.Mod1 h w f k e = modified_taken units binding items x before ts next h w k e
part_taken units binding items x before ts next tag.Mod2 h w f k e = modified_twice_taken units binding items x before ts next h w k e
part_taken units binding items x before ts next tag.Nothing h w f k e = beside_taken (Absent x) units binding items before ts next (h, w) (λ all j. tt) tt k e

bind_taken : (so : Row) (items : List Item) (t : Term) (ts : List Term) (next : Row) → Took so items (t ∷ ts) → GoodTerm t → TermsFit (t ∷ ts) → bind so t ≡ Some next → Took next (items ++ term_items t) ts
bind_taken so items (Operand x) ts next k g f e = part_taken so.units so.binding items x (Operand x ∷ ts) ts next (tag_of x) refl g f.0 k e
bind_taken so items (Target q) ts next k g f e = beside_taken (Aim q) so.units so.binding items (Target q ∷ ts) ts next g (λ all j. tt) tt k e
bind_taken so items (Draw a) ts next k g f e = beside_taken (Arrow' a) so.units so.binding items (Draw a ∷ ts) ts next tt (λ all j. j k.ready) tt k e

rest_fits : (t : Term) (ts : List Term) → TermsFit (t ∷ ts) → TermsFit ts
rest_fits (Operand x) ts f = f.1
rest_fits (Target q) ts f = f
rest_fits (Draw a) ts f = f

binds_taken : (so : Row) (items : List Item) (ts : List Term) (last : Row) → Took so items ts → GoodTerms ts → TermsFit ts → binds so ts ≡ Some last → Took last (items ++ terms_items ts) []
binds_taken so items [] last k g f e =
    let q : so ≡ last = cc in
    subst (λ (r : Row). Took r (items ++ []) []) q (subst (λ (l : List Item). Took so l []) (sym (append-nil items)) k)
binds_taken so items (t ∷ ts) last k g f e =
    let m = and_then_some (λ (next : Row). binds next ts) (bind so t) last e in
    subst (λ (l : List Item). Took last l []) (append_assoc items (term_items t) (terms_items ts)) (binds_taken m.0 (items ++ term_items t) ts last (bind_taken so items t ts m.0 k g.0 f m.1) g.1 (rest_fits t ts f) m.2)

nothing_taken : (ts : List Term) → Taken [] Free [] ts
nothing_taken ts = record { written = refl; well = tt; now = tt; ready = always ts [] Free tt }

pub units_only : (items : List Item) (terms : List Term) (units : List Unit') → TermsRead items terms → units_of terms ≡ Some units → UnitsRead items units
units_only items terms units k e =
    let m = and_then_some bound (binds (row [] Free) terms) units e in
    let t = binds_taken (row [] Free) [] terms m.0 (nothing_taken terms) k.good k.fit m.1 in
    let c = closed_read m.0.units m.0.binding (terms_items terms) [] units t m.2 in
    record { written = c.read.written ∙ k.written; well = c.read.well }
