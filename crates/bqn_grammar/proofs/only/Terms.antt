-- The terms of a piece are what its items spell.
use Rattle.std.proofs.Common.{◌≡◌, Bool, true, false, List, [], ◌∷◌, ◌++◌, Some, refl, sym, ap, ◌∙◌, subst, append_assoc, append-nil}
use Rattle.std.specs.Option.{option_map}
use Rattle.bqn_base.specs.declared.role.Role.TheVariants as role
use Rattle.bqn_syntax.specs.declared.token.Kind.{Kind}
use Rattle.bqn_syntax.specs.declared.token.Kind.TheVariants as kind
use Rattle.bqn_syntax.specs.declared.token.Token.{Token}
use Rattle.bqn_syntax.specs.declared.tree.Arrow.{Arrow}
use Rattle.bqn_syntax.specs.declared.sort.Tag.{Tag}
use Rattle.bqn_syntax.specs.declared.sort.Tag.TheVariants as tag
use Rattle.bqn_syntax.specs.grammar.Sorts.{tag as tag_of, kind_tag, last_tag, same_tag, is_word, is_name}
use Rattle.bqn_syntax.specs.grammar.Items.{Element, OfPart, OfList, Item, Standing, Drawn, Joining, Selecting, Wrong, each, element_part, element_pattern, Term, Operand, Target, Draw, plain_term, aimed_term, Reading, Between, At, Joined, Selected, Terms, reads, plain_terms, aimed_terms, with_name, selected, stand, join, select_of, select, put, puts, finished, terms_of}
use Rattle.bqn_syntax.specs.grammar.Well.{WellPart, WellPattern, NamesFit, EndsInNoList}
use Rattle.bqn_syntax.specs.grammar.Trees.{Pattern, Name, Skip, Literal, ListPattern, StrandPattern, patterns, Part, Leaf, Elements, Field, Strand, parts}
use Rattle.bqn_grammar.proofs.TreeItems.{part_item, part_items, name_items, pattern_items, IsList, GoodElement, GoodItem, GoodItems}
use Rattle.bqn_grammar.proofs.only.Elements.{map_some, and_then_some, element_items, joins, joins_last, GoodPart, Good, Goods, goods_last, element_good, element_one, elements_are, patterns_are, each_joined, two_parts, two_patterns}

abbrev pub term_items : Term → List Item
term_items (Operand x) = part_items x
term_items (Target q) = pattern_items q
term_items (Draw a) = Drawn a ∷ []

abbrev pub terms_items : List Term → List Item
terms_items [] = []
terms_items (t ∷ ts) = term_items t ++ terms_items ts

terms_last : (ts : List Term) (t : Term) → terms_items (ts ++ t ∷ []) ≡ terms_items ts ++ term_items t
terms_last [] t = append-nil (term_items t)
terms_last (u ∷ ts) t = ap (λ (l : List Item). term_items u ++ l) (terms_last ts t) ∙ sym (append_assoc (term_items u) (terms_items ts) (term_items t))

-- What is kept of terms.

-- a target that is no name
abbrev pub IsAim : Pattern → Type 0
IsAim (ListPattern qs) = Unit {0}
IsAim (StrandPattern qs) = Unit {0}
IsAim _ = ⊥

abbrev pub GoodTerm : Term → Type 0
GoodTerm (Operand x) = WellPart x
GoodTerm (Target q) = IsAim q × WellPattern false q
GoodTerm (Draw a) = Unit {0}

abbrev pub GoodTerms : List Term → Type 0
GoodTerms [] = Unit {0}
GoodTerms (t ∷ ts) = GoodTerm t × GoodTerms ts

abbrev pub MayStandBefore : Term → Part → Type 0
MayStandBefore (Draw a) x = EndsInNoList x
MayStandBefore _ x = Unit {0}

abbrev pub FollowedBy : Part → List Term → Type 0
FollowedBy x [] = Unit {0}
FollowedBy x (t ∷ ts) = MayStandBefore t x

-- an operand directly before an arrow is no list and no strand
abbrev pub TermsFit : List Term → Type 0
TermsFit [] = Unit {0}
TermsFit (Operand x ∷ ts) = FollowedBy x ts × TermsFit ts
TermsFit (Target q ∷ ts) = TermsFit ts
TermsFit (Draw a ∷ ts) = TermsFit ts

abbrev EndsWell : Term → Type 0
EndsWell (Operand x) = EndsInNoList x
EndsWell _ = Unit {0}

abbrev EndsFit : List Term → Type 0
EndsFit [] = Unit {0}
EndsFit (t ∷ []) = EndsWell t
EndsFit (t ∷ u ∷ ts) = EndsFit (u ∷ ts)

abbrev IsDraw : Term → Type 0
IsDraw (Draw a) = Unit {0}
IsDraw _ = ⊥

good_last : (ts : List Term) (t : Term) → GoodTerms ts → GoodTerm t → GoodTerms (ts ++ t ∷ [])
good_last [] t g h = (h, tt)
good_last (u ∷ ts) t g h = (g.0, good_last ts t g.1 h)

ends_last : (ts : List Term) (t : Term) → EndsWell t → EndsFit (ts ++ t ∷ [])
ends_last [] t h = h
ends_last (u ∷ []) t h = h
ends_last (u ∷ v ∷ ts) t h = ends_last (v ∷ ts) t h

follows : (y : Part) (t : Term) → (IsDraw t → EndsInNoList y) → FollowedBy y (t ∷ [])
follows y (Draw a) h = h tt
follows y (Operand x) h = tt
follows y (Target q) h = tt

alone_fits : (t : Term) → TermsFit (t ∷ [])
alone_fits (Draw a) = tt
alone_fits (Operand x) = (tt, tt)
alone_fits (Target q) = tt

fit_last : (ts : List Term) (t : Term) → (IsDraw t → EndsFit ts) → TermsFit ts → TermsFit (ts ++ t ∷ [])
fit_last [] t h f = alone_fits t
fit_last (Operand y ∷ []) t h f = (follows y t h, alone_fits t)
fit_last (Operand y ∷ u ∷ ts) t h f = (f.0, fit_last (u ∷ ts) t h f.1)
fit_last (Target q ∷ []) t h f = alone_fits t
fit_last (Target q ∷ u ∷ ts) t h f = fit_last (u ∷ ts) t h f
fit_last (Draw a ∷ []) t h f = alone_fits t
fit_last (Draw a ∷ u ∷ ts) t h f = fit_last (u ∷ ts) t h f

pub record TermsRead (items : List Item) (terms : List Term) : Type 0 where
  pub written : terms_items terms ≡ items
  pub good : GoodTerms terms
  pub fit : TermsFit terms

-- One term.

record TermOf (items : List Item) (t : Term) : Type 0 where
  pub written : term_items t ≡ items
  pub good : GoodTerm t
  pub plain : IsDraw t → ⊥

plain_is : (ys : List Element) (x : Element) (t : Term) → Goods false ys → Good false x → plain_term ys x ≡ Some t → TermOf (joins ys ++ element_items x) t
plain_is [] (OfPart x) t gs g e = let q : Operand x ≡ t = cc in subst (λ (u : Term). TermOf (part_items x) u) q (record { written = refl; good = g.1; plain = λ i. i })
plain_is [] (OfList p) t gs g e = absurd (cc)
plain_is (y ∷ ys) x t gs g e =
    let m = map_some (λ (ps : List Part). Operand (Strand (parts ps))) (each element_part (y ∷ (ys ++ x ∷ []))) t e in
    let k = elements_are false (y ∷ (ys ++ x ∷ [])) m.0 (goods_last false (y ∷ ys) x gs g) m.1 in
    subst (λ (u : Term). TermOf (joins (y ∷ ys) ++ element_items x) u) m.2 (record { written = k.written ∙ joins_last (y ∷ ys) x; good = (two_parts m.0 (each_joined element_part y ys x m.0 m.1), k.well); plain = λ i. i })

record Aimed (items : List Item) (t : Term) : Type 0 where
  pub term : TermOf items t
  pub ends : EndsWell t

aimed_operand : (x : Part) (t : Term) → GoodPart x → EndsInNoList x → Some (Operand x) ≡ Some t → Aimed (part_items x) t
aimed_operand x t g h e = let q : Operand x ≡ t = cc in subst (λ (u : Term). Aimed (part_items x) u) q (record { term = record { written = refl; good = g.1; plain = λ i. i }; ends = h })

aim_list : (q : Pattern) → IsList q → IsAim q
aim_list (ListPattern qs) o = tt
aim_list (Name t) o = elim o [ ]
aim_list (Skip p) o = elim o [ ]
aim_list (Literal t) o = elim o [ ]
aim_list (StrandPattern qs) o = elim o [ ]

aimed_is : (ys : List Element) (x : Element) (t : Term) → Goods false ys → Good false x → aimed_term ys x ≡ Some t → Aimed (joins ys ++ element_items x) t
aimed_is [] (OfPart (Elements es)) t gs g e = absurd (cc)
aimed_is [] (OfPart (Strand ps)) t gs g e = elim g.0 [ ]
aimed_is [] (OfPart x) t gs g e = aimed_operand x t g tt e
aimed_is [] (OfList p) t gs g e = let q : Target p ≡ t = cc in subst (λ (u : Term). Aimed (pattern_items p) u) q (record { term = record { written = refl; good = (aim_list p g.0, g.1); plain = λ i. i }; ends = tt })
aimed_is (y ∷ ys) x t gs g e =
    let m = map_some (λ (qs : List Pattern). Target (StrandPattern (patterns qs))) (each (element_pattern false) (y ∷ (ys ++ x ∷ []))) t e in
    let k = patterns_are false (y ∷ (ys ++ x ∷ [])) m.0 (goods_last false (y ∷ ys) x gs g) m.1 in
    subst (λ (u : Term). Aimed (joins (y ∷ ys) ++ element_items x) u) m.2 (record { term = record { written = k.written ∙ joins_last (y ∷ ys) x; good = (tt, (two_patterns m.0 (each_joined (element_pattern false) y ys x m.0 m.1), k.well)); plain = λ i. i }; ends = tt })

-- What is being read.

abbrev reading_items : Reading → List Item
reading_items Between = []
reading_items (At ys x) = joins ys ++ element_items x
reading_items (Joined ys) = joins ys
reading_items (Selected ys x) = joins ys ++ (part_items x ++ Selecting ∷ [])

abbrev GoodReading : List Term → Reading → Type 0
GoodReading terms Between = EndsFit terms
GoodReading terms (At ys x) = Goods false ys × Good false x
GoodReading terms (Joined ys) = Goods false ys
GoodReading terms (Selected ys x) = Goods false ys × GoodPart x × (tag_of x ≡ tag.Subject)

record Taken (terms : List Term) (reading : Reading) (items : List Item) : Type 0 where
  pub written : terms_items terms ++ reading_items reading ≡ items
  pub good : GoodTerms terms
  pub fit : TermsFit terms
  pub now : GoodReading terms reading

added : (terms : List Term) (reading : Reading) (items : List Item) (t : Term) → Taken terms reading items → TermOf (reading_items reading) t → TermsRead items (terms ++ t ∷ [])
added terms reading items t k h = record {
  written = terms_last terms t ∙ ap (λ (l : List Item). terms_items terms ++ l) h.written ∙ k.written;
  good = good_last terms t k.good h.good;
  fit = fit_last terms t (λ d. absurd (h.plain d)) k.fit;
}

same_terms : (terms all : List Term) (items : List Item) → Taken terms Between items → terms ≡ all → TermsRead items all
same_terms terms all items k q = subst (λ (l : List Term). TermsRead items l) q (record { written = sym (append-nil (terms_items terms)) ∙ k.written; good = k.good; fit = k.fit })

plain_read : (terms : List Term) (reading : Reading) (items : List Item) (all : List Term) → Taken terms reading items → plain_terms terms reading ≡ Some all → TermsRead items all
plain_read terms Between items all k e = same_terms terms all items k (cc)
plain_read terms (At ys x) items all k e =
    let m = map_some (λ (t : Term). terms ++ t ∷ []) (plain_term ys x) all e in
    subst (λ (l : List Term). TermsRead items l) m.2 (added terms (At ys x) items m.0 k (plain_is ys x m.0 k.now.0 k.now.1 m.1))
plain_read terms _ items all k e = absurd (cc)

record AimedRead (items : List Item) (terms : List Term) : Type 0 where
  pub read : TermsRead items terms
  pub ends : EndsFit terms

aimed_read : (terms : List Term) (reading : Reading) (items : List Item) (all : List Term) → Taken terms reading items → aimed_terms terms reading ≡ Some all → AimedRead items all
aimed_read terms Between items all k e = let q : terms ≡ all = cc in record { read = same_terms terms all items k q; ends = subst (λ (l : List Term). EndsFit l) q k.now }
aimed_read terms (At ys x) items all k e =
    let m = map_some (λ (t : Term). terms ++ t ∷ []) (aimed_term ys x) all e in
    let a = aimed_is ys x m.0 k.now.0 k.now.1 m.1 in
    subst (λ (l : List Term). AimedRead items l) m.2 (record { read = added terms (At ys x) items m.0 k a.term; ends = ends_last terms m.0 a.ends })
aimed_read terms _ items all k e = absurd (cc)

-- One more item.

abbrev Took : Terms → List Item → Type 0
Took so items = Taken so.terms so.reading items

begun : (terms : List Term) (items : List Item) (y : Element) → TermsRead items terms → GoodElement false y → Taken terms (At [] y) (items ++ Standing y ∷ [])
begun terms items y k g = record {
  written = ap (λ (l : List Item). terms_items terms ++ l) (element_one false y g) ∙ ap (λ (l : List Item). l ++ Standing y ∷ []) k.written;
  good = k.good;
  fit = k.fit;
  now = (tt, element_good false y g);
}

joined_on : (terms : List Term) (items : List Item) (ys : List Element) (y : Element) → Taken terms (Joined ys) items → GoodElement false y → Taken terms (At ys y) (items ++ Standing y ∷ [])
joined_on terms items ys y k g = record {
  written = sym (append_assoc (terms_items terms) (joins ys) (element_items y)) ∙ ap (λ (l : List Item). l ++ element_items y) k.written ∙ ap (λ (l : List Item). items ++ l) (element_one false y g);
  good = k.good;
  fit = k.fit;
  now = (k.now, element_good false y g);
}

names_items_last : (ts : List Token) (t : Token) → name_items (ts ++ t ∷ []) ≡ name_items ts ++ Selecting ∷ part_item (Leaf t) ∷ []
names_items_last [] t = refl
names_items_last (u ∷ ts) t = ap (λ (l : List Item). Selecting ∷ part_item (Leaf u) ∷ l) (names_items_last ts t)

with_name_items : (x : Part) (t : Token) → part_items (with_name x t) ≡ part_items x ++ Selecting ∷ part_item (Leaf t) ∷ []
with_name_items (Field x names) t = ap (λ (l : List Item). part_items x ++ l) (names_items_last names t) ∙ sym (append_assoc (part_items x) (name_items names) (Selecting ∷ part_item (Leaf t) ∷ []))
with_name_items _ t = refl

subject_name : (k : Kind) → is_word k ≡ true → kind_tag k ≡ tag.Subject → is_name tag.Subject k ≡ true
subject_name (kind.Word name role.Subject) w e = refl
subject_name (kind.Word name role.Function) w e = absurd (cc)
subject_name (kind.Word name role.Mod1) w e = absurd (cc)
subject_name (kind.Word name role.Mod2) w e = absurd (cc)
subject_name _ w e = absurd (cc)

names_last : (ts : List Token) (t : Token) → NamesFit ts → last_tag ts ≡ tag.Subject → is_word t.kind ≡ true → NamesFit (ts ++ t ∷ [])
names_last [] t f e w = elim f [ ]
names_last (u ∷ []) t f e w = (subject_name u.kind f e, w)
names_last (u ∷ v ∷ ts) t f e w = (f.0, names_last (v ∷ ts) t f.1 e w)

with_name_good : (x : Part) (t : Token) → GoodPart x → tag_of x ≡ tag.Subject → is_word t.kind ≡ true → GoodPart (with_name x t)
with_name_good (Field x names) t g e w = (tt, (g.1.0, names_last names t g.1.1 e w, g.1.2))
with_name_good (Strand ps) t g e w = elim g.0 [ ]
with_name_good x t g e w = (tt, (e, w, g.1))

four : (a b c : List Item) (i j : Item) → a ++ (b ++ (c ++ i ∷ j ∷ [])) ≡ (a ++ (b ++ (c ++ i ∷ []))) ++ j ∷ []
four a b c i j = simp append_assoc

field_on : (terms : List Term) (items : List Item) (ys : List Element) (x : Part) (t : Token) → Taken terms (Selected ys x) items → is_word t.kind ≡ true → Taken terms (At ys (OfPart (with_name x t))) (items ++ part_item (Leaf t) ∷ [])
field_on terms items ys x t k w = record {
  written = ap (λ (l : List Item). terms_items terms ++ (joins ys ++ l)) (with_name_items x t) ∙ four (terms_items terms) (joins ys) (part_items x) Selecting (part_item (Leaf t)) ∙ ap (λ (l : List Item). l ++ part_item (Leaf t) ∷ []) k.written;
  good = k.good;
  fit = k.fit;
  now = (k.now.0, with_name_good x t k.now.1 k.now.2 w);
}

selected_on : (b : Bool) (terms : List Term) (items : List Item) (ys : List Element) (x : Part) (t : Token) (so : Terms) → is_word t.kind ≡ b → Taken terms (Selected ys x) items → selected b terms ys x t ≡ Some so → Took so (items ++ part_item (Leaf t) ∷ [])
selected_on false terms items ys x t so w k e = absurd (cc)
selected_on true terms items ys x t so w k e =
    let q : reads terms (At ys (OfPart (with_name x t))) ≡ so = cc in
    subst (λ (s : Terms). Took s (items ++ part_item (Leaf t) ∷ [])) q (field_on terms items ys x t k w)

stand_taken : (terms : List Term) (reading : Reading) (items : List Item) (y : Element) (so : Terms) → Taken terms reading items → GoodElement false y → stand terms reading y ≡ Some so → Took so (items ++ Standing y ∷ [])
stand_taken terms Between items y so k g e =
    let q : reads terms (At [] y) ≡ so = cc in
    subst (λ (s : Terms). Took s (items ++ Standing y ∷ [])) q (begun terms items y (same_terms terms terms items k refl) g)
stand_taken terms (At ys x) items y so k g e =
    let m = map_some (λ (t : Term). reads (terms ++ t ∷ []) (At [] y)) (plain_term ys x) so e in
    subst (λ (s : Terms). Took s (items ++ Standing y ∷ [])) m.2 (begun (terms ++ m.0 ∷ []) items y (added terms (At ys x) items m.0 k (plain_is ys x m.0 k.now.0 k.now.1 m.1)) g)
stand_taken terms (Joined ys) items y so k g e =
    let q : reads terms (At ys y) ≡ so = cc in
    subst (λ (s : Terms). Took s (items ++ Standing y ∷ [])) q (joined_on terms items ys y k g)
stand_taken terms (Selected ys x) items (OfPart (Leaf t)) so k g e = selected_on (is_word t.kind) terms items ys x t so refl k e
stand_taken terms (Selected ys x) items _ so k g e = absurd (cc)

joins_more : (ys : List Element) (x : Element) → joins (ys ++ x ∷ []) ≡ joins ys ++ (element_items x ++ Joining ∷ [])
joins_more [] x = refl
joins_more (y ∷ ys) x = ap (λ (l : List Item). element_items y ++ Joining ∷ l) (joins_more ys x) ∙ sym (append_assoc (element_items y) (Joining ∷ joins ys) (element_items x ++ Joining ∷ []))

behind : (a b c : List Item) (i : Item) → a ++ (b ++ (c ++ i ∷ [])) ≡ (a ++ (b ++ c)) ++ i ∷ []
behind a b c i = simp append_assoc

join_taken : (terms : List Term) (reading : Reading) (items : List Item) (so : Terms) → Taken terms reading items → join terms reading ≡ Some so → Took so (items ++ Joining ∷ [])
join_taken terms (At ys x) items so k e =
    let q : reads terms (Joined (ys ++ x ∷ [])) ≡ so = cc in
    subst (λ (s : Terms). Took s (items ++ Joining ∷ [])) q (record {
      written = ap (λ (l : List Item). terms_items terms ++ l) (joins_more ys x) ∙ behind (terms_items terms) (joins ys) (element_items x) Joining ∙ ap (λ (l : List Item). l ++ Joining ∷ []) k.written;
      good = k.good;
      fit = k.fit;
      now = goods_last false ys x k.now.0 k.now.1;
    })
join_taken terms _ items so k e = absurd (cc)

same_subject : (t : Tag) → same_tag tag.Subject t ≡ true → t ≡ tag.Subject
same_subject tag.Subject e = refl
same_subject _ e = absurd (cc)

select_on : (b : Bool) (terms : List Term) (items : List Item) (ys : List Element) (x : Part) (so : Terms) → same_tag tag.Subject (tag_of x) ≡ b → Taken terms (At ys (OfPart x)) items → select_of b terms ys x ≡ Some so → Took so (items ++ Selecting ∷ [])
select_on false terms items ys x so w k e = absurd (cc)
select_on true terms items ys x so w k e =
    let q : reads terms (Selected ys x) ≡ so = cc in
    subst (λ (s : Terms). Took s (items ++ Selecting ∷ [])) q (record {
      written = behind (terms_items terms) (joins ys) (part_items x) Selecting ∙ ap (λ (l : List Item). l ++ Selecting ∷ []) k.written;
      good = k.good;
      fit = k.fit;
      now = (k.now.0, k.now.1, same_subject (tag_of x) w);
    })

select_taken : (terms : List Term) (reading : Reading) (items : List Item) (so : Terms) → Taken terms reading items → select terms reading ≡ Some so → Took so (items ++ Selecting ∷ [])
select_taken terms (At ys (OfPart x)) items so k e = select_on (same_tag tag.Subject (tag_of x)) terms items ys x so refl k e
select_taken terms _ items so k e = absurd (cc)

draw_taken : (terms : List Term) (reading : Reading) (items : List Item) (a : Arrow) (so : Terms) → Taken terms reading items → option_map (λ (all : List Term). reads (all ++ Draw a ∷ []) Between) (aimed_terms terms reading) ≡ Some so → Took so (items ++ Drawn a ∷ [])
draw_taken terms reading items a so k e =
    let m = map_some (λ (all : List Term). reads (all ++ Draw a ∷ []) Between) (aimed_terms terms reading) so e in
    let r = aimed_read terms reading items m.0 k m.1 in
    subst (λ (s : Terms). Took s (items ++ Drawn a ∷ [])) m.2 (record {
      written = append-nil (terms_items (m.0 ++ Draw a ∷ [])) ∙ terms_last m.0 (Draw a) ∙ ap (λ (l : List Item). l ++ Drawn a ∷ []) r.read.written;
      good = good_last m.0 (Draw a) r.read.good tt;
      fit = fit_last m.0 (Draw a) (λ d. r.ends) r.read.fit;
      now = ends_last m.0 (Draw a) tt;
    })

put_taken : (so : Terms) (items : List Item) (i : Item) (next : Terms) → Took so items → GoodItem false i → put so i ≡ Some next → Took next (items ++ i ∷ [])
put_taken so items (Standing y) next k g e = stand_taken so.terms so.reading items y next k g e
put_taken so items (Drawn a) next k g e = draw_taken so.terms so.reading items a next k e
put_taken so items Joining next k g e = join_taken so.terms so.reading items next k e
put_taken so items Selecting next k g e = select_taken so.terms so.reading items next k e
put_taken so items Wrong next k g e = absurd (cc)

puts_taken : (so : Terms) (before items : List Item) (last : Terms) → Took so before → GoodItems false items → puts so items ≡ Some last → Took last (before ++ items)
puts_taken so before [] last k g e = let q : so ≡ last = cc in subst (λ (s : Terms). Took s (before ++ [])) q (subst (λ (l : List Item). Took so l) (sym (append-nil before)) k)
puts_taken so before (i ∷ items) last k g e =
    let m = and_then_some (λ (next : Terms). puts next items) (put so i) last e in
    subst (λ (l : List Item). Took last l) (append_assoc before (i ∷ []) items) (puts_taken m.0 (before ++ i ∷ []) items last (put_taken so before i m.0 k g.0 m.1) g.1 m.2)

nothing_taken : Taken [] Between []
nothing_taken = record { written = refl; good = tt; fit = tt; now = tt }

pub terms_only : (items : List Item) (terms : List Term) → GoodItems false items → terms_of items ≡ Some terms → TermsRead items terms
terms_only items terms g e =
    let m = and_then_some finished (puts (reads [] Between) items) terms e in
    let k = puts_taken (reads [] Between) [] items m.0 nothing_taken g m.1 in
    plain_read m.0.terms m.0.reading items terms k m.2
