-- The terms that the items of a tree's parts are read as.
use Rattle.std.proofs.Common.{◌≡◌, Bool, true, List, [], ◌∷◌, ◌++◌, Option, Some, None, refl, sym, ap, ◌∙◌, subst, append_assoc}
use Rattle.std.proofs.lemmas.List.{append-nil}
use Rattle.std.specs.Option.{option_map, option_and_then}
use Rattle.bqn_syntax.specs.declared.token.Kind.{Kind}
use Rattle.bqn_syntax.specs.declared.token.Kind.TheVariants as kind
use Rattle.bqn_syntax.specs.declared.token.Token.{Token}
use Rattle.bqn_syntax.specs.declared.tree.Arrow.{Arrow}
use Rattle.bqn_syntax.specs.declared.sort.Tag.{Tag}
use Rattle.bqn_syntax.specs.declared.sort.Tag.TheVariants as tag
use Rattle.bqn_syntax.specs.grammar.Sorts.{tag as tag_of, same_tag, kind_tag, role_tag, last_tag, is_name, is_word}
use Rattle.bqn_syntax.specs.grammar.Items.{Element, OfPart, Item, Standing, Drawn, Selecting, both, each, Term, Operand, Draw, element_part, plain_term, aimed_term, Reading, Between, At, Joined, Selected, Terms, reads, plain_terms, aimed_terms, with_name, selected, stand, select_of, put, puts, finished}
use Rattle.bqn_syntax.specs.grammar.Trees.{Part, Leaf, Elements, Merge, Paren, Block, Field, Strand, Nothing, Parts, no_parts, and_parts, parts}
use Rattle.bqn_syntax.specs.grammar.Well.{WellPart, WellParts, AreTwoParts, IsBase, IsElement, NamesFit, EndsInNoList}
use Rattle.bqn_grammar.proofs.TreeItems.{part_item, name_items, part_items, parts_items, parts_more_items}

-- Sequences of items.

abbrev pub run : Option Terms → List Item → Option Terms
run o items = option_and_then (λ (so : Terms). puts so items) o

run_some : (o : Option Terms) (a b : List Item) → ((so : Terms) → puts so (a ++ b) ≡ run (puts so a) b) → run o (a ++ b) ≡ run (run o a) b
run_some None a b h = refl
run_some (Some so) a b h = h so

pub puts_append : (so : Terms) (a b : List Item) → puts so (a ++ b) ≡ run (puts so a) b
puts_append so [] b = refl
puts_append so (i ∷ a) b = run_some (put so i) a b (λ (s : Terms). puts_append s a b)

pub run_append : (o : Option Terms) (a b : List Item) → run o (a ++ b) ≡ run (run o a) b
run_append o a b = run_some o a b (λ (s : Terms). puts_append s a b)

-- what is read so far is these terms, and where an arrow follows
abbrev pub Gives : Option Terms → List Term → Type 0
Gives o terms = option_and_then finished o ≡ Some terms

abbrev pub aimed_finish : Terms → Option (List Term)
aimed_finish so = aimed_terms so.terms so.reading

abbrev pub Aims : Option Terms → List Term → Type 0
Aims o terms = option_and_then aimed_finish o ≡ Some terms

pub gives_append : (o : Option Terms) (a b : List Item) (terms : List Term) → Gives (run (run o a) b) terms → Gives (run o (a ++ b)) terms
gives_append o a b terms h = subst (λ (r : Option Terms). Gives r terms) (sym (run_append o a b)) h

pub aims_append : (o : Option Terms) (a b : List Item) (terms : List Term) → Aims (run (run o a) b) terms → Aims (run o (a ++ b)) terms
aims_append o a b terms h = subst (λ (r : Option Terms). Aims r terms) (sym (run_append o a b)) h

-- One element.

stands_behind : (terms ts : List Term) (y : Element) (o : Option Term) → option_map (λ (term : Term). terms ++ term ∷ []) o ≡ Some ts → option_map (λ (term : Term). reads (terms ++ term ∷ []) (At [] y)) o ≡ Some (reads ts (At [] y))
stands_behind terms ts y None e = absurd (cc)
stands_behind terms ts y (Some term) e = cc

stands : (terms : List Term) (reading : Reading) (ts : List Term) (y : Element) → plain_terms terms reading ≡ Some ts → stand terms reading y ≡ Some (reads ts (At [] y))
stands terms Between ts y e = cc
stands terms (At joined x) ts y e = stands_behind terms ts y (plain_term joined x) e
stands terms (Joined joined) ts y e = absurd (cc)
stands terms (Selected joined x) ts y e = absurd (cc)

pub stands_given : (y : Element) (o : Option Terms) (ts : List Term) → Gives o ts → run o (Standing y ∷ []) ≡ Some (reads ts (At [] y))
stands_given y None ts h = absurd (cc)
stands_given y (Some so) ts h = ap (λ (o : Option Terms). option_and_then (λ (s : Terms). Some s) o) (stands so.terms so.reading ts y h)

-- Fields.

same_is : (r s : Tag) → same_tag r s ≡ true → s ≡ r
same_is tag.Subject tag.Subject e = refl
same_is tag.Function tag.Function e = refl
same_is tag.Mod1 tag.Mod1 e = refl
same_is tag.Mod2 tag.Mod2 e = refl
same_is tag.Nothing tag.Nothing e = refl
same_is _ _ e = absurd (cc)

pub named_is : (r : Tag) (k : Kind) → is_name r k ≡ true → (is_word k ≡ true) × (kind_tag k ≡ r)
named_is r (kind.Word n role) e = (refl, same_is r (role_tag role) e)
named_is r _ e = absurd (cc)

name_is : (k : Kind) → is_name tag.Subject k ≡ true → (is_word k ≡ true) × (kind_tag k ≡ tag.Subject)
name_is k e = named_is tag.Subject k e

one_name : (ts : List Term) (joined : List Element) (x : Part) (t : Token) (more : List Item) → tag_of x ≡ tag.Subject → is_word t.kind ≡ true → puts (reads ts (At joined (OfPart x))) (Selecting ∷ part_item (Leaf t) ∷ more) ≡ puts (reads ts (At joined (OfPart (with_name x t)))) more
one_name ts joined x t more e w =
    ap (λ (g : Tag). option_and_then (λ (n : Terms). puts n (part_item (Leaf t) ∷ more)) (select_of (same_tag tag.Subject g) ts joined x)) e
    ∙ ap (λ (b : Bool). option_and_then (λ (n : Terms). puts n more) (selected b ts joined x t)) w

last_snoc : (b : List Token) (t : Token) → last_tag (b ++ t ∷ []) ≡ kind_tag t.kind
last_snoc [] t = refl
last_snoc (u ∷ []) t = refl
last_snoc (u ∷ v ∷ b) t = last_snoc (v ∷ b) t

more_names : (ts : List Term) (joined : List Element) (x : Part) (b names : List Token) → last_tag b ≡ tag.Subject → NamesFit names → puts (reads ts (At joined (OfPart (Field x b)))) (name_items names) ≡ Some (reads ts (At joined (OfPart (Field x (b ++ names)))))
more_names ts joined x b [] e w = elim w [ ]
more_names ts joined x b (t ∷ []) e w = one_name ts joined (Field x b) t [] e w
more_names ts joined x b (t ∷ u ∷ names) e w =
    let h = name_is t.kind w.0 in
    one_name ts joined (Field x b) t (name_items (u ∷ names)) e h.0
    ∙ more_names ts joined x (b ++ t ∷ []) (u ∷ names) (last_snoc b t ∙ h.1) w.1
    ∙ ap (λ (l : List Token). Some (reads ts (At joined (OfPart (Field x l))))) (append_assoc b (t ∷ []) (u ∷ names))

base_is : (x : Part) → IsBase x → (tag_of x ≡ tag.Subject) × ((t : Token) → with_name x t ≡ Field x (t ∷ []))
base_is (Field x names) b = elim b [ ]
base_is (Strand ps) b = elim b [ ]
base_is x b = (b, λ (t : Token). refl)

names_read : (ts : List Term) (joined : List Element) (x : Part) (names : List Token) → IsBase x → NamesFit names → puts (reads ts (At joined (OfPart x))) (name_items names) ≡ Some (reads ts (At joined (OfPart (Field x names))))
names_read ts joined x [] b w = elim w [ ]
names_read ts joined x (t ∷ []) b w =
    let h = base_is x b in
    one_name ts joined x t [] h.0 w ∙ ap (λ (y : Part). Some (reads ts (At joined (OfPart y)))) (h.1 t)
names_read ts joined x (t ∷ u ∷ names) b w =
    let h = base_is x b in
    let k = name_is t.kind w.0 in
    one_name ts joined x t (name_items (u ∷ names)) h.0 k.0
    ∙ ap (λ (y : Part). puts (reads ts (At joined (OfPart y))) (name_items (u ∷ names))) (h.1 t)
    ∙ more_names ts joined x (t ∷ []) (u ∷ names) k.1 w.1

-- A part that is no strand is one element.

abbrev pub NoStrand : Part → Type 0
NoStrand (Strand ps) = ⊥
NoStrand _ = Unit {0}

base_no_strand : (x : Part) → IsBase x → NoStrand x
base_no_strand (Strand ps) b = elim b [ ]
base_no_strand _ b = tt

pub element_read : (x : Part) → NoStrand x → WellPart x → (so : Terms) (ts : List Term) (joined : List Element) → ((y : Element) → stand so.terms so.reading y ≡ Some (reads ts (At joined y))) → puts so (part_items x) ≡ Some (reads ts (At joined (OfPart x)))
element_read (Field x names) n w so ts joined h =
    puts_append so (part_items x) (name_items names)
    ∙ ap (λ (o : Option Terms). run o (name_items names)) (element_read x (base_no_strand x w.0) w.2 so ts joined h)
    ∙ names_read ts joined x names w.0 w.1
element_read (Strand ps) n w so ts joined h = elim n [ ]
element_read (Leaf t) n w so ts joined h = ap (λ (o : Option Terms). option_and_then (λ (s : Terms). Some s) o) (h (OfPart (Leaf t)))
element_read (Elements es) n w so ts joined h = ap (λ (o : Option Terms). option_and_then (λ (s : Terms). Some s) o) (h (OfPart (Elements es)))
element_read (Merge es) n w so ts joined h = ap (λ (o : Option Terms). option_and_then (λ (s : Terms). Some s) o) (h (OfPart (Merge es)))
element_read (Paren e) n w so ts joined h = ap (λ (o : Option Terms). option_and_then (λ (s : Terms). Some s) o) (h (OfPart (Paren e)))
element_read (Block b) n w so ts joined h = ap (λ (o : Option Terms). option_and_then (λ (s : Terms). Some s) o) (h (OfPart (Block b)))
element_read (Nothing p) n w so ts joined h = ap (λ (o : Option Terms). option_and_then (λ (s : Terms). Some s) o) (h (OfPart (Nothing p)))

-- where the reading before is closed
pub element_given : (x : Part) → NoStrand x → WellPart x → (o : Option Terms) (ts : List Term) → Gives o ts → run o (part_items x) ≡ Some (reads ts (At [] (OfPart x)))
element_given x n w None ts h = absurd (cc)
element_given x n w (Some so) ts h = element_read x n w so ts [] (λ (y : Element). stands so.terms so.reading ts y h)

-- Strands.

abbrev pub part_elements : Parts → List Element
part_elements no_parts = []
part_elements (and_parts x xs) = OfPart x ∷ part_elements xs

abbrev pub parts_list : Parts → List Part
parts_list no_parts = []
parts_list (and_parts x xs) = x ∷ parts_list xs

parts_back : (xs : Parts) → parts (parts_list xs) ≡ xs
parts_back no_parts = refl
parts_back (and_parts x xs) = ap (λ (y : Parts). and_parts x y) (parts_back xs)

element_is : (x : Part) → IsElement x → element_part (OfPart x) ≡ Some x
element_is (Strand ps) e = elim e [ ]
element_is (Nothing p) e = elim e [ ]
element_is _ e = refl

each_part : (xs : Parts) → WellParts xs → each element_part (part_elements xs) ≡ Some (parts_list xs)
each_part no_parts w = refl
each_part (and_parts x xs) w =
    ap (λ (o : Option Part). both o (each element_part (part_elements xs))) (element_is x w.0)
    ∙ ap (λ (o : Option (List Part)). both (Some x) o) (each_part xs w.2)

element_no_strand : (x : Part) → IsElement x → NoStrand x
element_no_strand (Strand ps) e = elim e [ ]
element_no_strand _ e = tt

-- several elements that are joined
pub record Joins (so : Terms) (items : List Item) (ts : List Term) (elements : List Element) : Type 0 where
  pub before : List Element
  pub last : Element
  pub reading : puts so items ≡ Some (reads ts (At before last))
  pub all : before ++ last ∷ [] ≡ elements

more_parts : (xs : Parts) → WellParts xs → (ts : List Term) (joined : List Element) (x : Element) → Joins (reads ts (At joined x)) (parts_more_items xs) ts ((joined ++ x ∷ []) ++ part_elements xs)
more_parts no_parts w ts joined x = record { before = joined; last = x; reading = refl; all = sym (append-nil (joined ++ x ∷ [])) }
more_parts (and_parts z xs) w ts joined x =
    let j = joined ++ x ∷ [] in
    let h = more_parts xs w.2 ts j (OfPart z) in
    record {
      before = h.before;
      last = h.last;
      reading =
          puts_append (reads ts (Joined j)) (part_items z) (parts_more_items xs)
          ∙ ap (λ (o : Option Terms). run o (parts_more_items xs)) (element_read z (element_no_strand z w.0) w.1 (reads ts (Joined j)) ts j (λ (y : Element). refl))
          ∙ h.reading;
      all = h.all ∙ append_assoc j (OfPart z ∷ []) (part_elements xs);
    }

strand_term : (before : List Element) (last a b : Element) (rest : List Element) → before ++ last ∷ [] ≡ a ∷ b ∷ rest → plain_term before last ≡ option_map (λ (ps : List Part). Operand (Strand (parts ps))) (each element_part (a ∷ b ∷ rest))
strand_term [] last a b rest e = absurd (cc)
strand_term (y ∷ ys) last a b rest e = ap (λ (l : List Element). option_map (λ (ps : List Part). Operand (Strand (parts ps))) (each element_part l)) e

strand_closes : (ts : List Term) (before : List Element) (last : Element) (ps : Parts) → AreTwoParts ps → WellParts ps → before ++ last ∷ [] ≡ part_elements ps → plain_terms ts (At before last) ≡ Some (ts ++ Operand (Strand ps) ∷ [])
strand_closes ts before last no_parts two w e = elim two [ ]
strand_closes ts before last (and_parts x no_parts) two w e = elim two [ ]
strand_closes ts before last (and_parts x (and_parts y xs)) two w e =
    ap (λ (o : Option Term). option_map (λ (term : Term). ts ++ term ∷ []) o)
    (strand_term before last (OfPart x) (OfPart y) (part_elements xs) e
    ∙ ap (λ (o : Option (List Part)). option_map (λ (l : List Part). Operand (Strand (parts l))) o) (each_part (and_parts x (and_parts y xs)) w)
    ∙ ap (λ (l : Parts). Some (Operand (Strand l))) (parts_back (and_parts x (and_parts y xs))))

strand_given : (ps : Parts) → AreTwoParts ps → WellParts ps → (o : Option Terms) (ts : List Term) → Gives o ts → Gives (run o (parts_items ps)) (ts ++ Operand (Strand ps) ∷ [])
strand_given no_parts two w o ts h = elim two [ ]
strand_given (and_parts x xs) two w o ts h =
    let j = more_parts xs w.2 ts [] (OfPart x) in
    subst (λ (r : Option Terms). Gives r (ts ++ Operand (Strand (and_parts x xs)) ∷ []))
    (sym (run_append o (part_items x) (parts_more_items xs)
    ∙ ap (λ (r : Option Terms). run r (parts_more_items xs)) (element_given x (element_no_strand x w.0) w.1 o ts h)
    ∙ j.reading))
    (strand_closes ts j.before j.last (and_parts x xs) two w j.all)

-- any part
pub part_given : (x : Part) → WellPart x → (o : Option Terms) (ts : List Term) → Gives o ts → Gives (run o (part_items x)) (ts ++ Operand x ∷ [])
part_given (Strand ps) w o ts h = strand_given ps w.0 w.1 o ts h
part_given x w o ts h = subst (λ (r : Option Terms). Gives r (ts ++ Operand x ∷ [])) (sym (element_given x tt w o ts h)) refl

aimed_part : (x : Part) → EndsInNoList x → NoStrand x × (aimed_term [] (OfPart x) ≡ Some (Operand x))
aimed_part (Elements es) n = elim n [ ]
aimed_part (Strand ps) n = elim n [ ]
aimed_part _ n = (tt, refl)

-- before an arrow
pub part_aims : (x : Part) → EndsInNoList x → WellPart x → (o : Option Terms) (ts : List Term) → Gives o ts → Aims (run o (part_items x)) (ts ++ Operand x ∷ [])
part_aims x n w o ts h =
    let a = aimed_part x n in
    subst (λ (r : Option Terms). Aims r (ts ++ Operand x ∷ [])) (sym (element_given x a.0 w o ts h)) (ap (λ (t : Option Term). option_map (λ (term : Term). ts ++ term ∷ []) t) a.1)

arrow_put : (so : Terms) (a : Arrow) (ts : List Term) (r : Option (List Term)) → r ≡ Some ts → option_and_then (λ (s : Terms). Some s) (option_map (λ (terms : List Term). reads (terms ++ Draw a ∷ []) Between) r) ≡ Some (reads (ts ++ Draw a ∷ []) Between)
arrow_put so a ts None e = absurd (cc)
arrow_put so a ts (Some us) e = ap (λ (l : List Term). Some (reads (l ++ Draw a ∷ []) Between)) (cc)

pub arrow_read : (o : Option Terms) (ts : List Term) (a : Arrow) → Aims o ts → run o (Drawn a ∷ []) ≡ Some (reads (ts ++ Draw a ∷ []) Between)
arrow_read None ts a h = absurd (cc)
arrow_read (Some so) ts a h = arrow_put so a ts (aimed_terms so.terms so.reading) h

pub arrow_gives : (o : Option Terms) (ts : List Term) (a : Arrow) → Aims o ts → Gives (run o (Drawn a ∷ [])) (ts ++ Draw a ∷ [])
arrow_gives o ts a h = ap (λ (r : Option Terms). option_and_then finished r) (arrow_read o ts a h)
