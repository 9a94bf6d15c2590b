-- Patterns are read as they are written: before an arrow, and by themselves.
use Rattle.std.proofs.Common.{◌≡◌, Bool, true, false, List, [], ◌∷◌, ◌++◌, Option, Some, refl, sym, ap, ◌∙◌, subst, append_assoc}
use Rattle.std.proofs.lemmas.List.{append-nil}
use Rattle.std.specs.Option.{option_map, option_and_then}
use Rattle.bqn_syntax.specs.declared.token.Kind.{Kind}
use Rattle.bqn_syntax.specs.declared.token.Kind.TheVariants as kind
use Rattle.bqn_syntax.specs.declared.token.Token.{Token}
use Rattle.bqn_syntax.specs.grammar.Sorts.{is_word}
use Rattle.bqn_syntax.specs.grammar.Items.{Element, OfPart, OfList, Item, Standing, both, each, leaf_pattern, element_pattern, onto_first, groups, only_group, piece_pattern, Term, Operand, Target, aimed_term, At, Joined, Terms, reads, aimed_terms, puts}
use Rattle.bqn_syntax.specs.grammar.Trees.{Pattern, Name, Skip, Literal, ListPattern, StrandPattern, Patterns, no_patterns, and_patterns, patterns, Leaf, Nothing}
use Rattle.bqn_syntax.specs.grammar.Well.{WellPattern, WellJoined, AreTwo, IsNoStrand, IsLiteral}
use Rattle.bqn_grammar.proofs.TreeItems.{pattern_items, joined_items, joined_more_items}
use Rattle.bqn_grammar.proofs.found.Terms.{run, run_append, Gives, Aims, Joins, stands_given}

abbrev pub pattern_element : Pattern → Element
pattern_element (Name t) = OfPart (Leaf t)
pattern_element (Skip place) = OfPart (Nothing place)
pattern_element (Literal t) = OfPart (Leaf t)
pattern_element q = OfList q

pub one_item : (q : Pattern) → IsNoStrand q → pattern_items q ≡ Standing (pattern_element q) ∷ []
one_item (StrandPattern qs) n = elim n [ ]
one_item _ n = refl

name_pattern : (literals : Bool) (k : Kind) (t : Token) → is_word k ≡ true → leaf_pattern literals k t ≡ Some (Name t)
name_pattern true (kind.Word n r) t w = refl
name_pattern false (kind.Word n r) t w = refl
name_pattern _ _ t w = absurd (cc)

literal_pattern : (literals : Bool) (k : Kind) (t : Token) → literals ≡ true → IsLiteral k → leaf_pattern literals k t ≡ Some (Literal t)
literal_pattern false k t e w = absurd (cc)
literal_pattern true (kind.Number z) t e w = refl
literal_pattern true (kind.Char c) t e w = refl
literal_pattern true (kind.Text s) t e w = refl
literal_pattern true _ t e w = elim w [ ]

element_found : (literals : Bool) (q : Pattern) → IsNoStrand q → WellPattern literals q → element_pattern literals (pattern_element q) ≡ Some q
element_found literals (Name t) n w = name_pattern literals t.kind t w
element_found literals (Skip place) n w = refl
element_found literals (Literal t) n w = literal_pattern literals t.kind t w.0 w.1
element_found literals (ListPattern qs) n w = refl
element_found literals (StrandPattern qs) n w = elim n [ ]

abbrev pub pattern_elements : Patterns → List Element
pattern_elements no_patterns = []
pattern_elements (and_patterns q qs) = pattern_element q ∷ pattern_elements qs

abbrev pub patterns_list : Patterns → List Pattern
patterns_list no_patterns = []
patterns_list (and_patterns q qs) = q ∷ patterns_list qs

pub patterns_back : (qs : Patterns) → patterns (patterns_list qs) ≡ qs
patterns_back no_patterns = refl
patterns_back (and_patterns q qs) = ap (λ (r : Patterns). and_patterns q r) (patterns_back qs)

each_pattern : (literals : Bool) (qs : Patterns) → WellJoined literals qs → each (element_pattern literals) (pattern_elements qs) ≡ Some (patterns_list qs)
each_pattern literals no_patterns w = refl
each_pattern literals (and_patterns q qs) w =
    ap (λ (o : Option Pattern). both o (each (element_pattern literals) (pattern_elements qs))) (element_found literals q w.0 w.1)
    ∙ ap (λ (o : Option (List Pattern)). both (Some q) o) (each_pattern literals qs w.2)

strand_found : (literals : Bool) (qs : Patterns) → WellJoined literals qs → option_map (λ (l : List Pattern). StrandPattern (patterns l)) (each (element_pattern literals) (pattern_elements qs)) ≡ Some (StrandPattern qs)
strand_found literals qs w =
    ap (λ (o : Option (List Pattern)). option_map (λ (l : List Pattern). StrandPattern (patterns l)) o) (each_pattern literals qs w)
    ∙ ap (λ (r : Patterns). Some (StrandPattern r)) (patterns_back qs)

-- Before an arrow.

more_patterns : (literals : Bool) (qs : Patterns) → WellJoined literals qs → (ts : List Term) (joined : List Element) (x : Element) → Joins (reads ts (At joined x)) (joined_more_items qs) ts ((joined ++ x ∷ []) ++ pattern_elements qs)
more_patterns literals no_patterns w ts joined x = record { before = joined; last = x; reading = refl; all = sym (append-nil (joined ++ x ∷ [])) }
more_patterns literals (and_patterns q qs) w ts joined x =
    let j = joined ++ x ∷ [] in
    let h = more_patterns literals qs w.2 ts j (pattern_element q) in
    record {
      before = h.before;
      last = h.last;
      reading = ap (λ (l : List Item). puts (reads ts (Joined j)) (l ++ joined_more_items qs)) (one_item q w.0) ∙ h.reading;
      all = h.all ∙ append_assoc j (pattern_element q ∷ []) (pattern_elements qs);
    }

strand_target : (before : List Element) (last a b : Element) (rest : List Element) → before ++ last ∷ [] ≡ a ∷ b ∷ rest → aimed_term before last ≡ option_map (λ (l : List Pattern). Target (StrandPattern (patterns l))) (each (element_pattern false) (a ∷ b ∷ rest))
strand_target [] last a b rest e = absurd (cc)
strand_target (y ∷ ys) last a b rest e = ap (λ (l : List Element). option_map (λ (ps : List Pattern). Target (StrandPattern (patterns ps))) (each (element_pattern false) l)) e

strand_aims : (ts : List Term) (before : List Element) (last : Element) (qs : Patterns) → AreTwo qs → WellJoined false qs → before ++ last ∷ [] ≡ pattern_elements qs → aimed_terms ts (At before last) ≡ Some (ts ++ Target (StrandPattern qs) ∷ [])
strand_aims ts before last no_patterns two w e = elim two [ ]
strand_aims ts before last (and_patterns q no_patterns) two w e = elim two [ ]
strand_aims ts before last (and_patterns q (and_patterns r qs)) two w e =
    ap (λ (o : Option Term). option_map (λ (term : Term). ts ++ term ∷ []) o)
    (strand_target before last (pattern_element q) (pattern_element r) (pattern_elements qs) e
    ∙ ap (λ (o : Option (List Pattern)). option_map (λ (l : List Pattern). Target (StrandPattern (patterns l))) o) (each_pattern false (and_patterns q (and_patterns r qs)) w)
    ∙ ap (λ (l : Patterns). Some (Target (StrandPattern l))) (patterns_back (and_patterns q (and_patterns r qs))))

joined_aims : (qs : Patterns) → AreTwo qs → WellJoined false qs → (o : Option Terms) (ts : List Term) → Gives o ts → Aims (run o (joined_items qs)) (ts ++ Target (StrandPattern qs) ∷ [])
joined_aims no_patterns two w o ts h = elim two [ ]
joined_aims (and_patterns q qs) two w o ts h =
    let j = more_patterns false qs w.2 ts [] (pattern_element q) in
    subst (λ (r : Option Terms). Aims r (ts ++ Target (StrandPattern (and_patterns q qs)) ∷ []))
    (sym (run_append o (pattern_items q) (joined_more_items qs)
    ∙ ap (λ (l : List Item). run (run o l) (joined_more_items qs)) (one_item q w.0)
    ∙ ap (λ (r : Option Terms). run r (joined_more_items qs)) (stands_given (pattern_element q) o ts h)
    ∙ j.reading))
    (strand_aims ts j.before j.last (and_patterns q qs) two w j.all)

-- what a pattern is before an arrow
abbrev pub pattern_term : Pattern → Term
pattern_term (Name t) = Operand (Leaf t)
pattern_term (Skip place) = Operand (Nothing place)
pattern_term q = Target q

pub pattern_aims : (q : Pattern) → WellPattern false q → (o : Option Terms) (ts : List Term) → Gives o ts → Aims (run o (pattern_items q)) (ts ++ pattern_term q ∷ [])
pattern_aims (StrandPattern qs) w o ts h = joined_aims qs w.0 w.1 o ts h
pattern_aims (Literal t) w o ts h = absurd (cc (w.0))
pattern_aims (Name t) w o ts h = subst (λ (r : Option Terms). Aims r (ts ++ Operand (Leaf t) ∷ [])) (sym (stands_given (OfPart (Leaf t)) o ts h)) refl
pattern_aims (Skip place) w o ts h = subst (λ (r : Option Terms). Aims r (ts ++ Operand (Nothing place) ∷ [])) (sym (stands_given (OfPart (Nothing place)) o ts h)) refl
pattern_aims (ListPattern qs) w o ts h = subst (λ (r : Option Terms). Aims r (ts ++ Target (ListPattern qs) ∷ [])) (sym (stands_given (OfList (ListPattern qs)) o ts h)) refl

-- By themselves.

more_groups : (literals : Bool) (x : Element) (qs : Patterns) → WellJoined literals qs → groups (Standing x ∷ joined_more_items qs) ≡ Some ((x ∷ pattern_elements qs) ∷ [])
more_groups literals x no_patterns w = refl
more_groups literals x (and_patterns q qs) w =
    ap (λ (l : List Item). onto_first x (groups (l ++ joined_more_items qs))) (one_item q w.0)
    ∙ ap (λ (o : Option (List (List Element))). onto_first x o) (more_groups literals (pattern_element q) qs w.2)

joined_found : (literals : Bool) (qs : Patterns) → AreTwo qs → WellJoined literals qs → piece_pattern literals (joined_items qs) ≡ Some (StrandPattern qs)
joined_found literals no_patterns two w = elim two [ ]
joined_found literals (and_patterns q no_patterns) two w = elim two [ ]
joined_found literals (and_patterns q (and_patterns r qs)) two w =
    ap (λ (l : List Item). piece_pattern literals (l ++ joined_more_items (and_patterns r qs))) (one_item q w.0)
    ∙ ap (λ (o : Option (List (List Element))). option_and_then (only_group literals) o) (more_groups literals (pattern_element q) (and_patterns r qs) w.2)
    ∙ strand_found literals (and_patterns q (and_patterns r qs)) w

pub pattern_read : (literals : Bool) (q : Pattern) → WellPattern literals q → piece_pattern literals (pattern_items q) ≡ Some q
pattern_read literals (StrandPattern qs) w = joined_found literals qs w.0 w.1
pattern_read literals (Name t) w = element_found literals (Name t) tt w
pattern_read literals (Skip place) w = refl
pattern_read literals (Literal t) w = element_found literals (Literal t) tt w
pattern_read literals (ListPattern qs) w = refl

-- a pattern has an item
joined_some : (literals : Bool) (qs : Patterns) → AreTwo qs → WellJoined literals qs → joined_items qs ≡ [] → ⊥
joined_some literals no_patterns two w e = elim two [ ]
joined_some literals (and_patterns q qs) two w e =
    let h : Standing (pattern_element q) ∷ joined_more_items qs ≡ [] = sym (ap (λ (l : List Item). l ++ joined_more_items qs) (one_item q w.0)) ∙ e in
    absurd (cc)

pub pattern_has_items : (literals : Bool) (q : Pattern) → WellPattern literals q → pattern_items q ≡ [] → ⊥
pattern_has_items literals (StrandPattern qs) w e = joined_some literals qs w.0 w.1 e
pattern_has_items literals _ w e = absurd (cc)
