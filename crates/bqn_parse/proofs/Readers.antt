-- Several elements that are joined.
use Rattle.std.proofs.Common.{◌≡◌, ◌<◌, List, [], ◌∷◌, ◌++◌, length, sym, ap, arith}
use Rattle.std.proofs.lemmas.List.{map-append}
use Rattle.std.specs.Option.{option_map}
use Rattle.bqn_syntax.specs.grammar.Items.{Element as Piece, Operand, Target, each, element_part, element_pattern, plain_term, aimed_term}
use Rattle.bqn_syntax.specs.grammar.Trees.{Part, Pattern, Strand, StrandPattern, parts, patterns}
use Rattle.bqn_parse.specs.declared.item.Element.{Element}
use Rattle.bqn_parse.specs.Strands.{elements_of}
use Rattle.bqn_parse.specs.Views.{element_of}
use Rattle.std.specs.Prelude.{false}

pub plain-strand : (joined : List Element) (x : Element) → 0 < length joined → plain_term (elements_of joined) (element_of x) ≡ option_map (λ (ps : List Part). Operand (Strand (parts ps))) (each element_part (elements_of (joined ++ x ∷ [])))
plain-strand [] x some = absurd (omega arith)
plain-strand (y ∷ ys) x some = ap (λ (xs : List Piece). option_map (λ (ps : List Part). Operand (Strand (parts ps))) (each element_part (element_of y ∷ xs))) (sym (map-append element_of ys (x ∷ [])))

pub aimed-strand : (joined : List Element) (x : Element) → 0 < length joined → aimed_term (elements_of joined) (element_of x) ≡ option_map (λ (qs : List Pattern). Target (StrandPattern (patterns qs))) (each (element_pattern false) (elements_of (joined ++ x ∷ [])))
aimed-strand [] x some = absurd (omega arith)
aimed-strand (y ∷ ys) x some = ap (λ (xs : List Piece). option_map (λ (qs : List Pattern). Target (StrandPattern (patterns qs))) (each (element_pattern false) (element_of y ∷ xs))) (sym (map-append element_of ys (x ∷ [])))

pub ruleset strand_laws = (plain-strand, aimed-strand)
