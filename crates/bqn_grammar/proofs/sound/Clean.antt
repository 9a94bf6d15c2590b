-- A piece that has a form has no wrong item.
use Rattle.std.proofs.Common.{◌≡◌, Bool, List, [], ◌∷◌, ◌++◌, Option, Some, None, refl}
use Rattle.std.specs.Option.{option_and_then}
use Rattle.bqn_syntax.specs.grammar.Items.{Element, Item, Standing, Joining, Wrong, Terms, reads, Between, put, puts, finished, terms_of, groups, onto_first, only_group, piece_pattern}
use Rattle.bqn_syntax.specs.grammar.Units.{units_of}
use Rattle.bqn_syntax.specs.grammar.Expressions.{expression, statement, predicate, units_in, piece_expression, piece_statement, piece_predicate}
use Rattle.bqn_syntax.specs.grammar.Trees.{Pattern, Expr, Stmt}
use Rattle.bqn_grammar.proofs.sound.OpenBrackets.{Clean}
pub use Rattle.bqn_grammar.proofs.Options.{and_then_some, map_some}

puts_clean : (items : List Item) (so out : Terms) → puts so items ≡ Some out → Clean items
puts_clean [] so out e = tt
puts_clean (Wrong ∷ items) so out e = absurd (cc)
puts_clean (i ∷ items) so out e = let m = and_then_some (λ (next : Terms). puts next items) (put so i) out e in (tt, puts_clean items m.0 out m.2)

units_clean : (items : List Item) {B : Type 0} (f : _ → Option B) (y : B) → option_and_then f (units_in items) ≡ Some y → Clean items
units_clean items f y e =
    let m = and_then_some f (units_in items) y e in
    let t = and_then_some units_of (terms_of items) m.0 m.1 in
    let p = and_then_some finished (puts (reads [] Between) items) t.0 t.1 in
    puts_clean items (reads [] Between) p.0 p.1

pub expression_clean : (items : List Item) (e : Expr) → piece_expression items ≡ Some e → Clean items
expression_clean items e h = units_clean items expression e h

pub statement_clean : (items : List Item) (s : Stmt) → piece_statement items ≡ Some s → Clean items
statement_clean items s h = units_clean items statement s h

pub predicate_clean : (items : List Item) (s : Stmt) → piece_predicate items ≡ Some s → Clean items
predicate_clean items s h = let m = and_then_some predicate (piece_expression items) s h in expression_clean items m.0 m.1

pub onto_first_some : (x : Element) (m : Option (List (List Element))) (gs : List (List Element)) → onto_first x m ≡ Some gs → (ys : List (List Element)) × (m ≡ Some ys)
onto_first_some x None gs e = absurd (cc)
onto_first_some x (Some []) gs e = absurd (cc)
onto_first_some x (Some (y ∷ ys)) gs e = (y ∷ ys, refl)

groups_clean : (items : List Item) (gs : List (List Element)) → groups items ≡ Some gs → Clean items
groups_clean [] gs e = tt
groups_clean (Standing x ∷ Joining ∷ items) gs e = let m = onto_first_some x (groups items) gs e in (tt, (tt, groups_clean items m.0 m.1))
groups_clean (Standing x ∷ items) gs e = let m = map_some (λ (gs : List (List Element)). (x ∷ []) ∷ gs) (groups items) gs e in (tt, groups_clean items m.0 m.1)
groups_clean _ gs e = absurd (cc)

pub pattern_clean : (literals : Bool) (items : List Item) (q : Pattern) → piece_pattern literals items ≡ Some q → Clean items
pattern_clean literals items q h = let m = and_then_some (only_group literals) (groups items) q h in groups_clean items m.0 m.1

-- clean items and one more

pub clean_front : (a b : List Item) → Clean (a ++ b) → Clean a
clean_front [] b c = tt
clean_front (i ∷ a) b c = (c.0, clean_front a b c.1)

pub clean_back : (a b : List Item) → Clean (a ++ b) → Clean b
clean_back [] b c = c
clean_back (i ∷ a) b c = clean_back a b c.1
