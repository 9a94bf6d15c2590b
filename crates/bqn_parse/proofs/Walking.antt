-- The steps of a walk.
use Rattle.std.proofs.Common.{◌≡◌, ◌<◌, ◌≤◌, ℕ, List, [], ◌∷◌, ◌++◌, Option, Some, Result, Ok, length, drop, get_or, drop-cons, map, refl, sym, ap, ◌∙◌, arith, subst}
use Rattle.std.proofs.Math.ListN.{drop_of_length-le}
use Rattle.std.proofs.lemmas.List.{map-append}
use Rattle.bqn_base.specs.declared.place.Place.{Place}
use Rattle.bqn_syntax.specs.declared.token.Token.{Token}
use Rattle.bqn_syntax.specs.grammar.Items.{Item}
use Rattle.bqn_syntax.specs.grammar.Expressions.{piece_predicate}
use Rattle.bqn_syntax.specs.grammar.Parsing as parsing
use Rattle.bqn_parse.specs.Walking.{Moves}
use Rattle.bqn_parse.specs.declared.error.ParseError.{ParseError}

pub map-snoc : {A B : Type 0} (f : A → B) (xs : List A) (x : A) → map f (xs ++ x ∷ []) ≡ map f xs ++ f x ∷ []
map-snoc f xs x = map-append f xs (x ∷ [])

pub ruleset append_laws = (map-snoc)

pub place-past : (tokens : List Token) (i : ℕ) (place : Place) → length tokens ≤ i → parsing.place_of_first (Some (drop i tokens)) place ≡ place
place-past tokens i place outside = ap (λ (ts : List Token). parsing.place_of_first (Some ts) place) (drop_of_length-le tokens outside)

pub place-there : (tokens : List Token) (i : ℕ) (place : Place) (token : Token) → i < length tokens → token ≡ get_or tokens i token → parsing.place_of_first (Some (drop i tokens)) place ≡ token.place
place-there tokens i place token inside is = ap (λ (ts : List Token). parsing.place_of_first (Some ts) place) (drop-cons tokens i token inside) ∙ ap (λ (t : Token). t.place) (sym is)

-- a piece that has a form
pub well-made : {A X : Type 0} (place : Place) (and : A → parsing.OpenBracket → parsing.OpenBracket) (answer : Option A) (x : A) (l new : parsing.OpenBracket) (result : Result X ParseError) → Some x ≡ answer → Moves (Ok (and x l)) new result → Moves (parsing.well place and answer l) new result
well-made {A} {X} place and answer x l new result e moves = subst (λ (o : Option A). Moves (parsing.well place and o l) new result) e moves

pub ruleset place_laws = (place-past, place-there)

pub ended-empty : (l : parsing.OpenBracket) (place : Place) → l.items ≡ [] → parsing.ended place l ≡ parsing.no_piece l.inside place l
ended-empty l place e = ap (λ (xs : List Item). parsing.ended_by xs place l) e

pub ended-some : (l : parsing.OpenBracket) (place : Place) → 0 < length l.items → parsing.ended place l ≡ parsing.judged l.inside place l
ended-some l place some = at l.items some
  where
    at : (xs : List Item) → 0 < length xs → parsing.ended_by xs place l ≡ parsing.judged l.inside place l
    at [] none = absurd (omega arith)
    at (x ∷ xs) some = refl

pub asked-some : (l : parsing.OpenBracket) (place : Place) (xs : List Item) → 0 < length xs → parsing.asked xs place l ≡ parsing.well place parsing.and_statement (piece_predicate l.items) l
asked-some l place [] none = absurd (omega arith)
asked-some l place (x ∷ xs) some = refl

pub ruleset end_laws = (ended-empty, ended-some, asked-some)
