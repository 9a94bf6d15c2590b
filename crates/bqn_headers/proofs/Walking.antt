-- A walk over the tokens of a header.
use Rattle.std.proofs.Common.{◌≡◌, ◌≤◌, ◌<◌, ◌+◌, ℕ, suc, List, [], ◌∷◌, ◌++◌, true, Option, Some, None, length, map, reverse, drop, get_or, drop-cons, refl, sym, ap, ◌∙◌, add-one, arith}
use Rattle.std.specs.Option.{option_map, option_and_then}
use Rattle.std.proofs.Math.ListN.{drop_of_length-le}
use Rattle.std.proofs.lemmas.List.{reverse-append, length-reverse}
use Rattle.bqn_syntax.specs.declared.token.Token.{Token}
use Rattle.bqn_syntax.specs.grammar.Sorts.{sort_of}
use Rattle.bqn_syntax.specs.grammar.Trees.{Pattern}
use Rattle.bqn_syntax.specs.grammar.Items as items
use Rattle.bqn_syntax.specs.grammar.Items.{piece_pattern}
use Rattle.bqn_syntax.specs.grammar.Headers as headers
use Rattle.bqn_syntax.specs.grammar.Headers.{Lists, end_of_piece, header_items, header_step, list_closes, list_goes_on, lists, open_list, outermost}
use Rattle.bqn_headers.specs.declared.element.Item.{Item}
use Rattle.bqn_headers.specs.declared.lists.OpenList.{OpenList}
use Rattle.bqn_headers.specs.Elements.{item_shown, items_shown}
use Rattle.bqn_headers.specs.OpenLists.{open_shown, outer_shown}
use Rattle.bqn_headers.proofs.Patterns.{map-pushed}

pub items-pushed : (xs : List Item) (x : Item) → items_shown (xs ++ x ∷ []) ≡ items_shown xs ++ item_shown x ∷ []
items-pushed [] x = refl
items-pushed (y ∷ xs) x = ap (λ (ys : List items.Item). item_shown y ∷ ys) (items-pushed xs x)

-- The end of a piece.

pub end-empty : (pieces : List Pattern) (xs : List Item) → length xs ≡ 0 → end_of_piece pieces (items_shown xs) ≡ Some (record { pieces = pieces; items = items_shown xs })
end-empty pieces [] e = refl
end-empty pieces (x ∷ xs) e = absurd (omega arith)

pub end-some : (pieces : List Pattern) (xs : List Item) → 1 ≤ length xs → end_of_piece pieces (items_shown xs) ≡ option_map (λ q. record { pieces = pieces ++ q ∷ []; items = [] }) (piece_pattern true (items_shown xs))
end-some pieces [] le = absurd (omega arith)
end-some pieces (x ∷ xs) le = refl

pub ruleset piece_laws = (map-pushed, end-empty, end-some)

-- The lists around.

pub outer-pushed : (ls : List OpenList) (l : OpenList) → outer_shown (ls ++ l ∷ []) ≡ open_shown l ∷ outer_shown ls
outer-pushed ls l = ap (map open_shown) (reverse-append ls (l ∷ []))

pub goes_on-outermost : (ls : List OpenList) (l : Option headers.OpenList) → length ls ≡ 0 → list_goes_on (outer_shown ls) l ≡ None
goes_on-outermost [] l e = refl
goes_on-outermost (x ∷ ls) l e = absurd (omega arith)

goes_on-at : (ls : List headers.OpenList) (l : Option headers.OpenList) → 1 ≤ length ls → list_goes_on ls l ≡ option_map (λ x. lists x ls) l
goes_on-at [] l le = absurd (omega arith)
goes_on-at (x ∷ ls) None le = refl
goes_on-at (x ∷ ls) (Some l) le = refl

length-outer : (ls : List OpenList) → length (outer_shown ls) ≡ length ls
length-outer ls = length-shown (reverse ls) ∙ length-reverse ls
  where
    length-shown : (ls : List OpenList) → length (map open_shown ls) ≡ length ls
    length-shown [] = refl
    length-shown (l ∷ ls) = ap suc (length-shown ls)

pub goes_on-inner : (ls : List OpenList) (l : Option headers.OpenList) → 1 ≤ length ls → list_goes_on (outer_shown ls) l ≡ option_map (λ x. lists x (outer_shown ls)) l
goes_on-inner ls l le = goes_on-at (outer_shown ls) l (let e = length-outer ls in omega (arith, e))

pub outermost-alone : (l : headers.OpenList) (ls : List OpenList) → length ls ≡ 0 → outermost l (outer_shown ls) ≡ Some l.items
outermost-alone l [] e = refl
outermost-alone l (x ∷ ls) e = absurd (omega arith)

outermost-at : (l : headers.OpenList) (ls : List headers.OpenList) → 1 ≤ length ls → outermost l ls ≡ None
outermost-at l [] le = absurd (omega arith)
outermost-at l (x ∷ ls) le = refl

pub outermost-within : (l : headers.OpenList) (ls : List OpenList) → 1 ≤ length ls → outermost l (outer_shown ls) ≡ None
outermost-within l ls le = outermost-at l (outer_shown ls) (let e = length-outer ls in omega (arith, e))

pub ruleset list_laws = (items-pushed, outer-pushed, goes_on-outermost, goes_on-inner, outermost-alone, outermost-within)

-- Token by token.

-- the lists so far do with the tokens that are left what those of the whole header do
pub record Walked (index : ℕ) (so : Lists) (tokens : List Token) : Type 0 where
  pub same : header_items so (drop index tokens) ≡ header_items (lists open_list []) tokens

pub walked-start : (tokens : List Token) → Walked 0 (lists open_list []) tokens
walked-start tokens = record { same = refl }

walked-next : (index : ℕ) (so : Lists) (tokens : List Token) (token : Token) → Walked index so tokens → index < length tokens → token ≡ get_or tokens index token
    → header_items (lists open_list []) tokens ≡ option_and_then (λ next. header_items next (drop (index + 1) tokens)) (header_step (sort_of token.kind) so token)
walked-next index so tokens token walked inside is =
    sym walked.same
    ∙ ap (λ (rest : List Token). header_items so rest) (drop-cons tokens index token inside)
    ∙ ap (λ (first : Token). header_items so (first ∷ drop (suc index) tokens)) (sym is)
    ∙ ap (λ (n : ℕ). option_and_then (λ next. header_items next (drop n tokens)) (header_step (sort_of token.kind) so token)) (sym (add-one index))

pub walked-step : (index : ℕ) (so next : Lists) (tokens : List Token) (token : Token) → Walked index so tokens → index < length tokens → token ≡ get_or tokens index token
    → header_step (sort_of token.kind) so token ≡ Some next → Walked (index + 1) next tokens
walked-step index so next tokens token walked inside is e = record { same = sym (walked-next index so tokens token walked inside is ∙ ap (λ (o : Option Lists). option_and_then (λ l. header_items l (drop (index + 1) tokens)) o) e) }

pub walked-stuck : (index : ℕ) (so : Lists) (tokens : List Token) (token : Token) → Walked index so tokens → index < length tokens → token ≡ get_or tokens index token
    → header_step (sort_of token.kind) so token ≡ None → header_items (lists open_list []) tokens ≡ None
walked-stuck index so tokens token walked inside is e = walked-next index so tokens token walked inside is ∙ ap (λ (o : Option Lists). option_and_then (λ l. header_items l (drop (index + 1) tokens)) o) e

pub walked-end : (index : ℕ) (so : Lists) (tokens : List Token) → Walked index so tokens → length tokens ≤ index → header_items (lists open_list []) tokens ≡ outermost so.inner so.outer
walked-end index so tokens walked outside = sym walked.same ∙ ap (λ (rest : List Token). header_items so rest) (drop_of_length-le tokens outside)

pub ruleset walk_laws = (walked-start, walked-step, walked-stuck, walked-end)
