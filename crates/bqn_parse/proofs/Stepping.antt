-- One token of a walk.
use Rattle.std.proofs.Common.{◌≡◌, ◌<◌, ◌≤◌, ◌-◌, ℕ, suc, Bool, true, List, [], ◌∷◌, ◌++◌, Some, Result, Ok, Err, length, drop, take, map, reverse, refl, subst, sym, ap, ◌∙◌, arith, rules, length-drop, Box}
use Rattle.std.specs.Global.{Global}
use Rattle.std.proofs.lemmas.List.{reverse-append, length-reverse}
use Rattle.bqn_base.specs.declared.place.Place.{Place}
use Rattle.bqn_base.specs.declared.refusal.Refusal.{Refusal}
use Rattle.bqn_syntax.specs.declared.token.Token.{Token}
use Rattle.bqn_syntax.specs.declared.sort.Inside.{Inside}
use Rattle.bqn_syntax.specs.declared.sort.Inside.TheVariants as inside
use Rattle.bqn_syntax.specs.grammar.Items.{Item, Wrong}
use Rattle.bqn_syntax.specs.grammar.Parsing as parsing
use Rattle.bqn_parse.specs.declared.error.ParseError.{ParseError}
use Rattle.bqn_parse.specs.declared.error.ParseError.TheVariants.{Refused, Memory}
use Rattle.bqn_parse.specs.declared.open_bracket.OpenBracket.{OpenBracket}
use Rattle.bqn_parse.specs.Walking.{around_shown, bracket_shown, Moves}

-- what the innermost bracket answers, the walk does
pub goes-on : {X : Type 0} (outer : List parsing.OpenBracket) (answer : Result parsing.OpenBracket Refusal) (new : parsing.OpenBracket) (result : Result X ParseError) → Moves answer new result → Moves (parsing.go_on outer answer) (parsing.open_brackets new outer) result
goes-on outer answer new (Ok done) moves = ap (parsing.go_on outer) moves
goes-on outer answer new (Err (Refused r)) moves = ap (parsing.go_on outer) moves
goes-on outer answer new (Err Memory) moves = tt

-- the same, where the innermost bracket was read in this place
pub goes-on-at : {X : Type 0} (tokens : List Token) (outer : List parsing.OpenBracket) (f : parsing.OpenBracket → Result parsing.OpenBracket Refusal) (read now : OpenBracket) (new : parsing.OpenBracket) (result : Result X ParseError) → read ≡ now → Moves (f (bracket_shown tokens read)) new result → Moves (parsing.go_on outer (f (bracket_shown tokens now))) (parsing.open_brackets new outer) result
goes-on-at {X} tokens outer f read now new result same moves = goes-on outer (f (bracket_shown tokens now)) new result (subst (λ (l : OpenBracket). Moves (f (bracket_shown tokens l)) new result) same moves)

length-each : {A B : Type 0} (f : A → B) (xs : List A) → length (map f xs) ≡ length xs
length-each f [] = refl
length-each f (x ∷ xs) = ap (λ (n : ℕ). suc n) (length-each f xs)

pub length-outer : (tokens : List Token) (outer : List (Box OpenBracket Global)) → length (around_shown tokens outer) ≡ length outer
length-outer tokens outer = length-each (λ l. bracket_shown tokens l.value) (reverse outer) ∙ length-reverse outer

pub pushed-shown : (tokens : List Token) (outer : List (Box OpenBracket Global)) (around : Box OpenBracket Global) → around_shown tokens (outer ++ around ∷ []) ≡ bracket_shown tokens around.value ∷ around_shown tokens outer
pushed-shown tokens outer around = ap (map (λ (l : Box OpenBracket Global). bracket_shown tokens l.value)) (reverse-append outer (around ∷ []))

pub ruleset open_laws = (length-outer, pushed-shown)

opened-few : (i : Inside) (at : List Token) (place : Place) (so : parsing.OpenBrackets) → length so.outer < 128 → parsing.opened i at place so ≡ Ok (parsing.open_brackets (parsing.fresh i place) (parsing.begun at so.inner ∷ so.outer))
opened-few i at place so few = search rules

-- a new bracket stands in what it was opened in
pub opened-shown : (i : Inside) (at : List Token) (place : Place) (so : parsing.OpenBrackets) (inner : parsing.OpenBracket) (around : List parsing.OpenBracket) → length so.outer < 128 → inner ≡ parsing.fresh i place → around ≡ parsing.begun at so.inner ∷ so.outer → parsing.opened i at place so ≡ Ok (parsing.open_brackets inner around)
opened-shown i at place so inner around few inner_is around_is =
    opened-few i at place so few
    ∙ ap (λ (l : parsing.OpenBracket). Ok (parsing.open_brackets l (parsing.begun at so.inner ∷ so.outer))) (sym inner_is)
    ∙ ap (λ (ls : List parsing.OpenBracket). Ok (parsing.open_brackets inner ls)) (sym around_is)

-- Marks that fit only in some brackets.

pub separated-elsewhere : (i : Inside) (tokens : List Token) (place : Place) (so : parsing.OpenBrackets) → (i ≡ inside.Parens → ⊥) → parsing.separated i tokens place so ≡ parsing.go_on so.outer (parsing.ended place so.inner)
separated-elsewhere inside.Program tokens place so not = refl
separated-elsewhere inside.Parens tokens place so not = absurd (not refl)
separated-elsewhere inside.List tokens place so not = refl
separated-elsewhere inside.Pattern tokens place so not = refl
separated-elsewhere inside.HeaderPattern tokens place so not = refl
separated-elsewhere inside.Merge tokens place so not = refl
separated-elsewhere inside.Block tokens place so not = refl

pub semicolon-elsewhere : (i : Inside) (tokens : List Token) (place : Place) (so : parsing.OpenBrackets) → (i ≡ inside.Block → ⊥) → parsing.semicolon i tokens place so ≡ parsing.taken Wrong tokens so
semicolon-elsewhere inside.Program tokens place so not = refl
semicolon-elsewhere inside.Parens tokens place so not = refl
semicolon-elsewhere inside.List tokens place so not = refl
semicolon-elsewhere inside.Pattern tokens place so not = refl
semicolon-elsewhere inside.HeaderPattern tokens place so not = refl
semicolon-elsewhere inside.Merge tokens place so not = refl
semicolon-elsewhere inside.Block tokens place so not = absurd (not refl)

pub question-elsewhere : (i : Inside) (tokens : List Token) (place : Place) (so : parsing.OpenBrackets) → (i ≡ inside.Block → ⊥) → parsing.question i tokens place so ≡ parsing.taken Wrong tokens so
question-elsewhere inside.Program tokens place so not = refl
question-elsewhere inside.Parens tokens place so not = refl
question-elsewhere inside.List tokens place so not = refl
question-elsewhere inside.Pattern tokens place so not = refl
question-elsewhere inside.HeaderPattern tokens place so not = refl
question-elsewhere inside.Merge tokens place so not = refl
question-elsewhere inside.Block tokens place so not = absurd (not refl)

pub colon-elsewhere : (i : Inside) (tokens : List Token) (place : Place) (so : parsing.OpenBrackets) → (i ≡ inside.Block → ⊥) → parsing.colon i tokens place so ≡ parsing.taken Wrong tokens so
colon-elsewhere inside.Program tokens place so not = refl
colon-elsewhere inside.Parens tokens place so not = refl
colon-elsewhere inside.List tokens place so not = refl
colon-elsewhere inside.Pattern tokens place so not = refl
colon-elsewhere inside.HeaderPattern tokens place so not = refl
colon-elsewhere inside.Merge tokens place so not = refl
colon-elsewhere inside.Block tokens place so not = absurd (not refl)

-- The tokens of a piece.

apart : (tokens : List Token) (first index : ℕ) → index ≤ length tokens → length (drop first tokens) - length (drop index tokens) ≡ index - first
apart tokens first index within = omega (arith, length-drop first tokens, length-drop index tokens)

pub piece-some : (tokens : List Token) (first index : ℕ) → index ≤ length tokens → first ≤ index → parsing.tokens_before (Some (drop first tokens)) (drop index tokens) ≡ take (index - first) (drop first tokens)
piece-some tokens first index within order = ap (λ (n : ℕ). take n (drop first tokens)) (apart tokens first index within)

pub piece-none : (tokens : List Token) (first index : ℕ) → index ≤ length tokens → index < first → parsing.tokens_before (Some (drop first tokens)) (drop index tokens) ≡ []
piece-none tokens first index within order = ap (λ (n : ℕ). take n (drop first tokens)) (apart tokens first index within ∙ (let z : index - first ≡ 0 = omega arith in z))

pub ruleset piece_laws = (piece-some, piece-none)

pub headed-some : (items : List Item) (tokens : List Token) (place : Place) (l : parsing.OpenBracket) → 0 < length items → parsing.headed_by items tokens place l ≡ parsing.headed (parsing.is_first_piece l.header l.statements) tokens place l
headed-some [] tokens place l some = absurd (omega arith)
headed-some (x ∷ xs) tokens place l some = refl

pub headed-first : (items : List Item) (tokens : List Token) (place : Place) (l : parsing.OpenBracket) → 0 < length items → parsing.is_first_piece l.header l.statements ≡ true → parsing.headed_by items tokens place l ≡ parsing.headed true tokens place l
headed-first items tokens place l some e = headed-some items tokens place l some ∙ ap (λ (b : Bool). parsing.headed b tokens place l) e

pub ruleset head_laws = (headed-some, headed-first)
