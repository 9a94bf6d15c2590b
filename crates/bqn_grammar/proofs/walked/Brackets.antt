-- Where the walk comes to an end, the brackets match.
use Rattle.std.proofs.Common.{◌≡◌, ◌+◌, ℕ, ◌==◌, Bool, true, false, List, [], ◌∷◌, ◌++◌, length, Option, Some, None, Result, Ok, Err, ◌⊎◌, inl, inr, arith, refl, sym, ap, ◌∙◌, subst}
use Rattle.std.specs.Prelude.{nat_lt, if◌then◌else◌, set}
use Rattle.bqn_base.specs.declared.place.Place.{Place}
use Rattle.bqn_base.specs.declared.refusal.Refusal.{Refusal}
use Rattle.bqn_base.specs.declared.refusal.Refusal.TheVariants as refusal
use Rattle.bqn_syntax.specs.declared.open.Open.{Open}
use Rattle.bqn_syntax.specs.declared.token.Token.{Token}
use Rattle.bqn_syntax.specs.declared.token.Kind.{Kind}
use Rattle.bqn_syntax.specs.declared.token.Kind.TheVariants as kind
use Rattle.bqn_syntax.specs.declared.sort.Bracket.{Bracket}
use Rattle.bqn_syntax.specs.declared.sort.Bracket.TheVariants.{Round, Angle, Square, Curly}
use Rattle.bqn_syntax.specs.declared.sort.Sort.{Sort}
use Rattle.bqn_syntax.specs.declared.sort.Sort.TheVariants.{Opens, Closes, Separates, Draws, Joins, Selects, Ends, Heads, Asks, Skips, Stands}
use Rattle.bqn_syntax.specs.declared.sort.Inside.{Inside}
use Rattle.bqn_syntax.specs.declared.sort.Inside.TheVariants as inside
use Rattle.bqn_syntax.specs.grammar.Punctuation as punctuation
use Rattle.bqn_syntax.specs.grammar.Sorts.{sort_of, punct_sort}
use Rattle.bqn_syntax.specs.grammar.Brackets.{is_opening, is_closing, closing_of, Nesting, alone, marked, behind_token, at_end, nested}
use Rattle.bqn_syntax.specs.grammar.Brackets as brackets
use Rattle.bqn_syntax.specs.grammar.Looks.{Ahead, behind_group}
use Rattle.bqn_syntax.specs.grammar.Items.{Element, OfPart, Item, Standing, Drawn, Joining, Selecting, Wrong, piece_pattern}
use Rattle.bqn_syntax.specs.grammar.Expressions.{piece_expression, piece_statement, piece_predicate}
use Rattle.bqn_syntax.specs.grammar.Headers.{header_in}
use Rattle.bqn_syntax.specs.grammar.Parsing.{OpenBracket, OpenBrackets, open_brackets, fresh, begun, and_expression, and_target, and_statement, well, judged, no_piece, ended_by, ended, is_first_piece, inside_of, list_inside, closes, whole_of, handed, go_on, taken, opened, closed, separated, semicolon, body_ended, asked, question, tokens_before, known_header, headed, headed_by, colon, step, nowhere, program_of, walk}
use Rattle.bqn_syntax.specs.grammar.Trees.{Header, Leaf, Nothing, Stmts}
use Rattle.bqn_grammar.proofs.sound.Sorts.{sort_code, mark_of}
use Rattle.bqn_grammar.proofs.walked.Steps.{walk_cons, walked}

-- what a step leaves of the open brackets
pub record Stays (l : OpenBracket) (around : List OpenBracket) (next : OpenBrackets) : Type 0 where
  pub inside : next.inner.inside ≡ l.inside
  pub outer : next.outer ≡ around

-- an open bracket that goes on is inside the same
abbrev Keeps : OpenBracket → Result OpenBracket Refusal → Type 0
Keeps l (Ok next) = next.inside ≡ l.inside
Keeps l (Err r) = Unit {0}

keeps_well : {A : Type 0} (place : Place) (and : A → OpenBracket → OpenBracket) (o : Option A) (l : OpenBracket) → ((x : A) → (and x l).inside ≡ l.inside) → Keeps l (well place and o l)
keeps_well place and None l e = tt
keeps_well place and (Some x) l e = e x

keeps_judged : (i : Inside) (place : Place) (l : OpenBracket) → Keeps l (judged i place l)
keeps_judged inside.Program place l = keeps_well place and_statement (piece_statement l.items) l (λ x. refl)
keeps_judged inside.Block place l = keeps_well place and_statement (piece_statement l.items) l (λ x. refl)
keeps_judged inside.Parens place l = keeps_well place and_expression (piece_expression l.items) l (λ x. refl)
keeps_judged inside.List place l = keeps_well place and_expression (piece_expression l.items) l (λ x. refl)
keeps_judged inside.Merge place l = keeps_well place and_expression (piece_expression l.items) l (λ x. refl)
keeps_judged inside.Pattern place l = keeps_well place and_target (piece_pattern false l.items) l (λ x. refl)
keeps_judged inside.HeaderPattern place l = keeps_well place and_target (piece_pattern true l.items) l (λ x. refl)

keeps_no_piece : (i : Inside) (place : Place) (l : OpenBracket) → Keeps l (no_piece i place l)
keeps_no_piece inside.Parens place l = tt
keeps_no_piece inside.Program place l = refl
keeps_no_piece inside.Block place l = refl
keeps_no_piece inside.List place l = refl
keeps_no_piece inside.Merge place l = refl
keeps_no_piece inside.Pattern place l = refl
keeps_no_piece inside.HeaderPattern place l = refl

keeps_ended_by : (is : List Item) (place : Place) (l : OpenBracket) → Keeps l (ended_by is place l)
keeps_ended_by [] place l = keeps_no_piece l.inside place l
keeps_ended_by (i ∷ is) place l = keeps_judged l.inside place l

keeps_ended : (place : Place) (l : OpenBracket) → Keeps l (ended place l)
keeps_ended place l = keeps_ended_by l.items place l

stays_on : (l : OpenBracket) (outer : List OpenBracket) (r : Result OpenBracket Refusal) (next : OpenBrackets) → Keeps l r → go_on outer r ≡ Ok next → Stays l outer next
stays_on l outer (Err r) next k e = absurd (cc)
stays_on l outer (Ok m) next k e = subst (λ (x : Result OpenBrackets Refusal). StaysIn x) e (record { inside = k; outer = refl })
  where
    StaysIn : Result OpenBrackets Refusal → Type 0
    StaysIn (Ok n) = Stays l outer n
    StaysIn (Err r) = Unit {0}

stays_taken : (item : Item) (tokens : List Token) (so next : OpenBrackets) → taken item tokens so ≡ Ok next → Stays so.inner so.outer next
stays_taken item tokens so next e = subst (λ (x : Result OpenBrackets Refusal). StaysIn x) e (record { inside = refl; outer = refl })
  where
    StaysIn : Result OpenBrackets Refusal → Type 0
    StaysIn (Ok n) = Stays so.inner so.outer n
    StaysIn (Err r) = Unit {0}

stays_separated : (i : Inside) (tokens : List Token) (place : Place) (so next : OpenBrackets) → separated i tokens place so ≡ Ok next → Stays so.inner so.outer next
stays_separated inside.Parens tokens place so next e = stays_taken Wrong tokens so next e
stays_separated inside.Program tokens place so next e = stays_on so.inner so.outer (ended place so.inner) next (keeps_ended place so.inner) e
stays_separated inside.List tokens place so next e = stays_on so.inner so.outer (ended place so.inner) next (keeps_ended place so.inner) e
stays_separated inside.Pattern tokens place so next e = stays_on so.inner so.outer (ended place so.inner) next (keeps_ended place so.inner) e
stays_separated inside.HeaderPattern tokens place so next e = stays_on so.inner so.outer (ended place so.inner) next (keeps_ended place so.inner) e
stays_separated inside.Merge tokens place so next e = stays_on so.inner so.outer (ended place so.inner) next (keeps_ended place so.inner) e
stays_separated inside.Block tokens place so next e = stays_on so.inner so.outer (ended place so.inner) next (keeps_ended place so.inner) e

keeps_body : (l : OpenBracket) (r : Result OpenBracket Refusal) → Keeps l r → Keeps l (body_ended r)
keeps_body l (Ok m) k = k
keeps_body l (Err r) k = tt

stays_semicolon : (i : Inside) (tokens : List Token) (place : Place) (so next : OpenBrackets) → semicolon i tokens place so ≡ Ok next → Stays so.inner so.outer next
stays_semicolon inside.Block tokens place so next e = stays_on so.inner so.outer (body_ended (ended place so.inner)) next (keeps_body so.inner (ended place so.inner) (keeps_ended place so.inner)) e
stays_semicolon inside.Program tokens place so next e = stays_taken Wrong tokens so next e
stays_semicolon inside.Parens tokens place so next e = stays_taken Wrong tokens so next e
stays_semicolon inside.List tokens place so next e = stays_taken Wrong tokens so next e
stays_semicolon inside.Pattern tokens place so next e = stays_taken Wrong tokens so next e
stays_semicolon inside.HeaderPattern tokens place so next e = stays_taken Wrong tokens so next e
stays_semicolon inside.Merge tokens place so next e = stays_taken Wrong tokens so next e

keeps_asked : (is : List Item) (place : Place) (l : OpenBracket) → Keeps l (asked is place l)
keeps_asked [] place l = tt
keeps_asked (i ∷ is) place l = keeps_well place and_statement (piece_predicate l.items) l (λ x. refl)

stays_question : (i : Inside) (tokens : List Token) (place : Place) (so next : OpenBrackets) → question i tokens place so ≡ Ok next → Stays so.inner so.outer next
stays_question inside.Block tokens place so next e = stays_on so.inner so.outer (asked so.inner.items place so.inner) next (keeps_asked so.inner.items place so.inner) e
stays_question inside.Program tokens place so next e = stays_taken Wrong tokens so next e
stays_question inside.Parens tokens place so next e = stays_taken Wrong tokens so next e
stays_question inside.List tokens place so next e = stays_taken Wrong tokens so next e
stays_question inside.Pattern tokens place so next e = stays_taken Wrong tokens so next e
stays_question inside.HeaderPattern tokens place so next e = stays_taken Wrong tokens so next e
stays_question inside.Merge tokens place so next e = stays_taken Wrong tokens so next e

keeps_known : (place : Place) (o : Option Header) (l : OpenBracket) → Keeps l (known_header place o l)
keeps_known place None l = tt
keeps_known place (Some h) l = refl

keeps_headed : (b : Bool) (tokens : List Token) (place : Place) (l : OpenBracket) → Keeps l (headed b tokens place l)
keeps_headed true tokens place l = keeps_known place (header_in (tokens_before l.first tokens)) l
keeps_headed false tokens place l = tt

keeps_headed_by : (is : List Item) (tokens : List Token) (place : Place) (l : OpenBracket) → Keeps l (headed_by is tokens place l)
keeps_headed_by [] tokens place l = tt
keeps_headed_by (i ∷ is) tokens place l = keeps_headed (is_first_piece l.header l.statements) tokens place l

stays_colon : (i : Inside) (tokens : List Token) (place : Place) (so next : OpenBrackets) → colon i tokens place so ≡ Ok next → Stays so.inner so.outer next
stays_colon inside.Block tokens place so next e = stays_on so.inner so.outer (headed_by so.inner.items tokens place so.inner) next (keeps_headed_by so.inner.items tokens place so.inner) e
stays_colon inside.Program tokens place so next e = stays_taken Wrong tokens so next e
stays_colon inside.Parens tokens place so next e = stays_taken Wrong tokens so next e
stays_colon inside.List tokens place so next e = stays_taken Wrong tokens so next e
stays_colon inside.Pattern tokens place so next e = stays_taken Wrong tokens so next e
stays_colon inside.HeaderPattern tokens place so next e = stays_taken Wrong tokens so next e
stays_colon inside.Merge tokens place so next e = stays_taken Wrong tokens so next e

-- the open brackets of the scan are those of the walk
abbrev pub CodeFits : Inside → ℕ → Type 0
CodeFits inside.Program c = ⊥
CodeFits inside.Parens c = c ≡ punctuation.open_round
CodeFits inside.Merge c = c ≡ punctuation.open_square
CodeFits inside.Block c = c ≡ punctuation.open_curly
CodeFits inside.List c = c ≡ punctuation.open_angle
CodeFits inside.Pattern c = c ≡ punctuation.open_angle
CodeFits inside.HeaderPattern c = c ≡ punctuation.open_angle

abbrev pub Around : Inside → List OpenBracket → List Open → Type 0
Around i [] [] = Unit {0}
Around i [] (o ∷ os) = ⊥
Around i (l ∷ outer) [] = ⊥
Around i (l ∷ outer) (o ∷ os) = CodeFits i o.code × Around l.inside outer os

around_length : (i : Inside) (outer : List OpenBracket) (os : List Open) → Around i outer os → length os ≡ length outer
around_length i [] [] a = refl
around_length i [] (o ∷ os) a = elim a [ ]
around_length i (l ∷ outer) [] a = elim a [ ]
around_length i (l ∷ outer) (o ∷ os) a = let h = around_length l.inside outer os a.1 in omega (arith, h)

-- what one token makes of the open brackets
pub record Follows (index : ℕ) (t : Token) (now : Nesting) (next : OpenBrackets) : Type 0 where
  pub then_now : Nesting
  pub is : behind_token index t.kind t.place now ≡ Ok then_now
  pub around : Around next.inner.inside next.outer then_now.around

-- other tokens
opening_is : (c : ℕ) → is_opening c ≡ true → ((c ≡ punctuation.open_round) ⊎ (c ≡ punctuation.open_curly)) ⊎ ((c ≡ punctuation.open_angle) ⊎ (c ≡ punctuation.open_square))
opening_is c e = go (punctuation.open_round == c) (punctuation.open_curly == c) (punctuation.open_angle == c) (punctuation.open_square == c) refl refl refl refl e
  where
    same : (n : ℕ) → (n == c) ≡ true → c ≡ n
    same n e = grind arith

    go : (x y z w : Bool) → (punctuation.open_round == c) ≡ x → (punctuation.open_curly == c) ≡ y → (punctuation.open_angle == c) ≡ z → (punctuation.open_square == c) ≡ w → is_opening c ≡ true → ((c ≡ punctuation.open_round) ⊎ (c ≡ punctuation.open_curly)) ⊎ ((c ≡ punctuation.open_angle) ⊎ (c ≡ punctuation.open_square))
    go true y z w a b d f e = inl (inl (same punctuation.open_round a))
    go false true z w a b d f e = inl (inr (same punctuation.open_curly b))
    go false false true w a b d f e = inr (inl (same punctuation.open_angle d))
    go false false false true a b d f e = inr (inr (same punctuation.open_square f))
    go false false false false a b d f e = let z : false ≡ true = rw (a, b, d, f) at e in absurd (cc)

closing_is : (c : ℕ) → is_closing c ≡ true → ((c ≡ punctuation.close_round) ⊎ (c ≡ punctuation.close_curly)) ⊎ ((c ≡ punctuation.close_angle) ⊎ (c ≡ punctuation.close_square))
closing_is c e = go (punctuation.close_round == c) (punctuation.close_curly == c) (punctuation.close_angle == c) (punctuation.close_square == c) refl refl refl refl e
  where
    same : (n : ℕ) → (n == c) ≡ true → c ≡ n
    same n e = grind arith

    go : (x y z w : Bool) → (punctuation.close_round == c) ≡ x → (punctuation.close_curly == c) ≡ y → (punctuation.close_angle == c) ≡ z → (punctuation.close_square == c) ≡ w → is_closing c ≡ true → ((c ≡ punctuation.close_round) ⊎ (c ≡ punctuation.close_curly)) ⊎ ((c ≡ punctuation.close_angle) ⊎ (c ≡ punctuation.close_square))
    go true y z w a b d f e = inl (inl (same punctuation.close_round a))
    go false true z w a b d f e = inl (inr (same punctuation.close_curly b))
    go false false true w a b d f e = inr (inl (same punctuation.close_angle d))
    go false false false true a b d f e = inr (inr (same punctuation.close_square f))
    go false false false false a b d f e = let z : false ≡ true = rw (a, b, d, f) at e in absurd (cc)

no_opening : (c : ℕ) (q : Sort) → punct_sort c ≡ q → ((b : Bracket) → q ≡ Opens b → ⊥) → is_opening c ≡ false
no_opening c q p n = go (is_opening c) refl
  where
    opens_then : (m : ℕ) (b : Bracket) → c ≡ m → punct_sort m ≡ Opens b → ⊥
    opens_then m b e d = n b (sym p ∙ ap punct_sort e ∙ d)

    go : (x : Bool) → is_opening c ≡ x → x ≡ false
    go false e = refl
    go true e = elim (opening_is c e) [
      | inl (inl d) ↦ absurd (opens_then punctuation.open_round Round d refl)
      | inl (inr d) ↦ absurd (opens_then punctuation.open_curly Curly d refl)
      | inr (inl d) ↦ absurd (opens_then punctuation.open_angle Angle d refl)
      | inr (inr d) ↦ absurd (opens_then punctuation.open_square Square d refl)
    ]

no_closing : (c : ℕ) (q : Sort) → punct_sort c ≡ q → ((b : Bracket) → q ≡ Closes b → ⊥) → is_closing c ≡ false
no_closing c q p n = go (is_closing c) refl
  where
    closes_then : (m : ℕ) (b : Bracket) → c ≡ m → punct_sort m ≡ Closes b → ⊥
    closes_then m b e d = n b (sym p ∙ ap punct_sort e ∙ d)

    go : (x : Bool) → is_closing c ≡ x → x ≡ false
    go false e = refl
    go true e = elim (closing_is c e) [
      | inl (inl d) ↦ absurd (closes_then punctuation.close_round Round d refl)
      | inl (inr d) ↦ absurd (closes_then punctuation.close_curly Curly d refl)
      | inr (inl d) ↦ absurd (closes_then punctuation.close_angle Angle d refl)
      | inr (inr d) ↦ absurd (closes_then punctuation.close_square Square d refl)
    ]

other_token : (index : ℕ) (k : Kind) (place : Place) (now : Nesting) (q : Sort) → sort_of k ≡ q → ((b : Bracket) → q ≡ Opens b → ⊥) → ((b : Bracket) → q ≡ Closes b → ⊥) → behind_token index k place now ≡ Ok (alone index now)
other_token index (kind.Punct c) place now q e n m =
    ap (λ (x : Bool). if x then brackets.opened (record { index = index; code = c; place = place }) now else (if is_closing c then brackets.closed (record { index = index; code = c; place = place }) now.around now.partners else Ok (alone index now))) (no_opening c q e n)
    ∙ ap (λ (x : Bool). if x then brackets.closed (record { index = index; code = c; place = place }) now.around now.partners else Ok (alone index now)) (no_closing c q e m)
other_token index (kind.Number z) place now q e n m = refl
other_token index (kind.Char z) place now q e n m = refl
other_token index (kind.Text z) place now q e n m = refl
other_token index (kind.Word z r) place now q e n m = refl
other_token index (kind.System z r) place now q e n m = refl
other_token index (kind.Special z r) place now q e n m = refl
other_token index (kind.Given z) place now q e n m = refl

stays_follows : (index : ℕ) (t : Token) (now : Nesting) (so next : OpenBrackets) (q : Sort) → sort_of t.kind ≡ q → ((b : Bracket) → q ≡ Opens b → ⊥) → ((b : Bracket) → q ≡ Closes b → ⊥) → Around so.inner.inside so.outer now.around → Stays so.inner so.outer next → Follows index t now next
stays_follows index t now so next q e n m a s = record {
  then_now = alone index now;
  is = other_token index t.kind t.place now q e n m;
  around = subst (λ (i : Inside). Around i next.outer now.around) (sym s.inside) (subst (λ (o : List OpenBracket). Around so.inner.inside o now.around) (sym s.outer) a);
}

-- a bracket that opens
opened_ok : (i : Inside) (tokens : List Token) (place : Place) (so next : OpenBrackets) → opened i tokens place so ≡ Ok next → (nat_lt (length so.outer) 128 ≡ true) × (next ≡ open_brackets (fresh i place) (begun tokens so.inner ∷ so.outer))
opened_ok i tokens place so next e = go (nat_lt (length so.outer) 128) refl e
  where
    go : (b : Bool) → nat_lt (length so.outer) 128 ≡ b → (if b then Ok (open_brackets (fresh i place) (begun tokens so.inner ∷ so.outer)) else Err (refusal.TooNested place)) ≡ Ok next → (nat_lt (length so.outer) 128 ≡ true) × (next ≡ open_brackets (fresh i place) (begun tokens so.inner ∷ so.outer))
    go true d e = (d, (cc))
    go false d e = absurd (cc)

not_deepest : (n m : ℕ) → m ≡ n → nat_lt n 128 ≡ true → (m == 128) ≡ false
not_deepest n m e l = grind arith

bracket_opened : (o : Open) (now : Nesting) → (length now.around == 128) ≡ false → brackets.opened o now ≡ Ok (record { around = o ∷ now.around; partners = now.partners ++ o.index ∷ [] })
bracket_opened o now e = ap (λ (x : Bool). if x then Err (refusal.TooNested o.place) else Ok (record { around = o ∷ now.around; partners = now.partners ++ o.index ∷ [] })) e

opens_marked : (b : Bracket) (index : ℕ) (place : Place) (now : Nesting) → marked (record { index = index; code = sort_code (Opens b); place = place }) now ≡ brackets.opened (record { index = index; code = sort_code (Opens b); place = place }) now
opens_marked Round index place now = refl
opens_marked Angle index place now = refl
opens_marked Square index place now = refl
opens_marked Curly index place now = refl

list_code : (a : Ahead) (i : Inside) (h : Bool) → CodeFits (list_inside a i h) punctuation.open_angle
list_code a i h = go a.arrow a.colon i h
  where
    plain : (x : Bool) → CodeFits (if x then inside.Pattern else inside.List) punctuation.open_angle
    plain true = refl
    plain false = refl

    heading : (x y : Bool) → CodeFits (if x then inside.Pattern else (if y then inside.HeaderPattern else inside.List)) punctuation.open_angle
    heading true y = refl
    heading false true = refl
    heading false false = refl

    patterned : (x : Bool) → CodeFits (if x then inside.Pattern else inside.HeaderPattern) punctuation.open_angle
    patterned true = refl
    patterned false = refl

    go : (x y : Bool) (i : Inside) (h : Bool) → CodeFits (list_inside (record { arrow = x; element = a.element; colon = y }) i h) punctuation.open_angle
    go x y inside.Pattern h = refl
    go x y inside.HeaderPattern h = patterned x
    go x y inside.Block true = heading x y
    go x y inside.Block false = plain x
    go x y inside.Program h = plain x
    go x y inside.Parens h = plain x
    go x y inside.List h = plain x
    go x y inside.Merge h = plain x

inside_code : (b : Bracket) (a : Ahead) (l : OpenBracket) → CodeFits (inside_of b a l) (sort_code (Opens b))
inside_code Round a l = refl
inside_code Square a l = refl
inside_code Curly a l = refl
inside_code Angle a l = list_code a l.inside (is_first_piece l.header l.statements)

opens_follow : (b : Bracket) (a : Ahead) (index : ℕ) (t : Token) (tokens : List Token) (now : Nesting) (so next : OpenBrackets) → sort_of t.kind ≡ Opens b → Around so.inner.inside so.outer now.around → opened (inside_of b a so.inner) tokens t.place so ≡ Ok next → Follows index t now next
opens_follow b a index t tokens now so next e ar d =
    let o = opened_ok (inside_of b a so.inner) tokens t.place so next d in
    let bracket : Open = record { index = index; code = sort_code (Opens b); place = t.place } in
    record {
      then_now = record { around = bracket ∷ now.around; partners = now.partners ++ index ∷ [] };
      is = ap (λ (k : Kind). behind_token index k t.place now) (mark_of t.kind (Opens b) e tt)
          ∙ opens_marked b index t.place now
          ∙ bracket_opened bracket now (not_deepest (length so.outer) (length now.around) (around_length so.inner.inside so.outer now.around ar) o.0);
      around = subst (λ (x : OpenBrackets). Around x.inner.inside x.outer (bracket ∷ now.around)) (sym o.1) (inside_code b a so.inner, ar);
    }

-- a bracket that closes
handed_ok : (place : Place) (r : Result Element Refusal) (outer : List OpenBracket) (next : OpenBrackets) → handed place r outer ≡ Ok next → (around : OpenBracket) × (rest : List OpenBracket) × (outer ≡ around ∷ rest) × (next.inner.inside ≡ around.inside) × (next.outer ≡ rest)
handed_ok place (Err r) outer next e = absurd (cc)
handed_ok place (Ok x) [] next e = absurd (cc)
handed_ok place (Ok x) (around ∷ rest) next e = (around, rest, refl, sym (ap inside_in e), sym (ap outer_in e))
  where
    inside_in : Result OpenBrackets Refusal → Inside
    inside_in (Ok n) = n.inner.inside
    inside_in (Err r) = around.inside

    outer_in : Result OpenBrackets Refusal → List OpenBracket
    outer_in (Ok n) = n.outer
    outer_in (Err r) = rest

closed_ok : (b : Bool) (place : Place) (so next : OpenBrackets) → closed b place so ≡ Ok next → (b ≡ true) × (around : OpenBracket) × (rest : List OpenBracket) × (so.outer ≡ around ∷ rest) × (next.inner.inside ≡ around.inside) × (next.outer ≡ rest)
closed_ok true place so next e = let h = handed_ok place (whole_of place (ended place so.inner)) so.outer next e in (refl, h.0, h.1, h.2, h.3, h.4)
closed_ok false place so next e = absurd (cc)

closing_code : (b : Bracket) (i : Inside) (c : ℕ) → closes b i ≡ true → CodeFits i c → closing_of c ≡ sort_code (Closes b)
closing_code Round inside.Parens c e f = ap closing_of f
closing_code Square inside.Merge c e f = ap closing_of f
closing_code Curly inside.Block c e f = ap closing_of f
closing_code Angle inside.List c e f = ap closing_of f
closing_code Angle inside.Pattern c e f = ap closing_of f
closing_code Angle inside.HeaderPattern c e f = ap closing_of f
closing_code _ _ c e f = absurd (cc)

closes_marked : (b : Bracket) (index : ℕ) (place : Place) (now : Nesting) → marked (record { index = index; code = sort_code (Closes b); place = place }) now ≡ brackets.closed (record { index = index; code = sort_code (Closes b); place = place }) now.around now.partners
closes_marked Round index place now = refl
closes_marked Angle index place now = refl
closes_marked Square index place now = refl
closes_marked Curly index place now = refl

same_true : (n m : ℕ) → n ≡ m → (n == m) ≡ true
same_true n m e = grind arith

closes_top : (b : Bracket) (index : ℕ) (t : Token) (now : Nesting) (os : List Open) (i : Inside) (around : OpenBracket) (rest : List OpenBracket) (next : OpenBrackets) → sort_of t.kind ≡ Closes b → now.around ≡ os → Around i (around ∷ rest) os → closes b i ≡ true → next.inner.inside ≡ around.inside → next.outer ≡ rest → Follows index t now next
closes_top b index t now [] i around rest next e n ar c x y = elim ar [ ]
closes_top b index t now (o ∷ os) i around rest next e n ar c x y = record {
  then_now = record { around = os; partners = set now.partners o.index index ++ o.index ∷ [] };
  is = ap (λ (k : Kind). behind_token index k t.place now) (mark_of t.kind (Closes b) e tt)
      ∙ closes_marked b index t.place now
      ∙ ap (λ (l : List Open). brackets.closed (record { index = index; code = sort_code (Closes b); place = t.place }) l now.partners) n
      ∙ ap (λ (z : Bool). if z then Ok (record { around = os; partners = set now.partners o.index index ++ o.index ∷ [] }) else Err (refusal.Bracket t.place)) (same_true (closing_of o.code) (sort_code (Closes b)) (closing_code b i o.code c ar.0));
  around = subst (λ (z : Inside). Around z next.outer os) (sym x) (subst (λ (z : List OpenBracket). Around around.inside z os) (sym y) ar.1);
}

closes_follow : (b : Bracket) (index : ℕ) (t : Token) (now : Nesting) (so next : OpenBrackets) → sort_of t.kind ≡ Closes b → Around so.inner.inside so.outer now.around → closed (closes b so.inner.inside) t.place so ≡ Ok next → Follows index t now next
closes_follow b index t now so next e ar d =
    let c = closed_ok (closes b so.inner.inside) t.place so next d in
    closes_top b index t now now.around so.inner.inside c.1 c.2 next e refl (subst (λ (o : List OpenBracket). Around so.inner.inside o now.around) c.3 ar) c.0 c.4 c.5

-- one token
step_follows : (q : Sort) (a : Ahead) (index : ℕ) (t : Token) (tokens : List Token) (now : Nesting) (so next : OpenBrackets) → sort_of t.kind ≡ q → Around so.inner.inside so.outer now.around → step q a t tokens so ≡ Ok next → Follows index t now next
step_follows (Opens b) a index t tokens now so next e ar d = opens_follow b a index t tokens now so next e ar d
step_follows (Closes b) a index t tokens now so next e ar d = closes_follow b index t now so next e ar d
step_follows Separates a index t tokens now so next e ar d = stays_follows index t now so next Separates e (λ b x. absurd (cc)) (λ b x. absurd (cc)) ar (stays_separated so.inner.inside tokens t.place so next d)
step_follows Ends a index t tokens now so next e ar d = stays_follows index t now so next Ends e (λ b x. absurd (cc)) (λ b x. absurd (cc)) ar (stays_semicolon so.inner.inside tokens t.place so next d)
step_follows Asks a index t tokens now so next e ar d = stays_follows index t now so next Asks e (λ b x. absurd (cc)) (λ b x. absurd (cc)) ar (stays_question so.inner.inside tokens t.place so next d)
step_follows Heads a index t tokens now so next e ar d = stays_follows index t now so next Heads e (λ b x. absurd (cc)) (λ b x. absurd (cc)) ar (stays_colon so.inner.inside tokens t.place so next d)
step_follows (Draws r) a index t tokens now so next e ar d = stays_follows index t now so next (Draws r) e (λ b x. absurd (cc)) (λ b x. absurd (cc)) ar (stays_taken (Drawn r) tokens so next d)
step_follows Joins a index t tokens now so next e ar d = stays_follows index t now so next Joins e (λ b x. absurd (cc)) (λ b x. absurd (cc)) ar (stays_taken Joining tokens so next d)
step_follows Selects a index t tokens now so next e ar d = stays_follows index t now so next Selects e (λ b x. absurd (cc)) (λ b x. absurd (cc)) ar (stays_taken Selecting tokens so next d)
step_follows Skips a index t tokens now so next e ar d = stays_follows index t now so next Skips e (λ b x. absurd (cc)) (λ b x. absurd (cc)) ar (stays_taken (Standing (OfPart (Nothing t.place))) tokens so next d)
step_follows Stands a index t tokens now so next e ar d = stays_follows index t now so next Stands e (λ b x. absurd (cc)) (λ b x. absurd (cc)) ar (stays_taken (Standing (OfPart (Leaf t))) tokens so next d)

-- the partners from a token on, where a result is known of it
abbrev nested_on : ℕ → Result Nesting Refusal → List Token → Result (List ℕ) Refusal
nested_on index (Ok next) ts = nested (index + 1) next ts
nested_on index (Err r) ts = Err r

nested_cons : (index : ℕ) (now : Nesting) (t : Token) (ts : List Token) → nested index now (t ∷ ts) ≡ nested_on index (behind_token index t.kind t.place now) ts
nested_cons index now t ts = go (behind_token index t.kind t.place now)
  where
    go : (r : Result Nesting Refusal) → (elim r as (λ _. Result (List ℕ) Refusal) [ Ok next ↦ nested (index + 1) next ts | Err e ↦ Err e ]) ≡ nested_on index r ts
    go (Ok next) = refl
    go (Err e) = refl

walked_ok : (r : Result OpenBrackets Refusal) (ts : List Token) (ss : Stmts) → walked r ts ≡ Ok ss → (next : OpenBrackets) × (r ≡ Ok next) × (walk next ts ≡ Ok ss)
walked_ok (Ok next) ts ss e = (next, refl, e)
walked_ok (Err r) ts ss e = absurd (cc)

program_ok : (outer : List OpenBracket) (r : Result OpenBracket Refusal) (ss : Stmts) → program_of outer r ≡ Ok ss → outer ≡ []
program_ok [] (Ok l) ss e = refl
program_ok [] (Err r) ss e = refl
program_ok (l ∷ outer) (Ok m) ss e = absurd (cc)
program_ok (l ∷ outer) (Err r) ss e = absurd (cc)

nothing_around : (i : Inside) (os : List Open) → Around i [] os → os ≡ []
nothing_around i [] a = refl
nothing_around i (o ∷ os) a = elim a [ ]

pub walk_nests : (ts : List Token) (so : OpenBrackets) (now : Nesting) (index : ℕ) (ss : Stmts) → Around so.inner.inside so.outer now.around → walk so ts ≡ Ok ss → (partners : List ℕ) × (nested index now ts ≡ Ok partners)
walk_nests [] so now index ss a e =
    let o = program_ok so.outer (ended nowhere so.inner) ss e in
    let n = nothing_around so.inner.inside now.around (subst (λ (x : List OpenBracket). Around so.inner.inside x now.around) o a) in
    (now.partners, ap (λ (x : List Open). at_end x now.partners) n)
walk_nests (t ∷ ts) so now index ss a e =
    let w = walked_ok (step (sort_of t.kind) (behind_group ts) t (t ∷ ts) so) ts ss (sym (walk_cons so t ts) ∙ e) in
    let f = step_follows (sort_of t.kind) (behind_group ts) index t (t ∷ ts) now so w.0 refl a w.1 in
    let n = walk_nests ts w.0 f.then_now (index + 1) ss f.around w.2 in
    (n.0, nested_cons index now t ts ∙ ap (λ (r : Result Nesting Refusal). nested_on index r ts) f.is ∙ n.1)
