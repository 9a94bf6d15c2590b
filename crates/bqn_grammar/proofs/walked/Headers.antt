-- The walk over the tokens of a header and its `:`.
use Rattle.std.proofs.Common.{◌≡◌, ◌≤◌, ◌+◌, ◌-◌, ℕ, Bool, true, false, List, [], ◌∷◌, ◌++◌, length, take, Option, Some, None, Result, inl, inr, arith, refl, sym, ap, ◌∙◌, subst}
use Rattle.std.proofs.Math.Nat.{le-max_left, le-max_right}
use Rattle.std.proofs.lemmas.List.{length-append}
use Rattle.std.proofs.Math.Seq.{take-append_seam}
use Rattle.bqn_base.specs.declared.place.Place.{Place}
use Rattle.bqn_base.specs.declared.refusal.Refusal.{Refusal}
use Rattle.bqn_syntax.specs.declared.token.Token.{Token}
use Rattle.bqn_syntax.specs.declared.token.Kind.{Kind}
use Rattle.bqn_syntax.specs.declared.sort.Sort.TheVariants.{Separates, Heads, Stands}
use Rattle.bqn_syntax.specs.declared.sort.Inside.{Inside}
use Rattle.bqn_syntax.specs.declared.sort.Inside.TheVariants as inside
use Rattle.bqn_syntax.specs.grammar.Punctuation as punctuation
use Rattle.bqn_syntax.specs.grammar.Sorts.{sort_of}
use Rattle.bqn_syntax.specs.grammar.Items.{Item}
use Rattle.bqn_syntax.specs.grammar.Headers.{header_in, own_tag, is_left, is_right}
use Rattle.bqn_syntax.specs.grammar.Parsing.{OpenBracket, OpenBrackets, open_brackets, or_first, and_header, list_inside, is_first_piece, walk, go_on, headed_by, headed, known_header, tokens_before, before}
use Rattle.bqn_syntax.specs.grammar.Spells.{Sign, Exact, Mark, Apart, Gap, Fits, done, exact, mark, apart, one_more, no_more, pattern_signs, listed_signs, listed_more, joined_signs, joined_more, token_signs, argument_signs, header_signs}
use Rattle.bqn_syntax.specs.grammar.Well.{IsArgument, special, pattern, ArgumentFits, WellHeader, header_depth, argument_depth, pattern_depth}
use Rattle.bqn_syntax.specs.grammar.Trees.{Pattern, Name, Skip, Literal, ListPattern, StrandPattern, Patterns, no_patterns, and_patterns, Header, Leaf, BodyTree}
use Rattle.bqn_grammar.proofs.TreeItems.{part_item, pattern_items}
use Rattle.bqn_grammar.proofs.found.Headers.{header_found, argument_items}
use Rattle.bqn_grammar.proofs.walked.Looks.{arrow_ahead, colon_ahead, mark_is, mark_sort, passes_exact, token_passes, argument_stands, left_stands, right_stands, own_stands, self_stands, OperandsStand}
use Rattle.bqn_grammar.proofs.walked.Arrows.{Arrows, Colons, exact_arrow_ahead, other_arrows, pattern_arrows}
use Rattle.bqn_grammar.proofs.walked.Steps.{having, clean, Began, or_first_twice, Arrives, nothing_more, and_then, take_exact, walk_step}
use Rattle.bqn_grammar.proofs.walked.Patterns.{body_start, Chooses, heads_colons, pattern_arrives}

-- Signs before others.

mutual
  pattern_append : (q : Pattern) (a k : List Sign) → pattern_signs q (a ++ k) ≡ pattern_signs q a ++ k
  pattern_append (Name t) a k = refl
  pattern_append (Skip place) a k = refl
  pattern_append (Literal t) a k = refl
  pattern_append (ListPattern qs) a k = ap (λ (l : List Sign). Mark punctuation.open_angle ∷ Gap ∷ l) (listed_append qs (Gap ∷ Mark punctuation.close_angle ∷ a) k)
  pattern_append (StrandPattern qs) a k = joined_append qs a k

  listed_append : (qs : Patterns) (a k : List Sign) → listed_signs qs (a ++ k) ≡ listed_signs qs a ++ k
  listed_append no_patterns a k = refl
  listed_append (and_patterns q qs) a k = ap (λ (l : List Sign). pattern_signs q l) (listed_more_append qs a k) ∙ pattern_append q (listed_more qs a) k

  listed_more_append : (qs : Patterns) (a k : List Sign) → listed_more qs (a ++ k) ≡ listed_more qs a ++ k
  listed_more_append no_patterns a k = refl
  listed_more_append (and_patterns q qs) a k = ap (λ (l : List Sign). Apart ∷ Gap ∷ pattern_signs q l) (listed_more_append qs a k) ∙ ap (λ (l : List Sign). Apart ∷ Gap ∷ l) (pattern_append q (listed_more qs a) k)

  joined_append : (qs : Patterns) (a k : List Sign) → joined_signs qs (a ++ k) ≡ joined_signs qs a ++ k
  joined_append no_patterns a k = refl
  joined_append (and_patterns q qs) a k = ap (λ (l : List Sign). pattern_signs q l) (joined_more_append qs a k) ∙ pattern_append q (joined_more qs a) k

  joined_more_append : (qs : Patterns) (a k : List Sign) → joined_more qs (a ++ k) ≡ joined_more qs a ++ k
  joined_more_append no_patterns a k = refl
  joined_more_append (and_patterns q qs) a k = ap (λ (l : List Sign). Mark punctuation.joiner ∷ pattern_signs q l) (joined_more_append qs a k) ∙ ap (λ (l : List Sign). Mark punctuation.joiner ∷ l) (pattern_append q (joined_more qs a) k)

token_append : (o : Option Token) (a k : List Sign) → token_signs o (a ++ k) ≡ token_signs o a ++ k
token_append None a k = refl
token_append (Some t) a k = refl

argument_append : (o : Option Pattern) (a k : List Sign) → argument_signs o (a ++ k) ≡ argument_signs o a ++ k
argument_append None a k = refl
argument_append (Some q) a k = pattern_append q a k

header_append : (h : Header) (a k : List Sign) → header_signs h (a ++ k) ≡ header_signs h a ++ k
header_append h a k =
    ap (λ (l : List Sign). argument_signs h.left (token_signs h.left_operand (Exact h.own ∷ token_signs h.right_operand l))) (argument_append h.right a k)
    ∙ ap (λ (l : List Sign). argument_signs h.left (token_signs h.left_operand (Exact h.own ∷ l))) (token_append h.right_operand (argument_signs h.right a) k)
    ∙ ap (λ (l : List Sign). argument_signs h.left l) (token_append h.left_operand (Exact h.own ∷ token_signs h.right_operand (argument_signs h.right a)) k)
    ∙ argument_append h.left (token_signs h.left_operand (Exact h.own ∷ token_signs h.right_operand (argument_signs h.right a))) k

-- tokens that fit signs and further ones are two lists
pub record Splits (a k : List Sign) (ts : List Token) : Type 0 where
  pub piece : List Token
  pub rest : List Token
  pub is : ts ≡ piece ++ rest
  pub front : Fits a piece
  pub behind : Fits k rest

sign_head : (s x : Sign) (k a : List Sign) → s ∷ k ≡ x ∷ a → s ≡ x
sign_head s x k a e = cc

sign_tail : (s x : Sign) (k a : List Sign) → s ∷ k ≡ x ∷ a → k ≡ a
sign_tail s x k a e = cc

splits_on : (t : Token) (s x : Sign) (a k : List Sign) (ts : List Token) → s ≡ x → ((piece : List Token) → Fits a piece → Fits (s ∷ a) (t ∷ piece)) → Splits a k ts → Splits (x ∷ a) k (t ∷ ts)
splits_on t s x a k ts e go r = record { piece = t ∷ r.piece; rest = r.rest; is = ap (λ (l : List Token). t ∷ l) r.is; front = subst (λ (y : Sign). Fits (y ∷ a) (t ∷ r.piece)) e (go r.piece r.front); behind = r.behind }

gap_on : (t : Token) (x : Sign) (a k : List Sign) (ts : List Token) → Gap ≡ x → sort_of t.kind ≡ Separates → Splits (x ∷ a) k ts → Splits (x ∷ a) k (t ∷ ts)
gap_on t x a k ts e s r = record { piece = t ∷ r.piece; rest = r.rest; is = ap (λ (l : List Token). t ∷ l) r.is; front = subst (λ (y : Sign). Fits (y ∷ a) (t ∷ r.piece)) e (one_more s (subst (λ (y : Sign). Fits (y ∷ a) r.piece) (sym e) r.front)); behind = r.behind }

gap_off : (x : Sign) (a k : List Sign) (ts : List Token) → Gap ≡ x → Splits a k ts → Splits (x ∷ a) k ts
gap_off x a k ts e r = record { piece = r.piece; rest = r.rest; is = r.is; front = subst (λ (y : Sign). Fits (y ∷ a) r.piece) e (no_more r.front); behind = r.behind }

fits_split : (a k s : List Sign) (ts : List Token) → Fits s ts → s ≡ a ++ k → Splits a k ts
fits_split [] k s ts f e = record { piece = []; rest = ts; is = refl; front = done; behind = subst (λ (l : List Sign). Fits l ts) e f }
fits_split (x ∷ a) k s ts done e = absurd (cc)
fits_split (x ∷ a) k s all (exact {t = t} {k = m} {ts = ts} f) e = splits_on t (Exact t) x a k ts (sign_head (Exact t) x m (a ++ k) e) (λ piece g. exact g) (fits_split a k m ts f (sign_tail (Exact t) x m (a ++ k) e))
fits_split (x ∷ a) k s all (mark {c = c} {t = t} {k = m} {ts = ts} d f) e = splits_on t (Mark c) x a k ts (sign_head (Mark c) x m (a ++ k) e) (λ piece g. mark d g) (fits_split a k m ts f (sign_tail (Mark c) x m (a ++ k) e))
fits_split (x ∷ a) k s all (apart {t = t} {k = m} {ts = ts} d f) e = splits_on t Apart x a k ts (sign_head Apart x m (a ++ k) e) (λ piece g. apart d g) (fits_split a k m ts f (sign_tail Apart x m (a ++ k) e))
fits_split (x ∷ a) k s all (one_more {t = t} {k = m} {ts = ts} d f) e = gap_on t x a k ts (sign_head Gap x m (a ++ k) e) d (fits_split (x ∷ a) k (Gap ∷ m) ts f e)
fits_split (x ∷ a) k s ts (no_more {k = m} f) e = gap_off x a k ts (sign_head Gap x m (a ++ k) e) (fits_split a k m ts f (sign_tail Gap x m (a ++ k) e))

fits_join : (a k : List Sign) (piece rest : List Token) → Fits a piece → Fits k rest → Fits (a ++ k) (piece ++ rest)
fits_join [] k all rest done g = g
fits_join (Exact u ∷ a) k all rest (exact {ts = ts} f) g = exact (fits_join a k ts rest f g)
fits_join (Mark c ∷ a) k all rest (mark {ts = ts} e f) g = mark e (fits_join a k ts rest f g)
fits_join (Apart ∷ a) k all rest (apart {ts = ts} e f) g = apart e (fits_join a k ts rest f g)
fits_join (Gap ∷ a) k all rest (one_more {ts = ts} e f) g = one_more e (fits_join (Gap ∷ a) k ts rest f g)
fits_join (Gap ∷ a) k piece rest (no_more f) g = no_more (fits_join a k piece rest f g)

-- exactly these tokens
abbrev exacts : List Token → List Sign
exacts [] = []
exacts (t ∷ ts) = Exact t ∷ exacts ts

fits_exacts : (ts : List Token) → Fits (exacts ts) ts
fits_exacts [] = done
fits_exacts (t ∷ ts) = exact (fits_exacts ts)

only_exacts : (ts others : List Token) → Fits (exacts ts) others → others ≡ ts
only_exacts [] all done = refl
only_exacts (t ∷ ts) all (exact {ts = others} f) = ap (λ (l : List Token). t ∷ l) (only_exacts ts others f)

-- The items of a header.

abbrev token_items : Option Token → List Item
token_items None = []
token_items (Some t) = part_item (Leaf t) ∷ []

-- an open bracket at the head of a body
abbrev AtHead : OpenBracket → Type 0
AtHead l = (l.inside ≡ inside.Block) × (l.header ≡ None) × (l.statements ≡ [])

head_chooses : (l : OpenBracket) → AtHead l → Chooses l false true inside.HeaderPattern
head_chooses l h a x y = go l.inside l.header l.statements a.arrow a.colon h.0 h.1 h.2 x y
  where
    go : (i : Inside) (o : Option Header) (s : List _) (b c : Bool) → i ≡ inside.Block → o ≡ None → s ≡ [] → b ≡ false → c ≡ true → list_inside (record { arrow = b; element = a.element; colon = c }) i (is_first_piece o s) ≡ inside.HeaderPattern
    go i o s b c e f g x y = rw (e, f, g, x, y) refl

-- an argument: a special name, or a header pattern
argument_arrives : (is_special : Kind → Bool) → ((j : Kind) → is_special j ≡ true → sort_of j ≡ Stands) → (o : Option Pattern) (so : OpenBrackets) (k : List Sign) (ts : List Token) → ArgumentFits is_special o → AtHead so.inner → length so.outer + argument_depth o ≤ 128 → Arrows false k → Colons true k → Fits (argument_signs o k) ts → Arrives so (argument_items o) k ts
argument_arrives is_special s None so k ts w h d a y f = nothing_more so k ts f
argument_arrives is_special s (Some q) so k ts w h d a y f = go q w d f
  where
    go : (q : Pattern) → IsArgument is_special q → length so.outer + pattern_depth q ≤ 128 → Fits (pattern_signs q k) ts → Arrives so (pattern_items q) k ts
    go q (special {t = t} e) d f = take_exact so Stands (part_item (Leaf t)) t k ts (s t.kind e) (λ b rest. refl) f
    go q (pattern o w) d f = pattern_arrives q inside.HeaderPattern false true so k ts w tt (head_chooses so.inner h) d a y f

token_arrives : (o : Option Token) (so : OpenBrackets) (k : List Sign) (ts : List Token) → OperandsStand o → Fits (token_signs o k) ts → Arrives so (token_items o) k ts
token_arrives None so k ts w f = nothing_more so k ts f
token_arrives (Some t) so k ts w f = take_exact so Stands (part_item (Leaf t)) t k ts w (λ b rest. refl) f

-- what stands ahead of the parts of a header
argument_arrows : (is_special : Kind → Bool) → ((j : Kind) → is_special j ≡ true → sort_of j ≡ Stands) → (o : Option Pattern) (k : List Sign) → ArgumentFits is_special o → Arrows false k → Arrows false (argument_signs o k)
argument_arrows is_special s None k w a = a
argument_arrows is_special s (Some q) k w a = λ ts f. go q w ts f
  where
    go : (q : Pattern) → IsArgument is_special q → (ts : List Token) → Fits (pattern_signs q k) ts → arrow_ahead ts ≡ false
    go q (special {t = t} e) ts f = exact_arrow_ahead Stands t k ts (s t.kind e) tt f
    go q (pattern o w) ts f = pattern_arrows true q k w ts f

token_arrows : (o : Option Token) (k : List Sign) → OperandsStand o → Arrows false k → Arrows false (token_signs o k)
token_arrows None k w a = a
token_arrows (Some t) k w a = λ ts f. exact_arrow_ahead Stands t k ts w tt f

argument_colons : (c : Bool) (is_special : Kind → Bool) → ((j : Kind) → is_special j ≡ true → sort_of j ≡ Stands) → (o : Option Pattern) (k : List Sign) → ArgumentFits is_special o → Colons c k → Colons c (argument_signs o k)
argument_colons c is_special s o k w y ts f = let p = argument_stands is_special s o k ts w f in p.colon ∙ y p.rest p.fits

token_colons : (c : Bool) (o : Option Token) (k : List Sign) → OperandsStand o → Colons c k → Colons c (token_signs o k)
token_colons c o k w y ts f = let p = token_passes o k ts w f in p.colon ∙ y p.rest p.fits

exact_colons : (c : Bool) (t : Token) (k : List Sign) → sort_of t.kind ≡ Stands → Colons c k → Colons c (Exact t ∷ k)
exact_colons c t k w y ts f = let p = passes_exact Stands t k ts w tt f in p.colon ∙ y p.rest p.fits

abbrev header_items : Header → List Item
header_items h = argument_items h.left ++ (token_items h.left_operand ++ ((part_item (Leaf h.own) ∷ []) ++ (token_items h.right_operand ++ argument_items h.right)))

-- the first token of the piece is where it began
pub record Takes (so : OpenBrackets) (is : List Item) (k : List Sign) (ts : List Token) : Type 0 where
  pub arrives : Arrives so is k ts
  pub begins : arrives.first ≡ or_first so.inner.first ts

begun_after : (f g h : Option (List Token)) (ts r s : List Token) → Began f g ts r → h ≡ or_first g r → h ≡ or_first f ts
begun_after f g h ts r s (inl e) d = d ∙ ap (λ (x : Option (List Token)). or_first x r) e ∙ or_first_twice f ts r
begun_after f g h ts r s (inr e) d = d ∙ ap (λ (x : Option (List Token)). or_first x r) e.0 ∙ ap (λ (x : List Token). or_first f x) e.1

begun_before : (f g h : Option (List Token)) (ts r s : List Token) → g ≡ or_first f ts → Began g h r s → h ≡ or_first f ts
begun_before f g h ts r s e (inl d) = d ∙ ap (λ (x : Option (List Token)). or_first x r) e ∙ or_first_twice f ts r
begun_before f g h ts r s e (inr d) = d.0 ∙ e

arrives_takes : {so : OpenBrackets} {is js : List Item} {a k : List Sign} {ts : List Token} → Arrives so is a ts → ((f : Option (List Token)) (rest : List Token) → Fits a rest → Takes (open_brackets (having so.inner is f) so.outer) js k rest) → Takes so (is ++ js) k ts
arrives_takes {so = so} {ts = ts} x go =
    let y = go x.first x.rest x.fits in
    record { arrives = and_then x (λ f rest g. (go f rest g).arrives); begins = begun_after so.inner.first x.first y.arrives.first ts x.rest y.arrives.rest x.began y.begins }

takes_arrives : {so : OpenBrackets} {is js : List Item} {a k : List Sign} {ts : List Token} → Takes so is a ts → ((f : Option (List Token)) (rest : List Token) → Fits a rest → Arrives (open_brackets (having so.inner is f) so.outer) js k rest) → Takes so (is ++ js) k ts
takes_arrives {so = so} {ts = ts} x go =
    let y = go x.arrives.first x.arrives.rest x.arrives.fits in
    record { arrives = and_then x.arrives go; begins = begun_before so.inner.first x.arrives.first y.first ts x.arrives.rest y.rest x.begins y.began }

take_own : (so : OpenBrackets) (t : Token) (k : List Sign) (ts : List Token) → sort_of t.kind ≡ Stands → Fits (Exact t ∷ k) ts → Takes so (part_item (Leaf t) ∷ []) k ts
take_own so t k ts e f = record { arrives = take_exact so Stands (part_item (Leaf t)) t k ts e (λ b rest. refl) f; begins = refl }

header_takes : (h : Header) (so : OpenBrackets) (k : List Sign) (ts : List Token) → WellHeader h → AtHead so.inner → length so.outer + header_depth (Some h) ≤ 128 → Arrows false k → Colons true k → Fits (header_signs h k) ts → Takes so (header_items h) k ts
header_takes h so k ts w at d a y f =
    let s = self_stands (own_tag h.own.kind) h.left_operand h.right_operand w.self in
    let o = own_stands h.own.kind h.left_operand h.right_operand w.self in
    let k4 = argument_signs h.right k in
    let k3 = token_signs h.right_operand k4 in
    let k2 = Exact h.own ∷ k3 in
    let k1 = token_signs h.left_operand k2 in
    let a4 = argument_arrows is_right right_stands h.right k w.right a in
    let y4 = argument_colons true is_right right_stands h.right k w.right y in
    let a2 : Arrows false k2 = λ rest g. exact_arrow_ahead Stands h.own k3 rest o tt g in
    let y3 = token_colons true h.right_operand k4 s.1 y4 in
    let y2 = exact_colons true h.own k3 o y3 in
    let a1 = token_arrows h.left_operand k2 s.0 a2 in
    let y1 = token_colons true h.left_operand k2 s.0 y2 in
    arrives_takes (argument_arrives is_left left_stands h.left so k1 ts w.left at (omega (arith, le-max_left (argument_depth h.left) (argument_depth h.right))) a1 y1 f) (λ f1 r1 g1.
    arrives_takes (token_arrives h.left_operand (open_brackets (having so.inner (argument_items h.left) f1) so.outer) k2 r1 s.0 g1) (λ f2 r2 g2.
    takes_arrives (take_own (open_brackets (having (having so.inner (argument_items h.left) f1) (token_items h.left_operand) f2) so.outer) h.own k3 r2 o g2) (λ f3 r3 g3.
    and_then (token_arrives h.right_operand (open_brackets (having (having (having so.inner (argument_items h.left) f1) (token_items h.left_operand) f2) (part_item (Leaf h.own) ∷ []) f3) so.outer) k4 r3 s.1 g3) (λ f4 r4 g4.
    argument_arrives is_right right_stands h.right (open_brackets (having (having (having (having so.inner (argument_items h.left) f1) (token_items h.left_operand) f2) (part_item (Leaf h.own) ∷ []) f3) (token_items h.right_operand) f4) so.outer) k r4 w.right at (omega (arith, le-max_right (argument_depth h.left) (argument_depth h.right))) a y g4))))

-- what stands before these tokens
before_is : (piece rest ts : List Token) → ts ≡ piece ++ rest → before ts rest ≡ piece
before_is piece rest ts e =
    ap (λ (l : List Token). take (length l - length rest) l) e
    ∙ ap (λ (n : ℕ). take n (piece ++ rest)) (count piece rest)
    ∙ take-append_seam piece rest
  where
    count : (a b : List Token) → length (a ++ b) - length b ≡ length a
    count a b = omega (arith, length-append a b)

headed_items : (is : List Item) (tokens : List Token) (place : Place) (l : OpenBracket) → (is ≡ [] → ⊥) → headed_by is tokens place l ≡ headed (is_first_piece l.header l.statements) tokens place l
headed_items [] tokens place l n = absurd (n refl)
headed_items (i ∷ is) tokens place l n = refl

header_items_some : (h : Header) → header_items h ≡ [] → ⊥
header_items_some h e = go (argument_items h.left) (token_items h.left_operand) (token_items h.right_operand ++ argument_items h.right) e
  where
    go : (a b c : List Item) → a ++ (b ++ ((part_item (Leaf h.own) ∷ []) ++ c)) ≡ [] → ⊥
    go [] [] c e = absurd (cc)
    go [] (x ∷ b) c e = absurd (cc)
    go (x ∷ a) b c e = absurd (cc)

-- where each well header is found from its tokens, the walk over them and the `:` after them gives it
pub header_is_walked : (h : Header) (place : Place) (so_far : List BodyTree) (outer : List OpenBracket) (k : List Sign) (ts : List Token) → WellHeader h → length outer + header_depth (Some h) ≤ 128 → Fits (header_signs h (Mark punctuation.colon ∷ k)) ts → (rest : List Token) × Fits k rest × (walk (open_brackets (body_start place so_far) outer) ts ≡ walk (open_brackets (clean (and_header h (body_start place so_far))) outer) rest)
header_is_walked h place so_far outer k ts w d f =
    let l = body_start place so_far in
    let p = fits_split (header_signs h []) (Mark punctuation.colon ∷ k) (header_signs h (Mark punctuation.colon ∷ k)) ts f (header_append h [] (Mark punctuation.colon ∷ k)) in
    let g = subst (λ (x : List Sign). Fits x (p.piece ++ p.rest)) (sym (header_append h [] (exacts p.rest))) (fits_join (header_signs h []) (exacts p.rest) p.piece p.rest p.front (fits_exacts p.rest)) in
    let gs = subst (λ (x : List Token). Fits (header_signs h (exacts p.rest)) x) (sym p.is) g in
    let a : Arrows false (exacts p.rest) = λ rest x. ap arrow_ahead (only_exacts p.rest rest x) ∙ other_arrows Heads punctuation.colon k refl tt p.rest p.behind in
    let y : Colons true (exacts p.rest) = λ rest x. ap colon_ahead (only_exacts p.rest rest x) ∙ heads_colons k p.rest p.behind in
    let t = header_takes h (open_brackets l outer) (exacts p.rest) ts w (refl, refl, refl) d a y gs in
    let r = only_exacts p.rest t.arrives.rest t.arrives.fits in
    let c = mark_is p.behind in
    let m = having l (header_items h) t.arrives.first in (
      c.1,
      c.4,
      t.arrives.walks
          ∙ ap (λ (x : List Token). walk (open_brackets m outer) x) r
          ∙ walk_step (open_brackets m outer) (open_brackets (clean (and_header h l)) outer) Heads c.0 p.rest c.1 c.2 (mark_sort c.0 punctuation.colon Heads c.3 refl)
          (ap (λ (x : Result OpenBracket Refusal). go_on outer x)
          (headed_items (header_items h) (c.0 ∷ c.1) c.0.place m (header_items_some h)
          ∙ ap (λ (x : Option (List Token)). known_header c.0.place (header_in (tokens_before x (c.0 ∷ c.1))) m) t.begins
          ∙ ap (λ (x : List Token). known_header c.0.place (header_in (before ts x)) m) (sym c.2)
          ∙ ap (λ (x : List Token). known_header c.0.place (header_in x) m) (before_is p.piece p.rest ts p.is)
          ∙ ap (λ (o : Option Header). known_header c.0.place o m) (header_found h w p.piece p.front))),
    )
