-- A bracket that closes is one element of the bracket around it.
use Rattle.std.proofs.Common.{◌≡◌, ◌≤◌, ℕ, suc, ◌+◌, Bool, true, false, List, [], ◌∷◌, ◌++◌, Option, Some, None, Result, Ok, refl, sym, ap, ◌∙◌, subst, arith}
use Rattle.bqn_base.specs.declared.place.Place.{Place}
use Rattle.bqn_base.specs.declared.refusal.Refusal.{Refusal}
use Rattle.bqn_syntax.specs.declared.token.Token.{Token}
use Rattle.bqn_syntax.specs.declared.token.Kind.TheVariants as kind
use Rattle.bqn_syntax.specs.declared.tree.Class.{Class}
use Rattle.bqn_syntax.specs.declared.sort.Bracket.{Bracket}
use Rattle.bqn_syntax.specs.declared.sort.Bracket.TheVariants.{Round, Angle, Square, Curly}
use Rattle.bqn_syntax.specs.declared.sort.Sort.TheVariants.{Closes}
use Rattle.bqn_syntax.specs.declared.sort.Inside.{Inside}
use Rattle.bqn_syntax.specs.declared.sort.Inside.TheVariants as inside
use Rattle.bqn_syntax.specs.grammar.Punctuation as punctuation
use Rattle.bqn_syntax.specs.grammar.Items.{Element, OfPart, OfList}
use Rattle.bqn_syntax.specs.grammar.Classes.{marks_in, class_of}
use Rattle.bqn_syntax.specs.grammar.Parsing.{OpenBracket, and_body, closes, block_part, parens_part, merge_part, whole}
use Rattle.bqn_syntax.specs.grammar.Spells.{Sign, Exact, Mark, Gap, Fits, exact, mark, no_more, mark_at, expr_signs, exprs_signs, body_signs, bodies_signs}
use Rattle.bqn_syntax.specs.grammar.Well.{WellPattern, WellPatterns, WellJoined, WellExprs, IsSomeBodies, WellBodies, expr_depth, exprs_depth, patterns_depth, bodies_depth, header_depth, stmts_depth}
use Rattle.bqn_syntax.specs.grammar.Trees.{Elements, Merge, Paren, Pattern, Name, Skip, Literal, ListPattern, StrandPattern, Patterns, no_patterns, and_patterns, patterns, Expr, exprs, stmts, Block, block, BodyTree, body, Bodies, bodies}
use Rattle.bqn_grammar.proofs.TreeItems.{GoodElement, ElementDepth}
use Rattle.bqn_grammar.proofs.sound.Signs.{element_signs}
use Rattle.bqn_grammar.proofs.sound.Sorts.{sort_code}
use Rattle.bqn_grammar.proofs.sound.OpenBrackets.{nexts, by_nothing, by_semicolon, end_signs, Kept, OpenedBy, ListMay, Ended, fits_eq}
use Rattle.bqn_grammar.proofs.sound.MorePieces.{max_le, max_left, well_bodies, bodies_deep, bodies_last, body_next}

-- a pattern without literals is well where there may be some
mutual
  well_with : (literals : Bool) (q : Pattern) → WellPattern false q → WellPattern literals q
  well_with literals (Name t) w = w
  well_with literals (Skip place) w = w
  well_with literals (Literal t) w = absurd (cc)
  well_with literals (ListPattern qs) w = all_with literals qs w
  well_with literals (StrandPattern qs) w = (w.0, joined_with literals qs w.1)

  all_with : (literals : Bool) (qs : Patterns) → WellPatterns false qs → WellPatterns literals qs
  all_with literals no_patterns w = w
  all_with literals (and_patterns q qs) w = (well_with literals q w.0, all_with literals qs w.1)

  joined_with : (literals : Bool) (qs : Patterns) → WellJoined false qs → WellJoined literals qs
  joined_with literals no_patterns w = w
  joined_with literals (and_patterns q qs) w = (w.0, well_with literals q w.1, joined_with literals qs w.2)

-- the token that closes a bracket
abbrev pub close_code : Inside → ℕ
close_code inside.Program = 0
close_code inside.Block = punctuation.close_curly
close_code inside.Parens = punctuation.close_round
close_code inside.Merge = punctuation.close_square
close_code _ = punctuation.close_angle

pub closing_code : (b : Bracket) (i : Inside) → closes b i ≡ true → sort_code (Closes b) ≡ close_code i
closing_code Round inside.Parens e = refl
closing_code Square inside.Merge e = refl
closing_code Curly inside.Block e = refl
closing_code Angle inside.List e = refl
closing_code Angle inside.Pattern e = refl
closing_code Angle inside.HeaderPattern e = refl
closing_code _ _ e = absurd (cc)

-- this element spells the tokens up to the rest
pub record Group (n : ℕ) (literals : Bool) (x : Element) (before rest : List Token) : Type 0 where
  pub good : GoodElement literals x
  pub deep : ElementDepth n x
  pub fits : (k : List Sign) → Fits k rest → Fits (element_signs x k) before

abbrev whole_ok : Element → Result Element Refusal
whole_ok x = Ok x

group_eq : (n : ℕ) (literals : Bool) (x y : Element) (before rest : List Token) → Group n literals x before rest → whole_ok x ≡ Ok y → Group n literals y before rest
group_eq n literals x y before rest g e = let same : x ≡ y = cc in subst (λ (z : Element). Group n literals z before rest) same g

pub suc_le : (a n : ℕ) → a ≤ n → 1 + a ≤ suc n
suc_le a n h = omega arith

parens_group : (n : ℕ) (literals : Bool) (es : List Expr) (place : Place) (x : Element) (bracket : Token) (before rest : List Token) → WellExprs (exprs es) → exprs_depth (exprs es) ≤ n → bracket.kind ≡ kind.Punct punctuation.open_round → ((k : List Sign) → Fits k rest → Fits (nexts expr_signs by_nothing es (Mark punctuation.close_round ∷ k)) before) → parens_part place es ≡ Ok x → Group (suc n) literals x (bracket ∷ before) rest
parens_group n literals [] place x bracket before rest w d o f e = absurd (cc)
parens_group n literals (y ∷ z ∷ es) place x bracket before rest w d o f e = absurd (cc)
parens_group n literals (y ∷ []) place x bracket before rest w d o f e = group_eq (suc n) literals (OfPart (Paren y)) x (bracket ∷ before) rest (record { good = (tt, w.0); deep = suc_le (expr_depth y) n (max_left (expr_depth y) 0 n d); fits = λ (k : List Sign) (a : Fits k rest). mark o (f k a) }) e

merge_group : (n : ℕ) (literals : Bool) (es : List Expr) (place : Place) (x : Element) (bracket : Token) (before rest : List Token) → WellExprs (exprs es) → exprs_depth (exprs es) ≤ n → bracket.kind ≡ kind.Punct punctuation.open_square → ((k : List Sign) → Fits k rest → Fits (Gap ∷ exprs_signs (exprs es) (Gap ∷ Mark punctuation.close_square ∷ k)) before) → merge_part place es ≡ Ok x → Group (suc n) literals x (bracket ∷ before) rest
merge_group n literals [] place x bracket before rest w d o f e = absurd (cc)
merge_group n literals (y ∷ es) place x bracket before rest w d o f e = group_eq (suc n) literals (OfPart (Merge (exprs (y ∷ es)))) x (bracket ∷ before) rest (record { good = (tt, (tt, w)); deep = suc_le (exprs_depth (exprs (y ∷ es))) n d; fits = λ (k : List Sign) (a : Fits k rest). mark o (f k a) }) e

some_bodies : (bs : List BodyTree) (b : BodyTree) → IsSomeBodies (bodies (bs ++ b ∷ []))
some_bodies [] b = tt
some_bodies (x ∷ bs) b = tt

block_group : (n : ℕ) (literals : Bool) (bs : Bodies) (m : Option Class) (place : Place) (x : Element) (bracket : Token) (before rest : List Token) → class_of (marks_in bs) ≡ m → IsSomeBodies bs → WellBodies bs → bodies_depth bs ≤ n → bracket ≡ mark_at punctuation.open_curly place → ((k : List Sign) → Fits k rest → Fits (bodies_signs bs (Mark punctuation.close_curly ∷ k)) before) → block_part place bs m ≡ Ok x → Group (suc n) literals x (bracket ∷ before) rest
block_group n literals bs None place x bracket before rest c some w d o f e = absurd (cc)
block_group n literals bs (Some cl) place x bracket before rest c some w d o f e = group_eq (suc n) literals (OfPart (Block (block place cl bs))) x (bracket ∷ before) rest (record { good = (tt, (some, c, w)); deep = suc_le (bodies_depth bs) n d; fits = λ (k : List Sign) (a : Fits k rest). subst (λ (t : Token). Fits (Exact (mark_at punctuation.open_curly place) ∷ bodies_signs bs (Mark punctuation.close_curly ∷ k)) (t ∷ before)) (sym o) (exact (f k a)) }) e

-- the body that is being read is one more
pub body_well : (n : ℕ) (l : OpenBracket) → Kept n inside.Block l → WellBodies (bodies (and_body l).done)
body_well n l r = well_bodies l.done (body l.header (stmts l.statements)) r.done (r.header, r.statements)

pub body_deep : (n : ℕ) (l : OpenBracket) → Kept n inside.Block l → bodies_depth (bodies (and_body l).done) ≤ n
body_deep n l r = bodies_deep n l.done (body l.header (stmts l.statements)) r.done_depth (max_le (header_depth l.header) (stmts_depth (stmts l.statements)) n r.header_depth r.statements_depth)

pub body_end : (l : OpenBracket) (k : List Sign) → end_signs inside.Block l k ≡ nexts body_signs by_semicolon l.done (body_signs (body l.header (stmts l.statements)) k)
body_end l k = ap (nexts body_signs by_semicolon l.done) (body_next l.header l.statements k)

-- a bracket closes at this token
pub whole_only : (n : ℕ) (literals : Bool) (i : Inside) (l : OpenBracket) (place : Place) (x : Element) (bracket close : Token) (start rest : List Token) → Ended n i l start (close ∷ rest) → OpenedBy i l.opened bracket → ListMay i literals → close.kind ≡ kind.Punct (close_code i) → whole i place l ≡ Ok x → Group (suc n) literals x (bracket ∷ start) rest
whole_only n literals inside.Program l place x bracket close start rest d o may c e = absurd (cc)
whole_only n literals inside.Parens l place x bracket close start rest d o may c e = parens_group n literals l.expressions place x bracket start rest d.kept.expressions d.kept.expressions_depth o (λ (k : List Sign) (a : Fits k rest). d.last (Mark punctuation.close_round ∷ k) (mark c a)) e
whole_only n literals inside.Merge l place x bracket close start rest d o may c e = merge_group n literals l.expressions place x bracket start rest d.kept.expressions d.kept.expressions_depth o (λ (k : List Sign) (a : Fits k rest). d.last (Mark punctuation.close_square ∷ k) (no_more (mark c a))) e
whole_only n literals inside.List l place x bracket close start rest d o may c e = group_eq (suc n) literals (OfPart (Elements (exprs l.expressions))) x (bracket ∷ start) rest (record { good = (tt, d.kept.expressions); deep = suc_le (exprs_depth (exprs l.expressions)) n d.kept.expressions_depth; fits = λ (k : List Sign) (a : Fits k rest). mark o (d.last (Mark punctuation.close_angle ∷ k) (no_more (mark c a))) }) e
whole_only n literals inside.Pattern l place x bracket close start rest d o may c e = group_eq (suc n) literals (OfList (ListPattern (patterns l.targets))) x (bracket ∷ start) rest (record { good = (tt, all_with literals (patterns l.targets) d.kept.targets); deep = suc_le (patterns_depth (patterns l.targets)) n d.kept.targets_depth; fits = λ (k : List Sign) (a : Fits k rest). mark o (d.last (Mark punctuation.close_angle ∷ k) (no_more (mark c a))) }) e
whole_only n literals inside.HeaderPattern l place x bracket close start rest d o may c e = group_eq (suc n) literals (OfList (ListPattern (patterns l.targets))) x (bracket ∷ start) rest (record { good = (tt, subst (λ (b : Bool). WellPatterns b (patterns l.targets)) (sym may) d.kept.targets); deep = suc_le (patterns_depth (patterns l.targets)) n d.kept.targets_depth; fits = λ (k : List Sign) (a : Fits k rest). mark o (d.last (Mark punctuation.close_angle ∷ k) (no_more (mark c a))) }) e
whole_only n literals inside.Block l place x bracket close start rest d o may c e = block_group n literals (bodies (and_body l).done) (class_of (marks_in (bodies (and_body l).done))) l.opened x bracket start rest refl (some_bodies l.done (body l.header (stmts l.statements))) (body_well n l d.kept) (body_deep n l d.kept) o (λ (k : List Sign) (a : Fits k rest). fits_eq (body_end l (Mark punctuation.close_curly ∷ k) ∙ sym (bodies_last l.done (body l.header (stmts l.statements)) (Mark punctuation.close_curly ∷ k))) (d.last (Mark punctuation.close_curly ∷ k) (no_more (mark c a)))) e
