-- The marks between the parts of a block: `;`, `?` and `:`.
use Rattle.std.proofs.Common.{◌≡◌, ℕ, ◌-◌, Bool, true, false, List, [], ◌∷◌, ◌++◌, length, Option, Some, None, Result, Ok, Err, refl, sym, ap, ◌∙◌, subst, arith}
use Rattle.std.proofs.lemmas.List.{take_at, length-append}
use Rattle.bqn_base.specs.declared.place.Place.{Place}
use Rattle.bqn_base.specs.declared.refusal.Refusal.{Refusal}
use Rattle.bqn_syntax.specs.declared.token.Token.{Token}
use Rattle.bqn_syntax.specs.declared.token.Kind.TheVariants as kind
use Rattle.bqn_syntax.specs.declared.sort.Sort.TheVariants.{Ends, Heads, Asks}
use Rattle.bqn_syntax.specs.declared.sort.Inside.{Inside}
use Rattle.bqn_syntax.specs.declared.sort.Inside.TheVariants as inside
use Rattle.bqn_syntax.specs.grammar.Punctuation as punctuation
use Rattle.bqn_syntax.specs.grammar.Sorts.{sort_of}
use Rattle.bqn_syntax.specs.grammar.Looks.{Looks}
use Rattle.bqn_syntax.specs.grammar.Items.{Item}
use Rattle.bqn_syntax.specs.grammar.Expressions.{piece_predicate}
use Rattle.bqn_syntax.specs.grammar.Headers.{header_in}
use Rattle.bqn_syntax.specs.grammar.Classes.{is_predicate}
use Rattle.bqn_syntax.specs.grammar.Parsing.{OpenBracket, OpenBrackets, open_brackets, and_statement, and_header, and_body, is_first_piece, go_on, ended, body_ended, semicolon, asked, question, before, tokens_before, known_header, headed, headed_by, colon}
use Rattle.bqn_syntax.specs.grammar.Spells.{Sign, Mark, Gap, Fits, mark, no_more, header_signs, stmt_signs, stmts_signs, body_signs}
use Rattle.bqn_syntax.specs.grammar.Trees.{Header, Stmt, stmts, body}
use Rattle.bqn_grammar.proofs.TreeItems.{ItemDepths}
use Rattle.bqn_grammar.proofs.sound.Signs.{items_signs, predicate_spelled}
use Rattle.bqn_grammar.proofs.sound.Sorts.{mark_of}
use Rattle.bqn_grammar.proofs.sound.OpenBrackets.{Pieces, HeaderOnly, Within, suffix_one, suffix_more, nexts, by_semicolon, lead, stmts_next, header_next, next_signs, end_signs, gap_in, Kept, Read, Piece, Begins, At, Around, State, Ended, fits_eq}
use Rattle.bqn_grammar.proofs.sound.MorePieces.{nexts_more, stmts_last, stmts_more}
use Rattle.bqn_grammar.proofs.sound.Clean.{predicate_clean}
use Rattle.bqn_grammar.proofs.sound.Ends.{well_some, kept_statement, ended_only}
use Rattle.bqn_grammar.proofs.sound.Groups.{body_well, body_deep, body_end}
use Rattle.bqn_grammar.proofs.sound.Headers.{header_only}
use Rattle.bqn_grammar.proofs.sound.Steps.{Stepped, wrong_step, waiting, state_on, go_on_ok}

-- A body ends.

body_kept : (n : ℕ) (l : OpenBracket) → Kept n inside.Block l → Kept n inside.Block (and_body l)
body_kept n l r = record { expressions = r.expressions; targets = r.targets; header = tt; statements = tt; done = body_well n l r; expressions_depth = r.expressions_depth; targets_depth = r.targets_depth; header_depth = omega arith; statements_depth = omega arith; done_depth = body_deep n l r }

body_fits : (n : ℕ) (l : OpenBracket) (start : List Token) (t : Token) (rest : List Token) → Ended n inside.Block l start (t ∷ rest) → t.kind ≡ kind.Punct punctuation.semicolon → (k : List Sign) → Fits (Gap ∷ k) rest → Fits (nexts body_signs by_semicolon (and_body l).done (Gap ∷ k)) start
body_fits n l start t rest d c k x = fits_eq (body_end l (Mark punctuation.semicolon ∷ Gap ∷ k) ∙ sym (nexts_more body_signs by_semicolon l.done (body l.header (stmts l.statements)) (Gap ∷ k))) (d.last (Mark punctuation.semicolon ∷ Gap ∷ k) (no_more (mark c x)))

body_read : (n : ℕ) (l : OpenBracket) (start : List Token) (t : Token) (rest : List Token) → Ended n inside.Block l start (t ∷ rest) → t.kind ≡ kind.Punct punctuation.semicolon → Within rest n → Read n inside.Block (and_body l) start rest
body_read n l start t rest d c room =
    record {
      kept = body_kept n l d.kept;
      next = λ (k : List Sign) (x : Fits (gap_in inside.Block k) rest). body_fits n l start t rest d c k x;
      last = λ (k : List Sign) (x : Fits (gap_in inside.Block k) rest). body_fits n l start t rest d c k x;
      room = room;
      behind = suffix_more start (t ∷ rest) rest d.behind (suffix_one t rest);
    }

body_ended_ok : (r : Result OpenBracket Refusal) (next : OpenBracket) → body_ended r ≡ Ok next → (l : OpenBracket) × (r ≡ Ok l) × (and_body l ≡ next)
body_ended_ok (Ok l) next h = (l, refl, (cc))
body_ended_ok (Err r) next h = absurd (cc)

body_step : (ps : Pieces) (all : List Token) (n : ℕ) (l : Looks) (so next : OpenBrackets) (start : List Token) (t : Token) (rest : List Token) (place : Place) → so.inner.inside ≡ inside.Block → sort_of t.kind ≡ Ends → Within rest n → At n false so.inner.inside so.inner start (t ∷ rest) → Around all n l.outer so.inner.inside so.inner.opened so.outer start → go_on so.outer (body_ended (ended place so.inner)) ≡ Ok next → Stepped all l next rest
body_step ps all n l so next start t rest place e s room at around h =
    let m = go_on_ok so.outer (body_ended (ended place so.inner)) next h in
    let b = body_ended_ok (ended place so.inner) m.0 m.1 in
    let f = ended_only ps n so.inner b.0 start (t ∷ rest) place at b.1 in
    let d = subst (λ (i : Inside). Ended n i b.0 start (t ∷ rest)) e f.ended in
    let r = subst (λ (i : Inside). Read n i (and_body b.0) start rest) (sym e) (body_read n b.0 start t rest d (mark_of t.kind Ends s tt) room) in
    let st : State all n l (open_brackets (and_body b.0) so.outer) rest = state_on all n l so.inner (and_body b.0) so.outer start rest f.inside f.opened (waiting n l.here.colon so.inner.inside (and_body b.0) start rest r refl refl) around in
    subst (λ (y : OpenBrackets). Stepped all l y rest) (ap (λ (y : OpenBracket). open_brackets y so.outer) b.2 ∙ m.2) (record { room = n; state = st })

pub semicolon_step : (ps : Pieces) (all : List Token) (n : ℕ) (i : Inside) (l : Looks) (so next : OpenBrackets) (start : List Token) (t : Token) (rest : List Token) (place : Place) → so.inner.inside ≡ i → sort_of t.kind ≡ Ends → Within rest n → At n false so.inner.inside so.inner start (t ∷ rest) → Around all n l.outer so.inner.inside so.inner.opened so.outer start → semicolon i (t ∷ rest) place so ≡ Ok next → Stepped all l next rest
semicolon_step ps all n inside.Block l so next start t rest place e s room at around h = body_step ps all n l so next start t rest place e s room at around h
semicolon_step ps all n inside.Program l so next start t rest place e s room at around h = wrong_step all n false inside.Program l so next start t rest e (λ (d : Bool). refl) at around h
semicolon_step ps all n inside.Parens l so next start t rest place e s room at around h = wrong_step all n false inside.Parens l so next start t rest e (λ (d : Bool). refl) at around h
semicolon_step ps all n inside.List l so next start t rest place e s room at around h = wrong_step all n false inside.List l so next start t rest e (λ (d : Bool). refl) at around h
semicolon_step ps all n inside.Merge l so next start t rest place e s room at around h = wrong_step all n false inside.Merge l so next start t rest e (λ (d : Bool). refl) at around h
semicolon_step ps all n inside.Pattern l so next start t rest place e s room at around h = wrong_step all n false inside.Pattern l so next start t rest e (λ (d : Bool). refl) at around h
semicolon_step ps all n inside.HeaderPattern l so next start t rest place e s room at around h = wrong_step all n false inside.HeaderPattern l so next start t rest e (λ (d : Bool). refl) at around h

-- A predicate.

asked_ok : (items : List Item) (place : Place) (l next : OpenBracket) → asked items place l ≡ Ok next → (s : Stmt) × (piece_predicate l.items ≡ Some s) × (and_statement s l ≡ next)
asked_ok [] place l next h = absurd (cc)
asked_ok (item ∷ items) place l next h = well_some place and_statement (piece_predicate l.items) l next h

predicate_next : (l : OpenBracket) (s : Stmt) (k : List Sign) → is_predicate s ≡ true → next_signs inside.Block l (stmt_signs s (Gap ∷ k)) ≡ next_signs inside.Block (and_statement s l) k
predicate_next l s k p = ap (λ (x : List Sign). nexts body_signs by_semicolon l.done (header_next l.header x)) (ap (λ (b : Bool). stmts_next true l.statements (stmt_signs s (lead b k))) (sym p) ∙ sym (stmts_more true l.statements s k))

predicate_last : (l : OpenBracket) (s : Stmt) (k : List Sign) → next_signs inside.Block l (stmt_signs s (Gap ∷ k)) ≡ end_signs inside.Block (and_statement s l) k
predicate_last l s k = ap (λ (x : List Sign). nexts body_signs by_semicolon l.done (header_next l.header x)) (sym (stmts_last true l.statements s (Gap ∷ k)))

predicate_read : (ps : Pieces) (n : ℕ) (l : OpenBracket) (s : Stmt) (start first : List Token) (t : Token) (rest : List Token) → Piece n false inside.Block l start first (t ∷ rest) → piece_predicate l.items ≡ Some s → t.kind ≡ kind.Punct punctuation.question_mark → Within rest n → Read n inside.Block (and_statement s l) start rest
predicate_read ps n l s start first t rest p h c room =
    let w = ps.predicate_only l.items s p.good h in
    let d = ps.stmt_depths n s (subst (λ (is : List Item). ItemDepths n is) (sym w.0) p.deep) in
    let fits : (k : List Sign) → Fits (Gap ∷ k) rest → Fits (next_signs inside.Block l (stmt_signs s (Gap ∷ k))) start = λ k x. p.read.next (stmt_signs s (Gap ∷ k)) (no_more (fits_eq (ap (λ (is : List Item). items_signs is (Mark punctuation.question_mark ∷ Gap ∷ k)) (sym w.0) ∙ predicate_spelled s (Gap ∷ k) w.2) (p.spelled (predicate_clean l.items s h) (Mark punctuation.question_mark ∷ Gap ∷ k) (mark c x)))) in
    record {
      kept = kept_statement n inside.Block l s p.read.kept w.1 d;
      next = λ (k : List Sign) (x : Fits (gap_in inside.Block k) rest). fits_eq (predicate_next l s k w.2) (fits k x);
      last = λ (k : List Sign) (x : Fits (gap_in inside.Block k) rest). fits_eq (predicate_last l s k) (fits k x);
      room = room;
      behind = suffix_more start first rest p.read.behind (suffix_more first (t ∷ rest) rest p.behind (suffix_one t rest));
    }

predicate_step : (ps : Pieces) (all : List Token) (n : ℕ) (l : Looks) (so next : OpenBrackets) (start : List Token) (t : Token) (rest : List Token) (place : Place) → so.inner.inside ≡ inside.Block → sort_of t.kind ≡ Asks → Within rest n → At n false so.inner.inside so.inner start (t ∷ rest) → Around all n l.outer so.inner.inside so.inner.opened so.outer start → go_on so.outer (asked so.inner.items place so.inner) ≡ Ok next → Stepped all l next rest
predicate_step ps all n l so next start t rest place e s room at around h =
    let m = go_on_ok so.outer (asked so.inner.items place so.inner) next h in
    let b = asked_ok so.inner.items place so.inner m.0 m.1 in
    let p = subst (λ (i : Inside). Piece n false i so.inner start at.first (t ∷ rest)) e at.piece in
    let r = subst (λ (i : Inside). Read n i (and_statement b.0 so.inner) start rest) (sym e) (predicate_read ps n so.inner b.0 start at.first t rest p b.1 (mark_of t.kind Asks s tt) room) in
    let st : State all n l (open_brackets (and_statement b.0 so.inner) so.outer) rest = state_on all n l so.inner (and_statement b.0 so.inner) so.outer start rest refl refl (waiting n l.here.colon so.inner.inside (and_statement b.0 so.inner) start rest r refl refl) around in
    subst (λ (y : OpenBrackets). Stepped all l y rest) (ap (λ (y : OpenBracket). open_brackets y so.outer) b.2 ∙ m.2) (record { room = n; state = st })

pub question_step : (ps : Pieces) (all : List Token) (n : ℕ) (i : Inside) (l : Looks) (so next : OpenBrackets) (start : List Token) (t : Token) (rest : List Token) (place : Place) → so.inner.inside ≡ i → sort_of t.kind ≡ Asks → Within rest n → At n false so.inner.inside so.inner start (t ∷ rest) → Around all n l.outer so.inner.inside so.inner.opened so.outer start → question i (t ∷ rest) place so ≡ Ok next → Stepped all l next rest
question_step ps all n inside.Block l so next start t rest place e s room at around h = predicate_step ps all n l so next start t rest place e s room at around h
question_step ps all n inside.Program l so next start t rest place e s room at around h = wrong_step all n false inside.Program l so next start t rest e (λ (d : Bool). refl) at around h
question_step ps all n inside.Parens l so next start t rest place e s room at around h = wrong_step all n false inside.Parens l so next start t rest e (λ (d : Bool). refl) at around h
question_step ps all n inside.List l so next start t rest place e s room at around h = wrong_step all n false inside.List l so next start t rest e (λ (d : Bool). refl) at around h
question_step ps all n inside.Merge l so next start t rest place e s room at around h = wrong_step all n false inside.Merge l so next start t rest e (λ (d : Bool). refl) at around h
question_step ps all n inside.Pattern l so next start t rest place e s room at around h = wrong_step all n false inside.Pattern l so next start t rest e (λ (d : Bool). refl) at around h
question_step ps all n inside.HeaderPattern l so next start t rest place e s room at around h = wrong_step all n false inside.HeaderPattern l so next start t rest e (λ (d : Bool). refl) at around h

-- A header.

-- what a `:` finds
pub record Heading (l : OpenBracket) (tokens : List Token) (next : OpenBracket) : Type 0 where
  pub item : Item
  pub items : List Item
  pub items_are : l.items ≡ item ∷ items
  pub no_header : l.header ≡ None
  pub no_statements : l.statements ≡ []
  pub header : Header
  pub found : header_in (tokens_before l.first tokens) ≡ Some header
  pub next_is : and_header header l ≡ next

known_ok : (place : Place) (m : Option Header) (l next : OpenBracket) → known_header place m l ≡ Ok next → (h : Header) × (m ≡ Some h) × (and_header h l ≡ next)
known_ok place None l next h = absurd (cc)
known_ok place (Some x) l next h = (x, refl, (cc))

first_piece : (h : Option Header) (ss : List Stmt) → is_first_piece h ss ≡ true → (h ≡ None) × (ss ≡ [])
first_piece None [] e = (refl, refl)
first_piece _ _ e = absurd (cc)

headed_ok : (b : Bool) (tokens : List Token) (place : Place) (l next : OpenBracket) → headed b tokens place l ≡ Ok next → (b ≡ true) × (known_header place (header_in (tokens_before l.first tokens)) l ≡ Ok next)
headed_ok true tokens place l next h = (refl, h)
headed_ok false tokens place l next h = absurd (cc)

headed_by_ok : (items : List Item) (tokens : List Token) (place : Place) (l next : OpenBracket) → l.items ≡ items → headed_by items tokens place l ≡ Ok next → Heading l tokens next
headed_by_ok [] tokens place l next e h = absurd (cc)
headed_by_ok (item ∷ items) tokens place l next e h =
    let b = headed_ok (is_first_piece l.header l.statements) tokens place l next h in
    let f = first_piece l.header l.statements b.0 in
    let k = known_ok place (header_in (tokens_before l.first tokens)) l next b.1 in
    record { item = item; items = items; items_are = e; no_header = f.0; no_statements = f.1; header = k.0; found = k.1; next_is = k.2 }

begins_some : (items : List Item) (item : Item) (more : List Item) (begun : Option (List Token)) (first rest : List Token) → items ≡ item ∷ more → Begins items begun first rest → begun ≡ Some first
begins_some [] item more begun first rest e b = absurd (cc)
begins_some (x ∷ items) item more begun first rest e b = b

front_length : (a b : List Token) → length a ≡ length (a ++ b) - length b
front_length a b = omega (arith, length-append a b)

before_is : (part rest : List Token) → before (part ++ rest) rest ≡ part
before_is part rest = take_at part rest (length (part ++ rest) - length rest) (front_length part rest)

header_kept : (n : ℕ) (l : OpenBracket) (h : Header) (tokens rest : List Token) → Kept n inside.Block l → HeaderOnly n tokens rest h → Kept n inside.Block (and_header h l)
header_kept n l h tokens rest r o = record { expressions = r.expressions; targets = r.targets; header = o.well; statements = r.statements; done = r.done; expressions_depth = r.expressions_depth; targets_depth = r.targets_depth; header_depth = o.depth; statements_depth = r.statements_depth; done_depth = r.done_depth }

-- a header is what is read first
head_from : (l : OpenBracket) (k : List Sign) → l.header ≡ None → l.statements ≡ [] → next_signs inside.Block l k ≡ nexts body_signs by_semicolon l.done (Gap ∷ k)
head_from l k e f = ap (λ (x : Option Header). nexts body_signs by_semicolon l.done (header_next x (stmts_next true l.statements k))) e ∙ ap (λ (ss : List Stmt). nexts body_signs by_semicolon l.done (stmts_next true ss k)) f

head_next : (l : OpenBracket) (h : Header) (k : List Sign) → l.statements ≡ [] → nexts body_signs by_semicolon l.done (Gap ∷ header_signs h (Mark punctuation.colon ∷ Gap ∷ k)) ≡ next_signs inside.Block (and_header h l) k
head_next l h k f = ap (λ (ss : List Stmt). nexts body_signs by_semicolon l.done (Gap ∷ header_signs h (Mark punctuation.colon ∷ stmts_next true ss k))) (sym f)

head_last : (l : OpenBracket) (h : Header) (k : List Sign) → l.statements ≡ [] → nexts body_signs by_semicolon l.done (Gap ∷ header_signs h (Mark punctuation.colon ∷ Gap ∷ k)) ≡ end_signs inside.Block (and_header h l) k
head_last l h k f = ap (λ (ss : List Stmt). nexts body_signs by_semicolon l.done (Gap ∷ header_signs h (Mark punctuation.colon ∷ stmts_signs true (stmts ss) (Gap ∷ k)))) (sym f)

header_read : (ps : Pieces) (n : ℕ) (l next : OpenBracket) (start first : List Token) (t : Token) (rest : List Token) (x : Heading l (t ∷ rest) next) → Piece n true inside.Block l start first (t ∷ rest) → l.first ≡ Some first → t.kind ≡ kind.Punct punctuation.colon → Within rest n → Read n inside.Block (and_header x.header l) start rest
header_read ps n l next start first t rest x p b c room =
    let whole = p.behind.split in
    let part = p.behind.part in
    let found : header_in part ≡ Some x.header = ap header_in (sym (before_is part (t ∷ rest))) ∙ ap (λ (f : Option (List Token)). header_in (tokens_before f (t ∷ rest))) (sym (b ∙ ap (λ (ts : List Token). Some ts) whole)) ∙ x.found in
    let o = header_only ps n part (t ∷ rest) x.header found (subst (λ (ts : List Token). Within ts n) whole p.read.room) in
    let h = x.header in
    let fits : (k : List Sign) → Fits (Gap ∷ k) rest → Fits (nexts body_signs by_semicolon l.done (Gap ∷ header_signs h (Mark punctuation.colon ∷ Gap ∷ k))) start = λ k y. fits_eq (head_from l (header_signs h (Mark punctuation.colon ∷ Gap ∷ k)) x.no_header x.no_statements) (p.read.next (header_signs h (Mark punctuation.colon ∷ Gap ∷ k)) (no_more (subst (λ (ts : List Token). Fits (header_signs h (Mark punctuation.colon ∷ Gap ∷ k)) ts) (sym whole) (o.spelled (Mark punctuation.colon ∷ Gap ∷ k) (mark c y))))) in
    record {
      kept = header_kept n l h part (t ∷ rest) p.read.kept o;
      next = λ (k : List Sign) (y : Fits (gap_in inside.Block k) rest). fits_eq (head_next l h k x.no_statements) (fits k y);
      last = λ (k : List Sign) (y : Fits (gap_in inside.Block k) rest). fits_eq (head_last l h k x.no_statements) (fits k y);
      room = room;
      behind = suffix_more start first rest p.read.behind (suffix_more first (t ∷ rest) rest p.behind (suffix_one t rest));
    }

header_step : (ps : Pieces) (all : List Token) (n : ℕ) (l : Looks) (so next : OpenBrackets) (start : List Token) (t : Token) (rest : List Token) (place : Place) → so.inner.inside ≡ inside.Block → sort_of t.kind ≡ Heads → Within rest n → At n true so.inner.inside so.inner start (t ∷ rest) → Around all n l.outer so.inner.inside so.inner.opened so.outer start → go_on so.outer (headed_by so.inner.items (t ∷ rest) place so.inner) ≡ Ok next → Stepped all l next rest
header_step ps all n l so next start t rest place e s room at around h =
    let m = go_on_ok so.outer (headed_by so.inner.items (t ∷ rest) place so.inner) next h in
    let x = headed_by_ok so.inner.items (t ∷ rest) place so.inner m.0 refl m.1 in
    let p = subst (λ (i : Inside). Piece n true i so.inner start at.first (t ∷ rest)) e at.piece in
    let b = begins_some so.inner.items x.item x.items so.inner.first at.first (t ∷ rest) x.items_are at.begins in
    let r = subst (λ (i : Inside). Read n i (and_header x.header so.inner) start rest) (sym e) (header_read ps n so.inner m.0 start at.first t rest x p b (mark_of t.kind Heads s tt) room) in
    let st : State all n l (open_brackets (and_header x.header so.inner) so.outer) rest = state_on all n l so.inner (and_header x.header so.inner) so.outer start rest refl refl (waiting n l.here.colon so.inner.inside (and_header x.header so.inner) start rest r refl refl) around in
    subst (λ (y : OpenBrackets). Stepped all l y rest) (ap (λ (y : OpenBracket). open_brackets y so.outer) x.next_is ∙ m.2) (record { room = n; state = st })

pub colon_step : (ps : Pieces) (all : List Token) (n : ℕ) (i : Inside) (l : Looks) (so next : OpenBrackets) (start : List Token) (t : Token) (rest : List Token) (place : Place) → so.inner.inside ≡ i → sort_of t.kind ≡ Heads → Within rest n → At n true so.inner.inside so.inner start (t ∷ rest) → Around all n l.outer so.inner.inside so.inner.opened so.outer start → colon i (t ∷ rest) place so ≡ Ok next → Stepped all l next rest
colon_step ps all n inside.Block l so next start t rest place e s room at around h = header_step ps all n l so next start t rest place e s room at around h
colon_step ps all n inside.Program l so next start t rest place e s room at around h = wrong_step all n true inside.Program l so next start t rest e (λ (d : Bool). refl) at around h
colon_step ps all n inside.Parens l so next start t rest place e s room at around h = wrong_step all n true inside.Parens l so next start t rest e (λ (d : Bool). refl) at around h
colon_step ps all n inside.List l so next start t rest place e s room at around h = wrong_step all n true inside.List l so next start t rest e (λ (d : Bool). refl) at around h
colon_step ps all n inside.Merge l so next start t rest place e s room at around h = wrong_step all n true inside.Merge l so next start t rest e (λ (d : Bool). refl) at around h
colon_step ps all n inside.Pattern l so next start t rest place e s room at around h = wrong_step all n true inside.Pattern l so next start t rest e (λ (d : Bool). refl) at around h
colon_step ps all n inside.HeaderPattern l so next start t rest place e s room at around h = wrong_step all n true inside.HeaderPattern l so next start t rest e (λ (d : Bool). refl) at around h
