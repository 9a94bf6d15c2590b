-- A piece that ends is one more of its bracket.
use Rattle.std.proofs.Common.{◌≡◌, ◌≤◌, ℕ, Bool, true, false, List, [], ◌∷◌, ◌++◌, Option, Some, None, Ok, refl, sym, ap, ◌∙◌, subst}
use Rattle.bqn_base.specs.declared.place.Place.{Place}
use Rattle.bqn_syntax.specs.declared.token.Token.{Token}
use Rattle.bqn_syntax.specs.declared.sort.Sort.TheVariants.{Separates}
use Rattle.bqn_syntax.specs.declared.sort.Inside.{Inside}
use Rattle.bqn_syntax.specs.declared.sort.Inside.TheVariants as inside
use Rattle.bqn_syntax.specs.grammar.Sorts.{sort_of}
use Rattle.bqn_syntax.specs.grammar.Items.{Item, piece_pattern}
use Rattle.bqn_syntax.specs.grammar.Expressions.{piece_expression, piece_statement}
use Rattle.bqn_syntax.specs.grammar.Classes.{is_predicate}
use Rattle.bqn_syntax.specs.grammar.Parsing.{OpenBracket, and_expression, and_target, and_statement, well, judged, no_piece, ended_by, ended}
use Rattle.bqn_syntax.specs.grammar.Spells.{Sign, Apart, Gap, Fits, apart, one_more, pattern_signs, expr_signs, stmt_signs, body_signs}
use Rattle.bqn_syntax.specs.grammar.Well.{WellExpr, WellPattern, WellStmt, expr_depth, pattern_depth, stmt_depth}
use Rattle.bqn_syntax.specs.grammar.Trees.{Pattern, Expr, Stmt}
use Rattle.bqn_grammar.proofs.TreeItems.{GoodItems, ItemDepths}
use Rattle.bqn_grammar.proofs.sound.Signs.{items_signs, pattern_spelled, expr_spelled, stmt_spelled}
use Rattle.bqn_grammar.proofs.sound.OpenBrackets.{Pieces, Suffix, suffix_more, nexts, by_apart, by_nothing, by_semicolon, lead, stmts_next, header_next, next_signs, end_signs, gap_in, Separable, in_block, in_header, literals_in, Kept, Read, Piece, Begins, At, Ended, fits_eq, into_gap}
use Rattle.bqn_grammar.proofs.sound.MorePieces.{well_exprs, well_patterns, well_stmts, well_anywhere, exprs_deep, patterns_deep, stmts_deep, nexts_more, exprs_last, listed_last, stmts_last, stmts_more}
use Rattle.bqn_grammar.proofs.sound.Clean.{expression_clean, statement_clean, pattern_clean}

pub well_some : {A : Type 0} (place : Place) (and : A → OpenBracket → OpenBracket) (m : Option A) (l next : OpenBracket) → well place and m l ≡ Ok next → (x : A) × (m ≡ Some x) × (and x l ≡ next)
well_some place and None l next e = absurd (cc)
well_some place and (Some x) l next e = (x, refl, (cc))

-- an open bracket that goes on from another
pub record From (n : ℕ) (l next : OpenBracket) (start rest : List Token) (i : Inside) : Type 0 where
  pub ended : Ended n i next start rest
  pub inside : next.inside ≡ l.inside
  pub opened : next.opened ≡ l.opened

pub more_gap : (i : Inside) → Separable i → (t : Token) (ts : List Token) (k : List Sign) → sort_of t.kind ≡ Separates → Fits (gap_in i k) ts → Fits (gap_in i k) (t ∷ ts)
more_gap inside.Parens w t ts k e x = elim w [ ]
more_gap _ w t ts k e x = one_more e x

by_gap : (i : Inside) → Separable i → (t : Token) (ts : List Token) (k : List Sign) → sort_of t.kind ≡ Separates → Fits (gap_in i k) ts → Fits (Apart ∷ Gap ∷ k) (t ∷ ts)
by_gap inside.Parens w t ts k e x = elim w [ ]
by_gap _ w t ts k e x = apart e x

-- by what the signs of the piece are
ended_of : (n : ℕ) (i : Inside) (l next : OpenBracket) (start first rest : List Token) (signs : List Sign → List Sign) → Read n i l start first → Suffix first rest → Kept n i next → next.items ≡ [] → next.first ≡ None → ((k : List Sign) → Fits k rest → Fits (signs k) first) → ((k : List Sign) → next_signs i l (signs (gap_in i k)) ≡ end_signs i next k) → (Separable i → (k : List Sign) → next_signs i l (signs (Apart ∷ Gap ∷ k)) ≡ next_signs i next k) → Ended n i next start rest
ended_of n i l next start first rest signs r behind kept bare idle spelled at_end at_next =
    record {
      kept = kept;
      last = λ (k : List Sign) (x : Fits (gap_in i k) rest). fits_eq (at_end k) (r.next (signs (gap_in i k)) (into_gap i (signs (gap_in i k)) first (spelled (gap_in i k) x)));
      onward = λ (w : Separable i) (t : Token) (more : List Token) (e : rest ≡ t ∷ more) (s : sort_of t.kind ≡ Separates) (k : List Sign) (x : Fits (gap_in i k) more). fits_eq (at_next w k) (r.next (signs (Apart ∷ Gap ∷ k)) (into_gap i (signs (Apart ∷ Gap ∷ k)) first (spelled (Apart ∷ Gap ∷ k) (subst (λ (ts : List Token). Fits (Apart ∷ Gap ∷ k) ts) (sym e) (by_gap i w t more k s x)))));
      behind = suffix_more start first rest r.behind behind;
      bare = bare;
      idle = idle;
    }

kept_expression : (n : ℕ) (i : Inside) (l : OpenBracket) (e : Expr) → Kept n i l → WellExpr e → expr_depth e ≤ n → Kept n i (and_expression e l)
kept_expression n i l e r w d =
    record {
      expressions = well_exprs l.expressions e r.expressions w;
      targets = r.targets;
      header = r.header;
      statements = r.statements;
      done = r.done;
      expressions_depth = exprs_deep n l.expressions e r.expressions_depth d;
      targets_depth = r.targets_depth;
      header_depth = r.header_depth;
      statements_depth = r.statements_depth;
      done_depth = r.done_depth;
    }

kept_target : (n : ℕ) (i : Inside) (l : OpenBracket) (q : Pattern) → Kept n i l → WellPattern (in_header i) q → pattern_depth q ≤ n → Kept n i (and_target q l)
kept_target n i l q r w d =
    record {
      expressions = r.expressions;
      targets = well_patterns (in_header i) l.targets q r.targets w;
      header = r.header;
      statements = r.statements;
      done = r.done;
      expressions_depth = r.expressions_depth;
      targets_depth = patterns_deep n l.targets q r.targets_depth d;
      header_depth = r.header_depth;
      statements_depth = r.statements_depth;
      done_depth = r.done_depth;
    }

pub kept_statement : (n : ℕ) (i : Inside) (l : OpenBracket) (s : Stmt) → Kept n i l → WellStmt (in_block i) s → stmt_depth s ≤ n → Kept n i (and_statement s l)
kept_statement n i l s r w d =
    record {
      expressions = r.expressions;
      targets = r.targets;
      header = r.header;
      statements = well_stmts (in_block i) l.statements s r.statements w;
      done = r.done;
      expressions_depth = r.expressions_depth;
      targets_depth = r.targets_depth;
      header_depth = r.header_depth;
      statements_depth = stmts_deep n l.statements s r.statements_depth d;
      done_depth = r.done_depth;
    }

-- a piece that is an expression, a target, a statement

expression_ended : (ps : Pieces) (n : ℕ) (i : Inside) (l next : OpenBracket) (start first rest : List Token) (place : Place) → Piece n false i l start first rest → literals_in i false ≡ false → ((e : Expr) (k : List Sign) → next_signs i l (expr_signs e (gap_in i k)) ≡ end_signs i (and_expression e l) k) → (Separable i → (e : Expr) (k : List Sign) → next_signs i l (expr_signs e (Apart ∷ Gap ∷ k)) ≡ next_signs i (and_expression e l) k) → well place and_expression (piece_expression l.items) l ≡ Ok next → From n l next start rest i
expression_ended ps n i l next start first rest place p plain at_end at_next h =
    let m = well_some place and_expression (piece_expression l.items) l next h in
    let w = ps.expression_only l.items m.0 (subst (λ (b : Bool). GoodItems b l.items) plain p.good) m.1 in
    let d = ps.expr_depths n m.0 (subst (λ (is : List Item). ItemDepths n is) (sym w.0) p.deep) in
    let spelled = λ (k : List Sign) (x : Fits k rest). fits_eq (ap (λ (is : List Item). items_signs is k) (sym w.0) ∙ expr_spelled m.0 k) (p.spelled (expression_clean l.items m.0 m.1) k x) in
    subst (λ (y : OpenBracket). From n l y start rest i) m.2 (record { ended = ended_of n i l (and_expression m.0 l) start first rest (expr_signs m.0) p.read p.behind (kept_expression n i l m.0 p.read.kept w.1 d) refl refl spelled (at_end m.0) (λ (u : Separable i). at_next u m.0); inside = refl; opened = refl })

target_ended : (ps : Pieces) (n : ℕ) (i : Inside) (l next : OpenBracket) (start first rest : List Token) (place : Place) → Piece n false i l start first rest → literals_in i false ≡ in_header i → ((q : Pattern) (k : List Sign) → next_signs i l (pattern_signs q (gap_in i k)) ≡ end_signs i (and_target q l) k) → (Separable i → (q : Pattern) (k : List Sign) → next_signs i l (pattern_signs q (Apart ∷ Gap ∷ k)) ≡ next_signs i (and_target q l) k) → well place and_target (piece_pattern (in_header i) l.items) l ≡ Ok next → From n l next start rest i
target_ended ps n i l next start first rest place p plain at_end at_next h =
    let m = well_some place and_target (piece_pattern (in_header i) l.items) l next h in
    let w = ps.pattern_only (in_header i) l.items m.0 (subst (λ (b : Bool). GoodItems b l.items) plain p.good) m.1 in
    let d = ps.pattern_depths n m.0 (subst (λ (is : List Item). ItemDepths n is) (sym w.0) p.deep) in
    let spelled = λ (k : List Sign) (x : Fits k rest). fits_eq (ap (λ (is : List Item). items_signs is k) (sym w.0) ∙ pattern_spelled m.0 k) (p.spelled (pattern_clean (in_header i) l.items m.0 m.1) k x) in
    subst (λ (y : OpenBracket). From n l y start rest i) m.2 (record { ended = ended_of n i l (and_target m.0 l) start first rest (pattern_signs m.0) p.read p.behind (kept_target n i l m.0 p.read.kept w.1 d) refl refl spelled (at_end m.0) (λ (u : Separable i). at_next u m.0); inside = refl; opened = refl })

well_here : (b : Bool) (s : Stmt) → is_predicate s ≡ false → WellStmt false s → WellStmt b s
well_here true s p w = well_anywhere s p w
well_here false s p w = w

-- the statements of an open bracket, among what else it has read
statement_ended : (ps : Pieces) (n : ℕ) (i : Inside) (l next : OpenBracket) (start first rest : List Token) (place : Place) → Piece n false i l start first rest → literals_in i false ≡ false → ((s : Stmt) → is_predicate s ≡ false → (k : List Sign) → next_signs i l (stmt_signs s (gap_in i k)) ≡ end_signs i (and_statement s l) k) → ((s : Stmt) → is_predicate s ≡ false → (k : List Sign) → next_signs i l (stmt_signs s (Apart ∷ Gap ∷ k)) ≡ next_signs i (and_statement s l) k) → well place and_statement (piece_statement l.items) l ≡ Ok next → From n l next start rest i
statement_ended ps n i l next start first rest place p plain at_end at_next h =
    let m = well_some place and_statement (piece_statement l.items) l next h in
    let w = ps.statement_only l.items m.0 (subst (λ (b : Bool). GoodItems b l.items) plain p.good) m.1 in
    let d = ps.stmt_depths n m.0 (subst (λ (is : List Item). ItemDepths n is) (sym w.0) p.deep) in
    let spelled = λ (k : List Sign) (x : Fits k rest). fits_eq (ap (λ (is : List Item). items_signs is k) (sym w.0) ∙ stmt_spelled m.0 k w.2) (p.spelled (statement_clean l.items m.0 m.1) k x) in
    subst (λ (y : OpenBracket). From n l y start rest i) m.2 (record { ended = ended_of n i l (and_statement m.0 l) start first rest (stmt_signs m.0) p.read p.behind (kept_statement n i l m.0 p.read.kept (well_here (in_block i) m.0 w.2 w.1) d) refl refl spelled (at_end m.0 w.2) (λ (u : Separable i). at_next m.0 w.2); inside = refl; opened = refl })

stmt_onward : (ss : List Stmt) (s : Stmt) → is_predicate s ≡ false → (k : List Sign) → stmts_next true ss (stmt_signs s (Apart ∷ Gap ∷ k)) ≡ stmts_next true (ss ++ s ∷ []) k
stmt_onward ss s p k = ap (λ (b : Bool). stmts_next true ss (stmt_signs s (lead b k))) (sym p) ∙ sym (stmts_more true ss s k)

judged_only : (ps : Pieces) (n : ℕ) (i : Inside) (l next : OpenBracket) (start first rest : List Token) (place : Place) → Piece n false i l start first rest → judged i place l ≡ Ok next → From n l next start rest i
judged_only ps n inside.Program l next start first rest place p h = statement_ended ps n inside.Program l next start first rest place p refl (λ (s : Stmt) (e : is_predicate s ≡ false) (k : List Sign). sym (stmts_last true l.statements s (Gap ∷ k))) (λ (s : Stmt) (e : is_predicate s ≡ false) (k : List Sign). stmt_onward l.statements s e k) h
judged_only ps n inside.Block l next start first rest place p h = statement_ended ps n inside.Block l next start first rest place p refl (λ (s : Stmt) (e : is_predicate s ≡ false) (k : List Sign). ap (λ (x : List Sign). nexts body_signs by_semicolon l.done (header_next l.header x)) (sym (stmts_last true l.statements s (Gap ∷ k)))) (λ (s : Stmt) (e : is_predicate s ≡ false) (k : List Sign). ap (λ (x : List Sign). nexts body_signs by_semicolon l.done (header_next l.header x)) (stmt_onward l.statements s e k)) h
judged_only ps n inside.Parens l next start first rest place p h = expression_ended ps n inside.Parens l next start first rest place p refl (λ (e : Expr) (k : List Sign). sym (nexts_more expr_signs by_nothing l.expressions e k)) (λ (u : Separable inside.Parens) (e : Expr) (k : List Sign). elim u [ ]) h
judged_only ps n inside.List l next start first rest place p h = expression_ended ps n inside.List l next start first rest place p refl (λ (e : Expr) (k : List Sign). ap (λ (x : List Sign). Gap ∷ x) (sym (exprs_last l.expressions e (Gap ∷ k)))) (λ (u : Separable inside.List) (e : Expr) (k : List Sign). ap (λ (x : List Sign). Gap ∷ x) (sym (nexts_more expr_signs by_apart l.expressions e k))) h
judged_only ps n inside.Merge l next start first rest place p h = expression_ended ps n inside.Merge l next start first rest place p refl (λ (e : Expr) (k : List Sign). ap (λ (x : List Sign). Gap ∷ x) (sym (exprs_last l.expressions e (Gap ∷ k)))) (λ (u : Separable inside.Merge) (e : Expr) (k : List Sign). ap (λ (x : List Sign). Gap ∷ x) (sym (nexts_more expr_signs by_apart l.expressions e k))) h
judged_only ps n inside.Pattern l next start first rest place p h = target_ended ps n inside.Pattern l next start first rest place p refl (λ (q : Pattern) (k : List Sign). ap (λ (x : List Sign). Gap ∷ x) (sym (listed_last l.targets q (Gap ∷ k)))) (λ (u : Separable inside.Pattern) (q : Pattern) (k : List Sign). ap (λ (x : List Sign). Gap ∷ x) (sym (nexts_more pattern_signs by_apart l.targets q k))) h
judged_only ps n inside.HeaderPattern l next start first rest place p h = target_ended ps n inside.HeaderPattern l next start first rest place p refl (λ (q : Pattern) (k : List Sign). ap (λ (x : List Sign). Gap ∷ x) (sym (listed_last l.targets q (Gap ∷ k)))) (λ (u : Separable inside.HeaderPattern) (q : Pattern) (k : List Sign). ap (λ (x : List Sign). Gap ∷ x) (sym (nexts_more pattern_signs by_apart l.targets q k))) h

no_piece_same : (i : Inside) (place : Place) (l next : OpenBracket) → no_piece i place l ≡ Ok next → l ≡ next
no_piece_same inside.Parens place l next h = absurd (cc)
no_piece_same _ place l next h = cc

-- no piece has begun
nothing_ended : (n : ℕ) (i : Inside) (l : OpenBracket) (start rest : List Token) → Read n i l start rest → l.items ≡ [] → l.first ≡ None → From n l l start rest i
nothing_ended n i l start rest r bare idle =
    record {
      ended = record {
        kept = r.kept;
        last = r.last;
        onward = λ (w : Separable i) (t : Token) (more : List Token) (e : rest ≡ t ∷ more) (s : sort_of t.kind ≡ Separates) (k : List Sign) (x : Fits (gap_in i k) more). r.next k (subst (λ (ts : List Token). Fits (gap_in i k) ts) (sym e) (more_gap i w t more k s x));
        behind = r.behind;
        bare = bare;
        idle = idle;
      };
      inside = refl;
      opened = refl;
    }

ended_by_only : (ps : Pieces) (n : ℕ) (l next : OpenBracket) (start first rest : List Token) (place : Place) (items : List Item) → l.items ≡ items → Piece n false l.inside l start first rest → Begins items l.first first rest → ended_by items place l ≡ Ok next → From n l next start rest l.inside
ended_by_only ps n l next start first rest place [] e p b h =
    let r = subst (λ (ts : List Token). Read n l.inside l start ts) b.1 p.read in
    subst (λ (y : OpenBracket). From n l y start rest l.inside) (no_piece_same l.inside place l next h) (nothing_ended n l.inside l start rest r e b.0)
ended_by_only ps n l next start first rest place (item ∷ items) e p b h = judged_only ps n l.inside l next start first rest place p h

pub ended_only : (ps : Pieces) (n : ℕ) (l next : OpenBracket) (start rest : List Token) (place : Place) → At n false l.inside l start rest → ended place l ≡ Ok next → From n l next start rest l.inside
ended_only ps n l next start rest place at h = ended_by_only ps n l next start at.first rest place l.items refl at.piece at.begins h
