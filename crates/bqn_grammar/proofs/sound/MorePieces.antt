-- One more piece after those that an open bracket has read.
use Rattle.std.proofs.Common.{◌≡◌, ◌≤◌, ℕ, max, Bool, true, false, List, [], ◌∷◌, ◌++◌, Option, Some, None, refl, ap, ◌∙◌, arith}
use Rattle.bqn_syntax.specs.grammar.Punctuation as punctuation
use Rattle.bqn_syntax.specs.grammar.Classes.{is_predicate}
use Rattle.bqn_syntax.specs.grammar.Spells.{Sign, Mark, Apart, Gap, pattern_signs, listed_signs, listed_more, expr_signs, exprs_signs, exprs_more, stmt_signs, stmts_signs, body_signs, bodies_signs, bodies_more}
use Rattle.bqn_syntax.specs.grammar.Well.{WellExpr, WellExprs, WellPattern, WellPatterns, WellStmt, WellStmts, WellBody, WellBodies, expr_depth, exprs_depth, pattern_depth, patterns_depth, stmt_depth, stmts_depth, body_depth, bodies_depth}
use Rattle.bqn_syntax.specs.grammar.Trees.{Pattern, patterns, Header, Expr, exprs, Stmt, Eval, Predicate, Export, stmts, Stmts, no_stmts, and_stmts, BodyTree, body, bodies}
use Rattle.bqn_grammar.proofs.sound.OpenBrackets.{nexts, by_apart, by_semicolon, lead, stmts_next, header_next}

pub well_exprs : (es : List Expr) (e : Expr) → WellExprs (exprs es) → WellExpr e → WellExprs (exprs (es ++ e ∷ []))
well_exprs [] e w x = (x, tt)
well_exprs (y ∷ es) e w x = (w.0, well_exprs es e w.1 x)

pub well_patterns : (literals : Bool) (qs : List Pattern) (q : Pattern) → WellPatterns literals (patterns qs) → WellPattern literals q → WellPatterns literals (patterns (qs ++ q ∷ []))
well_patterns literals [] q w x = (x, tt)
well_patterns literals (y ∷ qs) q w x = (w.0, well_patterns literals qs q w.1 x)

pub well_stmts : (in_block : Bool) (ss : List Stmt) (s : Stmt) → WellStmts in_block (stmts ss) → WellStmt in_block s → WellStmts in_block (stmts (ss ++ s ∷ []))
well_stmts in_block [] s w x = (x, tt)
well_stmts in_block (y ∷ ss) s w x = (w.0, well_stmts in_block ss s w.1 x)

pub well_bodies : (bs : List BodyTree) (b : BodyTree) → WellBodies (bodies bs) → WellBody b → WellBodies (bodies (bs ++ b ∷ []))
well_bodies [] b w x = (x, tt)
well_bodies (y ∷ bs) b w x = (w.0, well_bodies bs b w.1 x)

-- a statement that is no predicate may stand anywhere
pub well_anywhere : (s : Stmt) → is_predicate s ≡ false → WellStmt false s → WellStmt true s
well_anywhere (Eval e) p w = w
well_anywhere (Predicate e) p w = absurd (cc)
well_anywhere (Export q) p w = w

pub max_le : (a b n : ℕ) → a ≤ n → b ≤ n → max a b ≤ n
max_le a b n x y = omega arith

pub max_left : (a b n : ℕ) → max a b ≤ n → a ≤ n
max_left a b n x = omega arith

pub max_right : (a b n : ℕ) → max a b ≤ n → b ≤ n
max_right a b n x = omega arith

pub exprs_deep : (n : ℕ) (es : List Expr) (e : Expr) → exprs_depth (exprs es) ≤ n → expr_depth e ≤ n → exprs_depth (exprs (es ++ e ∷ [])) ≤ n
exprs_deep n [] e w x = max_le (expr_depth e) 0 n x w
exprs_deep n (y ∷ es) e w x = max_le (expr_depth y) (exprs_depth (exprs (es ++ e ∷ []))) n (max_left (expr_depth y) (exprs_depth (exprs es)) n w) (exprs_deep n es e (max_right (expr_depth y) (exprs_depth (exprs es)) n w) x)

pub patterns_deep : (n : ℕ) (qs : List Pattern) (q : Pattern) → patterns_depth (patterns qs) ≤ n → pattern_depth q ≤ n → patterns_depth (patterns (qs ++ q ∷ [])) ≤ n
patterns_deep n [] q w x = max_le (pattern_depth q) 0 n x w
patterns_deep n (y ∷ qs) q w x = max_le (pattern_depth y) (patterns_depth (patterns (qs ++ q ∷ []))) n (max_left (pattern_depth y) (patterns_depth (patterns qs)) n w) (patterns_deep n qs q (max_right (pattern_depth y) (patterns_depth (patterns qs)) n w) x)

pub stmts_deep : (n : ℕ) (ss : List Stmt) (s : Stmt) → stmts_depth (stmts ss) ≤ n → stmt_depth s ≤ n → stmts_depth (stmts (ss ++ s ∷ [])) ≤ n
stmts_deep n [] s w x = max_le (stmt_depth s) 0 n x w
stmts_deep n (y ∷ ss) s w x = max_le (stmt_depth y) (stmts_depth (stmts (ss ++ s ∷ []))) n (max_left (stmt_depth y) (stmts_depth (stmts ss)) n w) (stmts_deep n ss s (max_right (stmt_depth y) (stmts_depth (stmts ss)) n w) x)

pub bodies_deep : (n : ℕ) (bs : List BodyTree) (b : BodyTree) → bodies_depth (bodies bs) ≤ n → body_depth b ≤ n → bodies_depth (bodies (bs ++ b ∷ [])) ≤ n
bodies_deep n [] b w x = max_le (body_depth b) 0 n x w
bodies_deep n (y ∷ bs) b w x = max_le (body_depth y) (bodies_depth (bodies (bs ++ b ∷ []))) n (max_left (body_depth y) (bodies_depth (bodies bs)) n w) (bodies_deep n bs b (max_right (body_depth y) (bodies_depth (bodies bs)) n w) x)

-- Signs.

pub nexts_more : {A : Type 0} (f : A → List Sign → List Sign) (sep : List Sign → List Sign) (xs : List A) (x : A) (k : List Sign) → nexts f sep (xs ++ x ∷ []) k ≡ nexts f sep xs (f x (sep k))
nexts_more f sep [] x k = refl
nexts_more f sep (y ∷ xs) x k = ap (λ (l : List Sign). f y (sep l)) (nexts_more f sep xs x k)

exprs_more_last : (es : List Expr) (e : Expr) (k : List Sign) → exprs_more (exprs (es ++ e ∷ [])) k ≡ by_apart (nexts expr_signs by_apart es (expr_signs e k))
exprs_more_last [] e k = refl
exprs_more_last (x ∷ es) e k = ap (λ (l : List Sign). Apart ∷ Gap ∷ expr_signs x l) (exprs_more_last es e k)

pub exprs_last : (es : List Expr) (e : Expr) (k : List Sign) → exprs_signs (exprs (es ++ e ∷ [])) k ≡ nexts expr_signs by_apart es (expr_signs e k)
exprs_last [] e k = refl
exprs_last (x ∷ es) e k = ap (expr_signs x) (exprs_more_last es e k)

listed_more_last : (qs : List Pattern) (q : Pattern) (k : List Sign) → listed_more (patterns (qs ++ q ∷ [])) k ≡ by_apart (nexts pattern_signs by_apart qs (pattern_signs q k))
listed_more_last [] q k = refl
listed_more_last (x ∷ qs) q k = ap (λ (l : List Sign). Apart ∷ Gap ∷ pattern_signs x l) (listed_more_last qs q k)

pub listed_last : (qs : List Pattern) (q : Pattern) (k : List Sign) → listed_signs (patterns (qs ++ q ∷ [])) k ≡ nexts pattern_signs by_apart qs (pattern_signs q k)
listed_last [] q k = refl
listed_last (x ∷ qs) q k = ap (pattern_signs x) (listed_more_last qs q k)

bodies_more_last : (bs : List BodyTree) (b : BodyTree) (k : List Sign) → bodies_more (bodies (bs ++ b ∷ [])) k ≡ by_semicolon (nexts body_signs by_semicolon bs (body_signs b k))
bodies_more_last [] b k = refl
bodies_more_last (x ∷ bs) b k = ap (λ (l : List Sign). Mark punctuation.semicolon ∷ body_signs x l) (bodies_more_last bs b k)

pub bodies_last : (bs : List BodyTree) (b : BodyTree) (k : List Sign) → bodies_signs (bodies (bs ++ b ∷ [])) k ≡ nexts body_signs by_semicolon bs (body_signs b k)
bodies_last [] b k = refl
bodies_last (x ∷ bs) b k = ap (body_signs x) (bodies_more_last bs b k)

pub body_next : (h : Option Header) (ss : List Stmt) (k : List Sign) → header_next h (stmts_signs true (stmts ss) (Gap ∷ k)) ≡ body_signs (body h (stmts ss)) k
body_next None ss k = refl
body_next (Some h) ss k = refl

stmts_lead : (b : Bool) (s : Stmt) (ss : Stmts) (k : List Sign) → stmts_signs b (and_stmts s ss) k ≡ lead b (stmt_signs s (stmts_signs (is_predicate s) ss k))
stmts_lead true s ss k = refl
stmts_lead false s ss k = refl

pub stmts_last : (b : Bool) (ss : List Stmt) (s : Stmt) (k : List Sign) → stmts_signs b (stmts (ss ++ s ∷ [])) k ≡ stmts_next b ss (stmt_signs s k)
stmts_last b [] s k = stmts_lead b s no_stmts k
stmts_last b (x ∷ ss) s k = stmts_lead b x (stmts (ss ++ s ∷ [])) k ∙ ap (λ (l : List Sign). lead b (stmt_signs x l)) (stmts_last (is_predicate x) ss s k)

pub stmts_more : (b : Bool) (ss : List Stmt) (s : Stmt) (k : List Sign) → stmts_next b (ss ++ s ∷ []) k ≡ stmts_next b ss (stmt_signs s (lead (is_predicate s) k))
stmts_more b [] s k = refl
stmts_more b (x ∷ ss) s k = ap (λ (l : List Sign). lead b (stmt_signs x l)) (stmts_more (is_predicate x) ss s k)
