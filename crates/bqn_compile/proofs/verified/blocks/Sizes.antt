-- How many tokens a tree has at least, and that what spells it has as many.
use Rattle.std.proofs.Common.{◌≡◌, ◌≤◌, ℕ, suc, ◌+◌, Bool, true, false, List, [], ◌∷◌, length, Option, Some, None, arith}
use Rattle.bqn_syntax.specs.declared.token.Token.{Token}
use Rattle.bqn_syntax.specs.declared.tree.Arrow.{Arrow}
use Rattle.bqn_syntax.specs.grammar.Classes.{is_predicate}
use Rattle.bqn_syntax.specs.grammar.Trees.{Pattern, Name, Skip, Literal, ListPattern, StrandPattern, Patterns, no_patterns, and_patterns, Header, Expr, Value, Train, Modifier, Use, One, Two, Part, Leaf, Elements, Merge, Paren, Block, Field, Strand, Nothing, Step, Apply, Assign, Modify, Stmt, Eval, Predicate, Export, BlockTree, block, BodyTree, body, Derived, derived, MaybePart, none, some, Exprs, no_exprs, and_exprs, Uses, no_uses, and_uses, Parts, no_parts, and_parts, Steps, no_steps, and_steps, Stmts, no_stmts, and_stmts, Bodies, no_bodies, and_bodies, Deriveds, no_deriveds, and_deriveds}
use Rattle.bqn_syntax.specs.grammar.Spells.{Sign, Exact, Mark, Apart, Gap, Fits, done, exact, mark, apart, one_more, no_more, Spells, arrow_code, pattern_signs, listed_signs, listed_more, joined_signs, joined_more, token_signs, argument_signs, header_signs, target_signs, name_signs, expr_signs, part_signs, maybe_signs, steps_signs, step_signs, derived_signs, uses_signs, use_signs, deriveds_signs, exprs_signs, exprs_more, parts_signs, parts_more, stmt_signs, stmts_signs, body_signs, bodies_more, block_signs}

-- ---- the tokens of a tree, separators of elements and statements aside

abbrev mutual
  pub pattern_size : Pattern → ℕ
  pattern_size (Name t) = 1
  pattern_size (Skip place) = 1
  pattern_size (Literal t) = 1
  pattern_size (ListPattern qs) = 2 + patterns_size qs
  pattern_size (StrandPattern qs) = patterns_size qs

  pub patterns_size : Patterns → ℕ
  patterns_size no_patterns = 0
  patterns_size (and_patterns q qs) = pattern_size q + patterns_size qs

abbrev pub token_size : Option Token → ℕ
token_size None = 0
token_size (Some t) = 1

abbrev pub argument_size : Option Pattern → ℕ
argument_size None = 0
argument_size (Some q) = pattern_size q

-- with its colon
abbrev pub header_size : Option Header → ℕ
header_size None = 0
header_size (Some h) = argument_size h.left + (token_size h.left_operand + (1 + (token_size h.right_operand + (argument_size h.right + 1))))

-- with its arrows
abbrev pub targets_size : List (Token × Arrow) → ℕ
targets_size [] = 0
targets_size (t ∷ ts) = 2 + targets_size ts

-- with its dots
abbrev pub fields_size : List Token → ℕ
fields_size [] = 0
fields_size (t ∷ ts) = 2 + fields_size ts

abbrev mutual
  pub expr_size : Expr → ℕ
  expr_size (Value last ss) = steps_size ss + maybe_size last
  expr_size (Train targets ds) = targets_size targets + deriveds_size ds
  expr_size (Modifier targets x) = targets_size targets + part_size x

  pub part_size : Part → ℕ
  part_size (Leaf t) = 1
  part_size (Elements es) = 2 + exprs_size es
  part_size (Merge es) = 2 + exprs_size es
  part_size (Paren e) = 2 + expr_size e
  part_size (Block b) = block_size b
  part_size (Field base names) = part_size base + fields_size names
  part_size (Strand ps) = parts_size ps
  part_size (Nothing place) = 1

  pub block_size : BlockTree → ℕ
  block_size (block place c bs) = 1 + bodies_size bs

  pub maybe_size : MaybePart → ℕ
  maybe_size none = 0
  maybe_size (some x) = part_size x

  pub steps_size : Steps → ℕ
  steps_size no_steps = 0
  steps_size (and_steps s ss) = steps_size ss + step_size s

  pub step_size : Step → ℕ
  step_size (Apply d left) = maybe_size left + derived_size d
  step_size (Assign q a) = pattern_size q + 1
  step_size (Modify t d) = 2 + derived_size d

  pub derived_size : Derived → ℕ
  derived_size (derived x us) = part_size x + uses_size us

  pub uses_size : Uses → ℕ
  uses_size no_uses = 0
  uses_size (and_uses u us) = use_size u + uses_size us

  pub use_size : Use → ℕ
  use_size (One m) = part_size m
  use_size (Two m x) = part_size m + part_size x

  pub deriveds_size : Deriveds → ℕ
  deriveds_size no_deriveds = 0
  deriveds_size (and_deriveds d ds) = derived_size d + deriveds_size ds

  pub exprs_size : Exprs → ℕ
  exprs_size no_exprs = 0
  exprs_size (and_exprs e es) = expr_size e + exprs_size es

  pub parts_size : Parts → ℕ
  parts_size no_parts = 0
  parts_size (and_parts x xs) = part_size x + parts_size xs

  pub stmts_size : Stmts → ℕ
  stmts_size no_stmts = 0
  stmts_size (and_stmts s ss) = stmt_size s + stmts_size ss

  pub stmt_size : Stmt → ℕ
  stmt_size (Eval e) = expr_size e
  stmt_size (Predicate e) = expr_size e + 1
  stmt_size (Export q) = pattern_size q + 1

  -- each with what ends it
  pub bodies_size : Bodies → ℕ
  bodies_size no_bodies = 0
  bodies_size (and_bodies b bs) = 1 + (body_size b + bodies_size bs)

  pub body_size : BodyTree → ℕ
  body_size (body h ss) = header_size h + stmts_size ss

-- ---- the tokens of signs

-- the fewest tokens that fit signs
abbrev pub least : List Sign → ℕ
least [] = 0
least (Exact t ∷ k) = suc (least k)
least (Mark c ∷ k) = suc (least k)
least (Apart ∷ k) = suc (least k)
least (Gap ∷ k) = least k

pub fit_least : (k : List Sign) (ts : List Token) → Fits k ts → least k ≤ length ts
fit_least k ts done = omega arith
fit_least k ts (exact {k = l} {ts = us} f) = let h : least l ≤ length us = fit_least l us f in omega arith
fit_least k ts (mark {k = l} {ts = us} e f) = let h : least l ≤ length us = fit_least l us f in omega arith
fit_least k ts (apart {k = l} {ts = us} e f) = let h : least l ≤ length us = fit_least l us f in omega arith
fit_least k ts (one_more {k = l} {ts = us} e f) = let h : least (Gap ∷ l) ≤ length us = fit_least (Gap ∷ l) us f in omega arith
fit_least k ts (no_more {k = l} {ts = us} f) = fit_least l us f

-- so many tokens stand in front of these signs
record Front (n : ℕ) (k s : List Sign) : Type 0 where
  holds : n + least k ≤ least s

front_none : (k : List Sign) → Front 0 k k
front_none k = record { holds = omega arith }

front_one : (t : Token) (k : List Sign) → Front 1 k (Exact t ∷ k)
front_one t k = record { holds = omega arith }

both : {a b : ℕ} {k m s : List Sign} → Front a m s → Front b k m → Front (a + b) k s
both {a} {b} {k} {m} {s} f g = let p : a + least m ≤ least s = f.holds in let q : b + least k ≤ least m = g.holds in record { holds = omega arith }

-- one bracket on each side
bracketed : {n : ℕ} {k m s t : List Sign} → least m ≡ suc (least k) → least t ≡ suc (least s) → Front n m s → Front (2 + n) k t
bracketed {n} {k} {m} {s} {t} e d f = let p : n + least m ≤ least s = f.holds in record { holds = omega arith }

-- one mark behind
before_mark : {n : ℕ} {k m s : List Sign} → least m ≡ suc (least k) → Front n m s → Front (n + 1) k s
before_mark {n} {k} {m} {s} e f = let p : n + least m ≤ least s = f.holds in record { holds = omega arith }

-- more signs around
wider : {n : ℕ} {k m s t : List Sign} → least k ≤ least m → least s ≤ least t → Front n m s → Front n k t
wider {n} {k} {m} {s} {t} e d f = let p : n + least m ≤ least s = f.holds in record { holds = omega arith }

mutual
  pattern_front : (q : Pattern) (k : List Sign) → Front (pattern_size q) k (pattern_signs q k)
  pattern_front (Name t) k = front_one t k
  pattern_front (Skip place) k = record { holds = omega arith }
  pattern_front (Literal t) k = front_one t k
  pattern_front (ListPattern qs) k = bracketed (omega arith) (omega arith) (listed_front qs (Gap ∷ Mark 10217 ∷ k))
  pattern_front (StrandPattern qs) k = joined_front qs k

  listed_front : (qs : Patterns) (k : List Sign) → Front (patterns_size qs) k (listed_signs qs k)
  listed_front no_patterns k = front_none k
  listed_front (and_patterns q qs) k = both (pattern_front q (listed_more qs k)) (listed_more_front qs k)

  listed_more_front : (qs : Patterns) (k : List Sign) → Front (patterns_size qs) k (listed_more qs k)
  listed_more_front no_patterns k = front_none k
  listed_more_front (and_patterns q qs) k = wider (omega arith) (omega arith) (both (pattern_front q (listed_more qs k)) (listed_more_front qs k))

  joined_front : (qs : Patterns) (k : List Sign) → Front (patterns_size qs) k (joined_signs qs k)
  joined_front no_patterns k = front_none k
  joined_front (and_patterns q qs) k = both (pattern_front q (joined_more qs k)) (joined_more_front qs k)

  joined_more_front : (qs : Patterns) (k : List Sign) → Front (patterns_size qs) k (joined_more qs k)
  joined_more_front no_patterns k = front_none k
  joined_more_front (and_patterns q qs) k = wider (omega arith) (omega arith) (both (pattern_front q (joined_more qs k)) (joined_more_front qs k))

token_front : (t : Option Token) (k : List Sign) → Front (token_size t) k (token_signs t k)
token_front None k = front_none k
token_front (Some t) k = front_one t k

argument_front : (q : Option Pattern) (k : List Sign) → Front (argument_size q) k (argument_signs q k)
argument_front None k = front_none k
argument_front (Some q) k = pattern_front q k

header_front : (h : Header) (k : List Sign) → Front (header_size (Some h)) k (header_signs h (Mark 58 ∷ k))
header_front h k =
    both (argument_front h.left (token_signs h.left_operand (Exact h.own ∷ token_signs h.right_operand (argument_signs h.right (Mark 58 ∷ k)))))
    (both (token_front h.left_operand (Exact h.own ∷ token_signs h.right_operand (argument_signs h.right (Mark 58 ∷ k))))
    (both (front_one h.own (token_signs h.right_operand (argument_signs h.right (Mark 58 ∷ k))))
    (both (token_front h.right_operand (argument_signs h.right (Mark 58 ∷ k)))
    (before_mark (omega arith) (argument_front h.right (Mark 58 ∷ k))))))

targets_front : (ts : List (Token × Arrow)) (k : List Sign) → Front (targets_size ts) k (target_signs ts k)
targets_front [] k = front_none k
targets_front (t ∷ ts) k = let h : targets_size ts + least k ≤ least (target_signs ts k) = (targets_front ts k).holds in record { holds = omega arith }

fields_front : (ts : List Token) (k : List Sign) → Front (fields_size ts) k (name_signs ts k)
fields_front [] k = front_none k
fields_front (t ∷ ts) k = let h : fields_size ts + least k ≤ least (name_signs ts k) = (fields_front ts k).holds in record { holds = omega arith }

mutual
  expr_front : (e : Expr) (k : List Sign) → Front (expr_size e) k (expr_signs e k)
  expr_front (Value last ss) k = both (steps_front ss (maybe_signs last k)) (maybe_front last k)
  expr_front (Train targets ds) k = both (targets_front targets (deriveds_signs ds k)) (deriveds_front ds k)
  expr_front (Modifier targets x) k = both (targets_front targets (part_signs x k)) (part_front x k)

  part_front : (x : Part) (k : List Sign) → Front (part_size x) k (part_signs x k)
  part_front (Leaf t) k = front_one t k
  part_front (Elements es) k = bracketed (omega arith) (omega arith) (exprs_front es (Gap ∷ Mark 10217 ∷ k))
  part_front (Merge es) k = bracketed (omega arith) (omega arith) (exprs_front es (Gap ∷ Mark 93 ∷ k))
  part_front (Paren e) k = bracketed (omega arith) (omega arith) (expr_front e (Mark 41 ∷ k))
  part_front (Block b) k = block_front b k
  part_front (Field base names) k = both (part_front base (name_signs names k)) (fields_front names k)
  part_front (Strand ps) k = parts_front ps k
  part_front (Nothing place) k = record { holds = omega arith }

  block_front : (b : BlockTree) (k : List Sign) → Front (block_size b) k (block_signs b k)
  block_front (block place c no_bodies) k = record { holds = omega arith }
  block_front (block place c (and_bodies b bs)) k = let h : (body_size b + bodies_size bs) + least (Mark 125 ∷ k) ≤ least (body_signs b (bodies_more bs (Mark 125 ∷ k))) = (both (body_front b (bodies_more bs (Mark 125 ∷ k))) (bodies_more_front bs (Mark 125 ∷ k))).holds in record { holds = omega arith }

  maybe_front : (x : MaybePart) (k : List Sign) → Front (maybe_size x) k (maybe_signs x k)
  maybe_front none k = front_none k
  maybe_front (some x) k = part_front x k

  steps_front : (ss : Steps) (k : List Sign) → Front (steps_size ss) k (steps_signs ss k)
  steps_front no_steps k = front_none k
  steps_front (and_steps s ss) k = both (steps_front ss (step_signs s k)) (step_front s k)

  step_front : (s : Step) (k : List Sign) → Front (step_size s) k (step_signs s k)
  step_front (Apply d left) k = both (maybe_front left (derived_signs d k)) (derived_front d k)
  step_front (Assign q a) k = before_mark (omega arith) (pattern_front q (Mark (arrow_code a) ∷ k))
  step_front (Modify t d) k = bracketed (omega arith) (omega arith) (derived_front d (Mark 8617 ∷ k))

  derived_front : (d : Derived) (k : List Sign) → Front (derived_size d) k (derived_signs d k)
  derived_front (derived x us) k = both (part_front x (uses_signs us k)) (uses_front us k)

  uses_front : (us : Uses) (k : List Sign) → Front (uses_size us) k (uses_signs us k)
  uses_front no_uses k = front_none k
  uses_front (and_uses u us) k = both (use_front u (uses_signs us k)) (uses_front us k)

  use_front : (u : Use) (k : List Sign) → Front (use_size u) k (use_signs u k)
  use_front (One m) k = part_front m k
  use_front (Two m x) k = both (part_front m (part_signs x k)) (part_front x k)

  deriveds_front : (ds : Deriveds) (k : List Sign) → Front (deriveds_size ds) k (deriveds_signs ds k)
  deriveds_front no_deriveds k = front_none k
  deriveds_front (and_deriveds d ds) k = both (derived_front d (deriveds_signs ds k)) (deriveds_front ds k)

  exprs_front : (es : Exprs) (k : List Sign) → Front (exprs_size es) k (exprs_signs es k)
  exprs_front no_exprs k = front_none k
  exprs_front (and_exprs e es) k = both (expr_front e (exprs_more es k)) (exprs_more_front es k)

  exprs_more_front : (es : Exprs) (k : List Sign) → Front (exprs_size es) k (exprs_more es k)
  exprs_more_front no_exprs k = front_none k
  exprs_more_front (and_exprs e es) k = wider (omega arith) (omega arith) (both (expr_front e (exprs_more es k)) (exprs_more_front es k))

  parts_front : (xs : Parts) (k : List Sign) → Front (parts_size xs) k (parts_signs xs k)
  parts_front no_parts k = front_none k
  parts_front (and_parts x xs) k = both (part_front x (parts_more xs k)) (parts_more_front xs k)

  parts_more_front : (xs : Parts) (k : List Sign) → Front (parts_size xs) k (parts_more xs k)
  parts_more_front no_parts k = front_none k
  parts_more_front (and_parts x xs) k = wider (omega arith) (omega arith) (both (part_front x (parts_more xs k)) (parts_more_front xs k))

  stmts_front : (begins : Bool) (ss : Stmts) (k : List Sign) → Front (stmts_size ss) k (stmts_signs begins ss k)
  stmts_front begins no_stmts k = front_none k
  stmts_front true (and_stmts s ss) k = wider (omega arith) (omega arith) (both (stmt_front s (stmts_signs (is_predicate s) ss k)) (stmts_front (is_predicate s) ss k))
  stmts_front false (and_stmts s ss) k = wider (omega arith) (omega arith) (both (stmt_front s (stmts_signs (is_predicate s) ss k)) (stmts_front (is_predicate s) ss k))

  stmt_front : (s : Stmt) (k : List Sign) → Front (stmt_size s) k (stmt_signs s k)
  stmt_front (Eval e) k = expr_front e k
  stmt_front (Predicate e) k = before_mark (omega arith) (expr_front e (Mark 63 ∷ k))
  stmt_front (Export q) k = before_mark (omega arith) (pattern_front q (Mark 8656 ∷ k))

  bodies_more_front : (bs : Bodies) (k : List Sign) → Front (bodies_size bs) k (bodies_more bs k)
  bodies_more_front no_bodies k = front_none k
  bodies_more_front (and_bodies b bs) k = let h : (body_size b + bodies_size bs) + least k ≤ least (body_signs b (bodies_more bs k)) = (both (body_front b (bodies_more bs k)) (bodies_more_front bs k)).holds in record { holds = omega arith }

  body_front : (b : BodyTree) (k : List Sign) → Front (body_size b) k (body_signs b k)
  body_front (body None ss) k = wider (omega arith) (omega arith) (both (front_none (stmts_signs true ss (Gap ∷ k))) (stmts_front true ss (Gap ∷ k)))
  body_front (body (Some h) ss) k = wider (omega arith) (omega arith) (both (header_front h (stmts_signs true ss (Gap ∷ k))) (stmts_front true ss (Gap ∷ k)))

-- what spells a program has as many tokens as it, or more
pub spelled_size : (ss : Stmts) (tokens : List Token) → Spells ss tokens → stmts_size ss ≤ length tokens
spelled_size ss tokens f =
    let p : stmts_size ss + least (Gap ∷ []) ≤ least (stmts_signs true ss (Gap ∷ [])) = (stmts_front true ss (Gap ∷ [])).holds in
    let q : least (stmts_signs true ss (Gap ∷ [])) ≤ length tokens = fit_least (stmts_signs true ss (Gap ∷ [])) tokens f in
    omega arith
