-- A body exports no more names than the program has tokens.
use Rattle.std.proofs.Common.{◌≡◌, ◌≤◌, ℕ, zero, suc, ◌+◌, Bool, true, false, if◌then◌else◌, List, [], ◌∷◌, ◌++◌, length, map, slice_get, Option, Some, None, Result, Ok, Err, ap, subst, arith, length-append}
use Rattle.bqn_base.specs.declared.refusal.Refusal.{Refusal}
use Rattle.bqn_syntax.specs.declared.token.Kind.{Kind}
use Rattle.bqn_syntax.specs.declared.token.Kind.TheVariants as kind
use Rattle.bqn_syntax.specs.declared.token.Token.{Token}
use Rattle.bqn_syntax.specs.declared.tree.Arrow.{Arrow}
use Rattle.bqn_syntax.specs.grammar.Trees.{Pattern, Name, Skip, Literal, ListPattern, StrandPattern, Patterns, no_patterns, and_patterns, Header, Expr, Value, Train, Modifier, Use, One, Two, Part, Leaf, Elements, Merge, Paren, Block, Field, Strand, Nothing, Step, Apply, Assign, Modify, Stmt, Eval, Predicate, Export, BlockTree, block, BodyTree, body, Derived, derived, MaybePart, none, some, Exprs, no_exprs, and_exprs, Uses, no_uses, and_uses, Parts, no_parts, and_parts, Steps, no_steps, and_steps, Stmts, no_stmts, and_stmts, Bodies, no_bodies, and_bodies, Deriveds, no_deriveds, and_deriveds}
use Rattle.bqn_syntax.specs.scope.Order.{How, Reads, Defines, Changes, Shows, by_arrow, order_of}
use Rattle.bqn_syntax.specs.scope.Mentions.{Mention, Named, Special, System, Inner, Mentions, no_mentions, and_mentions, Scopes, no_scopes, and_scopes, leaf_mention, pattern_mentions, patterns_mentions, token_mentions, argument_mentions, header_mentions, target_mentions, expr_mentions, part_mentions, block_mention, maybe_mentions, steps_mentions, step_mentions, derived_mentions, uses_mentions, use_mentions, deriveds_mentions, exprs_mentions, parts_mentions, stmt_mentions, stmts_mentions, scopes_of, body_scope}
use Rattle.bqn_syntax.specs.scope.Scope.{Use as ScopeUse, block_scope, top_scope, names_of, name_of, has, place_of, resolved}
use Rattle.bqn_syntax.specs.scope.Bodies.{BodyNames, exports_it, at_slot, exports_of, body_names, of_block, inside, inside_mention, inside_block, bodies_of, Resolution, with_bodies, resolution}
use Rattle.bqn_compile.specs.Bodies.{names_in}
use Rattle.bqn_compile.proofs.verified.blocks.Sizes.{pattern_size, patterns_size, token_size, argument_size, header_size, targets_size, expr_size, part_size, block_size, maybe_size, steps_size, step_size, derived_size, uses_size, use_size, deriveds_size, exprs_size, parts_size, stmts_size, stmt_size, bodies_size, body_size}

-- ---- mentions of a tree

-- how many names are mentioned, with those in blocks
abbrev mutual
  many : Mentions → ℕ
  many no_mentions = 0
  many (and_mentions m ms) = many_of m + many ms

  many_of : Mention → ℕ
  many_of (Inner bodies) = many_inside bodies
  many_of _ = 1

  many_inside : Scopes → ℕ
  many_inside no_scopes = 0
  many_inside (and_scopes ms order bodies) = many ms + many_inside bodies

-- at most so many are mentioned in front of these
record Front (n : ℕ) (k s : Mentions) : Type 0 where
  holds : many s ≤ n + many k

front_none : (n : ℕ) (k : Mentions) → Front n k k
front_none n k = record { holds = omega arith }

both : {a b : ℕ} {k m s : Mentions} → Front a m s → Front b k m → Front (a + b) k s
both {a} {b} {k} {m} {s} f g = let p : many s ≤ a + many m = f.holds in let q : many m ≤ b + many k = g.holds in record { holds = omega arith }

within : {a b : ℕ} {k s : Mentions} → a ≤ b → Front a k s → Front b k s
within {a} {b} {k} {s} l f = let p : many s ≤ a + many k = f.holds in record { holds = omega arith }

leaf_front : (how : How) (c : Kind) (t : Token) (k : Mentions) → Front 1 k (leaf_mention how c t k)
leaf_front how (kind.Word name r) t k = record { holds = omega arith }
leaf_front how (kind.Special s r) t k = record { holds = omega arith }
leaf_front how (kind.System name r) t k = record { holds = omega arith }
leaf_front how _ t k = front_none 1 k

mutual
  pattern_front : (how : How) (q : Pattern) (k : Mentions) → Front (pattern_size q) k (pattern_mentions how q k)
  pattern_front how (Name t) k = leaf_front how t.kind t k
  pattern_front how (Skip place) k = front_none 1 k
  pattern_front how (Literal t) k = front_none 1 k
  pattern_front how (ListPattern qs) k = within (omega arith) (patterns_front how qs k)
  pattern_front how (StrandPattern qs) k = patterns_front how qs k

  patterns_front : (how : How) (qs : Patterns) (k : Mentions) → Front (patterns_size qs) k (patterns_mentions how qs k)
  patterns_front how no_patterns k = front_none 0 k
  patterns_front how (and_patterns q qs) k = both (pattern_front how q (patterns_mentions how qs k)) (patterns_front how qs k)

token_front : (how : How) (t : Option Token) (k : Mentions) → Front (token_size t) k (token_mentions how t k)
token_front how None k = front_none 0 k
token_front how (Some t) k = leaf_front how t.kind t k

argument_front : (q : Option Pattern) (k : Mentions) → Front (argument_size q) k (argument_mentions q k)
argument_front None k = front_none 0 k
argument_front (Some q) k = pattern_front Defines q k

header_front : (h : Option Header) (k : Mentions) → Front (header_size h) k (header_mentions h k)
header_front None k = front_none 0 k
header_front (Some h) k =
    let right : Mentions = argument_mentions h.right k in
    let operand : Mentions = token_mentions Defines h.right_operand right in
    let own : Mentions = leaf_mention Defines h.own.kind h.own operand in
    both (argument_front h.left (token_mentions Defines h.left_operand own))
    (both (token_front Defines h.left_operand own)
    (both (leaf_front Defines h.own.kind h.own operand)
    (both (token_front Defines h.right_operand right)
    (within (omega arith) (argument_front h.right k)))))

targets_front : (ts : List (Token × Arrow)) (k : Mentions) → Front (targets_size ts) k (target_mentions ts k)
targets_front [] k = front_none 0 k
targets_front (t ∷ ts) k = within (omega arith) (both (leaf_front (by_arrow t.1) t.0.kind t.0 (target_mentions ts k)) (targets_front ts k))

mutual
  expr_front : (e : Expr) (k : Mentions) → Front (expr_size e) k (expr_mentions e k)
  expr_front (Value last ss) k = both (steps_front ss (maybe_mentions last k)) (maybe_front last k)
  expr_front (Train targets ds) k = both (targets_front targets (deriveds_mentions ds k)) (deriveds_front ds k)
  expr_front (Modifier targets x) k = both (targets_front targets (part_mentions x k)) (part_front x k)

  part_front : (x : Part) (k : Mentions) → Front (part_size x) k (part_mentions x k)
  part_front (Leaf t) k = leaf_front Reads t.kind t k
  part_front (Elements es) k = within (omega arith) (exprs_front es k)
  part_front (Merge es) k = within (omega arith) (exprs_front es k)
  part_front (Paren e) k = within (omega arith) (expr_front e k)
  part_front (Block b) k = block_front b k
  part_front (Field base names) k = within (omega arith) (part_front base k)
  part_front (Strand ps) k = parts_front ps k
  part_front (Nothing place) k = front_none 1 k

  block_front : (b : BlockTree) (k : Mentions) → Front (block_size b) k (block_mention b k)
  block_front (block place c bs) k = let h : many_inside (scopes_of bs) ≤ bodies_size bs = bodies_inside bs in record { holds = omega arith }

  maybe_front : (x : MaybePart) (k : Mentions) → Front (maybe_size x) k (maybe_mentions x k)
  maybe_front none k = front_none 0 k
  maybe_front (some x) k = part_front x k

  steps_front : (ss : Steps) (k : Mentions) → Front (steps_size ss) k (steps_mentions ss k)
  steps_front no_steps k = front_none 0 k
  steps_front (and_steps s ss) k = both (steps_front ss (step_mentions s k)) (step_front s k)

  step_front : (s : Step) (k : Mentions) → Front (step_size s) k (step_mentions s k)
  step_front (Apply d left) k = both (maybe_front left (derived_mentions d k)) (derived_front d k)
  step_front (Assign q a) k = within (omega arith) (pattern_front (by_arrow a) q k)
  step_front (Modify t d) k = within (omega arith) (both (leaf_front Changes t.kind t (derived_mentions d k)) (derived_front d k))

  derived_front : (d : Derived) (k : Mentions) → Front (derived_size d) k (derived_mentions d k)
  derived_front (derived x us) k = both (part_front x (uses_mentions us k)) (uses_front us k)

  uses_front : (us : Uses) (k : Mentions) → Front (uses_size us) k (uses_mentions us k)
  uses_front no_uses k = front_none 0 k
  uses_front (and_uses u us) k = both (use_front u (uses_mentions us k)) (uses_front us k)

  use_front : (u : Use) (k : Mentions) → Front (use_size u) k (use_mentions u k)
  use_front (One m) k = part_front m k
  use_front (Two m x) k = both (part_front m (part_mentions x k)) (part_front x k)

  deriveds_front : (ds : Deriveds) (k : Mentions) → Front (deriveds_size ds) k (deriveds_mentions ds k)
  deriveds_front no_deriveds k = front_none 0 k
  deriveds_front (and_deriveds d ds) k = both (derived_front d (deriveds_mentions ds k)) (deriveds_front ds k)

  exprs_front : (es : Exprs) (k : Mentions) → Front (exprs_size es) k (exprs_mentions es k)
  exprs_front no_exprs k = front_none 0 k
  exprs_front (and_exprs e es) k = both (expr_front e (exprs_mentions es k)) (exprs_front es k)

  parts_front : (xs : Parts) (k : Mentions) → Front (parts_size xs) k (parts_mentions xs k)
  parts_front no_parts k = front_none 0 k
  parts_front (and_parts x xs) k = both (part_front x (parts_mentions xs k)) (parts_front xs k)

  stmts_front : (ss : Stmts) (k : Mentions) → Front (stmts_size ss) k (stmts_mentions ss k)
  stmts_front no_stmts k = front_none 0 k
  stmts_front (and_stmts s ss) k = both (stmt_front s (stmts_mentions ss k)) (stmts_front ss k)

  stmt_front : (s : Stmt) (k : Mentions) → Front (stmt_size s) k (stmt_mentions s k)
  stmt_front (Eval e) k = expr_front e k
  stmt_front (Predicate e) k = within (omega arith) (expr_front e k)
  stmt_front (Export q) k = within (omega arith) (pattern_front Shows q k)

  bodies_inside : (bs : Bodies) → many_inside (scopes_of bs) ≤ bodies_size bs
  bodies_inside no_bodies = omega arith
  bodies_inside (and_bodies b bs) =
      let h : many_inside (body_scope b (scopes_of bs)) ≤ body_size b + many_inside (scopes_of bs) = body_inside b (scopes_of bs) in
      let k : many_inside (scopes_of bs) ≤ bodies_size bs = bodies_inside bs in
      omega arith

  body_inside : (b : BodyTree) (others : Scopes) → many_inside (body_scope b others) ≤ body_size b + many_inside others
  body_inside (body h ss) others =
      let p : many (header_mentions h (stmts_mentions ss no_mentions)) ≤ (header_size h + stmts_size ss) + many no_mentions =
      (both (header_front h (stmts_mentions ss no_mentions)) (stmts_front ss no_mentions)).holds in
      omega arith

-- ---- exports of mentions

chosen : (b : Bool) (xs ys : List (List ℕ × ℕ)) (n : ℕ) → length xs ≤ n → length ys ≤ n → length (if b then xs else ys) ≤ n
chosen true xs ys n p q = p
chosen false xs ys n p q = q

slot_long : (name : List ℕ) (o : Option ℕ) (found : List (List ℕ × ℕ)) → length (at_slot name o found) ≤ suc (length found)
slot_long name None found = omega arith
slot_long name (Some slot) found = simp length-append (omega arith)

exports_long : (names : List (List ℕ)) (ms : Mentions) (found : List (List ℕ × ℕ)) → length (exports_of names ms found) ≤ length found + many ms
exports_long names no_mentions found = omega arith
exports_long names (and_mentions (Named how t) ms) found =
    let more : List (List ℕ × ℕ) = at_slot (name_of t) (place_of names (name_of t)) found in
    let p : length (exports_of names ms found) ≤ length found + many ms = exports_long names ms found in
    let q : length (exports_of names ms more) ≤ length more + many ms = exports_long names ms more in
    let r : length more ≤ suc (length found) = slot_long (name_of t) (place_of names (name_of t)) found in
    chosen (exports_it how) (if has (map (λ e. e.0) found) (name_of t) then exports_of names ms found else exports_of names ms more) (exports_of names ms found) (length found + (1 + many ms))
    (chosen (has (map (λ e. e.0) found) (name_of t)) (exports_of names ms found) (exports_of names ms more) (length found + (1 + many ms)) (omega arith) (omega arith))
    (omega arith)
exports_long names (and_mentions (Special t) ms) found = let p : length (exports_of names ms found) ≤ length found + many ms = exports_long names ms found in omega arith
exports_long names (and_mentions (System t) ms) found = let p : length (exports_of names ms found) ≤ length found + many ms = exports_long names ms found in omega arith
exports_long names (and_mentions (Inner bodies) ms) found = let p : length (exports_of names ms found) ≤ length found + many ms = exports_long names ms found in omega arith

-- each of these exports at most so many names
abbrev Few : ℕ → List BodyNames → Type 0
Few n [] = Unit {0}
Few n (x ∷ xs) = (length x.exports ≤ n) × Few n xs

few_append : (n : ℕ) (xs ys : List BodyNames) → Few n xs → Few n ys → Few n (xs ++ ys)
few_append n [] ys h k = k
few_append n (x ∷ xs) ys h k = (h.0, few_append n xs ys h.1 k)

few_in : (n : ℕ) (xs : List BodyNames) (k : ℕ) → Few n xs → length (names_in (slice_get xs k)).exports ≤ n
few_in n [] k h = omega arith
few_in n (x ∷ xs) zero h = h.0
few_in n (x ∷ xs) (suc k) h = few_in n xs k h.1

of_block_few : (n parent : ℕ) (bodies : Scopes) → many_inside bodies ≤ n → Few n (of_block parent bodies)
of_block_few n parent no_scopes l = tt
of_block_few n parent (and_scopes ms order bodies) l =
    let p : length (exports_of (names_of (block_scope ms order)) ms []) ≤ 0 + many ms = exports_long (names_of (block_scope ms order)) ms [] in
    (omega arith, of_block_few n parent bodies (omega arith))

mutual
  inside_few : (n number : ℕ) (ms : Mentions) (found : List BodyNames) → many ms ≤ n → Few n found → Few n (inside number ms found)
  inside_few n number no_mentions found l h = h
  inside_few n number (and_mentions m ms) found l h = inside_few n number ms (inside_mention number m found) (omega arith) (mention_few n number m found (omega arith) h)

  mention_few : (n number : ℕ) (m : Mention) (found : List BodyNames) → many_of m ≤ n → Few n found → Few n (inside_mention number m found)
  mention_few n number (Inner bodies) found l h = block_few n (length found) bodies (found ++ of_block number bodies) l (few_append n found (of_block number bodies) h (of_block_few n number bodies l))
  mention_few n number (Named how t) found l h = h
  mention_few n number (Special t) found l h = h
  mention_few n number (System t) found l h = h

  block_few : (n number : ℕ) (bodies : Scopes) (found : List BodyNames) → many_inside bodies ≤ n → Few n found → Few n (inside_block number bodies found)
  block_few n number no_scopes found l h = h
  block_few n number (and_scopes ms order bodies) found l h = block_few n (number + 1) bodies (inside number ms found) (omega arith) (inside_few n number ms found (omega arith) h)

bodies_few : (outer : List (List ℕ)) (ss : Stmts) → Few (stmts_size ss) (bodies_of outer ss)
bodies_few outer ss =
    let ms : Mentions = stmts_mentions ss no_mentions in
    let names : List (List ℕ) = names_of (top_scope outer ms (order_of None ss)) in
    let p : many ms ≤ stmts_size ss + many no_mentions = (stmts_front ss no_mentions).holds in
    let q : length (exports_of names ms []) ≤ 0 + many ms = exports_long names ms [] in
    inside_few (stmts_size ss) 0 ms (body_names (length outer) (top_scope outer ms (order_of None ss)) ms ∷ []) (omega arith) (omega arith, tt)

resolved_bodies : (bodies : List BodyNames) (o : Result (List ScopeUse) Refusal) (r : Resolution) → with_bodies bodies o ≡ Ok r → bodies ≡ r.bodies
resolved_bodies bodies (Ok uses) r q = let p : record { bodies = bodies; uses = uses } ≡ r = cc in ap (λ (x : Resolution). x.bodies) p
resolved_bodies bodies (Err e) r q = absurd (cc)

-- the names of each body export at most as many as the program has tokens
pub few_exports : (outer : List (List ℕ)) (ss : Stmts) (r : Resolution) (k : ℕ) → resolution outer ss ≡ Ok r → length (names_in (slice_get r.bodies k)).exports ≤ stmts_size ss
few_exports outer ss r k q = few_in (stmts_size ss) r.bodies k (subst (λ (xs : List BodyNames). Few (stmts_size ss) xs) (resolved_bodies (bodies_of outer ss) (resolved outer ss) r q) (bodies_few outer ss))
