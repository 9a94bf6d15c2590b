-- Code that is pushed backward and turned round, and the statements of a body one after another.
use Rattle.std.proofs.Common.{◌≡◌, ℕ, Bool, false, ◌++◌, List, [], ◌∷◌, length, take, drop, reverse, refl, sym, ap, ◌∙◌, append_assoc}
use Rattle.std.proofs.lemmas.List.{append-nil, reverse-append, reverse-reverse}
use Rattle.std.proofs.Math.Seq.{take-append_seam, drop-append_seam}
use Rattle.bqn_syntax.specs.grammar.Trees.{Expr, Exprs, no_exprs, and_exprs, Parts, no_parts, and_parts, Stmt, Eval, Predicate, Export, Stmts, no_stmts, and_stmts, Pattern}
use Rattle.bqn_syntax.specs.scope.Bodies.{BodyNames}
use Rattle.bqn_code.specs.declared.instr.Instr.{Instr}
use Rattle.bqn_code.specs.declared.instr.Instr.TheVariants as i
use Rattle.bqn_code.specs.declared.code.Block.{Block}
use Rattle.bqn_compile.specs.declared.count.Count.{Count}
use Rattle.bqn_compile.specs.declared.walk.Walk.{Walk}
use Rattle.bqn_compile.specs.Counting.{past, nothing, in_expr, in_part, in_exprs, in_parts, in_stmt, in_stmts}
use Rattle.bqn_compile.specs.Expressions.{Setting, expr_code, part_code, exprs_code, parts_code}
use Rattle.bqn_compile.specs.Bodies.{stmts_code}
use Rattle.bqn_compile.specs.Blocks.{expr_blocks, part_blocks, exprs_blocks, parts_blocks, stmt_blocks, stmts_blocks}
use Rattle.bqn_compile.specs.Walking.{Walked, walked, onward, turned, append, ahead, behind, expr_behind, part_behind, exprs_behind, parts_behind, leaves_value, drop_code, own_code, ending, rest_code, stmt_behind, stmts_behind}
use Rattle.bqn_compile.proofs.Counts.{past-assoc, past-nothing}

-- ---- what is turned round

turned-code : (n : ℕ) (xs ys all : List Instr) → n ≡ length xs → all ≡ xs ++ ys → take n all ++ reverse (drop n all) ≡ xs ++ reverse ys
turned-code n xs ys all e p =
    (λ i. take (e i) (p i) ++ reverse (drop (e i) (p i)))
    ∙ ap (λ (zs : List Instr). zs ++ reverse (drop (length xs) (xs ++ ys))) (take-append_seam xs ys)
    ∙ ap (λ (zs : List Instr). xs ++ reverse zs) (drop-append_seam xs ys)

backward-code : (xs ys is : List Instr) → reverse ys ≡ is ++ reverse xs → ys ≡ xs ++ reverse is
backward-code xs ys is e = sym (reverse-reverse ys) ∙ ap reverse e ∙ reverse-append is (reverse xs) ∙ ap (λ (zs : List Instr). zs ++ reverse is) (reverse-reverse xs)

module _ (old mid new : Walk) (n : ℕ) (so : Count) (is : List Instr) (bs : List Block) where
  -- what is pushed backward, turned round
  pub onward-turned : n ≡ length old.code.items → walked mid ≡ ahead so is bs (walked old) → onward new ≡ turned n (onward mid) → onward new ≡ behind so is bs (onward old)
  unfolding walked onward turned ahead behind
  onward-turned e p q =
      q ∙ (λ j. record {
        at = ap (λ (w : Walked). w.at) p j;
        code = (turned-code n old.code.items (reverse is) mid.code.items e (backward-code old.code.items mid.code.items is (ap (λ (w : Walked). w.code) p)) ∙ ap (λ (zs : List Instr). old.code.items ++ zs) (reverse-reverse is)) j;
        blocks = ap (λ (w : Walked). w.blocks) p j;
      })

  -- and what is pushed onward
  pub walked-turned : n ≡ length old.code.items → onward mid ≡ behind so is bs (onward old) → onward new ≡ turned n (onward mid) → walked new ≡ ahead so is bs (walked old)
  unfolding walked onward turned ahead behind
  walked-turned e p q =
      λ j. record {
        at = (ap (λ (w : Walked). w.at) q ∙ ap (λ (w : Walked). w.at) p) j;
        code = (ap (λ (w : Walked). reverse w.code) q
            ∙ ap reverse (turned-code n old.code.items is mid.code.items e (ap (λ (w : Walked). w.code) p))
            ∙ reverse-append old.code.items (reverse is)
            ∙ ap (λ (zs : List Instr). zs ++ reverse old.code.items) (reverse-reverse is)) j;
        blocks = (ap (λ (w : Walked). w.blocks) q ∙ ap (λ (w : Walked). w.blocks) p) j;
      }

behind-behind : (so to : Count) (is js : List Instr) (bs cs : List Block) (w : Walked) → behind to js cs (behind so is bs w) ≡ behind (past so to) (is ++ js) (bs ++ cs) w
unfolding behind
behind-behind so to is js bs cs w = λ i. record { at = past-assoc w.at so to i; code = append_assoc w.code is js i; blocks = append_assoc w.blocks bs cs i }

nothing-behind : (w : Walked) → w ≡ behind nothing [] [] w
unfolding behind
nothing-behind w = λ i. record { at = sym (past-nothing w.at) i; code = sym (append-nil w.code) i; blocks = sym (append-nil w.blocks) i }

module _ (g : Setting) (names : List BodyNames) (inside : ℕ) where
  pub exprs-are-behind : (es : Exprs) (w : Walked) → exprs_behind g names inside es w ≡ behind (in_exprs es) (exprs_code g w.at es) (exprs_blocks g names inside es w.at) w
  unfolding behind expr_behind
  exprs-are-behind no_exprs w = nothing-behind w
  exprs-are-behind (and_exprs e es) w =
      exprs-are-behind es (expr_behind g names inside e w)
      ∙ behind-behind (in_expr e) (in_exprs es) (expr_code g w.at e) (exprs_code g (past w.at (in_expr e)) es) (expr_blocks g names inside e w.at) (exprs_blocks g names inside es (past w.at (in_expr e))) w

  pub parts-are-behind : (xs : Parts) (w : Walked) → parts_behind g names inside xs w ≡ behind (in_parts xs) (parts_code g w.at xs) (parts_blocks g names inside xs w.at) w
  unfolding behind part_behind
  parts-are-behind no_parts w = nothing-behind w
  parts-are-behind (and_parts x xs) w =
      parts-are-behind xs (part_behind g names inside x w)
      ∙ behind-behind (in_part x) (in_parts xs) (part_code g w.at x) (parts_code g (past w.at (in_part x)) xs) (part_blocks g names inside x w.at) (parts_blocks g names inside xs (past w.at (in_part x))) w

  -- ---- statements

  pub stmt-Eval : (left : Bool) (e : Expr) (w : Walked) → expr_behind g names inside e (append (drop_code left) w) ≡ stmt_behind g names inside left (Eval e) w
  unfolding behind expr_behind append stmt_behind
  stmt-Eval left e w = λ j. record { at = past w.at (in_expr e); code = append_assoc w.code (drop_code left) (expr_code g w.at e) j; blocks = w.blocks ++ expr_blocks g names inside e w.at }

  pub stmt-Predicate : (left : Bool) (e : Expr) (w : Walked) → append (i.Check ∷ []) (expr_behind g names inside e (append (drop_code left) w)) ≡ stmt_behind g names inside left (Predicate e) w
  unfolding behind expr_behind append stmt_behind
  stmt-Predicate left e w = λ j. record { at = past w.at (in_expr e); code = (append_assoc (w.code ++ drop_code left) (expr_code g w.at e) (i.Check ∷ []) ∙ append_assoc w.code (drop_code left) (expr_code g w.at e ++ i.Check ∷ [])) j; blocks = w.blocks ++ expr_blocks g names inside e w.at }

  pub stmt-Export : (left : Bool) (q : Pattern) (w : Walked) → append (drop_code left) w ≡ stmt_behind g names inside left (Export q) w
  unfolding behind append stmt_behind
  stmt-Export left q w = λ j. record { at = sym (past-nothing w.at) j; code = w.code ++ sym (append-nil (drop_code left)) j; blocks = sym (append-nil w.blocks) j }

  pub rest-false : (exports : Bool) (c : Count) (ss : Stmts) → rest_code g false exports c ss ≡ stmts_code g exports c ss
  rest-false exports c no_stmts = refl
  rest-false exports c (and_stmts s ss) = refl

  rest-next : (exports : Bool) (c : Count) (s : Stmt) (ss : Stmts) → own_code g s c ++ rest_code g (leaves_value s) exports (past c (in_stmt s)) ss ≡ stmts_code g exports c (and_stmts s ss)
  rest-next exports c (Eval e) no_stmts = refl
  rest-next exports c (Eval e) (and_stmts s ss) = refl
  rest-next exports c (Predicate e) ss = append_assoc (expr_code g c e) (i.Check ∷ []) (rest_code g false exports (past c (in_expr e)) ss) ∙ ap (λ (is : List Instr). expr_code g c e ++ i.Check ∷ is) (rest-false exports (past c (in_expr e)) ss)
  rest-next exports c (Export q) ss = rest-false exports (past c nothing) ss ∙ ap (λ (d : Count). stmts_code g exports d ss) (past-nothing c)

  pub stmts-next : (left exports : Bool) (s : Stmt) (ss : Stmts) (w : Walked) → stmts_behind g names inside (leaves_value s) exports ss (stmt_behind g names inside left s w) ≡ stmts_behind g names inside left exports (and_stmts s ss) w
  unfolding behind stmt_behind stmts_behind
  stmts-next left exports s ss w =
      behind-behind (in_stmt s) (in_stmts ss) (drop_code left ++ own_code g s w.at) (rest_code g (leaves_value s) exports (past w.at (in_stmt s)) ss) (stmt_blocks g names inside s w.at) (stmts_blocks g names inside ss (past w.at (in_stmt s))) w
      ∙ ap (λ (is : List Instr). behind (past (in_stmt s) (in_stmts ss)) is (stmt_blocks g names inside s w.at ++ stmts_blocks g names inside ss (past w.at (in_stmt s))) w)
      (append_assoc (drop_code left) (own_code g s w.at) (rest_code g (leaves_value s) exports (past w.at (in_stmt s)) ss) ∙ ap (λ (is : List Instr). drop_code left ++ is) (rest-next exports w.at s ss))

  pub stmts-end : (left exports : Bool) (w : Walked) → append (ending left exports) w ≡ stmts_behind g names inside left exports no_stmts w
  unfolding behind append stmts_behind
  stmts-end left exports w = λ j. record { at = sym (past-nothing w.at) j; code = w.code ++ ending left exports; blocks = sym (append-nil w.blocks) j }

pub ruleset stmt_laws = (stmt-Eval, stmt-Predicate, stmt-Export, stmts-next, stmts-end)
