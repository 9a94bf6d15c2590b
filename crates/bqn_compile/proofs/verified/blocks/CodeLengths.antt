-- The code of a well body is at most so many times as long as its tokens are many.
use Rattle.std.proofs.Common.{◌≤◌, ℕ, ◌+◌, ◌*◌, Bool, true, false, List, [], ◌∷◌, ◌++◌, length, Option, Some, None, arith, length-append}
use Rattle.bqn_syntax.specs.declared.token.Kind.{Kind}
use Rattle.bqn_syntax.specs.declared.token.Kind.TheVariants as kind
use Rattle.bqn_syntax.specs.declared.token.Token.{Token}
use Rattle.bqn_syntax.specs.declared.tree.Arrow.{Arrow}
use Rattle.bqn_syntax.specs.grammar.Trees.{Pattern, Name, Header, Expr, Value, Train, Modifier, Use, One, Two, Part, Leaf, Elements, Merge, Paren, Block, Field, Strand, Nothing, Step, Apply, Assign, Modify, Eval, Predicate, Export, block, body, Derived, derived, none, some, Exprs, no_exprs, and_exprs, Uses, no_uses, and_uses, Parts, no_parts, and_parts, Steps, no_steps, and_steps, Stmts, no_stmts, and_stmts, Deriveds, no_deriveds, and_deriveds}
use Rattle.bqn_syntax.specs.grammar.Well.{AreTwoParts, IsSome, WellExpr, WellPart, WellSteps, WellStep, WellDerived, WellUses, WellUse, WellDeriveds, WellExprs, WellParts, WellStmts}
use Rattle.bqn_syntax.specs.grammar.Classes.{Calls}
use Rattle.bqn_syntax.specs.scope.Scope.{Seen}
use Rattle.bqn_syntax.specs.scope.Scope as scope
use Rattle.bqn_syntax.specs.blocks.Exporting.{stmts_export}
use Rattle.bqn_syntax.specs.scope.Bodies.{BodyNames}
use Rattle.bqn_code.specs.declared.instr.Instr.{Instr}
use Rattle.bqn_code.specs.declared.instr.Instr.TheVariants as i
use Rattle.bqn_compile.specs.declared.count.Count.{Count}
use Rattle.bqn_compile.specs.declared.read.Read.{Read}
use Rattle.bqn_compile.specs.declared.read.Read.TheVariants as read
use Rattle.bqn_compile.specs.Counting.{past, in_token, in_targets, in_part, in_steps, in_derived, in_use, in_expr, in_header, in_argument, in_operand}
use Rattle.bqn_compile.specs.Pools.{seen_at}
use Rattle.bqn_compile.specs.Expressions.{Setting, fields_code, targets_code, parts_read, fork_code, atop_code, how_many_parts, derives, expr_code, part_code, steps_code, step_code, derived_code, uses_code, use_code, deriveds_code, exprs_code, parts_code}
use Rattle.bqn_compile.specs.Bodies.{named_argument_code, argument_code, name_code, operand_code, own_instr, header_code, end_code, last_code, stmts_code, body_code}
use Rattle.bqn_compile.proofs.verified.blocks.Sizes.{header_size, targets_size, fields_size, expr_size, part_size, steps_size, step_size, derived_size, uses_size, use_size, deriveds_size, exprs_size, parts_size, stmts_size, body_size}

fields_short : (names : List (List ℕ)) (ts : List Token) → length (fields_code names ts) ≤ fields_size ts
fields_short names [] = omega arith
fields_short names (t ∷ ts) = let h : length (fields_code names ts) ≤ fields_size ts = fields_short names ts in omega arith

targets_short : (g : Setting) (c : Count) (ts : List (Token × Arrow)) → length (targets_code g c ts) ≤ targets_size ts
targets_short g c [] = omega arith
targets_short g c (t ∷ ts) = let h : length (targets_code g (past c (in_token t.0)) ts) ≤ targets_size ts = targets_short g (past c (in_token t.0)) ts in simp length-append (omega arith)

fork_short : (r : Read) → length (fork_code r) ≤ 1
fork_short read.No = omega arith
fork_short read.One = omega arith
fork_short read.Two = omega arith

atop_short : (r : Read) → length (atop_code r) ≤ 1
atop_short read.No = omega arith
atop_short read.One = omega arith
atop_short read.Two = omega arith

two_parts : (xs : Parts) → AreTwoParts xs → 2 ≤ how_many_parts xs
two_parts no_parts w = elim w [ ]
two_parts (and_parts x no_parts) w = elim w [ ]
two_parts (and_parts x (and_parts y xs)) w = omega arith

-- some parts of a train have room for as much
abbrev room : Deriveds → ℕ
room no_deriveds = 0
room (and_deriveds d ds) = 6

some_room : (ds : Deriveds) → IsSome ds → 6 ≤ room ds
some_room no_deriveds w = elim w [ ]
some_room (and_deriveds d ds) w = omega arith

module _ (g : Setting) where
  mutual
    pub expr_short : (c : Count) (e : Expr) → WellExpr e → 4 + length (expr_code g c e) ≤ 8 * expr_size e
    expr_short c (Value none no_steps) w = elim w.0 [ ]
    expr_short c (Value none (and_steps (Apply d left) ss)) w = elim w.0 [ ]
    expr_short c (Value none (and_steps (Assign q a) ss)) w = elim w.0 [ ]
    expr_short c (Value none (and_steps (Modify t d) ss)) w =
        let at : Count = past c (in_steps ss) in
        let h : 7 + length (derived_code g (past at (in_token t)) d) ≤ 8 * derived_size d = derived_short (past at (in_token t)) d w.1.0.3 in
        let k : length (steps_code g c ss) ≤ 8 * steps_size ss = steps_short c ss w.1.1 in
        simp length-append (omega arith)
    expr_short c (Value (some x) ss) w =
        let h : 7 + length (part_code g (past c (in_steps ss)) x) ≤ 8 * part_size x = part_short (past c (in_steps ss)) x w.1 in
        let k : length (steps_code g c ss) ≤ 8 * steps_size ss = steps_short c ss w.2 in
        simp length-append (omega arith)
    expr_short c (Train targets ds) w =
        let r : 6 ≤ room ds = some_room ds w.1 in
        let h : room ds + length (deriveds_code g (past c (in_targets targets)) ds) ≤ 8 * deriveds_size ds = deriveds_short (past c (in_targets targets)) ds w.3 in
        let k : length (atop_code (parts_read ds)) ≤ 1 = atop_short (parts_read ds) in
        let l : length (targets_code g c targets) ≤ targets_size targets = targets_short g c targets in
        simp length-append (omega arith)
    expr_short c (Modifier targets x) w =
        let h : 7 + length (part_code g (past c (in_targets targets)) x) ≤ 8 * part_size x = part_short (past c (in_targets targets)) x w.2 in
        let l : length (targets_code g c targets) ≤ targets_size targets = targets_short g c targets in
        simp length-append (omega arith)

    part_short : (c : Count) (x : Part) → WellPart x → 7 + length (part_code g c x) ≤ 8 * part_size x
    part_short c (Leaf t) w = omega arith
    part_short c (Elements es) w = let h : length (exprs_code g c es) ≤ 8 * exprs_size es = exprs_short c es w in simp length-append (omega arith)
    part_short c (Merge es) w = let h : length (exprs_code g c es) ≤ 8 * exprs_size es = exprs_short c es w.1 in simp length-append (omega arith)
    part_short c (Paren e) w = let h : 4 + length (expr_code g c e) ≤ 8 * expr_size e = expr_short c e w in omega arith
    part_short c (Block (block place kind bs)) w = omega arith
    part_short c (Field base names) w =
        let h : 7 + length (part_code g c base) ≤ 8 * part_size base = part_short c base w.2 in
        let k : length (fields_code g.names names) ≤ fields_size names = fields_short g.names names in
        simp length-append (omega arith)
    part_short c (Strand xs) w =
        let r : 2 ≤ how_many_parts xs = two_parts xs w.0 in
        let h : 7 * how_many_parts xs + length (parts_code g c xs) ≤ 8 * parts_size xs = parts_short c xs w.1 in
        simp length-append (omega arith)
    part_short c (Nothing place) w = omega arith

    steps_short : (c : Count) (ss : Steps) → WellSteps ss → length (steps_code g c ss) ≤ 8 * steps_size ss
    steps_short c no_steps w = omega arith
    steps_short c (and_steps s ss) w =
        let h : length (step_code g (past c (in_steps ss)) s) ≤ 8 * step_size s = step_short (past c (in_steps ss)) s w.0 in
        let k : length (steps_code g c ss) ≤ 8 * steps_size ss = steps_short c ss w.1 in
        simp length-append (omega arith)

    step_short : (c : Count) (s : Step) → WellStep s → length (step_code g c s) ≤ 8 * step_size s
    step_short c (Apply d none) w = let h : 7 + length (derived_code g c d) ≤ 8 * derived_size d = derived_short c d w.1 in simp length-append (omega arith)
    step_short c (Apply d (some x)) w =
        let h : 7 + length (derived_code g (past c (in_part x)) d) ≤ 8 * derived_size d = derived_short (past c (in_part x)) d w.1 in
        let k : 7 + length (part_code g c x) ≤ 8 * part_size x = part_short c x w.3 in
        simp length-append (omega arith)
    step_short c (Assign q a) w = omega arith
    step_short c (Modify t d) w = let h : 7 + length (derived_code g (past c (in_token t)) d) ≤ 8 * derived_size d = derived_short (past c (in_token t)) d w.3 in simp length-append (omega arith)

    derived_short : (c : Count) (d : Derived) → WellDerived d → 7 + length (derived_code g c d) ≤ 8 * derived_size d
    derived_short c (derived x us) w =
        let h : 7 + length (part_code g c x) ≤ 8 * part_size x = part_short c x w.0 in
        let k : length (derives us) + length (uses_code g (past c (in_part x)) us) ≤ 8 * uses_size us = uses_short (past c (in_part x)) us w.1 in
        simp length-append (omega arith)

    uses_short : (c : Count) (us : Uses) → WellUses us → length (derives us) + length (uses_code g c us) ≤ 8 * uses_size us
    uses_short c no_uses w = omega arith
    uses_short c (and_uses u us) w =
        let h : 1 + length (use_code g c u) ≤ 8 * use_size u = use_short c u w.0 in
        let k : length (derives us) + length (uses_code g (past c (in_use u)) us) ≤ 8 * uses_size us = uses_short (past c (in_use u)) us w.1 in
        simp length-append (omega arith)

    use_short : (c : Count) (u : Use) → WellUse u → 1 + length (use_code g c u) ≤ 8 * use_size u
    use_short c (One m) w = let h : 7 + length (part_code g c m) ≤ 8 * part_size m = part_short c m w in omega arith
    use_short c (Two m x) w =
        let h : 7 + length (part_code g c m) ≤ 8 * part_size m = part_short c m w.0 in
        let k : 7 + length (part_code g (past c (in_part m)) x) ≤ 8 * part_size x = part_short (past c (in_part m)) x w.1 in
        simp length-append (omega arith)

    deriveds_short : (c : Count) (ds : Deriveds) → WellDeriveds ds → room ds + length (deriveds_code g c ds) ≤ 8 * deriveds_size ds
    deriveds_short c no_deriveds w = omega arith
    deriveds_short c (and_deriveds d ds) w =
        let h : 7 + length (derived_code g c d) ≤ 8 * derived_size d = derived_short c d w.0 in
        let k : room ds + length (deriveds_code g (past c (in_derived d)) ds) ≤ 8 * deriveds_size ds = deriveds_short (past c (in_derived d)) ds w.1 in
        let l : length (fork_code (parts_read ds)) ≤ 1 = fork_short (parts_read ds) in
        simp length-append (omega arith)

    exprs_short : (c : Count) (es : Exprs) → WellExprs es → length (exprs_code g c es) ≤ 8 * exprs_size es
    exprs_short c no_exprs w = omega arith
    exprs_short c (and_exprs e es) w =
        let h : 4 + length (expr_code g c e) ≤ 8 * expr_size e = expr_short c e w.0 in
        let k : length (exprs_code g (past c (in_expr e)) es) ≤ 8 * exprs_size es = exprs_short (past c (in_expr e)) es w.1 in
        simp length-append (omega arith)

    parts_short : (c : Count) (xs : Parts) → WellParts xs → 7 * how_many_parts xs + length (parts_code g c xs) ≤ 8 * parts_size xs
    parts_short c no_parts w = omega arith
    parts_short c (and_parts x xs) w =
        let h : 7 + length (part_code g c x) ≤ 8 * part_size x = part_short c x w.1 in
        let k : 7 * how_many_parts xs + length (parts_code g (past c (in_part x)) xs) ≤ 8 * parts_size xs = parts_short (past c (in_part x)) xs w.2 in
        simp length-append (omega arith)

-- ---- bodies

end_short : (exports : Bool) → length (end_code exports) ≤ 2
end_short true = omega arith
end_short false = omega arith

last_short : (exports : Bool) → length (last_code exports) ≤ 2
last_short true = omega arith
last_short false = omega arith

stmts_short : (g : Setting) (exports in_block : Bool) (c : Count) (ss : Stmts) → WellStmts in_block ss → length (stmts_code g exports c ss) ≤ 8 * stmts_size ss + 2
stmts_short g exports in_block c no_stmts w = let h : length (end_code exports) ≤ 2 = end_short exports in omega arith
stmts_short g exports in_block c (and_stmts (Eval e) no_stmts) w =
    let h : 4 + length (expr_code g c e) ≤ 8 * expr_size e = expr_short g c e w.0 in
    let k : length (last_code exports) ≤ 2 = last_short exports in
    simp length-append (omega arith)
stmts_short g exports in_block c (and_stmts (Eval e) (and_stmts s ss)) w =
    let h : 4 + length (expr_code g c e) ≤ 8 * expr_size e = expr_short g c e w.0 in
    let k : length (stmts_code g exports (past c (in_expr e)) (and_stmts s ss)) ≤ 8 * stmts_size (and_stmts s ss) + 2 = stmts_short g exports in_block (past c (in_expr e)) (and_stmts s ss) w.1 in
    simp length-append (omega arith)
stmts_short g exports in_block c (and_stmts (Predicate e) ss) w =
    let h : 4 + length (expr_code g c e) ≤ 8 * expr_size e = expr_short g c e w.0.2 in
    let k : length (stmts_code g exports (past c (in_expr e)) ss) ≤ 8 * stmts_size ss + 2 = stmts_short g exports in_block (past c (in_expr e)) ss w.1 in
    simp length-append (omega arith)
stmts_short g exports in_block c (and_stmts (Export q) ss) w =
    let k : length (stmts_code g exports c ss) ≤ 8 * stmts_size ss + 2 = stmts_short g exports in_block c ss w.1 in
    omega arith

named_argument_short : (k : Kind) (push : Instr) (p : ℕ) → length (named_argument_code k push p) ≤ 2
named_argument_short (kind.Special s r) push p = omega arith
named_argument_short _ push p = omega arith

argument_short : (push : Instr) (p : ℕ) (q : Option Pattern) → length (argument_code push p q) ≤ 2
argument_short push p None = omega arith
argument_short push p (Some (Name t)) = named_argument_short t.kind push p
argument_short push p (Some _) = omega arith

name_short : (push : Instr) (at : Seen) (k : Kind) → length (name_code push at k) ≤ 3
name_short push at (kind.Word name r) = omega arith
name_short push at _ = omega arith

operand_short : (push : Instr) (at : Seen) (t : Option Token) → length (operand_code push at t) ≤ 3
operand_short push at None = omega arith
operand_short push at (Some t) = name_short push at t.kind

five : (a b c d e : List Instr) → length a ≤ 2 → length b ≤ 3 → length c ≤ 3 → length d ≤ 3 → length e ≤ 2 → length (a ++ b ++ c ++ d ++ e) ≤ 13
five a b c d e p q r s t = simp length-append (omega arith)

header_short : (uses : List scope.Use) (c : Count) (h : Option Header) → length (header_code uses c h) ≤ 8 * header_size h
header_short uses c None = omega arith
header_short uses c (Some h) =
    let at_operand : Count = past c (in_argument h.left) in
    let at_own : Count = past at_operand (in_operand h.left_operand) in
    let at_right_operand : Count = past at_own (in_token h.own) in
    let at_right : Count = past at_right_operand (in_operand h.right_operand) in
    let k : length (header_code uses c (Some h)) ≤ 13 =
    five (argument_code i.Left c.patterns h.left) (operand_code i.LeftOperand (seen_at uses at_operand.uses) h.left_operand) (name_code (own_instr h.own.kind) (seen_at uses at_own.uses) h.own.kind) (operand_code i.RightOperand (seen_at uses at_right_operand.uses) h.right_operand) (argument_code i.Right at_right.patterns h.right)
    (argument_short i.Left c.patterns h.left)
    (operand_short i.LeftOperand (seen_at uses at_operand.uses) h.left_operand)
    (name_short (own_instr h.own.kind) (seen_at uses at_own.uses) h.own.kind)
    (operand_short i.RightOperand (seen_at uses at_right_operand.uses) h.right_operand)
    (argument_short i.Right at_right.patterns h.right) in
    omega arith

pub body_short : (g : Setting) (own : BodyNames) (calls : Calls) (c : Count) (in_block : Bool) (h : Option Header) (ss : Stmts) → WellStmts in_block ss → length (body_code g own calls c (body h ss)).code ≤ 8 * body_size (body h ss) + 2
body_short g own calls c in_block h ss w =
    let p : length (header_code g.uses c h) ≤ 8 * header_size h = header_short g.uses c h in
    let q : length (stmts_code g (stmts_export ss) (past c (in_header h)) ss) ≤ 8 * stmts_size ss + 2 = stmts_short g (stmts_export ss) in_block (past c (in_header h)) ss w in
    simp length-append (omega arith)
