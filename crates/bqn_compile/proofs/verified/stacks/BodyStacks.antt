-- The code of a body leaves nothing on the stack but its value.
use Rattle.std.proofs.Common.{◌≡◌, ℕ, Bool, true, false, List, [], ◌∷◌, Option, Some, None, arith, refl, ◌∙◌}
use Rattle.bqn_base.specs.declared.role.Role.TheVariants as role
use Rattle.bqn_syntax.specs.declared.token.Kind.{Kind}
use Rattle.bqn_syntax.specs.declared.token.Kind.TheVariants as kind
use Rattle.bqn_syntax.specs.declared.token.Token.{Token}
use Rattle.bqn_syntax.specs.grammar.Trees.{Pattern, Name, Skip, Literal, ListPattern, StrandPattern, Header, Eval, Predicate, Export, BodyTree, body, Stmts, no_stmts, and_stmts}
use Rattle.bqn_syntax.specs.grammar.Classes.{Calls}
use Rattle.bqn_syntax.specs.blocks.Exporting.{stmts_export}
use Rattle.bqn_syntax.specs.scope.Scope.{Seen, Use as NameUse}
use Rattle.bqn_syntax.specs.scope.Bodies.{BodyNames}
use Rattle.bqn_syntax.specs.grammar.Well.{WellStmts, WellBody}
use Rattle.bqn_code.specs.declared.instr.Instr.{Instr}
use Rattle.bqn_code.specs.declared.instr.Instr.TheVariants as i
use Rattle.bqn_code.specs.Heights.{is_balanced}
use Rattle.bqn_compile.specs.declared.count.Count.{Count}
use Rattle.bqn_compile.specs.Counting.{past, in_argument, in_operand, in_token, in_header, in_stmt}
use Rattle.bqn_compile.specs.Pools.{seen_at}
use Rattle.bqn_compile.specs.Expressions.{Setting}
use Rattle.bqn_compile.specs.Bodies.{named_argument_code, argument_code, name_code, operand_code, own_instr, header_code, end_code, last_code, stmts_code, body_code}
use Rattle.bqn_compile.proofs.verified.stacks.Stacks.{Turns, turns_none, turns_one, turns_append, pushes, keeps, expr_turns}

-- ---- headers

pop_turns : Turns 1 0 (i.Pop ∷ [])
pop_turns = turns_one i.Pop 1 0 refl (omega arith) refl

check_turns : Turns 1 0 (i.Check ∷ [])
check_turns = turns_one i.Check 1 0 refl (omega arith) refl

match_turns : (p : ℕ) {x : Instr} → Turns 0 1 (x ∷ []) → Turns 0 0 (x ∷ i.Match p ∷ [])
match_turns p t = turns_append t (turns_one (i.Match p) 1 0 refl (omega arith) refl)

named_argument_turns : (k : Kind) (x : Instr) (p : ℕ) → Turns 0 1 (x ∷ []) → Turns 0 0 (named_argument_code k x p)
named_argument_turns (kind.Special s r) x p t = turns_none 0
named_argument_turns (kind.Number z) x p t = match_turns p t
named_argument_turns (kind.Char c) x p t = match_turns p t
named_argument_turns (kind.Text cs) x p t = match_turns p t
named_argument_turns (kind.Word name r) x p t = match_turns p t
named_argument_turns (kind.System name r) x p t = match_turns p t
named_argument_turns (kind.Given code) x p t = match_turns p t
named_argument_turns (kind.Punct c) x p t = match_turns p t

argument_turns : (x : Instr) (p : ℕ) (q : Option Pattern) → Turns 0 1 (x ∷ []) → Turns 0 0 (argument_code x p q)
argument_turns x p None t = turns_none 0
argument_turns x p (Some (Name n)) t = named_argument_turns n.kind x p t
argument_turns x p (Some (Skip place)) t = match_turns p t
argument_turns x p (Some (Literal l)) t = match_turns p t
argument_turns x p (Some (ListPattern qs)) t = match_turns p t
argument_turns x p (Some (StrandPattern qs)) t = match_turns p t

name_turns : (x : Instr) (at : Seen) (k : Kind) → Turns 0 1 (x ∷ []) → Turns 0 0 (name_code x at k)
name_turns x at (kind.Word name r) t = turns_append t (turns_append (keeps (i.Define at.slot) refl refl refl) pop_turns)
name_turns x at (kind.Number z) t = turns_none 0
name_turns x at (kind.Char c) t = turns_none 0
name_turns x at (kind.Text cs) t = turns_none 0
name_turns x at (kind.System name r) t = turns_none 0
name_turns x at (kind.Special s r) t = turns_none 0
name_turns x at (kind.Given code) t = turns_none 0
name_turns x at (kind.Punct c) t = turns_none 0

operand_turns : (x : Instr) (at : Seen) (o : Option Token) → Turns 0 1 (x ∷ []) → Turns 0 0 (operand_code x at o)
operand_turns x at None t = turns_none 0
operand_turns x at (Some n) t = name_turns x at n.kind t

own_turns : (k : Kind) → Turns 0 1 (own_instr k ∷ [])
own_turns (kind.Word name role.Mod1) = pushes i.Modifier refl refl refl
own_turns (kind.Word name role.Mod2) = pushes i.Modifier refl refl refl
own_turns (kind.Word name role.Function) = pushes i.Own refl refl refl
own_turns (kind.Word name role.Subject) = pushes i.Own refl refl refl
own_turns (kind.Number z) = pushes i.Own refl refl refl
own_turns (kind.Char c) = pushes i.Own refl refl refl
own_turns (kind.Text cs) = pushes i.Own refl refl refl
own_turns (kind.System name r) = pushes i.Own refl refl refl
own_turns (kind.Special s r) = pushes i.Own refl refl refl
own_turns (kind.Given code) = pushes i.Own refl refl refl
own_turns (kind.Punct c) = pushes i.Own refl refl refl

pub header_turns : (uses : List NameUse) (c : Count) (h : Option Header) → Turns 0 0 (header_code uses c h)
header_turns uses c None = turns_none 0
header_turns uses c (Some h) =
    let at_operand : Count = past c (in_argument h.left) in
    let at_own : Count = past at_operand (in_operand h.left_operand) in
    let at_right_operand : Count = past at_own (in_token h.own) in
    let at_right : Count = past at_right_operand (in_operand h.right_operand) in
    turns_append
    (turns_append
    (turns_append
    (turns_append (argument_turns i.Left c.patterns h.left (pushes i.Left refl refl refl)) (operand_turns i.LeftOperand (seen_at uses at_operand.uses) h.left_operand (pushes i.LeftOperand refl refl refl)))
    (name_turns (own_instr h.own.kind) (seen_at uses at_own.uses) h.own.kind (own_turns h.own.kind)))
    (operand_turns i.RightOperand (seen_at uses at_right_operand.uses) h.right_operand (pushes i.RightOperand refl refl refl)))
    (argument_turns i.Right at_right.patterns h.right (pushes i.Right refl refl refl))

-- ---- statements

end_balanced : (exports : Bool) → is_balanced 0 (end_code exports) ≡ true
end_balanced true = refl
end_balanced false = refl

last_balanced : (exports : Bool) → is_balanced 1 (last_code exports) ≡ true
last_balanced true = refl
last_balanced false = refl

pub stmts_balanced : (g : Setting) (exports in_block : Bool) (c : Count) (ss : Stmts) → WellStmts in_block ss → is_balanced 0 (stmts_code g exports c ss) ≡ true
stmts_balanced g exports in_block c no_stmts h = end_balanced exports
stmts_balanced g exports in_block c (and_stmts (Eval e) no_stmts) h = (expr_turns g c e h.0).at 0 (last_code exports) ∙ last_balanced exports
stmts_balanced g exports in_block c (and_stmts (Eval e) (and_stmts s ss)) h =
    let rest : List Instr = stmts_code g exports (past c (in_stmt (Eval e))) (and_stmts s ss) in
    (expr_turns g c e h.0).at 0 (i.Pop ∷ rest) ∙ (pop_turns.at 0 rest ∙ stmts_balanced g exports in_block (past c (in_stmt (Eval e))) (and_stmts s ss) h.1)
stmts_balanced g exports in_block c (and_stmts (Predicate e) ss) h =
    let rest : List Instr = stmts_code g exports (past c (in_stmt (Predicate e))) ss in
    (expr_turns g c e h.0.2).at 0 (i.Check ∷ rest) ∙ (check_turns.at 0 rest ∙ stmts_balanced g exports in_block (past c (in_stmt (Predicate e))) ss h.1)
stmts_balanced g exports in_block c (and_stmts (Export q) ss) h = stmts_balanced g exports in_block c ss h.1

-- ---- bodies

pub body_balanced : (g : Setting) (own : BodyNames) (calls : Calls) (c : Count) (x : BodyTree) → WellBody x → is_balanced 0 (body_code g own calls c x).code ≡ true
body_balanced g own calls c (body h ss) well =
    let rest : List Instr = stmts_code g (stmts_export ss) (past c (in_header h)) ss in
    (header_turns g.uses c h).at 0 rest ∙ stmts_balanced g (stmts_export ss) true (past c (in_header h)) ss well.1
