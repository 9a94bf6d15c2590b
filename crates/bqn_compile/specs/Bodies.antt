-- The code of headers, statements and bodies.
use Rattle.std.specs.Prelude.{ℕ, Bool, true, false, List, [], ◌∷◌, ◌++◌, length, map, Option, Some, None}
use Rattle.bqn_base.specs.declared.place.Place.{Place}
use Rattle.bqn_base.specs.declared.role.Role.TheVariants as role
use Rattle.bqn_syntax.specs.declared.token.Kind.{Kind}
use Rattle.bqn_syntax.specs.declared.token.Kind.TheVariants as kind
use Rattle.bqn_syntax.specs.declared.token.Token.{Token}
use Rattle.bqn_syntax.specs.grammar.Trees.{Pattern, Name, Header, Eval, Predicate, Export, BodyTree, body, Stmts, no_stmts, and_stmts}
use Rattle.bqn_syntax.specs.grammar.Classes.{Calls, Monadic, Dyadic, Both, body_calls, has_predicate}
use Rattle.bqn_syntax.specs.blocks.Exporting.{stmts_export}
use Rattle.bqn_syntax.specs.blocks.Leads.{or_else, pattern_lead, stmt_lead, header_lead, at_start}
use Rattle.bqn_syntax.specs.scope.Scope.{Seen}
use Rattle.bqn_syntax.specs.scope.Scope as scope
use Rattle.bqn_syntax.specs.scope.Bodies.{BodyNames}
use Rattle.bqn_code.specs.declared.instr.Instr.{Instr}
use Rattle.bqn_code.specs.declared.instr.Instr.TheVariants as i
use Rattle.bqn_code.specs.declared.code.Body.{Body}
use Rattle.bqn_compile.specs.declared.count.Count.{Count}
use Rattle.bqn_compile.specs.Counting.{past, in_argument, in_operand, in_token, in_header, in_stmt}
use Rattle.bqn_compile.specs.Pools.{name_number, seen_at}
use Rattle.bqn_compile.specs.Expressions.{Setting, put_expr, alone}

-- a block's own name is its modifier, where it is spelled so, and else its function
abbrev pub own_instr : Kind → Instr
own_instr (kind.Word name role.Mod1) = i.Modifier
own_instr (kind.Word name role.Mod2) = i.Modifier
own_instr k = i.Own

-- ---- what is made of an instruction at one place
module _ {A : Type 0} (put : Instr → A) where
  -- what is pushed is matched by the pattern with this number; `𝕨` and `𝕩` ask for nothing
  abbrev pub put_named_argument : Kind → Instr → (pattern : ℕ) → List A
  put_named_argument (kind.Special s r) push p = []
  put_named_argument k push p = put push ∷ put (i.Match p) ∷ []

  -- a name that a header has for a special name
  abbrev pub put_name : Instr → Seen → Kind → List A
  put_name push at (kind.Word name r) = put push ∷ put (i.Define at.slot) ∷ put i.Pop ∷ []
  put_name push at k = []

  -- a body that exports ends in its namespace
  abbrev pub put_end : (exports : Bool) → List A
  put_end true = put i.Space ∷ []
  put_end false = put i.Nothing ∷ put i.Return ∷ []

  -- behind the value of the last statement
  abbrev pub put_last : (exports : Bool) → List A
  put_last true = put i.Pop ∷ put i.Space ∷ []
  put_last false = put i.Return ∷ []

-- ---- headers, where so much comes before: what is made of an instruction and a lead
module _ {A : Type 0} (put_at : Option Place → Instr → A) where
  abbrev pub put_argument : Instr → (pattern : ℕ) → Option Pattern → List A
  put_argument push p None = []
  put_argument push p (Some (Name t)) = put_named_argument (put_at (Some t.place)) t.kind push p
  put_argument push p (Some q) = put_at (pattern_lead q) push ∷ put_at (pattern_lead q) (i.Match p) ∷ []

  abbrev pub put_operand : Instr → Seen → Option Token → List A
  put_operand push at None = []
  put_operand push at (Some t) = put_name (put_at (Some t.place)) push at t.kind

  abbrev pub put_header_inner : List scope.Use → Count → Header → List A
  put_header_inner uses c h =
      let at_operand : Count = past c (in_argument h.left) in
      let at_own : Count = past at_operand (in_operand h.left_operand) in
      let at_right_operand : Count = past at_own (in_token h.own) in
      let at_right : Count = past at_right_operand (in_operand h.right_operand) in
      put_argument i.Left c.patterns h.left
      ++ put_operand i.LeftOperand (seen_at uses at_operand.uses) h.left_operand
      ++ put_name (put_at (Some h.own.place)) (own_instr h.own.kind) (seen_at uses at_own.uses) h.own.kind
      ++ put_operand i.RightOperand (seen_at uses at_right_operand.uses) h.right_operand
      ++ put_argument i.Right at_right.patterns h.right

-- ---- headers and statements; a piece without a lead takes that of its header or statement
module _ {A : Type 0} (put_in : Place → Option Place → Instr → A) where
  abbrev pub put_header : List scope.Use → Count → Option Header → List A
  put_header uses c None = []
  put_header uses c (Some h) = put_header_inner (put_in (header_lead h)) uses c h

  -- behind a statement at whose lead this is made of an instruction
  abbrev pub put_stmts : Setting → (exports : Bool) → (Instr → A) → Count → Stmts → List A
  put_stmts g exports last c no_stmts = put_end last exports
  put_stmts g exports last c (and_stmts (Eval e) no_stmts) = put_expr (put_in (stmt_lead (Eval e))) g c e ++ put_last (put_in (stmt_lead (Eval e)) None) exports
  put_stmts g exports last c (and_stmts (Eval e) (and_stmts s ss)) =
      put_expr (put_in (stmt_lead (Eval e))) g c e
      ++ put_in (stmt_lead (Eval e)) None i.Pop
      ∷ put_stmts g exports (put_in (stmt_lead (Eval e)) None) (past c (in_stmt (Eval e))) (and_stmts s ss)
  put_stmts g exports last c (and_stmts (Predicate e) ss) =
      put_expr (put_in (stmt_lead (Predicate e))) g c e
      ++ put_in (stmt_lead (Predicate e)) None i.Check
      ∷ put_stmts g exports (put_in (stmt_lead (Predicate e)) None) (past c (in_stmt (Predicate e))) ss
  put_stmts g exports last c (and_stmts (Export q) ss) = put_stmts g exports (put_in (stmt_lead (Export q)) None) c ss

  abbrev pub put_body : Setting → Count → Option Header → Stmts → List A
  put_body g c h ss = put_header g.uses c h ++ put_stmts g (stmts_export ss) (put_in at_start None) (past c (in_header h)) ss

-- ---- the instructions alone

abbrev pub named_argument_code : Kind → Instr → (pattern : ℕ) → List Instr
named_argument_code = put_named_argument (λ i. i)

abbrev pub argument_code : Instr → (pattern : ℕ) → Option Pattern → List Instr
argument_code = put_argument alone

abbrev pub name_code : Instr → Seen → Kind → List Instr
name_code = put_name (λ i. i)

abbrev pub operand_code : Instr → Seen → Option Token → List Instr
operand_code = put_operand alone

abbrev pub header_code : List scope.Use → Count → Option Header → List Instr
header_code = put_header (λ l. alone)

abbrev pub end_code : (exports : Bool) → List Instr
end_code = put_end (λ i. i)

abbrev pub last_code : (exports : Bool) → List Instr
last_code = put_last (λ i. i)

abbrev pub stmts_code : Setting → (exports : Bool) → Count → Stmts → List Instr
stmts_code g exports = put_stmts (λ l. alone) g exports (λ i. i)

-- ---- bodies

abbrev pub kind_code : Calls → ℕ
kind_code Both = 0
kind_code Monadic = 1
kind_code Dyadic = 2

-- the names of the body with this number
abbrev pub names_in : Option BodyNames → BodyNames
names_in None = record { parent = 0; slots = []; exports = [] }
names_in (Some names) = names

abbrev pub exports_code : List (List ℕ) → List (List ℕ × ℕ) → List (ℕ × ℕ)
exports_code names exports = map (λ e. (name_number names e.0, e.1)) exports

-- a body for these calls, with its names
abbrev pub body_code : Setting → BodyNames → Calls → Count → BodyTree → Body
body_code g own calls c (body h ss) = record {
  kind = kind_code calls;
  slots = length own.slots;
  exports = exports_code g.names own.exports;
  code = header_code g.uses c h ++ stmts_code g (stmts_export ss) (past c (in_header h)) ss;
  places = put_body (λ l q i. or_else l q) g c h ss;
}

-- the calls of a body behind so many plain ones in a block that has so many
abbrev pub calls_of : (plain before : ℕ) → BodyTree → Calls
calls_of plain before (body h ss) = body_calls plain before h (has_predicate ss)
