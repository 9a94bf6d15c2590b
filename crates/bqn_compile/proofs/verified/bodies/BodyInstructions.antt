-- The instructions of a body that fits its block have what they push, and a program never goes to a next body.
use Rattle.std.proofs.Common.{◌≡◌, ℕ, not, ◌&&◌, ◌||◌, Bool, true, false, List, [], ◌∷◌, Option, Some, None, is_some as is_there, refl}
use Rattle.std.specs.List.{list_all, list_any}
use Rattle.std.proofs.lemmas.Bool.{false≢true}
use Rattle.bqn_base.specs.declared.role.Role.TheVariants as role
use Rattle.bqn_syntax.specs.declared.token.Kind.{Kind}
use Rattle.bqn_syntax.specs.declared.token.Kind.TheVariants as kind
use Rattle.bqn_syntax.specs.declared.token.Token.{Token}
use Rattle.bqn_syntax.specs.declared.tree.Class.{Class}
use Rattle.bqn_syntax.specs.declared.sort.Tag.{Tag}
use Rattle.bqn_syntax.specs.declared.sort.Tag.TheVariants as tag
use Rattle.bqn_syntax.specs.grammar.Sorts.{same_tag}
use Rattle.bqn_syntax.specs.grammar.Headers.{own_tag}
use Rattle.bqn_syntax.specs.grammar.Trees.{Pattern, Name, Skip, Literal, ListPattern, StrandPattern, Header, Eval, Predicate, Export, BodyTree, body, Stmts, no_stmts, and_stmts}
use Rattle.bqn_syntax.specs.grammar.Classes.{Calls, has_predicate, is_some}
use Rattle.bqn_syntax.specs.blocks.Exporting.{stmts_export}
use Rattle.bqn_syntax.specs.scope.Scope as scope
use Rattle.bqn_syntax.specs.scope.Bodies.{BodyNames}
use Rattle.bqn_syntax.specs.grammar.Classes.{waits}
use Rattle.bqn_syntax.specs.grammar.Well.{SelfFits, SidesFit, HeaderFits, WellStmts}
use Rattle.bqn_code.specs.declared.instr.Instr.{Instr}
use Rattle.bqn_code.specs.declared.instr.Instr.TheVariants as i
use Rattle.bqn_code.specs.Conditions.{may_fail, is_modifier, is_modifier2, is_run_on}
use Rattle.bqn_compile.specs.declared.count.Count.{Count}
use Rattle.bqn_compile.specs.Counting.{past, in_argument, in_operand, in_token, in_header}
use Rattle.bqn_compile.specs.Pools.{seen_at}
use Rattle.bqn_compile.specs.Expressions.{Setting}
use Rattle.bqn_compile.specs.Bodies.{named_argument_code, argument_code, name_code, operand_code, own_instr, header_code, stmts_code, body_code}
use Rattle.bqn_compile.proofs.verified.bodies.Instructions.{is_common, Passes, none_all, then_all, lone, stmts_pass}
use Rattle.bqn_compile.proofs.verified.bodies.BodyFits.{HeaderPass, BodyFits, two_is_one}

-- ---- the classes of bodies

run_common : (c : Class) (x : Instr) → is_common x ≡ true → is_run_on c x ≡ true
run_common c i.Left h = absurd (false≢true h)
run_common c i.Right h = absurd (false≢true h)
run_common c i.Own h = absurd (false≢true h)
run_common c i.LeftOperand h = absurd (false≢true h)
run_common c i.Modifier h = absurd (false≢true h)
run_common c i.RightOperand h = absurd (false≢true h)
run_common c _ h = refl

module _ (c : Class) where
  match_passes : (x : Instr) (p : ℕ) → is_run_on c x ≡ true → Passes (is_run_on c) (x ∷ i.Match p ∷ [])
  match_passes x p h = lone x h (lone (i.Match p) refl none_all)

  named_argument_passes : (k : Kind) (x : Instr) (p : ℕ) → is_run_on c x ≡ true → Passes (is_run_on c) (named_argument_code k x p)
  named_argument_passes (kind.Special s r) x p h = none_all
  named_argument_passes (kind.Number z) x p h = match_passes x p h
  named_argument_passes (kind.Char a) x p h = match_passes x p h
  named_argument_passes (kind.Text cs) x p h = match_passes x p h
  named_argument_passes (kind.Word name r) x p h = match_passes x p h
  named_argument_passes (kind.System name r) x p h = match_passes x p h
  named_argument_passes (kind.Given code) x p h = match_passes x p h
  named_argument_passes (kind.Punct a) x p h = match_passes x p h

  argument_passes : (x : Instr) (p : ℕ) (q : Option Pattern) → (is_some q ≡ true → is_run_on c x ≡ true) → Passes (is_run_on c) (argument_code x p q)
  argument_passes x p None h = none_all
  argument_passes x p (Some (Name t)) h = named_argument_passes t.kind x p (h refl)
  argument_passes x p (Some (Skip place)) h = match_passes x p (h refl)
  argument_passes x p (Some (Literal t)) h = match_passes x p (h refl)
  argument_passes x p (Some (ListPattern qs)) h = match_passes x p (h refl)
  argument_passes x p (Some (StrandPattern qs)) h = match_passes x p (h refl)

  name_passes : (x : Instr) (at : scope.Seen) (k : Kind) → is_run_on c x ≡ true → Passes (is_run_on c) (name_code x at k)
  name_passes x at (kind.Word name r) h = lone x h (lone (i.Define at.slot) refl (lone i.Pop refl none_all))
  name_passes x at (kind.Number z) h = none_all
  name_passes x at (kind.Char a) h = none_all
  name_passes x at (kind.Text cs) h = none_all
  name_passes x at (kind.System name r) h = none_all
  name_passes x at (kind.Special s r) h = none_all
  name_passes x at (kind.Given code) h = none_all
  name_passes x at (kind.Punct a) h = none_all

  operand_passes : (x : Instr) (at : scope.Seen) (t : Option Token) → (is_there t ≡ true → is_run_on c x ≡ true) → Passes (is_run_on c) (operand_code x at t)
  operand_passes x at None h = none_all
  operand_passes x at (Some t) h = name_passes x at t.kind (h refl)

  left_operand_runs : (t : Tag) (l r : Option Token) → SelfFits t l r → (same_tag tag.Mod1 t ≡ true → is_modifier c ≡ true) → (same_tag tag.Mod2 t ≡ true → is_modifier2 c ≡ true) → is_there l ≡ true → is_modifier c ≡ true
  left_operand_runs tag.Function None None self one two h = absurd (false≢true h)
  left_operand_runs tag.Function None (Some r) self one two h = absurd self
  left_operand_runs tag.Function (Some l) r self one two h = absurd self
  left_operand_runs tag.Mod1 l r self one two h = one refl
  left_operand_runs tag.Mod2 l r self one two h = two_is_one c (two refl)
  left_operand_runs tag.Subject l r self one two h = absurd self
  left_operand_runs tag.Nothing l r self one two h = absurd self

  right_operand_runs : (t : Tag) (l r : Option Token) → SelfFits t l r → (same_tag tag.Mod2 t ≡ true → is_modifier2 c ≡ true) → is_there r ≡ true → is_modifier2 c ≡ true
  right_operand_runs tag.Function None None self two h = absurd (false≢true h)
  right_operand_runs tag.Function None (Some r) self two h = absurd self
  right_operand_runs tag.Function (Some l) r self two h = absurd self
  right_operand_runs tag.Mod1 l None self two h = absurd (false≢true h)
  right_operand_runs tag.Mod1 l (Some r) self two h = absurd self
  right_operand_runs tag.Mod2 l r self two h = two refl
  right_operand_runs tag.Subject l r self two h = absurd self
  right_operand_runs tag.Nothing l r self two h = absurd self

  own_passes : (k : Kind) (at : scope.Seen) (l r : Option Token) → SelfFits (own_tag k) l r → (same_tag tag.Function (own_tag k) ≡ true → waits c ≡ true) → (same_tag tag.Mod1 (own_tag k) ≡ true → is_modifier c ≡ true) →
      (same_tag tag.Mod2 (own_tag k) ≡ true → is_modifier2 c ≡ true) → Passes (is_run_on c) (name_code (own_instr k) at k)
  own_passes (kind.Word name role.Function) at l r self function one two = name_passes i.Own at (kind.Word name role.Function) (function refl)
  own_passes (kind.Word name role.Mod1) at l r self function one two = name_passes i.Modifier at (kind.Word name role.Mod1) (one refl)
  own_passes (kind.Word name role.Mod2) at l r self function one two = name_passes i.Modifier at (kind.Word name role.Mod2) (two_is_one c (two refl))
  own_passes (kind.Word name role.Subject) at l r self function one two = absurd self
  own_passes (kind.Number z) at l r self function one two = none_all
  own_passes (kind.Char a) at l r self function one two = none_all
  own_passes (kind.Text cs) at l r self function one two = none_all
  own_passes (kind.System name x) at l r self function one two = none_all
  own_passes (kind.Special s x) at l r self function one two = none_all
  own_passes (kind.Given code) at l r self function one two = none_all
  own_passes (kind.Punct a) at l r self function one two = none_all

  left_argument_runs : (l r : Option Pattern) → SidesFit l r → (is_some r ≡ true → waits c ≡ true) → is_some l ≡ true → waits c ≡ true
  left_argument_runs None r sides argument h = absurd (false≢true h)
  left_argument_runs (Some q) None sides argument h = absurd sides
  left_argument_runs (Some q) (Some x) sides argument h = argument refl

  header_passes : (uses : List scope.Use) (so : Count) (h : Option Header) → HeaderFits h → HeaderPass c h → Passes (is_run_on c) (header_code uses so h)
  header_passes uses so None fits pass = none_all
  header_passes uses so (Some h) fits pass =
      let at_operand : Count = past so (in_argument h.left) in
      let at_own : Count = past at_operand (in_operand h.left_operand) in
      let at_right_operand : Count = past at_own (in_token h.own) in
      let at_right : Count = past at_right_operand (in_operand h.right_operand) in
      then_all
      (then_all
      (then_all
      (then_all
      (argument_passes i.Left so.patterns h.left (left_argument_runs h.left h.right fits.sides pass.argument))
      (operand_passes i.LeftOperand (seen_at uses at_operand.uses) h.left_operand (left_operand_runs (own_tag h.own.kind) h.left_operand h.right_operand fits.self pass.one pass.two)))
      (own_passes h.own.kind (seen_at uses at_own.uses) h.left_operand h.right_operand fits.self pass.function pass.one pass.two))
      (operand_passes i.RightOperand (seen_at uses at_right_operand.uses) h.right_operand (right_operand_runs (own_tag h.own.kind) h.left_operand h.right_operand fits.self pass.two)))
      (argument_passes i.Right at_right.patterns h.right pass.argument)

  pub body_runs : (g : Setting) (own : BodyNames) (calls : Calls) (so : Count) (plain : ℕ) (x : BodyTree) → BodyFits c plain x → list_all (is_run_on c) (body_code g own calls so x).code ≡ true
  body_runs g own calls so plain (body h ss) fits =
      (then_all (header_passes g.uses so h fits.well.0 fits.header) (stmts_pass (is_run_on c) (run_common c) g (stmts_export ss) (past so (in_header h)) ss fits.seen (λ e. refl))).all

-- ---- the program

abbrev goes_on : Instr → Bool
goes_on x = not (may_fail x)

goes_common : (x : Instr) → is_common x ≡ true → goes_on x ≡ true
goes_common (i.Match p) h = absurd (false≢true h)
goes_common i.Check h = absurd (false≢true h)
goes_common _ h = refl

none_fails : (is : List Instr) → list_all goes_on is ≡ true → not (list_any may_fail is) ≡ true
none_fails [] h = refl
none_fails (x ∷ xs) h = by (may_fail x) (none_fails xs) h
  where
    by : (b : Bool) → (list_all goes_on xs ≡ true → not (list_any may_fail xs) ≡ true) → (not b && list_all goes_on xs) ≡ true → not (b || list_any may_fail xs) ≡ true
    by true again h = h
    by false again h = again h

no_predicate : (ss : Stmts) → WellStmts false ss → has_predicate ss ≡ true → ⊥
no_predicate no_stmts well h = false≢true h
no_predicate (and_stmts (Eval e) ss) well h = no_predicate ss well.1 h
no_predicate (and_stmts (Predicate e) ss) well h = false≢true well.0.0
no_predicate (and_stmts (Export q) ss) well h = no_predicate ss well.1 h

-- the statements of a program never go to a next body
pub program_goes_on : (g : Setting) (exports : Bool) (so : Count) (ss : Stmts) → WellStmts false ss → not (list_any may_fail (stmts_code g exports so ss)) ≡ true
program_goes_on g exports so ss well =
    none_fails (stmts_code g exports so ss)
    (stmts_pass goes_on goes_common g exports so ss (record { args = λ h. (refl, refl, refl); one = λ h. (refl, refl); one_self = λ h. refl; two = λ h. (refl, refl) }) (λ h. absurd (no_predicate ss well h))).all
