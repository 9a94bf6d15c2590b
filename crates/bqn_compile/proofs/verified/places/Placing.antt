-- The places of a body do not depend on what comes before it, nor on pools.
use Rattle.std.proofs.Common.{◌≡◌, ℕ, Bool, true, false, List, [], ◌∷◌, ◌++◌, Option, Some, None, refl, ap, sym, ◌∙◌, append_assoc}
use Rattle.bqn_base.specs.declared.place.Place.{Place}
use Rattle.bqn_syntax.specs.declared.token.Kind.{Kind}
use Rattle.bqn_syntax.specs.declared.token.Kind.TheVariants as kind
use Rattle.bqn_syntax.specs.declared.token.Token.{Token}
use Rattle.bqn_syntax.specs.declared.tree.Arrow.{Arrow}
use Rattle.bqn_syntax.specs.blocks.Leads.{or_else, stmt_lead, header_lead, at_start, derived_lead, deriveds_lead}
use Rattle.bqn_syntax.specs.grammar.Trees.{Pattern, Name, Skip, Literal, ListPattern, StrandPattern, Header, Eval, Predicate, Export, Stmts, no_stmts, and_stmts, Expr, Value, Train, Modifier, Use, One, Two, Part, Leaf, Elements, Merge, Paren, Block as Braces, Field, Strand, Nothing, Step, Apply, Assign, Modify, block, Derived, derived, none, some, Exprs, no_exprs, and_exprs, Uses, no_uses, and_uses, Parts, no_parts, and_parts, Steps, no_steps, and_steps, Deriveds, no_deriveds, and_deriveds}
use Rattle.bqn_syntax.specs.blocks.Exporting.{stmts_export}
use Rattle.bqn_syntax.specs.scope.Scope as scope
use Rattle.bqn_syntax.specs.scope.Scope.{Seen}
use Rattle.bqn_code.specs.declared.instr.Instr.{Instr}
use Rattle.bqn_code.specs.declared.instr.Instr.TheVariants as i
use Rattle.bqn_compile.specs.declared.count.Count.{Count}
use Rattle.bqn_compile.specs.Pools.{seen_at}
use Rattle.bqn_compile.specs.declared.read.Read.{Read}
use Rattle.bqn_compile.specs.declared.read.Read.TheVariants as read
use Rattle.bqn_compile.specs.Counting.{past, in_token, in_targets, in_part, in_steps, in_derived, in_use, in_expr, in_header, in_stmt, in_argument, in_operand}
use Rattle.bqn_compile.specs.Expressions.{Setting, parts_read, put_fields, put_targets, put_fork, put_atop, put_derives, put_expr, put_part, put_steps, put_step, put_derived, put_uses, put_use, put_deriveds, put_exprs, put_parts}
use Rattle.bqn_compile.specs.Bodies.{own_instr, put_named_argument, put_argument, put_name, put_operand, put_end, put_last, put_header, put_stmts, put_body}
use Rattle.bqn_compile.specs.Placing as of
use Rattle.bqn_compile.specs.Placing.{if_two, fields_places, targets_places}

both : {us vs xs ys : List Place} → us ≡ vs → xs ≡ ys → us ++ xs ≡ vs ++ ys
both p q = λ i. p i ++ q i

and_then : {x : Place} {us vs : List Place} → us ≡ vs → x ∷ us ≡ x ∷ vs
and_then {x = x} p = λ i. x ∷ p i

fork : (p : Place) (r : Read) → put_fork (λ i. p) r ≡ if_two p r
fork p read.No = refl
fork p read.One = refl
fork p read.Two = refl

atop : (p : Place) (r : Read) → put_atop (λ i. p) r ≡ if_two p r
atop p read.No = refl
atop p read.One = refl
atop p read.Two = refl

module _ (l : Place) (g : Setting) where
  abbrev put : Option Place → Instr → Place
  put q i = or_else l q

  fields : (names : List (List ℕ)) (ts : List Token) → put_fields put names ts ≡ fields_places ts
  fields names [] = refl
  fields names (t ∷ ts) = and_then (fields names ts)

  targets : (c : Count) (ts : List (Token × Arrow)) → put_targets put g c ts ≡ targets_places ts
  targets c [] = refl
  targets c (t ∷ ts) = both (targets (past c (in_token t.0)) ts) refl

  derives : (us : Uses) → put_derives put us ≡ of.derives_places l us
  derives no_uses = refl
  derives (and_uses u us) = and_then (derives us)

  mutual
    pub expr : (c : Count) (e : Expr) → put_expr put g c e ≡ of.expr_places l e
    expr c (Value none (and_steps (Modify t d) ss)) = and_then (both (derived_part (past (past c (in_steps ss)) (in_token t)) d) (and_then (and_then (steps c ss))))
    expr c (Value none no_steps) = refl
    expr c (Value none (and_steps (Apply d w) ss)) = and_then (steps c (and_steps (Apply d w) ss))
    expr c (Value none (and_steps (Assign q a) ss)) = and_then (steps c (and_steps (Assign q a) ss))
    expr c (Value (some x) ss) = both (part (past c (in_steps ss)) x) (steps c ss)
    expr c (Train ts ds) = both (both (deriveds (past c (in_targets ts)) ds) (atop (or_else l (deriveds_lead ds)) (parts_read ds))) (targets c ts)
    expr c (Modifier ts x) = both (part (past c (in_targets ts)) x) (targets c ts)

    part : (c : Count) (x : Part) → put_part put g c x ≡ of.part_places l x
    part c (Leaf t) = refl
    part c (Elements es) = both (exprs c es) refl
    part c (Merge es) = both (exprs c es) refl
    part c (Paren e) = expr c e
    part c (Braces (block place k bs)) = refl
    part c (Field base ts) = both (part c base) (fields g.names ts)
    part c (Strand ps) = both (parts c ps) refl
    part c (Nothing place) = refl

    steps : (c : Count) (ss : Steps) → put_steps put g c ss ≡ of.steps_places l ss
    steps c no_steps = refl
    steps c (and_steps s ss) = both (step (past c (in_steps ss)) s) (steps c ss)

    step : (c : Count) (s : Step) → put_step put g c s ≡ of.step_places l s
    step c (Apply d none) = both (derived_part c d) refl
    step c (Apply d (some w)) = both (both (derived_part (past c (in_part w)) d) (part c w)) refl
    step c (Assign q a) = refl
    step c (Modify t d) = both (derived_part (past c (in_token t)) d) refl

    derived_part : (c : Count) (d : Derived) → put_derived put g c d ≡ of.derived_places l d
    derived_part c (derived x us) = both (both (uses (past c (in_part x)) us) (part c x)) (derives us)

    uses : (c : Count) (us : Uses) → put_uses put g c us ≡ of.uses_places l us
    uses c no_uses = refl
    uses c (and_uses u us) = both (uses (past c (in_use u)) us) (use_part c u)

    use_part : (c : Count) (u : Use) → put_use put g c u ≡ of.use_places l u
    use_part c (One m) = part c m
    use_part c (Two m x) = both (part (past c (in_part m)) x) (part c m)

    deriveds : (c : Count) (ds : Deriveds) → put_deriveds put g c ds ≡ of.deriveds_places l ds
    deriveds c no_deriveds = refl
    deriveds c (and_deriveds d ds) = both (both (deriveds (past c (in_derived d)) ds) (derived_part c d)) (fork (or_else l (derived_lead d)) (parts_read ds))

    exprs : (c : Count) (es : Exprs) → put_exprs put g c es ≡ of.exprs_places l es
    exprs c no_exprs = refl
    exprs c (and_exprs e es) = both (expr c e) (exprs (past c (in_expr e)) es)

    parts : (c : Count) (ps : Parts) → put_parts put g c ps ≡ of.parts_places l ps
    parts c no_parts = refl
    parts c (and_parts x xs) = both (part c x) (parts (past c (in_part x)) xs)

-- ---- headers

named_argument : (p : Place) (k : Kind) (push : Instr) (n : ℕ) → put_named_argument (λ i. p) k push n ≡ of.named_argument_places p k
named_argument p (kind.Special s r) push n = refl
named_argument p (kind.Word name r) push n = refl
named_argument p (kind.System name r) push n = refl
named_argument p (kind.Given code) push n = refl
named_argument p (kind.Number z) push n = refl
named_argument p (kind.Char z) push n = refl
named_argument p (kind.Text z) push n = refl
named_argument p (kind.Punct z) push n = refl

name_is : (p : Place) (k : Kind) (push : Instr) (at : Seen) → put_name (λ i. p) push at k ≡ of.name_places p k
name_is p (kind.Word name r) push at = refl
name_is p (kind.Special s r) push at = refl
name_is p (kind.System name r) push at = refl
name_is p (kind.Given code) push at = refl
name_is p (kind.Number z) push at = refl
name_is p (kind.Char z) push at = refl
name_is p (kind.Text z) push at = refl
name_is p (kind.Punct z) push at = refl

abbrev lays : Place → Option Place → Instr → Place
lays l q i = or_else l q

argument : (l : Place) (push : Instr) (n : ℕ) (q : Option Pattern) → put_argument (lays l) push n q ≡ of.argument_places l q
argument l push n None = refl
argument l push n (Some (Name t)) = named_argument t.place t.kind push n
argument l push n (Some (Skip place)) = refl
argument l push n (Some (Literal t)) = refl
argument l push n (Some (ListPattern qs)) = refl
argument l push n (Some (StrandPattern qs)) = refl

operand : (l : Place) (push : Instr) (at : Seen) (t : Option Token) → put_operand (lays l) push at t ≡ of.operand_places t
operand l push at None = refl
operand l push at (Some t) = name_is t.place t.kind push at

header : (us : List scope.Use) (c : Count) (h : Option Header) → put_header lays us c h ≡ of.header_places h
header us c None = refl
header us c (Some h) =
    let at_operand : Count = past c (in_argument h.left) in
    let at_own : Count = past at_operand (in_operand h.left_operand) in
    let at_right_operand : Count = past at_own (in_token h.own) in
    let at_right : Count = past at_right_operand (in_operand h.right_operand) in
    both (both (both (both (argument (header_lead h) i.Left c.patterns h.left)
    (operand (header_lead h) i.LeftOperand (seen_at us at_operand.uses) h.left_operand))
    (name_is h.own.place h.own.kind (own_instr h.own.kind) (seen_at us at_own.uses)))
    (operand (header_lead h) i.RightOperand (seen_at us at_right_operand.uses) h.right_operand))
    (argument (header_lead h) i.Right at_right.patterns h.right)

-- ---- statements

end_is : (p : Place) (exports : Bool) → put_end (λ i. p) exports ≡ of.end_places exports p
end_is p true = refl
end_is p false = refl

last_is : (p : Place) (exports : Bool) → put_last (λ i. p) exports ≡ of.last_places exports p
last_is p true = refl
last_is p false = refl

stmts : (g : Setting) (exports : Bool) (l : Place) (c : Count) (ss : Stmts) → put_stmts lays g exports (λ i. l) c ss ≡ of.stmts_places exports l ss
stmts g exports l c no_stmts = end_is l exports
stmts g exports l c (and_stmts (Eval e) no_stmts) = both (expr (stmt_lead (Eval e)) g c e) (last_is (stmt_lead (Eval e)) exports)
stmts g exports l c (and_stmts (Eval e) (and_stmts s ss)) = both (expr (stmt_lead (Eval e)) g c e) (and_then (stmts g exports (stmt_lead (Eval e)) (past c (in_stmt (Eval e))) (and_stmts s ss)))
stmts g exports l c (and_stmts (Predicate e) ss) = both (expr (stmt_lead (Predicate e)) g c e) (and_then (stmts g exports (stmt_lead (Predicate e)) (past c (in_stmt (Predicate e))) ss))
stmts g exports l c (and_stmts (Export q) ss) = stmts g exports (stmt_lead (Export q)) c ss

-- the places of a body of the translation are those of its tree
pub body_is : (g : Setting) (c : Count) (h : Option Header) (ss : Stmts) → put_body lays g c h ss ≡ of.body_places h ss
body_is g c h ss = both (header g.uses c h) (stmts g (stmts_export ss) at_start (past c (in_header h)) ss)

-- behind a statement that has left a value, or has not
rest_is : (exports : Bool) (l : Place) (ss : Stmts) → of.rest_places exports false l ss ≡ of.stmts_places exports l ss
rest_is exports l no_stmts = refl
rest_is exports l (and_stmts (Eval e) no_stmts) = refl
rest_is exports l (and_stmts (Eval e) (and_stmts s ss)) = ap (λ x. of.expr_places (stmt_lead (Eval e)) e ++ (stmt_lead (Eval e) ∷ x)) (rest_is exports (stmt_lead (Eval e)) (and_stmts s ss))
rest_is exports l (and_stmts (Predicate e) ss) = append_assoc (of.expr_places (stmt_lead (Predicate e)) e) (stmt_lead (Predicate e) ∷ []) (of.rest_places exports false (stmt_lead (Predicate e)) ss) ∙ ap (λ x. of.expr_places (stmt_lead (Predicate e)) e ++ (stmt_lead (Predicate e) ∷ x)) (rest_is exports (stmt_lead (Predicate e)) ss)
rest_is exports l (and_stmts (Export q) ss) = rest_is exports (stmt_lead (Export q)) ss

pub rests_are : (h : Option Header) (ss : Stmts) → of.header_places h ++ of.rest_places (stmts_export ss) false at_start ss ≡ of.body_places h ss
rests_are h ss = ap (λ x. of.header_places h ++ x) (rest_is (stmts_export ss) at_start ss)

-- what a walk through the body makes, knowing whether it exports
pub places_made : (g : Setting) (c : Count) (h : Option Header) (ss : Stmts) (exports : Bool) → exports ≡ stmts_export ss → of.header_places h ++ of.rest_places exports false at_start ss ≡ put_body lays g c h ss
places_made g c h ss exports e = ap (λ (x : Bool). of.header_places h ++ of.rest_places x false at_start ss) e ∙ rests_are h ss ∙ sym (body_is g c h ss)
