-- The instructions of a body and their places are the two sides of one list.
use Rattle.std.proofs.Common.{◌≡◌, ℕ, Bool, true, false, List, [], ◌∷◌, ◌++◌, length, map, Option, Some, None, refl, sym, ap, ◌∙◌}
use Rattle.std.proofs.lemmas.List.{map-append, length-map}
use Rattle.bqn_base.specs.declared.place.Place.{Place}
use Rattle.bqn_syntax.specs.declared.token.Kind.{Kind}
use Rattle.bqn_syntax.specs.declared.token.Kind.TheVariants as kind
use Rattle.bqn_syntax.specs.declared.token.Token.{Token}
use Rattle.bqn_syntax.specs.declared.tree.Arrow.{Arrow}
use Rattle.bqn_syntax.specs.blocks.Leads.{derived_lead, deriveds_lead, stmt_lead, header_lead, at_start}
use Rattle.bqn_syntax.specs.grammar.Trees.{Pattern, Name, Skip, Literal, ListPattern, StrandPattern, Header, Expr, Value, Train, Modifier, Use, One, Two, Part, Leaf, Elements, Merge, Paren, Block as Braces, Field, Strand, Nothing, Step, Apply, Assign, Modify, Eval, Predicate, Export, block, body, Derived, derived, none, some, Exprs, no_exprs, and_exprs, Uses, no_uses, and_uses, Parts, no_parts, and_parts, Steps, no_steps, and_steps, Stmts, no_stmts, and_stmts, Deriveds, no_deriveds, and_deriveds}
use Rattle.bqn_syntax.specs.grammar.Classes.{Calls}
use Rattle.bqn_syntax.specs.blocks.Exporting.{stmts_export}
use Rattle.bqn_syntax.specs.scope.Scope as scope
use Rattle.bqn_syntax.specs.scope.Scope.{Seen}
use Rattle.bqn_syntax.specs.scope.Bodies.{BodyNames}
use Rattle.bqn_code.specs.declared.instr.Instr.{Instr}
use Rattle.bqn_code.specs.declared.instr.Instr.TheVariants as i
use Rattle.bqn_compile.specs.declared.count.Count.{Count}
use Rattle.bqn_compile.specs.declared.read.Read.{Read}
use Rattle.bqn_compile.specs.declared.read.Read.TheVariants as read
use Rattle.bqn_compile.specs.Counting.{past, in_token, in_targets, in_argument, in_operand, in_part, in_steps, in_derived, in_use, in_expr, in_header, in_stmt}
use Rattle.bqn_compile.specs.Pools.{seen_at}
use Rattle.bqn_compile.specs.Expressions.{Setting, at_lead, parts_read, put_fields, put_targets, put_fork, put_atop, put_derives, put_expr, put_part, put_steps, put_step, put_derived, put_uses, put_use, put_deriveds, put_exprs, put_parts}
use Rattle.bqn_compile.specs.Bodies.{put_named_argument, own_instr, put_name, put_argument, put_operand, put_header_inner, put_end, put_last, put_header, put_stmts, put_body, body_code}

-- ---- what is made of each instruction and lead, with something done to it

module _ {A B : Type 0} (h : A → B) where
  joined : (xs ys : List A) {us vs : List B} → map h xs ≡ us → map h ys ≡ vs → map h (xs ++ ys) ≡ us ++ vs
  joined xs ys p q = map-append h xs ys ∙ (λ i. p i ++ q i)

  and_then : {x : B} {us vs : List B} → us ≡ vs → x ∷ us ≡ x ∷ vs
  and_then {x = x} p = λ i. x ∷ p i

  fork : (put : Instr → A) (r : Read) → map h (put_fork put r) ≡ put_fork (λ i. h (put i)) r
  fork put read.No = refl
  fork put read.One = refl
  fork put read.Two = refl

  atop : (put : Instr → A) (r : Read) → map h (put_atop put r) ≡ put_atop (λ i. h (put i)) r
  atop put read.No = refl
  atop put read.One = refl
  atop put read.Two = refl

  module _ (put : Option Place → Instr → A) where
    abbrev puts : Option Place → Instr → B
    puts l i = h (put l i)

    fields : (names : List (List ℕ)) (ts : List Token) → map h (put_fields put names ts) ≡ put_fields puts names ts
    fields names [] = refl
    fields names (t ∷ ts) = and_then (fields names ts)

    targets : (g : Setting) (c : Count) (ts : List (Token × Arrow)) → map h (put_targets put g c ts) ≡ put_targets puts g c ts
    targets g c [] = refl
    targets g c (t ∷ ts) = joined (put_targets put g (past c (in_token t.0)) ts) _ (targets g (past c (in_token t.0)) ts) refl

    derives : (us : Uses) → map h (put_derives put us) ≡ put_derives puts us
    derives no_uses = refl
    derives (and_uses u us) = and_then (derives us)

    module _ (g : Setting) where
      mutual
        pub expr : (c : Count) (e : Expr) → map h (put_expr put g c e) ≡ put_expr puts g c e
        expr c (Value none (and_steps (Modify t d) ss)) =
            and_then (joined (put_derived put g (past (past c (in_steps ss)) (in_token t)) d) _ (derived_part (past (past c (in_steps ss)) (in_token t)) d) (and_then (and_then (steps c ss))))
        expr c (Value none no_steps) = refl
        expr c (Value none (and_steps (Apply d w) ss)) = and_then (steps c (and_steps (Apply d w) ss))
        expr c (Value none (and_steps (Assign q a) ss)) = and_then (steps c (and_steps (Assign q a) ss))
        expr c (Value (some x) ss) = joined (put_part put g (past c (in_steps ss)) x) _ (part (past c (in_steps ss)) x) (steps c ss)
        expr c (Train ts ds) =
            joined (put_deriveds put g (past c (in_targets ts)) ds ++ put_atop (put (deriveds_lead ds)) (parts_read ds)) (put_targets put g c ts)
            (joined (put_deriveds put g (past c (in_targets ts)) ds) (put_atop (put (deriveds_lead ds)) (parts_read ds)) (deriveds (past c (in_targets ts)) ds) (atop (put (deriveds_lead ds)) (parts_read ds)))
            (targets g c ts)
        expr c (Modifier ts x) = joined (put_part put g (past c (in_targets ts)) x) _ (part (past c (in_targets ts)) x) (targets g c ts)

        pub part : (c : Count) (x : Part) → map h (put_part put g c x) ≡ put_part puts g c x
        part c (Leaf t) = refl
        part c (Elements es) = joined (put_exprs put g c es) _ (exprs c es) refl
        part c (Merge es) = joined (put_exprs put g c es) _ (exprs c es) refl
        part c (Paren e) = expr c e
        part c (Braces (block place k bs)) = refl
        part c (Field base ts) = joined (put_part put g c base) _ (part c base) (fields g.names ts)
        part c (Strand ps) = joined (put_parts put g c ps) _ (parts c ps) refl
        part c (Nothing place) = refl

        steps : (c : Count) (ss : Steps) → map h (put_steps put g c ss) ≡ put_steps puts g c ss
        steps c no_steps = refl
        steps c (and_steps s ss) = joined (put_step put g (past c (in_steps ss)) s) _ (step (past c (in_steps ss)) s) (steps c ss)

        step : (c : Count) (s : Step) → map h (put_step put g c s) ≡ put_step puts g c s
        step c (Apply d none) = joined (put_derived put g c d) _ (derived_part c d) refl
        step c (Apply d (some w)) = joined (put_derived put g (past c (in_part w)) d ++ put_part put g c w) _ (joined (put_derived put g (past c (in_part w)) d) (put_part put g c w) (derived_part (past c (in_part w)) d) (part c w)) refl
        step c (Assign q a) = refl
        step c (Modify t d) = joined (put_derived put g (past c (in_token t)) d) _ (derived_part (past c (in_token t)) d) refl

        derived_part : (c : Count) (d : Derived) → map h (put_derived put g c d) ≡ put_derived puts g c d
        derived_part c (derived x us) = joined (put_uses put g (past c (in_part x)) us ++ put_part put g c x) (put_derives put us) (joined (put_uses put g (past c (in_part x)) us) (put_part put g c x) (uses (past c (in_part x)) us) (part c x)) (derives us)

        uses : (c : Count) (us : Uses) → map h (put_uses put g c us) ≡ put_uses puts g c us
        uses c no_uses = refl
        uses c (and_uses u us) = joined (put_uses put g (past c (in_use u)) us) _ (uses (past c (in_use u)) us) (use_part c u)

        use_part : (c : Count) (u : Use) → map h (put_use put g c u) ≡ put_use puts g c u
        use_part c (One m) = part c m
        use_part c (Two m x) = joined (put_part put g (past c (in_part m)) x) _ (part (past c (in_part m)) x) (part c m)

        deriveds : (c : Count) (ds : Deriveds) → map h (put_deriveds put g c ds) ≡ put_deriveds puts g c ds
        deriveds c no_deriveds = refl
        deriveds c (and_deriveds d ds) = joined (put_deriveds put g (past c (in_derived d)) ds ++ put_derived put g c d) (put_fork (put (derived_lead d)) (parts_read ds)) (joined (put_deriveds put g (past c (in_derived d)) ds) (put_derived put g c d) (deriveds (past c (in_derived d)) ds) (derived_part c d)) (fork (put (derived_lead d)) (parts_read ds))

        exprs : (c : Count) (es : Exprs) → map h (put_exprs put g c es) ≡ put_exprs puts g c es
        exprs c no_exprs = refl
        exprs c (and_exprs e es) = joined (put_expr put g c e) _ (expr c e) (exprs (past c (in_expr e)) es)

        parts : (c : Count) (ps : Parts) → map h (put_parts put g c ps) ≡ put_parts puts g c ps
        parts c no_parts = refl
        parts c (and_parts x xs) = joined (put_part put g c x) _ (part c x) (parts (past c (in_part x)) xs)

  -- ---- headers

  named_argument : (put : Instr → A) (k : Kind) (push : Instr) (p : ℕ) → map h (put_named_argument put k push p) ≡ put_named_argument (λ i. h (put i)) k push p
  named_argument put (kind.Special s r) push p = refl
  named_argument put (kind.Word name r) push p = refl
  named_argument put (kind.System name r) push p = refl
  named_argument put (kind.Given code) push p = refl
  named_argument put (kind.Number z) push p = refl
  named_argument put (kind.Char z) push p = refl
  named_argument put (kind.Text z) push p = refl
  named_argument put (kind.Punct z) push p = refl

  named : (put : Instr → A) (push : Instr) (at : Seen) (k : Kind) → map h (put_name put push at k) ≡ put_name (λ i. h (put i)) push at k
  named put push at (kind.Word name r) = refl
  named put push at (kind.Special s r) = refl
  named put push at (kind.System name r) = refl
  named put push at (kind.Given code) = refl
  named put push at (kind.Number z) = refl
  named put push at (kind.Char z) = refl
  named put push at (kind.Text z) = refl
  named put push at (kind.Punct z) = refl

  end : (put : Instr → A) (exports : Bool) → map h (put_end put exports) ≡ put_end (λ i. h (put i)) exports
  end put true = refl
  end put false = refl

  last : (put : Instr → A) (exports : Bool) → map h (put_last put exports) ≡ put_last (λ i. h (put i)) exports
  last put true = refl
  last put false = refl

  module _ (put : Option Place → Instr → A) where
    abbrev laid : Option Place → Instr → B
    laid l i = h (put l i)

    argument : (push : Instr) (p : ℕ) (q : Option Pattern) → map h (put_argument put push p q) ≡ put_argument laid push p q
    argument push p None = refl
    argument push p (Some (Name t)) = named_argument (put (Some t.place)) t.kind push p
    argument push p (Some (Skip place)) = refl
    argument push p (Some (Literal t)) = refl
    argument push p (Some (ListPattern qs)) = refl
    argument push p (Some (StrandPattern qs)) = refl

    operand : (push : Instr) (at : Seen) (t : Option Token) → map h (put_operand put push at t) ≡ put_operand laid push at t
    operand push at None = refl
    operand push at (Some t) = named (put (Some t.place)) push at t.kind

    header_inner : (us : List scope.Use) (c : Count) (hd : Header) → map h (put_header_inner put us c hd) ≡ put_header_inner laid us c hd
    header_inner us c hd =
        let at_operand : Count = past c (in_argument hd.left) in
        let at_own : Count = past at_operand (in_operand hd.left_operand) in
        let at_right_operand : Count = past at_own (in_token hd.own) in
        let at_right : Count = past at_right_operand (in_operand hd.right_operand) in
        let left : List A = put_argument put i.Left c.patterns hd.left in
        let left_operand : List A = put_operand put i.LeftOperand (seen_at us at_operand.uses) hd.left_operand in
        let own : List A = put_name (put (Some hd.own.place)) (own_instr hd.own.kind) (seen_at us at_own.uses) hd.own.kind in
        let right_operand : List A = put_operand put i.RightOperand (seen_at us at_right_operand.uses) hd.right_operand in
        let right : List A = put_argument put i.Right at_right.patterns hd.right in
        joined (left ++ left_operand ++ own ++ right_operand) right
        (joined (left ++ left_operand ++ own) right_operand
        (joined (left ++ left_operand) own
        (joined left left_operand (argument i.Left c.patterns hd.left) (operand i.LeftOperand (seen_at us at_operand.uses) hd.left_operand))
        (named (put (Some hd.own.place)) (own_instr hd.own.kind) (seen_at us at_own.uses) hd.own.kind))
        (operand i.RightOperand (seen_at us at_right_operand.uses) hd.right_operand))
        (argument i.Right at_right.patterns hd.right)

  -- ---- bodies

  module _ (put : Place → Option Place → Instr → A) where
    abbrev set : Place → Option Place → Instr → B
    set l q i = h (put l q i)

    header : (us : List scope.Use) (c : Count) (hd : Option Header) → map h (put_header put us c hd) ≡ put_header set us c hd
    header us c None = refl
    header us c (Some hd) = header_inner (put (header_lead hd)) us c hd

    stmts : (g : Setting) (exports : Bool) (on : Instr → A) (c : Count) (ss : Stmts) → map h (put_stmts put g exports on c ss) ≡ put_stmts set g exports (λ i. h (on i)) c ss
    stmts g exports on c no_stmts = end on exports
    stmts g exports on c (and_stmts (Eval e) no_stmts) = joined (put_expr (put (stmt_lead (Eval e))) g c e) _ (expr (put (stmt_lead (Eval e))) g c e) (last (put (stmt_lead (Eval e)) None) exports)
    stmts g exports on c (and_stmts (Eval e) (and_stmts s ss)) = joined (put_expr (put (stmt_lead (Eval e))) g c e) _ (expr (put (stmt_lead (Eval e))) g c e) (and_then (stmts g exports (put (stmt_lead (Eval e)) None) (past c (in_stmt (Eval e))) (and_stmts s ss)))
    stmts g exports on c (and_stmts (Predicate e) ss) = joined (put_expr (put (stmt_lead (Predicate e))) g c e) _ (expr (put (stmt_lead (Predicate e))) g c e) (and_then (stmts g exports (put (stmt_lead (Predicate e)) None) (past c (in_stmt (Predicate e))) ss))
    stmts g exports on c (and_stmts (Export q) ss) = stmts g exports (put (stmt_lead (Export q)) None) c ss

    pub whole : (g : Setting) (c : Count) (hd : Option Header) (ss : Stmts) → map h (put_body put g c hd ss) ≡ put_body set g c hd ss
    whole g c hd ss = joined (put_header put g.uses c hd) _ (header g.uses c hd) (stmts g (stmts_export ss) (put at_start None) (past c (in_header hd)) ss)

-- a body of a translation has as many places as instructions
pub as_many_places : (g : Setting) (own : BodyNames) (calls : Calls) (c : Count) (hd : Option Header) (ss : Stmts) → length (body_code g own calls c (body hd ss)).places ≡ length (body_code g own calls c (body hd ss)).code
as_many_places g own calls c hd ss =
    ap (λ l. length l) (sym (whole (λ x. x.1) at_lead g c hd ss))
    ∙ (length-map (put_body at_lead g c hd ss) (λ x. x.1)
    ∙ (sym (length-map (put_body at_lead g c hd ss) (λ x. x.0))
    ∙ ap (λ l. length l) (whole (λ x. x.0) at_lead g c hd ss)))
