-- Gathering a part of a tree goes through its list, and its counts are those of the list.
use Rattle.std.proofs.Common.{◌≡◌, true, false, List, [], ◌∷◌, ◌++◌, Option, Some, None, Result, Ok, Err, refl, sym, ap, ◌∙◌}
use Rattle.bqn_base.specs.declared.refusal.Refusal.{Refusal}
use Rattle.bqn_syntax.specs.declared.token.Kind.{Kind}
use Rattle.bqn_syntax.specs.declared.token.Kind.TheVariants as kind
use Rattle.bqn_syntax.specs.declared.token.Token.{Token}
use Rattle.bqn_syntax.specs.declared.tree.Arrow.{Arrow}
use Rattle.bqn_syntax.specs.grammar.Trees.{Pattern, Name, Skip, Literal, ListPattern, StrandPattern, Header, Expr, Value, Train, Modifier, Use, One, Two, Part, Leaf, Elements, Merge, Paren, Block, Field, Strand, Nothing, Step, Apply, Assign, Modify, Stmt, Eval, Predicate, Export, BlockTree, block, BodyTree, body, Derived, derived, MaybePart, none, some, Exprs, no_exprs, and_exprs, Uses, no_uses, and_uses, Parts, no_parts, and_parts, Steps, no_steps, and_steps, Stmts, no_stmts, and_stmts, Bodies, no_bodies, and_bodies, Deriveds, no_deriveds, and_deriveds}
use Rattle.bqn_syntax.specs.scope.Order.{How, Reads, Defines, Changes, by_arrow}
use Rattle.bqn_syntax.specs.scope.Scope as scope
use Rattle.bqn_syntax.specs.blocks.Counting.{how_many}
use Rattle.bqn_compile.specs.declared.count.Count.{Count}
use Rattle.bqn_compile.specs.Counting as count
use Rattle.bqn_compile.specs.Counting.{nothing, past, in_token, in_pattern, one_block}
use Rattle.bqn_compile.specs.Gathering as gather
use Rattle.bqn_compile.specs.Gathering.{Gathered, Gathers, Most, done, and_on, ◌▹◌}
use Rattle.bqn_compile.proofs.Counts.{past-assoc, past-nothing, nothing-past}
use Rattle.bqn_compile.proofs.verified.pools.Items.{Item, Alone, Fields, Taken, Opened, Shown, operand_items, named_items, argument_items, header_items, targets_items, target_item, expr_items, part_items, block_items, maybe_items, steps_items, step_items, derived_items, uses_items, use_items, deriveds_items, exprs_items, parts_items, stmts_items, stmt_items, bodies_items, body_items, item_count, items_count, item_gathering, items_gathering}

pub and_on-assoc : (o : Result Gathered Refusal) (f h : Gathers) → and_on (and_on o f) h ≡ and_on o (λ g. and_on (f g) h)
and_on-assoc (Ok g) f h = refl
and_on-assoc (Err r) f h = refl

and_on-done : (o : Result Gathered Refusal) → and_on o done ≡ o
and_on-done (Ok g) = refl
and_on-done (Err r) = refl

-- the same behind the same
on-same : (o p : Result Gathered Refusal) (f h : Gathers) → o ≡ p → ((g : Gathered) → f g ≡ h g) → and_on o f ≡ and_on p h
on-same o (Ok g) f h e same = ap (λ (r : Result Gathered Refusal). and_on r f) e ∙ same g
on-same o (Err r) f h e same = ap (λ (r : Result Gathered Refusal). and_on r f) e

pub counts-append : (xs ys : List Item) → items_count (xs ++ ys) ≡ past (items_count xs) (items_count ys)
counts-append [] ys = sym (nothing-past (items_count ys))
counts-append (x ∷ xs) ys = ap (λ (c : Count). past (item_count x) c) (counts-append xs ys) ∙ sym (past-assoc (item_count x) (items_count xs) (items_count ys))

module _ (m : Most) (uses : List scope.Use) where
  pub gathering-append : (xs ys : List Item) (g : Gathered) → items_gathering m uses (xs ++ ys) g ≡ and_on (items_gathering m uses xs g) (items_gathering m uses ys)
  gathering-append [] ys g = refl
  gathering-append (x ∷ xs) ys g =
      on-same (item_gathering m uses x g) (item_gathering m uses x g) (items_gathering m uses (xs ++ ys)) (λ h. and_on (items_gathering m uses xs h) (items_gathering m uses ys)) refl (gathering-append xs ys)
      ∙ sym (and_on-assoc (item_gathering m uses x g) (items_gathering m uses xs) (items_gathering m uses ys))

  -- this list is what a part has that is gathered so and counts so much
  pub record Has (xs : List Item) (gathers : Gathers) (counts : Count) : Type 0 where
    pub gathering : (g : Gathered) → gathers g ≡ items_gathering m uses xs g
    pub counting : counts ≡ items_count xs

  nothing_has : Has [] done nothing
  nothing_has = record { gathering = λ g. refl; counting = refl }

  both : (xs ys : List Item) (f h : Gathers) (c d : Count) → Has xs f c → Has ys h d → Has (xs ++ ys) (f ▹ h) (past c d)
  both xs ys f h c d a b = record {
    gathering = λ g. on-same (f g) (items_gathering m uses xs g) h (items_gathering m uses ys) (a.gathering g) b.gathering ∙ sym (gathering-append xs ys g);
    counting = ap (λ (c : Count). past c d) a.counting ∙ ap (λ (d : Count). past (items_count xs) d) b.counting ∙ sym (counts-append xs ys);
  }

  alone : (x : Item) → Has (x ∷ []) (item_gathering m uses x) (item_count x)
  alone x = record { gathering = λ g. sym (and_on-done (item_gathering m uses x g)); counting = sym (past-nothing (item_count x)) }

  also : (x : Item) (ys : List Item) (h : Gathers) (d : Count) → Has ys h d → Has (x ∷ ys) (item_gathering m uses x ▹ h) (past (item_count x) d)
  also x ys h d a = record {
    gathering = λ g. on-same (item_gathering m uses x g) (item_gathering m uses x g) h (items_gathering m uses ys) refl a.gathering;
    counting = ap (λ (d : Count). past (item_count x) d) a.counting;
  }

  -- what counts for nothing
  and_uncounted : (x : Item) (ys : List Item) (h : Gathers) (d : Count) → item_count x ≡ nothing → Has ys h d → Has (ys ++ x ∷ []) (h ▹ item_gathering m uses x) d
  and_uncounted x ys h d e a =
      let b : Has (ys ++ x ∷ []) (h ▹ item_gathering m uses x) (past d (item_count x)) = both ys (x ∷ []) h (item_gathering m uses x) d (item_count x) a (alone x) in
      record { gathering = b.gathering; counting = sym (past-nothing d) ∙ ap (λ (c : Count). past d c) (sym e) ∙ b.counting }

  -- ---- headers and targets

  pub operand_has : (o : Option Token) → Has (operand_items o) (gather.operand m uses o) (count.in_operand o)
  operand_has None = nothing_has
  operand_has (Some t) = alone (Alone Defines t)

  kind_alone : (t : Token) (k : Kind) → t.kind ≡ k → Has (Taken true Defines (Name t) ∷ []) (gather.pattern m uses Defines (Name t)) (past count.one_pattern (count.in_kind k))
  kind_alone t k e =
      let a : Has (Taken true Defines (Name t) ∷ []) (gather.pattern m uses Defines (Name t)) (past count.one_pattern (count.in_kind t.kind)) = alone (Taken true Defines (Name t)) in
      record { gathering = a.gathering; counting = ap (λ (k : Kind). past count.one_pattern (count.in_kind k)) (sym e) ∙ a.counting }

  named_has : (k : Kind) (t : Token) → t.kind ≡ k → Has (named_items k t) (gather.named_argument m uses k t) (count.in_named_argument k)
  named_has (kind.Special s r) t e = nothing_has
  named_has k t e = kind_alone t k e

  pub argument_has : (o : Option Pattern) → Has (argument_items o) (gather.argument m uses o) (count.in_argument o)
  argument_has None = nothing_has
  argument_has (Some (Name t)) = named_has t.kind t refl
  argument_has (Some (Skip place)) = alone (Taken true Defines (Skip place))
  argument_has (Some (Literal t)) = alone (Taken true Defines (Literal t))
  argument_has (Some (ListPattern qs)) = alone (Taken true Defines (ListPattern qs))
  argument_has (Some (StrandPattern qs)) = alone (Taken true Defines (StrandPattern qs))

  pub header_has : (h : Option Header) → Has (header_items h) (gather.header m uses h) (count.in_header h)
  header_has None = nothing_has
  header_has (Some h) =
      both (argument_items h.left) _ _ _ _ _ (argument_has h.left)
      (both (operand_items h.left_operand) _ _ _ _ _ (operand_has h.left_operand)
      (also (Alone Defines h.own) _ _ _
      (both (operand_items h.right_operand) _ _ _ _ _ (operand_has h.right_operand) (argument_has h.right))))

  pub targets_has : (ts : List (Token × Arrow)) → Has (targets_items ts) (gather.targets m uses ts) (count.in_targets ts)
  targets_has [] = nothing_has
  targets_has (t ∷ ts) = also (Alone (by_arrow t.1) t.0) _ _ _ (targets_has ts)

  target_has : (how : How) (q : Pattern) → Has (target_item how q ∷ []) (gather.target m uses how q) (count.in_target q)
  target_has how (Name t) = alone (Alone how t)
  target_has how (Skip place) = alone (Taken false how (Skip place))
  target_has how (Literal t) = alone (Taken false how (Literal t))
  target_has how (ListPattern qs) = alone (Taken false how (ListPattern qs))
  target_has how (StrandPattern qs) = alone (Taken false how (StrandPattern qs))

  -- ---- expressions and blocks

  mutual
    pub expr_has : (e : Expr) → Has (expr_items e) (gather.expr m uses e) (count.in_expr e)
    expr_has (Value last ss) = both (steps_items ss) (maybe_items last) _ _ _ _ (steps_has ss) (maybe_has last)
    expr_has (Train ts ds) = both (targets_items ts) (deriveds_items ds) _ _ _ _ (targets_has ts) (deriveds_has ds)
    expr_has (Modifier ts x) = both (targets_items ts) (part_items x) _ _ _ _ (targets_has ts) (part_has x)

    pub part_has : (x : Part) → Has (part_items x) (gather.part m uses x) (count.in_part x)
    part_has (Leaf t) = alone (Alone Reads t)
    part_has (Elements es) = exprs_has es
    part_has (Merge es) = exprs_has es
    part_has (Paren e) = expr_has e
    part_has (Block b) = block_has b
    part_has (Field base names) = and_uncounted (Fields names) (part_items base) _ _ refl (part_has base)
    part_has (Strand ps) = parts_has ps
    part_has (Nothing place) = nothing_has

    pub block_has : (b : BlockTree) → Has (block_items b) (gather.block_tree m uses b) (count.in_block b)
    block_has (block place c bs) = also (Opened place (how_many bs)) (bodies_items bs) _ _ (bodies_has bs)

    pub maybe_has : (o : MaybePart) → Has (maybe_items o) (gather.maybe m uses o) (count.in_maybe o)
    maybe_has none = nothing_has
    maybe_has (some x) = part_has x

    pub steps_has : (ss : Steps) → Has (steps_items ss) (gather.steps m uses ss) (count.in_steps ss)
    steps_has no_steps = nothing_has
    steps_has (and_steps s ss) = both (steps_items ss) (step_items s) _ _ _ _ (steps_has ss) (step_has s)

    pub step_has : (s : Step) → Has (step_items s) (gather.step m uses s) (count.in_step s)
    step_has (Apply d left) = both (maybe_items left) (derived_items d) _ _ _ _ (maybe_has left) (derived_has d)
    step_has (Assign q a) = target_has (by_arrow a) q
    step_has (Modify t d) = also (Alone Changes t) (derived_items d) _ _ (derived_has d)

    pub derived_has : (d : Derived) → Has (derived_items d) (gather.derived_part m uses d) (count.in_derived d)
    derived_has (derived x us) = both (part_items x) (uses_items us) _ _ _ _ (part_has x) (uses_has us)

    pub uses_has : (us : Uses) → Has (uses_items us) (gather.mod_uses m uses us) (count.in_uses us)
    uses_has no_uses = nothing_has
    uses_has (and_uses u us) = both (use_items u) (uses_items us) _ _ _ _ (use_has u) (uses_has us)

    pub use_has : (u : Use) → Has (use_items u) (gather.mod_use m uses u) (count.in_use u)
    use_has (One m) = part_has m
    use_has (Two m x) = both (part_items m) (part_items x) _ _ _ _ (part_has m) (part_has x)

    pub deriveds_has : (ds : Deriveds) → Has (deriveds_items ds) (gather.deriveds m uses ds) (count.in_deriveds ds)
    deriveds_has no_deriveds = nothing_has
    deriveds_has (and_deriveds d ds) = both (derived_items d) (deriveds_items ds) _ _ _ _ (derived_has d) (deriveds_has ds)

    pub exprs_has : (es : Exprs) → Has (exprs_items es) (gather.exprs m uses es) (count.in_exprs es)
    exprs_has no_exprs = nothing_has
    exprs_has (and_exprs e es) = both (expr_items e) (exprs_items es) _ _ _ _ (expr_has e) (exprs_has es)

    pub parts_has : (ps : Parts) → Has (parts_items ps) (gather.parts m uses ps) (count.in_parts ps)
    parts_has no_parts = nothing_has
    parts_has (and_parts x xs) = both (part_items x) (parts_items xs) _ _ _ _ (part_has x) (parts_has xs)

    pub stmts_has : (ss : Stmts) → Has (stmts_items ss) (gather.stmts m uses ss) (count.in_stmts ss)
    stmts_has no_stmts = nothing_has
    stmts_has (and_stmts s ss) = both (stmt_items s) (stmts_items ss) _ _ _ _ (stmt_has s) (stmts_has ss)

    pub stmt_has : (s : Stmt) → Has (stmt_items s) (gather.stmt m uses s) (count.in_stmt s)
    stmt_has (Eval e) = expr_has e
    stmt_has (Predicate e) = expr_has e
    stmt_has (Export q) = record { gathering = (alone (Shown q)).gathering; counting = sym (past-nothing nothing) }

    pub bodies_has : (bs : Bodies) → Has (bodies_items bs) (gather.bodies m uses bs) (count.in_bodies bs)
    bodies_has no_bodies = nothing_has
    bodies_has (and_bodies b bs) = both (body_items b) (bodies_items bs) _ _ _ _ (body_has b) (bodies_has bs)

    pub body_has : (b : BodyTree) → Has (body_items b) (gather.body_tree m uses b) (count.in_body b)
    body_has (body h ss) = both (header_items h) (stmts_items ss) _ _ _ _ (header_has h) (stmts_has ss)
