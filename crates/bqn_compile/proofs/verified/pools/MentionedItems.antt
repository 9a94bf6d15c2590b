-- What a tree has is what its mentions mention.
use Rattle.std.proofs.Common.{◌≡◌, true, false, List, [], ◌∷◌, ◌++◌, Option, Some, None, refl, subst}
use Rattle.bqn_syntax.specs.declared.token.Kind.{Kind}
use Rattle.bqn_syntax.specs.declared.token.Kind.TheVariants as kind
use Rattle.bqn_syntax.specs.declared.token.Token.{Token}
use Rattle.bqn_syntax.specs.declared.tree.Arrow.{Arrow}
use Rattle.bqn_syntax.specs.grammar.Trees.{Pattern, Name, Skip, Literal, ListPattern, StrandPattern, Patterns, no_patterns, and_patterns, Header, Expr, Value, Train, Modifier, Use, One, Two, Part, Leaf, Elements, Merge, Paren, Block, Field, Strand, Nothing, Step, Apply, Assign, Modify, Stmt, Eval, Predicate, Export, BlockTree, block, body, Derived, derived, MaybePart, none, some, Exprs, no_exprs, and_exprs, Uses, no_uses, and_uses, Parts, no_parts, and_parts, Steps, no_steps, and_steps, Stmts, no_stmts, and_stmts, Bodies, no_bodies, and_bodies, Deriveds, no_deriveds, and_deriveds}
use Rattle.bqn_syntax.specs.scope.Order.{How, Reads, Defines, Changes, Shows, by_arrow}
use Rattle.bqn_syntax.specs.scope.Mentions.{Mention, Named, Special, System, Inner, Mentions, no_mentions, and_mentions, Scopes, no_scopes, and_scopes, leaf_mention, pattern_mentions, patterns_mentions, token_mentions, argument_mentions, header_mentions, target_mentions, expr_mentions, part_mentions, block_mention, maybe_mentions, steps_mentions, step_mentions, derived_mentions, uses_mentions, use_mentions, deriveds_mentions, exprs_mentions, parts_mentions, stmt_mentions, stmts_mentions, scopes_of}
use Rattle.bqn_compile.proofs.verified.pools.Items.{Item, Alone, Fields, Taken, Opened, Shown, EveryItem, operand_items, named_items, argument_items, header_items, targets_items, target_item, expr_items, part_items, block_items, maybe_items, steps_items, step_items, derived_items, uses_items, use_items, deriveds_items, exprs_items, parts_items, stmts_items, stmt_items, bodies_items, body_items}
use Rattle.bqn_compile.proofs.verified.pools.WellItems.{every-append}

module _ (P : Mention → Type 0) where
  -- it holds of each name, special name and system name, also in the blocks
  abbrev mutual
    pub EveryMention : Mentions → Type 0
    EveryMention no_mentions = Unit {0}
    EveryMention (and_mentions m ms) = MentionHolds m × EveryMention ms

    pub MentionHolds : Mention → Type 0
    MentionHolds (Named how t) = P (Named how t)
    MentionHolds (Special t) = P (Special t)
    MentionHolds (System t) = P (System t)
    MentionHolds (Inner bodies) = InScopes bodies

    pub InScopes : Scopes → Type 0
    InScopes no_scopes = Unit {0}
    InScopes (and_scopes ms order bodies) = EveryMention ms × InScopes bodies

  abbrev pub KindMentioned : How → Kind → Token → Type 0
  KindMentioned how (kind.Word name r) t = P (Named how t)
  KindMentioned how (kind.Special s r) t = P (Special t)
  KindMentioned how (kind.System name r) t = P (System t)
  KindMentioned how k t = Unit {0}

  abbrev mutual
    pub PatternMentioned : How → Pattern → Type 0
    PatternMentioned how (Name t) = KindMentioned how t.kind t
    PatternMentioned how (Skip place) = Unit {0}
    PatternMentioned how (Literal t) = Unit {0}
    PatternMentioned how (ListPattern qs) = PatternsMentioned how qs
    PatternMentioned how (StrandPattern qs) = PatternsMentioned how qs

    pub PatternsMentioned : How → Patterns → Type 0
    PatternsMentioned how no_patterns = Unit {0}
    PatternsMentioned how (and_patterns q qs) = PatternMentioned how q × PatternsMentioned how qs

  abbrev pub ItemMentioned : Item → Type 0
  ItemMentioned (Alone how t) = KindMentioned how t.kind t
  ItemMentioned (Fields ts) = Unit {0}
  ItemMentioned (Taken l how q) = PatternMentioned how q
  ItemMentioned (Opened place n) = Unit {0}
  ItemMentioned (Shown q) = PatternMentioned Shows q

  -- it holds of these exactly where it holds of the mentions in front
  pub record Same (T : Type 0) (k ms : Mentions) : Type 0 where
    pub to : EveryMention ms → T × EveryMention k
    pub from : T → EveryMention k → EveryMention ms

  same_nothing : (k : Mentions) → Same (Unit {0}) k k
  same_nothing k = record { to = λ h. (tt, h); from = λ u h. h }

  kind_same : (how : How) (u : Kind) (t : Token) (k : Mentions) → Same (KindMentioned how u t) k (leaf_mention how u t k)
  kind_same how (kind.Word name r) t k = record { to = λ h. h; from = λ a h. (a, h) }
  kind_same how (kind.Special s r) t k = record { to = λ h. h; from = λ a h. (a, h) }
  kind_same how (kind.System name r) t k = record { to = λ h. h; from = λ a h. (a, h) }
  kind_same how u t k = same_nothing k

  mutual
    pattern_same : (how : How) (q : Pattern) (k : Mentions) → Same (PatternMentioned how q) k (pattern_mentions how q k)
    pattern_same how (Name t) k = kind_same how t.kind t k
    pattern_same how (Skip place) k = same_nothing k
    pattern_same how (Literal t) k = same_nothing k
    pattern_same how (ListPattern qs) k = patterns_same how qs k
    pattern_same how (StrandPattern qs) k = patterns_same how qs k

    patterns_same : (how : How) (qs : Patterns) (k : Mentions) → Same (PatternsMentioned how qs) k (patterns_mentions how qs k)
    patterns_same how no_patterns k = same_nothing k
    patterns_same how (and_patterns q qs) k =
        let a = pattern_same how q (patterns_mentions how qs k) in
        let b = patterns_same how qs k in
        record { to = λ h. let x = a.to h in let y = b.to x.1 in ((x.0, y.0), y.1); from = λ p h. a.from p.0 (b.from p.1 h) }

  abbrev Mentioned : List Item → (k ms : Mentions) → Type 0
  Mentioned xs k ms = Same (EveryItem ItemMentioned xs) k ms

  no_mention : (k : Mentions) → Mentioned [] k k
  no_mention k = same_nothing k

  every-front : (xs ys : List Item) → EveryItem ItemMentioned (xs ++ ys) → EveryItem ItemMentioned xs
  every-front [] ys h = tt
  every-front (x ∷ xs) ys h = (h.0, every-front xs ys h.1)

  every-back : (xs ys : List Item) → EveryItem ItemMentioned (xs ++ ys) → EveryItem ItemMentioned ys
  every-back [] ys h = h
  every-back (x ∷ xs) ys h = every-back xs ys h.1

  both : (xs ys : List Item) (k j ms : Mentions) → Mentioned xs j ms → Mentioned ys k j → Mentioned (xs ++ ys) k ms
  both xs ys k j ms a b = record {
    to = λ h. let x = a.to h in let y = b.to x.1 in (every-append ItemMentioned xs ys x.0 y.0, y.1);
    from = λ p h. a.from (every-front xs ys p) (b.from (every-back xs ys p) h);
  }

  alone : (x : Item) (k ms : Mentions) → Same (ItemMentioned x) k ms → Mentioned (x ∷ []) k ms
  alone x k ms a = record { to = λ h. let y = a.to h in ((y.0, tt), y.1); from = λ p h. a.from p.0 h }

  also : (x : Item) (ys : List Item) (k j ms : Mentions) → Same (ItemMentioned x) j ms → Mentioned ys k j → Mentioned (x ∷ ys) k ms
  also x ys k j ms a b = record { to = λ h. let x = a.to h in let y = b.to x.1 in ((x.0, y.0), y.1); from = λ p h. a.from p.0 (b.from p.1 h) }

  unmentioned : (ys : List Item) (x : Item) (k ms : Mentions) → ItemMentioned x → Mentioned ys k ms → Mentioned (ys ++ x ∷ []) k ms
  unmentioned ys x k ms u a = record { to = λ h. let y = a.to h in (every-append ItemMentioned ys (x ∷ []) y.0 (u, tt), y.1); from = λ p h. a.from (every-front ys (x ∷ []) p) h }

  operand_mentioned : (o : Option Token) (k : Mentions) → Mentioned (operand_items o) k (token_mentions Defines o k)
  operand_mentioned None k = no_mention k
  operand_mentioned (Some t) k = alone (Alone Defines t) k _ (kind_same Defines t.kind t k)

  targets_mentioned : (ts : List (Token × Arrow)) (k : Mentions) → Mentioned (targets_items ts) k (target_mentions ts k)
  targets_mentioned [] k = no_mention k
  targets_mentioned (t ∷ ts) k = also (Alone (by_arrow t.1) t.0) (targets_items ts) k (target_mentions ts k) _ (kind_same (by_arrow t.1) t.0.kind t.0 (target_mentions ts k)) (targets_mentioned ts k)

  target_mentioned : (how : How) (q : Pattern) (k : Mentions) → Mentioned (target_item how q ∷ []) k (pattern_mentions how q k)
  target_mentioned how (Name t) k = alone (Alone how t) k _ (pattern_same how (Name t) k)
  target_mentioned how (Skip place) k = alone (Taken false how (Skip place)) k _ (pattern_same how (Skip place) k)
  target_mentioned how (Literal t) k = alone (Taken false how (Literal t)) k _ (pattern_same how (Literal t) k)
  target_mentioned how (ListPattern qs) k = alone (Taken false how (ListPattern qs)) k _ (pattern_same how (ListPattern qs) k)
  target_mentioned how (StrandPattern qs) k = alone (Taken false how (StrandPattern qs)) k _ (pattern_same how (StrandPattern qs) k)

  pub record SameScopes (bs : Bodies) : Type 0 where
    pub to : InScopes (scopes_of bs) → EveryItem ItemMentioned (bodies_items bs)
    pub from : EveryItem ItemMentioned (bodies_items bs) → InScopes (scopes_of bs)

  -- special names are of no matter
  module _ (special : (t : Token) → P (Special t)) where
    kind_mentioned : (u : Kind) (t : Token) (k : Mentions) → t.kind ≡ u → Mentioned (Taken true Defines (Name t) ∷ []) k (leaf_mention Defines u t k)
    kind_mentioned u t k e = subst (λ (u : Kind). Mentioned (Taken true Defines (Name t) ∷ []) k (leaf_mention Defines u t k)) e (alone (Taken true Defines (Name t)) k _ (kind_same Defines t.kind t k))

    named_mentioned : (u : Kind) (t : Token) (k : Mentions) → t.kind ≡ u → Mentioned (named_items u t) k (leaf_mention Defines u t k)
    named_mentioned (kind.Special s r) t k e = record { to = λ h. (tt, h.1); from = λ p h. (special t, h) }
    named_mentioned u t k e = kind_mentioned u t k e

    argument_mentioned : (o : Option Pattern) (k : Mentions) → Mentioned (argument_items o) k (argument_mentions o k)
    argument_mentioned None k = no_mention k
    argument_mentioned (Some (Name t)) k = named_mentioned t.kind t k refl
    argument_mentioned (Some (Skip place)) k = alone (Taken true Defines (Skip place)) k _ (pattern_same Defines (Skip place) k)
    argument_mentioned (Some (Literal t)) k = alone (Taken true Defines (Literal t)) k _ (pattern_same Defines (Literal t) k)
    argument_mentioned (Some (ListPattern qs)) k = alone (Taken true Defines (ListPattern qs)) k _ (pattern_same Defines (ListPattern qs) k)
    argument_mentioned (Some (StrandPattern qs)) k = alone (Taken true Defines (StrandPattern qs)) k _ (pattern_same Defines (StrandPattern qs) k)

    header_mentioned : (h : Option Header) (k : Mentions) → Mentioned (header_items h) k (header_mentions h k)
    header_mentioned None k = no_mention k
    header_mentioned (Some h) k =
        let right = argument_mentions h.right k in
        let right_operand = token_mentions Defines h.right_operand right in
        let own = leaf_mention Defines h.own.kind h.own right_operand in
        both (argument_items h.left) _ k _ _ (argument_mentioned h.left (token_mentions Defines h.left_operand own))
        (both (operand_items h.left_operand) _ k own _ (operand_mentioned h.left_operand own)
        (also (Alone Defines h.own) _ k right_operand own (kind_same Defines h.own.kind h.own right_operand)
        (both (operand_items h.right_operand) _ k right right_operand (operand_mentioned h.right_operand right) (argument_mentioned h.right k))))

    -- ---- expressions and blocks

    mutual
      expr_mentioned : (e : Expr) (k : Mentions) → Mentioned (expr_items e) k (expr_mentions e k)
      expr_mentioned (Value last ss) k = both (steps_items ss) (maybe_items last) k (maybe_mentions last k) _ (steps_mentioned ss (maybe_mentions last k)) (maybe_mentioned last k)
      expr_mentioned (Train ts ds) k = both (targets_items ts) (deriveds_items ds) k (deriveds_mentions ds k) _ (targets_mentioned ts (deriveds_mentions ds k)) (deriveds_mentioned ds k)
      expr_mentioned (Modifier ts x) k = both (targets_items ts) (part_items x) k (part_mentions x k) _ (targets_mentioned ts (part_mentions x k)) (part_mentioned x k)

      part_mentioned : (x : Part) (k : Mentions) → Mentioned (part_items x) k (part_mentions x k)
      part_mentioned (Leaf t) k = alone (Alone Reads t) k _ (kind_same Reads t.kind t k)
      part_mentioned (Elements es) k = exprs_mentioned es k
      part_mentioned (Merge es) k = exprs_mentioned es k
      part_mentioned (Paren e) k = expr_mentioned e k
      part_mentioned (Block b) k = block_mentioned b k
      part_mentioned (Field base names) k = unmentioned (part_items base) (Fields names) k _ tt (part_mentioned base k)
      part_mentioned (Strand ps) k = parts_mentioned ps k
      part_mentioned (Nothing place) k = no_mention k

      block_mentioned : (b : BlockTree) (k : Mentions) → Mentioned (block_items b) k (block_mention b k)
      block_mentioned (block place c bs) k = let a = bodies_mentioned bs in record { to = λ h. ((tt, a.to h.0), h.1); from = λ p h. (a.from p.1, h) }

      maybe_mentioned : (o : MaybePart) (k : Mentions) → Mentioned (maybe_items o) k (maybe_mentions o k)
      maybe_mentioned none k = no_mention k
      maybe_mentioned (some x) k = part_mentioned x k

      steps_mentioned : (ss : Steps) (k : Mentions) → Mentioned (steps_items ss) k (steps_mentions ss k)
      steps_mentioned no_steps k = no_mention k
      steps_mentioned (and_steps s ss) k = both (steps_items ss) (step_items s) k (step_mentions s k) _ (steps_mentioned ss (step_mentions s k)) (step_mentioned s k)

      step_mentioned : (s : Step) (k : Mentions) → Mentioned (step_items s) k (step_mentions s k)
      step_mentioned (Apply f left) k = both (maybe_items left) (derived_items f) k (derived_mentions f k) _ (maybe_mentioned left (derived_mentions f k)) (derived_mentioned f k)
      step_mentioned (Assign q a) k = target_mentioned (by_arrow a) q k
      step_mentioned (Modify t f) k = also (Alone Changes t) (derived_items f) k (derived_mentions f k) _ (kind_same Changes t.kind t (derived_mentions f k)) (derived_mentioned f k)

      derived_mentioned : (d : Derived) (k : Mentions) → Mentioned (derived_items d) k (derived_mentions d k)
      derived_mentioned (derived x us) k = both (part_items x) (uses_items us) k (uses_mentions us k) _ (part_mentioned x (uses_mentions us k)) (uses_mentioned us k)

      uses_mentioned : (us : Uses) (k : Mentions) → Mentioned (uses_items us) k (uses_mentions us k)
      uses_mentioned no_uses k = no_mention k
      uses_mentioned (and_uses u us) k = both (use_items u) (uses_items us) k (uses_mentions us k) _ (use_mentioned u (uses_mentions us k)) (uses_mentioned us k)

      use_mentioned : (u : Use) (k : Mentions) → Mentioned (use_items u) k (use_mentions u k)
      use_mentioned (One m) k = part_mentioned m k
      use_mentioned (Two m x) k = both (part_items m) (part_items x) k (part_mentions x k) _ (part_mentioned m (part_mentions x k)) (part_mentioned x k)

      deriveds_mentioned : (ds : Deriveds) (k : Mentions) → Mentioned (deriveds_items ds) k (deriveds_mentions ds k)
      deriveds_mentioned no_deriveds k = no_mention k
      deriveds_mentioned (and_deriveds d ds) k = both (derived_items d) (deriveds_items ds) k (deriveds_mentions ds k) _ (derived_mentioned d (deriveds_mentions ds k)) (deriveds_mentioned ds k)

      exprs_mentioned : (es : Exprs) (k : Mentions) → Mentioned (exprs_items es) k (exprs_mentions es k)
      exprs_mentioned no_exprs k = no_mention k
      exprs_mentioned (and_exprs e es) k = both (expr_items e) (exprs_items es) k (exprs_mentions es k) _ (expr_mentioned e (exprs_mentions es k)) (exprs_mentioned es k)

      parts_mentioned : (ps : Parts) (k : Mentions) → Mentioned (parts_items ps) k (parts_mentions ps k)
      parts_mentioned no_parts k = no_mention k
      parts_mentioned (and_parts x xs) k = both (part_items x) (parts_items xs) k (parts_mentions xs k) _ (part_mentioned x (parts_mentions xs k)) (parts_mentioned xs k)

      stmt_mentioned : (s : Stmt) (k : Mentions) → Mentioned (stmt_items s) k (stmt_mentions s k)
      stmt_mentioned (Eval e) k = expr_mentioned e k
      stmt_mentioned (Predicate e) k = expr_mentioned e k
      stmt_mentioned (Export q) k = alone (Shown q) k _ (pattern_same Shows q k)

      pub stmts_mentioned : (ss : Stmts) (k : Mentions) → Mentioned (stmts_items ss) k (stmts_mentions ss k)
      stmts_mentioned no_stmts k = no_mention k
      stmts_mentioned (and_stmts s ss) k = both (stmt_items s) (stmts_items ss) k (stmts_mentions ss k) _ (stmt_mentioned s (stmts_mentions ss k)) (stmts_mentioned ss k)

      bodies_mentioned : (bs : Bodies) → SameScopes bs
      bodies_mentioned no_bodies = record { to = λ h. tt; from = λ h. tt }
      bodies_mentioned (and_bodies (body h ss) bs) =
          let a = both (header_items h) (stmts_items ss) no_mentions (stmts_mentions ss no_mentions) _ (header_mentioned h (stmts_mentions ss no_mentions)) (stmts_mentioned ss no_mentions) in
          let b = bodies_mentioned bs in
          record { to = λ p. every-append ItemMentioned (body_items (body h ss)) (bodies_items bs) (a.to p.0).0 (b.to p.1); from = λ p. (a.from (every-front (body_items (body h ss)) (bodies_items bs) p) tt, b.from (every-back (body_items (body h ss)) (bodies_items bs) p)) }
