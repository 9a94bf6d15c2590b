-- A program that is resolved has no special name outside its blocks.
use Rattle.std.proofs.Common.{◌≡◌, ℕ, Bool, true, false, List, [], ◌∷◌, None, Result, Ok, Err, refl, ap, subst, ◌∙◌}
use Rattle.std.proofs.lemmas.Bool.{true≢false}
use Rattle.bqn_base.specs.declared.refusal.Refusal.{Refusal}
use Rattle.bqn_base.specs.declared.refusal.Refusal.TheVariants as refusal
use Rattle.bqn_syntax.specs.declared.token.Kind.{Kind}
use Rattle.bqn_syntax.specs.declared.token.Kind.TheVariants as kind
use Rattle.bqn_syntax.specs.declared.token.Token.{Token}
use Rattle.bqn_syntax.specs.declared.tree.Arrow.{Arrow}
use Rattle.bqn_syntax.specs.grammar.Trees.{Pattern, Name, Skip, Literal, ListPattern, StrandPattern, Patterns, no_patterns, and_patterns, Expr, Value, Train, Modifier, Use, One, Two, Part, Leaf, Elements, Merge, Paren, Block as Braces, Field, Strand, Nothing, Step, Apply, Assign, Modify, Stmt, Eval, Predicate, Export, block, Derived, derived, MaybePart, none, some, Exprs, no_exprs, and_exprs, Uses, no_uses, and_uses, Parts, no_parts, and_parts, Steps, no_steps, and_steps, Stmts, no_stmts, and_stmts, Deriveds, no_deriveds, and_deriveds}
use Rattle.bqn_syntax.specs.grammar.Classes as seen
use Rattle.bqn_syntax.specs.grammar.Classes.{Seen, and, nothing}
use Rattle.bqn_syntax.specs.scope.Order.{How, Reads, Changes, Shows, by_arrow, order_of}
use Rattle.bqn_syntax.specs.scope.Mentions.{Mention, Named, Special, System, Inner, Mentions, no_mentions, and_mentions, leaf_mention, pattern_mentions, patterns_mentions, target_mentions, expr_mentions, part_mentions, maybe_mentions, steps_mentions, step_mentions, derived_mentions, uses_mentions, use_mentions, deriveds_mentions, exprs_mentions, parts_mentions, stmt_mentions, stmts_mentions, scopes_of}
use Rattle.bqn_syntax.specs.scope.Scope as scope
use Rattle.bqn_syntax.specs.scope.Scope.{Scope, top_scope, stands_in_block, and_on, unless, uses_of, uses_at, resolved}
use Rattle.bqn_syntax.specs.scope.Bodies.{BodyNames, Resolution, with_bodies, bodies_of, resolution}

no_error : {A : Type 0} {X : Type 0} {e : Refusal} {u : X} → Err e ≡ Ok u → A
no_error {X = X} p = absurd (subst (λ (o : Result X Refusal). elim o as (λ z. Type 0) [ Ok x ↦ ⊥ | Err r ↦ Unit {0} ]) p tt)

both : (s r : Seen) → s ≡ nothing → r ≡ nothing → and s r ≡ nothing
both s r p q = ap (λ (x : Seen). and x r) p ∙ ap (λ (x : Seen). and nothing x) q

-- with the bodies around a text, which stands in no block
module _ (scopes : List Scope) (outside : stands_in_block scopes ≡ false) (u : List scope.Use) where
  -- these mentions are resolved
  record Goes (k : Mentions) : Type 0 where
    uses : List scope.Use
    goes : uses_of scopes k uses ≡ Ok u

  -- no special name occurs, and what follows is resolved
  record Clear (s : Seen) (k : Mentions) : Type 0 where
    free : s ≡ nothing
    rest : Goes k

  next_goes : (o : Result (List scope.Use) Refusal) (k : Mentions) → and_on o (uses_of scopes k) ≡ Ok u → Goes k
  next_goes (Ok uses) k h = record { uses = uses; goes = h }
  next_goes (Err r) k h = no_error h

  behind : (m : Mention) (k : Mentions) → Goes (and_mentions m k) → Goes k
  behind m k h = next_goes (uses_at scopes m h.uses) k h.goes

  no_special : {A : Type 0} (t : Token) (k : Mentions) → Goes (and_mentions (Special t) k) → A
  no_special {A} t k h = by (stands_in_block scopes) outside h.goes
    where
      by : (b : Bool) → b ≡ false → and_on (unless b (refusal.Undeclared t.place) h.uses) (uses_of scopes k) ≡ Ok u → A
      by true p q = absurd (true≢false p)
      by false p q = no_error q

  leaf_clear : (how : How) (x : Kind) (t : Token) (k : Mentions) → Goes (leaf_mention how x t k) → Clear (seen.seen_in_kind x) k
  leaf_clear how (kind.Word name r) t k h = record { free = refl; rest = behind (Named how t) k h }
  leaf_clear how (kind.System name r) t k h = record { free = refl; rest = behind (System t) k h }
  leaf_clear how (kind.Special s r) t k h = no_special t k h
  leaf_clear how (kind.Number z) t k h = record { free = refl; rest = h }
  leaf_clear how (kind.Char c) t k h = record { free = refl; rest = h }
  leaf_clear how (kind.Text cs) t k h = record { free = refl; rest = h }
  leaf_clear how (kind.Given code) t k h = record { free = refl; rest = h }
  leaf_clear how (kind.Punct c) t k h = record { free = refl; rest = h }

  leaf_goes : (how : How) (x : Kind) (t : Token) (k : Mentions) → Goes (leaf_mention how x t k) → Goes k
  leaf_goes how x t k h = (leaf_clear how x t k h).rest

  mutual
    pattern_goes : (how : How) (q : Pattern) (k : Mentions) → Goes (pattern_mentions how q k) → Goes k
    pattern_goes how (Name t) k h = leaf_goes how t.kind t k h
    pattern_goes how (Skip place) k h = h
    pattern_goes how (Literal t) k h = h
    pattern_goes how (ListPattern qs) k h = patterns_go how qs k h
    pattern_goes how (StrandPattern qs) k h = patterns_go how qs k h

    patterns_go : (how : How) (qs : Patterns) (k : Mentions) → Goes (patterns_mentions how qs k) → Goes k
    patterns_go how no_patterns k h = h
    patterns_go how (and_patterns q qs) k h = patterns_go how qs k (pattern_goes how q (patterns_mentions how qs k) h)

  targets_go : (ts : List (Token × Arrow)) (k : Mentions) → Goes (target_mentions ts k) → Goes k
  targets_go [] k h = h
  targets_go (t ∷ ts) k h = targets_go ts k (leaf_goes (by_arrow t.1) t.0.kind t.0 (target_mentions ts k) h)

  mutual
    expr_clear : (e : Expr) (k : Mentions) → Goes (expr_mentions e k) → Clear (seen.seen_in_expr e) k
    expr_clear (Value last ss) k h =
        let first : Clear (seen.seen_in_steps ss) (maybe_mentions last k) = steps_clear ss (maybe_mentions last k) h in
        let next : Clear (seen.seen_in_maybe last) k = maybe_clear last k first.rest in
        record { free = both (seen.seen_in_maybe last) (seen.seen_in_steps ss) next.free first.free; rest = next.rest }
    expr_clear (Train targets ds) k h = deriveds_clear ds k (targets_go targets (deriveds_mentions ds k) h)
    expr_clear (Modifier targets x) k h = part_clear x k (targets_go targets (part_mentions x k) h)

    part_clear : (x : Part) (k : Mentions) → Goes (part_mentions x k) → Clear (seen.seen_in_part x) k
    part_clear (Leaf t) k h = leaf_clear Reads t.kind t k h
    part_clear (Elements es) k h = exprs_clear es k h
    part_clear (Merge es) k h = exprs_clear es k h
    part_clear (Paren e) k h = expr_clear e k h
    part_clear (Braces (block place c bs)) k h = record { free = refl; rest = behind (Inner (scopes_of bs)) k h }
    part_clear (Field base names) k h = part_clear base k h
    part_clear (Strand ps) k h = parts_clear ps k h
    part_clear (Nothing place) k h = record { free = refl; rest = h }

    maybe_clear : (x : MaybePart) (k : Mentions) → Goes (maybe_mentions x k) → Clear (seen.seen_in_maybe x) k
    maybe_clear none k h = record { free = refl; rest = h }
    maybe_clear (some x) k h = part_clear x k h

    steps_clear : (ss : Steps) (k : Mentions) → Goes (steps_mentions ss k) → Clear (seen.seen_in_steps ss) k
    steps_clear no_steps k h = record { free = refl; rest = h }
    steps_clear (and_steps s ss) k h =
        let first : Clear (seen.seen_in_steps ss) (step_mentions s k) = steps_clear ss (step_mentions s k) h in
        let next : Clear (seen.seen_in_step s) k = step_clear s k first.rest in
        record { free = both (seen.seen_in_step s) (seen.seen_in_steps ss) next.free first.free; rest = next.rest }

    step_clear : (s : Step) (k : Mentions) → Goes (step_mentions s k) → Clear (seen.seen_in_step s) k
    step_clear (Apply d left) k h =
        let first : Clear (seen.seen_in_maybe left) (derived_mentions d k) = maybe_clear left (derived_mentions d k) h in
        let next : Clear (seen.seen_in_derived d) k = derived_clear d k first.rest in
        record { free = both (seen.seen_in_derived d) (seen.seen_in_maybe left) next.free first.free; rest = next.rest }
    step_clear (Assign q a) k h = record { free = refl; rest = pattern_goes (by_arrow a) q k h }
    step_clear (Modify t d) k h = derived_clear d k (leaf_goes Changes t.kind t (derived_mentions d k) h)

    derived_clear : (d : Derived) (k : Mentions) → Goes (derived_mentions d k) → Clear (seen.seen_in_derived d) k
    derived_clear (derived x us) k h =
        let first : Clear (seen.seen_in_part x) (uses_mentions us k) = part_clear x (uses_mentions us k) h in
        let next : Clear (seen.seen_in_uses us) k = uses_clear us k first.rest in
        record { free = both (seen.seen_in_part x) (seen.seen_in_uses us) first.free next.free; rest = next.rest }

    uses_clear : (us : Uses) (k : Mentions) → Goes (uses_mentions us k) → Clear (seen.seen_in_uses us) k
    uses_clear no_uses k h = record { free = refl; rest = h }
    uses_clear (and_uses x us) k h =
        let first : Clear (seen.seen_in_use x) (uses_mentions us k) = use_clear x (uses_mentions us k) h in
        let next : Clear (seen.seen_in_uses us) k = uses_clear us k first.rest in
        record { free = both (seen.seen_in_use x) (seen.seen_in_uses us) first.free next.free; rest = next.rest }

    use_clear : (x : Use) (k : Mentions) → Goes (use_mentions x k) → Clear (seen.seen_in_use x) k
    use_clear (One m) k h = part_clear m k h
    use_clear (Two m x) k h =
        let first : Clear (seen.seen_in_part m) (part_mentions x k) = part_clear m (part_mentions x k) h in
        let next : Clear (seen.seen_in_part x) k = part_clear x k first.rest in
        record { free = both (seen.seen_in_part m) (seen.seen_in_part x) first.free next.free; rest = next.rest }

    deriveds_clear : (ds : Deriveds) (k : Mentions) → Goes (deriveds_mentions ds k) → Clear (seen.seen_in_deriveds ds) k
    deriveds_clear no_deriveds k h = record { free = refl; rest = h }
    deriveds_clear (and_deriveds d ds) k h =
        let first : Clear (seen.seen_in_derived d) (deriveds_mentions ds k) = derived_clear d (deriveds_mentions ds k) h in
        let next : Clear (seen.seen_in_deriveds ds) k = deriveds_clear ds k first.rest in
        record { free = both (seen.seen_in_derived d) (seen.seen_in_deriveds ds) first.free next.free; rest = next.rest }

    exprs_clear : (es : Exprs) (k : Mentions) → Goes (exprs_mentions es k) → Clear (seen.seen_in_exprs es) k
    exprs_clear no_exprs k h = record { free = refl; rest = h }
    exprs_clear (and_exprs e es) k h =
        let first : Clear (seen.seen_in_expr e) (exprs_mentions es k) = expr_clear e (exprs_mentions es k) h in
        let next : Clear (seen.seen_in_exprs es) k = exprs_clear es k first.rest in
        record { free = both (seen.seen_in_expr e) (seen.seen_in_exprs es) first.free next.free; rest = next.rest }

    parts_clear : (xs : Parts) (k : Mentions) → Goes (parts_mentions xs k) → Clear (seen.seen_in_parts xs) k
    parts_clear no_parts k h = record { free = refl; rest = h }
    parts_clear (and_parts x xs) k h =
        let first : Clear (seen.seen_in_part x) (parts_mentions xs k) = part_clear x (parts_mentions xs k) h in
        let next : Clear (seen.seen_in_parts xs) k = parts_clear xs k first.rest in
        record { free = both (seen.seen_in_part x) (seen.seen_in_parts xs) first.free next.free; rest = next.rest }

  stmt_clear : (s : Stmt) (k : Mentions) → Goes (stmt_mentions s k) → Clear (seen.seen_in_stmt s) k
  stmt_clear (Eval e) k h = expr_clear e k h
  stmt_clear (Predicate e) k h = expr_clear e k h
  stmt_clear (Export q) k h = record { free = refl; rest = pattern_goes Shows q k h }

  stmts_clear : (ss : Stmts) (k : Mentions) → Goes (stmts_mentions ss k) → Clear (seen.seen_in_stmts ss) k
  stmts_clear no_stmts k h = record { free = refl; rest = h }
  stmts_clear (and_stmts s ss) k h =
      let first : Clear (seen.seen_in_stmt s) (stmts_mentions ss k) = stmt_clear s (stmts_mentions ss k) h in
      let next : Clear (seen.seen_in_stmts ss) k = stmts_clear ss k first.rest in
      record { free = both (seen.seen_in_stmt s) (seen.seen_in_stmts ss) first.free next.free; rest = next.rest }

uses_there : (bodies : List BodyNames) (o : Result (List scope.Use) Refusal) (r : Resolution) → with_bodies bodies o ≡ Ok r → (u : List scope.Use) × (o ≡ Ok u)
uses_there bodies (Ok u) r h = (u, refl)
uses_there bodies (Err e) r h = no_error h

pub no_special_names : (outer : List (List ℕ)) (ss : Stmts) (r : Resolution) → resolution outer ss ≡ Ok r → seen.seen_in_stmts ss ≡ nothing
no_special_names outer ss r h =
    let k : Mentions = stmts_mentions ss no_mentions in
    let found : ((u : List scope.Use) × (resolved outer ss ≡ Ok u)) = uses_there (bodies_of outer ss) (resolved outer ss) r h in
    (stmts_clear (top_scope outer k (order_of None ss) ∷ []) refl found.0 ss no_mentions (record { uses = []; goes = found.1 })).free
