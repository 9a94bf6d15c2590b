-- Each token of a tree is one of the tokens that spell it, and it has no more of them.
use Rattle.std.proofs.Common.{◌≡◌, ◌≤◌, ◌+◌, ℕ, suc, Bool, true, false, List, [], ◌∷◌, ◌++◌, length, Option, Some, None, arith}
use Rattle.std.specs.List.{All}
use Rattle.bqn_base.specs.declared.place.Place.{Place}
use Rattle.bqn_syntax.specs.declared.token.Kind.{Kind}
use Rattle.bqn_syntax.specs.declared.token.Kind.TheVariants as kind
use Rattle.bqn_syntax.specs.declared.token.Token.{Token}
use Rattle.bqn_syntax.specs.declared.tree.Arrow.{Arrow}
use Rattle.bqn_syntax.specs.grammar.Trees.{Pattern, Name, Skip, Literal, ListPattern, StrandPattern, Patterns, no_patterns, and_patterns, Header, Expr, Value, Train, Modifier, Use, One, Two, Part, Leaf, Elements, Merge, Paren, Block, Field, Strand, Nothing, Step, Apply, Assign, Modify, Stmt, Eval, Predicate, Export, BlockTree, block, BodyTree, body, Derived, derived, MaybePart, none, some, Exprs, no_exprs, and_exprs, Uses, no_uses, and_uses, Parts, no_parts, and_parts, Steps, no_steps, and_steps, Stmts, no_stmts, and_stmts, Bodies, no_bodies, and_bodies, Deriveds, no_deriveds, and_deriveds}
use Rattle.bqn_syntax.specs.scope.Order.{How, Reads, Defines, Changes, by_arrow}
use Rattle.bqn_syntax.specs.blocks.Counting.{how_many}
use Rattle.bqn_syntax.specs.grammar.Classes.{is_predicate}
use Rattle.bqn_syntax.specs.grammar.Spells.{Sign, Exact, Mark, Apart, Gap, Fits, done, exact, mark, apart, one_more, no_more, arrow_code, mark_at, pattern_signs, listed_signs, listed_more, joined_signs, joined_more, token_signs, argument_signs, header_signs, target_signs, name_signs, expr_signs, part_signs, maybe_signs, steps_signs, step_signs, derived_signs, uses_signs, use_signs, deriveds_signs, exprs_signs, exprs_more, parts_signs, parts_more, stmt_signs, stmts_signs, body_signs, bodies_signs, bodies_more, block_signs}
use Rattle.bqn_compile.specs.Items.{AllTokens, PatternTokens, PatternsTokens}
use Rattle.bqn_compile.proofs.verified.pools.Items.{Item, Alone, Fields, Taken, Opened, Shown, EveryItem, operand_items, named_items, argument_items, header_items, targets_items, target_item, expr_items, part_items, block_items, maybe_items, steps_items, step_items, derived_items, uses_items, use_items, deriveds_items, exprs_items, parts_items, stmts_items, stmt_items, bodies_items, body_items}
use Rattle.bqn_compile.proofs.verified.pools.WellItems.{every-append}

-- ---- how many tokens

abbrev mutual
  pub pattern_size : Pattern → ℕ
  pattern_size (Name t) = 1
  pattern_size (Skip place) = 1
  pattern_size (Literal t) = 1
  pattern_size (ListPattern qs) = suc (patterns_size qs)
  pattern_size (StrandPattern qs) = patterns_size qs

  pub patterns_size : Patterns → ℕ
  patterns_size no_patterns = 0
  patterns_size (and_patterns q qs) = pattern_size q + more_size qs

  pub more_size : Patterns → ℕ
  more_size no_patterns = 0
  more_size (and_patterns q qs) = suc (pattern_size q + more_size qs)

abbrev pub item_size : Item → ℕ
item_size (Alone how t) = 1
item_size (Fields ts) = length ts
item_size (Taken l how q) = pattern_size q
item_size (Opened place n) = 1
item_size (Shown q) = pattern_size q

abbrev pub items_size : List Item → ℕ
items_size [] = 0
items_size (x ∷ xs) = item_size x + items_size xs

sizes-append : (xs ys : List Item) → items_size (xs ++ ys) ≡ items_size xs + items_size ys
sizes-append [] ys = omega arith
sizes-append (x ∷ xs) ys = omega (arith, sizes-append xs ys)

abbrev pub sign_size : List Sign → ℕ
sign_size [] = 0
sign_size (Exact t ∷ k) = suc (sign_size k)
sign_size (Mark c ∷ k) = suc (sign_size k)
sign_size (Apart ∷ k) = suc (sign_size k)
sign_size (Gap ∷ k) = sign_size k

pub fits_size : (signs : List Sign) (tokens : List Token) → Fits signs tokens → sign_size signs ≤ length tokens
fits_size _ _ done = omega arith
fits_size _ _ (exact f) = omega (arith, fits_size _ _ f)
fits_size _ _ (mark e f) = omega (arith, fits_size _ _ f)
fits_size _ _ (apart e f) = omega (arith, fits_size _ _ f)
fits_size _ _ (one_more e f) = omega (arith, fits_size _ _ f)
fits_size _ _ (no_more f) = fits_size _ _ f

module _ (P : Token → Type 0) where
  abbrev pub ExactsHold : List Sign → Type 0
  ExactsHold [] = Unit {0}
  ExactsHold (Exact t ∷ k) = P t × ExactsHold k
  ExactsHold (Mark c ∷ k) = ExactsHold k
  ExactsHold (Apart ∷ k) = ExactsHold k
  ExactsHold (Gap ∷ k) = ExactsHold k

  pub exacts_hold : (signs : List Sign) (tokens : List Token) → Fits signs tokens → All P tokens → ExactsHold signs
  exacts_hold _ _ done h = tt
  exacts_hold _ _ (exact {t = t} f) h = (h 0 t (omega arith), exacts_hold _ _ f (λ k d l. h (suc k) d (omega arith)))
  exacts_hold _ _ (mark e f) h = exacts_hold _ _ f (λ k d l. h (suc k) d (omega arith))
  exacts_hold _ _ (apart e f) h = exacts_hold _ _ f (λ k d l. h (suc k) d (omega arith))
  exacts_hold _ _ (one_more e f) h = exacts_hold _ _ f (λ k d l. h (suc k) d (omega arith))
  exacts_hold _ _ (no_more f) h = exacts_hold _ _ f h

  abbrev pub ItemTokens : Item → Type 0
  ItemTokens (Alone how t) = P t
  ItemTokens (Fields ts) = AllTokens P ts
  ItemTokens (Taken l how q) = PatternTokens P q
  ItemTokens (Opened place n) = Unit {0}
  ItemTokens (Shown q) = PatternTokens P q

  -- what the signs in front of these give, and how many there are
  pub record Front (T : Type 0) (n : ℕ) (k signs : List Sign) : Type 0 where
    pub tokens : ExactsHold signs → T × ExactsHold k
    pub sizes : n + sign_size k ≤ sign_size signs

  through : (T U : Type 0) (n m : ℕ) (k j s : List Sign) → Front T n j s → Front U m k j → Front (T × U) (n + m) k s
  through T U n m k j s a b = record { tokens = λ h. let x = a.tokens h in let y = b.tokens x.1 in ((x.0, y.0), y.1); sizes = omega (arith, a.sizes, b.sizes) }

  -- signs that give nothing, in front of others and behind them
  abbrev Passing : (k signs : List Sign) → Type 0
  Passing k signs = Front (Unit {0}) 0 k signs

  past_mark : (c : ℕ) (k : List Sign) → Passing k (Mark c ∷ k)
  past_mark c k = record { tokens = λ h. (tt, h); sizes = omega arith }

  past_gap : (k : List Sign) → Passing k (Gap ∷ k)
  past_gap k = record { tokens = λ h. (tt, h); sizes = omega arith }

  past_exact : (t : Token) (k : List Sign) → Passing k (Exact t ∷ k)
  past_exact t k = record { tokens = λ h. (tt, h.1); sizes = omega arith }

  behind : (T : Type 0) (n : ℕ) (k j s : List Sign) → Passing j s → Front T n k j → Front T n k s
  behind T n k j s a b = record { tokens = λ h. b.tokens (a.tokens h).1; sizes = omega (arith, a.sizes, b.sizes) }

  before : (T : Type 0) (n : ℕ) (k j s : List Sign) → Front T n j s → Passing k j → Front T n k s
  before T n k j s a b = record { tokens = λ h. let x = a.tokens h in (x.0, (b.tokens x.1).1); sizes = omega (arith, a.sizes, b.sizes) }

  -- ---- patterns

  mutual
    pub pattern_spelled : (q : Pattern) (k : List Sign) → Front (PatternTokens P q) (pattern_size q) k (pattern_signs q k)
    pattern_spelled (Name t) k = record { tokens = λ h. h; sizes = omega arith }
    pattern_spelled (Skip place) k = record { tokens = λ h. (tt, h.1); sizes = omega arith }
    pattern_spelled (Literal t) k = record { tokens = λ h. h; sizes = omega arith }
    pattern_spelled (ListPattern qs) k =
        let a = listed_spelled qs (Gap ∷ Mark 10217 ∷ k) in
        record { tokens = λ h. a.tokens h; sizes = omega (arith, a.sizes) }
    pattern_spelled (StrandPattern qs) k = joined_spelled qs k

    listed_spelled : (qs : Patterns) (k : List Sign) → Front (PatternsTokens P qs) (patterns_size qs) k (listed_signs qs k)
    listed_spelled no_patterns k = record { tokens = λ h. (tt, h); sizes = omega arith }
    listed_spelled (and_patterns q qs) k = through _ _ _ _ k (listed_more qs k) _ (pattern_spelled q (listed_more qs k)) (listed_more_spelled qs k)

    listed_more_spelled : (qs : Patterns) (k : List Sign) → Front (PatternsTokens P qs) (more_size qs) k (listed_more qs k)
    listed_more_spelled no_patterns k = record { tokens = λ h. (tt, h); sizes = omega arith }
    listed_more_spelled (and_patterns q qs) k =
        let a = through _ _ _ _ k (listed_more qs k) _ (pattern_spelled q (listed_more qs k)) (listed_more_spelled qs k) in
        record { tokens = λ h. a.tokens h; sizes = omega (arith, a.sizes) }

    joined_spelled : (qs : Patterns) (k : List Sign) → Front (PatternsTokens P qs) (patterns_size qs) k (joined_signs qs k)
    joined_spelled no_patterns k = record { tokens = λ h. (tt, h); sizes = omega arith }
    joined_spelled (and_patterns q qs) k = through _ _ _ _ k (joined_more qs k) _ (pattern_spelled q (joined_more qs k)) (joined_more_spelled qs k)

    joined_more_spelled : (qs : Patterns) (k : List Sign) → Front (PatternsTokens P qs) (more_size qs) k (joined_more qs k)
    joined_more_spelled no_patterns k = record { tokens = λ h. (tt, h); sizes = omega arith }
    joined_more_spelled (and_patterns q qs) k =
        let a = through _ _ _ _ k (joined_more qs k) _ (pattern_spelled q (joined_more qs k)) (joined_more_spelled qs k) in
        record { tokens = λ h. a.tokens h; sizes = omega (arith, a.sizes) }

  -- ---- lists of what a tree has

  -- these stand in the signs in front
  abbrev pub Gives : List Item → (k signs : List Sign) → Type 0
  Gives xs k signs = Front (EveryItem ItemTokens xs) (items_size xs) k signs

  gives_nothing : (k : List Sign) → Gives [] k k
  gives_nothing k = record { tokens = λ h. (tt, h); sizes = omega arith }

  gives_both : (xs ys : List Item) (k j s : List Sign) → Gives xs j s → Gives ys k j → Gives (xs ++ ys) k s
  gives_both xs ys k j s a b =
      record { tokens = λ h. let x = a.tokens h in let y = b.tokens x.1 in (every-append ItemTokens xs ys x.0 y.0, y.1); sizes = omega (arith, a.sizes, b.sizes, sizes-append xs ys) }

  gives_exact : (how : How) (t : Token) (ys : List Item) (k j : List Sign) → Gives ys k j → Gives (Alone how t ∷ ys) k (Exact t ∷ j)
  gives_exact how t ys k j a = record { tokens = λ h. let y = a.tokens h.1 in ((h.0, y.0), y.1); sizes = omega (arith, a.sizes) }

  gives_taken : (l : Bool) (how : How) (q : Pattern) (k : List Sign) → Gives (Taken l how q ∷ []) k (pattern_signs q k)
  gives_taken l how q k = let a = pattern_spelled q k in record { tokens = λ h. let x = a.tokens h in ((x.0, tt), x.1); sizes = omega (arith, a.sizes) }

  gives_shown : (q : Pattern) (k : List Sign) → Gives (Shown q ∷ []) k (pattern_signs q k)
  gives_shown q k = let a = pattern_spelled q k in record { tokens = λ h. let x = a.tokens h in ((x.0, tt), x.1); sizes = omega (arith, a.sizes) }

  fields_spelled : (ts : List Token) (k : List Sign) → Front (AllTokens P ts) (length ts) k (name_signs ts k)
  fields_spelled [] k = record { tokens = λ h. (tt, h); sizes = omega arith }
  fields_spelled (t ∷ ts) k = let a = fields_spelled ts k in record { tokens = λ h. let x = a.tokens h.1 in ((h.0, x.0), x.1); sizes = omega (arith, a.sizes) }

  gives_fields : (ts : List Token) (k : List Sign) → Gives (Fields ts ∷ []) k (name_signs ts k)
  gives_fields ts k = let a = fields_spelled ts k in record { tokens = λ h. let x = a.tokens h in ((x.0, tt), x.1); sizes = omega (arith, a.sizes) }

  gives_opened : (place at : Place) (n : ℕ) (ys : List Item) (k j : List Sign) → Gives ys k j → Gives (Opened place n ∷ ys) k (Exact (mark_at 123 at) ∷ j)
  gives_opened place at n ys k j a = record { tokens = λ h. let y = a.tokens h.1 in ((tt, y.0), y.1); sizes = omega (arith, a.sizes) }

  -- ---- headers and targets

  operand_gives : (o : Option Token) (k : List Sign) → Gives (operand_items o) k (token_signs o k)
  operand_gives None k = gives_nothing k
  operand_gives (Some t) k = gives_exact Defines t [] k k (gives_nothing k)

  named_gives : (u : Kind) (t : Token) (k : List Sign) → Gives (named_items u t) k (Exact t ∷ k)
  named_gives (kind.Special s r) t k = past_exact t k
  named_gives u t k = gives_taken true Defines (Name t) k

  argument_gives : (o : Option Pattern) (k : List Sign) → Gives (argument_items o) k (argument_signs o k)
  argument_gives None k = gives_nothing k
  argument_gives (Some (Name t)) k = named_gives t.kind t k
  argument_gives (Some (Skip place)) k = gives_taken true Defines (Skip place) k
  argument_gives (Some (Literal t)) k = gives_taken true Defines (Literal t) k
  argument_gives (Some (ListPattern qs)) k = gives_taken true Defines (ListPattern qs) k
  argument_gives (Some (StrandPattern qs)) k = gives_taken true Defines (StrandPattern qs) k

  header_gives : (h : Header) (k : List Sign) → Gives (header_items (Some h)) k (header_signs h k)
  header_gives h k =
      let right = argument_signs h.right k in
      let right_operand = token_signs h.right_operand right in
      gives_both (argument_items h.left) _ k _ _ (argument_gives h.left (token_signs h.left_operand (Exact h.own ∷ right_operand)))
      (gives_both (operand_items h.left_operand) _ k _ _ (operand_gives h.left_operand (Exact h.own ∷ right_operand))
      (gives_exact Defines h.own _ k right_operand
      (gives_both (operand_items h.right_operand) _ k right right_operand (operand_gives h.right_operand right) (argument_gives h.right k))))

  targets_give : (ts : List (Token × Arrow)) (k : List Sign) → Gives (targets_items ts) k (target_signs ts k)
  targets_give [] k = gives_nothing k
  targets_give (t ∷ ts) k = gives_exact (by_arrow t.1) t.0 (targets_items ts) k _ (behind _ _ k (target_signs ts k) _ (past_mark (arrow_code t.1) (target_signs ts k)) (targets_give ts k))

  target_gives : (how : How) (q : Pattern) (k : List Sign) → Gives (target_item how q ∷ []) k (pattern_signs q k)
  target_gives how (Name t) k = gives_exact how t [] k k (gives_nothing k)
  target_gives how (Skip place) k = gives_taken false how (Skip place) k
  target_gives how (Literal t) k = gives_taken false how (Literal t) k
  target_gives how (ListPattern qs) k = gives_taken false how (ListPattern qs) k
  target_gives how (StrandPattern qs) k = gives_taken false how (StrandPattern qs) k

  -- in a bracket
  enclosed : (xs : List Item) (front back : ℕ) (k s : List Sign) → Gives xs (Gap ∷ Mark back ∷ k) s → Gives xs k (Mark front ∷ Gap ∷ s)
  enclosed xs front back k s a = record { tokens = λ h. a.tokens h; sizes = omega (arith, a.sizes) }

  marked : (xs : List Item) (c : ℕ) (k s : List Sign) → Gives xs (Mark c ∷ k) s → Gives xs k s
  marked xs c k s a = record { tokens = λ h. a.tokens h; sizes = omega (arith, a.sizes) }

  opened : (xs : List Item) (c : ℕ) (k s : List Sign) → Gives xs k s → Gives xs k (Mark c ∷ s)
  opened xs c k s a = record { tokens = λ h. a.tokens h; sizes = omega (arith, a.sizes) }

  gapped : (xs : List Item) (k s : List Sign) → Gives xs k s → Gives xs k (Gap ∷ s)
  gapped xs k s a = record { tokens = λ h. a.tokens h; sizes = a.sizes }

  apart_given : (xs : List Item) (k s : List Sign) → Gives xs k s → Gives xs k (Apart ∷ Gap ∷ s)
  apart_given xs k s a = record { tokens = λ h. a.tokens h; sizes = omega (arith, a.sizes) }

  -- ---- expressions and blocks

  mutual
    pub expr_gives : (e : Expr) (k : List Sign) → Gives (expr_items e) k (expr_signs e k)
    expr_gives (Value last ss) k = gives_both (steps_items ss) (maybe_items last) k (maybe_signs last k) _ (steps_give ss (maybe_signs last k)) (maybe_gives last k)
    expr_gives (Train ts ds) k = gives_both (targets_items ts) (deriveds_items ds) k (deriveds_signs ds k) _ (targets_give ts (deriveds_signs ds k)) (deriveds_give ds k)
    expr_gives (Modifier ts x) k = gives_both (targets_items ts) (part_items x) k (part_signs x k) _ (targets_give ts (part_signs x k)) (part_gives x k)

    pub part_gives : (x : Part) (k : List Sign) → Gives (part_items x) k (part_signs x k)
    part_gives (Leaf t) k = gives_exact Reads t [] k k (gives_nothing k)
    part_gives (Elements es) k = enclosed (exprs_items es) 10216 10217 k (exprs_signs es (Gap ∷ Mark 10217 ∷ k)) (exprs_give es (Gap ∷ Mark 10217 ∷ k))
    part_gives (Merge es) k = enclosed (exprs_items es) 91 93 k (exprs_signs es (Gap ∷ Mark 93 ∷ k)) (exprs_give es (Gap ∷ Mark 93 ∷ k))
    part_gives (Paren e) k = opened (expr_items e) 40 k _ (marked (expr_items e) 41 k (expr_signs e (Mark 41 ∷ k)) (expr_gives e (Mark 41 ∷ k)))
    part_gives (Block b) k = block_gives b k
    part_gives (Field base names) k = gives_both (part_items base) (Fields names ∷ []) k (name_signs names k) _ (part_gives base (name_signs names k)) (gives_fields names k)
    part_gives (Strand ps) k = parts_give ps k
    part_gives (Nothing place) k = past_exact (mark_at 183 place) k

    block_gives : (b : BlockTree) (k : List Sign) → Gives (block_items b) k (block_signs b k)
    block_gives (block place c bs) k = gives_opened place place (how_many bs) (bodies_items bs) k _ (marked (bodies_items bs) 125 k (bodies_signs bs (Mark 125 ∷ k)) (bodies_give bs (Mark 125 ∷ k)))

    maybe_gives : (o : MaybePart) (k : List Sign) → Gives (maybe_items o) k (maybe_signs o k)
    maybe_gives none k = gives_nothing k
    maybe_gives (some x) k = part_gives x k

    steps_give : (ss : Steps) (k : List Sign) → Gives (steps_items ss) k (steps_signs ss k)
    steps_give no_steps k = gives_nothing k
    steps_give (and_steps s ss) k = gives_both (steps_items ss) (step_items s) k (step_signs s k) _ (steps_give ss (step_signs s k)) (step_gives s k)

    step_gives : (s : Step) (k : List Sign) → Gives (step_items s) k (step_signs s k)
    step_gives (Apply f left) k = gives_both (maybe_items left) (derived_items f) k (derived_signs f k) _ (maybe_gives left (derived_signs f k)) (derived_gives f k)
    step_gives (Assign q a) k = marked (target_item (by_arrow a) q ∷ []) (arrow_code a) k _ (target_gives (by_arrow a) q (Mark (arrow_code a) ∷ k))
    step_gives (Modify t f) k = gives_exact Changes t (derived_items f) k _ (marked (derived_items f) 8617 k _ (derived_gives f (Mark 8617 ∷ k)))

    derived_gives : (d : Derived) (k : List Sign) → Gives (derived_items d) k (derived_signs d k)
    derived_gives (derived x us) k = gives_both (part_items x) (uses_items us) k (uses_signs us k) _ (part_gives x (uses_signs us k)) (uses_give us k)

    uses_give : (us : Uses) (k : List Sign) → Gives (uses_items us) k (uses_signs us k)
    uses_give no_uses k = gives_nothing k
    uses_give (and_uses u us) k = gives_both (use_items u) (uses_items us) k (uses_signs us k) _ (use_gives u (uses_signs us k)) (uses_give us k)

    use_gives : (u : Use) (k : List Sign) → Gives (use_items u) k (use_signs u k)
    use_gives (One m) k = part_gives m k
    use_gives (Two m x) k = gives_both (part_items m) (part_items x) k (part_signs x k) _ (part_gives m (part_signs x k)) (part_gives x k)

    deriveds_give : (ds : Deriveds) (k : List Sign) → Gives (deriveds_items ds) k (deriveds_signs ds k)
    deriveds_give no_deriveds k = gives_nothing k
    deriveds_give (and_deriveds d ds) k = gives_both (derived_items d) (deriveds_items ds) k (deriveds_signs ds k) _ (derived_gives d (deriveds_signs ds k)) (deriveds_give ds k)

    exprs_give : (es : Exprs) (k : List Sign) → Gives (exprs_items es) k (exprs_signs es k)
    exprs_give no_exprs k = gives_nothing k
    exprs_give (and_exprs e es) k = gives_both (expr_items e) (exprs_items es) k (exprs_more es k) _ (expr_gives e (exprs_more es k)) (exprs_more_give es k)

    exprs_more_give : (es : Exprs) (k : List Sign) → Gives (exprs_items es) k (exprs_more es k)
    exprs_more_give no_exprs k = gives_nothing k
    exprs_more_give (and_exprs e es) k = apart_given (exprs_items (and_exprs e es)) k _ (gives_both (expr_items e) (exprs_items es) k (exprs_more es k) _ (expr_gives e (exprs_more es k)) (exprs_more_give es k))

    parts_give : (ps : Parts) (k : List Sign) → Gives (parts_items ps) k (parts_signs ps k)
    parts_give no_parts k = gives_nothing k
    parts_give (and_parts x xs) k = gives_both (part_items x) (parts_items xs) k (parts_more xs k) _ (part_gives x (parts_more xs k)) (parts_more_give xs k)

    parts_more_give : (ps : Parts) (k : List Sign) → Gives (parts_items ps) k (parts_more ps k)
    parts_more_give no_parts k = gives_nothing k
    parts_more_give (and_parts x xs) k = opened (parts_items (and_parts x xs)) 8255 k _ (gives_both (part_items x) (parts_items xs) k (parts_more xs k) _ (part_gives x (parts_more xs k)) (parts_more_give xs k))

    stmt_gives : (s : Stmt) (k : List Sign) → Gives (stmt_items s) k (stmt_signs s k)
    stmt_gives (Eval e) k = expr_gives e k
    stmt_gives (Predicate e) k = marked (expr_items e) 63 k _ (expr_gives e (Mark 63 ∷ k))
    stmt_gives (Export q) k = marked (Shown q ∷ []) 8656 k _ (gives_shown q (Mark 8656 ∷ k))

    pub stmts_give : (b : Bool) (ss : Stmts) (k : List Sign) → Gives (stmts_items ss) k (stmts_signs b ss k)
    stmts_give b no_stmts k = gives_nothing k
    stmts_give true (and_stmts s ss) k = gapped (stmts_items (and_stmts s ss)) k _ (gives_both (stmt_items s) (stmts_items ss) k (stmts_signs (is_predicate s) ss k) _ (stmt_gives s (stmts_signs (is_predicate s) ss k)) (stmts_give (is_predicate s) ss k))
    stmts_give false (and_stmts s ss) k = apart_given (stmts_items (and_stmts s ss)) k _ (gives_both (stmt_items s) (stmts_items ss) k (stmts_signs (is_predicate s) ss k) _ (stmt_gives s (stmts_signs (is_predicate s) ss k)) (stmts_give (is_predicate s) ss k))

    body_gives : (b : BodyTree) (k : List Sign) → Gives (body_items b) k (body_signs b k)
    body_gives (body None ss) k = before _ _ k (Gap ∷ k) _ (stmts_give true ss (Gap ∷ k)) (past_gap k)
    body_gives (body (Some h) ss) k =
        let s = stmts_signs true ss (Gap ∷ k) in
        gapped (body_items (body (Some h) ss)) k _ (gives_both (header_items (Some h)) (stmts_items ss) k s _ (marked (header_items (Some h)) 58 s _ (header_gives h (Mark 58 ∷ s))) (before _ _ k (Gap ∷ k) s (stmts_give true ss (Gap ∷ k)) (past_gap k)))

    bodies_give : (bs : Bodies) (k : List Sign) → Gives (bodies_items bs) k (bodies_signs bs k)
    bodies_give no_bodies k = gives_nothing k
    bodies_give (and_bodies b bs) k = gives_both (body_items b) (bodies_items bs) k (bodies_more bs k) _ (body_gives b (bodies_more bs k)) (bodies_more_give bs k)

    bodies_more_give : (bs : Bodies) (k : List Sign) → Gives (bodies_items bs) k (bodies_more bs k)
    bodies_more_give no_bodies k = gives_nothing k
    bodies_more_give (and_bodies b bs) k = opened (bodies_items (and_bodies b bs)) 59 k _ (gives_both (body_items b) (bodies_items bs) k (bodies_more bs k) _ (body_gives b (bodies_more bs k)) (bodies_more_give bs k))
