-- The blocks and bodies of a code are those of its source, one by one, and of each body is known what its code has.
use Rattle.std.proofs.Common.{◌≡◌, ℕ, suc, ◌+◌, ◌<◌, ◌≤◌, Bool, true, List, [], ◌∷◌, ◌++◌, length, slice_get, Option, Some, refl, sym, subst, ap, ◌∙◌, arith}
use Rattle.bqn_syntax.specs.declared.sort.Tag.TheVariants as tag
use Rattle.bqn_syntax.specs.grammar.Trees.{Expr, Value, Train, Modifier, Use, One, Two, Part, Leaf, Elements, Merge, Paren, Block as Braces, Field, Strand, Nothing, Step, Apply, Assign, Modify, BlockTree, block, Derived, derived, MaybePart, none, some, Bodies, Exprs, no_exprs, and_exprs, Uses, no_uses, and_uses, Parts, no_parts, and_parts, Steps, no_steps, and_steps, Deriveds, no_deriveds, and_deriveds, Header, Stmts, no_stmts, and_stmts, Eval, Predicate, Export}
use Rattle.bqn_syntax.specs.grammar.Sorts.{tag as tag_of}
use Rattle.bqn_syntax.specs.grammar.Well.{WellExpr, WellPart, WellSteps, WellStep, WellDerived, WellUses, WellUse, WellDeriveds, WellExprs, WellParts, WellStmts}
use Rattle.bqn_syntax.specs.scope.Order.{Reads, Changes}
use Rattle.bqn_syntax.specs.scope.Mentions.{Mentions, no_mentions, expr_mentions, part_mentions, block_mention, maybe_mentions, steps_mentions, step_mentions, derived_mentions, uses_mentions, use_mentions, deriveds_mentions, exprs_mentions, parts_mentions, stmt_mentions, stmts_mentions, scopes_of}
use Rattle.bqn_syntax.specs.scope.Scope as scope
use Rattle.bqn_syntax.specs.scope.Scope.{Scope, name_of, spelling, same_name, has as has_name, place_of, system_names}
use Rattle.bqn_syntax.specs.blocks.Blocks.{Numbered}
use Rattle.bqn_syntax.specs.scope.Bodies.{BodyNames}
use Rattle.bqn_code.specs.declared.code.Block.{Block}
use Rattle.bqn_code.specs.Plain.{Code}
use Rattle.bqn_compile.specs.declared.count.Count.{Count}
use Rattle.bqn_compile.specs.Counting.{past, one_block, in_token, in_targets, in_expr, in_part, in_block, in_maybe, in_steps, in_step, in_derived, in_uses, in_use, in_deriveds, in_exprs, in_parts, in_stmts, in_header}
use Rattle.bqn_compile.specs.Expressions.{Setting, at_lead}
use Rattle.bqn_simulation.proofs.standing.PlacedCodes.{placed_is}
use Rattle.bqn_execution.specs.Execution.{placed_code}
use Rattle.bqn_syntax.specs.blocks.Leads.{at_start}
use Rattle.bqn_syntax.specs.blocks.Counting.{how_many}
use Rattle.bqn_syntax.specs.blocks.Blocks.{plain_in}
use Rattle.bqn_compile.specs.Blocks.{bodies_code, expr_blocks, part_blocks, blocks_from, maybe_blocks, steps_blocks, step_blocks, derived_blocks, uses_blocks, use_blocks, deriveds_blocks, exprs_blocks, parts_blocks, stmts_blocks}
use Rattle.bqn_compile.proofs.Counts.{past-nothing}
use Rattle.bqn_compile.proofs.verified.pools.Items.{Item, EachItem, expr_items, part_items, block_items, maybe_items, steps_items, step_items, derived_items, uses_items, use_items, deriveds_items, exprs_items, parts_items, stmts_items, header_items, bodies_items}
use Rattle.bqn_compile.proofs.verified.pools.CodePasses.{each_front, each_back, steps_counted, part_counted, maybe_counted, derived_counted, use_counted, expr_counted, targets_counted}
use Rattle.bqn_compile.proofs.verified.blocks.BlockCounts.{Counts, NoBlocks, targets_none, token_none, expr_counts, part_counts, maybe_counts, steps_counts, derived_counts, use_counts}
use Rattle.bqn_compile.proofs.verified.blocks.BlockPlaces.{Stand, stand_front, stand_past}
use Rattle.bqn_simulation.proofs.standing.Mentioned.{InsideSeen}
use Rattle.bqn_simulation.proofs.standing.MentionedBodies.{count_bodies}
use Rattle.bqn_simulation.proofs.running.Told as told
use Rattle.bqn_syntax.specs.grammar.Trees.{body, no_bodies, and_bodies, Stmt}
use Rattle.bqn_syntax.specs.declared.token.Token.{Token}
use Rattle.bqn_syntax.specs.scope.Order.{How, order_of}
use Rattle.bqn_syntax.specs.scope.Scope.{names_of, block_scope}
use Rattle.bqn_syntax.specs.blocks.Counting as sc'
use Rattle.bqn_syntax.specs.blocks.Blocks as source
use Rattle.bqn_syntax.specs.blocks.Blocks.{scopes_of as around_of, and_plain, numbered, mentions_of}
use Rattle.bqn_syntax.specs.scope.Bodies.{exports_of, body_names}
use Rattle.bqn_syntax.specs.grammar.Well.{WellStmt, WellBodies, WellBlock}
use Rattle.bqn_code.specs.declared.code.Body.{Body}
use Rattle.bqn_compile.specs.Bodies.{kind_code, names_in, exports_code, put_header, put_stmts, body_code, calls_of}
use Rattle.bqn_compile.specs.Blocks.{stmt_blocks, bodies_blocks}
use Rattle.bqn_compile.specs.Counting.{in_body, in_stmt}
use Rattle.bqn_compile.proofs.verified.pools.Items.{stmt_items}
use Rattle.bqn_compile.proofs.verified.blocks.BlockCounts.{bodies_in, many_bodies, header_none, stmt_counts, body_counts}
use Rattle.bqn_compile.proofs.verified.blocks.BlockPlaces.{stand_behind}
use Rattle.bqn_compile.proofs.verified.pools.CodePasses.{header_counted, stmt_counted, body_counted}
use Rattle.std.proofs.lemmas.Option.{none-some}
use Rattle.bqn_simulation.proofs.standing.Exported.{AllExported, InsideExported}
use Rattle.bqn_simulation.proofs.standing.Named.{BlockNamed, InsideNamed}
use Rattle.bqn_simulation.proofs.standing.MentionedUses.{body_uses}
use Rattle.bqn_simulation.proofs.standing.MentionedBodies.{body_many}
use Rattle.bqn_simulation.proofs.running.BlockCounts as blocks
use Rattle.bqn_simulation.proofs.standing.BodyCounts as bodies
use Rattle.bqn_simulation.proofs.standing.Tells as tells
use Rattle.bqn_simulation.proofs.standing.Tells.{Tell, ItemPooled}

module _ (uses : List scope.Use) (code : Code) (names : List BodyNames) (top : Scope) (before_blocks before_bodies : ℕ) where
  abbrev pub g : Setting
  g = record { uses = uses; constants = code.constants; names = code.names }

  -- ---- what matches

  -- the names of a body, which stands in the body with that number
  pub record BodyAround (k : ℕ) (b : Numbered) : Type 0 where
    pub parent : ℕ
    pub mentions : Mentions
    pub order : List (How × Token)
    pub inner : 0 < k
    pub number_is : b.number ≡ before_bodies + k
    pub scope_is : b.scope ≡ block_scope mentions order
    pub there : slice_get names k ≡ Some (body_names parent (block_scope mentions order) mentions)

  -- the bodies around, from the inside: that with this number, those around it, and the top body
  abbrev pub Chain : List Numbered → ℕ → Type 0
  Chain [] k = ⊥
  Chain (b ∷ []) k = (b.number ≡ 0) × (b.scope ≡ top) × (k ≡ 0)
  Chain (b ∷ c ∷ scopes) k = (own : BodyAround k b) × Chain (c ∷ scopes) own.parent

  pub record BodyMatches (n k : ℕ) (b : source.Body) (y : Body) : Type 0 where
    pub own_number : b.own.number ≡ before_bodies + k
    pub mentions : Mentions
    pub chain : Chain (around_of b) k
    pub inner : 0 < k
    pub there : slice_get names k ≡ Some (body_names n b.own.scope mentions)
    pub pooled : AllExported code.names mentions
    pub kind : y.kind ≡ kind_code b.calls
    pub slots : y.slots ≡ length (names_of b.own.scope)
    pub exported : b.exported ≡ source.exported_names b.own.scope mentions
    pub exports_are : y.exports ≡ exports_code code.names (exports_of (names_of b.own.scope) mentions [])
    pub count : Count
    pub inside : b.inside ≡ before_blocks + (past count (in_header b.header)).blocks
    pub code_is : placed_code y ≡ put_header at_lead uses count b.header ++ put_stmts at_lead g b.exports (λ i. (i, at_start)) (past count (in_header b.header)) b.statements
    pub header : told.HeaderTold (around_of b) uses code count b.header
    pub statements : told.StmtsTold (around_of b) uses code (past count (in_header b.header)) b.statements

  abbrev pub BodiesMatch : ℕ → ℕ → List source.Body → List Body → Type 0
  BodiesMatch n k [] [] = Unit {0}
  BodiesMatch n k (b ∷ bs) (y ∷ ys) = BodyMatches n k b y × BodiesMatch n (suc k) bs ys
  BodiesMatch n k _ _ = ⊥

  pub record BlockMatches (first : ℕ) (b : source.Block) (x : Block) : Type 0 where
    pub class : b.class ≡ x.class
    pub each : BodiesMatch x.parent first b.bodies x.bodies

  abbrev pub BlocksMatch : ℕ → List source.Block → List Block → Type 0
  BlocksMatch first [] [] = Unit {0}
  BlocksMatch first (b ∷ bs) (x ∷ xs) = BlockMatches first b x × BlocksMatch (first + length x.bodies) bs xs
  BlocksMatch first _ _ = ⊥

  at_first : (a b : ℕ) (bs : List source.Block) (xs : List Block) → a ≡ b → BlocksMatch a bs xs → BlocksMatch b bs xs
  at_first a b bs xs e h = subst (λ z. BlocksMatch z bs xs) e h

  plus : (a b d : ℕ) → a + (b + d) ≡ (a + b) + d
  plus a b d = omega arith

  none_more : (a : ℕ) → a + 0 ≡ a
  none_more a = omega arith

  match_append : (first : ℕ) (bs ys : List source.Block) (xs zs : List Block) → BlocksMatch first bs xs → BlocksMatch (first + bodies_in xs) ys zs → BlocksMatch first (bs ++ ys) (xs ++ zs)
  match_append first [] ys [] zs h k = at_first (first + 0) first ys zs (none_more first) k
  match_append first (b ∷ bs) ys (x ∷ xs) zs h k = (h.0, match_append (first + length x.bodies) bs ys xs zs h.1 (at_first (first + (length x.bodies + bodies_in xs)) ((first + length x.bodies) + bodies_in xs) ys zs (plus first (length x.bodies) (bodies_in xs)) k))
  match_append first [] ys (x ∷ xs) zs h k = elim h [ ]
  match_append first (b ∷ bs) ys [] zs h k = elim h [ ]

  -- ---- where source and code are

  pub record Agrees (c : Count) (so : sc'.Count) : Type 0 where
    pub blocks : so.blocks ≡ before_blocks + c.blocks
    pub bodies : so.bodies ≡ before_bodies + c.bodies
    pub some : 0 < c.bodies

  past_agrees : (c d : Count) (so sd : sc'.Count) → d.blocks ≡ sd.blocks → d.bodies ≡ sd.bodies → Agrees c so → Agrees (past c d) (sc'.past so sd)
  past_agrees c d so sd e q a = record { blocks = omega (arith, e, a.blocks); bodies = omega (arith, q, a.bodies); some = omega (arith, a.some) }

  none_agrees : (c d : Count) (so : sc'.Count) → NoBlocks d → Agrees c so → Agrees (past c d) so
  none_agrees c d so h a = record { blocks = omega (arith, h.blocks, a.blocks); bodies = omega (arith, h.bodies, a.bodies); some = omega (arith, a.some) }

  abbrev pub Zip : (sc'.Count → List source.Block) → (Count → List Block) → Count → Type 0
  Zip src bs c = (so : sc'.Count) → Agrees c so → BlocksMatch c.bodies (src so) (bs c)

  zip_both : (src src' : sc'.Count → List source.Block) (bs bs' : Count → List Block) (c d : Count) (sd : sc'.Count) → d.blocks ≡ sd.blocks → d.bodies ≡ sd.bodies → Counts d (bs c) → Zip src bs c → Zip src' bs' (past c d) →
      Zip (λ so. src so ++ src' (sc'.past so sd)) (λ c. bs c ++ bs' (past c d)) c
  zip_both src src' bs bs' c d sd e q counts a b = λ so h.
      match_append c.bodies (src so) (src' (sc'.past so sd)) (bs c) (bs' (past c d)) (a so h)
      (at_first (c.bodies + d.bodies) (c.bodies + bodies_in (bs c)) (src' (sc'.past so sd)) (bs' (past c d)) (ap (λ z. c.bodies + z) (sym counts.bodies)) (b (sc'.past so sd) (past_agrees c d so sd e q h)))

  zip_behind : (src : sc'.Count → List source.Block) (bs : Count → List Block) (c d : Count) → NoBlocks d → Zip src bs (past c d) → Zip src (λ c. bs (past c d)) c
  zip_behind src bs c d h b = λ so a. at_first (c.bodies + d.bodies) c.bodies (src so) (bs (past c d)) (ap (λ z. c.bodies + z) h.bodies ∙ none_more c.bodies) (b so (none_agrees c d so h a))

  -- ---- the tree

  abbrev ZipTell : (scopes : List Numbered) (n : ℕ) → (Mentions → Mentions) → List Item → (Count → List Block) → Count → (sc'.Count → List source.Block) → Type 0
  ZipTell scopes n m xs bs d src = Tell scopes uses code g names n m xs bs d (λ c. Zip src bs c)

  abbrev Stands : List Numbered → ℕ → Type 0
  Stands scopes n = Chain scopes n

  no_stand : (k : ℕ) → 1 ≤ k → Stand code.blocks k []
  no_stand k h = record { behind = h; there = λ j b e. absurd (none-some b e) }

  -- a body of a block, with the number k there
  abbrev the_scopes : List Numbered → (k : ℕ) → Option Header → Stmts → List Numbered
  the_scopes scopes k h ss = numbered (before_bodies + k) h ss ∷ scopes

  slots_there : (own : BodyNames) (o : Option BodyNames) → o ≡ Some own → names_in o ≡ own
  slots_there own o e = ap names_in e

  inside_same : (c : Count) (h : Option Header) (i : ℕ) → i ≡ before_blocks + c.blocks → i ≡ before_blocks + (past c (in_header h)).blocks
  inside_same c h i at = omega (arith, at, blocks.header_blocks h)

  body_matches : (scopes : List Numbered) (n k plain before : ℕ) (h : Option Header) (ss : Stmts) (c : Count) (inside : ℕ) → Chain (the_scopes scopes k h ss) k → 0 < k → AllExported code.names (mentions_of h ss) →
      slice_get names k ≡ Some (body_names n (block_scope (mentions_of h ss) (order_of h ss)) (mentions_of h ss)) → inside ≡ before_blocks + c.blocks →
      told.HeaderTold (the_scopes scopes k h ss) uses code c h → told.StmtsTold (the_scopes scopes k h ss) uses code (past c (in_header h)) ss →
      BodyMatches n k (source.body_of plain before scopes (before_bodies + k) inside h ss) (body_code g (names_in (slice_get names k)) (calls_of plain before (body h ss)) c (body h ss))
  body_matches scopes n k plain before h ss c inside ch p ex there at hd st =
      let own : BodyNames = body_names n (block_scope (mentions_of h ss) (order_of h ss)) (mentions_of h ss) in
      subst (λ (o : BodyNames). BodyMatches n k (source.body_of plain before scopes (before_bodies + k) inside h ss) (body_code g o (calls_of plain before (body h ss)) c (body h ss))) (sym (slots_there own (slice_get names k) there))
      (record {
        own_number = refl;
        chain = ch;
        inner = p;
        there = there;
        pooled = ex;
        kind = refl;
        slots = refl;
        mentions = mentions_of h ss;
        exported = refl;
        exports_are = refl;
        count = c;
        inside = inside_same c h inside at;
        code_is = placed_is g own (calls_of plain before (body h ss)) c h ss;
        header = hd;
        statements = st;
      })

  abbrev LeftWell : MaybePart → Type 0
  LeftWell none = Unit {0}
  LeftWell (some x) = WellPart x

  left_well : (left : MaybePart) (d : Derived) → WellStep (Apply d left) → LeftWell left
  left_well none d w = tt
  left_well (some x) d w = w.3

  right_well : (left : MaybePart) (d : Derived) → WellStep (Apply d left) → WellDerived d
  right_well none d w = w.1
  right_well (some x) d w = w.1

  last_well : (last : MaybePart) (ss : Steps) → WellExpr (Value last ss) → LeftWell last
  last_well none ss w = tt
  last_well (some x) ss w = w.1

  suc_plus : (a k : ℕ) → a + suc k ≡ suc (a + k)
  suc_plus a k = omega arith

  own_stands : (scopes : List Numbered) (n k : ℕ) (h : Option Header) (ss : Stmts) → Chain scopes n → 0 < k → slice_get names k ≡ Some (body_names n (block_scope (mentions_of h ss) (order_of h ss)) (mentions_of h ss)) → Chain (the_scopes scopes k h ss) k
  own_stands [] n k h ss z p e = elim z [ ]
  own_stands (b ∷ scopes) n k h ss z p e = (record { parent = n; mentions = mentions_of h ss; order = order_of h ss; inner = p; number_is = refl; scope_is = refl; there = e }, z)

  opened_agrees : (c : Count) (bs : Bodies) (so : sc'.Count) → Agrees c so → Agrees (past c (one_block (how_many bs))) (source.opened bs so)
  opened_agrees c bs so a = record { blocks = omega (arith, a.blocks); bodies = omega (arith, a.bodies); some = omega (arith, a.some) }

  mutual
    pub expr_zips : (scopes : List Numbered) (n : ℕ) → Stands scopes n → (x : Expr) → WellExpr x → ZipTell scopes n (λ k. expr_mentions x k) (expr_items x) (λ c. expr_blocks g names n x c) (in_expr x) (λ so. source.expr_blocks scopes x so)
    expr_zips scopes n z (Value last ss) w = tells.because scopes uses code g names n (λ c f. zip_both (λ so. source.steps_blocks scopes ss so) (λ so. source.maybe_blocks scopes last so) (λ c. steps_blocks g names n ss c) (λ c. maybe_blocks g names n last c) c (in_steps ss) (sc'.in_steps ss) (blocks.steps_same ss) (bodies.steps_same ss) (steps_counts g names n ss c) f.0 f.1)
        (tells.both scopes uses code g names n (steps_counted ss) (λ c. steps_counts g names n ss c) (steps_zip scopes n z ss (tells.steps_well scopes uses code g names n last ss w)) (maybe_zips scopes n z last (last_well last ss w)))
    expr_zips scopes n z (Train ts ds) w = tells.because scopes uses code g names n (λ c f. zip_behind (λ so. source.deriveds_blocks scopes ds so) (λ c. deriveds_blocks g names n ds c) c (in_targets ts) (targets_none ts) f.1) (tells.both scopes uses code g names n (targets_counted ts) (tells.none_here scopes uses code g names n (in_targets ts) (targets_none ts)) (tells.targets_tell scopes uses code g names n tag.Function ts w.0) (deriveds_zip scopes n z ds w.3))
    expr_zips scopes n z (Modifier ts x) w = tells.because scopes uses code g names n (λ c f. zip_behind (λ so. source.part_blocks scopes x so) (λ c. part_blocks g names n x c) c (in_targets ts) (targets_none ts) f.1) (tells.both scopes uses code g names n (targets_counted ts) (tells.none_here scopes uses code g names n (in_targets ts) (targets_none ts)) (tells.targets_tell scopes uses code g names n (tag_of x) ts w.1) (part_zips scopes n z x w.2))

    part_zips : (scopes : List Numbered) (n : ℕ) → Stands scopes n → (x : Part) → WellPart x → ZipTell scopes n (λ k. part_mentions x k) (part_items x) (λ c. part_blocks g names n x c) (in_part x) (λ so. source.part_blocks scopes x so)
    part_zips scopes n z (Leaf t) w = tells.because scopes uses code g names n (λ c f so a. tt) (tells.token_tells scopes uses code g names n Reads tt t)
    part_zips scopes n z (Elements es) w = exprs_zip scopes n z es w
    part_zips scopes n z (Merge es) w = exprs_zip scopes n z es w.1
    part_zips scopes n z (Paren e) w = expr_zips scopes n z e w
    part_zips scopes n z (Braces b) w = block_zips scopes n z b w
    part_zips scopes n z (Field base fs) w = tells.because scopes uses code g names n (λ c f. f.0) (tells.and_fields scopes uses code g names n fs (part_counted base) (part_zips scopes n z base w.2))
    part_zips scopes n z (Strand ps) w = parts_zip scopes n z ps w.1
    part_zips scopes n z (Nothing place) w = tells.because scopes uses code g names n (λ c f so a. tt) (tells.skip scopes uses code g names n)

    maybe_zips : (scopes : List Numbered) (n : ℕ) → Stands scopes n → (x : MaybePart) → LeftWell x → ZipTell scopes n (λ k. maybe_mentions x k) (maybe_items x) (λ c. maybe_blocks g names n x c) (in_maybe x) (λ so. source.maybe_blocks scopes x so)
    maybe_zips scopes n z none w = tells.because scopes uses code g names n (λ c f so a. tt) (tells.skip scopes uses code g names n)
    maybe_zips scopes n z (some x) w = part_zips scopes n z x w

    steps_zip : (scopes : List Numbered) (n : ℕ) → Stands scopes n → (x : Steps) → WellSteps x → ZipTell scopes n (λ k. steps_mentions x k) (steps_items x) (λ c. steps_blocks g names n x c) (in_steps x) (λ so. source.steps_blocks scopes x so)
    steps_zip scopes n z no_steps w = tells.because scopes uses code g names n (λ c f so a. tt) (tells.skip scopes uses code g names n)
    steps_zip scopes n z (and_steps s ss) w = tells.because scopes uses code g names n (λ c f. zip_both (λ so. source.steps_blocks scopes ss so) (λ so. source.step_blocks scopes s so) (λ c. steps_blocks g names n ss c) (λ c. step_blocks g names n s c) c (in_steps ss) (sc'.in_steps ss) (blocks.steps_same ss) (bodies.steps_same ss) (steps_counts g names n ss c) f.0 f.1)
        (tells.both scopes uses code g names n (steps_counted ss) (λ c. steps_counts g names n ss c) (steps_zip scopes n z ss w.1) (step_zips scopes n z s w.0))

    step_zips : (scopes : List Numbered) (n : ℕ) → Stands scopes n → (x : Step) → WellStep x → ZipTell scopes n (λ k. step_mentions x k) (step_items x) (λ c. step_blocks g names n x c) (in_step x) (λ so. source.step_blocks scopes x so)
    step_zips scopes n z (Apply d left) w = tells.because scopes uses code g names n (λ c f. zip_both (λ so. source.maybe_blocks scopes left so) (λ so. source.derived_blocks scopes d so) (λ c. maybe_blocks g names n left c) (λ c. derived_blocks g names n d c) c (in_maybe left) (sc'.in_maybe left) (blocks.maybe_same left) (bodies.maybe_same left) (maybe_counts g names n left c) f.0 f.1)
        (tells.both scopes uses code g names n (maybe_counted left) (λ c. maybe_counts g names n left c) (maybe_zips scopes n z left (left_well left d w)) (derived_zips scopes n z d (right_well left d w)))
    step_zips scopes n z (Assign q a) w = tells.because scopes uses code g names n (λ c f so b. tt) (tells.target_tells scopes uses code g names n q a w.1)
    step_zips scopes n z (Modify t d) w = tells.because scopes uses code g names n (λ c f. zip_behind (λ so. source.derived_blocks scopes d so) (λ c. derived_blocks g names n d c) c (in_token t) (token_none t) f.1) (tells.both scopes uses code g names n (sym (past-nothing (in_token t))) (tells.none_here scopes uses code g names n (in_token t) (token_none t)) (tells.token_tells scopes uses code g names n Changes tt t) (derived_zips scopes n z d w.3))

    derived_zips : (scopes : List Numbered) (n : ℕ) → Stands scopes n → (x : Derived) → WellDerived x → ZipTell scopes n (λ k. derived_mentions x k) (derived_items x) (λ c. derived_blocks g names n x c) (in_derived x) (λ so. source.derived_blocks scopes x so)
    derived_zips scopes n z (derived x us) w = tells.because scopes uses code g names n (λ c f. zip_both (λ so. source.part_blocks scopes x so) (λ so. source.uses_blocks scopes us so) (λ c. part_blocks g names n x c) (λ c. uses_blocks g names n us c) c (in_part x) (sc'.in_part x) (blocks.part_same x) (bodies.part_same x) (part_counts g names n x c) f.0 f.1)
        (tells.both scopes uses code g names n (part_counted x) (λ c. part_counts g names n x c) (part_zips scopes n z x w.0) (uses_zip scopes n z us w.1))

    uses_zip : (scopes : List Numbered) (n : ℕ) → Stands scopes n → (x : Uses) → WellUses x → ZipTell scopes n (λ k. uses_mentions x k) (uses_items x) (λ c. uses_blocks g names n x c) (in_uses x) (λ so. source.uses_blocks scopes x so)
    uses_zip scopes n z no_uses w = tells.because scopes uses code g names n (λ c f so a. tt) (tells.skip scopes uses code g names n)
    uses_zip scopes n z (and_uses u us) w = tells.because scopes uses code g names n (λ c f. zip_both (λ so. source.use_blocks scopes u so) (λ so. source.uses_blocks scopes us so) (λ c. use_blocks g names n u c) (λ c. uses_blocks g names n us c) c (in_use u) (sc'.in_use u) (blocks.use_same u) (bodies.use_same u) (use_counts g names n u c) f.0 f.1)
        (tells.both scopes uses code g names n (use_counted u) (λ c. use_counts g names n u c) (use_zips scopes n z u w.0) (uses_zip scopes n z us w.1))

    use_zips : (scopes : List Numbered) (n : ℕ) → Stands scopes n → (x : Use) → WellUse x → ZipTell scopes n (λ k. use_mentions x k) (use_items x) (λ c. use_blocks g names n x c) (in_use x) (λ so. source.use_blocks scopes x so)
    use_zips scopes n z (One m) w = part_zips scopes n z m w
    use_zips scopes n z (Two m x) w = tells.because scopes uses code g names n (λ c f. zip_both (λ so. source.part_blocks scopes m so) (λ so. source.part_blocks scopes x so) (λ c. part_blocks g names n m c) (λ c. part_blocks g names n x c) c (in_part m) (sc'.in_part m) (blocks.part_same m) (bodies.part_same m) (part_counts g names n m c) f.0 f.1)
        (tells.both scopes uses code g names n (part_counted m) (λ c. part_counts g names n m c) (part_zips scopes n z m w.0) (part_zips scopes n z x w.1))

    deriveds_zip : (scopes : List Numbered) (n : ℕ) → Stands scopes n → (x : Deriveds) → WellDeriveds x → ZipTell scopes n (λ k. deriveds_mentions x k) (deriveds_items x) (λ c. deriveds_blocks g names n x c) (in_deriveds x) (λ so. source.deriveds_blocks scopes x so)
    deriveds_zip scopes n z no_deriveds w = tells.because scopes uses code g names n (λ c f so a. tt) (tells.skip scopes uses code g names n)
    deriveds_zip scopes n z (and_deriveds d ds) w = tells.because scopes uses code g names n (λ c f. zip_both (λ so. source.derived_blocks scopes d so) (λ so. source.deriveds_blocks scopes ds so) (λ c. derived_blocks g names n d c) (λ c. deriveds_blocks g names n ds c) c (in_derived d) (sc'.in_derived d) (blocks.derived_same d) (bodies.derived_same d) (derived_counts g names n d c) f.0 f.1)
        (tells.both scopes uses code g names n (derived_counted d) (λ c. derived_counts g names n d c) (derived_zips scopes n z d w.0) (deriveds_zip scopes n z ds w.1))

    exprs_zip : (scopes : List Numbered) (n : ℕ) → Stands scopes n → (x : Exprs) → WellExprs x → ZipTell scopes n (λ k. exprs_mentions x k) (exprs_items x) (λ c. exprs_blocks g names n x c) (in_exprs x) (λ so. source.exprs_blocks scopes x so)
    exprs_zip scopes n z no_exprs w = tells.because scopes uses code g names n (λ c f so a. tt) (tells.skip scopes uses code g names n)
    exprs_zip scopes n z (and_exprs e es) w = tells.because scopes uses code g names n (λ c f. zip_both (λ so. source.expr_blocks scopes e so) (λ so. source.exprs_blocks scopes es so) (λ c. expr_blocks g names n e c) (λ c. exprs_blocks g names n es c) c (in_expr e) (sc'.in_expr e) (blocks.expr_same e) (bodies.expr_same e) (expr_counts g names n e c) f.0 f.1)
        (tells.both scopes uses code g names n (expr_counted e) (λ c. expr_counts g names n e c) (expr_zips scopes n z e w.0) (exprs_zip scopes n z es w.1))

    parts_zip : (scopes : List Numbered) (n : ℕ) → Stands scopes n → (x : Parts) → WellParts x → ZipTell scopes n (λ k. parts_mentions x k) (parts_items x) (λ c. parts_blocks g names n x c) (in_parts x) (λ so. source.parts_blocks scopes x so)
    parts_zip scopes n z no_parts w = tells.because scopes uses code g names n (λ c f so a. tt) (tells.skip scopes uses code g names n)
    parts_zip scopes n z (and_parts x xs) w = tells.because scopes uses code g names n (λ c f. zip_both (λ so. source.part_blocks scopes x so) (λ so. source.parts_blocks scopes xs so) (λ c. part_blocks g names n x c) (λ c. parts_blocks g names n xs c) c (in_part x) (sc'.in_part x) (blocks.part_same x) (bodies.part_same x) (part_counts g names n x c) f.0 f.1)
        (tells.both scopes uses code g names n (part_counted x) (λ c. part_counts g names n x c) (part_zips scopes n z x w.1) (parts_zip scopes n z xs w.2))

    pub stmts_zip : (scopes : List Numbered) (n : ℕ) → Stands scopes n → (b : Bool) → (x : Stmts) → WellStmts b x → ZipTell scopes n (λ k. stmts_mentions x k) (stmts_items x) (λ c. stmts_blocks g names n x c) (in_stmts x) (λ so. source.stmts_blocks scopes x so)
    stmts_zip scopes n z b no_stmts w = tells.because scopes uses code g names n (λ c f so a. tt) (tells.skip scopes uses code g names n)
    stmts_zip scopes n z b (and_stmts s ss) w = tells.because scopes uses code g names n (λ c f. zip_both (λ so. source.stmt_blocks scopes s so) (λ so. source.stmts_blocks scopes ss so) (λ c. stmt_blocks g names n s c) (λ c. stmts_blocks g names n ss c) c (in_stmt s) (sc'.in_stmt s) (blocks.stmt_same s) (bodies.stmt_same s) (stmt_counts g names n s c) f.0 f.1)
        (tells.both scopes uses code g names n (stmt_counted s) (λ c. stmt_counts g names n s c) (stmt_zips scopes n z b s w.0) (stmts_zip scopes n z b ss w.1))

    stmt_zips : (scopes : List Numbered) (n : ℕ) → Stands scopes n → (b : Bool) → (x : Stmt) → WellStmt b x → ZipTell scopes n (λ k. stmt_mentions x k) (stmt_items x) (λ c. stmt_blocks g names n x c) (in_stmt x) (λ so. source.stmt_blocks scopes x so)
    stmt_zips scopes n z b (Eval e) w = expr_zips scopes n z e w
    stmt_zips scopes n z b (Predicate e) w = expr_zips scopes n z e w.2
    stmt_zips scopes n z b (Export q) w = tells.because scopes uses code g names n (λ c f so a. tt) (tells.shown_tells scopes uses code g names n q)

    block_zips : (scopes : List Numbered) (n : ℕ) → Stands scopes n → (x : BlockTree) → WellBlock x → ZipTell scopes n (λ k. block_mention x k) (block_items x) (λ c. blocks_from g names n x c) (in_block x) (λ so. source.blocks_from scopes x so)
    block_zips scopes n z (block place kind bs) w = record {
      run = λ k c s x st.
          let at : Count = past c (one_block (how_many bs)) in
          let it : Block = record { class = kind; parent = n; bodies = bodies_code g names (plain_in bs) 0 c.bodies at bs } in
          let many : length it.bodies ≡ how_many bs = many_bodies g names (plain_in bs) 0 c.bodies at bs in (
            (λ so a.
                let inner : Stand code.blocks at.blocks (bodies_blocks g names c.bodies bs at) = stand_past code.blocks c (one_block (how_many bs)) (it ∷ []) (bodies_blocks g names c.bodies bs at) (record { blocks = refl; bodies = omega (arith, many) }) st in
                let b = bodies_zip scopes n (plain_in bs) 0 c.bodies bs z w.2 at (source.opened bs so) a.some
                (subst (λ j. InsideSeen uses (tells.sc scopes uses code g names n) j (scopes_of bs)) (sym (none_more c.uses)) s.0.0) s.1.0.0 (subst (λ j. InsideNamed names c.bodies (c.bodies + j) (scopes_of bs)) (count_bodies bs) s.1.0.1) s.2.0 x.1 inner (opened_agrees c bs so a) in (
                  record { class = refl; each = subst (λ j. BodiesMatch n c.bodies (source.bodies_of (plain_in bs) 0 scopes j (suc so.blocks) bs) it.bodies) (sym a.bodies) b.0 },
                  at_first (c.bodies + how_many bs) (c.bodies + length it.bodies) (source.bodies_blocks scopes so.bodies bs (source.opened bs so)) (bodies_blocks g names c.bodies bs at) (ap (λ j. c.bodies + j) (sym many))
                      (subst (λ j. BlocksMatch (c.bodies + how_many bs) (source.bodies_blocks scopes j bs (source.opened bs so)) (bodies_blocks g names c.bodies bs at)) (sym a.bodies) b.1),
                )),
            tells.block_past scopes uses code g names n place kind bs k c s,
          );
    }

    bodies_zip : (scopes : List Numbered) (n plain before k : ℕ) (bs : Bodies) → Stands scopes n → WellBodies bs → (c : Count) (so : sc'.Count) → 0 < k → InsideSeen uses (tells.sc scopes uses code g names n) c.uses (scopes_of bs) → BlockNamed names n k (scopes_of bs) → InsideNamed names k c.bodies (scopes_of bs) → InsideExported code.names (scopes_of bs) →
        EachItem (ItemPooled uses code) c (bodies_items bs) → Stand code.blocks c.blocks (bodies_blocks g names k bs c) → Agrees c so →
        BodiesMatch n k (source.bodies_of plain before scopes (before_bodies + k) so.blocks bs) (bodies_code g names plain before k c bs) × BlocksMatch c.bodies (source.bodies_blocks scopes (before_bodies + k) bs so) (bodies_blocks g names k bs c)
    bodies_zip scopes n plain before k no_bodies z w c so p s bn nm ex x st a = (tt, tt)
    bodies_zip scopes n plain before k (and_bodies (body h ss) bs) z w c so p s bn nm ex x st a =
        let P : Count → Item → Type 0 = ItemPooled uses code in
        let inner : List Numbered = the_scopes scopes k h ss in
        let front : EachItem P c (header_items h ++ stmts_items ss) = each_front P c (header_items h ++ stmts_items ss) (bodies_items bs) x in
        let here : Count = past c (in_header h) in
        let own : Stand code.blocks here.blocks (stmts_blocks g names k ss here) = stand_behind code.blocks c (in_header h) (stmts_blocks g names k ss here) (header_none h) (stand_front code.blocks c.blocks (stmts_blocks g names k ss here) (bodies_blocks g names (suc k) bs (past c (in_body (body h ss)))) st) in
        let items : EachItem P here (stmts_items ss) = each_back P c (in_header h) (header_items h) (stmts_items ss) (header_counted h) front in
        let hd = (tells.header_tells inner uses code g names k h w.0.0).run (stmts_mentions ss no_mentions) c (s.0, nm.0, ex.0) (each_front P c (header_items h) (stmts_items ss) front) (no_stand c.blocks st.behind) in
        let sts = (tells.stmts_tell inner uses code g names k true ss w.0.1).run no_mentions here hd.1 items own in
        let zs = (stmts_zip inner k (own_stands scopes n k h ss z p bn.0) true ss w.0.1).run no_mentions here hd.1 items own in
        let after : Count = past c (in_body (body h ss)) in
        let so2 : sc'.Count = sc'.past so (sc'.in_body (body h ss)) in
        let rest = bodies_zip scopes n plain (and_plain (body h ss) before) (suc k) bs z w.1 after so2 (omega arith)
        (subst (λ j. InsideSeen uses (tells.sc scopes uses code g names n) (c.uses + j) (scopes_of bs)) (body_uses h ss) s.1) bn.1 (subst (λ j. InsideNamed names (suc k) (c.bodies + j) (scopes_of bs)) (body_many h ss) nm.1) ex.1
        (each_back P c (in_body (body h ss)) (header_items h ++ stmts_items ss) (bodies_items bs) (body_counted (body h ss)) x)
        (stand_past code.blocks c (in_body (body h ss)) (stmts_blocks g names k ss here) (bodies_blocks g names (suc k) bs after) (body_counts g names k (body h ss) c) st)
        (past_agrees c (in_body (body h ss)) so (sc'.in_body (body h ss)) (blocks.body_same (body h ss)) (bodies.body_same (body h ss)) a) in (
          (body_matches scopes n k plain before h ss c so.blocks (own_stands scopes n k h ss z p bn.0) p ex.0 bn.0 a.blocks hd.0 sts.0, subst (λ j. BodiesMatch n (suc k) (source.bodies_of plain (and_plain (body h ss) before) scopes j so2.blocks bs) (bodies_code g names plain (and_plain (body h ss) before) (suc k) after bs)) (suc_plus before_bodies k) rest.0),
          match_append c.bodies (source.stmts_blocks inner ss so) (source.bodies_blocks scopes (suc (before_bodies + k)) bs so2) (stmts_blocks g names k ss here) (bodies_blocks g names (suc k) bs after)
              (at_first (c.bodies + (in_header h).bodies) c.bodies (source.stmts_blocks inner ss so) (stmts_blocks g names k ss here) (ap (λ j. c.bodies + j) (header_none h).bodies ∙ none_more c.bodies) (zs.0 so (none_agrees c (in_header h) so (header_none h) a)))
              (at_first (c.bodies + (in_body (body h ss)).bodies) (c.bodies + bodies_in (stmts_blocks g names k ss here)) (source.bodies_blocks scopes (suc (before_bodies + k)) bs so2) (bodies_blocks g names (suc k) bs after) (ap (λ j. c.bodies + j) (sym (body_counts g names k (body h ss) c).bodies))
              (subst (λ j. BlocksMatch (c.bodies + (in_body (body h ss)).bodies) (source.bodies_blocks scopes j bs so2) (bodies_blocks g names (suc k) bs after)) (suc_plus before_bodies k) rest.1)),
        )
