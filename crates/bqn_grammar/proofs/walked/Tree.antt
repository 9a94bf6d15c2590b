-- The walk over the tokens of a tree.
use Rattle.std.proofs.Common.{◌≡◌, ◌≤◌, ◌+◌, ℕ, Bool, true, false, List, [], ◌∷◌, ◌++◌, length, Option, Some, None, Result, Ok, inl, inr, arith, refl, ap, ◌∙◌}
use Rattle.std.proofs.Math.Nat.{le-max_left, le-max_right}
use Rattle.std.specs.Prelude.{max}
use Rattle.bqn_base.specs.declared.place.Place.{Place}
use Rattle.bqn_base.specs.declared.refusal.Refusal.{Refusal}
use Rattle.bqn_syntax.specs.declared.token.Token.{Token}
use Rattle.bqn_syntax.specs.declared.tree.Arrow.TheVariants as arrow
use Rattle.bqn_syntax.specs.declared.sort.Bracket.{Bracket}
use Rattle.bqn_syntax.specs.declared.sort.Bracket.TheVariants.{Round, Angle, Square, Curly}
use Rattle.bqn_syntax.specs.declared.sort.Sort.TheVariants.{Opens, Closes, Draws, Joins, Ends, Asks, Skips, Stands}
use Rattle.bqn_syntax.specs.declared.sort.Tag.TheVariants as tag
use Rattle.bqn_syntax.specs.declared.sort.Inside.{Inside}
use Rattle.bqn_syntax.specs.declared.sort.Inside.TheVariants as inside
use Rattle.bqn_syntax.specs.grammar.Punctuation as punctuation
use Rattle.bqn_syntax.specs.grammar.Sorts.{sort_of, punct_sort, tag as tag_of}
use Rattle.bqn_syntax.specs.grammar.Looks.{Ahead, behind_group}
use Rattle.bqn_syntax.specs.grammar.Items.{Element, OfPart, Item, Standing, Drawn, Joining}
use Rattle.bqn_syntax.specs.grammar.Expressions.{piece_expression, piece_statement, piece_predicate}
use Rattle.bqn_syntax.specs.grammar.Parsing.{OpenBracket, OpenBrackets, open_brackets, fresh, or_first, and_item, and_expression, and_statement, and_header, well, judged, ended, is_first_piece, closes, walk, go_on, asked, question, nowhere, program_of}
use Rattle.bqn_syntax.specs.grammar.Spells.{Sign, Mark, Gap, Fits, arrow_code, mark_at, pattern_signs, header_signs, name_signs, expr_signs, part_signs, steps_signs, step_signs, derived_signs, uses_signs, deriveds_signs, exprs_signs, exprs_more, parts_signs, parts_more, stmts_signs, body_signs, bodies_more, block_signs}
use Rattle.bqn_syntax.specs.grammar.Well.{WellPattern, IsValue, WellExpr, WellPart, WellSteps, WellStep, WellDerived, WellUses, WellDeriveds, WellExprs, WellParts, WellStmts, WellBody, WellBodies, WellBlock, header_depth, expr_depth, part_depth, steps_depth, step_depth, derived_depth, uses_depth, deriveds_depth, exprs_depth, parts_depth, stmts_depth, body_depth, bodies_depth, block_depth, pattern_depth}
use Rattle.bqn_syntax.specs.grammar.Trees.{Pattern, Expr, Value, Train, Modifier, One, Two, Part, Leaf, Elements, Merge, Paren, Block, Field, Strand, Nothing, Step, Apply, Assign, Modify, Stmt, Eval, Predicate, Export, BlockTree, block, BodyTree, body, Derived, derived, none, some, Exprs, no_exprs, and_exprs, Uses, no_uses, and_uses, Parts, no_parts, and_parts, Steps, no_steps, and_steps, Stmts, no_stmts, and_stmts, stmts, Bodies, no_bodies, and_bodies, Deriveds, no_deriveds, and_deriveds}
use Rattle.bqn_grammar.proofs.TreeItems.{part_item, pattern_items, target_items, part_items, parts_items, parts_more_items, uses_items, derived_items, deriveds_items, step_items, steps_items, expr_items}
use Rattle.bqn_grammar.proofs.found.Pieces.{expression_found, evaluated_found, exported_found, predicate_found, items_are_some}
use Rattle.bqn_grammar.proofs.walked.Headers.{header_is_walked}
use Rattle.bqn_grammar.proofs.walked.Looks.{then_cross, crosses_gap, exact_is, mark_is, mark_sort, name_stands, behind_opening, names_stand, arrow_sort, steps_passes, exprs_crosses}
use Rattle.bqn_grammar.proofs.walked.Arrows.{Arrows, Colons, drawn_arrows, other_arrows, apart_arrows, name_arrows, part_arrows, parts_arrows, derived_arrows, deriveds_arrows}
use Rattle.bqn_grammar.proofs.walked.Steps.{walk_step, having, clean, Arrives, nothing_more, and_then, take_exact, take_mark, clean_ends, gap_walks, Completes, apart_walks, Makes, close_step, close_after, close_empty, open_step, group_arrives}
use Rattle.bqn_grammar.proofs.walked.Patterns.{closing_colons, asks_colons, apart_colons, closed_gap_colons, closed_gap_arrows, ended_some, pattern_arrives, body_start}
use Rattle.bqn_grammar.proofs.walked.Lists.{Expressive, list_chosen, pattern_chosen, Listing, many_listing, expressive_listing, collecting, makes_elements, makes_merge, Follows, calm_follows, DerivedFollows, first_follows, UsesFollow, uses_of, one_follows, two_follows, rest_follow_one, rest_follow_two, names_colons, part_colons, parts_more_colons, uses_colons, derived_colons, deriveds_colons, step_colons, drawn_colons, step_arrows, names_arrive, targets_arrive}
use Rattle.bqn_grammar.proofs.walked.Bodies.{StatedFrom, Running, many_running, expressive_running, same_running, block_running, stating, stmts_back, stating_statements, Stated, last_statement, filled, with_body, body_is_start, MakesBlock, makes_block, semicolon_walks, after_body_arrows, after_body_colons, after_stmt_arrows, after_stmt_colons, nil_arrows, nil_colons, at_end}

judged_expression : (i : Inside) (place : Place) (l : OpenBracket) (e : Expr) → Listing i → piece_expression l.items ≡ Some e → judged i place l ≡ Ok (and_expression e l)
judged_expression inside.List place l e p d = ap (λ (o : Option Expr). well place and_expression o l) d
judged_expression inside.Merge place l e p d = ap (λ (o : Option Expr). well place and_expression o l) d
judged_expression inside.Program place l e p d = elim p [ ]
judged_expression inside.Parens place l e p d = elim p [ ]
judged_expression inside.Pattern place l e p d = elim p [ ]
judged_expression inside.HeaderPattern place l e p d = elim p [ ]
judged_expression inside.Block place l e p d = elim p [ ]

completes_expression : (l : OpenBracket) (e : Expr) → Listing l.inside → WellExpr e → Completes l (expr_items e) (clean (and_expression e l))
completes_expression l e p w place f =
    ended_some (expr_items e) place (having (clean l) (expr_items e) f) (items_are_some e w)
    ∙ judged_expression l.inside place (having (clean l) (expr_items e) f) e p (expression_found e w)

-- parentheses hold one expression
parens_end : (place at : Place) (e : Expr) (f : Option (List Token)) → WellExpr e → ended at (having (clean (fresh inside.Parens place)) (expr_items e) f) ≡ Ok (clean (and_expression e (fresh inside.Parens place)))
parens_end place at e f w =
    ended_some (expr_items e) at (having (clean (fresh inside.Parens place)) (expr_items e) f) (items_are_some e w)
    ∙ ap (λ (o : Option Expr). well at and_expression o (having (clean (fresh inside.Parens place)) (expr_items e) f)) (expression_found e w)

after_expr_arrows : (es : Exprs) (b : Bracket) (c : ℕ) (k : List Sign) → punct_sort c ≡ Closes b → Arrows false (exprs_more es (Gap ∷ Mark c ∷ k))
after_expr_arrows no_exprs b c k p = closed_gap_arrows b c k p
after_expr_arrows (and_exprs e es) b c k p = apart_arrows (Gap ∷ expr_signs e (exprs_more es (Gap ∷ Mark c ∷ k)))

after_expr_colons : (es : Exprs) (b : Bracket) (c : ℕ) (k : List Sign) → punct_sort c ≡ Closes b → Colons false (exprs_more es (Gap ∷ Mark c ∷ k))
after_expr_colons no_exprs b c k p = closed_gap_colons b c k p
after_expr_colons (and_exprs e es) b c k p = apart_colons (Gap ∷ expr_signs e (exprs_more es (Gap ∷ Mark c ∷ k)))

steps_colons : (ss : Steps) (k : List Sign) → WellSteps ss → Colons false k → Colons false (steps_signs ss k)
steps_colons ss k w y ts f = let p = steps_passes ss k ts w f in p.colon ∙ y p.rest p.fits

-- what runs: a program or a body
judged_statement : (in_block : Bool) (i : Inside) (place : Place) (l : OpenBracket) (s : Stmt) → Running in_block i → piece_statement l.items ≡ Some s → judged i place l ≡ Ok (and_statement s l)
judged_statement true inside.Block place l s r e = ap (λ (o : Option Stmt). well place and_statement o l) e
judged_statement false inside.Program place l s r e = ap (λ (o : Option Stmt). well place and_statement o l) e
judged_statement true inside.Program place l s r e = elim r [ ]
judged_statement true inside.Parens place l s r e = elim r [ ]
judged_statement true inside.List place l s r e = elim r [ ]
judged_statement true inside.Pattern place l s r e = elim r [ ]
judged_statement true inside.HeaderPattern place l s r e = elim r [ ]
judged_statement true inside.Merge place l s r e = elim r [ ]
judged_statement false inside.Parens place l s r e = elim r [ ]
judged_statement false inside.List place l s r e = elim r [ ]
judged_statement false inside.Pattern place l s r e = elim r [ ]
judged_statement false inside.HeaderPattern place l s r e = elim r [ ]
judged_statement false inside.Merge place l s r e = elim r [ ]
judged_statement false inside.Block place l s r e = elim r [ ]

completes_evaluated : (l : OpenBracket) (in_block : Bool) (e : Expr) → Running in_block l.inside → WellExpr e → Completes l (expr_items e) (clean (and_statement (Eval e) l))
completes_evaluated l in_block e r w place f =
    ended_some (expr_items e) place (having (clean l) (expr_items e) f) (items_are_some e w)
    ∙ judged_statement in_block l.inside place (having (clean l) (expr_items e) f) (Eval e) r (evaluated_found e w)

append_some : (is : List Item) (i : Item) → is ++ i ∷ [] ≡ [] → ⊥
append_some [] i e = absurd (cc)
append_some (x ∷ is) i e = absurd (cc)

completes_exported : (l : OpenBracket) (in_block : Bool) (q : Pattern) → Running in_block l.inside → WellPattern false q → Completes l (pattern_items q ++ Drawn arrow.Export ∷ []) (clean (and_statement (Export q) l))
completes_exported l in_block q r w place f =
    ended_some (pattern_items q ++ Drawn arrow.Export ∷ []) place (having (clean l) (pattern_items q ++ Drawn arrow.Export ∷ []) f) (append_some (pattern_items q) (Drawn arrow.Export))
    ∙ judged_statement in_block l.inside place (having (clean l) (pattern_items q ++ Drawn arrow.Export ∷ []) f) (Export q) r (exported_found q w)

export_arrives : (q : Pattern) (in_block : Bool) (so : OpenBrackets) (k : List Sign) (ts : List Token) → WellPattern false q → Running in_block so.inner.inside → length so.outer + pattern_depth q ≤ 128 → Colons false k → Fits (pattern_signs q (Mark punctuation.export_arrow ∷ k)) ts → Arrives so (pattern_items q ++ Drawn arrow.Export ∷ []) k ts
export_arrives q in_block so k ts w r d y f =
    and_then (pattern_arrives q inside.Pattern true false so (Mark punctuation.export_arrow ∷ k) ts w tt (λ c x z. pattern_chosen so.inner.inside (is_first_piece so.inner.header so.inner.statements) c (expressive_running in_block so.inner.inside r) x) d (drawn_arrows arrow.Export k) (drawn_colons false arrow.Export k y) f) (λ first rest g.
    take_mark (open_brackets (having so.inner (pattern_items q) first) so.outer) (Draws arrow.Export) (Drawn arrow.Export) punctuation.export_arrow k rest refl (λ c t more. refl) g)

asked_some : (is : List Item) (place : Place) (l : OpenBracket) → (is ≡ [] → ⊥) → asked is place l ≡ well place and_statement (piece_predicate l.items) l
asked_some [] place l n = absurd (n refl)
asked_some (i ∷ is) place l n = refl

question_is : (i : Inside) (tokens : List Token) (place : Place) (so : OpenBrackets) → i ≡ inside.Block → question i tokens place so ≡ go_on so.outer (asked so.inner.items place so.inner)
question_is i tokens place so e = ap (λ (j : Inside). question j tokens place so) e

question_walks : (l : OpenBracket) (in_block : Bool) (e : Expr) (first : Option (List Token)) (outer : List OpenBracket) (t : Token) (ts rest : List Token) → ts ≡ t ∷ rest → sort_of t.kind ≡ Asks → Running in_block l.inside → in_block ≡ true → IsValue e → WellExpr e → walk (open_brackets (having (clean l) (expr_items e) first) outer) ts ≡ walk (open_brackets (clean (and_statement (Predicate e) l)) outer) rest
question_walks l in_block e first outer t ts rest is s r b v w =
    walk_step (open_brackets (having (clean l) (expr_items e) first) outer) (open_brackets (clean (and_statement (Predicate e) l)) outer) Asks t ts rest is s
    (question_is l.inside (t ∷ rest) t.place (open_brackets (having (clean l) (expr_items e) first) outer) (block_running in_block l.inside r b)
    ∙ ap (λ (x : Result OpenBracket Refusal). go_on outer x) (asked_some (expr_items e) t.place (having (clean l) (expr_items e) first) (items_are_some e w))
    ∙ ap (λ (o : Option Stmt). go_on outer (well t.place and_statement o (having (clean l) (expr_items e) first))) (predicate_found e v w))

mutual
  pub part_arrives : (x : Part) (so : OpenBrackets) (k : List Sign) (ts : List Token) → WellPart x → Expressive so.inner.inside → length so.outer + part_depth x ≤ 128 → Follows x k → Colons false k → Fits (part_signs x k) ts → Arrives so (part_items x) k ts
  part_arrives (Leaf t) so k ts w e d a y f = take_exact so Stands (part_item (Leaf t)) t k ts w (λ b rest. refl) f
  part_arrives (Elements es) so k ts w e d a y f =
      let m = mark_is f in
      let n = behind_opening Angle punctuation.close_angle k m.1 refl (then_cross (crosses_gap (exprs_signs es (Gap ∷ Mark punctuation.close_angle ∷ k)) m.1 m.4) (λ rest g. exprs_crosses es (Mark punctuation.close_angle ∷ k) rest w g)) in
      let o = open_step Angle so m.0 ts m.1 inside.List m.2 (mark_sort m.0 punctuation.open_angle (Opens Angle) m.3 refl) (omega arith)
      (list_chosen so.inner.inside (is_first_piece so.inner.header so.inner.statements) (behind_group m.1) e (ap (λ (b : Ahead). b.arrow) n.2 ∙ a n.0 n.1) (ap (λ (b : Ahead). b.colon) n.2 ∙ y n.0 n.1)) in
      let around = having so.inner [] (or_first so.inner.first ts) in
      let g = gap_walks (fresh inside.List m.0.place) (around ∷ so.outer) (exprs_signs es (Gap ∷ Mark punctuation.close_angle ∷ k)) m.1 tt m.4 in
      let r = exprs_arrive es Angle punctuation.close_angle (fresh inside.List m.0.place) around (OfPart (Elements es)) so.outer k g.0 refl refl tt w (omega arith) (makes_elements m.0.place es) g.1 in
      group_arrives so (OfPart (Elements es)) k ts r.0 (open_brackets (clean (fresh inside.List m.0.place)) (around ∷ so.outer)) m.1 o (g.2 ∙ r.2) r.1
  part_arrives (Merge no_exprs) so k ts w e d a y f = elim w.0 [ ]
  part_arrives (Merge (and_exprs x es)) so k ts w e d a y f =
      let m = mark_is f in
      let o = open_step Square so m.0 ts m.1 inside.Merge m.2 (mark_sort m.0 punctuation.open_square (Opens Square) m.3 refl) (omega arith) refl in
      let around = having so.inner [] (or_first so.inner.first ts) in
      let l = fresh inside.Merge m.0.place in
      let g = gap_walks l (around ∷ so.outer) (expr_signs x (exprs_more es (Gap ∷ Mark punctuation.close_square ∷ k))) m.1 tt m.4 in
      let b = expr_arrives x (open_brackets (clean l) (around ∷ so.outer)) (exprs_more es (Gap ∷ Mark punctuation.close_square ∷ k)) g.0 w.1.0 tt (omega (arith, le-max_left (expr_depth x) (exprs_depth es))) (after_expr_arrows es Square punctuation.close_square k refl) (after_expr_colons es Square punctuation.close_square k refl) g.1 in
      let r = exprs_more_arrive es Square punctuation.close_square l (and_expression x l) around (OfPart (Merge (and_exprs x es))) (expr_items x) b.first so.outer k b.rest refl refl refl tt tt w.1.1 (omega (arith, le-max_right (expr_depth x) (exprs_depth es))) (completes_expression l x tt w.1.0) (makes_merge m.0.place x es) b.fits in
      group_arrives so (OfPart (Merge (and_exprs x es))) k ts r.0 (open_brackets (clean l) (around ∷ so.outer)) m.1 o (g.2 ∙ b.walks ∙ r.2) r.1
  part_arrives (Paren x) so k ts w e d a y f =
      let m = mark_is f in
      let o = open_step Round so m.0 ts m.1 inside.Parens m.2 (mark_sort m.0 punctuation.open_round (Opens Round) m.3 refl) (omega arith) refl in
      let around = having so.inner [] (or_first so.inner.first ts) in
      let l = fresh inside.Parens m.0.place in
      let b = expr_arrives x (open_brackets (clean l) (around ∷ so.outer)) (Mark punctuation.close_round ∷ k) m.1 w tt (omega arith) (other_arrows (Closes Round) punctuation.close_round k refl tt) (closing_colons Round punctuation.close_round k refl) m.4 in
      let c = mark_is b.fits in
      let r = close_step Round (having (clean l) (expr_items x) b.first) (clean (and_expression x l)) around (OfPart (Paren x)) so.outer c.0 b.rest c.1 c.2 (mark_sort c.0 punctuation.close_round (Closes Round) c.3 refl) refl (parens_end m.0.place c.0.place x b.first w) (λ at. refl) in
      group_arrives so (OfPart (Paren x)) k ts c.1 (open_brackets (clean l) (around ∷ so.outer)) m.1 o (b.walks ∙ r) c.4
  part_arrives (Block b) so k ts w e d a y f = block_arrives b so k ts w d f
  part_arrives (Field x names) so k ts w e d a y f =
      and_then (part_arrives x so (name_signs names k) ts w.2 e d (calm_follows x (name_signs names k) (name_arrows names k w.1)) (names_colons false names k (names_stand names w.1) y) f)
      (λ first rest g. names_arrive names (open_brackets (having so.inner (part_items x) first) so.outer) k rest (names_stand names w.1) g)
  part_arrives (Strand ps) so k ts w e d a y f = parts_arrive ps so k ts w.1 e d a y f
  part_arrives (Nothing place) so k ts w e d a y f = take_exact so Skips (part_item (Nothing place)) (mark_at punctuation.middle_dot place) k ts refl (λ b rest. refl) f

  parts_arrive : (ps : Parts) (so : OpenBrackets) (k : List Sign) (ts : List Token) → WellParts ps → Expressive so.inner.inside → length so.outer + parts_depth ps ≤ 128 → Arrows false k → Colons false k → Fits (parts_signs ps k) ts → Arrives so (parts_items ps) k ts
  parts_arrive no_parts so k ts w e d a y f = nothing_more so k ts f
  parts_arrive (and_parts x xs) so k ts w e d a y f =
      and_then (part_arrives x so (parts_more xs k) ts w.1 e (omega (arith, le-max_left (part_depth x) (parts_depth xs))) (calm_follows x (parts_more xs k) (parts_arrows xs k w.2 a)) (parts_more_colons false xs k w.2 y) f)
      (λ first rest g. parts_more_arrive xs (open_brackets (having so.inner (part_items x) first) so.outer) k rest w.2 e (omega (arith, le-max_right (part_depth x) (parts_depth xs))) a y g)

  parts_more_arrive : (ps : Parts) (so : OpenBrackets) (k : List Sign) (ts : List Token) → WellParts ps → Expressive so.inner.inside → length so.outer + parts_depth ps ≤ 128 → Arrows false k → Colons false k → Fits (parts_more ps k) ts → Arrives so (parts_more_items ps) k ts
  parts_more_arrive no_parts so k ts w e d a y f = nothing_more so k ts f
  parts_more_arrive (and_parts x xs) so k ts w e d a y f =
      and_then (take_mark so Joins Joining punctuation.joiner (part_signs x (parts_more xs k)) ts refl (λ b t rest. refl) f) (λ first rest g.
      and_then (part_arrives x (open_brackets (having so.inner (Joining ∷ []) first) so.outer) (parts_more xs k) rest w.1 e (omega (arith, le-max_left (part_depth x) (parts_depth xs))) (calm_follows x (parts_more xs k) (parts_arrows xs k w.2 a)) (parts_more_colons false xs k w.2 y) g) (λ second more h.
      parts_more_arrive xs (open_brackets (having (having so.inner (Joining ∷ []) first) (part_items x) second) so.outer) k more w.2 e (omega (arith, le-max_right (part_depth x) (parts_depth xs))) a y h))

  pub expr_arrives : (x : Expr) (so : OpenBrackets) (k : List Sign) (ts : List Token) → WellExpr x → Expressive so.inner.inside → length so.outer + expr_depth x ≤ 128 → Arrows false k → Colons false k → Fits (expr_signs x k) ts → Arrives so (expr_items x) k ts
  expr_arrives (Value none ss) so k ts w e d a y f =
      and_then (steps_arrive ss so k ts w.1 e (omega (arith, le-max_right 0 (steps_depth ss))) a y f) (λ first rest g. nothing_more (open_brackets (having so.inner (steps_items ss) first) so.outer) k rest g)
  expr_arrives (Value (some x) ss) so k ts w e d a y f =
      and_then (steps_arrive ss so (part_signs x k) ts w.2 e (omega (arith, le-max_right (part_depth x) (steps_depth ss))) (part_arrows x k w.1) (part_colons false x k w.1 y) f) (λ first rest g.
      part_arrives x (open_brackets (having so.inner (steps_items ss) first) so.outer) k rest w.1 e (omega (arith, le-max_left (part_depth x) (steps_depth ss))) (calm_follows x k a) y g)
  expr_arrives (Train targets ds) so k ts w e d a y f =
      and_then (targets_arrive tag.Function targets so (deriveds_signs ds k) ts w.0 f) (λ first rest g.
      deriveds_arrive ds (open_brackets (having so.inner (target_items targets) first) so.outer) k rest w.3 e d a y g)
  expr_arrives (Modifier targets x) so k ts w e d a y f =
      and_then (targets_arrive (tag_of x) targets so (part_signs x k) ts w.1 f) (λ first rest g.
      part_arrives x (open_brackets (having so.inner (target_items targets) first) so.outer) k rest w.2 e d (calm_follows x k a) y g)

  steps_arrive : (ss : Steps) (so : OpenBrackets) (k : List Sign) (ts : List Token) → WellSteps ss → Expressive so.inner.inside → length so.outer + steps_depth ss ≤ 128 → Arrows false k → Colons false k → Fits (steps_signs ss k) ts → Arrives so (steps_items ss) k ts
  steps_arrive no_steps so k ts w e d a y f = nothing_more so k ts f
  steps_arrive (and_steps s ss) so k ts w e d a y f =
      and_then (steps_arrive ss so (step_signs s k) ts w.1 e (omega (arith, le-max_right (step_depth s) (steps_depth ss))) (step_arrows s k w.0) (step_colons false s k w.0 y) f) (λ first rest g.
      step_arrives s (open_brackets (having so.inner (steps_items ss) first) so.outer) k rest w.0 e (omega (arith, le-max_left (step_depth s) (steps_depth ss))) a y g)

  step_arrives : (s : Step) (so : OpenBrackets) (k : List Sign) (ts : List Token) → WellStep s → Expressive so.inner.inside → length so.outer + step_depth s ≤ 128 → Arrows false k → Colons false k → Fits (step_signs s k) ts → Arrives so (step_items s) k ts
  step_arrives (Apply c none) so k ts w e d a y f = derived_arrives c so k ts w.1 e (omega (arith, le-max_left (derived_depth c) 0)) (inl a) y f
  step_arrives (Apply c (some x)) so k ts w e d a y f =
      and_then (part_arrives x so (derived_signs c k) ts w.3 e (omega (arith, le-max_right (derived_depth c) (part_depth x))) (calm_follows x (derived_signs c k) (derived_arrows c k w.1)) (derived_colons false c k w.1 y) f) (λ first rest g.
      derived_arrives c (open_brackets (having so.inner (part_items x) first) so.outer) k rest w.1 e (omega (arith, le-max_left (derived_depth c) (part_depth x))) (inl a) y g)
  step_arrives (Assign q b) so k ts w e d a y f =
      and_then (pattern_arrives q inside.Pattern true false so (Mark (arrow_code b) ∷ k) ts w.1 tt (λ c x z. pattern_chosen so.inner.inside (is_first_piece so.inner.header so.inner.statements) c e x) d (drawn_arrows b k) (drawn_colons false b k y) f) (λ first rest g.
      take_mark (open_brackets (having so.inner (pattern_items q) first) so.outer) (Draws b) (Drawn b) (arrow_code b) k rest (arrow_sort b) (λ c t more. refl) g)
  step_arrives (Modify t c) so k ts w e d a y f =
      and_then (take_exact so Stands (part_item (Leaf t)) t (derived_signs c (Mark punctuation.change_arrow ∷ k)) ts (name_stands tag.Subject t.kind w.0) (λ b rest. refl) f) (λ first rest g.
      and_then (derived_arrives c (open_brackets (having so.inner (part_item (Leaf t) ∷ []) first) so.outer) (Mark punctuation.change_arrow ∷ k) rest w.3 e d (inr (w.1, w.2)) (drawn_colons false arrow.Change k y) g) (λ second more h.
      take_mark (open_brackets (having (having so.inner (part_item (Leaf t) ∷ []) first) (derived_items c) second) so.outer) (Draws arrow.Change) (Drawn arrow.Change) punctuation.change_arrow k more refl (λ b u last. refl) h))

  derived_arrives : (c : Derived) (so : OpenBrackets) (k : List Sign) (ts : List Token) → WellDerived c → Expressive so.inner.inside → length so.outer + derived_depth c ≤ 128 → DerivedFollows c k → Colons false k → Fits (derived_signs c k) ts → Arrives so (derived_items c) k ts
  derived_arrives (derived x us) so k ts w e d a y f =
      and_then (part_arrives x so (uses_signs us k) ts w.0 e (omega (arith, le-max_left (part_depth x) (uses_depth us))) (first_follows x us k w.1 a) (uses_colons false us k w.1 y) f) (λ first rest g.
      uses_arrive us (open_brackets (having so.inner (part_items x) first) so.outer) k rest w.1 e (omega (arith, le-max_right (part_depth x) (uses_depth us))) (uses_of x us k a) y g)

  uses_arrive : (us : Uses) (so : OpenBrackets) (k : List Sign) (ts : List Token) → WellUses us → Expressive so.inner.inside → length so.outer + uses_depth us ≤ 128 → UsesFollow us k → Colons false k → Fits (uses_signs us k) ts → Arrives so (uses_items us) k ts
  uses_arrive no_uses so k ts w e d a y f = nothing_more so k ts f
  uses_arrive (and_uses (One m) us) so k ts w e d a y f =
      and_then (part_arrives m so (uses_signs us k) ts w.0 e (omega (arith, le-max_left (part_depth m) (uses_depth us))) (one_follows m us k w.1 a) (uses_colons false us k w.1 y) f) (λ first rest g.
      uses_arrive us (open_brackets (having so.inner (part_items m) first) so.outer) k rest w.1 e (omega (arith, le-max_right (part_depth m) (uses_depth us))) (rest_follow_one m us k a) y g)
  uses_arrive (and_uses (Two m x) us) so k ts w e d a y f =
      and_then (and_then (part_arrives m so (part_signs x (uses_signs us k)) ts w.0.0 e (omega (arith, le-max_left (max (part_depth m) (part_depth x)) (uses_depth us), le-max_left (part_depth m) (part_depth x))) (calm_follows m (part_signs x (uses_signs us k)) (part_arrows x (uses_signs us k) w.0.1)) (part_colons false x (uses_signs us k) w.0.1 (uses_colons false us k w.1 y)) f) (λ first rest g.
      part_arrives x (open_brackets (having so.inner (part_items m) first) so.outer) (uses_signs us k) rest w.0.1 e (omega (arith, le-max_left (max (part_depth m) (part_depth x)) (uses_depth us), le-max_right (part_depth m) (part_depth x))) (two_follows m x us k w.1 a) (uses_colons false us k w.1 y) g)) (λ second more h.
      uses_arrive us (open_brackets (having so.inner (part_items m ++ part_items x) second) so.outer) k more w.1 e (omega (arith, le-max_right (max (part_depth m) (part_depth x)) (uses_depth us))) (rest_follow_two m x us k a) y h)

  deriveds_arrive : (ds : Deriveds) (so : OpenBrackets) (k : List Sign) (ts : List Token) → WellDeriveds ds → Expressive so.inner.inside → length so.outer + deriveds_depth ds ≤ 128 → Arrows false k → Colons false k → Fits (deriveds_signs ds k) ts → Arrives so (deriveds_items ds) k ts
  deriveds_arrive no_deriveds so k ts w e d a y f = nothing_more so k ts f
  deriveds_arrive (and_deriveds c ds) so k ts w e d a y f =
      and_then (derived_arrives c so (deriveds_signs ds k) ts w.0 e (omega (arith, le-max_left (derived_depth c) (deriveds_depth ds))) (inl (deriveds_arrows ds k w.1 a)) (deriveds_colons false ds k w.1 y) f) (λ first rest g.
      deriveds_arrive ds (open_brackets (having so.inner (derived_items c) first) so.outer) k rest w.1 e (omega (arith, le-max_right (derived_depth c) (deriveds_depth ds))) a y g)

  exprs_arrive : (es : Exprs) (b : Bracket) (c : ℕ) (l around : OpenBracket) (x : Element) (outer : List OpenBracket) (k : List Sign) (ts : List Token) → punct_sort c ≡ Closes b → closes b l.inside ≡ true → Listing l.inside → WellExprs es → length outer + (1 + exprs_depth es) ≤ 128 → Makes (collecting l es) x → Fits (exprs_signs es (Gap ∷ Mark c ∷ k)) ts → (rest : List Token) × Fits k rest × (walk (open_brackets (clean l) (around ∷ outer)) ts ≡ walk (open_brackets (and_item (Standing x) around) outer) rest)
  exprs_arrive no_exprs b c l around x outer k ts p q h w d m f = close_empty b c l around x outer k ts p q (many_listing l.inside h) m f
  exprs_arrive (and_exprs v es) b c l around x outer k ts p q h w d m f =
      let a = expr_arrives v (open_brackets (clean l) (around ∷ outer)) (exprs_more es (Gap ∷ Mark c ∷ k)) ts w.0 (expressive_listing l.inside h) (omega (arith, le-max_left (expr_depth v) (exprs_depth es))) (after_expr_arrows es b c k p) (after_expr_colons es b c k p) f in
      let r = exprs_more_arrive es b c l (and_expression v l) around x (expr_items v) a.first outer k a.rest p q q h h w.1 (omega (arith, le-max_right (expr_depth v) (exprs_depth es))) (completes_expression l v h w.0) m a.fits in
      (r.0, r.1, a.walks ∙ r.2)

  exprs_more_arrive : (es : Exprs) (b : Bracket) (c : ℕ) (l next around : OpenBracket) (x : Element) (is : List Item) (first : Option (List Token)) (outer : List OpenBracket) (k : List Sign) (ts : List Token) → punct_sort c ≡ Closes b → closes b l.inside ≡ true → closes b next.inside ≡ true → Listing l.inside → Listing next.inside → WellExprs es → length outer + (1 + exprs_depth es) ≤ 128 → Completes l is (clean next) → Makes (collecting next es) x → Fits (exprs_more es (Gap ∷ Mark c ∷ k)) ts → (rest : List Token) × Fits k rest × (walk (open_brackets (having (clean l) is first) (around ∷ outer)) ts ≡ walk (open_brackets (and_item (Standing x) around) outer) rest)
  exprs_more_arrive no_exprs b c l next around x is first outer k ts p q n h i w d o m f = close_after b c l next around x is first outer k ts p q n (many_listing l.inside h) (many_listing next.inside i) o m f
  exprs_more_arrive (and_exprs v es) b c l next around x is first outer k ts p q n h i w d o m f =
      let s = apart_walks l next is first (around ∷ outer) (expr_signs v (exprs_more es (Gap ∷ Mark c ∷ k))) ts (many_listing l.inside h) (many_listing next.inside i) o f in
      let a = expr_arrives v (open_brackets (clean next) (around ∷ outer)) (exprs_more es (Gap ∷ Mark c ∷ k)) s.0 w.0 (expressive_listing next.inside i) (omega (arith, le-max_left (expr_depth v) (exprs_depth es))) (after_expr_arrows es b c k p) (after_expr_colons es b c k p) s.1 in
      let r = exprs_more_arrive es b c next (and_expression v next) around x (expr_items v) a.first outer k a.rest p n n i i w.1 (omega (arith, le-max_right (expr_depth v) (exprs_depth es))) (completes_expression next v i w.0) m a.fits in
      (r.0, r.1, s.2 ∙ a.walks ∙ r.2)

  block_arrives : (b : BlockTree) (so : OpenBrackets) (k : List Sign) (ts : List Token) → WellBlock b → length so.outer + (1 + block_depth b) ≤ 128 → Fits (block_signs b k) ts → Arrives so (part_item (Block b) ∷ []) k ts
  block_arrives (block place c no_bodies) so k ts w d f = elim w.0 [ ]
  block_arrives (block place c (and_bodies b bs)) so k ts w d f =
      let m = exact_is f in
      let o = open_step Curly so (mark_at punctuation.open_curly place) ts m.0 inside.Block m.1 refl (omega arith) refl in
      let around = having so.inner [] (or_first so.inner.first ts) in
      let s = body_arrives b place [] (around ∷ so.outer) (bodies_more bs (Mark punctuation.close_curly ∷ k)) m.0 w.2.0 (omega (arith, le-max_left (body_depth b) (bodies_depth bs))) (after_body_arrows bs k) (after_body_colons bs k) m.2 in
      let r = bodies_more_arrive bs b place [] around (OfPart (Block (block place c (and_bodies b bs)))) so.outer k s.rest s.inner w.2.1 (omega (arith, le-max_right (body_depth b) (bodies_depth bs))) s.ends s.inside (makes_block place c b bs w.1) s.fits in
      group_arrives so (OfPart (Block (block place c (and_bodies b bs)))) k ts r.0 (open_brackets (body_start place []) (around ∷ so.outer)) m.0 o (s.walks ∙ r.2) r.1

  -- a body, from where it begins, up to its end
  body_arrives : (b : BodyTree) (place : Place) (so_far : List BodyTree) (outer : List OpenBracket) (k : List Sign) (ts : List Token) → WellBody b → length outer + body_depth b ≤ 128 → Arrows false k → Colons false k → Fits (body_signs b k) ts → Stated (body_start place so_far) (filled (body_start place so_far) b) outer k ts
  body_arrives (body None ss) place so_far outer k ts w d a y f = stmts_arrive ss true (body_start place so_far) outer k ts tt w.1 (omega (arith, le-max_right 0 (stmts_depth ss))) a y f
  body_arrives (body (Some h) ss) place so_far outer k ts w d a y f =
      let l = body_start place so_far in
      let g = gap_walks l outer (header_signs h (Mark punctuation.colon ∷ stmts_signs true ss (Gap ∷ k))) ts tt f in
      let x = header_is_walked h place so_far outer (stmts_signs true ss (Gap ∷ k)) g.0 w.0 (omega (arith, le-max_left (header_depth (Some h)) (stmts_depth ss))) g.1 in
      let s = stmts_arrive ss true (and_header h l) outer k x.0 tt w.1 (omega (arith, le-max_right (header_depth (Some h)) (stmts_depth ss))) a y x.1 in
      record { rest = s.rest; inner = s.inner; fits = s.fits; walks = g.2 ∙ x.2 ∙ s.walks; ends = s.ends; inside = s.inside }

  bodies_more_arrive : (bs : Bodies) (b : BodyTree) (place : Place) (so_far : List BodyTree) (around : OpenBracket) (x : Element) (outer : List OpenBracket) (k : List Sign) (ts : List Token) (last : OpenBracket) → WellBodies bs → length outer + (1 + bodies_depth bs) ≤ 128 → ((at : Place) → ended at last ≡ Ok (filled (body_start place so_far) b)) → last.inside ≡ inside.Block → MakesBlock place so_far b bs x → Fits (bodies_more bs (Mark punctuation.close_curly ∷ k)) ts → (rest : List Token) × Fits k rest × (walk (open_brackets last (around ∷ outer)) ts ≡ walk (open_brackets (and_item (Standing x) around) outer) rest)
  bodies_more_arrive no_bodies b place so_far around x outer k ts last w d n i m f =
      let c = mark_is f in
      (c.1, c.4, close_step Curly last (filled (body_start place so_far) b) around x outer c.0 ts c.1 c.2 (mark_sort c.0 punctuation.close_curly (Closes Curly) c.3 refl) (ap (λ (j : Inside). closes Curly j) i) (n c.0.place) m)
  bodies_more_arrive (and_bodies v bs) b place so_far around x outer k ts last w d n i m f =
      let c = mark_is f in
      let e = semicolon_walks last (filled (body_start place so_far) b) (around ∷ outer) c.0 ts c.1 c.2 (mark_sort c.0 punctuation.semicolon Ends c.3 refl) i (n c.0.place) in
      let s = body_arrives v place (with_body place so_far b) (around ∷ outer) (bodies_more bs (Mark punctuation.close_curly ∷ k)) c.1 w.0 (omega (arith, le-max_left (body_depth v) (bodies_depth bs))) (after_body_arrows bs k) (after_body_colons bs k) c.4 in
      let r = bodies_more_arrive bs v place (with_body place so_far b) around x outer k s.rest s.inner w.1 (omega (arith, le-max_right (body_depth v) (bodies_depth bs))) s.ends s.inside m s.fits in
      (r.0, r.1, e ∙ ap (λ (l : OpenBracket). walk (open_brackets l (around ∷ outer)) c.1) (body_is_start place so_far b) ∙ s.walks ∙ r.2)

  -- statements, from where a body or a program begins, or after a predicate
  stmts_arrive : (ss : Stmts) (in_block : Bool) (l : OpenBracket) (outer : List OpenBracket) (k : List Sign) (ts : List Token) → Running in_block l.inside → WellStmts in_block ss → length outer + stmts_depth ss ≤ 128 → Arrows false k → Colons false k → Fits (stmts_signs true ss (Gap ∷ k)) ts → Stated l (stating l ss) outer k ts
  stmts_arrive no_stmts in_block l outer k ts r w d a y f =
      let g = gap_walks l outer k ts (many_running in_block l.inside r) f in
      record { rest = g.0; inner = clean l; fits = g.1; walks = g.2; ends = λ at. clean_ends l at (many_running in_block l.inside r); inside = refl }
  stmts_arrive (and_stmts (Eval e) ss) in_block l outer k ts r w d a y f =
      let g = gap_walks l outer (expr_signs e (stmts_signs false ss (Gap ∷ k))) ts (many_running in_block l.inside r) f in
      let x = expr_arrives e (open_brackets (clean l) outer) (stmts_signs false ss (Gap ∷ k)) g.0 w.0 (expressive_running in_block l.inside r) (omega (arith, le-max_left (expr_depth e) (stmts_depth ss))) (after_stmt_arrows ss k a) (after_stmt_colons ss k y) g.1 in
      let s = stmts_more_arrive ss in_block l (and_statement (Eval e) l) (expr_items e) x.first outer k x.rest r r w.1 (omega (arith, le-max_right (expr_depth e) (stmts_depth ss))) a y (completes_evaluated l in_block e r w.0) x.fits in
      record { rest = s.rest; inner = s.inner; fits = s.fits; walks = g.2 ∙ x.walks ∙ s.walks; ends = s.ends; inside = s.inside }
  stmts_arrive (and_stmts (Predicate e) ss) in_block l outer k ts r w d a y f =
      let g = gap_walks l outer (expr_signs e (Mark punctuation.question_mark ∷ stmts_signs true ss (Gap ∷ k))) ts (many_running in_block l.inside r) f in
      let x = expr_arrives e (open_brackets (clean l) outer) (Mark punctuation.question_mark ∷ stmts_signs true ss (Gap ∷ k)) g.0 w.0.2 (expressive_running in_block l.inside r) (omega (arith, le-max_left (expr_depth e) (stmts_depth ss))) (other_arrows Asks punctuation.question_mark (stmts_signs true ss (Gap ∷ k)) refl tt) (asks_colons (stmts_signs true ss (Gap ∷ k))) g.1 in
      let c = mark_is x.fits in
      let q = question_walks l in_block e x.first outer c.0 x.rest c.1 c.2 (mark_sort c.0 punctuation.question_mark Asks c.3 refl) r w.0.0 w.0.1 w.0.2 in
      let s = stmts_arrive ss in_block (and_statement (Predicate e) l) outer k c.1 r w.1 (omega (arith, le-max_right (expr_depth e) (stmts_depth ss))) a y c.4 in
      record { rest = s.rest; inner = s.inner; fits = s.fits; walks = g.2 ∙ x.walks ∙ q ∙ s.walks; ends = s.ends; inside = s.inside }
  stmts_arrive (and_stmts (Export q) ss) in_block l outer k ts r w d a y f =
      let g = gap_walks l outer (pattern_signs q (Mark punctuation.export_arrow ∷ stmts_signs false ss (Gap ∷ k))) ts (many_running in_block l.inside r) f in
      let x = export_arrives q in_block (open_brackets (clean l) outer) (stmts_signs false ss (Gap ∷ k)) g.0 w.0 r (omega (arith, le-max_left (pattern_depth q) (stmts_depth ss))) (after_stmt_colons ss k y) g.1 in
      let s = stmts_more_arrive ss in_block l (and_statement (Export q) l) (pattern_items q ++ Drawn arrow.Export ∷ []) x.first outer k x.rest r r w.1 (omega (arith, le-max_right (pattern_depth q) (stmts_depth ss))) a y (completes_exported l in_block q r w.0) x.fits in
      record { rest = s.rest; inner = s.inner; fits = s.fits; walks = g.2 ∙ x.walks ∙ s.walks; ends = s.ends; inside = s.inside }

  -- statements after another one, which has not ended
  stmts_more_arrive : (ss : Stmts) (in_block : Bool) (l next : OpenBracket) (is : List Item) (first : Option (List Token)) (outer : List OpenBracket) (k : List Sign) (ts : List Token) → Running in_block l.inside → Running in_block next.inside → WellStmts in_block ss → length outer + stmts_depth ss ≤ 128 → Arrows false k → Colons false k → Completes l is (clean next) → Fits (stmts_signs false ss (Gap ∷ k)) ts → StatedFrom (having (clean l) is first) (stating next ss) outer k ts
  stmts_more_arrive no_stmts in_block l next is first outer k ts r n w d a y c f = last_statement l next is first outer k ts (many_running in_block l.inside r) (many_running in_block next.inside n) (same_running in_block next.inside l.inside n r) c f
  stmts_more_arrive (and_stmts (Eval e) ss) in_block l next is first outer k ts r n w d a y c f =
      let g = apart_walks l next is first outer (expr_signs e (stmts_signs false ss (Gap ∷ k))) ts (many_running in_block l.inside r) (many_running in_block next.inside n) c f in
      let x = expr_arrives e (open_brackets (clean next) outer) (stmts_signs false ss (Gap ∷ k)) g.0 w.0 (expressive_running in_block next.inside n) (omega (arith, le-max_left (expr_depth e) (stmts_depth ss))) (after_stmt_arrows ss k a) (after_stmt_colons ss k y) g.1 in
      let s = stmts_more_arrive ss in_block next (and_statement (Eval e) next) (expr_items e) x.first outer k x.rest n n w.1 (omega (arith, le-max_right (expr_depth e) (stmts_depth ss))) a y (completes_evaluated next in_block e n w.0) x.fits in
      record { rest = s.rest; inner = s.inner; fits = s.fits; walks = g.2 ∙ x.walks ∙ s.walks; ends = s.ends; inside = s.inside ∙ same_running in_block next.inside l.inside n r }
  stmts_more_arrive (and_stmts (Predicate e) ss) in_block l next is first outer k ts r n w d a y c f =
      let g = apart_walks l next is first outer (expr_signs e (Mark punctuation.question_mark ∷ stmts_signs true ss (Gap ∷ k))) ts (many_running in_block l.inside r) (many_running in_block next.inside n) c f in
      let x = expr_arrives e (open_brackets (clean next) outer) (Mark punctuation.question_mark ∷ stmts_signs true ss (Gap ∷ k)) g.0 w.0.2 (expressive_running in_block next.inside n) (omega (arith, le-max_left (expr_depth e) (stmts_depth ss))) (other_arrows Asks punctuation.question_mark (stmts_signs true ss (Gap ∷ k)) refl tt) (asks_colons (stmts_signs true ss (Gap ∷ k))) g.1 in
      let m = mark_is x.fits in
      let q = question_walks next in_block e x.first outer m.0 x.rest m.1 m.2 (mark_sort m.0 punctuation.question_mark Asks m.3 refl) n w.0.0 w.0.1 w.0.2 in
      let s = stmts_arrive ss in_block (and_statement (Predicate e) next) outer k m.1 n w.1 (omega (arith, le-max_right (expr_depth e) (stmts_depth ss))) a y m.4 in
      record { rest = s.rest; inner = s.inner; fits = s.fits; walks = g.2 ∙ x.walks ∙ q ∙ s.walks; ends = s.ends; inside = s.inside ∙ same_running in_block next.inside l.inside n r }
  stmts_more_arrive (and_stmts (Export q) ss) in_block l next is first outer k ts r n w d a y c f =
      let g = apart_walks l next is first outer (pattern_signs q (Mark punctuation.export_arrow ∷ stmts_signs false ss (Gap ∷ k))) ts (many_running in_block l.inside r) (many_running in_block next.inside n) c f in
      let x = export_arrives q in_block (open_brackets (clean next) outer) (stmts_signs false ss (Gap ∷ k)) g.0 w.0 n (omega (arith, le-max_left (pattern_depth q) (stmts_depth ss))) (after_stmt_colons ss k y) g.1 in
      let s = stmts_more_arrive ss in_block next (and_statement (Export q) next) (pattern_items q ++ Drawn arrow.Export ∷ []) x.first outer k x.rest n n w.1 (omega (arith, le-max_right (pattern_depth q) (stmts_depth ss))) a y (completes_exported next in_block q n w.0) x.fits in
      record { rest = s.rest; inner = s.inner; fits = s.fits; walks = g.2 ∙ x.walks ∙ s.walks; ends = s.ends; inside = s.inside ∙ same_running in_block next.inside l.inside n r }

pub program_walks : (ss : Stmts) (ts : List Token) → WellStmts false ss → stmts_depth ss ≤ 128 → Fits (stmts_signs true ss (Gap ∷ [])) ts → walk (open_brackets (fresh inside.Program nowhere) []) ts ≡ Ok ss
program_walks ss ts w d f =
    let s = stmts_arrive ss false (fresh inside.Program nowhere) [] [] ts tt w (omega arith) nil_arrows nil_colons f in
    s.walks ∙ at_end s.rest s.fits s.inner ∙ ap (λ (r : Result OpenBracket Refusal). program_of [] r) (s.ends nowhere)
    ∙ ap (λ (all : List Stmt). Ok (stmts all)) (stating_statements (fresh inside.Program nowhere) ss) ∙ ap (λ (all : Stmts). Ok all) (stmts_back ss)
