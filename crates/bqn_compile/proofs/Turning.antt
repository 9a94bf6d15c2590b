-- Elements, lists and strands: what is pushed backward is turned round.
use Rattle.std.proofs.Common.{◌≡◌, ℕ, List, length, ap, ◌∙◌}
use Rattle.bqn_syntax.specs.grammar.Trees.{Expr, Part, Exprs, Parts}
use Rattle.bqn_syntax.specs.scope.Bodies.{BodyNames}
use Rattle.bqn_code.specs.declared.instr.Instr.TheVariants as i
use Rattle.bqn_compile.specs.declared.walk.Walk.{Walk}
use Rattle.bqn_compile.specs.Counting.{in_expr, in_part, in_exprs, in_parts}
use Rattle.bqn_compile.specs.Expressions.{Setting, how_many_exprs, how_many_parts, expr_code, part_code, exprs_code, parts_code}
use Rattle.bqn_compile.specs.Blocks.{expr_blocks, part_blocks, exprs_blocks, parts_blocks}
use Rattle.bqn_compile.specs.Walking.{Walked, walked, onward, turned, push, ahead, expr_walk, part_walk, expr_behind, part_behind, exprs_behind, parts_behind, list_walk, strand_walk}
use Rattle.bqn_compile.proofs.Walked.{expr-walks, part-walks}
use Rattle.bqn_compile.proofs.Onward.{onward-turned, walked-turned, exprs-are-behind, parts-are-behind}

module _ (g : Setting) (names : List BodyNames) (inside : ℕ) (old mid new : Walk) (n : ℕ) where
  pub expr-turned : (e : Expr) → n ≡ length old.code.items → walked mid ≡ expr_walk g names inside e (walked old) → onward new ≡ turned n (onward mid) → onward new ≡ expr_behind g names inside e (onward old)
  unfolding walked onward expr_behind
  expr-turned e p q r = onward-turned old mid new n (in_expr e) (expr_code g old.at e) (expr_blocks g names inside e old.at) p (q ∙ expr-walks g names inside e (walked old)) r

  pub part-turned : (x : Part) → n ≡ length old.code.items → walked mid ≡ part_walk g names inside x (walked old) → onward new ≡ turned n (onward mid) → onward new ≡ part_behind g names inside x (onward old)
  unfolding walked onward part_behind
  part-turned x p q r = onward-turned old mid new n (in_part x) (part_code g old.at x) (part_blocks g names inside x old.at) p (q ∙ part-walks g names inside x (walked old)) r

  pub list-turned : (es : Exprs) (first : Walk) → walked old ≡ push (i.List (how_many_exprs es)) (walked first) → n ≡ length old.code.items → onward mid ≡ exprs_behind g names inside es (onward old) → onward new ≡ turned n (onward mid) → walked new ≡ list_walk g names inside es (walked first)
  unfolding walked onward push list_walk
  list-turned es first f p q r =
      walked-turned old mid new n (in_exprs es) (exprs_code g old.at es) (exprs_blocks g names inside es old.at) p (q ∙ exprs-are-behind g names inside es (onward old)) r
      ∙ ap (λ (w : Walked). ahead (in_exprs es) (exprs_code g w.at es) (exprs_blocks g names inside es w.at) w) f

  pub strand-turned : (xs : Parts) (first : Walk) → walked old ≡ push (i.List (how_many_parts xs)) (walked first) → n ≡ length old.code.items → onward mid ≡ parts_behind g names inside xs (onward old) → onward new ≡ turned n (onward mid) → walked new ≡ strand_walk g names inside xs (walked first)
  unfolding walked onward push strand_walk
  strand-turned xs first f p q r =
      walked-turned old mid new n (in_parts xs) (parts_code g old.at xs) (parts_blocks g names inside xs old.at) p (q ∙ parts-are-behind g names inside xs (onward old)) r
      ∙ ap (λ (w : Walked). ahead (in_parts xs) (parts_code g w.at xs) (parts_blocks g names inside xs w.at) w) f
