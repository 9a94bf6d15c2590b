use Rattle.std.proofs.Common.{◌≡◌, ℕ, ◌+◌, ◌-◌, Bool, false, suc, List, ◌∷◌, map, drop, length, arith, refl, ap, sym, ◌∙◌}
use Rattle.std.specs.Option.{option_map}
use Rattle.std.proofs.lemmas.Iterator.Adapters.{YieldsList-from_rev_slice}
use Rattle.std.proofs.lemmas.Iterator.Consumers.{YieldsList-end}
use Rattle.std.proofs.lemmas.List.{at_drop_all}
use Rattle.bqn_syntax.specs.declared.tree.BlockTree.{out-BlockTree}
use Rattle.bqn_syntax.specs.declared.tree.BodyTree.{BodyTree as CodeBody, out-BodyTree}
use Rattle.bqn_syntax.specs.declared.tree.Expr.{Expr as CodeExpr}
use Rattle.bqn_syntax.specs.declared.tree.Part.{Part as CodePart}
use Rattle.bqn_syntax.specs.declared.tree.Stmt.{Stmt as CodeStmt}
use Rattle.bqn_syntax.specs.blocks.Blocks.{plain_in}
use Rattle.bqn_syntax.specs.grammar.Classes.{body_calls}
use Rattle.bqn_syntax.specs.grammar.TreeEquations.{block-out, body-out}
use Rattle.bqn_syntax.specs.grammar.Trees.{Step, BlockTree, body, header_of, expr_of, part_of, step_of, stmt_of, body_of, steps, exprs, parts, stmts, bodies}
use Rattle.bqn_code.specs.declared.instr.Instr.TheVariants as i
use Rattle.bqn_compile.specs.declared.count.Count.{Count}
use Rattle.bqn_compile.specs.Blocks.{bodies_code}
use Rattle.bqn_compile.specs.Bodies.{kind_code}
use Rattle.bqn_compile.specs.Walking.{setting_of, names_of, walked, onward, push, skip, steps_walk, exprs_behind, parts_behind, stmts_behind, bodies_behind, block_walk}
use Rattle.bqn_base.proofs.Lists.{all_yielded}
use Rattle.bqn_compile.proofs.Onward.{stmts-end}
use Rattle.bqn_compile.proofs.Turning.{expr-turned, part-turned, list-turned, strand-turned}
use Rattle.bqn_compile.proofs.Bodies.{body-code-made, body-walk-made, block-made}
use Rattle.bqn_compile.proofs.Loops.{on_ok, many-exprs, many-parts, many-bodies, empty, drop-next, deriveds-step, stmts-step, bodies-walk, bodies-made}
use Rattle.bqn_compile.proofs.Unstarted.{unstarted-Apply, unstarted-Assign, unstarted-Modify, unstarted-none}
use Rattle.bqn_compile.proofs.verified.places.Placing.{places_made}
use Rattle.bqn_compile.proofs.emitting.+emit.Goals as goal

pub forward-returns : goal.forward-returns
forward-returns t c = expr-turned (setting_of c.args.known.now) (names_of c.args.known.now) c.args.inside c.args.out.now c.expr.new.out c.turn.new.out c.len-from.result (expr_of c.args.e.now) (c.len-from.ensures ∙ c.args.out.now.code.ok.0) c.in_ok-expr.ensures c.turn.ensures

pub forward_part-returns : goal.forward_part-returns
forward_part-returns t c = part-turned (setting_of c.args.known.now) (names_of c.args.known.now) c.args.inside c.args.out.now c.part.new.out c.turn.new.out c.len-from.result (part_of c.args.x.now) (c.len-from.ensures ∙ c.args.out.now.code.ok.0) c.in_ok-part.ensures c.turn.ensures

pub list-returns : goal.list-returns
list-returns t c =
    list-turned (setting_of c.args.known.now) (names_of c.args.known.now) c.args.inside c.push.new.out c.loop-e.out c.turn.new.out c.len-from.result (exprs (map expr_of c.args.all.now)) c.args.out.now
    (c.in_ok-push.ensures.walked ∙ ap (λ (n : ℕ). push (i.List n) (walked c.args.out.now)) (c.in_ok-length.ensures ∙ sym (many-exprs c.args.all.now)))
    (c.len-from.ensures ∙ c.push.new.out.code.ok.0)
    (sym (at_drop_all (λ (es : List CodeExpr). exprs_behind (setting_of c.args.known.now) (names_of c.args.known.now) c.args.inside (exprs (map expr_of es)) (onward c.loop-e.out)) c.args.all.now c.loop-e.e-index c.loop-e-test.false) ∙ c.loop-e.invariant)
    c.turn.ensures

pub strand-returns : goal.strand-returns
strand-returns t c =
    strand-turned (setting_of c.args.known.now) (names_of c.args.known.now) c.args.inside c.push.new.out c.loop-x.out c.turn.new.out c.len-from.result (parts (map part_of c.args.all.now)) c.args.out.now
    (c.in_ok-push.ensures.walked ∙ ap (λ (n : ℕ). push (i.List n) (walked c.args.out.now)) (c.in_ok-length.ensures ∙ sym (many-parts c.args.all.now)))
    (c.len-from.ensures ∙ c.push.new.out.code.ok.0)
    (sym (at_drop_all (λ (xs : List CodePart). parts_behind (setting_of c.args.known.now) (names_of c.args.known.now) c.args.inside (parts (map part_of xs)) (onward c.loop-x.out)) c.args.all.now c.loop-x.x-index c.loop-x-test.false) ∙ c.loop-x.invariant)
    c.turn.ensures

pub steps-returns : goal.steps-returns
steps-returns t c =
    c.loop-s.invariant
    ∙ ap (λ (ss : List Step). steps_walk (setting_of c.args.known.now) (names_of c.args.known.now) c.args.inside (steps ss) (walked c.args.out.now))
    (all_yielded step_of c.args.all.now c.loop-s.yielded (YieldsList-end (YieldsList-from_rev_slice c.args.all.now cc) c.loop-s.yielded _ c.loop-s.yielded_by _ _ c.in-None.is c.next.ensures.steps).0)

pub deriveds-loop-d-preserved : goal.deriveds-loop-d-preserved
deriveds-loop-d-preserved t c =
    let e : drop c.loop-d.d-index c.args.all.now ≡ c.d-item.result ∷ drop (c.loop-d.d-index + 1) c.args.all.now = drop-next c.args.all.now c.loop-d.d-index c.d-item.result (omega arith) c.d-item.is in
    let k : length (drop c.loop-d.d-index c.args.all.now) ≡ suc (length (drop (c.loop-d.d-index + 1) c.args.all.now)) = ap length e in
    let n : c.loop-d.right - 1 ≡ length (drop (c.loop-d.d-index + 1) c.args.all.now) = omega (arith, k, c.loop-d.invariant.right) in
    record {
      right = n;
      walk = deriveds-step (setting_of c.args.known.now) (names_of c.args.known.now) c.args.inside (drop c.loop-d.d-index c.args.all.now) (drop (c.loop-d.d-index + 1) c.args.all.now) c.d-item.result (c.loop-d.right - 1) c.of.result (walked c.loop-d.out) (walked c.fork.new.out) (walked c.derived.new.out) _ e n c.of.ensures c.in_ok-fork.ensures c.in_ok-derived.ensures c.loop-d.invariant.walk;
    }

pub block-returns : goal.block-returns
block-returns t c =
    block-made (setting_of c.args.known.now) (names_of c.args.known.now) c.args.inside (out-BlockTree c.args.b.now).place (out-BlockTree c.args.b.now).class (bodies (map body_of (out-BlockTree c.args.b.now).bodies))
    c.args.out.now c.push.new.out c.skip.new.out c.reserve.new.out c.bodies.new.out c.fill.new.out c.in_ok-block.field-0 c.in_ok-place.place c.args.out.now.at.bodies c.in_ok-length.field-0 c.in_ok-made.made
    c.in_ok-block.ensures c.in_ok-push.ensures.onward
    (c.in_ok-length.ensures ∙ ap length c.list.ensures ∙ sym (many-bodies (out-BlockTree c.args.b.now).bodies))
    (c.in_ok-skip.ensures.onward ∙ ap (λ (so : Count). skip so (onward c.push.new.out)) c.one_block.ensures)
    c.in_ok-place.ensures.place c.in_ok-place.ensures.walk refl
    (c.in_ok-made.ensures.made ∙ ap (λ (bs : List CodeBody). bodies_code (setting_of c.args.known.now) (names_of c.args.known.now) (plain_in (bodies (map body_of bs))) 0 c.args.out.now.at.bodies (onward c.reserve.new.out).at (bodies (map body_of bs))) c.list-2.ensures)
    (c.in_ok-made.ensures.walk ∙ ap (λ (bs : List CodeBody). bodies_behind (setting_of c.args.known.now) (names_of c.args.known.now) c.args.out.now.at.bodies (bodies (map body_of bs)) (onward c.reserve.new.out)) c.list-2.ensures)
    c.fill.ensures
    ∙ ap (λ (b : BlockTree). block_walk (setting_of c.args.known.now) (names_of c.args.known.now) c.args.inside b (walked c.args.out.now)) (sym (block-out c.args.b.now))

pub bodies-loop-b-preserved : goal.bodies-loop-b-preserved
bodies-loop-b-preserved t c =
    let a : drop c.loop-b.b-index c.args.all.now ≡ c.b-item.result ∷ drop (c.loop-b.b-index + 1) c.args.all.now = drop-next c.args.all.now c.loop-b.b-index c.b-item.result (omega arith) c.b-item.is in
    let e : body_of c.b-item.result ≡ body (option_map header_of (out-BodyTree c.b-item.result).header) (stmts (map stmt_of c.list-statements.result.now)) = body-out c.b-item.result ∙ ap (λ (ss : List CodeStmt). body (option_map header_of (out-BodyTree c.b-item.result).header) (stmts (map stmt_of ss))) (sym c.list-statements.ensures) in
    let n : c.in-Some.next ≡ c.loop-b.number + 1 = omega (arith, c.in-Some.ensures) in
    record {
      walk = bodies-walk (setting_of c.args.known.now) (names_of c.args.known.now) c.loop-b.number c.in-Some.next c.in_ok-plain.plain c.loop-b.before c.in_ok-before.before c.kind-kind.result (option_map header_of (out-BodyTree c.b-item.result).header) (stmts (map stmt_of c.list-statements.result.now)) c.b-item.result (drop c.loop-b.b-index c.args.all.now) (drop (c.loop-b.b-index + 1) c.args.all.now) (onward c.loop-b.out) (onward c.body.new.out)
          _ a e n c.in_ok-own.ensures.walk c.loop-b.invariant.walk;
      made = bodies-made (setting_of c.args.known.now) (names_of c.args.known.now) c.loop-b.number c.in-Some.next c.in_ok-plain.plain c.loop-b.before c.in_ok-before.before c.kind-kind.result (option_map header_of (out-BodyTree c.b-item.result).header) (stmts (map stmt_of c.list-statements.result.now)) c.b-item.result (drop c.loop-b.b-index c.args.all.now) (drop (c.loop-b.b-index + 1) c.args.all.now) (onward c.loop-b.out) (onward c.body.new.out)
          c.in_ok-own.own c.loop-b.made.items c.push.new.self.items _ a e n c.in_ok-own.ensures.walk
          (c.kind-kind.ensures ∙ ap (λ (p : Bool). kind_code (body_calls c.in_ok-plain.plain c.loop-b.before (option_map header_of (out-BodyTree c.b-item.result).header) p)) c.has_predicate.ensures)
          c.in_ok-own.ensures.made c.in_ok-before.ensures c.in_ok-push.ensures.items c.loop-b.invariant.made;
    }

pub body-returns-clause-made : goal.body-returns-clause-made
unfolding onward
body-returns-clause-made t c =
    λ j. record {
      kind = c.args.kind;
      slots = c.in_ok-own.ensures.slots j;
      exports = c.in_ok-own.ensures.exports j;
      code = (c.new-2.ensures ∙ ap (λ v. v.items) c.replace-code.ensures.value
          ∙ body-code-made (setting_of c.args.known.now) (names_of c.args.known.now) c.args.out.now (record { at = c.args.out.now.at; code = c.replace-around.new.dest; blocks = c.args.out.now.blocks }) c.header.new.out c.statements.new.out c.args.number (option_map header_of c.args.h.now) (stmts (map stmt_of c.args.all.now))
          refl (ap (λ v. v.items) c.replace-around.ensures.after ∙ c.new.ensures.items) c.in_ok-header.ensures
          (c.in_ok-statements.ensures ∙ ap (λ (e : Bool). stmts_behind (setting_of c.args.known.now) (names_of c.args.known.now) c.args.number false e (stmts (map stmt_of c.args.all.now)) (onward c.header.new.out)) c.statements-exports.ensures)) j;
      places = (c.new-3.ensures ∙ c.in_ok-places.ensures ∙ places_made (setting_of c.args.known.now) c.args.out.now.at (option_map header_of c.args.h.now) (stmts (map stmt_of c.args.all.now)) c.statements-exports.result c.statements-exports.ensures) j;
    }

pub body-returns-clause-walk : goal.body-returns-clause-walk
body-returns-clause-walk t c =
    body-walk-made (setting_of c.args.known.now) (names_of c.args.known.now) c.args.out.now (record { at = c.args.out.now.at; code = c.replace-around.new.dest; blocks = c.args.out.now.blocks }) c.header.new.out c.statements.new.out c.args.number (option_map header_of c.args.h.now) (stmts (map stmt_of c.args.all.now))
    (record { at = c.statements.new.out.at; code = c.replace-code.new.dest; blocks = c.statements.new.out.blocks })
    refl refl c.in_ok-header.ensures
    (c.in_ok-statements.ensures ∙ ap (λ (e : Bool). stmts_behind (setting_of c.args.known.now) (names_of c.args.known.now) c.args.number false e (stmts (map stmt_of c.args.all.now)) (onward c.header.new.out)) c.statements-exports.ensures)
    refl refl (ap (λ v. v.items) (c.replace-code.ensures.after ∙ c.replace-around.ensures.value))

pub unstarted-returns-in_default : goal.unstarted-returns-in_default
unstarted-returns-in_default t c = on_ok c.push.result _ _ _ c.push.ensures.walked (unstarted-none (setting_of c.args.known.now) (names_of c.args.known.now) c.args.inside c.args.all.now (walked c.args.out.now) (empty c.args.all.now c.in_default.ensures.cases))

pub unstarted-returns-in_ok-derived-in-Modify : goal.unstarted-returns-in_ok-derived-in-Modify
unstarted-returns-in_ok-derived-in-Modify t c =
    on_ok c.push-in-Modify-3.result _ _ _ c.push-in-Modify-3.ensures.walked
    (unstarted-Modify (setting_of c.args.known.now) (names_of c.args.known.now) c.args.inside c.args.all.now c.in-Some.rest.now c.in-Some.first.now (walked c.args.out.now) c.in-Modify.t c.in-Modify.function c.in_ok-argument-in-Modify.argument c.in_ok-storing-in-Modify.storing
    (walked c.steps.new.out) (walked c.push-in-Modify.new.out) (walked c.push-in-Modify-2.new.out) (walked c.skip.new.out) (walked c.derived.new.out)
    c.in-Some.ensures.cases.0 c.in-Modify.is c.in_ok-steps-in-Modify.ensures c.in_ok-argument-in-Modify.ensures c.in_ok-storing-in-Modify.ensures
    c.in_ok-push-in-Modify.ensures.walked c.in_ok-push-in-Modify-2.ensures.walked
    (c.in_ok-skip-in-Modify.ensures.walked ∙ ap (λ (so : Count). skip so (walked c.push-in-Modify-2.new.out)) c.token.ensures)
    c.in_ok-derived-in-Modify.ensures)

pub unstarted-returns-in_ok-steps-in-Apply : goal.unstarted-returns-in_ok-steps-in-Apply
unstarted-returns-in_ok-steps-in-Apply t c =
    on_ok c.push-in-Apply.result _ _ _ c.push-in-Apply.ensures.walked
    (ap (push i.Nothing) c.in_ok-steps-in-Apply.ensures ∙ unstarted-Apply (setting_of c.args.known.now) (names_of c.args.known.now) c.args.inside c.args.all.now c.in-Some.rest.now c.in-Some.first.now (walked c.args.out.now) c.in-Apply.function c.in-Apply.left c.in-Some.ensures.cases.0 c.in-Apply.is)

pub unstarted-returns-in_ok-steps-in-Assign : goal.unstarted-returns-in_ok-steps-in-Assign
unstarted-returns-in_ok-steps-in-Assign t c =
    on_ok c.push-in-Assign.result _ _ _ c.push-in-Assign.ensures.walked
    (ap (push i.Nothing) c.in_ok-steps-in-Assign.ensures ∙ unstarted-Assign (setting_of c.args.known.now) (names_of c.args.known.now) c.args.inside c.args.all.now c.in-Some.rest.now c.in-Some.first.now (walked c.args.out.now) c.in-Assign.target c.in-Assign.arrow c.in-Some.ensures.cases.0 c.in-Assign.is)

pub statements-loop-s-preserved : goal.statements-loop-s-preserved
statements-loop-s-preserved t c =
    let e : drop c.loop-s.s-index c.args.all.now ≡ c.s-item.result ∷ drop (c.loop-s.s-index + 1) c.args.all.now = drop-next c.args.all.now c.loop-s.s-index c.s-item.result (omega arith) c.s-item.is in
    stmts-step (setting_of c.args.known.now) (names_of c.args.known.now) c.args.inside (drop c.loop-s.s-index c.args.all.now) (drop (c.loop-s.s-index + 1) c.args.all.now) c.s-item.result c.loop-s.left c.in_ok-left.left c.args.exports (onward c.loop-s.out) (onward c.statement.new.out) _ e c.in_ok-left.ensures.leaves c.in_ok-left.ensures.walk c.loop-s.invariant

pub statements-returns : goal.statements-returns
statements-returns t c =
    on_ok c.end.result _ _ _ c.end.ensures
    (stmts-end (setting_of c.args.known.now) (names_of c.args.known.now) c.args.inside c.loop-s.left c.args.exports (onward c.loop-s.out)
    ∙ sym (at_drop_all (λ (ss : List CodeStmt). stmts_behind (setting_of c.args.known.now) (names_of c.args.known.now) c.args.inside c.loop-s.left c.args.exports (stmts (map stmt_of ss)) (onward c.loop-s.out)) c.args.all.now c.loop-s.s-index c.loop-s-test.false)
    ∙ c.loop-s.invariant)
