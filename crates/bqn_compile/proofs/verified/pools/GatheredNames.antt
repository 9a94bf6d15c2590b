-- Gathering adds no more names than a tree has tokens beside the braces of its blocks.
use Rattle.std.proofs.Common.{◌≡◌, ◌≤◌, ℕ, suc, ◌+◌, Bool, true, false, nat_lt, List, [], ◌∷◌, ◌++◌, length, Option, Some, None, Result, Ok, Err, refl, sym, ap, ◌∙◌, arith, length-append}
use Rattle.bqn_base.specs.declared.place.Place.{Place}
use Rattle.bqn_base.specs.declared.refusal.Refusal.{Refusal}
use Rattle.bqn_syntax.specs.declared.token.Kind.{Kind}
use Rattle.bqn_syntax.specs.declared.token.Kind.TheVariants as kind
use Rattle.bqn_syntax.specs.declared.token.Token.{Token}
use Rattle.bqn_syntax.specs.declared.tree.Arrow.{Arrow}
use Rattle.bqn_syntax.specs.grammar.Trees.{Name, Skip, Literal, ListPattern, StrandPattern, Patterns, no_patterns, and_patterns, Header, Expr, Value, Train, Modifier, Use, One, Two, Part, Leaf, Elements, Merge, Paren, Block, Field, Strand, Nothing, Step, Apply, Assign, Modify, Stmt, Eval, Predicate, Export, BlockTree, block, BodyTree, body, Derived, derived, MaybePart, none, some, Exprs, no_exprs, and_exprs, Uses, no_uses, and_uses, Parts, no_parts, and_parts, Steps, no_steps, and_steps, Stmts, no_stmts, and_stmts, Bodies, no_bodies, and_bodies, Deriveds, no_deriveds, and_deriveds}
use Rattle.bqn_syntax.specs.grammar.Trees as tree
use Rattle.bqn_syntax.specs.scope.Order.{How, Defines, Reads, Changes, by_arrow}
use Rattle.bqn_syntax.specs.scope.Scope as scope
use Rattle.bqn_syntax.specs.scope.Scope.{has, name_of, defines}
use Rattle.bqn_syntax.specs.scope.Bodies.{exports_it}
use Rattle.bqn_syntax.specs.blocks.Counting.{how_many}
use Rattle.bqn_code.specs.declared.constant.Const.{Const}
use Rattle.bqn_compile.specs.declared.count.Count.{Count}
use Rattle.bqn_compile.specs.Counting.{nothing, past, one_block, in_kind, in_token, in_operand, in_targets, in_leaves, in_all_leaves, in_pattern, in_target, in_named_argument, in_argument, in_header, in_expr, in_part, in_block, in_maybe, in_steps, in_step, in_derived, in_uses, in_use, in_deriveds, in_exprs, in_parts, in_stmts, in_stmt, in_bodies, in_body}
use Rattle.bqn_compile.specs.Pools.{place_among, constant_of, seen_at}
use Rattle.bqn_compile.specs.Patterns.{pattern_code}
use Rattle.bqn_compile.specs.Gathering.{Gathered, Gathers, Most, and_on, ◌▹◌, if_room}
use Rattle.bqn_compile.specs.Gathering as gather
use Rattle.bqn_compile.proofs.verified.blocks.Sizes.{pattern_size, patterns_size, token_size, argument_size, header_size, targets_size, fields_size, expr_size, part_size, block_size, maybe_size, steps_size, step_size, derived_size, uses_size, use_size, deriveds_size, exprs_size, parts_size, stmts_size, stmt_size, bodies_size, body_size}

-- so many blocks and the names that this gathers are at most so many
pub record Adds (f : Gathers) (c : Count) (n : ℕ) : Type 0 where
  pub holds : (g h : Gathered) → f g ≡ Ok h → c.blocks + length h.names ≤ length g.names + n

-- what two gather, one behind the other
pub record Through (g h : Gathered) (o : Result Gathered Refusal) (next : Gathers) : Type 0 where
  pub between : Gathered
  pub first : o ≡ Ok between
  pub second : next between ≡ Ok h

pub through : (g h : Gathered) (o : Result Gathered Refusal) (next : Gathers) → and_on o next ≡ Ok h → Through g h o next
through g h (Ok b) next e = record { between = b; first = refl; second = e }
through g h (Err r) next e = absurd (cc)

both : {f f' : Gathers} {c c' : Count} {n n' : ℕ} → Adds f c n → Adds f' c' n' → Adds (f ▹ f') (past c c') (n + n')
both {f} {f'} {c} {c'} {n} {n'} a b = record {
  holds = λ (g h : Gathered) (e : and_on (f g) f' ≡ Ok h).
      let t : Through g h (f g) f' = through g h (f g) f' e in
      let p : c.blocks + length t.between.names ≤ length g.names + n = a.holds g t.between t.first in
      let q : c'.blocks + length h.names ≤ length t.between.names + n' = b.holds t.between h t.second in
      omega arith;
}

-- the same blocks by another count, and more tokens
within : {f : Gathers} {c d : Count} {n m : ℕ} → c.blocks ≡ d.blocks → n ≤ m → Adds f c n → Adds f d m
within {f} {c} {d} {n} {m} e l a = record {
  holds = λ (g h : Gathered) (q : f g ≡ Ok h).
      let p : c.blocks + length h.names ≤ length g.names + n = a.holds g h q in
      omega arith;
}

-- ---- one token

names_same : (g h : Gathered) → gather.done g ≡ Ok h → length g.names ≡ length h.names
names_same g h e = let q : g ≡ h = cc in ap (λ (x : Gathered). length x.names) q

if_room_same : (b : Bool) (place : Place) (g h : Gathered) → if_room b place g ≡ Ok h → length g.names ≡ length h.names
if_room_same true place g h e = names_same g h e
if_room_same false place g h e = absurd (cc)

-- where there is room, so much is added
roomy : (b : Bool) (place : Place) (next : Gathers) (c : Count) (n : ℕ) → Adds next c n → Adds (λ g. and_on (if_room b place g) next) c n
roomy b place next c n a = record {
  holds = λ (g h : Gathered) (e : and_on (if_room b place g) next ≡ Ok h).
      let t : Through g h (if_room b place g) next = through g h (if_room b place g) next e in
      let p : length g.names ≡ length t.between.names = if_room_same b place g t.between t.first in
      let q : c.blocks + length h.names ≤ length t.between.names + n = a.holds t.between h t.second in
      omega arith;
}

done_adds : Adds gather.done nothing 0
done_adds = record { holds = λ (g h : Gathered) (e : gather.done g ≡ Ok h). let p : length g.names ≡ length h.names = names_same g h e in omega arith }

next_use_adds : Adds gather.next_use nothing 0
next_use_adds = record { holds = λ (g h : Gathered) (e : gather.next_use g ≡ Ok h). let p : length g.names ≡ length h.names = names_same (record g { uses = suc g.uses }) h e in omega arith }

add_constant_same : (m : Most) (c : Const) (place : Place) (o : Option ℕ) (g h : Gathered) → gather.add_constant m c place o g ≡ Ok h → length g.names ≡ length h.names
add_constant_same m c place (Some n) g h e = names_same g h e
add_constant_same m c place None g h e =
    let more : Gathers = λ x. Ok (record x { constants = x.constants ++ c ∷ [] }) in
    let t : Through g h (if_room (nat_lt (length g.constants) m.constants) place g) more = through g h (if_room (nat_lt (length g.constants) m.constants) place g) more e in
    if_room_same (nat_lt (length g.constants) m.constants) place g t.between t.first ∙ names_same (record t.between { constants = t.between.constants ++ c ∷ [] }) h t.second

constant_adds : (m : Most) (o : Option Const) (place : Place) → Adds (gather.constant m o place) nothing 1
constant_adds m None place = record { holds = λ (g h : Gathered) (e : gather.constant m None place g ≡ Ok h). let p : length g.names ≡ length h.names = names_same g h e in omega arith }
constant_adds m (Some c) place = record {
  holds = λ (g h : Gathered) (e : gather.constant m (Some c) place g ≡ Ok h).
      let p : length g.names ≡ length h.names = add_constant_same m c place (place_among g.constants c) g h e in omega arith;
}

add_name_adds : (b : Bool) (name : List ℕ) (g h : Gathered) → gather.add_name b name g ≡ Ok h → length h.names ≤ length g.names + 1
add_name_adds true name g h e = let p : length g.names ≡ length h.names = names_same g h e in omega arith
add_name_adds false name g h e =
    let p : length (g.names ++ name ∷ []) ≡ length h.names = names_same (record g { names = g.names ++ name ∷ [] }) h e in
    let q : length (g.names ++ name ∷ []) ≡ length g.names + 1 = length-append g.names (name ∷ []) in
    omega arith

pooled_adds : (name : List ℕ) → Adds (gather.pooled name) nothing 1
pooled_adds name = record { holds = λ (g h : Gathered) (e : gather.pooled name g ≡ Ok h). let p : length h.names ≤ length g.names + 1 = add_name_adds (has g.names name) name g h e in omega arith }

pooled_if_adds : (b : Bool) (name : List ℕ) → Adds (gather.pooled_if b name) nothing 1
pooled_if_adds true name = pooled_adds name
pooled_if_adds false name = within refl (omega arith) done_adds

fields_add : (ts : List Token) → Adds (gather.fields ts) nothing (fields_size ts)
fields_add [] = done_adds
fields_add (t ∷ ts) = within (omega arith) (omega arith) (both (pooled_adds (name_of t)) (fields_add ts))

opens_adds : (m : Most) (place : Place) (n : ℕ) → Adds (gather.opens m place) (one_block n) 1
opens_adds m place n = record {
  holds = λ (g h : Gathered) (e : gather.opens m place g ≡ Ok h).
      let b : Bool = nat_lt g.blocks (suc m.blocks) in
      let t : Through g h (if_room b place g) gather.block_opened = through g h (if_room b place g) gather.block_opened e in
      let p : length g.names ≡ length t.between.names = if_room_same b place g t.between t.first in
      let q : length t.between.names ≡ length h.names = names_same (record t.between { blocks = suc t.between.blocks }) h t.second in
      omega arith;
}

-- a token stands for no block
kind_blocks : (k : Kind) → (in_kind k).blocks ≡ 0
kind_blocks (kind.Word name r) = refl
kind_blocks _ = refl

mutual
  exported_adds : (q : tree.Pattern) → Adds (gather.exported q) nothing (pattern_size q)
  exported_adds (Name t) = pooled_adds (name_of t)
  exported_adds (Skip place) = within refl (omega arith) done_adds
  exported_adds (Literal t) = within refl (omega arith) done_adds
  exported_adds (ListPattern qs) = within refl (omega arith) (all_exported_add qs)
  exported_adds (StrandPattern qs) = all_exported_add qs

  all_exported_add : (qs : Patterns) → Adds (gather.all_exported qs) nothing (patterns_size qs)
  all_exported_add no_patterns = done_adds
  all_exported_add (and_patterns q qs) = within (omega arith) (omega arith) (both (exported_adds q) (all_exported_add qs))

module _ (m : Most) (uses : List scope.Use) where
  refers_adds : (defining : Bool) (place : Place) → Adds (gather.refers m uses defining place) nothing 0
  refers_adds defining place = record {
    holds = λ (g h : Gathered) (e : gather.refers m uses defining place g ≡ Ok h).
        (roomy (gather.room_for m defining (seen_at uses g.uses).slot) place gather.next_use nothing 0 next_use_adds).holds g h e;
  }

  leaf_adds : (how : How) (k : Kind) (place : Place) → Adds (gather.leaf m uses how k place) nothing 1
  leaf_adds how (kind.Word name r) place = within refl (omega arith) (both (refers_adds (defines how) place) (pooled_if_adds (exports_it how) name))
  leaf_adds how k place = constant_adds m (constant_of k) place

  token_adds : (how : How) (t : Token) → Adds (gather.token m uses how t) (in_token t) 1
  token_adds how t = within (sym (kind_blocks t.kind)) (omega arith) (leaf_adds how t.kind t.place)

  pattern_leaf_adds : (how : How) (k : Kind) (place : Place) → Adds (gather.pattern_leaf m uses how k place) nothing 1
  pattern_leaf_adds how (kind.Word name r) place = within refl (omega arith) (both (refers_adds (defines how) place) (pooled_adds name))
  pattern_leaf_adds how k place = constant_adds m (constant_of k) place

  mutual
    leaves_add : (how : How) (q : tree.Pattern) → Adds (gather.leaves m uses how q) (in_leaves q) (pattern_size q)
    leaves_add how (Name t) = within (sym (kind_blocks t.kind)) (omega arith) (pattern_leaf_adds how t.kind t.place)
    leaves_add how (Skip place) = within refl (omega arith) done_adds
    leaves_add how (Literal t) = pattern_leaf_adds how t.kind t.place
    leaves_add how (ListPattern qs) = within refl (omega arith) (all_leaves_add how qs)
    leaves_add how (StrandPattern qs) = all_leaves_add how qs

    all_leaves_add : (how : How) (qs : Patterns) → Adds (gather.all_leaves m uses how qs) (in_all_leaves qs) (patterns_size qs)
    all_leaves_add how no_patterns = done_adds
    all_leaves_add how (and_patterns q qs) = both (leaves_add how q) (all_leaves_add how qs)

  with_same : (how : How) (q : tree.Pattern) (k : ℕ) (g h : Gathered) → gather.with_pattern uses how q k g ≡ Ok h → length g.names ≡ length h.names
  with_same how q k g h e = names_same (record g { patterns = g.patterns ++ pattern_code uses g.constants g.names how k q ∷ [] }) h e

  pattern_adds : (how : How) (q : tree.Pattern) → Adds (gather.pattern m uses how q) (in_pattern q) (pattern_size q)
  pattern_adds how q = record {
    holds = λ (g h : Gathered) (e : gather.pattern m uses how q g ≡ Ok h).
        let t : Through g h (gather.leaves m uses how q g) (gather.with_pattern uses how q g.uses) = through g h (gather.leaves m uses how q g) (gather.with_pattern uses how q g.uses) e in
        let p : (in_leaves q).blocks + length t.between.names ≤ length g.names + pattern_size q = (leaves_add how q).holds g t.between t.first in
        let r : length t.between.names ≡ length h.names = with_same how q g.uses t.between h t.second in
        omega arith;
  }

  target_adds : (how : How) (q : tree.Pattern) → Adds (gather.target m uses how q) (in_target q) (pattern_size q)
  target_adds how (Name t) = token_adds how t
  target_adds how q = pattern_adds how q

  named_argument_adds : (k : Kind) (t : Token) → Adds (gather.named_argument m uses k t) (in_named_argument k) 1
  named_argument_adds (kind.Special s r) t = within refl (omega arith) done_adds
  named_argument_adds k t = let p : (in_kind t.kind).blocks ≡ 0 = kind_blocks t.kind in within (omega arith) (omega arith) (pattern_adds Defines (Name t))

  argument_adds : (q : Option tree.Pattern) → Adds (gather.argument m uses q) (in_argument q) (argument_size q)
  argument_adds None = done_adds
  argument_adds (Some (Name t)) = named_argument_adds t.kind t
  argument_adds (Some q) = pattern_adds Defines q

  operand_adds : (t : Option Token) → Adds (gather.operand m uses t) (in_operand t) (token_size t)
  operand_adds None = done_adds
  operand_adds (Some t) = token_adds Defines t

  header_adds : (h : Option Header) → Adds (gather.header m uses h) (in_header h) (header_size h)
  header_adds None = done_adds
  header_adds (Some h) = both (argument_adds h.left) (both (operand_adds h.left_operand) (both (token_adds Defines h.own) (both (operand_adds h.right_operand) (within refl (omega arith) (argument_adds h.right)))))

  targets_add : (ts : List (Token × Arrow)) → Adds (gather.targets m uses ts) (in_targets ts) (targets_size ts)
  targets_add [] = done_adds
  targets_add (t ∷ ts) = within refl (omega arith) (both (token_adds (by_arrow t.1) t.0) (targets_add ts))

  -- ---- expressions and blocks

  mutual
    expr_adds : (e : Expr) → Adds (gather.expr m uses e) (in_expr e) (expr_size e)
    expr_adds (Value last ss) = both (steps_add ss) (maybe_adds last)
    expr_adds (Train ts ds) = both (targets_add ts) (deriveds_add ds)
    expr_adds (Modifier ts x) = both (targets_add ts) (part_adds x)

    part_adds : (x : Part) → Adds (gather.part m uses x) (in_part x) (part_size x)
    part_adds (Leaf t) = token_adds Reads t
    part_adds (Elements es) = within refl (omega arith) (exprs_add es)
    part_adds (Merge es) = within refl (omega arith) (exprs_add es)
    part_adds (Paren e) = within refl (omega arith) (expr_adds e)
    part_adds (Block b) = block_adds b
    part_adds (Field base names) = within (omega arith) (omega arith) (both (part_adds base) (fields_add names))
    part_adds (Strand ps) = parts_add ps
    part_adds (Nothing place) = within refl (omega arith) done_adds

    block_adds : (b : BlockTree) → Adds (gather.block_tree m uses b) (in_block b) (block_size b)
    block_adds (block place c bs) = within refl (omega arith) (both (opens_adds m place (how_many bs)) (bodies_add bs))

    maybe_adds : (x : MaybePart) → Adds (gather.maybe m uses x) (in_maybe x) (maybe_size x)
    maybe_adds none = done_adds
    maybe_adds (some x) = part_adds x

    steps_add : (ss : Steps) → Adds (gather.steps m uses ss) (in_steps ss) (steps_size ss)
    steps_add no_steps = done_adds
    steps_add (and_steps s ss) = both (steps_add ss) (step_adds s)

    step_adds : (s : Step) → Adds (gather.step m uses s) (in_step s) (step_size s)
    step_adds (Apply d left) = both (maybe_adds left) (derived_adds d)
    step_adds (Assign q a) = within refl (omega arith) (target_adds (by_arrow a) q)
    step_adds (Modify t d) = within refl (omega arith) (both (token_adds Changes t) (derived_adds d))

    derived_adds : (d : Derived) → Adds (gather.derived_part m uses d) (in_derived d) (derived_size d)
    derived_adds (derived x us) = both (part_adds x) (uses_add us)

    uses_add : (us : Uses) → Adds (gather.mod_uses m uses us) (in_uses us) (uses_size us)
    uses_add no_uses = done_adds
    uses_add (and_uses u us) = both (use_adds u) (uses_add us)

    use_adds : (u : Use) → Adds (gather.mod_use m uses u) (in_use u) (use_size u)
    use_adds (One y) = part_adds y
    use_adds (Two y x) = both (part_adds y) (part_adds x)

    deriveds_add : (ds : Deriveds) → Adds (gather.deriveds m uses ds) (in_deriveds ds) (deriveds_size ds)
    deriveds_add no_deriveds = done_adds
    deriveds_add (and_deriveds d ds) = both (derived_adds d) (deriveds_add ds)

    exprs_add : (es : Exprs) → Adds (gather.exprs m uses es) (in_exprs es) (exprs_size es)
    exprs_add no_exprs = done_adds
    exprs_add (and_exprs e es) = both (expr_adds e) (exprs_add es)

    parts_add : (xs : Parts) → Adds (gather.parts m uses xs) (in_parts xs) (parts_size xs)
    parts_add no_parts = done_adds
    parts_add (and_parts x xs) = both (part_adds x) (parts_add xs)

    stmts_add : (ss : Stmts) → Adds (gather.stmts m uses ss) (in_stmts ss) (stmts_size ss)
    stmts_add no_stmts = done_adds
    stmts_add (and_stmts s ss) = both (stmt_adds s) (stmts_add ss)

    stmt_adds : (s : Stmt) → Adds (gather.stmt m uses s) (in_stmt s) (stmt_size s)
    stmt_adds (Eval e) = expr_adds e
    stmt_adds (Predicate e) = within refl (omega arith) (expr_adds e)
    stmt_adds (Export q) = within refl (omega arith) (exported_adds q)

    bodies_add : (bs : Bodies) → Adds (gather.bodies m uses bs) (in_bodies bs) (bodies_size bs)
    bodies_add no_bodies = done_adds
    bodies_add (and_bodies b bs) = within refl (omega arith) (both (body_adds b) (bodies_add bs))

    body_adds : (b : BodyTree) → Adds (gather.body_tree m uses b) (in_body b) (body_size b)
    body_adds (body h ss) = both (header_adds h) (stmts_add ss)

-- the blocks of a program but for itself, and the names that are gathered of it, are at most as many as its tokens
pub few_gathered : (m : Most) (uses : List scope.Use) (ss : Stmts) (pools : Gathered) → gather.gathered m uses ss ≡ Ok pools → (in_stmts ss).blocks + length pools.names ≤ stmts_size ss
few_gathered m uses ss pools e = let p : (in_stmts ss).blocks + length pools.names ≤ 0 + stmts_size ss = (stmts_add m uses ss).holds gather.at_start pools e in omega arith
