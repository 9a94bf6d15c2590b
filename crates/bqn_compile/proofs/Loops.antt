-- The steps of the walk's loops.
use Rattle.std.proofs.Common.{◌≡◌, ℕ, Bool, suc, ◌+◌, ◌++◌, List, [], ◌∷◌, length, map, slice_get, drop, get_or, drop-cons, ◌<◌, arith, refl, sym, ap, ◌∙◌, append_assoc, Result, Ok, Err, OnOk, Option}
use Rattle.bqn_syntax.specs.declared.tree.Derived.{Derived as CodeDerived}
use Rattle.bqn_syntax.specs.declared.tree.Expr.{Expr as CodeExpr}
use Rattle.bqn_syntax.specs.declared.tree.Part.{Part as CodePart}
use Rattle.bqn_syntax.specs.declared.tree.Stmt.{Stmt as CodeStmt}
use Rattle.bqn_syntax.specs.declared.tree.BodyTree.{BodyTree as CodeBody}
use Rattle.bqn_syntax.specs.grammar.Trees.{Header, Stmts, BodyTree, body, exprs, parts, deriveds, stmts, bodies, expr_of, part_of, derived_of, stmt_of, body_of}
use Rattle.bqn_syntax.specs.blocks.Blocks.{and_plain}
use Rattle.bqn_syntax.specs.grammar.Classes.{body_calls, has_predicate}
use Rattle.bqn_syntax.specs.blocks.Counting.{how_many}
use Rattle.bqn_syntax.specs.scope.Bodies.{BodyNames}
use Rattle.bqn_code.specs.declared.code.Body.{Body}
use Rattle.bqn_compile.specs.declared.read.Read.{Read}
use Rattle.bqn_compile.specs.Counting.{past, in_body}
use Rattle.bqn_compile.specs.Expressions.{Setting, how_many_exprs, how_many_parts, fork_code}
use Rattle.bqn_compile.specs.Bodies.{names_in, kind_code, body_code, calls_of}
use Rattle.bqn_compile.specs.Blocks.{bodies_code}
use Rattle.bqn_compile.specs.Walking.{Walked, pushes, reads, derived_walk, deriveds_walk, leaves_value, stmt_behind, stmts_behind, body_behind, bodies_behind, body_made}
use Rattle.bqn_compile.proofs.Walks.{parts-read}
use Rattle.bqn_compile.proofs.Onward.{stmts-next}

pub on_ok : {T E A : Type 0} (r : Result T E) (x y z : A) → OnOk r (x ≡ y) → y ≡ z → OnOk r (x ≡ z)
on_ok (Ok v) x y z h e = h ∙ e
on_ok (Err r) x y z h e = tt

pub many-exprs : (es : List CodeExpr) → how_many_exprs (exprs (map expr_of es)) ≡ length es
many-exprs [] = refl
many-exprs (e ∷ es) = ap (λ (n : ℕ). suc n) (many-exprs es)

pub many-parts : (xs : List CodePart) → how_many_parts (parts (map part_of xs)) ≡ length xs
many-parts [] = refl
many-parts (x ∷ xs) = ap (λ (n : ℕ). suc n) (many-parts xs)

pub many-bodies : (bs : List CodeBody) → how_many (bodies (map body_of bs)) ≡ length bs
many-bodies [] = refl
many-bodies (b ∷ bs) = ap (λ (n : ℕ). suc n) (many-bodies bs)

pub empty : {A : Type 0} (xs : List A) → length xs ≡ 0 → xs ≡ []
empty [] e = refl
empty (x ∷ xs) e = absurd (omega arith)

one-more : (n : ℕ) → suc n ≡ n + 1
one-more n = omega arith

pub drop-next : {A : Type 0} (xs : List A) (i : ℕ) (x : A) → i < length xs → x ≡ get_or xs i x → drop i xs ≡ x ∷ drop (i + 1) xs
drop-next xs i x inside is = drop-cons xs i x inside ∙ ap (λ y. y ∷ drop (suc i) xs) (sym is) ∙ ap (λ (j : ℕ). x ∷ drop j xs) (one-more i)

module _ (g : Setting) (names : List BodyNames) (inside : ℕ) where
  pub deriveds-step : (all rest : List CodeDerived) (d : CodeDerived) (n : ℕ) (r : Read) (w v u target : Walked) → all ≡ d ∷ rest → n ≡ length rest → r ≡ reads n → v ≡ pushes (fork_code r) w → u ≡ derived_walk g names inside (derived_of d) v →
      deriveds_walk g names inside (deriveds (map derived_of all)) w ≡ target → deriveds_walk g names inside (deriveds (map derived_of rest)) u ≡ target
  deriveds-step all rest d n r w v u target a m s p q t =
      ap (deriveds_walk g names inside (deriveds (map derived_of rest))) (q ∙ ap (derived_walk g names inside (derived_of d)) (p ∙ ap (λ (k : Read). pushes (fork_code k) w) (s ∙ ap reads m ∙ sym (parts-read rest))))
      ∙ ap (λ (ds : List CodeDerived). deriveds_walk g names inside (deriveds (map derived_of ds)) w) (sym a)
      ∙ t

  pub stmts-step : (all rest : List CodeStmt) (s : CodeStmt) (left leaves exports : Bool) (w v target : Walked) → all ≡ s ∷ rest → leaves ≡ leaves_value (stmt_of s) → v ≡ stmt_behind g names inside left (stmt_of s) w →
      stmts_behind g names inside left exports (stmts (map stmt_of all)) w ≡ target → stmts_behind g names inside leaves exports (stmts (map stmt_of rest)) v ≡ target
  stmts-step all rest s left leaves exports w v target a l q t =
      (λ i. stmts_behind g names inside (l i) exports (stmts (map stmt_of rest)) (q i))
      ∙ stmts-next g names inside left exports (stmt_of s) (stmts (map stmt_of rest)) w
      ∙ ap (λ (ss : List CodeStmt). stmts_behind g names inside left exports (stmts (map stmt_of ss)) w) (sym a)
      ∙ t

module _ (g : Setting) (names : List BodyNames) (number next plain before more kind : ℕ) (h : Option Header) (ss : Stmts) (b : CodeBody) (all rest : List CodeBody) (w v : Walked) where
  pub bodies-walk : (target : Walked) → all ≡ b ∷ rest → body_of b ≡ body h ss → next ≡ number + 1 → v ≡ body_behind g names number (body h ss) w →
      bodies_behind g names number (bodies (map body_of all)) w ≡ target → bodies_behind g names next (bodies (map body_of rest)) v ≡ target
  bodies-walk target a e n q t =
      ap (λ (k : ℕ). bodies_behind g names k (bodies (map body_of rest)) v) (n ∙ sym (one-more number))
      ∙ ap (bodies_behind g names (suc number) (bodies (map body_of rest))) (q ∙ ap (λ (x : BodyTree). body_behind g names number x w) (sym e))
      ∙ ap (λ (bs : List CodeBody). bodies_behind g names number (bodies (map body_of bs)) w) (sym a)
      ∙ t

  pub bodies-made : (own : Body) (made grown target : List Body) → all ≡ b ∷ rest → body_of b ≡ body h ss → next ≡ number + 1 → v ≡ body_behind g names number (body h ss) w →
      kind ≡ kind_code (body_calls plain before h (has_predicate ss)) → own ≡ body_made g (names_in (slice_get names number)) kind w.at (body h ss) → more ≡ and_plain (body_of b) before → grown ≡ made ++ own ∷ [] →
      made ++ bodies_code g names plain before number w.at (bodies (map body_of all)) ≡ target → grown ++ bodies_code g names plain more next v.at (bodies (map body_of rest)) ≡ target
  unfolding body_behind
  bodies-made own made grown target a e n q k m s p t =
      let own_is : own ≡ body_code g (names_in (slice_get names number)) (calls_of plain before (body_of b)) w.at (body_of b) =
      m ∙ ap (λ (j : ℕ). body_made g (names_in (slice_get names number)) j w.at (body h ss)) k ∙ ap (λ (x : BodyTree). body_code g (names_in (slice_get names number)) (calls_of plain before x) w.at x) (sym e) in
      let at_is : v.at ≡ past w.at (in_body (body_of b)) = ap (λ (x : Walked). x.at) q ∙ ap (λ (x : BodyTree). past w.at (in_body x)) (sym e) in
      (λ i. p i ++ bodies_code g names plain (s i) ((n ∙ sym (one-more number)) i) (at_is i) (bodies (map body_of rest)))
      ∙ append_assoc made (own ∷ []) (bodies_code g names plain (and_plain (body_of b) before) (suc number) (past w.at (in_body (body_of b))) (bodies (map body_of rest)))
      ∙ ap (λ (x : Body). made ++ (x ∷ bodies_code g names plain (and_plain (body_of b) before) (suc number) (past w.at (in_body (body_of b))) (bodies (map body_of rest)))) own_is
      ∙ ap (λ (bs : List CodeBody). made ++ bodies_code g names plain before number w.at (bodies (map body_of bs))) (sym a)
      ∙ t
