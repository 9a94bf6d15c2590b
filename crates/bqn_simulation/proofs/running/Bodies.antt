-- The code of headers, statements and bodies does what they do, where calls run alike.
use Rattle.std.proofs.Common.{◌≡◌, ℕ, ◌+◌, Bool, true, false, if◌then◌else◌, List, [], ◌∷◌, ◌++◌, Option, Some, None, Result, Ok, Err, refl, sym, ap, ◌∙◌, subst, append_assoc, arith}
use Rattle.bqn_base.specs.declared.fault.Fault.{Fault}
use Rattle.bqn_base.specs.declared.place.Place.{Place}
use Rattle.bqn_rows.specs.Raised.{Raised, placed}
use Rattle.bqn_syntax.specs.blocks.Leads.{or_else, pattern_lead, stmt_lead, header_lead, at_start}
use Rattle.bqn_base.specs.declared.role.Role.TheVariants as role
use Rattle.bqn_rows.specs.Plain as plain
use Rattle.bqn_rows.specs.Plain.{Namespace}
use Rattle.bqn_rows.specs.Running.{Res, Gives, Ends, then_do}
use Rattle.bqn_syntax.specs.declared.token.Kind.{Kind}
use Rattle.bqn_syntax.specs.declared.token.Kind.TheVariants as kind
use Rattle.bqn_syntax.specs.declared.token.Special.{Special}
use Rattle.bqn_syntax.specs.declared.token.Special.TheVariants as special
use Rattle.bqn_syntax.specs.declared.token.Token.{Token}
use Rattle.bqn_syntax.specs.declared.tree.Arrow.TheVariants as arrow
use Rattle.bqn_syntax.specs.grammar.Trees.{Pattern, Name, Skip, Literal, ListPattern, StrandPattern, Header, Stmt, Eval, Predicate, Export, Stmts, no_stmts, and_stmts}
use Rattle.bqn_syntax.specs.scope.Order.{Defines}
use Rattle.bqn_syntax.specs.scope.Scope as scope
use Rattle.bqn_syntax.specs.blocks.Counting.{in_expr}
use Rattle.bqn_meaning.specs.Actions.{at as at_place, go_on, ◌>>=◌, pure, known, used, where_so}
use Rattle.bqn_meaning.specs.Environments as s
use Rattle.bqn_meaning.specs.Frames.{Setting, Frame, special_value, left_of, right_of}
use Rattle.bqn_meaning.specs.Matching.{Fits, fit, does_fit, store, store_named, argument, name_special, name_operand, own_special, header_fits}
use Rattle.bqn_meaning.specs.Meaning.{Ending, NextBody, EndsWith, truth, tested, eval_expr, eval_stmts}
use Rattle.bqn_code.specs.declared.instr.Instr.{Instr}
use Rattle.bqn_code.specs.declared.instr.Instr.TheVariants as i
use Rattle.bqn_execution.specs.States as c
use Rattle.bqn_code.specs.Plain as code
use Rattle.bqn_code.specs.Numbering.{Placed, Table}
use Rattle.bqn_execution.specs.Operands.{Go, Stack, one}
use Rattle.bqn_execution.specs.Patterns as taking
use Rattle.bqn_execution.specs.Execution.{exec, with_pattern}
use Rattle.bqn_compile.specs.declared.count.Count.{Count}
use Rattle.bqn_compile.specs.Counting as counting
use Rattle.bqn_compile.specs.Counting.{past, in_argument, in_operand, in_token, in_header}
use Rattle.bqn_compile.specs.Pools.{seen_at}
use Rattle.bqn_compile.specs.Patterns.{pattern_code}
use Rattle.bqn_compile.specs.Expressions.{Setting as Setting', special_instr, at_lead}
use Rattle.bqn_compile.specs.Bodies.{put_named_argument, put_argument, put_name, put_operand, own_instr, put_header, put_last, put_stmts}
use Rattle.bqn_simulation.specs.Views.{view, onto, Same}
use Rattle.bqn_simulation.proofs.running.Agree.{into, into_bind, into_same, into_onto, through, binds, pures, knows, uses as uses_same, ats}
use Rattle.bqn_simulation.proofs.running.Acts.{push, as_is, Side, Acts, seq, still, treed}
use Rattle.bqn_simulation.proofs.running.Variables.{over}
use Rattle.bqn_simulation.proofs.running.BlockCounts.{expr_same}
use Rattle.bqn_simulation.proofs.running.Patterns.{fit_same}
use Rattle.bqn_simulation.proofs.running.Told as told
use Rattle.bqn_simulation.proofs.running.Shared.{Shared}
use Rattle.bqn_simulation.proofs.running.Expressions.{special_acts, store_acts, expr_acts}

-- how a body ends in this environment, its namespace being the answer where it exports
abbrev pub ended : (environment : ℕ) → (exports : Bool) → Ending → Ending
ended n exports NextBody = NextBody
ended n exports (EndsWith p v) = EndsWith p (if exports then Some (Namespace n) else v)

-- a stack of which nothing is taken, and nothing laid there
abbrev nothing_laid : Unit {0} → Stack → Stack
nothing_laid u st = st

module _ (names : ℕ → List (List ℕ)) (tb : Table) (here : Placed) (uses : List scope.Use) (g : Setting) (f : Frame) (h : s.Calling) (h2 : c.Calling) (sh : Shared names tb here g f h h2) where
  abbrev V : s.State → c.State
  V = view names

  abbrev w : Setting'
  w = record { uses = uses; constants = here.code.constants; names = here.code.names }

  abbrev o : Side
  o = record { view = V; table = tb; args = g.args; calling = h2; frame = over here f }

  abbrev run : List (Instr × Place) → Go
  run is = exec tb g.args h2 (over here f) is

  abbrev stmts_code : (exports : Bool) → Place → Count → Stmts → List (Instr × Place)
  stmts_code exports l c ss = put_stmts at_lead w exports (λ i. (i, l)) c ss

  abbrev last_code : (exports : Bool) → Place → List (Instr × Place)
  last_code exports l = put_last (λ i. (i, l)) exports

  -- ---- what is known

  abbrev StmtsTold : Count → Stmts → Type 0
  StmtsTold = told.StmtsTold f.scopes uses here.code

  abbrev IsMatched : Count → Pattern → Type 0
  IsMatched c q = told.IsPooled f.scopes uses here.code arrow.Define c q

  abbrev NamedTold : Count → Token → Kind → Type 0
  NamedTold = told.NamedTold f.scopes uses here.code

  abbrev ArgumentTold : Count → Option Pattern → Type 0
  ArgumentTold = told.ArgumentTold f.scopes uses here.code

  abbrev NameTold : ℕ → Kind → Type 0
  NameTold = told.NameTold f.scopes uses here.code

  abbrev OperandTold : ℕ → Option Token → Type 0
  OperandTold = told.OperandTold f.scopes uses here.code

  abbrev HeaderTold : Count → Option Header → Type 0
  HeaderTold = told.HeaderTold f.scopes uses here.code

  -- ---- code that ends a body

  then_ends : {A : Type 0} {xs : List (Instr × Place)} (ys : List (Instr × Place)) {m : s.Does A} {k : A → s.Does Ending} {to : A → Stack → Stack} → Acts o xs m as_is to → ((x : A) → Same V (k x) (run ys (to x []))) → Same V (m >>= k) (run (xs ++ ys) [])
  then_ends ys {m = m} {k = k} a q = record { is = λ t. a.runs ys [] t ∙ (into_same V (m t) _ _ (λ x u. (q x).is u) ∙ into_onto V (m t) k) }

  as_tree : {A : Type 0} {m : s.Does A} (n : s.Does A) {r : c.Does A} → ((t : s.State) → m t ≡ n t) → Same V m r → Same V n r
  as_tree n e x = record { is = λ t. x.is t ∙ ap (onto V) (e t) }

  abbrev and_ended : Bool → Ending → s.Does Ending
  and_ended exports r = pure (ended f.environment exports r)

  -- further statements don't look at the value before them
  last_dropped : (x : Stmt) (ss : Stmts) (n : ℕ) (l : Place) (v : Option plain.Value) (t : s.State) → eval_stmts h g f (and_stmts x ss) n l None t ≡ eval_stmts h g f (and_stmts x ss) n l v t
  last_dropped (Eval e) ss n l v t = refl
  last_dropped (Predicate e) ss n l v t = refl
  last_dropped (Export q) ss n l v t = refl

  behind : (n k d d2 : ℕ) → n ≡ here.blocks + k → d ≡ d2 → n + d2 ≡ here.blocks + (k + d)
  behind n k d d2 e q = omega (arith, e, q)

  three : {A B C : Type 0} (m : s.Does A) (k : A → s.Does B) (l : B → s.Does C) (t : s.State) → (m >>= (λ a. k a >>= l)) t ≡ ((m >>= k) >>= l) t
  three {A = A} {B = B} {C = C} m k l t = by (m t)
    where
      by : (r : Res s.State s.State (Result A Raised)) → then_do r (go_on (λ a. k a >>= l)) ≡ then_do (then_do r (go_on k)) (go_on l)
      by (Gives (Ok a) u) = refl
      by (Gives (Err e) u) = refl
      by (Ends u) = refl

  abbrev on : Place → s.Does Ending → Option plain.Value → s.Does Ending
  on l m v = at_place l (tested v) >>= where_so NextBody m

  checks : (exports : Bool) (l : Place) (v : Option plain.Value) (m : s.Does Ending) (k : c.Does Ending) → Same V (m >>= and_ended exports) k → Same V (on l m v >>= and_ended exports) (at_place l (tested v) >>= where_so NextBody k)
  checks exports l v m k q =
      as_tree (on l m v >>= and_ended exports) (three (at_place l (tested v)) (where_so NextBody m) (and_ended exports))
      (binds V (ats V l (uses_same V v (λ y. knows V (truth y)))) by)
    where
      by : (b : Bool) → Same V (where_so NextBody m b >>= and_ended exports) (where_so NextBody k b)
      by true = q
      by false = pures V NextBody

  pub stmts_same : (exports : Bool) (ss : Stmts) (n : ℕ) (l : Place) (c : Count) → n ≡ here.blocks + c.blocks → StmtsTold c ss → Same V (eval_stmts h g f ss n l None >>= and_ended exports) (run (stmts_code exports l c ss) [])
  stmts_same true no_stmts n l c e d = record { is = λ t. refl }
  stmts_same false no_stmts n l c e d = record { is = λ t. refl }
  stmts_same exports (and_stmts (Eval x) no_stmts) n l c e d =
      let own : Place = stmt_lead (Eval x) in
      as_tree (eval_stmts h g f (and_stmts (Eval x) no_stmts) n l None >>= and_ended exports) (three (eval_expr h g f own x n) (λ v. pure (EndsWith own v)) (and_ended exports))
      (then_ends (last_code exports own) (expr_acts names tb here uses g f h h2 sh own x n c e d.0) (λ v. last exports own v))
    where
      last : (b : Bool) (l : Place) (v : Option plain.Value) → Same V (and_ended b (EndsWith l v)) (run (last_code b l) (v ∷ []))
      last true l v = record { is = λ t. refl }
      last false l v = record { is = λ t. refl }
  stmts_same exports (and_stmts (Eval x) (and_stmts y ss)) n l c e d =
      let own : Place = stmt_lead (Eval x) in
      let rest : Same V (eval_stmts h g f (and_stmts y ss) (n + (in_expr x).blocks) own None >>= and_ended exports) (run (stmts_code exports own (past c (counting.in_expr x)) (and_stmts y ss)) []) = stmts_same exports (and_stmts y ss) (n + (in_expr x).blocks) own (past c (counting.in_expr x)) (behind n c.blocks _ _ e (expr_same x)) d.1 in
      as_tree (eval_stmts h g f (and_stmts (Eval x) (and_stmts y ss)) n l None >>= and_ended exports) (three (eval_expr h g f own x n) (eval_stmts h g f (and_stmts y ss) (n + (in_expr x).blocks) own) (and_ended exports))
      (then_ends ((i.Pop, own) ∷ stmts_code exports own (past c (counting.in_expr x)) (and_stmts y ss)) (expr_acts names tb here uses g f h h2 sh own x n c e d.0)
      (λ v. as_tree (eval_stmts h g f (and_stmts y ss) (n + (in_expr x).blocks) own v >>= and_ended exports) (λ t. ap (λ r. then_do r (go_on (and_ended exports))) (last_dropped y ss (n + (in_expr x).blocks) own v t)) rest))
  stmts_same exports (and_stmts (Predicate x) ss) n l c e d =
      let own : Place = stmt_lead (Predicate x) in
      let rest : Same V (eval_stmts h g f ss (n + (in_expr x).blocks) own None >>= and_ended exports) (run (stmts_code exports own (past c (counting.in_expr x)) ss) []) = stmts_same exports ss (n + (in_expr x).blocks) own (past c (counting.in_expr x)) (behind n c.blocks _ _ e (expr_same x)) d.1 in
      as_tree (eval_stmts h g f (and_stmts (Predicate x) ss) n l None >>= and_ended exports) (three (eval_expr h g f own x n) (on own (eval_stmts h g f ss (n + (in_expr x).blocks) own None)) (and_ended exports))
      (then_ends ((i.Check, own) ∷ stmts_code exports own (past c (counting.in_expr x)) ss) (expr_acts names tb here uses g f h h2 sh own x n c e d.0) (λ v. checks exports own v (eval_stmts h g f ss (n + (in_expr x).blocks) own None) (run (stmts_code exports own (past c (counting.in_expr x)) ss) []) rest))
  stmts_same exports (and_stmts (Export q) ss) n l c e d = stmts_same exports ss n (stmt_lead (Export q)) c e d

  -- ---- headers

  -- code that goes on where a test holds, and else to the next body
  pub record Tests (xs : List (Instr × Place)) (m : s.Does Bool) : Type 0 where
    pub runs : (is : List (Instr × Place)) (st : Stack) (t : s.State) → run (xs ++ is) st (V t) ≡ into V (m t) (λ b u. where_so NextBody (run is st) b (V u))

  tests_recoded : {xs ys : List (Instr × Place)} {m : s.Does Bool} → xs ≡ ys → Tests xs m → Tests ys m
  tests_recoded {m = m} e x = subst (λ z. Tests z m) e x

  tests_treed : {xs : List (Instr × Place)} {m : s.Does Bool} (n : s.Does Bool) → ((t : s.State) → m t ≡ n t) → Tests xs m → Tests xs n
  tests_treed {xs = xs} {m = m} n e x = record { runs = λ is st t. x.runs is st t ∙ ap (λ r. into V r (λ b u. where_so NextBody (run is st) b (V u))) (e t) }

  both_tests : {xs ys : List (Instr × Place)} {m n : s.Does Bool} → Tests xs m → Tests ys n → Tests (xs ++ ys) (m >>= where_so false n)
  both_tests {xs = xs} {ys = ys} {m = m} {n = n} a b = record {
    runs = λ is st t.
        ap (λ z. run z st (V t)) (append_assoc xs ys is)
        ∙ (a.runs (ys ++ is) st t
        ∙ (into_same V (m t) _ _ (λ z u. by is st z u)
        ∙ sym (into_bind V (m t) (where_so false n) (λ z u. where_so NextBody (run is st) z (V u)))));
  }
    where
      by : (is : List (Instr × Place)) (st : Stack) (z : Bool) (u : s.State) → where_so {S = c.State} NextBody (run (ys ++ is) st) z (V u) ≡ into V (where_so {S = s.State} false n z u) (λ z u. where_so NextBody (run is st) z (V u))
      by is st true u = b.runs is st u
      by is st false u = refl

  does_then : {xs ys : List (Instr × Place)} {m : s.Does (Unit {0})} {n : s.Does Bool} → Acts o xs m as_is nothing_laid → Tests ys n → Tests (xs ++ ys) (m >>= (λ u. n))
  does_then {xs = xs} {ys = ys} {m = m} {n = n} a b = record {
    runs = λ is st t.
        ap (λ z. run z st (V t)) (append_assoc xs ys is)
        ∙ (a.runs (ys ++ is) st t
        ∙ (into_same V (m t) _ _ (λ z u. b.runs is st u)
        ∙ sym (into_bind V (m t) (λ u. n) (λ z u. where_so NextBody (run is st) z (V u)))));
  }

  abbrev the_pattern : (k : Count) (q : Pattern) → IsMatched k q → code.Pattern
  the_pattern k q d = pattern_code uses d.constants d.names Defines k.uses q

  -- that an instruction pushes this
  abbrev Pushes : Instr → Option plain.Value → Type 0
  Pushes push' v = (p : Place) (is : List (Instr × Place)) (st : Stack) (t : c.State) → run ((push', p) ∷ is) st t ≡ run is (v ∷ st) t

  -- what is pushed is matched, at one place
  matched : (push' : Instr) (v : Option plain.Value) → Pushes push' v → (p : Place) (k : Count) (q : Pattern) → IsMatched k q →
      Tests ((push', p) ∷ (i.Match k.patterns, p) ∷ []) (at_place p (used v >>= (λ x. fit g f arrow.Define q x >>= (λ r. pure (does_fit r)))))
  matched push' v pushes p k q d = record {
    runs = λ is st t.
        pushes p ((i.Match k.patterns, p) ∷ is) st (V t)
        ∙ (ap (λ y. with_pattern y (λ z. one (λ x rest. at_place p (fits z x) >>= where_so NextBody (run is rest)) (v ∷ st)) (V t)) d.there
        ∙ through V (at_place p (fits the_pattern v) (V t)) (at_place p (used v >>= (λ x. fit g f arrow.Define q x >>= (λ r. pure (does_fit r)))) t) (where_so NextBody (run is st))
        ((ats V p (uses_same V v (λ x. binds V (fit_same names tb here uses g f sh.linked sh.exporting arrow.Define d.constants d.names k.uses q d.told x) (λ r. pures V (does_fit r))))).is t));
  }
    where
      fits : code.Pattern → Option plain.Value → c.Does Bool
      fits z v = used v >>= (λ x. taking.fit tb (over here f) z x >>= (λ r. pure (does_fit r)))

      the_pattern : code.Pattern
      the_pattern = pattern_code uses d.constants d.names Defines k.uses q

  stored_fits : (p : Place) (t : Token) (v : Option plain.Value) (u : s.State) →
      at_place p (used v >>= (λ x. fit g f arrow.Define (Name t) x >>= (λ r. pure (does_fit r)))) u ≡ at_place p (used v >>= (λ x. store f arrow.Define t x >>= (λ u. pure true))) u
  stored_fits p t None u = refl
  stored_fits p t (Some x) u = by (store f arrow.Define t x u)
    where
      by : (r : Res s.State s.State (Result (Unit {0}) Raised)) → then_do (then_do (then_do r (go_on (λ u. pure Fits))) (go_on (λ r. pure (does_fit r)))) (λ x. Gives (placed p x)) ≡ then_do (then_do r (go_on (λ u. pure true))) (λ x. Gives (placed p x))
      by (Gives (Ok a) u) = refl
      by (Gives (Err e) u) = refl
      by (Ends u) = refl

  -- an argument of a header with this lead
  argument_tests : (l : Place) (push' : Instr) (v : Option plain.Value) → Pushes push' v → (k : Count) (q : Option Pattern) → ArgumentTold k q →
      Tests (put_argument (at_lead l) push' k.patterns q) (argument g f l q v)
  argument_tests l push' v pushes k None d = record { runs = λ is st t. refl }
  argument_tests l push' v pushes k (Some (Name t)) d = by t.kind d
    where
      named : IsMatched k (Name t) → Tests ((push', t.place) ∷ (i.Match k.patterns, t.place) ∷ []) (at_place t.place (used v >>= (λ x. store f arrow.Define t x >>= (λ u. pure true))))
      named d = tests_treed (at_place t.place (used v >>= (λ x. store f arrow.Define t x >>= (λ u. pure true)))) (stored_fits t.place t v) (matched push' v pushes t.place k (Name t) d)

      by : (y : Kind) → NamedTold k t y → Tests (put_named_argument (λ i. (i, t.place)) y push' k.patterns) (elim y [ kind.Special s r ↦ pure true | _ ↦ at_place t.place (used v >>= (λ x. store f arrow.Define t x >>= (λ u. pure true))) ])
      by (kind.Special z r) d = record { runs = λ is st t. refl }
      by (kind.Word z r) d = named d
      by (kind.System z r) d = named d
      by (kind.Given z) d = named d
      by (kind.Number z) d = named d
      by (kind.Char z) d = named d
      by (kind.Text z) d = named d
      by (kind.Punct z) d = named d
  argument_tests l push' v pushes k (Some (Skip place)) d = matched push' v pushes (or_else l (pattern_lead (Skip place))) k (Skip place) d
  argument_tests l push' v pushes k (Some (Literal t)) d = matched push' v pushes (or_else l (pattern_lead (Literal t))) k (Literal t) d
  argument_tests l push' v pushes k (Some (ListPattern qs)) d = matched push' v pushes (or_else l (pattern_lead (ListPattern qs))) k (ListPattern qs) d
  argument_tests l push' v pushes k (Some (StrandPattern qs)) d = matched push' v pushes (or_else l (pattern_lead (StrandPattern qs))) k (StrandPattern qs) d

  -- a name that a header has for a special name
  name_acts : (p : Place) (x : Special) (k : ℕ) (y : Kind) → NameTold k y → Acts o (put_name (λ i. (i, p)) (special_instr x) (seen_at uses k) y) (name_special f x p y) as_is nothing_laid
  name_acts p x k (kind.Word name r) d =
      treed o (name_special f x p (kind.Word name r)) (λ t. by (special_value f x) t)
      (seq o (special_acts names tb here uses g f h h2 sh p p x)
      (λ y. seq o (store_acts names tb here uses g f h h2 sh p p arrow.Define k (kind.Word name r) d y) (λ z. popped z)))
    where
      popped : (z : Option plain.Value) → Acts o ((i.Pop, p) ∷ []) (pure tt) (push z) nothing_laid
      popped z = record { runs = λ is st t. refl }

      at : (r : Res s.State s.State (Result (Unit {0}) Raised)) (z : plain.Value) → then_do (then_do (then_do r (go_on (λ u. pure (Some z)))) (λ x. Gives (placed p x))) (go_on (λ w. pure tt)) ≡ then_do r (λ x. Gives (placed p x))
      at (Gives (Ok a) u) z = refl
      at (Gives (Err e) u) z = refl
      at (Ends u) z = refl

      by : (v : Result (Option plain.Value) Fault) (t : s.State) → (at_place p (known v) >>= (λ y. at_place p (used y >>= (λ z. store_named f arrow.Define (kind.Word name r) z >>= (λ u. pure (Some z)))) >>= (λ w. pure tt))) t ≡ (at_place p (known v) >>= (λ y. at_place p (used y >>= s.define f.scopes f.environment name))) t
      by (Ok None) t = refl
      by (Ok (Some z)) t = at (s.define f.scopes f.environment name z t) z
      by (Err e) t = refl
  name_acts p x k _ d = still o nothing_laid tt

  operand_acts : (l : Place) (x : Special) (k : ℕ) (y : Option Token) → OperandTold k y → Acts o (put_operand (at_lead l) (special_instr x) (seen_at uses k) y) (name_operand f x y) as_is nothing_laid
  operand_acts l x k None d = still o nothing_laid tt
  operand_acts l x k (Some t) d = name_acts t.place x k t.kind d

  own_is : (k : Kind) → own_instr k ≡ special_instr (own_special k)
  own_is (kind.Word name role.Mod1) = refl
  own_is (kind.Word name role.Mod2) = refl
  own_is (kind.Word name role.Subject) = refl
  own_is (kind.Word name role.Function) = refl
  own_is (kind.Special z r) = refl
  own_is (kind.System z r) = refl
  own_is (kind.Given z) = refl
  own_is (kind.Number z) = refl
  own_is (kind.Char z) = refl
  own_is (kind.Text z) = refl
  own_is (kind.Punct z) = refl

  five : (a b d e x : List (Instr × Place)) → a ++ (b ++ (d ++ (e ++ x))) ≡ (((a ++ b) ++ d) ++ e) ++ x
  five a b d e x = sym (append_assoc a b (d ++ (e ++ x))) ∙ (sym (append_assoc (a ++ b) d (e ++ x)) ∙ sym (append_assoc ((a ++ b) ++ d) e x))

  pub header_tests : (c : Count) (hd : Option Header) → HeaderTold c hd → Tests (put_header at_lead uses c hd) (header_fits g f hd)
  header_tests c None d = record { runs = λ is st t. refl }
  header_tests c (Some hd) d =
      let at_operand : Count = past c (in_argument hd.left) in
      let at_own : Count = past at_operand (in_operand hd.left_operand) in
      let at_right_operand : Count = past at_own (in_token hd.own) in
      let at_right : Count = past at_right_operand (in_operand hd.right_operand) in
      let l : Place = header_lead hd in
      tests_recoded (five (put_argument (at_lead l) i.Left c.patterns hd.left) (put_operand (at_lead l) i.LeftOperand (seen_at uses at_operand.uses) hd.left_operand) (put_name (λ i. (i, hd.own.place)) (own_instr hd.own.kind) (seen_at uses at_own.uses) hd.own.kind) (put_operand (at_lead l) i.RightOperand (seen_at uses at_right_operand.uses) hd.right_operand) (put_argument (at_lead l) i.Right at_right.patterns hd.right))
      (both_tests (argument_tests l i.Left (left_of f.arguments) (λ p is st t. refl) c hd.left d.0)
      (does_then (operand_acts l special.LeftOperand at_operand.uses hd.left_operand d.1)
      (does_then (subst (λ z. Acts o (put_name (λ i. (i, hd.own.place)) z (seen_at uses at_own.uses) hd.own.kind) (name_special f (own_special hd.own.kind) hd.own.place hd.own.kind) as_is nothing_laid) (sym (own_is hd.own.kind)) (name_acts hd.own.place (own_special hd.own.kind) at_own.uses hd.own.kind d.2))
      (does_then (operand_acts l special.RightOperand at_right_operand.uses hd.right_operand d.3)
      (argument_tests l i.Right (right_of f.arguments) (λ p is st t. refl) at_right hd.right d.4)))))

  -- ---- a body

  pub body_same : (exports : Bool) (c : Count) (hd : Option Header) (ss : Stmts) (n : ℕ) → n ≡ here.blocks + (past c (in_header hd)).blocks → HeaderTold c hd → StmtsTold (past c (in_header hd)) ss →
      Same V ((header_fits g f hd >>= where_so NextBody (eval_stmts h g f ss n at_start None)) >>= and_ended exports) (run (put_header at_lead uses c hd ++ stmts_code exports at_start (past c (in_header hd)) ss) [])
  body_same exports c hd ss n e d q =
      let rest : Same V (eval_stmts h g f ss n at_start None >>= and_ended exports) (run (stmts_code exports at_start (past c (in_header hd)) ss) []) = stmts_same exports ss n at_start (past c (in_header hd)) e q in
      record {
        is = λ t.
            (header_tests c hd d).runs (stmts_code exports at_start (past c (in_header hd)) ss) [] t
            ∙ (into_same V (header_fits g f hd t) _ _ (λ b u. (by b rest).is u)
            ∙ (into_onto V (header_fits g f hd t) (λ b. where_so NextBody (eval_stmts h g f ss n at_start None) b >>= and_ended exports)
            ∙ ap (onto V) (three (header_fits g f hd) (where_so NextBody (eval_stmts h g f ss n at_start None)) (and_ended exports) t)));
      }
    where
      by : (b : Bool) → Same V (eval_stmts h g f ss n at_start None >>= and_ended exports) (run (stmts_code exports at_start (past c (in_header hd)) ss) []) → Same V (where_so NextBody (eval_stmts h g f ss n at_start None) b >>= and_ended exports) (where_so NextBody (run (stmts_code exports at_start (past c (in_header hd)) ss) []) b)
      by true r = r
      by false r = pures V NextBody
