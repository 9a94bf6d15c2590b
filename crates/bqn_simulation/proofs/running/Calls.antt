-- Calls run alike over names and over slots, where the blocks of the code are those of the source.
use Rattle.std.proofs.Common.{◌≡◌, ℕ, zero, suc, ◌+◌, Bool, true, false, List, [], ◌∷◌, ◌++◌, length, map, replicate, slice_get, Option, Some, None, Result, Ok, Err, refl, sym, ap, ◌∙◌, subst}
use Rattle.std.proofs.lemmas.List.{length-map, map-append}
use Rattle.bqn_rows.specs.Raised.{Raised}
use Rattle.bqn_syntax.specs.blocks.Leads.{at_start}
use Rattle.bqn_rows.specs.Plain as plain
use Rattle.bqn_rows.specs.Plain.{Values}
use Rattle.bqn_rows.specs.Calls.{Arguments, no_arguments, alone, two, Call, End, Enter, Turn, Write, Inside}
use Rattle.bqn_rows.specs.Running as running
use Rattle.bqn_rows.specs.Running.{Res, Gives, Ends, then_do}
use Rattle.bqn_syntax.specs.declared.tree.Class.{Class}
use Rattle.bqn_syntax.specs.grammar.Classes.{Calls, Monadic, Dyadic, Both}
use Rattle.bqn_meaning.specs.Actions.{at as at_place, go_on, ◌>>=◌, pure, used}
use Rattle.bqn_syntax.specs.blocks.Blocks as source
use Rattle.bqn_syntax.specs.blocks.Blocks.{scopes_of}
use Rattle.bqn_meaning.specs.Environments as s
use Rattle.bqn_meaning.specs.Frames.{Setting, Entry, Frame}
use Rattle.bqn_meaning.specs.Meaning as m
use Rattle.bqn_meaning.specs.Meaning.{Ending, NextBody, EndsWith, eval_body, or_next, is_for, frame_of, try_body, try_bodies, enter_block}
use Rattle.bqn_syntax.specs.scope.Scope as scope
use Rattle.bqn_code.specs.declared.code.Body.{Body}
use Rattle.bqn_execution.specs.States as c
use Rattle.bqn_code.specs.Numbering as numbering
use Rattle.bqn_code.specs.Numbering.{Placed, Table, BlockAt, body_number}
use Rattle.bqn_execution.specs.Execution as e
use Rattle.bqn_execution.specs.Execution.{exec, placed_code, is_meant, or_else}
use Rattle.bqn_compile.specs.declared.count.Count.{Count}
use Rattle.bqn_compile.specs.Counting.{past, in_header}
use Rattle.bqn_compile.specs.Expressions.{at_lead}
use Rattle.bqn_compile.specs.Bodies.{kind_code, put_header, put_stmts}
use Rattle.bqn_simulation.specs.Views.{slots, view, onto, Same, Agree}
use Rattle.bqn_simulation.proofs.running.Agree.{binds, faults, finds, ats}
use Rattle.bqn_simulation.proofs.running.Variables.{Linked, over}
use Rattle.bqn_simulation.proofs.running.Fields.{Exporting}
use Rattle.bqn_simulation.proofs.running.Shared.{IsPlaced, Shared}
use Rattle.bqn_simulation.proofs.running.Told.{HeaderTold, StmtsTold}
use Rattle.bqn_simulation.proofs.running.Bodies.{ended, body_same}

-- ---- what the tables share

module _ (names : ℕ → List (List ℕ)) (tb : Table) (g : Setting) where
  -- a body of the source, and the body of the code with this number there
  pub record BodyFits (here : Placed) (k : ℕ) (b : source.Body) (body : Body) : Type 0 where
    pub number : body_number here k ≡ b.own.number
    pub kind : body.kind ≡ kind_code b.calls
    pub slots : body.slots ≡ length (names b.own.number)
    pub linked : Linked names tb (scopes_of b)
    pub uses : List scope.Use
    pub count : Count
    pub inside : b.inside ≡ here.blocks + (past count (in_header b.header)).blocks
    pub code_is : placed_code body ≡ put_header at_lead uses count b.header ++ put_stmts at_lead (record { uses = uses; constants = here.code.constants; names = here.code.names }) b.exports (λ i. (i, at_start)) (past count (in_header b.header)) b.statements
    pub header : HeaderTold (scopes_of b) uses here.code count b.header
    pub statements : StmtsTold (scopes_of b) uses here.code (past count (in_header b.header)) b.statements
    pub placed : IsPlaced tb here

  abbrev pub BodiesFit : Placed → ℕ → List source.Body → List Body → Type 0
  BodiesFit here k [] [] = Unit {0}
  BodiesFit here k (b ∷ bs) (x ∷ xs) = BodyFits here k b x × BodiesFit here (suc k) bs xs
  BodiesFit here k _ _ = ⊥

  pub record BlockFits (b : source.Block) (x : BlockAt) : Type 0 where
    pub class : b.class ≡ x.block.class
    pub bodies : BodiesFit x.here x.first b.bodies x.block.bodies

  abbrev pub Fits : Option source.Block → Option BlockAt → Type 0
  Fits None None = Unit {0}
  Fits (Some b) (Some x) = BlockFits b x
  Fits _ _ = ⊥

  -- the blocks of the code are those of the source, and its exports are
  pub record Alike : Type 0 where
    pub blocks : (k : ℕ) → Fits (slice_get g.blocks k) (slice_get tb.blocks k)
    pub exporting : Exporting names tb g.blocks

  classes_same : Alike → (k : ℕ) → source.class_of g.blocks k ≡ numbering.class_of tb k
  classes_same a k = by (slice_get g.blocks k) (slice_get tb.blocks k) (a.blocks k)
    where
      by : (x : Option source.Block) (y : Option BlockAt) → Fits x y → source.class_in x ≡ numbering.class_in y
      by None None f = refl
      by (Some b) (Some x) f = ap (λ (z : Class). Some z) f.class
      by None (Some x) f = elim f [ ]
      by (Some b) None f = elim f [ ]

-- ---- one body

meant_same : (calls : Calls) (xs : Arguments) → is_meant (kind_code calls) xs ≡ is_for calls xs
meant_same Both no_arguments = refl
meant_same Both (alone x) = refl
meant_same Both (two w x) = refl
meant_same Monadic no_arguments = refl
meant_same Monadic (alone x) = refl
meant_same Monadic (two w x) = refl
meant_same Dyadic no_arguments = refl
meant_same Dyadic (alone x) = refl
meant_same Dyadic (two w x) = refl

blank : (names : List (List ℕ)) → map (s.value_of []) names ≡ replicate (length names) None
blank [] = refl
blank (x ∷ names) = ap (λ l. None ∷ l) (blank names)

module _ (names : ℕ → List (List ℕ)) (tb : Table) (g : Setting) (alike : Alike names tb g) (h : s.Calling) (h2 : c.Calling) (agree : Agree (view names) h h2) where
  abbrev V : s.State → c.State
  V = view names

  pub shared : (here : Placed) (f : Frame) → Linked names tb f.scopes → IsPlaced tb here → Shared names tb here g f h h2
  shared here f l p = record { linked = l; agree = agree; classes = classes_same names tb g alike; exporting = alike.exporting; placed = p }

  -- ---- states

  pub steps : {A : Type 0} {m : s.Does A} {n : c.Does A} → Same V m n → Same V (s.stepped m) (c.stepped n)
  steps {A = A} {m = m} {n = n} p = record { is = λ t. by t.left t }
    where
      by : (k : ℕ) (t : s.State) → elim k [ zero ↦ Ends (c.Spends (V t)) | suc j ↦ n (V (record t { left = j })) ] ≡ onto V (elim k [ zero ↦ Ends t | suc j ↦ m (record t { left = j }) ])
      by zero t = refl
      by (suc j) t = p.is (record t { left = j })

  opens : {A : Type 0} (body parent : ℕ) {m : ℕ → s.Does A} {n : ℕ → c.Does A} → ((k : ℕ) → Same V (m k) (n k)) → Same V (s.within_new body parent m) (e.within_new body (length (names body)) parent n)
  opens body parent {m = m} {n = n} p = record {
    is = λ t.
        ap (λ ws. n (length (map (slots names) t.environments)) (record { environments = map (slots names) t.environments ++ record { body = body; parent = parent; variables = ws } ∷ []; written = t.written; left = t.left })) (sym (blank (names body)))
        ∙ (ap (λ k. n k (record { environments = map (slots names) t.environments ++ slots names (record { body = body; parent = parent; variables = [] }) ∷ []; written = t.written; left = t.left })) (length-map t.environments (slots names))
        ∙ (ap (λ es. n (length t.environments) (record { environments = es; written = t.written; left = t.left })) (sym (map-append (slots names) t.environments (record { body = body; parent = parent; variables = [] } ∷ [])))
        ∙ (p (length t.environments)).is (record t { environments = t.environments ++ record { body = body; parent = parent; variables = [] } ∷ [] })));
  }

  -- ---- a block

  either : {A : Type 0} {m n : s.Does A} {o p : c.Does A} → Same V m o → Same V n p → (t : Bool) → Same V (elim t [ true ↦ m | false ↦ n ]) (elim t [ true ↦ o | false ↦ p ])
  either p q true = p
  either p q false = q

  module _ (b : source.Block) (x : BlockAt) (fits : BlockFits names tb g b x) (run : Entry) where
    -- the frame of a body of the source, and that of its code
    abbrev frame : source.Body → ℕ → Frame
    frame body n = frame_of run b.class body n

    frame_same : (body : source.Body) (k n : ℕ) → body_number x.here k ≡ body.own.number → e.frame_of x run (body_number x.here k) n ≡ over x.here (frame body n)
    frame_same body k n q =
        ap (λ j. e.frame_of x run j n) q
        ∙ ap (λ (z : Class). over x.here (frame_of run z body n)) (sym fits.class)

    -- a body in its environment, up to its end
    runs_body : (body : source.Body) (y : Body) (k n : ℕ) → BodyFits names tb g x.here k body y →
        Same V (eval_body h g body (frame body n) >>= (λ r. pure (ended n body.exports r))) (exec tb g.args h2 (over x.here (frame body n)) (placed_code y) [])
    runs_body body y k n f =
        subst (λ is. Same V (eval_body h g body (frame body n) >>= (λ r. pure (ended n body.exports r))) (exec tb g.args h2 (over x.here (frame body n)) is [])) (sym f.code_is)
        (body_same names tb x.here f.uses g (frame body n) h h2 (shared x.here (frame body n) f.linked f.placed) body.exports f.count body.header body.statements body.inside f.inside f.header f.statements)

    -- its answer, or the next one
    answers : (body : source.Body) (y : Body) (k n : ℕ) → BodyFits names tb g x.here k body y → (next : s.Does plain.Value) (others : c.Does plain.Value) → Same V next others →
        Same V (eval_body h g body (frame body n) >>= or_next next body (frame body n)) (exec tb g.args h2 (over x.here (frame body n)) (placed_code y) [] >>= or_else others)
    answers body y k n f next others p = record { is = λ t. (binds V (runs_body body y k n f) on).is t ∙ ap (onto V) (at (eval_body h g body (frame body n) t)) }
      where
        go : Ending → s.Does plain.Value
        go NextBody = next
        go (EndsWith p z) = at_place p (used z)

        on : (r : Ending) → Same V (go r) (or_else others r)
        on NextBody = p
        on (EndsWith p z) = ats V p (finds V _ z)

        at : (r : Res s.State s.State (Result Ending Raised)) → then_do (then_do r (go_on (λ r. pure (ended n body.exports r)))) (go_on go) ≡ then_do r (go_on (or_next next body (frame body n)))
        at (Gives (Ok NextBody) u) = refl
        at (Gives (Ok (EndsWith p z)) u) = refl
        at (Gives (Err z) u) = refl
        at (Ends u) = refl

    tries_body : (body : source.Body) (y : Body) (k : ℕ) → BodyFits names tb g x.here k body y → (next : s.Does plain.Value) (others : c.Does plain.Value) → Same V next others →
        Same V (try_body h g run b.class next body) (e.tried tb g.args h2 x run others (body_number x.here k) y)
    tries_body body y k f next others p =
        let ran : c.Calling → ℕ → c.Does plain.Value = λ l n. exec tb g.args l (e.frame_of x run (body_number x.here k) n) (placed_code y) [] >>= or_else others in
        subst (λ j. Same V (try_body h g run b.class next body) (c.stepped (e.within_new j y.slots run.outer (ran h2)))) (sym f.number)
        (subst (λ j. Same V (try_body h g run b.class next body) (c.stepped (e.within_new body.own.number j run.outer (ran h2)))) (sym f.slots)
        (steps (opens body.own.number run.outer (λ n. subst (λ fr. Same V (eval_body h g body (frame body n) >>= or_next next body (frame body n)) (exec tb g.args h2 fr (placed_code y) [] >>= or_else others)) (sym (frame_same body k n f.number)) (answers body y k n f next others p)))))

    tries_same : (k : ℕ) (bs : List source.Body) (ys : List Body) → BodiesFit names tb g x.here k bs ys → Same V (try_bodies h g run b.class bs) (e.tries tb g.args h2 x run k ys)
    tries_same k [] [] f = faults V _
    tries_same k [] (y ∷ ys) f = elim f [ ]
    tries_same k (body ∷ bs) [] f = elim f [ ]
    tries_same k (body ∷ bs) (y ∷ ys) f =
        let rest : Same V (try_bodies h g run b.class bs) (e.tries tb g.args h2 x run (suc k) ys) = tries_same (suc k) bs ys f.1 in
        subst (λ t. Same V (try_bodies h g run b.class (body ∷ bs)) (elim t [ true ↦ e.tried tb g.args h2 x run (e.tries tb g.args h2 x run (suc k) ys) (body_number x.here k) y | false ↦ e.tries tb g.args h2 x run (suc k) ys ]))
        (sym (ap (λ z. is_meant z run.arguments) f.0.kind ∙ meant_same body.calls run.arguments))
        (either (tries_body body y k f.0 _ _ rest) rest (is_for body.calls run.arguments))

  enters_same : (run : Entry) → Same V (enter_block h g (slice_get g.blocks run.block) run) (e.entered tb g.args h2 (slice_get tb.blocks run.block) run)
  enters_same run = by (slice_get g.blocks run.block) (slice_get tb.blocks run.block) (alike.blocks run.block)
    where
      by : (o : Option source.Block) (p : Option BlockAt) → Fits names tb g o p → Same V (enter_block h g o run) (e.entered tb g.args h2 p run)
      by None None f = faults V _
      by (Some b) (Some x) f = tries_same b x f run x.first b.bodies x.block.bodies f.bodies
      by None (Some x) f = elim f [ ]
      by (Some b) None f = elim f [ ]

-- ---- calls

module _ (names : ℕ → List (List ℕ)) (tb : Table) (g : Setting) (alike : Alike names tb g) where
  abbrev W : s.State → c.State
  W = view names

  -- what comes after an answer, whatever it is
  then_same : {A B : Type 0} (q : Res c.Halted c.State A) (r : Res s.State s.State A) (k : A → c.State → Res c.Halted c.State B) (l : A → s.State → Res s.State s.State B) → q ≡ onto W r → ((a : A) (u : s.State) → k a (W u) ≡ onto W (l a u)) → then_do q k ≡ onto W (then_do r l)
  then_same q r k l p f = ap (λ z. then_do z k) p ∙ by r
    where
      by : (r : Res s.State s.State _) → then_do (onto W r) k ≡ onto W (then_do r l)
      by (Gives a u) = f a u
      by (Ends u) = refl

  turn_same : (t : s.State) → c.stepped {A = Unit {0}} (λ u. Gives tt u) (W t) ≡ onto W (s.stepped (λ u. Gives tt u) t)
  turn_same t = by t.left t
    where
      by : (k : ℕ) (t : s.State) → elim k as (λ z. Res c.Halted c.State (Unit {0})) [ zero ↦ Ends (c.Spends (W t)) | suc j ↦ Gives tt (W (record t { left = j })) ] ≡ onto W (elim k [ zero ↦ Ends t | suc j ↦ Gives tt (record t { left = j }) ])
      by zero t = refl
      by (suc j) t = refl

  run_same : (enter : (block environment : ℕ) → Values → Arguments → s.State → Res s.State s.State (Result plain.Value Raised)) (enter2 : (block environment : ℕ) → Values → Arguments → c.State → Res c.Halted c.State (Result plain.Value Raised)) (inner : s.Calling) (inner2 : c.Calling) →
      ((b n : ℕ) (fs : Values) (xs : Arguments) → Same W (enter b n fs xs) (enter2 b n fs xs)) → Agree W inner inner2 → (t : Call) (u : s.State) →
      running.run (e.replies tb g.args) enter2 inner2 t (W u) ≡ onto W (running.run (m.replies g) enter inner t u)
  run_same enter enter2 inner inner2 a b (End r) u = refl
  run_same enter enter2 inner inner2 a b (Enter n o fs xs go) u = then_same _ _ _ _ ((a n o fs xs).is u) (λ r t. run_same enter enter2 inner inner2 a b (go r) t)
  run_same enter enter2 inner inner2 a b (Turn go) u = then_same _ _ _ _ (turn_same u) (λ r t. run_same enter enter2 inner inner2 a b (go r) t)
  run_same enter enter2 inner inner2 a b (Write text go) u = run_same enter enter2 inner inner2 a b (go tt) (s.wrote text u)
  run_same enter enter2 inner inner2 a b (Inside t go) u = then_same _ _ _ _ (b.run t u) (λ r t. run_same enter enter2 inner inner2 a b (go r) t)

  -- calls run alike, however many may be open
  pub calls_same : (room : ℕ) → Agree W (running.calls (m.replies g) room) (e.runs tb g.args room)
  calls_same zero = record { run = run_same (λ b n fs xs u. Gives (Err _) u) (λ b n fs xs u. Gives (Err _) u) (λ t u. Gives (Err _) u) (λ t u. Gives (Err _) u) (λ b n fs xs. faults W _) (record { run = λ t u. refl }) }
  calls_same (suc room) =
      let inner : Agree W (running.calls (m.replies g) room) (e.runs tb g.args room) = calls_same room in
      record {
        run = run_same ((m.replies g).enter room (running.calls (m.replies g) room)) ((e.replies tb g.args).enter room (e.runs tb g.args room)) (running.calls (m.replies g) room) (e.runs tb g.args room)
            (λ b n fs xs. enters_same names tb g alike (running.calls (m.replies g) room) (e.runs tb g.args room) inner (record { block = b; outer = n; operands = fs; arguments = xs })) inner;
      }
