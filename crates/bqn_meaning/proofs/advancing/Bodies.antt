-- Statements, bodies, blocks and calls advance.
use Rattle.std.proofs.Common.{ℕ, zero, suc, ◌+◌, List, [], ◌∷◌, slice_get, Option, Some, None, Ok, Err}
use Rattle.bqn_base.specs.declared.fault.Fault.TheVariants.{TooDeep}
use Rattle.bqn_base.specs.declared.place.Place.{Place}
use Rattle.bqn_rows.specs.Raised.{unplaced, raised}
use Rattle.bqn_rows.specs.Plain as plain
use Rattle.bqn_rows.specs.Calls.{Arguments, Call, End, Enter, Turn, Write, Inside}
use Rattle.bqn_rows.specs.Running.{Gives, run, calls}
use Rattle.bqn_syntax.specs.grammar.Trees.{Stmts, no_stmts, and_stmts, Eval, Predicate, Export}
use Rattle.bqn_syntax.specs.blocks.Leads.{stmt_lead, at_start}
use Rattle.bqn_syntax.specs.declared.tree.Class.{Class}
use Rattle.bqn_syntax.specs.blocks.Counting.{in_expr}
use Rattle.bqn_meaning.specs.Actions.{at, ◌>>=◌, known, used, where_so}
use Rattle.bqn_syntax.specs.blocks.Blocks.{Block, Body}
use Rattle.bqn_meaning.specs.Environments.{Does, Calling, within_new}
use Rattle.bqn_meaning.specs.Frames.{Setting, Entry, Frame}
use Rattle.bqn_meaning.specs.Matching.{header_fits}
use Rattle.bqn_meaning.specs.Meaning.{truth, tested, Ending, NextBody, EndsWith, eval_expr, eval_stmts, eval_body, body_answer, is_for, frame_of, or_next, try_body, try_bodies, enter_block, replies}
use Rattle.bqn_meaning.proofs.advancing.Actions.{Advances, gives, then_advances, binds, fails, finds, places, where_advances, steps, writes, opens, chooses}
use Rattle.bqn_meaning.proofs.advancing.Stores.{header-fits}
use Rattle.bqn_meaning.proofs.advancing.Expressions.{expr}

module _ (h : Calling) (on : (t : Call) → Advances (h t)) (g : Setting) where
  stmts : (f : Frame) (ss : Stmts) (c : ℕ) (p : Place) (last : Option plain.Value) → Advances (eval_stmts h g f ss c p last)
  stmts f no_stmts c p last = gives (Ok (EndsWith p last))
  stmts f (and_stmts (Eval e) ss) c p last = binds (eval_expr h g f (stmt_lead (Eval e)) e c) (eval_stmts h g f ss (c + (in_expr e).blocks) (stmt_lead (Eval e))) (expr h on g f (stmt_lead (Eval e)) e c) (λ v. stmts f ss (c + (in_expr e).blocks) (stmt_lead (Eval e)) v)
  stmts f (and_stmts (Predicate e) ss) c p last = binds (eval_expr h g f (stmt_lead (Predicate e)) e c) (λ v. at (stmt_lead (Predicate e)) (tested v) >>= where_so NextBody (eval_stmts h g f ss (c + (in_expr e).blocks) (stmt_lead (Predicate e)) None)) (expr h on g f (stmt_lead (Predicate e)) e c) (λ v. binds (at (stmt_lead (Predicate e)) (tested v)) (where_so NextBody (eval_stmts h g f ss (c + (in_expr e).blocks) (stmt_lead (Predicate e)) None)) (places (stmt_lead (Predicate e)) (tested v) (binds (used v) (λ x. known (truth x)) (finds _ v) (λ x. gives (raised (truth x))))) (where_advances NextBody (eval_stmts h g f ss (c + (in_expr e).blocks) (stmt_lead (Predicate e)) None) (stmts f ss (c + (in_expr e).blocks) (stmt_lead (Predicate e)) None)))
  stmts f (and_stmts (Export q) ss) c p last = stmts f ss c (stmt_lead (Export q)) None

  pub body : (b : Body) (f : Frame) → Advances (eval_body h g b f)
  body b f = binds (header_fits g f b.header) (where_so NextBody (eval_stmts h g f b.statements b.inside at_start None)) (header-fits g f b.header) (where_advances NextBody (eval_stmts h g f b.statements b.inside at_start None) (stmts f b.statements b.inside at_start None))

  or-next : (next : Does plain.Value) → Advances next → (b : Body) (f : Frame) (r : Ending) → Advances (or_next next b f r)
  or-next next a b f NextBody = a
  or-next next a b f (EndsWith p v) = places p (used (body_answer b f v)) (finds _ (body_answer b f v))

  tries : (e : Entry) (class : Class) (bs : List Body) → Advances (try_bodies h g e class bs)
  tries e class [] = fails _
  tries e class (b ∷ bs) =
      chooses (try_body h g e class others b) others (steps (within_new b.own.number e.outer tried) (opens b.own.number e.outer tried (λ n. binds (eval_body h g b (frame n)) (or_next others b (frame n)) (body b (frame n)) (or-next others (tries e class bs) b (frame n))))) (tries e class bs) (is_for b.calls e.arguments)
    where
      others : Does plain.Value
      others = try_bodies h g e class bs

      frame : ℕ → Frame
      frame n = frame_of e class b n

      tried : ℕ → Does plain.Value
      tried n = eval_body h g b (frame n) >>= or_next others b (frame n)

  enters : (b : Option Block) (e : Entry) → Advances (enter_block h g b e)
  enters None e = fails _
  enters (Some b) e = tries e b.class b.bodies

module _ (g : Setting) (enter : (block environment : ℕ) → plain.Values → Arguments → Does plain.Value) (inner : Calling)
    (on_enter : (b e : ℕ) (fs : plain.Values) (xs : Arguments) → Advances (enter b e fs xs)) (on_inner : (t : Call) → Advances (inner t)) where
  runs : (t : Call) → Advances (run (replies g) enter inner t)
  runs (End r) = gives r
  runs (Enter b e fs xs go) = then_advances (λ r. run (replies g) enter inner (go r)) (λ r. runs (go r)) (enter b e fs xs) (on_enter b e fs xs)
  runs (Turn go) = then_advances (λ u. run (replies g) enter inner (go u)) (λ u. runs (go u)) (λ s. (replies g).turn s) (steps (λ s. Gives tt s) (gives tt))
  runs (Write text go) = then_advances (λ u. run (replies g) enter inner (go u)) (λ u. runs (go u)) (λ s. (replies g).write text s) (writes text)
  runs (Inside t go) = then_advances (λ r. run (replies g) enter inner (go r)) (λ r. runs (go r)) (inner t) (on_inner t)

pub calls-advance : (g : Setting) (room : ℕ) (t : Call) → Advances (calls (replies g) room t)
calls-advance g zero t = runs g (λ b e fs xs s. Gives (Err (unplaced TooDeep)) s) (λ t s. Gives (Err (unplaced TooDeep)) s) (λ b e fs xs. gives (Err (unplaced TooDeep))) (λ t. gives (Err (unplaced TooDeep))) t
calls-advance g (suc room) t = runs g ((replies g).enter room (calls (replies g) room)) (calls (replies g) room) (λ b e fs xs. enters (calls (replies g) room) (calls-advance g room) g (slice_get g.blocks b) (record { block = b; outer = e; operands = fs; arguments = xs })) (calls-advance g room) t
