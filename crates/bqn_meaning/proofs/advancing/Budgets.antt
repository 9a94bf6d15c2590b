-- Lines of a session and programs advance; with a larger budget a program goes on from where it was spent.
use Rattle.std.proofs.Common.{◌≡◌, ◌∙◌, ℕ, ◌+◌, Option, Result, Ok, Err, refl, ap}
use Rattle.bqn_base.specs.declared.fault.Fault.{Fault}
use Rattle.bqn_rows.specs.Plain.{Value}
use Rattle.bqn_rows.specs.Running.{Gives, Ends, open_calls, calls}
use Rattle.bqn_syntax.specs.grammar.Trees.{Stmts}
use Rattle.bqn_meaning.specs.Actions.{◌>>=◌}
use Rattle.bqn_syntax.specs.blocks.Blocks.{Body, Earlier, no_lines, line_body}
use Rattle.bqn_meaning.specs.Environments.{Ran, stepped}
use Rattle.bqn_meaning.specs.Frames.{Setting, args_value}
use Rattle.bqn_meaning.specs.Meaning.{Ending, NextBody, EndsWith, eval_body, body_answer, replies}
use Rattle.bqn_meaning.specs.Sessions.{begun, line_setting, line_frame, line_answer, line}
use Rattle.bqn_meaning.specs.Programs.{at_start, evaluated_of, with_args}
use Rattle.bqn_meaning.specs.Advancing.{Follows, state_of, RunsAdvance, GoesOnAs, LargerBudgetsGoOn}
use Rattle.bqn_meaning.proofs.advancing.Actions.{GoesOn, Advances, gives, binds, fails, steps}
use Rattle.bqn_meaning.proofs.advancing.Bodies.{body, calls-advance}

answers : (b : Body) (r : Ending) → Advances (line_answer b r)
answers b NextBody = fails _
answers b (EndsWith p v) = gives (Ok (body_answer b (line_frame b) v))

module _ (room : ℕ) (earlier : Earlier) (args : Value) (ss : Stmts) where
  abbrev setting : Setting
  setting = line_setting earlier args ss

  abbrev own : Body
  own = line_body earlier ss

  whole : Advances (stepped (eval_body (calls (replies setting) room) setting own (line_frame own) >>= line_answer own))
  whole = steps (eval_body (calls (replies setting) room) setting own (line_frame own) >>= line_answer own) (binds (eval_body (calls (replies setting) room) setting own (line_frame own)) (line_answer own) (body (calls (replies setting) room) (calls-advance setting room) setting own (line_frame own)) (answers own))

  pub line-advances : Advances (line room earlier args ss)
  line-advances = record {
    follows = λ s. let f : Follows (begun earlier s) (state_of (line room earlier args ss s)) = whole.follows (begun earlier s) in record { more = f.more; written = f.written; steps = f.steps };
    goes_on = λ k s. whole.goes_on k (begun earlier s);
  }

pub advance : RunsAdvance
advance room earlier args ss = (line-advances room earlier args ss).follows

written-of : (r : Ran (Option Value)) → (evaluated_of r).written ≡ (state_of r).written
written-of (Gives v s) = refl
written-of (Ends s) = refl

larger-budget : (k : ℕ) (r larger : Ran (Option Value)) → GoesOn k r larger → GoesOnAs (evaluated_of r) (evaluated_of larger)
larger-budget k (Gives (Ok v) s) larger e = ap evaluated_of e
larger-budget k (Gives (Err f) s) larger e = ap evaluated_of e
larger-budget k (Ends s) larger f = record { rest = f.more; is = written-of larger ∙ f.written }

module _ (ss : Stmts) (n k : ℕ) where
  by-args : (args : Result Value Fault) → GoesOnAs (with_args open_calls ss n args) (with_args open_calls ss (n + k) args)
  by-args (Ok args) = larger-budget k (line open_calls no_lines args ss (at_start n)) (line open_calls no_lines args ss (at_start (n + k))) ((line-advances open_calls no_lines args ss).goes_on k (at_start n))
  by-args (Err f) = refl

pub go-on : LargerBudgetsGoOn
go-on ss words n k = by-args ss n k (args_value words)
